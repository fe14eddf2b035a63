-- The top call, by what the words ask for.
use Rattle.std.proofs.Common.{◌≡◌, ◌∙◌, ℕ, List, refl, ap, subst}
use Rattle.mk_modes.specs.Building.{Point, unbuilt}
use Rattle.mk_modes.specs.Modes.{Held}
use Rattle.mk_run.specs.Runs.{Closed}
use Rattle.mk_modes.specs.declared.building.Went.{Went}
use Rattle.mk_modes.specs.declared.report.End.{End}
use Rattle.mk_modes.specs.declared.report.Report.{Report}
use Rattle.mk_generate.specs.Generated as spec
use Rattle.mk_top.specs.Runs as runs

-- a run in a generated world that is closed
pub generated-run : (n : ℕ) (words : List (List ℕ)) (first last : Point) (err : Held) (end : End)
    (went : Went) (report : Report)
    → spec.Generates n (record { before = first.out; after = last.out }) end → went ≡ unbuilt end
    → Closed words went.end err report.end → report.plan ≡ went.plan → report.events ≡ went.events
    → last.history ≡ first.history → spec.IsGenerated n words first last err report
generated-run n words first last err end went report generates is closed plan events same = record {
  end = end;
  generates = generates;
  closed = subst (λ e. Closed words e err report.end) (ap (λ (w : Went). w.end) is) closed;
  plan = plan ∙ ap (λ (w : Went). w.plan) is;
  events = events ∙ ap (λ (w : Went). w.events) is;
  same = same;
}

pub refused-run : (words : List (List ℕ)) (at : Point) (err : Held) (end : End) (went : Went)
    (report : Report) → went ≡ unbuilt end
    → Closed words went.end err report.end → report.plan ≡ went.plan → report.events ≡ went.events
    → runs.IsRefused end words at at err report
refused-run words at err end went report is closed plan events = record {
  closed = subst (λ e. Closed words e err report.end) (ap (λ (w : Went). w.end) is) closed;
  plan = plan ∙ ap (λ (w : Went). w.plan) is;
  events = events ∙ ap (λ (w : Went). w.events) is;
  same = refl;
}
