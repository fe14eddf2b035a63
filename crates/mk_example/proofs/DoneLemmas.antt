-- A run that ends with all made, and was not asked for anything else, has built.
use Rattle.std.proofs.Common.{◌≡◌, ◌∙◌, List, [], ℕ, Option, Some, None, Result, Ok, Err}
use Rattle.std.proofs.Common.{inl, inr, refl, sym, ap}
use Rattle.mk_cli.specs.declared.order.Order.{Order}
use Rattle.mk_graph.specs.declared.Made.{Made}
use Rattle.mk_makefile.specs.declared.fault.ReadFault.TheVariants as read
use Rattle.mk_makefile.specs.declared.fault.ReadFault.{ReadFault}
use Rattle.mk_modes.specs.Building.{Point, point, unbuilt}
use Rattle.mk_modes.specs.Ends.{IsOutside, of_plan, of_read}
use Rattle.mk_modes.specs.Meaning.{Meant, Outcome, builds, by_reading, ended, only}
use Rattle.mk_modes.specs.Modes.{Goes, Held, Printed, Stands}
use Rattle.mk_modes.specs.declared.building.Went.{Went}
use Rattle.mk_modes.specs.declared.report.End.TheVariants.{Done, SinkFault}
use Rattle.mk_modes.specs.declared.report.End.{End}
use Rattle.mk_modes.specs.declared.report.Report.{Report}
use Rattle.mk_plan.specs.declared.fault.PlanFault.TheVariants as plan
use Rattle.mk_plan.specs.declared.fault.PlanFault.{PlanFault}
use Rattle.mk_run.proofs.CleanRunLemmas.{done-before}
use Rattle.mk_run.specs.TrueRuns.{IsTrueOrderRun, build_of, built_in}
use Rattle.mk_scopes.specs.declared.scopes.Env.{Env}
use Rattle.mk_sound.specs.Files.{HasBuilt}
use Rattle.mk_world.specs.Talks.{Meaning}

pub same-ok : {A E : Type 0} (one other : A) → ◌≡◌ {A = Result A E} (Ok one) (Ok other) → one ≡ other
same-ok one other is = cc

not-done : (end : End) → end ≡ Done → IsOutside end → ⊥
not-done end done (inl failed) = cc
not-done end done (inr want) = cc

read-fault : (fault : ReadFault) → of_read fault ≡ Done → ⊥
read-fault (read.NoFile file) is = cc
read-fault (read.Bad file line what) is = cc
read-fault (read.Limit kind most) is = cc
read-fault read.World is = cc
read-fault read.Sink is = cc
read-fault read.NoMemory is = cc

pub plan-fault : (fault : PlanFault) → of_plan fault ≡ Done → ⊥
plan-fault plan.NoTarget is = cc
plan-fault (plan.NoRule name) is = cc
plan-fault (plan.Cycle names) is = cc
plan-fault (plan.Limit kind most) is = cc
plan-fault plan.Failed is = cc
plan-fault plan.NoMemory is = cc

-- a run whose makefiles could not be read does not end with all made
pub unread : (fault : ReadFault) (out : Held) (end : End) → end ≡ Done → Printed (ended (of_read fault)) out end → ⊥
unread fault out end done (inl whole) = by whole.stands
  where
    by : Stands whole.stood (ended (of_read fault)) → ⊥
    by (inl same) =
        read-fault fault (sym (whole.is ∙ ap (λ (one : Outcome). one.end) same) ∙ done)
    by (inr stopped) = not-done whole.stood.end (sym whole.is ∙ done) stopped.outside
unread fault out end done (inr cut) = sink-fault end done cut.is
  where
    sink-fault : (end : End) → end ≡ Done → end ≡ SinkFault → ⊥
    sink-fault end done cut = cc

pub unbuilt-end : (went : Went) (end : End) → went ≡ unbuilt end → went.end ≡ end
unbuilt-end went end is = ap (λ (one : Went). one.end) is

pub done-built : (meaning : Meaning) (words : List (List ℕ)) (env : Env) (order : Order) (first last : Point) (err : Held)
    (report : Report) (run : IsTrueOrderRun meaning words env order first last err report)
    → ((made : Made) → by_reading env order (Ok made) ≡ builds made order.flags) → report.end ≡ Done
    → HasBuilt (build_of run.run)
done-built meaning words env order first last err report run builds_it done =
    from run.run.followed.read run.run.followed.goes
  where
    went_done : run.run.went.end ≡ Done
    went_done = done-before words run.run.went.end report.end _ run.run.closed done

    built : (made : Made) (meant : Meant) → meant ≡ builds made order.flags
        → (goes : Goes meaning meant (point run.run.followed.read_at first.out) last run.run.went)
        → HasBuilt (built_in meaning meant (point run.run.followed.read_at first.out) last run.run.went goes)
    built made (builds given flags) is (inl unplanned) =
        absurd (plan-fault unplanned.fault
        (sym (unbuilt-end run.run.went (of_plan unplanned.fault) unplanned.is) ∙ went_done))
    built made (builds given flags) is (inr it) = tt
    built made meant is goes = absurd cc

    from : (read : Result Made ReadFault)
        → (goes : Goes meaning (by_reading env order read) (point run.run.followed.read_at first.out) last run.run.went)
        → HasBuilt (built_in meaning (by_reading env order read) (point run.run.followed.read_at first.out) last
        run.run.went goes)
    from (Err fault) goes = absurd (unread fault _ run.run.went.end went_done goes.printed)
    from (Ok made) goes = built made (by_reading env order (Ok made)) (builds_it made) goes
