use Rattle.std.proofs.Common.{◌≡◌, ℕ, List, Option, drop}
use Rattle.mk_values.specs.Facts.{Answers, AnsweredBy}
use Rattle.mk_plan.specs.Tasks.{setting_of}
use Rattle.mk_modes.specs.Meaning.{printed}
use Rattle.mk_modes.specs.Modes.{Printed, Questions}
use Rattle.mk_modes.specs.declared.report.End.{End}
use Rattle.mk_modes.proofs.PrintLemmas.{held}
use Rattle.mk_modes.proofs.print.print_all.Given as goal

-- whatever comes of the prints that are left comes of all of them, and no write has failed
abbrev pub invariant-loop-i : goal.invariant-loop-i
invariant-loop-i g l = record {
  ends : (answers : Answers) → AnsweredBy answers (g.F.Facts.asked l.facts)
      → (after : Option (List ℕ)) (end : End)
      → Printed (printed (setting_of l.scopes (g.F.Facts.lists l.initial.facts) answers)
      (g.F.Facts.asked l.facts) l.i (drop l.i l.prints)) (held (g.S.Sink.held l.out) after) end
      → Printed (printed (setting_of l.scopes (g.F.Facts.lists l.initial.facts) answers)
      (g.F.Facts.asked l.initial.facts) 0 l.prints) (held (g.S.Sink.held l.initial.out) after) end;
  facts : Questions (g.F.Facts.leads l.initial.facts l.facts) (g.F.Facts.lists l.initial.facts)
      (g.F.Facts.lists l.facts) (g.F.Facts.asked l.initial.facts) (g.F.Facts.asked l.facts);
  faults : g.S.Sink.faults l.out ≡ g.S.Sink.faults l.initial.out;
  failures : g.F.Facts.faults l.facts ≡ g.F.Facts.faults l.initial.facts;
}
