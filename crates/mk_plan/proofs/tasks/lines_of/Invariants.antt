use Rattle.std.proofs.Common.{◌≡◌, ◌+◌, [], drop, Ok}
use Rattle.mk_values.specs.Calls.{Asks}
use Rattle.mk_values.specs.Facts.{Answers, AnsweredBy}
use Rattle.mk_plan.specs.Tasks as spec
use Rattle.mk_plan.specs.Tasks.{setting_of}
use Rattle.mk_plan.proofs.tasks.lines_of.Given as goal

-- the lines so far, and those that the other commands give
abbrev pub invariant-loop-place : goal.invariant-loop-place
invariant-loop-place g l = record {
  same : (answers : Answers) → AnsweredBy answers (g.F.Facts.asked l.facts)
      → spec.lines_from (setting_of l.scopes (g.F.Facts.lists l.initial.facts) answers) l.locals l.manner
      [] 1 (g.F.Facts.asked l.initial.facts) l.commands
      ≡ spec.lines_from (setting_of l.scopes (g.F.Facts.lists l.initial.facts) answers) l.locals l.manner
      l.lines (l.place + 1) (g.F.Facts.asked l.facts) (drop l.place l.commands);
  questions : (answers : Answers) → AnsweredBy answers (g.F.Facts.asked l.facts)
      → spec.questions_from (setting_of l.scopes (g.F.Facts.lists l.initial.facts) answers) l.locals
      l.manner (g.F.Facts.asked l.initial.facts) l.commands
      ≡ spec.questions_from (setting_of l.scopes (g.F.Facts.lists l.initial.facts) answers) l.locals
      l.manner (g.F.Facts.asked l.facts) (drop l.place l.commands);
  facts : Asks {A = Unit {0}} (g.F.Facts.leads l.initial.facts l.facts)
      (g.F.Facts.lists l.initial.facts) (g.F.Facts.lists l.facts)
      (g.F.Facts.asked l.initial.facts) (g.F.Facts.asked l.facts)
      (g.F.Facts.faults l.initial.facts) (g.F.Facts.faults l.facts) (Ok tt);
  items : l.raw-items ≡ l.commands;
}
