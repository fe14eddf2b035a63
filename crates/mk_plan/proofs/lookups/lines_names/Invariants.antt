use Rattle.std.proofs.Common.{◌≡◌, ◌+◌, [], drop, Ok}
use Rattle.mk_values.specs.Calls.{Asks}
use Rattle.mk_values.specs.Facts.{Answers, AnsweredBy}
use Rattle.mk_plan.specs.Newer.{lines_named}
use Rattle.mk_plan.specs.Tasks.{questions_from, setting_of}
use Rattle.mk_plan.specs.declared.tasks.Manner.{Manner}
use Rattle.mk_plan.proofs.lookups.lines_names.Given as goal

-- the names so far, and behind them those of the other commands
abbrev pub invariant-loop-place : goal.invariant-loop-place
invariant-loop-place g l = record {
  same : (answers : Answers) → AnsweredBy answers (g.F.Facts.asked l.facts)
      → lines_named (setting_of l.scopes (g.F.Facts.lists l.initial.facts) answers) l.locals [] 1
      (g.F.Facts.asked l.initial.facts) l.commands
      ≡ lines_named (setting_of l.scopes (g.F.Facts.lists l.initial.facts) answers) l.locals
      l.names (l.place + 1) (g.F.Facts.asked l.facts) (drop l.place l.commands);
  questions : (manner : Manner) (answers : Answers) → AnsweredBy answers (g.F.Facts.asked l.facts)
      → questions_from (setting_of l.scopes (g.F.Facts.lists l.initial.facts) answers) l.locals
      manner (g.F.Facts.asked l.initial.facts) l.commands
      ≡ questions_from (setting_of l.scopes (g.F.Facts.lists l.initial.facts) answers) l.locals
      manner (g.F.Facts.asked l.facts) (drop l.place l.commands);
  facts : Asks {A = Unit {0}} (g.F.Facts.leads l.initial.facts l.facts)
      (g.F.Facts.lists l.initial.facts) (g.F.Facts.lists l.facts)
      (g.F.Facts.asked l.initial.facts) (g.F.Facts.asked l.facts)
      (g.F.Facts.faults l.initial.facts) (g.F.Facts.faults l.facts) (Ok tt);
  items : l.raw-items ≡ l.commands;
}
