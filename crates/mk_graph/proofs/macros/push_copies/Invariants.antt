use Rattle.std.proofs.Common.{◌≡◌, ◌++◌, drop}
use Rattle.mk_graph.proofs.macros.push_copies.Given as goal

-- the texts so far, and those that are left
abbrev pub invariant-loop-text : goal.invariant-loop-text
invariant-loop-text l = l.texts ++ drop l.text-index l.others ≡ l.initial.texts ++ l.others
