use Rattle.mk_suffix.specs.Table.{AreBefore}
use Rattle.mk_suffix.proofs.table.SuffixRules.new.Given as goal

-- the rows of the rules so far
abbrev pub invariant-loop-n : goal.invariant-loop-n
invariant-loop-n l = AreBefore l.graph l.suffixes l.n l.rows.entries
