use Rattle.std.proofs.Common.{drop}
use Rattle.mk_graph.specs.Numbers.{EachBelow}
use Rattle.mk_calls.proofs.walks.each_below.Given as goal

-- where the lists that are left are below the bound, all of them are
abbrev pub invariant-loop-nodes : goal.invariant-loop-nodes
invariant-loop-nodes l = EachBelow l.bound (drop l.nodes-index l.preds) → EachBelow l.bound l.preds
