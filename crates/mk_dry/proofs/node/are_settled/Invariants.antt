use Rattle.std.proofs.Common.{◌≡◌, drop}
use Rattle.mk_plan.specs.Deciding.{all_settled}
use Rattle.mk_dry.proofs.node.are_settled.Given as goal

-- those so far are settled, so the rest decides
abbrev pub invariant-loop-one : goal.invariant-loop-one
invariant-loop-one l = all_settled l.nodes (drop l.one-index l.before) ≡ all_settled l.nodes l.before
