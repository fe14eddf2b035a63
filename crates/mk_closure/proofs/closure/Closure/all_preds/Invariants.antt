use Rattle.std.proofs.Common.{◌≡◌, ◌-◌, ◌++◌, length, map}
use Rattle.mk_closure.specs.Members as spec
use Rattle.mk_closure.proofs.closure.Closure.all_preds.Given as goal

-- the predecessors of the nodes so far, and those of the others
abbrev pub invariant-loop-n : goal.invariant-loop-n
invariant-loop-n l =
    spec.all_preds l.self
    ≡ l.preds ++ map (spec.preds_in l.self) (spec.numbers_from l.n (length l.self.parts - l.n))
