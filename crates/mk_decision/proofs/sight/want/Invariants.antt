use Rattle.std.proofs.Common.{◌≡◌, ℕ, ◌||◌, ◌&&◌, nat_lt, drop}
use Rattle.mk_decision.specs.Wants.{has}
use Rattle.mk_decision.specs.Ages.{is_one_of}
use Rattle.mk_decision.proofs.sight.want.Given as goal

-- with the nodes that are left these are all
abbrev pub invariant-loop-source : goal.invariant-loop-source
invariant-loop-source l = (one : ℕ)
    → (has l.wanted one
    || (is_one_of (drop l.source-index l.sources) one && nat_lt one l.place))
    ≡ (has l.fn.wanted one || (is_one_of l.sources one && nat_lt one l.place))
