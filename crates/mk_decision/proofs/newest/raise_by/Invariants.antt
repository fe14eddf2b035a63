use Rattle.std.proofs.Common.{◌≡◌, drop, map}
use Rattle.mk_decision.specs.Newest.{raised_all}
use Rattle.mk_decision.specs.declared.sight.Sighting.{Sighting}
use Rattle.mk_decision.proofs.newest.raise_by.Given as goal

-- the newest so far, and of those that are left
abbrev pub invariant-loop-one : goal.invariant-loop-one
invariant-loop-one l =
    raised_all l.newest.0 (map (λ (one : Sighting). one.when) (drop l.one-index l.one-items))
    ≡ raised_all l.initial.newest.0 (map (λ (one : Sighting). one.when) l.one-items)
