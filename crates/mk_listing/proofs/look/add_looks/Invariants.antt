use Rattle.std.proofs.Common.{◌≡◌, drop, flat_map}
use Rattle.mk_listing.specs.Lists.{all_noted}
use Rattle.mk_listing.specs.Looks as spec
use Rattle.mk_listing.proofs.look.add_looks.Given as goal

-- what was told so far, and what the records that are left tell
abbrev pub invariant-loop-one : goal.invariant-loop-one
invariant-loop-one l =
    all_noted l.looks (flat_map (λ one. spec.looks_in one.op) (drop l.one-index l.records))
    ≡ all_noted l.initial.looks (flat_map (λ one. spec.looks_in one.op) l.records)
