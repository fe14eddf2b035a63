use Rattle.std.proofs.Common.{◌≡◌, drop, flat_map}
use Rattle.mk_listing.specs.Lists.{all_noted}
use Rattle.mk_listing.specs.Looks.{looks_for}
use Rattle.mk_listing.proofs.look.add_all_looks.Given as goal

-- what was told so far, and what the jobs that are left tell
abbrev pub invariant-loop-meta : goal.invariant-loop-meta
invariant-loop-meta l =
    all_noted l.looks (flat_map (looks_for l.target) (drop l.meta-index l.metas))
    ≡ all_noted l.initial.looks (flat_map (looks_for l.target) l.metas)
