use Rattle.std.proofs.Common.{◌≡◌, drop, map, filter}
use Rattle.mk_listing.specs.Lists.{all_put_in}
use Rattle.mk_listing.specs.Looks as spec
use Rattle.mk_listing.proofs.look.add_readers.Given as goal

-- the targets so far, and those of the jobs that are left
abbrev pub invariant-loop-meta : goal.invariant-loop-meta
invariant-loop-meta l =
    all_put_in l.targets
    (map (λ meta. meta.target) (filter (spec.has_sought l.path) (drop l.meta-index l.metas)))
    ≡ all_put_in l.initial.targets
    (map (λ meta. meta.target) (filter (spec.has_sought l.path) l.metas))
