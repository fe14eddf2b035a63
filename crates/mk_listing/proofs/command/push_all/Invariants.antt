use Rattle.std.proofs.Common.{◌≡◌, ◌++◌, drop, flat_map}
use Rattle.mk_listing.specs.Commands as spec
use Rattle.mk_listing.proofs.command.push_all.Given as goal

-- the objects so far, and those of the jobs that are left
abbrev pub invariant-loop-meta : goal.invariant-loop-meta
invariant-loop-meta l =
    l.objects ++ flat_map spec.objects_of (drop l.meta-index l.metas)
    ≡ l.initial.objects ++ flat_map spec.objects_of l.metas
