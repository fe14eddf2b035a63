use Rattle.std.proofs.Common.{◌≡◌, ◌++◌, drop, map}
use Rattle.mk_listing.specs.Commands as spec
use Rattle.mk_listing.proofs.command.push_each.Given as goal

-- the objects so far, and those of the files that are left
abbrev pub invariant-loop-file : goal.invariant-loop-file
invariant-loop-file l =
    l.objects ++ map (spec.object l.meta l.command) (drop l.file-index l.files)
    ≡ l.initial.objects ++ map (spec.object l.meta l.command) l.files
