use Rattle.std.proofs.Common.{◌≡◌, ◌++◌, take}
use Rattle.mk_makefile.specs.Dependencies.{cleaned}
use Rattle.mk_makefile.specs.Inclusions.{in_all}
use Rattle.mk_makefile.proofs.inclusion.push_places.Given as goal

-- the places in the directories so far
abbrev pub invariant-loop-directory : goal.invariant-loop-directory
invariant-loop-directory l =
    l.places ≡ l.fn.places ++ cleaned l.cwd (in_all (take l.directory-index l.directories) l.name)
