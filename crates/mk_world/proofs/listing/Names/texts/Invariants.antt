use Rattle.std.proofs.Common.{◌≡◌, ◌++◌}
use Rattle.mk_world.specs.Listings.{texts_of}
use Rattle.mk_world.proofs.listing.Names.texts.Given as goal

-- the names so far, and those that are left
abbrev pub invariant-loop-name : goal.invariant-loop-name
invariant-loop-name l =
    l.texts ++ texts_of l.name-iterator ≡ texts_of l.initial.name-iterator
