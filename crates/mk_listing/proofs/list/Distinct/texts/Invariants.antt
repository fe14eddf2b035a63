use Rattle.std.proofs.Common.{◌≡◌, ◌++◌}
use Rattle.mk_listing.specs.Lists.{texts_of}
use Rattle.mk_listing.proofs.list.Distinct.texts.Given as goal

-- the texts so far, and those that are left
abbrev pub invariant-loop-text : goal.invariant-loop-text
invariant-loop-text l =
    l.texts ++ texts_of l.text-iterator ≡ texts_of l.initial.text-iterator
