use Rattle.std.proofs.Common.{◌≡◌, ◌++◌, length}
use Rattle.mk_listing.specs.Commands as spec
use Rattle.mk_listing.proofs.command.push_sources.Given as goal

-- the files so far, and those of the words that are left
abbrev pub invariant-words : goal.invariant-words
invariant-words l =
    l.files ++ spec.sources l.before l.rest ≡ l.initial.files ++ spec.sources l.first l.words

abbrev pub decreases-words : goal.decreases-words
decreases-words l = length l.rest
