use Rattle.std.proofs.Common.{◌≡◌, length}
use Rattle.mk_depline.specs.Braces.{added, all_spelled_out}
use Rattle.mk_bytes.specs.Words.{words_of}
use Rattle.mk_depline.proofs.brace.spelled_words.Given as goal

-- the names so far, and those of the words that are left
abbrev pub invariant-pieces : goal.invariant-pieces
invariant-pieces l =
    added l.names (all_spelled_out (words_of l.rest)) ≡ all_spelled_out (words_of l.text)

abbrev pub decreases-pieces : goal.decreases-pieces
decreases-pieces l = length l.rest
