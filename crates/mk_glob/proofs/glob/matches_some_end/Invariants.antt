use Rattle.std.proofs.Common.{◌≡◌, ◌+◌, length}
use Rattle.mk_glob.specs.Patterns.{matches, some_end}
use Rattle.mk_glob.proofs.glob.matches_some_end.Given as goal

-- no end so far matches, so those of what is left decide
abbrev pub invariant-ends : goal.invariant-ends
invariant-ends l =
    some_end (matches l.pattern.bytes.now) l.end
    ≡ some_end (matches l.initial.pattern.bytes.now) l.word

abbrev pub decreases-ends : goal.decreases-ends
decreases-ends l = length l.pattern.bytes.now + length l.end
