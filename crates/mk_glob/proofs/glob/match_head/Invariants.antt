use Rattle.std.proofs.Common.{◌≡◌, ◌≤◌, length, IsTrue}
use Rattle.mk_glob.specs.Patterns.{matches, some_end}
use Rattle.mk_glob.proofs.glob.match_head.Given as goal

-- What is left matches exactly where the whole does, some end of it matches where some end of the
-- whole does, and it is no longer than the whole.
abbrev pub invariant-parts : goal.invariant-parts
invariant-parts l =
    let whole = l.initial.pattern.bytes.now in
    let rest = l.pattern.bytes.now in
    record {
      same : matches whole l.word ≡ matches rest l.left;
      later : IsTrue (some_end (matches whole) l.word) → IsTrue (some_end (matches rest) l.left);
      pattern_left : length rest ≤ length whole;
      word_left : length l.left ≤ length l.word;
    }

abbrev pub decreases-parts : goal.decreases-parts
decreases-parts l = length l.pattern.bytes.now
