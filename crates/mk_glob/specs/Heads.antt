-- What the head of a pattern, up to its next `*`, tells of a match.
use Rattle.std.specs.Prelude.{◌≡◌, ◌<◌, ◌≤◌, ℕ, List, length}
use Rattle.mk_glob.specs.Patterns.{matches, some_end}
use Rattle.mk_glob.specs.declared.glob.Head.{Head}
use Rattle.mk_glob.specs.declared.glob.Head.TheVariants.{Settled, AtStar}

-- Without a `*` the answer. At a `*` the pattern matches the word where what is behind the `*`
-- matches some end of what is left, and so it is with some end of the word: an earlier `*` need
-- take no more.
abbrev pub TellsOf : List ℕ → List ℕ → Head → Type 0
TellsOf pattern word (Settled answer) = matches pattern word ≡ answer
TellsOf pattern word (AtStar after left) =
    let later = some_end (matches after.bytes.now) left.now in
    (matches pattern word ≡ later) × (some_end (matches pattern) word ≡ later)

-- less is left behind a `*` than before
abbrev pub IsShorter : List ℕ → List ℕ → Head → Type 0
IsShorter pattern word (Settled answer) = Unit {0}
IsShorter pattern word (AtStar after left) =
    (length after.bytes.now < length pattern) × (length left.now ≤ length word)
