-- Rows of patterns, computed from the definitions.
use Rattle.std.proofs.Common.{◌≡◌, true, false, refl}
use Rattle.std.specs.Prelude.{codes}
use Rattle.mk_glob.specs.Patterns.{parts_of, matches}

-- a range, a `*` and a tail
pub range_row : matches (codes "[a-c]*.h") (codes "b1.h") ≡ true
unfolding parts_of
range_row = refl

-- a byte outside a set
pub outside_row : matches (codes "[^a-c]x") (codes "ax") ≡ false
unfolding parts_of
outside_row = refl

-- a range from a byte to a lower one holds nothing
pub backward_range_row : matches (codes "[b-a]") (codes "a") ≡ false
unfolding parts_of
backward_range_row = refl

-- a backslash in a set is a member
pub backslash_in_set_row : matches (codes "[\\]") (codes "\\") ≡ true
unfolding parts_of
backslash_in_set_row = refl

-- a `]` directly behind `[` is a member, so nothing closes this `[`
pub unclosed_row : matches (codes "[]") (codes "[]") ≡ true
unfolding parts_of
unclosed_row = refl

-- a range from the `]` that is a member
pub range_from_close_row : matches (codes "[]-a]") (codes "^") ≡ true
unfolding parts_of
range_from_close_row = refl
