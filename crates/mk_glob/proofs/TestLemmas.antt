-- What follows from a test, and when two tests are equal.
use Rattle.std.proofs.Common.{◌≡◌, Bool, true, false, ◌&&◌, ◌||◌, refl}

pub test_cases : {P : Type 0} (test : Bool) → (test ≡ true → P) → (test ≡ false → P) → P
test_cases true here there = here refl
test_cases false here there = there refl

pub or_left : (a b : Bool) → a ≡ true → (a || b) ≡ true
or_left true b is = refl
or_left false b is = cc

pub or_right : (a b : Bool) → b ≡ true → (a || b) ≡ true
or_right true b is = refl
or_right false b is = is

pub or_cases : {P : Type 0} (a b : Bool) → (a || b) ≡ true → (a ≡ true → P) → (b ≡ true → P) → P
or_cases true b is left right = left refl
or_cases false b is left right = right is

pub and_right : (a b : Bool) → (a && b) ≡ true → b ≡ true
and_right true b is = is
and_right false b is = cc

pub equal_tests : (a b : Bool) → (a ≡ true → b ≡ true) → (b ≡ true → a ≡ true) → a ≡ b
equal_tests true true there back = refl
equal_tests true false there back = cc (there refl)
equal_tests false true there back = cc (back refl)
equal_tests false false there back = refl
