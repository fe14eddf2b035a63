-- Rows of numbers, computed from the definitions.
use Rattle.std.proofs.Common.{◌≡◌, pos, negsuc, Some, None, refl}
use Rattle.std.specs.Prelude.{codes}
use Rattle.mk_bytes.specs.Numbers.{number}

-- a sign and a fraction
pub fraction_row : number (codes "-1.50") ≡ Some (negsuc 1499999999999999999)
fraction_row = refl

pub hexadecimal_row : number (codes "0x10") ≡ Some (pos 16000000000000000000)
hexadecimal_row = refl

-- the sign belongs to both forms
pub hexadecimal_sign_row : number (codes "-0x10") ≡ Some (negsuc 15999999999999999999)
hexadecimal_sign_row = refl

-- no exponent
pub exponent_row : number (codes "1e3") ≡ None
exponent_row = refl

-- more than 18 digits stand only behind a point
pub too_long_row : number (codes "1234567890123456789") ≡ None
too_long_row = refl

pub bare_point_row : number (codes "1.") ≡ Some (pos 1000000000000000000)
bare_point_row = refl

pub no_whole_row : number (codes ".5") ≡ None
no_whole_row = refl

-- `0X` is no prefix
pub upper_prefix_row : number (codes "0X10") ≡ None
upper_prefix_row = refl
