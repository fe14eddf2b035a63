-- The exit status of a child.
use Rattle.std.specs.Prelude.{ℕ, ℤ, Option, Some, None, pos, negsuc, nat_lt, if◌then◌else◌}

-- The status of an exit, from 0 to 255; that of a child which a signal ended is 255.
abbrev pub status_of : Option ℤ → ℕ
status_of (Some (pos code)) = if nat_lt code 256 then code else 255
status_of (Some (negsuc code)) = 255
status_of None = 255
