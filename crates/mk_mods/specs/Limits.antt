-- The limit of the printed text.
use Rattle.std.specs.Prelude.{Bool, nat_le, length, Option, Result, Ok, Err, ok_or}
use Rattle.std.specs.Prelude.{if◌then◌else◌}
use Rattle.mk_bytes.specs.Agrees.{◌>>=◌}
use Rattle.mk_pieces.specs.Limits.{max_text}
use Rattle.mk_pieces.specs.declared.fault.ModFault.{ModFault}
use Rattle.mk_pieces.specs.declared.fault.ModFault.TheVariants.{TooLong, BadPlace}
use Rattle.mk_mods.specs.State.{State, text_of}

-- whether the printed text is short enough
abbrev pub fits : State → Bool
fits state = nat_le (length (text_of state)) max_text

abbrev pub within_limit : State → Result State ModFault
within_limit state = if fits state then Ok state else Err TooLong

-- what is there, or the fault that there is no such place
abbrev pub or_bad_place : {A : Type 0} → Option A → Result A ModFault
or_bad_place found = ok_or found BadPlace

abbrev pub limited : Option State → Result State ModFault
limited found = or_bad_place found >>= within_limit
