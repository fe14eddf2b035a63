-- The limit of the printed text, and what is put behind other bytes up to it.
use Rattle.std.specs.Prelude.{◌≡◌, ◌⊎◌, ℕ, ◌+◌, ◌<◌, Bool, true, false, nat_le, List, [], ◌∷◌, ◌++◌}
use Rattle.std.specs.Prelude.{length}
use Rattle.std.specs.Prelude.{Option, Some, None, Result, Ok, Err, if◌then◌else◌}
use Rattle.mk_bytes.specs.Agrees.{◌>>=◌}
use Rattle.mk_pieces.specs.declared.fault.ModFault.{ModFault}
use Rattle.mk_pieces.specs.declared.fault.ModFault.TheVariants.{TooLong, NoMemory}

-- how many bytes a printed text has at most
abbrev pub max_text : ℕ
max_text = 4194304

-- bytes behind others, where a printed text may have as many
abbrev pub pushed : List ℕ → List ℕ → Result (List ℕ) ModFault
pushed bytes more =
    if nat_le (length bytes + length more) max_text then Ok (bytes ++ more) else Err TooLong

-- whether there is anything to put behind other bytes, and the bytes then
abbrev pub pushed_if : List ℕ → Option (List ℕ) → Result (Bool × List ℕ) ModFault
pushed_if bytes None = Ok (false, bytes)
pushed_if bytes (Some more) = pushed bytes more >>= λ all. Ok (true, all)

-- how many bytes texts have
abbrev pub total : List (List ℕ) → ℕ
total [] = 0
total (text ∷ texts) = length text + total texts

-- the faults that may come before all words are known
abbrev pub IsEarly : ModFault → Type 0
IsEarly fault = (fault ≡ NoMemory) ⊎ (fault ≡ TooLong)

-- words that are too long for a printed text
abbrev pub AreTooLong : List (List ℕ) → Type 0
AreTooLong words = max_text < total words
