-- The limits of an evaluation.
use Rattle.std.specs.Prelude.{◌≡◌, ◌⊎◌, ℕ, ◌+◌, ◌<◌, ◌≤◌, nat_lt, List, ◌++◌, length, Result, Ok}
use Rattle.std.specs.Prelude.{Err, if◌then◌else◌}
use Rattle.mk_values.specs.declared.fault.ExpandFault.{ExpandFault}
use Rattle.mk_values.specs.declared.fault.ExpandFault.TheVariants.{TooDeep, TooManyReferences}
use Rattle.mk_values.specs.declared.fault.ExpandFault.TheVariants.{TooLong}

-- references that may be open at once, through trees and values alike
abbrev pub max_open : ℕ
max_open = 256

-- references that may be evaluated in one call
abbrev pub max_references : ℕ
max_references = 1048576

-- bytes of each text that is put together, which are values and names
abbrev pub max_text : ℕ
max_text = 4194304

-- a value behind the text so far
abbrev pub appended : List ℕ → List ℕ → Result (List ℕ) ExpandFault
appended text value =
    if nat_lt max_text (length text + length value) then Err TooLong else Ok (text ++ value)

-- a reference may be opened, and the fault where it may not: too deep before too many
abbrev pub MayOpen : ℕ → ℕ → Type 0
MayOpen room count = (0 < room) × (count < max_references)

abbrev pub MayNotOpen : ℕ → ℕ → ExpandFault → Type 0
MayNotOpen room count fault =
    ((room ≡ 0) × (fault ≡ TooDeep))
    ⊎ ((0 < room) × (max_references ≤ count) × (fault ≡ TooManyReferences))
