-- Dependency lines in the code.
use denote.Ref.{Bor}
use Rattle.std.specs.Prelude.{◌≡◌, ◌⊎◌, ℕ, List, Option, Result, Err}
use Rattle.std.specs.Option.{option_copied}
use Rattle.mk_makefile.specs.Dependencies.{Parted}
use Rattle.mk_makefile.specs.declared.fault.Refusal.{Refusal}
use Rattle.mk_makefile.specs.declared.fault.Refusal.TheVariants.{NoMemory, Wrong}
use Rattle.mk_makefile.specs.declared.fault.What.{What}

abbrev pub parts_seen : Bor (List ℕ) × Option (Bor (List ℕ)) → Parted
parts_seen parts = (parts.0.now, option_copied parts.1)

-- a refusal is want of memory, or the defined one
abbrev pub IsRefusedLine : {A : Type 0} → Result A What → Refusal → Type 0
IsRefusedLine defined fault =
    (fault ≡ NoMemory) ⊎ ((what : What) × (defined ≡ Err what) × (fault ≡ Wrong what))
