-- Refusals of a closure.
use Rattle.std.specs.Prelude.{◌≡◌, ◌⊎◌, Result, Err}
use Rattle.mk_closure.specs.declared.fault.CloseFault.{CloseFault}
use Rattle.mk_closure.specs.declared.fault.CloseFault.TheVariants.{NoRule, Full, Failed, NoMemory}
use Rattle.mk_suffix.specs.declared.fault.SuffixFault.{SuffixFault}
use Rattle.mk_suffix.specs.declared.fault.SuffixFault.TheVariants as suffix

abbrev pub of_suffix : SuffixFault → CloseFault
of_suffix suffix.Failed = Failed
of_suffix suffix.NoMemory = NoMemory

-- a refusal that no makefile and no file causes
abbrev pub IsOutside : CloseFault → Type 0
IsOutside fault = (fault ≡ Failed) ⊎ (fault ≡ NoMemory)

-- a refusal is the defined one, or one of the outside in its place
abbrev pub IsRefusedBy : {A : Type 0} → CloseFault → Result A CloseFault → Type 0
IsRefusedBy fault defined = IsOutside fault ⊎ (defined ≡ Err fault)

-- a refusal that is not of the world
abbrev pub IsOwn : CloseFault → Type 0
IsOwn (NoRule name) = Unit {0}
IsOwn Full = Unit {0}
IsOwn Failed = ⊥
IsOwn NoMemory = Unit {0}
