-- Steps that ask no fact never fail because of one.
use Rattle.std.proofs.Common.{◌≡◌, ℕ, Bool, true, false, nat_lt, inl, inr, List, ◌++◌, length, ◌+◌, Result}
use Rattle.std.proofs.Common.{Option, Some, None, Ok, Err, if◌then◌else◌, refl}
use Rattle.mk_bytes.specs.Agrees.{◌>>=◌, AgreesErr}
use Rattle.mk_bytes.specs.declared.pair.Pair.{Pair}
use Rattle.mk_values.specs.Locals.{local_raw, local_value, part_form, raw_named}
use Rattle.mk_values.specs.Names.{last_value, raw_above}
use Rattle.mk_values.specs.declared.local.Local.{Local}
use Rattle.mk_values.specs.declared.local.Locals.{Locals}
use Rattle.mk_mods.specs.Modifiers.{apply}
use Rattle.mk_mods.specs.State.{State, plain, text_of}
use Rattle.mk_mods.specs.declared.modifier.Mod.{Mod}
use Rattle.mk_cond.specs.declared.fault.CondFault.{CondFault}
use Rattle.mk_cond.specs.declared.fault.CondFault.TheVariants as of_conds
use Rattle.mk_pieces.specs.declared.fault.ModFault.{ModFault}
use Rattle.mk_pieces.specs.declared.fault.ModFault.TheVariants as of_mods
use Rattle.mk_values.specs.Chains.{of_cond}
use Rattle.mk_values.specs.Limits.{MayNotOpen, appended, max_text}
use Rattle.mk_values.specs.ModFaults.{of_mod, with_fault}
use Rattle.mk_values.specs.declared.fault.ExpandFault.{ExpandFault}
use Rattle.mk_values.specs.declared.fault.ExpandFault.TheVariants.{Failed, NoMemory, TooLong}
use Rattle.mk_values.proofs.FactLemmas.{NeverFails}
use Rattle.mk_values.proofs.NeverLemmas.{below-never, where-never}

pub never-of_cond : (fault : CondFault) → of_cond fault ≡ Failed → ⊥
never-of_cond (of_conds.Bad at) is = cc
never-of_cond (of_conds.Tree fault) is = cc
never-of_cond (of_conds.TooDeep at) is = cc
never-of_cond of_conds.NoMemory is = cc

pub never-of_mod : (fault : ModFault) → of_mod fault ≡ Failed → ⊥
never-of_mod of_mods.TooLong is = cc
never-of_mod of_mods.BadPlace is = cc
never-of_mod of_mods.NoMemory is = cc

pub never-opened : (room count : ℕ) (fault : ExpandFault) → MayNotOpen room count fault
    → fault ≡ Failed → ⊥
never-opened room count fault (inl deep) is = let d = deep.1 in cc
never-opened room count fault (inr many) is = let d = many.2 in cc

too_long : (b : Bool) (text : List ℕ)
    → NeverFails {A = List ℕ} (if b then Err TooLong else Ok text)
too_long true text = λ is. cc
too_long false text = λ is. cc

pub never-appended : (text value : List ℕ) → NeverFails (appended text value)
never-appended text value = too_long (nat_lt max_text (length text + length value)) (text ++ value)

pub err_never : {A : Type 0} (fault : ExpandFault) → (fault ≡ Failed → ⊥)
    → NeverFails {A = A} (Err fault)
err_never fault never = λ is. never cc

-- a fault that agrees with a definition that never fails
pub fault_never : {A : Type 0} (fault : ExpandFault) (defined : Result A ExpandFault)
    → AgreesErr NoMemory fault defined → NeverFails defined → fault ≡ Failed → ⊥
fault_never fault defined (inl want) never is = cc
fault_never fault defined (inr same) never is = never (rw (same, is) refl)

never-within : (answer : Result State ModFault)
    → NeverFails {A = Option (List ℕ)}
    ((with_fault answer >>= λ state. Ok (text_of state)) >>= λ value. Ok (Some value))
never-within (Ok state) = λ is. cc
never-within (Err fault) = λ is. never-of_mod fault cc

never-named : (locals : Locals) (name : List ℕ) (form : Option (Local × Mod))
    → NeverFails (raw_named locals name form)
never-named locals name None = λ is. cc
never-named locals name (Some form) =
    never-within (apply form.1 (plain (local_value locals form.0)))

pub never-raw_above : (locals : Locals) (bound : List Pair) (name : List ℕ)
    → NeverFails (raw_above locals bound name)
never-raw_above locals bound name =
    below-never Failed (last_value bound name) (local_raw locals name)
    (where-never Failed locals.some (raw_named locals name (part_form name))
    (never-named locals name (part_form name)))
