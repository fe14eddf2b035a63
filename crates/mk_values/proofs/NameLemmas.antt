-- The raw value of a name.
use Rattle.std.proofs.Common.{◌≡◌, ◌||◌, ◌&&◌, Bool, true, false, ℕ, inl, inr, List, Option, Some, None}
use Rattle.std.proofs.Common.{Result, Ok, Err, is_some, if◌then◌else◌, refl, sym, ap, ◌∙◌}
use Rattle.std.specs.Option.{option_map}
use Rattle.mk_bytes.specs.Agrees.{AgreesErr, ◌>>=◌}
use Rattle.mk_bytes.specs.declared.pair.Pair.{Pair}
use Rattle.mk_values.specs.Locals.{is_local, local_named, local_raw, local_value, part_form}
use Rattle.mk_values.specs.Locals.{part_value, raw_named}
use Rattle.mk_values.specs.Names.{has_value, known, last_value, or_below, raw_above, raw_in}
use Rattle.mk_values.specs.declared.fault.ExpandFault.{ExpandFault}
use Rattle.mk_values.specs.declared.fault.ExpandFault.TheVariants.{NoMemory}
use Rattle.mk_values.specs.declared.local.Local.{Local}
use Rattle.mk_values.specs.declared.local.Locals.{Locals}
use Rattle.mk_mods.specs.declared.modifier.Mod.{Mod}
use Rattle.mk_scopes.specs.Scopes.{Variables}
use Rattle.mk_scopes.specs.Tables.{or_else}

parts_of_raw : (bound : Option (List ℕ)) (below : Result (Option (List ℕ)) ExpandFault)
    (known : Option (List ℕ))
    → or_below bound (below >>= λ raw. Ok (or_else raw known))
    ≡ (or_below bound below >>= λ raw. Ok (or_else raw known))
parts_of_raw (Some value) below known = refl
parts_of_raw None below known = refl

-- what stands above the variables of the classes, and below it they
pub raw_of-parts : (variables : Variables) (locals : Locals) (bound : List Pair) (name : List ℕ)
    → or_below (last_value bound name) (raw_in variables locals name)
    ≡ (raw_above locals bound name >>= λ raw. Ok (or_else raw (known variables name)))
raw_of-parts variables locals bound name =
    parts_of_raw (last_value bound name) (local_raw locals name) (known variables name)

pub raw_of-above : (variables : Variables) (locals : Locals) (bound : List Pair) (name raw : List ℕ)
    → raw_above locals bound name ≡ Ok (Some raw)
    → or_below (last_value bound name) (raw_in variables locals name) ≡ Ok (Some raw)
raw_of-above variables locals bound name raw is =
    raw_of-parts variables locals bound name
    ∙ ap (λ one. one >>= λ above. Ok (or_else above (known variables name))) is

pub raw_of-known : (variables : Variables) (locals : Locals) (bound : List Pair) (name : List ℕ)
    (found : Option (List ℕ))
    → raw_above locals bound name ≡ Ok None → known variables name ≡ found
    → or_below (last_value bound name) (raw_in variables locals name) ≡ Ok found
raw_of-known variables locals bound name found is below =
    raw_of-parts variables locals bound name
    ∙ ap (λ one. one >>= λ above. Ok (or_else above (known variables name))) is
    ∙ ap (λ (one : Option (List ℕ)). Ok one) below

pub raw_of-fault : (variables : Variables) (locals : Locals) (bound : List Pair) (name : List ℕ)
    (fault : ExpandFault)
    → AgreesErr NoMemory fault (raw_above locals bound name)
    → AgreesErr NoMemory fault (or_below (last_value bound name) (raw_in variables locals name))
raw_of-fault variables locals bound name fault (inl want) = inl want
raw_of-fault variables locals bound name fault (inr is) =
    inr (raw_of-parts variables locals bound name
    ∙ ap (λ one. one >>= λ above. Ok (or_else above (known variables name))) is)

-- Whether there is one

value_of_part : (value : Result (List ℕ) ExpandFault)
    → has_value (value >>= λ text. Ok (Some text)) ≡ true
value_of_part (Ok text) = refl
value_of_part (Err fault) = refl

value_of_local : (l : Locals) (named : Option Local)
    → has_value (Ok (option_map (local_value l) named)) ≡ is_some named
value_of_local l None = refl
value_of_local l (Some one) = refl

value_of_form : (l : Locals) (name : List ℕ) (form : Option (Local × Mod))
    → has_value (raw_named l name form) ≡ (is_some form || is_some (local_named name))
value_of_form l name None = value_of_local l (local_named name)
value_of_form l name (Some form) = value_of_part (part_value form.1 (local_value l form.0))

value_where : (l : Locals) (name : List ℕ) (some : Bool)
    → has_value (if some then raw_named l name (part_form name) else Ok None)
    ≡ (some && (is_some (part_form name) || is_some (local_named name)))
value_where l name true = value_of_form l name (part_form name)
value_where l name false = refl

value_above : (below : Result (Option (List ℕ)) ExpandFault) (known : Option (List ℕ)) (local : Bool)
    → has_value below ≡ local
    → has_value (below >>= λ raw. Ok (or_else raw known)) ≡ (local || is_some known)
value_above (Err fault) known local is = rw (sym is) refl
value_above (Ok (Some value)) known local is = rw (sym is) refl
value_above (Ok None) known local is = rw (sym is) refl

-- a name has a raw value where it is a local name, whatever that stands for, or that of a variable
pub has_value_in : (variables : Variables) (locals : Locals) (name : List ℕ)
    → has_value (raw_in variables locals name) ≡ (is_local locals name || is_some (known variables name))
has_value_in variables locals name =
    value_above (local_raw locals name) (known variables name) (is_local locals name)
    (value_where locals name locals.some)
