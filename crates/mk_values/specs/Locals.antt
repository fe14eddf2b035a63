-- The local names: they stand for what is made at the moment.
use Rattle.std.specs.Prelude.{ℕ, ◌==◌, ◌||◌, ◌&&◌, Bool, false, List, [], ◌∷◌, ◌++◌, Option, Some}
use Rattle.std.specs.Prelude.{None}
use Rattle.std.specs.Prelude.{Result, Ok, is_some, if◌then◌else◌, codes}
use Rattle.std.specs.Option.{option_map}
use Rattle.std.specs.Str.{bytes_eq}
use Rattle.mk_bytes.specs.Agrees.{◌>>=◌}
use Rattle.mk_bytes.specs.Bytes.{space}
use Rattle.mk_mods.specs.Modifiers.{apply}
use Rattle.mk_mods.specs.State.{plain, text_of}
use Rattle.mk_mods.specs.declared.modifier.Mod.{Mod}
use Rattle.mk_mods.specs.declared.modifier.Mod.TheVariants.{Head, Tail}
use Rattle.mk_values.specs.ModFaults.{with_fault}
use Rattle.mk_values.specs.declared.fault.ExpandFault.{ExpandFault}
use Rattle.mk_values.specs.declared.local.Local.{Local}
use Rattle.mk_values.specs.declared.local.Local.TheVariants.{Target, All, Implied, Prefix, Oodate}
use Rattle.mk_values.specs.declared.local.Locals.{Locals}

-- no local names
abbrev pub no_locals : Locals
no_locals = record {
  target = [];
  all = [];
  implied = [];
  prefix = [];
  oodate = [];
  some = false;
}

abbrev pub is_either : List ℕ → List ℕ → List ℕ → Bool
is_either name long short = bytes_eq name long || bytes_eq name short

-- the local names, each with its long and its short form
abbrev pub local_named : List ℕ → Option Local
local_named name =
    if is_either name (codes ".TARGET") (codes "@") then Some Target
    else (if is_either name (codes ".ALLSRC") (codes ">") then Some All
    else (if is_either name (codes ".IMPSRC") (codes "<") then Some Implied
    else (if is_either name (codes ".PREFIX") (codes "*") then Some Prefix
    else (if is_either name (codes ".OODATE") (codes "?") then Some Oodate
    else None))))

-- the part of each word that `D` or `F` behind a short form names: its head, as `:H` gives it, or
-- its tail, as `:T` does
abbrev pub part_named : ℕ → Option Mod
part_named byte = if byte == 68 then Some Head else (if byte == 70 then Some Tail else None)

abbrev pub of_part : Option Local → Option Mod → Option (Local × Mod)
of_part (Some local) (Some part) = Some (local, part)
of_part _ _ = None

-- a short form with `D` or `F` behind it, as `@D`; the long forms have none
abbrev pub part_form : List ℕ → Option (Local × Mod)
part_form (byte ∷ part ∷ []) = of_part (local_named (byte ∷ [])) (part_named part)
part_form _ = None

-- texts with one space before each
abbrev pub behind_spaces : List (List ℕ) → List ℕ
behind_spaces [] = []
behind_spaces (text ∷ texts) = space ∷ text ++ behind_spaces texts

-- texts with one space between them
abbrev pub spaced : List (List ℕ) → List ℕ
spaced [] = []
spaced (text ∷ texts) = text ++ behind_spaces texts

abbrev pub local_value : Locals → Local → List ℕ
local_value l Target = l.target
local_value l All = spaced l.all
local_value l Implied = l.implied
local_value l Prefix = l.prefix
local_value l Oodate = spaced l.oodate

-- a part of each word of a value
abbrev pub part_value : Mod → List ℕ → Result (List ℕ) ExpandFault
part_value part value = with_fault (apply part (plain value)) >>= λ state. Ok (text_of state)

abbrev pub raw_named : Locals → List ℕ → Option (Local × Mod) → Result (Option (List ℕ)) ExpandFault
raw_named l name None = Ok (option_map (local_value l) (local_named name))
raw_named l name (Some form) =
    part_value form.1 (local_value l form.0) >>= λ value. Ok (Some value)

-- The raw value of a local name, where there are some.
abbrev pub local_raw : Locals → List ℕ → Result (Option (List ℕ)) ExpandFault
local_raw l name = if l.some then raw_named l name (part_form name) else Ok None

-- whether a name is a local name, whatever it stands for
abbrev pub is_local : Locals → List ℕ → Bool
is_local l name = l.some && (is_some (part_form name) || is_some (local_named name))
