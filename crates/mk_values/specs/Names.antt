-- What a name stands for: a variable of `:@`, a local name, or a variable of a class.
use Rattle.std.specs.Prelude.{ℕ, ◌||◌, Bool, true, false, List, [], ◌∷◌, ◌++◌, Option, Some, None}
use Rattle.std.specs.Prelude.{is_some, Result, Ok, Err, if◌then◌else◌}
use Rattle.std.specs.Str.{bytes_eq}
use Rattle.mk_bytes.specs.Agrees.{◌>>=◌}
use Rattle.mk_bytes.specs.declared.pair.Pair.{Pair}
use Rattle.mk_scopes.specs.Scopes.{Variables, raw_value}
use Rattle.mk_scopes.specs.Tables.{or_else}
use Rattle.mk_values.specs.Facts.{Lists, Answers}
use Rattle.mk_values.specs.Locals.{local_raw}
use Rattle.mk_values.specs.declared.fault.ExpandFault.{ExpandFault}
use Rattle.mk_values.specs.declared.local.Locals.{Locals}

-- What names and facts mean where a text is evaluated: the raw value of a name that is no variable
-- of `:@`, or none, or the fault that there is; the current directory, the lists of facts and the
-- answers of `exists`; the variables of `:@` with the innermost last, the variables whose values
-- are being expanded, and the flag of `:=`.
pub record Context : Type 0 where
  pub raw : List ℕ → Result (Option (List ℕ)) ExpandFault
  pub cwd : List ℕ
  pub lists : Lists
  pub answers : Answers
  pub bound : List Pair
  pub open_names : List (List ℕ)
  pub keep : Bool

-- the raw value of a variable; the empty name is undefined
abbrev pub known : Variables → List ℕ → Option (List ℕ)
known variables [] = None
known variables (byte ∷ name) = raw_value variables (byte ∷ name)

-- The raw value of a name, where it has one: local names stand above the variables of the classes.
abbrev pub raw_in : Variables → Locals → List ℕ → Result (Option (List ℕ)) ExpandFault
raw_in variables locals name =
    local_raw locals name >>= λ raw. Ok (or_else raw (known variables name))

-- what they mean outside of every value and every `:@`
abbrev pub context : Variables → Locals → Lists → Answers → Bool → Context
context variables locals lists answers keep = record {
  raw = raw_in variables locals;
  cwd = variables.cwd;
  lists = lists;
  answers = answers;
  bound = [];
  open_names = [];
  keep = keep;
}

-- inside a name nothing stays as it is written
abbrev pub in_name : Context → Context
in_name c = record c { keep = false }

-- while one more variable's value is being expanded
abbrev pub while_open : Context → List ℕ → Context
while_open c name = record c { open_names = c.open_names ++ name ∷ [] }

-- in the body of a `:@`, whose variable stands for a word
abbrev pub while_bound : Context → List ℕ → List ℕ → Context
while_bound c name word =
    record c { bound = c.bound ++ record { name = name; value = word } ∷ [] }

-- the value of a name among those of `:@`, where the last of a name counts
abbrev pub last_value : List Pair → List ℕ → Option (List ℕ)
last_value [] name = None
last_value (pair ∷ pairs) name =
    or_else (last_value pairs name) (if bytes_eq name pair.name then Some pair.value else None)

abbrev pub or_below : Option (List ℕ) → Result (Option (List ℕ)) ExpandFault
    → Result (Option (List ℕ)) ExpandFault
or_below (Some raw) below = Ok (Some raw)
or_below None below = below

-- the raw value of a variable of `:@`, which stand above all, or else of a local name
abbrev pub raw_above : Locals → List Pair → List ℕ → Result (Option (List ℕ)) ExpandFault
raw_above locals bound name = or_below (last_value bound name) (local_raw locals name)

-- The raw value of a name, where it has one: the variables of `:@` stand above all others.
abbrev pub raw_of : Context → List ℕ → Result (Option (List ℕ)) ExpandFault
raw_of c name = or_below (last_value c.bound name) (c.raw name)

abbrev pub has_value : Result (Option (List ℕ)) ExpandFault → Bool
has_value (Ok raw) = is_some raw
has_value (Err fault) = true

-- Whether a name has a raw value, also one that is too long: by its value among the variables of
-- `:@`, and by that outside of them.
abbrev pub is_defined : Option (List ℕ) → Result (Option (List ℕ)) ExpandFault → Bool
is_defined bound raw = is_some bound || has_value raw
