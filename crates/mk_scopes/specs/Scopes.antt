-- The classes of variables and their precedence.
use Rattle.std.specs.Prelude.{ℕ, Bool, List, [], ◌∷◌, Option, is_some, if◌then◌else◌, codes}
use Rattle.mk_bytes.specs.Bytes.{newline}
use Rattle.mk_bytes.specs.declared.pair.Pair.{Pair}
pub use Rattle.mk_scopes.specs.Tables.{or_else}
use Rattle.mk_scopes.specs.Tables.{value_in, assigned, appended, without, all_assigned}
use Rattle.mk_scopes.specs.declared.scopes.Class.{Class}
use Rattle.mk_scopes.specs.declared.scopes.Class.TheVariants.{Command, Global}
use Rattle.mk_scopes.specs.declared.scopes.Env.{Env}

pub record Variables : Type 0 where
  pub env : List Pair
  pub globals : List Pair
  pub commands : List Pair
  pub env_first : Bool
  pub cwd : List ℕ

-- the globals and the environment, in their order
abbrev pub below_commands : Variables → List ℕ → Option (List ℕ)
below_commands s name =
    if s.env_first then or_else (value_in s.env name) (value_in s.globals name)
    else or_else (value_in s.globals name) (value_in s.env name)

-- The raw value of a name: the command line's stands above all others.
abbrev pub raw_value : Variables → List ℕ → Option (List ℕ)
raw_value s name = or_else (value_in s.commands name) (below_commands s name)

-- An assignment: a global of a name that the command line has set stays as it is.
abbrev pub assigned_in : Variables → Class → List ℕ → List ℕ → Variables
assigned_in s Command name value = record s { commands = assigned s.commands name value }
assigned_in s Global name value =
    if is_some (value_in s.commands name) then s else record s
    { globals = assigned s.globals name value }

-- An append: a name without a value in the class first takes the environment's. A global is
-- appended to also where the command line has set its name: that value stands above it.
abbrev pub appended_in : Variables → Class → List ℕ → List ℕ → Variables
appended_in s Command name value =
    record s { commands = appended s.commands name value (value_in s.env name) }
appended_in s Global name value =
    record s { globals = appended s.globals name value (value_in s.env name) }

-- without the global of a name; the other classes stay as they are
abbrev pub without_global : Variables → List ℕ → Variables
without_global s name = record s { globals = without s.globals name }

-- the globals that make sets by itself
abbrev pub first_globals : List ℕ → List ℕ → List Pair
first_globals cwd program =
    record { name = codes ".CURDIR"; value = cwd }
    ∷ record { name = codes ".newline"; value = newline ∷ [] }
    ∷ record { name = codes "MAKE"; value = program } ∷ []

-- before anything is read
abbrev pub first_scopes : Env → Bool → Variables
first_scopes env env_first = record {
  env = all_assigned [] env.vars;
  globals = first_globals env.cwd env.program;
  commands = [];
  env_first = env_first;
  cwd = env.cwd;
}
