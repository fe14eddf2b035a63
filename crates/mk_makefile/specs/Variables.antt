-- How assignments change variables (make(1), "VARIABLE ASSIGNMENTS").
use Rattle.std.specs.Prelude.{ℕ, ◌-◌, ◌==◌, ◌&&◌, Bool, true, false, not, is_some, nat_eq, nat_le}
use Rattle.std.specs.Prelude.{List, [], ◌∷◌, length, map, take}
use Rattle.std.specs.Prelude.{if◌then◌else◌}
use Rattle.std.specs.List.{ends_with}
use Rattle.mk_blocks.specs.Outcomes.{refused, ◌>>=◌}
use Rattle.mk_bytes.specs.Bytes.{newline, space}
use Rattle.mk_cli.specs.declared.order.AssignOp.{AssignOp}
use Rattle.mk_cli.specs.declared.order.AssignOp.TheVariants.{Plain, Append, Default, Now, Shell}
use Rattle.mk_directive.specs.Words.{words_of}
use Rattle.mk_values.specs.Limits.{max_text}
use Rattle.mk_values.specs.Texts.{has_dollar}
use Rattle.mk_scopes.specs.Scopes.{Variables, raw_value, assigned_in, appended_in, without_global}
use Rattle.mk_scopes.specs.declared.scopes.Class.{Class}
use Rattle.mk_makefile.specs.Moments.{Doing, Moment, given, stands, with_variables}
use Rattle.mk_makefile.specs.Questions.{Answers}
use Rattle.mk_makefile.specs.Values.{output, value}
use Rattle.mk_makefile.specs.declared.fault.What.TheVariants.{EmptyName}

abbrev pub not_empty : List ℕ → Moment → Doing (List ℕ)
not_empty [] s = refused EmptyName
not_empty (byte ∷ name) s = given (byte ∷ name) s

-- A name that is its own value: it has no `$`, and is no longer than values may be.
abbrev pub is_own_value : List ℕ → Bool
is_own_value [] = false
is_own_value (byte ∷ name) =
    nat_le (length (byte ∷ name)) max_text && not (has_dollar (byte ∷ name))

-- the name of a variable is expanded, and something has to be left of it
abbrev pub variable_name : Answers → List ℕ → Moment → Doing (List ℕ)
variable_name answers text s = value answers false text s >>= λ name. not_empty name.0 name.1

abbrev pub assigned_at : Moment → Class → List ℕ → List ℕ → Moment
assigned_at s class name text = with_variables s (assigned_in s.made.scopes class name text)

abbrev pub appended_at : Moment → Class → List ℕ → List ℕ → Moment
appended_at s class name text = with_variables s (appended_in s.made.scopes class name text)

-- where no class has the name
abbrev pub defaulted_in : Variables → Class → List ℕ → List ℕ → Variables
defaulted_in variables class name text =
    if is_some (raw_value variables name) then variables else assigned_in variables class name text

abbrev pub defaulted_at : Moment → Class → List ℕ → List ℕ → Moment
defaulted_at s class name text = with_variables s (defaulted_in s.made.scopes class name text)

-- the output of a command: one final newline is dropped, and other ones become spaces
abbrev pub without_newline : List ℕ → List ℕ
without_newline text =
    if ends_with nat_eq text (newline ∷ []) then take (length text - 1) text else text

abbrev pub as_space : ℕ → ℕ
as_space byte = if byte == newline then space else byte

abbrev pub on_one_line : List ℕ → List ℕ
on_one_line text = map as_space (without_newline text)

-- the value of a text is set
abbrev pub valued : Answers → Class → List ℕ → List ℕ → Moment → Doing (Unit {0})
valued answers class name text s =
    value answers true text s >>= λ now. stands (assigned_at now.1 class name now.0)

-- what the value of a text prints as a command, whose status does not count
abbrev pub printed : Answers → List ℕ → Moment → Doing (List ℕ)
printed answers text s =
    value answers false text s >>= λ command. output answers command.0 command.1

abbrev pub run_for : Answers → Class → List ℕ → List ℕ → Moment → Doing (Unit {0})
run_for answers class name text s =
    printed answers text s
    >>= λ found. stands (assigned_at found.1 class name (on_one_line found.0))

-- What a sign does with a name and a text: it sets the text, appends it, sets it where no class has
-- the name, sets its value, or sets what its value prints as a command.
abbrev pub set_by : Answers → Class → AssignOp → List ℕ → List ℕ → Moment → Doing (Unit {0})
set_by answers class Plain name text s = stands (assigned_at s class name text)
set_by answers class Append name text s = stands (appended_at s class name text)
set_by answers class Default name text s = stands (defaulted_at s class name text)
set_by answers class Now name text s = valued answers class name text s
set_by answers class Shell name text s = run_for answers class name text s

-- An assignment, whose name is expanded first.
abbrev pub assigned_by : Answers → Class → AssignOp → List ℕ → List ℕ → Moment → Doing (Unit {0})
assigned_by answers class op name text s =
    variable_name answers name s >>= λ is. set_by answers class op is.0 text is.1

-- the globals of these names are removed
abbrev pub without_globals : Variables → List (List ℕ) → Variables
without_globals variables [] = variables
without_globals variables (name ∷ names) = without_globals (without_global variables name) names

-- The words of `.undef` are names as they are written.
abbrev pub undefined_by : List ℕ → Moment → Moment
undefined_by text s = with_variables s (without_globals s.made.scopes (words_of text))
