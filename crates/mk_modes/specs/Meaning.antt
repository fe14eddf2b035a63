-- What a run means: what it prints and how it ends, or what it builds.
use Rattle.std.specs.Prelude.{ℕ, ◌+◌, false, List, [], ◌∷◌, Result, Ok, Err}
use Rattle.std.specs.Prelude.{unwrap_or, if◌then◌else◌}
use Rattle.mk_cli.specs.Words as cli
use Rattle.mk_cli.specs.declared.order.Order.{Order}
use Rattle.mk_cli.specs.declared.order.Print.{Print}
use Rattle.mk_cli.specs.declared.order.Usage.{Usage}
use Rattle.mk_cli.specs.declared.order.Usage.TheVariants as usage
use Rattle.mk_values.specs.Locals.{no_locals}
use Rattle.mk_values.specs.Names.{known}
use Rattle.mk_values.specs.Texts.{has_dollar, name_tree}
use Rattle.mk_values.specs.Facts.{Lists}
use Rattle.mk_values.specs.Value.{value, value_of_text}
use Rattle.mk_values.specs.declared.facts.Asked.{Asked}
use Rattle.mk_values.specs.declared.fault.ExpandFault.{ExpandFault}
use Rattle.mk_values.specs.declared.fault.ExpandFault.TheVariants as expand
use Rattle.mk_flags.specs.declared.Flags.{Flags}
use Rattle.mk_graph.specs.declared.Made.{Made}
use Rattle.mk_makefile.specs.declared.fault.ReadFault.{ReadFault}
use Rattle.mk_plan.specs.Facts.{lists_of}
use Rattle.mk_plan.specs.Tasks.{Setting}
use Rattle.mk_scopes.specs.Scopes.{Variables}
use Rattle.mk_scopes.specs.declared.scopes.Env.{Env}
use Rattle.mk_modes.specs.Ends.{of_read}
use Rattle.mk_modes.specs.declared.report.End.{End}
use Rattle.mk_modes.specs.declared.report.End.TheVariants as end

-- the lines that a run prints, without their newlines, and its end
pub record Outcome : Type 0 where
  pub lines : List (List ℕ)
  pub end : End

-- an end without a line
abbrev pub ended : End → Outcome
ended end = record { lines = []; end = end }

-- one line before all others
abbrev pub line_first : List ℕ → Outcome → Outcome
line_first line others = record { lines = line ∷ others.lines; end = others.end }

-- What a print shows: a text with a `$` expanded, and else the value of the name, which is the raw
-- one for `-V`, or nothing, and for `-v` that of one reference to it. Behind it stand the questions
-- of `exists` so far.
abbrev pub shown : Setting → List Asked → Print → Result (List ℕ × List Asked) ExpandFault
shown s asked print =
    if has_dollar print.text
    then value_of_text s.variables no_locals s.lists s.answers false asked print.text
    else (if print.full
    then value s.variables no_locals s.lists s.answers false asked (name_tree print.text)
    else Ok (unwrap_or (known s.variables print.text) [], asked))

-- the end at a print's fault; want of memory and a fault of the outside are what they are
-- everywhere
abbrev pub print_end : ℕ → ExpandFault → End
print_end i expand.NoMemory = end.NoMemory
print_end i expand.Failed = end.WorldFault
print_end i fault = end.Print i fault

-- the print at place `i`, and those behind it
abbrev pub before_others : ℕ → Result (List ℕ × List Asked) ExpandFault → (List Asked → Outcome)
    → Outcome
before_others i (Ok shown) others = line_first shown.0 (others shown.1)
before_others i (Err fault) others = ended (print_end i fault)

-- Prints from place `i` on, each on its line, up to the first that has a fault.
unfoldable pub printed : Setting → List Asked → ℕ → List Print → Outcome
printed s asked i [] = ended end.Done
printed s asked i (print ∷ prints) =
    before_others i (shown s asked print) (λ now. printed s now (i + 1) prints)

-- What is meant: an outcome, prints of what makefiles say, an audit, an explanation, a query, a dry
-- run, or a build of it.
pub data Meant : Type 0 where
  only : (outcome : Outcome) → Meant
  prints : (variables : Variables) → (lists : Lists) → (all : List Print) → Meant
  audits : (env : Env) → (made : Made) → (order : Order) → Meant
  explains : (made : Made) → (flags : Flags) → Meant
  queries : (made : Made) → (flags : Flags) → Meant
  shows : (made : Made) → (flags : Flags) → Meant
  builds : (made : Made) → (flags : Flags) → Meant

-- what is done with the makefiles: prints, where there are some, and else an audit, an explanation,
-- a query or a build
abbrev pub by_mode : Env → Made → Order → List Print → Meant
by_mode env made order [] =
    if order.audit then audits env made order
    else (if order.explain then explains made order.flags
    else (if order.flags.query then queries made order.flags
    else (if order.flags.dry then shows made order.flags else builds made order.flags)))
by_mode env made order (print ∷ more) =
    prints made.scopes (lists_of made order.flags.requested) (print ∷ more)

-- what is done behind the reading: its fault ends the run
abbrev pub by_reading : Env → Order → Result Made ReadFault → Meant
by_reading env order (Ok made) = by_mode env made order order.prints
by_reading env order (Err fault) = only (ended (of_read fault))

-- the first refused word ends the run
abbrev pub taken : Result Order Usage → Result Order End
taken (Ok order) = Ok order
taken (Err (usage.Word refused)) = Err (end.Usage refused)
taken (Err usage.NoMemory) = Err end.NoMemory

-- what the words ask for; the first that is refused ends the run
abbrev pub asked : List ℕ → List (List ℕ) → Result Order End
asked cwd words = taken (cli.order cwd words)
