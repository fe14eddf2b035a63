-- What reading asks of the outside.
use Rattle.std.specs.Prelude.{ℕ, ◌+◌, Bool, false, List, [], ◌∷◌, ◌++◌, drop, length, Option}
use Rattle.std.specs.Prelude.{Result}
use Rattle.std.specs.Prelude.{Ok, Err}
use Rattle.mk_blocks.specs.Acts.{Act, looked, ran}
use Rattle.mk_blocks.specs.Outcomes.{refused, ◌>>=◌}
use Rattle.mk_bytes.specs.Bytes.{curly_close, curly_open, dollar}
use Rattle.mk_bytes.specs.declared.pair.Pair.{Pair}
use Rattle.mk_cond.specs.Cond.{Cond}
use Rattle.mk_values.specs.Evaluators as evaluation
use Rattle.mk_values.specs.Facts.{Lists}
use Rattle.mk_values.specs.Locals.{no_locals}
use Rattle.mk_values.specs.Value as expand
use Rattle.mk_values.specs.declared.facts.Asked.{Asked}
use Rattle.mk_values.specs.declared.fault.ExpandFault.{ExpandFault}
use Rattle.mk_world.specs.declared.command.Cmd.{Cmd}
use Rattle.mk_makefile.specs.Acts.{dates}
use Rattle.mk_makefile.specs.Facts.{lists_of}
use Rattle.mk_makefile.specs.Moments.{Doing, Moment, given}
use Rattle.mk_makefile.specs.Questions.{Answers}
use Rattle.mk_makefile.specs.declared.fault.What.{What}
use Rattle.mk_makefile.specs.declared.fault.What.TheVariants.{Expand}

-- what `make`, `target` and `commands` of conditions are answered from
abbrev pub lists_at : Moment → Lists
lists_at s = lists_of s.made.rules s.order.flags.requested

-- the times that are asked for where these are the questions of `exists` behind an evaluation:
-- those behind the questions before it
abbrev pub newly_dated : Moment → List Asked → List Act
newly_dated s asked = dates (drop (length s.asked) asked)

abbrev pub found_by : {A : Type 0} → Moment → Result (A × List Asked) ExpandFault
    → Result (A × Moment) What
found_by s (Ok found) = Ok (found.0, record s { asked = found.1 })
found_by s (Err fault) = Err (Expand fault)

-- What an evaluation gives, behind the times that it asks for, in order. It asks for them where it
-- ends with a fault too.
abbrev pub expanded : {A : Type 0} → Moment → evaluation.Answer A → Doing A
expanded s found = record {
  acts = newly_dated s (expand.questions_of found);
  answer = found_by s (expand.with_asked found);
}

-- the value of a text where there are no local names
abbrev pub value : Answers → Bool → List ℕ → Moment → Doing (List ℕ)
value answers keep text s =
    expanded s (expand.of_text s.made.scopes no_locals (lists_at s) answers.exists keep s.asked
    text).answer

-- the truth of a condition
abbrev pub truth : Answers → Cond → Moment → Doing Bool
truth answers cond s =
    expanded s (expand.of_condition s.made.scopes no_locals (lists_at s) answers.exists s.asked
    cond).answer

-- what an act finds
abbrev pub asking : {A : Type 0} → Act → A → Moment → Doing A
asking act found s = record { acts = act ∷ []; answer = Ok (found, s) }

-- the bytes of a file, or none where it is missing
abbrev pub contents : Answers → List ℕ → Moment → Doing (Option (List ℕ))
contents answers path s =
    asking (looked path) (answers.contents s.read path) (record s { read = s.read + 1 })

-- Exported variables

-- a reference to a variable
abbrev pub reference : List ℕ → List ℕ
reference name = dollar ∷ curly_open ∷ name ++ curly_close ∷ []

-- an exported variable: its value, which is empty where it is undefined
abbrev pub exported : Answers → List ℕ → Moment → Doing Pair
exported answers name s =
    value answers false (reference name) s
    >>= λ shown. given (record { name = name; value = shown.0 }) shown.1

-- the variables of these names, behind those so far
abbrev pub all_exported : Answers → List Pair → List (List ℕ) → Moment → Doing (List Pair)
all_exported answers pairs [] s = given pairs s
all_exported answers pairs (name ∷ names) s =
    exported answers name s
    >>= λ one. all_exported answers (pairs ++ one.0 ∷ []) names one.1

-- The values of the exported variables, in the order of their names.
abbrev pub values : Answers → Moment → Doing (List Pair)
values answers s = all_exported answers [] s.made.exports s

-- Commands

-- a command in the current directory, with these variables in its environment
abbrev pub command_at : Moment → List Pair → List ℕ → Cmd
command_at s exports text = record { text = text; cwd = s.made.scopes.cwd; exports = exports }

abbrev pub printed_by : Answers → Cmd → Moment → Doing (List ℕ)
printed_by answers cmd s =
    asking (ran cmd) (answers.outputs s.ran cmd) (record s { ran = s.ran + 1 })

-- what a text prints as a command, which finds the exported variables in its environment
abbrev pub output : Answers → List ℕ → Moment → Doing (List ℕ)
output answers text s =
    values answers s >>= λ all. printed_by answers (command_at all.1 all.0 text) all.1
