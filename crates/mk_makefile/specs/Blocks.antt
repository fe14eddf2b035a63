-- The lines that begin branches and loops.
use Rattle.std.specs.Prelude.{◌≡◌, ℕ, ◌%◌, ◌==◌, Bool, false, List, length, Option, Some, None}
use Rattle.std.specs.Prelude.{Result, Ok, Err, if◌then◌else◌}
use Rattle.mk_blocks.specs.Outcomes.{refused, ◌>>=◌}
use Rattle.mk_turns.specs.Turns.{Turn, loop_turns}
use Rattle.mk_turns.specs.declared.loops.Loop.{Loop}
use Rattle.mk_cond.specs.Cond.{Cond}
use Rattle.mk_cond.specs.Conditions.{condition_of}
use Rattle.mk_cond.specs.declared.cond.Form.{Form}
use Rattle.mk_cond.specs.declared.cond.Form.TheVariants as form
use Rattle.mk_cond.specs.declared.fault.CondFault.{CondFault}
use Rattle.mk_cond.specs.declared.fault.CondFault.TheVariants as cond
use Rattle.mk_directive.specs.Arguments.{Heading, heading_in}
use Rattle.mk_directive.specs.Directives.{Directed, directive_on}
use Rattle.mk_directive.specs.Words.{words_of}
use Rattle.mk_directive.specs.declared.directive.Directive.{Directive}
use Rattle.mk_directive.specs.declared.directive.Directive.TheVariants.{If, ElseIf}
use Rattle.mk_values.specs.declared.fault.ExpandFault.TheVariants as expand
use Rattle.mk_makefile.specs.Kinds.{plain_text}
use Rattle.mk_makefile.specs.Moments.{Doing, Moment, given}
use Rattle.mk_makefile.specs.Questions.{Answers}
use Rattle.mk_makefile.specs.Values.{truth, value}
use Rattle.mk_makefile.specs.declared.fault.What.{What}
use Rattle.mk_makefile.specs.declared.fault.What.TheVariants.{Cond as CondAt, Count, Expand}
use Rattle.mk_makefile.specs.declared.fault.What.TheVariants.{ForForm}

-- the form of a directive's condition; every other line has that of `.if`
abbrev pub form_of : Directive → Form
form_of (If form) = form
form_of (ElseIf form) = form
form_of _ = form.If

-- a condition's form, and its text
abbrev pub condition_in : List ℕ → Option Directed → Form × List ℕ
condition_in line None = (form.If, line)
condition_in line (Some found) = (form_of found.0, found.1)

abbrev pub condition_on : List ℕ → Form × List ℕ
condition_on line = condition_in line (directive_on line)

-- a fault of a condition's grammar
abbrev pub cond_what : CondFault → What
cond_what (cond.Bad at) = CondAt at
cond_what (cond.TooDeep at) = CondAt at
cond_what (cond.Tree fault) = Expand (expand.Tree fault)
cond_what cond.NoMemory = CondAt 0

abbrev pub judged : Answers → Result Cond CondFault → Moment → Doing Bool
judged answers (Ok cond) s = truth answers cond s
judged answers (Err fault) s = refused (cond_what fault)

abbrev pub condition_read : Answers → Form × List ℕ → Moment → Doing Bool
condition_read answers found s = judged answers (condition_of found.0 found.1) s

-- Whether the condition of a branch holds.
abbrev pub condition : Answers → List ℕ → Moment → Doing Bool
condition answers line s =
    condition_read answers (condition_on (plain_text line)) s

-- what follows the word of a directive
abbrev pub argument_in : List ℕ → Option Directed → List ℕ
argument_in line None = line
argument_in line (Some found) = found.1

abbrev pub argument_on : List ℕ → List ℕ
argument_on line = argument_in line (directive_on line)

-- the turns of a loop with these names over these words
abbrev pub divided : List (List ℕ) → List (List ℕ) → Moment → Doing (List Turn)
divided names words s =
    if length words % length names == 0 then given (loop_turns names words) s
    else refused (Count (length words) (length names))

-- the same as the answer to a loop
abbrev pub IsDivided : List (List ℕ) → List (List ℕ) → Result Loop What → Type 0
IsDivided names words (Ok turns) =
    (length words % length names ≡ 0) × (turns.names ≡ names) × (turns.words ≡ words)
IsDivided names words (Err what) =
    ((length words % length names) == 0 ≡ false)
    × (what ≡ Count (length words) (length names))

abbrev pub turned : Answers → List (List ℕ) → List ℕ → Moment → Doing (List Turn)
turned answers names text s =
    value answers false text s >>= λ shown. divided names (words_of shown.0) shown.1

abbrev pub headed : Answers → Option Heading → Moment → Doing (List Turn)
headed answers None s = refused ForForm
headed answers (Some heading) s = turned answers heading.0 heading.1 s

abbrev pub turns_on : Answers → List ℕ → Moment → Doing (List Turn)
turns_on answers line s = headed answers (heading_in (argument_on line)) s

-- The turns of the loop that a line begins: the text behind the word `in` is expanded and cut into
-- words.
abbrev pub turns : Answers → List ℕ → Moment → Doing (List Turn)
turns answers line s = turns_on answers (plain_text line) s
