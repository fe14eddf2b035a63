-- Every command line is at its end after as many answers as its commands have words.
use Rattle.std.proofs.Common.{ℕ, ◌≤◌, ◌==◌, Bool, true, false, List, [], ◌∷◌, ◌++◌, length}
use Rattle.std.proofs.Common.{if◌then◌else◌, le_of_suc-le-suc, not-suc-le-zero}
use Rattle.mk_world.specs.Talks.{IsOver}
use Rattle.mk_world.specs.declared.command.Cmd.{Cmd}
use Rattle.mk_world.specs.declared.step.Answer.{Answer}
use Rattle.mk_world.specs.declared.step.Next.{Next}
use Rattle.mk_world.specs.declared.step.Next.TheVariants.{Over}
use Rattle.mk_commands.specs.Commands.{command}
use Rattle.mk_commands.specs.Language.{and_then, commands_of, in_order, language_next, most_answers}
use Rattle.mk_commands.specs.Language.{together}
use Rattle.mk_commands.specs.Turns.{Turn, asks, ends}
use Rattle.mk_commands.specs.CommandEnds.{command_in}
use Rattle.mk_commands.specs.TalkEnds.{Covers, Leaves}

-- a test between two ends
over_if : (test : Bool) (next : Next) (status : ℕ) (output : List ℕ) → IsOver next
    → IsOver (if test then next else Over status output)
over_if true next status output over = over
over_if false next status output over = tt

-- a command that leaves answers enough for those after it
and_then_over : (go_on : List ℕ → List Answer → Next) (printed : List ℕ) (more : List (List ℕ))
    → ((printed : List ℕ) (answers : List Answer) → Covers more answers
    → IsOver (go_on printed answers))
    → (turn : Turn) → Leaves more turn → IsOver (and_then go_on printed turn)
and_then_over go_on printed more over (asks request) leaves = absurd leaves
and_then_over go_on printed more over (ends status output answers) leaves =
    over_if (status == 0) (go_on (printed ++ output) answers) status (printed ++ output)
    (over (printed ++ output) answers leaves)

-- commands in order, where there is an answer for each of their words
in_order_over : (cmd : Cmd) (commands : List (List (List ℕ))) (printed : List ℕ)
    (answers : List Answer) → Covers (together commands) answers
    → IsOver (in_order cmd commands printed answers)
in_order_over cmd [] printed answers covers = tt
in_order_over cmd (words ∷ commands) printed answers covers =
    and_then_over (in_order cmd commands) printed (together commands) (in_order_over cmd commands)
    (command cmd words answers)
    ((command_in cmd words).leaves (together commands) answers covers)

-- so many answers are one for each word
covered : (words : List (List ℕ)) (answers : List Answer) → length words ≤ length answers
    → Covers words answers
covered [] answers enough = tt
covered (word ∷ words) [] enough = absurd (not-suc-le-zero enough)
covered (word ∷ words) (answer ∷ answers) enough =
    covered words answers (le_of_suc-le-suc enough)

-- Every command line is at its end after its most answers.
pub language_ends : (cmd : Cmd) (answers : List Answer) → most_answers cmd ≤ length answers
    → IsOver (language_next cmd answers)
language_ends cmd answers enough =
    in_order_over cmd (commands_of cmd.text) [] answers
    (covered (together (commands_of cmd.text)) answers enough)
