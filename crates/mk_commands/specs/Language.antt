-- The meaning of command lines: commands parted by the word `;`, which run in order.
use Rattle.std.specs.Prelude.{ℕ, Bool, ◌==◌, List, [], ◌∷◌, ◌++◌, length, Option, Some, None, codes}
use Rattle.std.specs.Prelude.{if◌then◌else◌}
use Rattle.std.specs.List.{slice_split}
use Rattle.std.specs.Str.{bytes_eq}
use Rattle.mk_world.specs.Talks.{NextOf}
use Rattle.mk_world.specs.declared.command.Cmd.{Cmd}
use Rattle.mk_world.specs.declared.step.Answer.{Answer}
use Rattle.mk_world.specs.declared.step.Next.{Next}
use Rattle.mk_world.specs.declared.step.Next.TheVariants.{More, Over}
use Rattle.mk_commands.specs.Commands.{command}
use Rattle.mk_commands.specs.Turns.{Turn, asks, ends}
use Rattle.mk_commands.specs.Words.{words_of}

-- the word that parts commands
abbrev pub is_semicolon : List ℕ → Bool
is_semicolon word = bytes_eq word (codes ";")

-- the commands of a text, each as its words
abbrev pub commands_of : List ℕ → List (List (List ℕ))
commands_of text = slice_split is_semicolon (words_of text)

-- the commands that follow a semicolon, where there is one
abbrev pub commands_after : Option (List (List ℕ)) → List (List (List ℕ))
commands_after None = []
commands_after (Some words) = slice_split is_semicolon words

-- After a command that ended with status 0 the next one comes; any other status is the line's.
abbrev pub and_then : (List ℕ → List Answer → Next) → List ℕ → Turn → Next
and_then go_on printed (asks request) = More request
and_then go_on printed (ends status output answers) =
    if status == 0 then go_on (printed ++ output) answers
    else Over status (printed ++ output)

-- the rest of a line, after the commands before it have printed this
abbrev pub in_order : Cmd → List (List (List ℕ)) → List ℕ → List Answer → Next
in_order cmd [] printed answers = Over 0 printed
in_order cmd (words ∷ commands) printed answers =
    and_then (in_order cmd commands) printed (command cmd words answers)

-- What a command line asks next, by the answers so far.
abbrev pub language_next : NextOf
language_next cmd answers = in_order cmd (commands_of cmd.text) [] answers

-- the words of all commands
abbrev pub together : List (List (List ℕ)) → List (List ℕ)
together [] = []
together (words ∷ commands) = words ++ together commands

-- A command asks no more often than it has words.
abbrev pub most_answers : Cmd → ℕ
most_answers cmd = length (together (commands_of cmd.text))
