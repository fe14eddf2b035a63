use Rattle.std.proofs.Common.{◌≡◌, ◌+◌, ℕ, List, [], Option, Some, None, length, Bor}
use Rattle.std.specs.List.{slice_split}
use Rattle.std.specs.Option.{option_copied, option_map}
use Rattle.mk_commands.specs.Language.{commands_after, in_order, is_semicolon}
use Rattle.mk_commands.specs.Words.{held}
use Rattle.mk_commands.proofs.language.in_order.Given as goal

-- the commands that are left decide what comes next
abbrev pub invariant-commands : goal.invariant-commands
invariant-commands l =
    in_order l.cmd (commands_after (option_map held (option_copied l.commands)))
    l.printed l.rest
    ≡ in_order l.cmd (slice_split is_semicolon (held l.words)) [] l.seen

-- the words of the commands that are left
abbrev words_left : Option (Bor (List (Bor (List ℕ)))) → ℕ
words_left None = 0
words_left (Some words) = length words.now + 1

abbrev pub decreases-commands : goal.decreases-commands
decreases-commands l = words_left l.commands
