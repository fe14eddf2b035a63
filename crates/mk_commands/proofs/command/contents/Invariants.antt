use Rattle.std.proofs.Common.{◌≡◌, ◌++◌, drop}
use Rattle.mk_commands.specs.Seen.{contents_of}
use Rattle.mk_commands.proofs.command.contents.Given as goal

-- the text so far, and the answers that are left
abbrev pub invariant-loop-answer : goal.invariant-loop-answer
invariant-loop-answer l =
    l.text ++ contents_of (drop l.answer-index l.seen) ≡ contents_of l.seen
