use Rattle.std.proofs.Common.{◌≡◌, drop}
use Rattle.mk_cli.specs.Words.{read_words}
use Rattle.mk_cli.proofs.command_line.read_all.Given as goal

-- the words that are left, read from here, give what all words give
abbrev pub invariant-loop-place : goal.invariant-loop-place
invariant-loop-place l =
    read_words l.cwd l.place l.reading (drop l.place l.words)
    ≡ read_words l.cwd 0 l.initial.reading l.words
