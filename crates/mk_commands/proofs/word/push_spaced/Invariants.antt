use Rattle.std.proofs.Common.{◌≡◌, ◌++◌, drop}
use Rattle.mk_commands.specs.Words as spec
use Rattle.mk_commands.proofs.word.push_spaced.Given as goal

-- the line so far, and the words that are left
abbrev pub invariant-loop-word : goal.invariant-loop-word
invariant-loop-word l =
    l.line ++ spec.spaced (spec.held (drop l.word-index l.words))
    ≡ l.initial.line ++ spec.spaced (spec.held l.words)
