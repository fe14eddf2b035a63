use Rattle.std.proofs.Common.{◌≡◌, ◌++◌, drop}
use Rattle.fmrun.specs.Words as spec
use Rattle.fmrun.proofs.word.push_spaced.Given as goal

-- the line so far, and the words that are left
abbrev pub invariant-loop-word : goal.invariant-loop-word
invariant-loop-word l =
    l.line ++ spec.spaced (drop l.word-index l.words)
    ≡ l.initial.line ++ spec.spaced l.words
