use Rattle.std.proofs.Common.{◌≡◌, drop}
use Rattle.mk_rules.specs.Modes as spec
use Rattle.mk_rules.proofs.mode.mode_by.Given as goal

-- the words that are left, behind those so far
abbrev pub invariant-loop-word : goal.invariant-loop-word
invariant-loop-word l =
    spec.mode_by l.words l.fn.ignore_paths l.fn.exports l.one_job l.delete_on_error
    ≡ spec.with_words l.mode (drop l.word-index l.words)
