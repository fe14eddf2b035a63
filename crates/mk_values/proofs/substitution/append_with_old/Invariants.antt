use Rattle.std.proofs.Common.{◌≡◌, drop}
use Rattle.mk_values.specs.Limits.{appended}
use Rattle.mk_values.specs.Substitutions.{with_old}
use Rattle.mk_values.proofs.substitution.append_with_old.Given as goal

-- the text so far, and the bytes that are left
abbrev pub invariant-loop-byte : goal.invariant-loop-byte
invariant-loop-byte l =
    appended l.text (with_old l.old (drop l.byte-index l.bytes))
    ≡ appended l.initial.text (with_old l.old l.bytes)
