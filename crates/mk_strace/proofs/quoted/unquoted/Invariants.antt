use Rattle.std.proofs.Common.{◌≡◌, length}
use Rattle.mk_strace.specs.Quoted.{unquoted, unquoted_behind}
use Rattle.mk_strace.proofs.QuotedLemmas.{behind_bytes}
use Rattle.mk_strace.proofs.quoted.unquoted.Given as goal

-- the bytes so far, and those of the rest
abbrev pub invariant-bytes : goal.invariant-bytes
invariant-bytes l = behind_bytes l.out (unquoted_behind l.escape l.rest) ≡ unquoted l.text

abbrev pub decreases-bytes : goal.decreases-bytes
decreases-bytes l = length l.rest
