use Rattle.std.proofs.Common.{◌≡◌, ◌++◌, drop, flat_map}
use Rattle.mk_for.specs.Substitution.{quoted_byte, opening}
use Rattle.mk_for.proofs.form.push_written.Given as goal

-- the bytes so far, and the quoted bytes of the word that is left
abbrev pub invariant-loop-byte : goal.invariant-loop-byte
invariant-loop-byte l =
    l.out ++ flat_map (quoted_byte l.form) (drop l.byte-index l.word)
    ≡ l.fn.out ++ (opening l.form ++ flat_map (quoted_byte l.form) l.word)
