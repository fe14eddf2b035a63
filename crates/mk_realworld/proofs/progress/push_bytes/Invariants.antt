use Rattle.std.proofs.Common.{◌≡◌, ◌++◌, drop, flat_map}
use Rattle.mk_realworld.specs.Progress as spec
use Rattle.mk_realworld.proofs.progress.push_bytes.Given as goal

-- the bytes so far, and those that are left
abbrev pub invariant-loop-byte : goal.invariant-loop-byte
invariant-loop-byte l =
    l.line ++ flat_map spec.shown_byte (drop l.byte-index l.name)
    ≡ l.initial.line ++ flat_map spec.shown_byte l.name
