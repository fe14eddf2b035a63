use Rattle.std.proofs.Common.{◌≡◌, ◌*◌, ◌-◌, ◌≤◌, ◌^◌}
use Rattle.mk_world.specs.History.{files_of}
use Rattle.mk_generate.specs.Counts as spec
use Rattle.mk_generate.proofs.counts.bytes_of.Given as goal

-- the bytes of the files so far
abbrev pub invariant-loop-i : goal.invariant-loop-i
invariant-loop-i l = record {
  sum : l.bytes ≡ spec.bytes_of l.i (files_of l.world.chronicle);
  small : l.bytes ≤ (2 ^ 32 - 1) * l.i;
}
