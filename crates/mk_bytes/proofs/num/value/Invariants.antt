use Rattle.std.proofs.Common.{◌≡◌, ◌^◌, ◌<◌, take, IsTrue}
use Rattle.mk_bytes.specs.Numbers as spec
use Rattle.mk_bytes.proofs.num.value.Given as goal

-- the bytes so far are digits, and this is their value, which they are enough to write
abbrev pub invariant-loop-byte : goal.invariant-loop-byte
invariant-loop-byte l = record {
  digits : IsTrue (spec.are_digits l.base (take l.byte-index l.digits));
  value : l.value ≡ spec.value l.base (take l.byte-index l.digits);
  small : l.value < l.base ^ l.byte-index;
}
