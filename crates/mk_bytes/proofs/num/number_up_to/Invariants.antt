use Rattle.std.proofs.Common.{◌≡◌, ◌≤◌, take, IsTrue}
use Rattle.mk_bytes.specs.Numbers.{are_digits, value}
use Rattle.mk_bytes.proofs.num.number_up_to.Given as goal

-- the bytes so far are digits, and this is their value, which is not too large
abbrev pub invariant-loop-byte : goal.invariant-loop-byte
invariant-loop-byte l = record {
  digits : IsTrue (are_digits 10 (take l.byte-index l.text));
  value : l.number ≡ value 10 (take l.byte-index l.text);
  small : l.number ≤ l.most;
}
