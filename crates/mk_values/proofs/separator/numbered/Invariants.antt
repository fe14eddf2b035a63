use Rattle.std.proofs.Common.{◌≡◌, ◌+◌, ◌*◌, ◌≤◌, drop, fold}
use Rattle.mk_values.specs.Separators.{digit_value}
use Rattle.mk_values.proofs.separator.numbered.Given as goal

-- the number so far is that of a byte, and the digits that are left are yet to come
abbrev pub invariant-loop-digit : goal.invariant-loop-digit
invariant-loop-digit l = record {
  small : l.number ≤ 255;
  value :
      fold (λ n byte. l.base * n + digit_value byte) l.number (drop l.digit-index l.digits)
      ≡ fold (λ n byte. l.base * n + digit_value byte) 0 l.digits;
}
