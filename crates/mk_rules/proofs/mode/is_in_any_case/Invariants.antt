use Rattle.std.proofs.Common.{◌≡◌, length, drop}
use Rattle.mk_rules.specs.Modes as spec
use Rattle.mk_rules.proofs.mode.is_in_any_case.Given as goal

-- what is left decides
abbrev pub invariant-loop-place : goal.invariant-loop-place
invariant-loop-place l = record {
  same : length l.word ≡ length l.value;
  left : spec.is_in_any_case l.word l.value
      ≡ spec.is_in_any_case (drop l.place l.word) (drop l.place l.value);
}
