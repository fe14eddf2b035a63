use Rattle.std.proofs.Common.{◌≢◌, length, sym, arith}
use Rattle.std.proofs.lemmas.Bool.Decides.{nat_tests}
use Rattle.mk_rules.proofs.ModeLemmas.{any_case_lengths}
use Rattle.mk_rules.proofs.mode.is_in_any_case.Goals as goal

pub returns-then-word-value : goal.returns-then-word-value
returns-then-word-value c =
    let other : length c.args.word.now ≢ length c.args.value.now =
    λ same. let never : ⊥ = grind (arith, nat_tests) in never in
    sym (any_case_lengths c.args.word.now c.args.value.now other)
