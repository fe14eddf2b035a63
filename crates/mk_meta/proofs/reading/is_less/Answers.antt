use Rattle.std.proofs.Common.{refl, Some}
use Rattle.std.specs.Cmp.Lexicographic.{lists_agrees}
use Rattle.std.specs.Ordering.{nat_cmp}
use Rattle.mk_meta.proofs.reading.is_less.Goals as goal

pub returns : goal.returns
returns c =
    let agrees = lists_agrees {R = nat_cmp} {C = λ one other. Some (nat_cmp one other)} (λ one other. refl) in
    rw (c.lt.ensures, agrees c.args.name.now c.args.other.now) refl
