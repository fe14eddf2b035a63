use Rattle.std.proofs.Common.{◌≡◌, length, replicate, arith}
use Rattle.std.proofs.lemmas.Grind.{common_steps}
use Rattle.mk_closure.proofs.PartLemmas.{IsHeld-first}
use Rattle.mk_closure.specs.Parts.{open_part}
use Rattle.mk_closure.proofs.closure.Closure.new.Goals as goal

pub invariant_of-result : goal.invariant_of-result
invariant_of-result c =
    let parts : c.in_ok-vec.field-0.items ≡ replicate (length c.args.graph.now) open_part =
    grind (arith, common_steps) in
    rw (c.in_ok-new.ensures, parts)
    (IsHeld-first c.args.graph.now c.len.ensures.graph.limit)
