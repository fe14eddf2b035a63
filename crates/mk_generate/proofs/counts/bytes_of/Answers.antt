use Rattle.std.proofs.Common.{length, arith}
use Rattle.std.proofs.lemmas.Grind.{common_steps}
use Rattle.std.proofs.lemmas.List.FromFn.{sum_by-map-range_with_len_more}
use Rattle.mk_world.specs.History.{files_of}
use Rattle.mk_generate.specs.Counts as spec
use Rattle.mk_generate.specs.Input.{target}
use Rattle.mk_generate.proofs.counts.bytes_of.Goals as goal

pub loop-i-preserved : goal.loop-i-preserved
loop-i-preserved c =
    let i = c.loop-i.i in
    let files = files_of c.args.world.now.chronicle in
    let next = sum_by-map-range_with_len_more length (λ i. spec.text_at files (target i)) 0 i i (omega arith) in
    grind (arith, common_steps)
