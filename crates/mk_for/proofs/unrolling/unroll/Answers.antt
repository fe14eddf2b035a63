use Rattle.std.proofs.Common.{sym, arith}
use Rattle.std.proofs.lemmas.List.FromFn.{map-range_with_len_more}
use Rattle.mk_for.specs.Turns.{body_of}
use Rattle.mk_for.proofs.unrolling.unroll.Goals as goal

pub loop-k-preserved : goal.loop-k-preserved
loop-k-preserved c =
    let make = body_of c.args.body.now c.args.names.now c.args.words.now in
    let k = c.loop-k.k in
    rw (c.in_ok-push.ensures.ok, c.in_ok-turn.ensures.value, c.loop-k.invariant)
    (sym (map-range_with_len_more make 0 k k (omega arith)))
