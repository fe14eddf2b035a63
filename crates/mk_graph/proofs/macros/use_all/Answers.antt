use Rattle.std.proofs.Common.{ap, ◌∙◌, length, arith, length-set}
use Rattle.mk_graph.proofs.UseLemmas.{one-more}
use Rattle.mk_graph.proofs.macros.use_all.Goals as goal

pub loop-place-preserved : goal.loop-place-preserved
loop-place-preserved c =
    let kept = c.loop-place.invariant in
    let all = c.args.nodes.now.items in
    let now = c.loop-place.nodes.items in
    record {
      so_far = one-more all now c.use_at.new.nodes.items c.loop-place.place
          (omega (arith, c.loop-place-test.true, c.args.nodes.now.ok.0)) kept.so_far
          (omega (arith, c.loop-place-test.true, kept.as_many, c.args.nodes.now.ok.0))
          c.in_ok-use_at.ensures.ok;
      as_many = ap length c.in_ok-use_at.ensures.ok ∙ length-set now c.loop-place.place _
          ∙ kept.as_many;
      below = rw kept.as_many at c.in_ok-use_at.ensures.nodes;
      stamps = c.in_ok-use_at.ensures.stamps ∙ kept.as_many;
      old = c.in_ok-use_at.ensures.old;
    }
