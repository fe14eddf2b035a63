use Rattle.std.proofs.Common.{◌≡◌, ◌+◌, ◌∷◌, drop, arith}
use Rattle.std.proofs.lemmas.Grind.{common_steps}
use Rattle.mk_world.proofs.SinkLemmas.{OnErr-from}
use Rattle.mk_decision.proofs.paths.look_at_all.Goals as goal

pub returns-in_err-look_at-clause-some : goal.returns-in_err-look_at-clause-some
returns-in_err-look_at-clause-some g c =
    OnErr-from c.from_residual-in_err-look_at.result
    (c.in_err-look_at.ensures.some _ _ _ c.loop-path.invariant.seen)

pub loop-path-preserved : goal.loop-path-preserved
loop-path-preserved g c =
    let l = c.loop-path in
    let i = l.path-index in
    let paths = c.args.paths.now in
    let are : drop i paths ≡ c.bytes.result.now ∷ drop (i + 1) paths = grind (arith, common_steps) in
    record {
      children = λ kids runs. c.in_ok-look_at.ensures.children kids (l.invariant.children kids runs);
      seen = c.in_ok-look_at.ensures.seen _ _ _ (rw are at l.invariant.seen);
      newest = c.in_ok-look_at.ensures.newest _ l.invariant.newest;
      faults = grind (arith, common_steps);
    }
