use Rattle.std.proofs.Common.{◌≡◌, ◌∙◌, ◌<◌, ◌≤◌, ℕ, Ok, length, inl, inr, arith}
use Rattle.std.proofs.lemmas.Bool.Decides.{nat_tests}
use Rattle.std.proofs.lemmas.Grind.{common_steps}
use Rattle.std.proofs.lemmas.Result.{err_from_is_err_and}
use Rattle.mk_dry.proofs.EndLemmas.{all-nodes, over-at, stopped-by}
use Rattle.mk_dry.proofs.LineLemmas.{was-ended}
use Rattle.mk_child.specs.declared.halt.Halt.TheVariants.{Sink, World}
use Rattle.mk_world.specs.Causes.{HasCause}
use Rattle.mk_dry.proofs.running.pass_all.Goals as goal

same-count : {A E : Type 0} (failed : E) (before after : ℕ) (given : A)
    → HasCause failed before after (Ok given) → after ≡ before
same-count failed before after given cause =
    let none : before < after → ⊥ = λ rose. let is = cause.answered rose in absurd cc in
    let kept : before ≤ after = cause.kept in omega (arith, none)

pub nodes-preserved : goal.nodes-preserved
nodes-preserved g c =
    let l = c.nodes in
    let more : l.node < length l.course.plan = grind (arith, nat_tests, common_steps) in
    let long = c.in_ok-pass_node.ensures.length in
    record {
      alone = c.in_ok-pass_node.ensures.alone;
      within = omega (arith, more, long);
      gone = c.in_ok-pass_node.ensures.gone;
      goes = λ from at. c.in_ok-pass_node.ensures.goes.goes from (l.invariant.goes from at);
      world_faults = same-count World _ _ _ c.in_ok-pass_node.ensures.world_cause
          ∙ l.invariant.world_faults;
      sink_faults = same-count Sink _ _ _ c.in_ok-pass_node.ensures.sink_cause
          ∙ l.invariant.sink_faults;
    }

pub returns-in_err-pass_node-clause-goes : goal.returns-in_err-pass_node-clause-goes
returns-in_err-pass_node-clause-goes g c =
    let p = err_from_is_err_and c.from_residual.result c.from_residual.ensures.1 in
    was-ended p.0 p.1 (rw p.2 (λ from at.
    c.in_err-pass_node.ensures.goes.ends from (c.nodes.invariant.goes from at)))

pub returns-else-not-is_stopped_by-clause-goes : goal.returns-else-not-is_stopped_by-clause-goes
returns-else-not-is_stopped_by-clause-goes g c =
    let l = c.nodes in
    record {
      goes = λ from at. over-at g.W.World.meaning from.start c.args.made.now c.args.flags.now (g.W.World.history l.world) l.course
          l.node from.first (g.S.Sink.held l.out) l.invariant.gone
          (inr (stopped-by l.course.plan c.args.made.now c.args.flags.now l.course.nodes.items
          l.course.failure l.node c.is_stopped_by.result l.invariant.gone c.is_stopped_by.ensures
          ∙ c.if-not-is_stopped_by.false))
          (l.invariant.goes from at);
      ends = tt;
    }

pub returns-after-nodes-clause-goes : goal.returns-after-nodes-clause-goes
returns-after-nodes-clause-goes g c =
    let l = c.nodes in
    let none : length l.course.plan ≤ l.node = grind (arith, nat_tests, common_steps) in
    record {
      goes = λ from at. over-at g.W.World.meaning from.start c.args.made.now c.args.flags.now (g.W.World.history l.world) l.course
          l.node from.first (g.S.Sink.held l.out) l.invariant.gone
          (inl (all-nodes l.course.plan c.args.made.now c.args.flags.now l.course.nodes.items l.course.failure
          l.node l.node l.invariant.gone none))
          (l.invariant.goes from at);
      ends = tt;
    }
