use Rattle.std.proofs.Common.{ap, ◌∙◌}
use Rattle.mk_memworld.specs.Outages.{first_outages}
use Rattle.mk_generate.proofs.InsideLemmas.{runs-inside}
use Rattle.mk_generate.proofs.inside.run_inside.Goals as goal

pub returns-clause-runs : goal.returns-clause-runs
returns-clause-runs c =
    let new_out = c.in_ok-out.out in
    let new_err = c.in_ok-err.err in
    runs-inside c.args.request.now c.args.world.now c.run_order.new.world new_out new_err
    c.run_order.new.out c.run_order.new.err c.run_order.result c.requires.asked
    c.in_ok-out.ensures.held c.in_ok-err.ensures.held
    (c.in_ok-out.ensures.outages ∙ ap first_outages c.in_ok-new.ensures.empty)
    (c.in_ok-err.ensures.outages ∙ ap first_outages c.in_ok-new-2.ensures.empty)
    c.run_order.ensures.ran c.run_order.ensures.world_fault c.run_order.ensures.sink_fault
