use Rattle.std.proofs.Common.{◌∙◌, arith}
use Rattle.mk_graph.proofs.PartStepLemmas.{first_fit, first_part, node_within, step_is}
use Rattle.mk_graph.proofs.PartLemmas.{IsPart-over}
use Rattle.mk_graph.proofs.PartFitLemmas.{length-macros}
use Rattle.mk_graph.specs.Macros.{macros_of}
use Rattle.mk_graph.specs.PartView.{state_of}
use Rattle.mk_graph.proofs.macros.part.Goals as goal

pub sources-init : goal.sources-init
sources-init c =
    let queue = c.in_ok-from_slice.ensures.items ∙ c.as_slice.ensures.value in
    let kept = rw c.unwrap.ensures at c.new.ensures.empty in
    let taken = rw c.unwrap-2.ensures at c.new-2.ensures.empty in
    record {
      fit = first_fit c.args.nodes.now c.args.stamp c.in_ok-from_slice.field-0.items
          c.unwrap.result c.unwrap-2.result c.args.taken_by.now.items c.args.sources.now
          queue kept taken c.requires.stamps
          c.requires.fresh c.requires.sources;
      parted = first_part c.args.nodes.now c.args.stamp c.in_ok-from_slice.field-0.items
          c.unwrap.result c.unwrap-2.result c.args.taken_by.now.items c.args.sources.now
          queue kept taken c.requires.fresh;
    }

pub go_through-requires-clause-node : goal.go_through-requires-clause-node
go_through-requires-clause-node c =
    let queue = c.sources.parting.queue in
    omega (
      arith,
      length-macros c.args.nodes.now,
      node_within _ queue.items c.sources.next c.index-n.result.now
          (omega (arith, c.sources-test.true, c.len.ensures, queue.ok.0)) c.index-n.ensures
          c.sources.invariant.fit.queue,
    )

pub sources-smaller : goal.sources-smaller
sources-smaller c =
    let queue = c.sources.parting.queue in
    let step = step_is c.args.nodes.now c.args.stamp
    (state_of c.sources.parting c.sources.taken_by.items)
    (state_of c.go_through.new.parting c.go_through.new.taken_by.items) c.sources.next
    c.index-n.result.now _ c.requires.nodes
    (omega (arith, c.sources-test.true, c.len.ensures, queue.ok.0)) c.index-n.ensures
    c.in_ok-go_through.ensures c.sources.invariant.fit c.sources.invariant.parted in
    step.fewer

pub sources-preserved : goal.sources-preserved
sources-preserved c =
    let queue = c.sources.parting.queue in
    let step = step_is c.args.nodes.now c.args.stamp
    (state_of c.sources.parting c.sources.taken_by.items)
    (state_of c.go_through.new.parting c.go_through.new.taken_by.items) c.sources.next
    c.index-n.result.now _ c.requires.nodes
    (omega (arith, c.sources-test.true, c.len.ensures, queue.ok.0)) c.index-n.ensures
    c.in_ok-go_through.ensures c.sources.invariant.fit c.sources.invariant.parted in
    record { fit = step.fit; parted = step.parted }

pub returns-clause-parted : goal.returns-clause-parted
returns-clause-parted c =
    IsPart-over (macros_of c.args.nodes.now) c.args.stamp
    (state_of c.sources.parting c.sources.taken_by.items) c.sources.next _
    (omega (arith, c.sources-test.false, c.len.ensures, c.sources.parting.queue.ok.0))
    c.sources.invariant.parted
