use Rattle.std.proofs.Common.{drop}
use Rattle.mk_graph.proofs.PartLemmas.{IsPart}
use Rattle.mk_graph.proofs.PartStepLemmas.{sources_left}
use Rattle.mk_graph.specs.Macros.{macros_of, sources_parted}
use Rattle.mk_graph.specs.PartView.{state_of}
use Rattle.mk_graph.specs.Parts.{IsFit}
use Rattle.mk_graph.proofs.macros.part.Given as goal

-- what is left of the queue parts as all sources do
abbrev pub invariant-sources : goal.invariant-sources
invariant-sources l = record {
  fit : IsFit (macros_of l.nodes) l.stamp (state_of l.parting l.taken_by.items);
  parted : IsPart (macros_of l.nodes) l.stamp (state_of l.parting l.taken_by.items)
      (drop l.next l.parting.queue.items) (sources_parted (macros_of l.nodes) l.sources);
}

abbrev pub decreases-sources : goal.decreases-sources
decreases-sources l =
    sources_left (macros_of l.nodes) l.stamp (state_of l.parting l.taken_by.items) l.next
