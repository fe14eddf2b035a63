use Rattle.std.proofs.Common.{◌≡◌, drop, map, flat_map}
use Rattle.mk_listing.specs.Graphs.{edge}
use Rattle.mk_listing.specs.Lists.{all_noted}
use Rattle.mk_listing.specs.Looks.{reads_in}
use Rattle.mk_listing.proofs.edge.add_edges.Given as goal

-- the edges so far, and those of the records that are left
abbrev pub invariant-loop-one : goal.invariant-loop-one
invariant-loop-one l =
    all_noted l.edges (flat_map (λ one. map (edge l.target) (reads_in one.op))
    (drop l.one-index l.records))
    ≡ all_noted l.initial.edges (flat_map (λ one. map (edge l.target) (reads_in one.op)) l.records)
