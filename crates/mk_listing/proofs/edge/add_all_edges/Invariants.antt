use Rattle.std.proofs.Common.{◌≡◌, drop, flat_map}
use Rattle.mk_listing.specs.Graphs.{edges_of}
use Rattle.mk_listing.specs.Lists.{all_noted}
use Rattle.mk_listing.proofs.edge.add_all_edges.Given as goal

-- the edges so far, and those of the jobs that are left
abbrev pub invariant-loop-meta : goal.invariant-loop-meta
invariant-loop-meta l =
    all_noted l.edges (flat_map edges_of (drop l.meta-index l.metas))
    ≡ all_noted l.initial.edges (flat_map edges_of l.metas)
