use Rattle.std.proofs.Common.{◌≡◌, ◌≤◌, length, drop, []}
use Rattle.mk_graph.specs.Numbers.{AreBelow}
use Rattle.mk_rules.specs.Names as spec
use Rattle.mk_rules.proofs.names.all_named.Given as goal

-- the names that are left, behind the nodes so far
abbrev pub invariant-loop-name : goal.invariant-loop-name
invariant-loop-name l = record {
  named : spec.all_named l.fn.graph [] l.names
      ≡ spec.all_named l.graph l.nodes (drop l.name-index l.names);
  below : AreBelow (length l.graph) l.nodes;
  longer : length l.fn.graph ≤ length l.graph;
}
