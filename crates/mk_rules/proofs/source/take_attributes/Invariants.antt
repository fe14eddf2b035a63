use Rattle.std.proofs.Common.{◌≡◌, length, drop}
use Rattle.mk_graph.specs.Numbers.{AreBelow}
use Rattle.mk_rules.specs.Sources as spec
use Rattle.mk_rules.proofs.source.take_attributes.Given as goal

-- what is left marks like all
abbrev pub invariant-loop-word : goal.invariant-loop-word
invariant-loop-word l = record {
  below : AreBelow (length l.graph) l.targets;
  marked : spec.attributes_taken l.targets l.fn.graph l.words
      ≡ spec.attributes_taken l.targets l.graph (drop l.word-index l.words);
  same : length l.graph ≡ length l.fn.graph;
}
