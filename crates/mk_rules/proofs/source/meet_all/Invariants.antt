use Rattle.std.proofs.Common.{◌≡◌, ◌≤◌, length, drop}
use Rattle.mk_rules.specs.SourceView.{AreMet, met_in}
use Rattle.mk_rules.specs.Sources as spec
use Rattle.mk_rules.proofs.source.meet_all.Given as goal

-- what is left is met behind what was met
abbrev pub invariant-loop-word : goal.invariant-loop-word
invariant-loop-word l = record {
  met : spec.all_met (spec.none_met l.fn.graph) l.words
      ≡ spec.all_met (met_in l.graph l.sources) (drop l.word-index l.words);
  are : AreMet (length l.graph) l.sources;
  longer : length l.fn.graph ≤ length l.graph;
}
