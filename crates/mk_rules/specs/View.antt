-- How contracts see the rules.
use Rattle.std.specs.Prelude.{ℕ, Bool, List}
use Rattle.mk_graph.specs.Nodes.{Node}
use Rattle.mk_rules.specs.Rules.{Ruled}
use Rattle.mk_rules.specs.declared.rules.Everywhere.{Everywhere}

abbrev pub ruled_in : List Node → List (List ℕ) → List (List ℕ) → List (List ℕ) → List ℕ
    → Everywhere → Bool → Bool → List ℕ → Ruled
ruled_in nodes suffixes paths main targets everywhere one_job delete group = record {
  nodes = nodes;
  suffixes = suffixes;
  paths = paths;
  main = main;
  targets = targets;
  everywhere = everywhere;
  one_job = one_job;
  delete_on_error = delete;
  group = group;
}
