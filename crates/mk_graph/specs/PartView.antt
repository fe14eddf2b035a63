-- How far a target has come with its sources, as plain lists.
use Rattle.std.specs.Prelude.{ℕ, List}
use Rattle.mk_graph.specs.Macros.{Parted}
use Rattle.mk_graph.specs.Parts.{State}
use Rattle.mk_graph.specs.declared.links.Links.{Links}
use Rattle.mk_graph.specs.declared.macros.Parting.{Parting}
use Rattle.mk_graph.specs.declared.macros.Taken.{Taken}

abbrev pub state_of : Parting → List ℕ → State
state_of parting stamps = record {
  queue = parting.queue.items;
  kept = parting.kept;
  taken = parting.taken;
  stamps = stamps;
}

abbrev pub parted_of : Parting → Parted
parted_of parting = record { kept = parting.kept; taken = parting.taken }

-- a target with what it takes
abbrev pub with_parts : Links → Taken → Links
with_parts own taken = record {
  sources = taken.sources;
  ordered = own.ordered;
  commands = taken.commands;
  marks = taken.marks;
}
