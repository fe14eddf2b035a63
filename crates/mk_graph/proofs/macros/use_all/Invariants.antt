use Rattle.std.proofs.Common.{◌≡◌, ◌≤◌, ◌++◌, ℕ, length, get_or, map, take, drop}
use Rattle.mk_graph.specs.Macros.{macros_of, with_macros}
use Rattle.mk_graph.specs.Parts.{HaveBelow}
use Rattle.mk_graph.proofs.macros.use_all.Given as goal

-- the targets so far have what they take, and the others stand as they were
abbrev pub invariant-loop-place : goal.invariant-loop-place
invariant-loop-place l = record {
  so_far : l.nodes.items
      ≡ map (with_macros (macros_of l.initial.nodes.items)) (take l.place l.initial.nodes.items)
      ++ drop l.place l.initial.nodes.items;
  as_many : length l.nodes.items ≡ length l.initial.nodes.items;
  below : HaveBelow (length l.initial.nodes.items) l.nodes.items;
  stamps : length l.taken_by.items ≡ length l.initial.nodes.items;
  old : (n : ℕ) → get_or l.taken_by.items n 0 ≤ l.place;
}
