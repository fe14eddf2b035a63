-- Graphs whose targets took their macros.
use Rattle.std.proofs.Common.{◌≡◌, ℕ, List, [], ◌∷◌, length, map, refl, ap, ◌∙◌}
use Rattle.std.proofs.Common.{arith}
use Rattle.mk_graph.specs.Macros.{links_of, all_with_macros, graph_with_macros}
use Rattle.mk_graph.specs.Parts.{HaveBelow}
use Rattle.mk_graph.specs.Nodes.{Node, AreLinked}
use Rattle.mk_graph.specs.View.{nodes_of, IsHeld}
use Rattle.mk_graph.specs.declared.links.Links.{Links}
use Rattle.mk_graph.proofs.ViewLemmas.{names_of-nodes_of}

-- what nodes refer to is there, with and without their names
HaveBelow-linked : (bound : ℕ) (names : List (List ℕ)) (all : List Links)
    → length all ≡ length names → AreLinked bound (nodes_of names all) → HaveBelow bound all
HaveBelow-linked bound [] [] is linked = tt
HaveBelow-linked bound [] (links ∷ all) is linked = absurd (omega (arith, is))
HaveBelow-linked bound (name ∷ names) [] is linked = tt
HaveBelow-linked bound (name ∷ names) (links ∷ all) is linked =
    (linked.0, linked.1, HaveBelow-linked bound names all (omega (arith, is)) linked.2)

linked-HaveBelow : (bound : ℕ) (names : List (List ℕ)) (all : List Links) → HaveBelow bound all
    → AreLinked bound (nodes_of names all)
linked-HaveBelow bound [] all below = tt
linked-HaveBelow bound (name ∷ names) [] below = tt
linked-HaveBelow bound (name ∷ names) (links ∷ all) below =
    (below.0, below.1, linked-HaveBelow bound names all below.2)

-- what a graph holds is below the number of its nodes
pub held_below : (names : List (List ℕ)) (all : List Links) → IsHeld names all
    → HaveBelow (length all) all
held_below names all held =
    HaveBelow-linked (length all) names all held.as_many (rw held.as_many held.linked)

-- and is held again once it was changed
pub held_again : (names : List (List ℕ)) (all new : List Links) → IsHeld names all
    → length new ≡ length all → HaveBelow (length all) new → IsHeld names new
held_again names all new held as_many below = record {
  as_many = as_many ∙ held.as_many;
  linked = linked-HaveBelow (length names) names new (rw held.as_many at below);
}

-- what nodes have beside their names
links_of-nodes_of : (names : List (List ℕ)) (all : List Links) → length all ≡ length names
    → map links_of (nodes_of names all) ≡ all
links_of-nodes_of [] [] is = refl
links_of-nodes_of [] (links ∷ all) is = absurd (omega (arith, is))
links_of-nodes_of (name ∷ names) [] is = absurd (omega (arith, is))
links_of-nodes_of (name ∷ names) (links ∷ all) is =
    ap (λ more. links ∷ more) (links_of-nodes_of names all (omega (arith, is)))

-- targets that took their macros
pub with_macros-is : (names : List (List ℕ)) (all new : List Links) (nodes : List Node)
    → IsHeld names all → nodes_of names all ≡ nodes → new ≡ all_with_macros all
    → nodes_of names new ≡ graph_with_macros nodes
with_macros-is names all new nodes held are is =
    rw (
      is,
      ← are,
      names_of-nodes_of names all held.as_many,
      links_of-nodes_of names all held.as_many,
    ) refl
