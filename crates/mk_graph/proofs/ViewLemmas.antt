-- Nodes by their names and by what they have beside them.
use Rattle.std.proofs.Common.{◌≡◌, ℕ, zero, suc, ◌<◌, List, [], ◌∷◌, ◌++◌, length, set}
use Rattle.std.proofs.Common.{get_or, false, Some, slice_get, refl, sym, ap, ◌∙◌, subst, arith}
use Rattle.std.proofs.Common.{length-set, length-append}
use Rattle.std.proofs.lemmas.List.{get_or_default}
use Rattle.std.proofs.lemmas.Option.{get_or_from_slice_get}
use Rattle.mk_graph.specs.Nodes.{Node, node_at, names_of, new_node, is_named, changed, AreLinked}
use Rattle.mk_graph.specs.Numbers.{AreBelow}
use Rattle.mk_graph.specs.View.{no_links, named, nodes_of, IsHeld}
use Rattle.mk_graph.specs.declared.links.Links.{Links}
use Rattle.mk_pool.specs.Pool.{is_held}
use Rattle.mk_graph.proofs.BelowLemmas.{AreLinked-more, AreLinked-append, AreLinked-set}
use Rattle.mk_graph.proofs.BelowLemmas.{AreLinked-at}

-- the nodes have these names
pub names_of-nodes_of : (names : List (List ℕ)) (all : List Links) → length all ≡ length names
    → names_of (nodes_of names all) ≡ names
names_of-nodes_of [] all is = refl
names_of-nodes_of (name ∷ names) [] is = absurd (omega (arith, is))
names_of-nodes_of (name ∷ names) (links ∷ all) is =
    ap (λ more. name ∷ more) (names_of-nodes_of names all (omega (arith, is)))

-- and are as many
length-nodes_of : (names : List (List ℕ)) (all : List Links) → length all ≡ length names
    → length (nodes_of names all) ≡ length names
length-nodes_of [] all is = refl
length-nodes_of (name ∷ names) [] is = absurd (omega (arith, is))
length-nodes_of (name ∷ names) (links ∷ all) is =
    omega (arith, length-nodes_of names all (omega (arith, is)))

-- the node of a number
node_at-nodes_of : (names : List (List ℕ)) (all : List Links) (n : ℕ) (links : Links)
    → length all ≡ length names → n < length names → links ≡ get_or all n links
    → node_at (nodes_of names all) n ≡ named (get_or names n []) links
node_at-nodes_of [] all n links is within at = absurd (omega arith)
node_at-nodes_of (name ∷ names) [] n links is within at = absurd (omega (arith, is))
node_at-nodes_of (name ∷ names) (other ∷ all) zero links is within at =
    ap (named name) (sym at)
node_at-nodes_of (name ∷ names) (other ∷ all) (suc n) links is within at =
    node_at-nodes_of names all n links (omega (arith, is)) (omega arith) at

-- one of them is changed
nodes_of-set : (names : List (List ℕ)) (all : List Links) (n : ℕ) (links : Links)
    → nodes_of names (set all n links)
    ≡ set (nodes_of names all) n (named (get_or names n []) links)
nodes_of-set [] all n links = refl
nodes_of-set (name ∷ names) [] n links = refl
nodes_of-set (name ∷ names) (other ∷ all) zero links = refl
nodes_of-set (name ∷ names) (other ∷ all) (suc n) links =
    ap (λ more. named name other ∷ more) (nodes_of-set names all n links)

-- one more goes last
nodes_of-append : (names : List (List ℕ)) (all : List Links) (name : List ℕ) (links : Links)
    → length all ≡ length names
    → nodes_of (names ++ name ∷ []) (all ++ links ∷ [])
    ≡ nodes_of names all ++ named name links ∷ []
nodes_of-append [] [] name links is = refl
nodes_of-append [] (other ∷ all) name links is = absurd (omega (arith, is))
nodes_of-append (one ∷ names) [] name links is = absurd (omega (arith, is))
nodes_of-append (one ∷ names) (other ∷ all) name links is =
    ap (λ more. named one other ∷ more) (nodes_of-append names all name links (omega (arith, is)))

-- Below: the nodes of a graph, by what the graph holds.
module _ (names : List (List ℕ)) (all : List Links) (nodes : List Node)
    (held : IsHeld names all) (are : nodes_of names all ≡ nodes) where
  pub names_are : names_of nodes ≡ names
  names_are = ap names_of (sym are) ∙ names_of-nodes_of names all held.as_many

  pub as_many_nodes : length nodes ≡ length names
  as_many_nodes = ap length (sym are) ∙ length-nodes_of names all held.as_many

  pub within_names : (n : ℕ) → n < length nodes → n < length names
  within_names n within = omega (arith, as_many_nodes)

  pub within_links : (n : ℕ) → n < length nodes → n < length all
  within_links n within = omega (arith, as_many_nodes, held.as_many)

  pub node_is : (n : ℕ) (links : Links) → n < length nodes → links ≡ get_or all n links
      → node_at nodes n ≡ named (get_or names n []) links
  node_is n links within at =
      ap (λ more. node_at more n) (sym are)
      ∙ node_at-nodes_of names all n links held.as_many (within_names n within) at

  pub name_is : (n : ℕ) (name : List ℕ) → n < length nodes → slice_get names n ≡ Some name
      → name ≡ (node_at nodes n).name
  name_is n name within at =
      let links = get_or all n no_links in
      let there = get_or_default all n no_links links (within_links n within) in
      sym (get_or_from_slice_get names n name [] at)
      ∙ ap (λ (node : Node). node.name) (sym (node_is n links within there))

  pub nodes_linked : AreLinked (length nodes) nodes
  nodes_linked = rw (as_many_nodes, ← are) held.linked

  pub sources_below : (n : ℕ) (links : Links) → n < length nodes → links ≡ get_or all n links
      → AreBelow (length nodes) links.sources
  sources_below n links within at =
      subst (λ (node : Node). AreBelow (length nodes) node.sources) (node_is n links within at)
      (AreLinked-at (length nodes) n nodes nodes_linked).0

  pub ordered_below : (n : ℕ) (links : Links) → n < length nodes → links ≡ get_or all n links
      → AreBelow (length nodes) links.ordered
  ordered_below n links within at =
      subst (λ (node : Node). AreBelow (length nodes) node.ordered) (node_is n links within at)
      (AreLinked-at (length nodes) n nodes nodes_linked).1

  -- one of them is changed
  pub changed_is : (n : ℕ) (old links : Links) (change : Node → Node) → n < length nodes
      → old ≡ get_or all n old
      → named (get_or names n []) links ≡ change (named (get_or names n []) old)
      → nodes_of names (set all n links) ≡ changed change nodes n
  changed_is n old links change within at is =
      nodes_of-set names all n links
      ∙ ap (λ more. set more n (named (get_or names n []) links)) are
      ∙ ap (λ node. set nodes n node) (is ∙ ap change (sym (node_is n old within at)))

  pub IsHeld-set : (n : ℕ) (links : Links) → AreBelow (length nodes) links.sources
      → AreBelow (length nodes) links.ordered → IsHeld names (set all n links)
  IsHeld-set n links sources ordered = record {
    as_many = length-set all n links ∙ held.as_many;
    linked =
        rw (nodes_of-set names all n links, are, ← as_many_nodes)
        (AreLinked-set (length nodes) n nodes (named (get_or names n []) links) nodes_linked
        sources ordered);
  }

  -- one more goes last
  pub IsHeld-append : (name : List ℕ) (more : List (List ℕ)) (grown : List Links)
      → more ≡ names ++ name ∷ [] → grown ≡ all ++ no_links ∷ [] → IsHeld more grown
  IsHeld-append name more grown are_more are_grown =
      let longer = length-append names (name ∷ []) in
      let larger = length-append all (no_links ∷ []) in
      rw (are_more, are_grown) (record {
        as_many = omega (arith, longer, larger, held.as_many);
        linked =
            rw (nodes_of-append names all name no_links held.as_many)
            (AreLinked-append (length (names ++ name ∷ [])) name (nodes_of names all)
            (AreLinked-more (length names) (length (names ++ name ∷ [])) (nodes_of names all)
            (omega (arith, longer)) held.linked));
      })

  pub added_is : (name : List ℕ) (more : List (List ℕ)) (grown : List Links)
      → more ≡ names ++ name ∷ [] → grown ≡ all ++ no_links ∷ []
      → nodes_of more grown ≡ nodes ++ new_node name ∷ []
  added_is name more grown are_more are_grown =
      rw (are_more, are_grown, nodes_of-append names all name no_links held.as_many, are) refl

  pub not_held : (name : List ℕ) → is_named nodes name ≡ false → is_held names name ≡ false
  not_held name absent = rw names_are at absent
