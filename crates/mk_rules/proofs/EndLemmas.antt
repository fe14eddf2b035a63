-- Marks of all targets, node by node.
use Rattle.std.proofs.Common.{◌≡◌, ◌<◌, ◌∙◌, ℕ, zero, suc, Bool, true, false, List, [], ◌∷◌, length, map, set}
use Rattle.std.proofs.Common.{refl, sym, ap, arith}
use Rattle.std.proofs.lemmas.Bool.{cond_both}
use Rattle.std.proofs.lemmas.List.{get_or-set_same, set-get_or, length-map}
use Rattle.mk_graph.specs.Macros.{all_with_macros, graph_with_macros, links_of, macros_of, with_macros}
use Rattle.mk_graph.specs.Nodes.{Node, names_of, new_node, node_at}
use Rattle.mk_graph.specs.View.{nodes_of}
use Rattle.mk_graph.specs.declared.links.Links.{Links}
use Rattle.mk_graph.specs.declared.attr.Attr.{Attr}
use Rattle.mk_graph.specs.declared.attr.Attr.TheVariants as attr
use Rattle.mk_rules.specs.Ends.{also, node_also, node_everywhere, target_also}
use Rattle.mk_rules.specs.declared.rules.Everywhere.{Everywhere}

set-set : {A : Type 0} (l : List A) (i : ℕ) (a b : A) → set (set l i a) i b ≡ set l i b
set-set [] i a b = refl
set-set (x ∷ l) zero a b = refl
set-set (x ∷ l) (suc i) a b = ap (λ more. x ∷ more) (set-set l i a b)

abbrev also-node : Bool → Attr → Node → Node
also-node holds attr node = record node { marks = also holds attr node.marks }

-- one mark more, or none
node_also-is : (holds : Bool) (attr : Attr) (nodes : List Node) (n : ℕ)
    → node_also holds attr nodes n ≡ set nodes n (also-node holds attr (node_at nodes n))
node_also-is true attr nodes n = refl
node_also-is false attr nodes n = sym (set-get_or nodes n (new_node []))

-- and one more of a node that was set
node_also-on : (holds : Bool) (attr : Attr) (nodes : List Node) (n : ℕ) (node : Node)
    → n < length nodes
    → node_also holds attr (set nodes n node) n ≡ set nodes n (also-node holds attr node)
node_also-on holds attr nodes n node within =
    node_also-is holds attr (set nodes n node) n
    ∙ ap (λ one. set (set nodes n node) n (also-node holds attr one))
    (get_or-set_same nodes n node (new_node []) within)
    ∙ set-set nodes n node (also-node holds attr node)

-- so all marks of a target
pub target_also-is : (all : Everywhere) (nodes : List Node) (n : ℕ) → n < length nodes
    → target_also all nodes n ≡ set nodes n (node_everywhere all (node_at nodes n))
target_also-is all nodes n within =
    let node = node_at nodes n in
    let first = also-node all.precious attr.Precious node in
    let second = also-node all.silent attr.Silent first in
    let last = also-node all.ignore attr.Ignore second in
    let marked : node_also all.ignore attr.Ignore (node_also all.silent attr.Silent
    (node_also all.precious attr.Precious nodes n) n) n ≡ set nodes n last =
    ap (λ l. node_also all.ignore attr.Ignore (node_also all.silent attr.Silent l n) n)
    (node_also-is all.precious attr.Precious nodes n)
    ∙ ap (λ l. node_also all.ignore attr.Ignore l n)
    (node_also-on all.silent attr.Silent nodes n first within)
    ∙ node_also-on all.ignore attr.Ignore nodes n second within in
    cond_both node.marks.target last node
    (λ one. target_also all nodes n ≡ set nodes n one)
    (λ target. rw target marked)
    (λ other. rw other (sym (set-get_or nodes n (new_node []))))

length-nodes_of : (names : List (List ℕ)) (all : List Links) → length all ≡ length names
    → length (nodes_of names all) ≡ length names
length-nodes_of [] all is = refl
length-nodes_of (name ∷ names) [] is = absurd (omega (arith, is))
length-nodes_of (name ∷ names) (links ∷ all) is =
    omega (arith, length-nodes_of names all (omega (arith, is)))

-- macros add no node
pub length_macros : (nodes : List Node) → length (graph_with_macros nodes) ≡ length nodes
length_macros nodes =
    let links = map links_of nodes in
    let names = length-map nodes (λ (node : Node). node.name) in
    let same : length (all_with_macros links) ≡ length (names_of nodes) =
    length-map links (with_macros (macros_of links)) ∙ length-map nodes links_of ∙ sym names in
    length-nodes_of (names_of nodes) (all_with_macros links) same ∙ names
