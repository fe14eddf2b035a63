-- Look-ups of names among those of the nodes that are so.
use Rattle.std.proofs.Common.{◌≡◌, ◌≢◌, ◌↔◌, ◌∙◌, ◌==◌, ℕ, zero, suc, ◌<◌, true, false, Bool, IsTrue, List, [], ◌∷◌, length, get_or, Option, Some, None, is_some, is_none, IfSome}
use Rattle.std.proofs.Common.{refl, sym, arith}
use Rattle.std.proofs.Math.ListN.{get_or-map}
use Rattle.std.proofs.lemmas.Bool.{cond_both, false_from_ne_true}
use Rattle.std.proofs.lemmas.Bool.Decides.{nat_tests}
use Rattle.std.proofs.lemmas.List.{length-map, nil_from_length}
use Rattle.std.proofs.lemmas.List.Quantifiers.{position-Some}
use Rattle.std.proofs.lemmas.Slice.Eq.{bytes_eq-Decides}
use Rattle.std.specs.Str.{bytes_eq}
use Rattle.mk_graph.specs.Nodes.{Node, IsGraph, names_of, new_node, node_at, number_of, is_named}
use Rattle.mk_pool.proofs.PoolLemmas.{not_held}
use Rattle.mk_pool.specs.Pool.{AreDistinct}
use Rattle.mk_graph.specs.Where.{is_listed, names_where}

-- an empty list is one of length 0
pub empty-tells : {A : Type 0} (empty : Bool) (items : List A) → IsTrue empty ↔ (items ≡ [])
    → empty ≡ (length items == 0)
empty-tells true [] tells = refl
empty-tells false [] tells = let is : IsTrue false = tells.1 refl in absurd cc
empty-tells true (item ∷ items) tells = let is : (item ∷ items) ≡ [] = tells.0 refl in absurd cc
empty-tells false (item ∷ items) tells = grind (arith, nat_tests)

differ : (one other : List ℕ) → one ≢ other → bytes_eq one other ≡ false
differ one other apart = false_from_ne_true _ (λ is. apart ((bytes_eq-Decides one other).0 is))

-- no node has this name
abbrev NoneIs : List Node → List ℕ → Type 0
NoneIs nodes name = (i : ℕ) → i < length nodes → (node_at nodes i).name ≢ name

-- no two nodes have one name
abbrev Differ : List Node → Type 0
Differ nodes = (i j : ℕ) → i < j → j < length nodes → (node_at nodes i).name ≢ (node_at nodes j).name

not_listed : (is_so : Node → Bool) (nodes : List Node) (name : List ℕ) → NoneIs nodes name
    → is_listed (names_where is_so nodes) name ≡ false
not_listed is_so [] name none = refl
not_listed is_so (node ∷ nodes) name none =
    let here = differ node.name name (none 0 (omega arith)) in
    let more = not_listed is_so nodes name (λ i within. none (suc i) (omega arith)) in
    cond_both (is_so node) (node.name ∷ names_where is_so nodes) (names_where is_so nodes)
    (λ names. is_listed names name ≡ false) (λ holds. rw here more) (λ other. more)

listed_at : (is_so : Node → Bool) (nodes : List Node) (name : List ℕ) (n : ℕ) → Differ nodes
    → n < length nodes → (node_at nodes n).name ≡ name
    → is_so (node_at nodes n) ≡ is_listed (names_where is_so nodes) name
listed_at is_so [] name n differs within is = absurd (omega arith)
listed_at is_so (node ∷ nodes) name zero differs within is =
    let here = (bytes_eq-Decides node.name name).1 is in
    let later = not_listed is_so nodes name
    (λ i at same. differs 0 (suc i) (omega arith) (omega arith) (is ∙ sym same)) in
    cond_both (is_so node) (node.name ∷ names_where is_so nodes) (names_where is_so nodes)
    (λ names. is_so node ≡ is_listed names name) (λ holds. holds ∙ sym (rw here refl))
    (λ other. other ∙ sym later)
listed_at is_so (node ∷ nodes) name (suc n) differs within is =
    let apart = differ node.name name
    (λ same. differs 0 (suc n) (omega arith) within (same ∙ sym is)) in
    let more = listed_at is_so nodes name n
    (λ i j before at. differs (suc i) (suc j) (omega arith) (omega arith)) (omega arith) is in
    cond_both (is_so node) (node.name ∷ names_where is_so nodes) (names_where is_so nodes)
    (λ names. is_so (node_at nodes n) ≡ is_listed names name) (λ holds. rw apart more)
    (λ other. more)

name-at : (nodes : List Node) (i : ℕ) → get_or (names_of nodes) i [] ≡ (node_at nodes i).name
name-at nodes i = get_or-map (λ (node : Node). node.name) nodes i (new_node [])

names-differ : (nodes : List Node) → AreDistinct (names_of nodes) → Differ nodes
names-differ nodes distinct i j before within same =
    distinct i j [] before (rw (length-map nodes (λ (node : Node). node.name)) within)
    (name-at nodes i ∙ same ∙ sym (name-at nodes j))

-- the node of a name tells of it alone
pub listed-found : (is_so : Node → Bool) (nodes : List Node) (name : List ℕ) (n : ℕ)
    → AreDistinct (names_of nodes) → n < length nodes → number_of nodes name ≡ Some n
    → is_so (node_at nodes n) ≡ is_listed (names_where is_so nodes) name
listed-found is_so nodes name n distinct within is =
    let at = position-Some (bytes_eq name) (names_of nodes) n [] is in
    let same = (bytes_eq-Decides name (get_or (names_of nodes) n [])).0 at.1 in
    listed_at is_so nodes name n (names-differ nodes distinct) within
    (sym (same ∙ name-at nodes n))

-- a name that has no node is not listed
pub listed-missing : (is_so : Node → Bool) (nodes : List Node) (name : List ℕ)
    → is_named nodes name ≡ false → is_listed (names_where is_so nodes) name ≡ false
listed-missing is_so nodes name absent =
    not_listed is_so nodes name (λ i within same.
    not_held (names_of nodes) name absent i []
    (rw (length-map nodes (λ (node : Node). node.name)) within) (name-at nodes i ∙ same))

-- where there are no nodes none is
pub listed-none : (is_so : Node → Bool) (nodes : List Node) (name : List ℕ) → length nodes ≡ 0
    → is_listed (names_where is_so nodes) name ≡ false
listed-none is_so nodes name none = rw (nil_from_length nodes none) refl

pub found-all : (found : Option ℕ) (nodes : List Node) (name : List ℕ) → IsGraph nodes
    → found ≡ number_of nodes name → IfSome found (λ n. n < length nodes)
    → IfSome found (λ n. (n < length nodes) × ((is_so : Node → Bool)
    → is_so (node_at nodes n) ≡ is_listed (names_where is_so nodes) name))
found-all None nodes name graph is within = tt
found-all (Some n) nodes name graph is within =
    (within, λ is_so. listed-found is_so nodes name n graph.distinct within (sym is))

pub missing-all : (found : Option ℕ) (nodes : List Node) (name : List ℕ)
    → is_some found ≡ is_named nodes name → is_none found ≡ true → (is_so : Node → Bool)
    → is_listed (names_where is_so nodes) name ≡ false
missing-all None nodes name named none is_so = listed-missing is_so nodes name (sym named)
missing-all (Some n) nodes name named none is_so = absurd cc
