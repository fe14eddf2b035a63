-- A node that counts as new leaves its plan in order.
use Rattle.std.proofs.Common.{◌≡◌, ◌∙◌, ℕ, zero, suc, ◌+◌, Bool, true, false, ◌&&◌, List, [], ◌∷◌, Some}
use Rattle.std.proofs.Common.{refl, sym, ap, slice_get, slice_set, get_or}
use Rattle.mk_graph.specs.Marks.{marked}
use Rattle.mk_graph.specs.declared.attr.Attr.TheVariants.{Phony}
use Rattle.mk_graph.specs.declared.attr.Marks.{Marks}
use Rattle.mk_graph.specs.Walks.{is_among}
use Rattle.mk_plan.specs.AsNew.{as_new, phony}
use Rattle.mk_plan.specs.Plans.{are_ordered, are_sourced, has_its_sources, is_behind, node_at}
use Rattle.mk_plan.specs.declared.plan.PlanNode.{PlanNode}

both : (a b : Bool) → a ≡ true → b ≡ true → (a && b) ≡ true
both a b first second = rw (first, second) refl

first-of : (a b : Bool) → (a && b) ≡ true → a ≡ true
first-of true b is = refl
first-of false b is = absurd cc

second-of : (a b : Bool) → (a && b) ≡ true → b ≡ true
second-of true b is = is
second-of false b is = absurd cc

pub set-ordered : (nodes : List PlanNode) (place n : ℕ) (one old : PlanNode)
    → Some old ≡ slice_get nodes n → one.before ≡ old.before → are_ordered place nodes ≡ true
    → are_ordered place (slice_set nodes n one) ≡ true
set-ordered [] place n one old is same ordered = absurd cc
set-ordered (node ∷ nodes) place zero one old is same ordered =
    let here : old ≡ node = cc in
    let before : one.before ≡ node.before = same ∙ ap (λ (m : PlanNode). m.before) here in
    rw before ordered
set-ordered (node ∷ nodes) place (suc n) one old is same ordered =
    both (is_behind place node.before) (are_ordered (place + 1) (slice_set nodes n one))
    (first-of (is_behind place node.before) (are_ordered (place + 1) nodes) ordered)
    (set-ordered nodes (place + 1) n one old is same
    (second-of (is_behind place node.before) (are_ordered (place + 1) nodes) ordered))

pub set-sourced : (nodes : List PlanNode) (n : ℕ) (one old : PlanNode) → Some old ≡ slice_get nodes n
    → one.before ≡ old.before → one.sources ≡ old.sources → are_sourced nodes ≡ true
    → are_sourced (slice_set nodes n one) ≡ true
set-sourced [] n one old is before sources sourced = absurd cc
set-sourced (node ∷ nodes) zero one old is before sources sourced =
    let here : old ≡ node = cc in
    let before_is : one.before ≡ node.before = before ∙ ap (λ (m : PlanNode). m.before) here in
    let sources_are : one.sources ≡ node.sources = sources ∙ ap (λ (m : PlanNode). m.sources) here in
    rw (before_is, sources_are) sourced
set-sourced (node ∷ nodes) (suc n) one old is before sources sourced =
    both (has_its_sources node) (are_sourced (slice_set nodes n one))
    (first-of (has_its_sources node) (are_sourced nodes) sourced)
    (set-sourced nodes n one old is before sources
    (second-of (has_its_sources node) (are_sourced nodes) sourced))

node-found : (nodes : List PlanNode) (n : ℕ) (one : PlanNode) → Some one ≡ slice_get nodes n
    → one ≡ node_at nodes n
node-found [] n one is = absurd cc
node-found (node ∷ nodes) zero one is = cc
node-found (node ∷ nodes) (suc n) one is = node-found nodes n one is

pub as-new-is : (nodes : List PlanNode) (n : ℕ) (one : PlanNode) (marks : Marks)
    → Some one ≡ slice_get nodes n → marks ≡ marked one.marks Phony
    → slice_set nodes n (record one { marks = marks }) ≡ as_new nodes n
as-new-is nodes n one marks is new =
    rw new (ap (λ (m : PlanNode). slice_set nodes n (phony m)) (node-found nodes n one is))
