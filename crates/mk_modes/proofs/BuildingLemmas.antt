-- Names of nodes.
use Rattle.std.proofs.Common.{◌≡◌, ◌∙◌, ℕ, ◌+◌, ◌<◌, List, [], ◌∷◌, ◌++◌, length, drop, ap, sym, append_assoc}
use Rattle.std.proofs.lemmas.List.{drop_more}
use Rattle.mk_plan.specs.Plans.{node_at, no_node}
use Rattle.mk_plan.specs.declared.plan.PlanNode.{PlanNode}
use Rattle.mk_modes.specs.Building.{names_of}

-- the names so far, one more, and those behind it
pub names_of-next : (nodes : List PlanNode) (n : ℕ) (names : List (List ℕ)) → n < length nodes
    → names_of nodes ≡ names ++ names_of (drop n nodes)
    → names_of nodes ≡ (names ++ (node_at nodes n).name ∷ []) ++ names_of (drop (n + 1) nodes)
names_of-next nodes n names within so_far =
    so_far ∙ (ap (λ l. names ++ names_of l) (drop_more nodes n no_node within)
    ∙ sym (append_assoc names ((node_at nodes n).name ∷ []) (names_of (drop (n + 1) nodes))))
