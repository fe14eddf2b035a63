-- What an audit finds is found of each node of the plan.
use Rattle.std.proofs.Common.{◌≡◌, ◌∙◌, ℕ, zero, suc, ◌+◌, ◌<◌, true, not, List, [], ◌∷◌, length}
use Rattle.std.proofs.Common.{Some, inl, inr, slice_get, refl, ap, subst, arith}
use Rattle.std.proofs.lemmas.List.{length-map}
use Rattle.mk_breaches.specs.declared.node.NodeFacts.{NodeFacts}
use Rattle.mk_decision.specs.Decisions.{Work}
use Rattle.mk_plan.specs.Lists.{is_nil}
use Rattle.mk_plan.specs.Plans.{node_at}
use Rattle.mk_world.specs.Looks.{Seen}
use Rattle.mk_audit.specs.Facts.{IsAudited}
use Rattle.mk_audit.specs.Laws.{AuditedNodesAreOfThePlan, IsOfNode}
use Rattle.mk_audit.specs.Turns.{AreTurns, Turn, facts_in}

some-job : (commands : List (List ℕ)) → 0 < length commands → true ≡ not (is_nil commands)
some-job [] some = absurd (omega (arith, some))
some-job (one ∷ commands) some = refl

-- what is found of one node
of-node : (work : Work) (n : ℕ) (seen : List Seen) (facts : NodeFacts) → IsAudited work n seen facts
    → IsOfNode (node_at work.plan n) facts
of-node work n seen facts (inl none) =
    rw none.2 (record {
      name = refl;
      sources = refl;
      job = rw none.0 refl;
      made = rw none.0 refl;
    })
of-node work n seen facts (inr some) =
    rw some.4 (record {
      name = refl;
      sources = refl;
      job = some-job (node_at work.plan n).commands some.0;
      made = refl;
    })

same-facts : (one other : NodeFacts) → Some one ≡ Some other → one ≡ other
same-facts one other is = cc

of-turns : (work : Work) (first : ℕ) (turns : List Turn) → AreTurns work first turns
    → (n : ℕ) (facts : NodeFacts) → slice_get (facts_in turns) n ≡ Some facts
    → IsOfNode (node_at work.plan (first + n)) facts
of-turns work first [] are n facts is = absurd cc
of-turns work first (turn ∷ turns) are zero facts is =
    subst (λ k. IsOfNode (node_at work.plan k) facts) (omega arith)
    (subst (IsOfNode (node_at work.plan first)) (same-facts turn.facts facts is)
    (of-node work first turn.seen turn.facts are.0))
of-turns work first (turn ∷ turns) are (suc n) facts is =
    subst (λ k. IsOfNode (node_at work.plan k) facts) (omega arith)
    (of-turns work (first + 1) turns are.1 n facts is)

pub nodes-of-plan : AuditedNodesAreOfThePlan
nodes-of-plan meaning before after work nodes audited = (
  ap length audited.told ∙ (length-map audited.turns (λ (turn : Turn). turn.facts) ∙ audited.all),
  λ n facts is.
      subst (λ k. IsOfNode (node_at work.plan k) facts) (omega arith)
      (of-turns work 0 audited.turns audited.are n facts
      (subst (λ l. slice_get l n ≡ Some facts) audited.told is)),
)
