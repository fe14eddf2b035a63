-- What is found of a node, and the looks at it, by its turn.
use Rattle.std.proofs.Common.{◌≡◌, ◌∙◌, ℕ, zero, suc, ◌+◌, ◌<◌, not, true, false, List, [], ◌∷◌, length}
use Rattle.std.proofs.Common.{Option, Some, slice_get, refl, sym, ap, subst, inl, inr, arith}
use Rattle.std.proofs.lemmas.Bool.{false≢true}
use Rattle.std.specs.List.{AllByRecursion}
use Rattle.mk_audit.specs.Facts.{IsAudited, facts_of, has_job}
use Rattle.mk_audit.specs.Looks.{IsSeen, NodeSight, looks_of}
use Rattle.mk_audit.specs.Turns.{AreTurns, Turn, facts_in, looks_in}
use Rattle.mk_breaches.specs.declared.node.NodeFacts.{NodeFacts}
use Rattle.mk_decision.specs.Decisions.{Work}
use Rattle.mk_explain.specs.Turns.{IsAnswered}
use Rattle.mk_plan.specs.Lists.{is_nil}
use Rattle.mk_plan.specs.Plans.{node_at}
use Rattle.mk_same.proofs.JudgedLemmas.{all-parts}
use Rattle.mk_world.specs.History.{FileMap}
use Rattle.mk_world.specs.Looks.{Seen}

-- a node had its turn, and all looks at it are answered by these files
pub record HadTurn (files : FileMap) (work : Work) (node : ℕ) (found : Option NodeFacts) : Type 0 where
  pub seen : List Seen
  pub facts : NodeFacts
  pub at : found ≡ Some facts
  pub audited : IsAudited work node seen facts
  pub answered : AllByRecursion (IsAnswered files) seen

pub had-turn : (files : FileMap) (work : Work) (first : ℕ) (turns : List Turn) → AreTurns work first turns
    → AllByRecursion (IsAnswered files) (looks_in turns) → (n : ℕ) → n < length turns
    → HadTurn files work (first + n) (slice_get (facts_in turns) n)
had-turn files work first [] are answered n less = absurd (omega (arith, less))
had-turn files work first (turn ∷ turns) are answered zero less =
    let parts = all-parts (IsAnswered files) turn.seen (looks_in turns) answered in
    subst (λ k. HadTurn files work k (slice_get (facts_in (turn ∷ turns)) 0)) (omega arith)
    (record { seen = turn.seen; facts = turn.facts; at = refl; audited = are.0; answered = parts.0 })
had-turn files work first (turn ∷ turns) are answered (suc n) less =
    let parts = all-parts (IsAnswered files) turn.seen (looks_in turns) answered in
    subst (λ k. HadTurn files work k (slice_get (facts_in turns) n)) (omega arith)
    (had-turn files work (first + 1) turns are.1 parts.1 n (omega (arith, less)))

-- a node with commands was looked at
pub record WasLookedAt (files : FileMap) (work : Work) (node : ℕ) (facts : NodeFacts) : Type 0 where
  pub sight : NodeSight
  pub seen : IsSeen work node sight
  pub answered : AllByRecursion (IsAnswered files) (looks_of work node sight)
  pub found : facts ≡ facts_of work node sight

pub looked-at : (files : FileMap) (work : Work) (node : ℕ) (seen : List Seen) (facts : NodeFacts)
    → has_job (node_at work.plan node) ≡ true → IsAudited work node seen facts
    → AllByRecursion (IsAnswered files) seen → WasLookedAt files work node facts
looked-at files work node seen facts job (inl none) answered =
    let no : has_job (node_at work.plan node) ≡ false = ap (λ l. not (is_nil l)) none.0 in
    absurd (false≢true (sym no ∙ job))
looked-at files work node seen facts job (inr (some, sight, is, looks, found)) answered = record {
  sight = sight;
  seen = is;
  answered = subst (AllByRecursion (IsAnswered files)) looks answered;
  found = found;
}
