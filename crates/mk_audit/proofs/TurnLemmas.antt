-- One turn after the other.
use Rattle.std.proofs.Common.{◌≡◌, ◌∙◌, ℕ, ◌+◌, List, [], ◌∷◌, ◌++◌, length, refl, sym, ap, subst}
use Rattle.std.proofs.Common.{arith}
use Rattle.std.proofs.lemmas.List.{append-nil, length-append, map-append}
use Rattle.std.proofs.lemmas.List.Concat.{flat_map-append}
use Rattle.mk_breaches.specs.declared.node.NodeFacts.{NodeFacts}
use Rattle.mk_decision.specs.Decisions.{Work}
use Rattle.mk_world.specs.Looks.{Seen}
use Rattle.mk_audit.specs.Facts.{IsAudited}
use Rattle.mk_audit.specs.Turns.{AreAudited, AreTurns, Turn, looks_in}
use Rattle.mk_audit.specs.Walks.{AreWalked}

turns-more : (work : Work) (n : ℕ) (turns : List Turn) (one : Turn) → AreTurns work n turns
    → IsAudited work (n + length turns) one.seen one.facts → AreTurns work n (turns ++ one ∷ [])
turns-more work n [] one are is =
    (subst (λ k. IsAudited work k one.seen one.facts) (omega arith) is, tt)
turns-more work n (turn ∷ turns) one are is = (
  are.0,
  turns-more work (n + 1) turns one are.1
      (subst (λ k. IsAudited work k one.seen one.facts) (omega arith) is),
)

looks-more : (turns : List Turn) (one : Turn)
    → looks_in (turns ++ one ∷ []) ≡ looks_in turns ++ one.seen
looks-more turns one =
    flat_map-append (λ (turn : Turn). turn.seen) turns (one ∷ [])
    ∙ ap (λ l. looks_in turns ++ l) (append-nil one.seen)

-- the walk before the first turn
pub walked-none : (Looked : List Seen → Type 0) (work : Work) → Looked []
    → AreWalked Looked work 0 []
walked-none Looked work none =
    record { turns = []; before = refl; are = tt; told = refl; looked = none }

-- one turn more
pub walked-more : (Old New : List Seen → Type 0) (work : Work) (n : ℕ) (nodes more : List NodeFacts)
    (seen : List Seen) (facts : NodeFacts) → AreWalked Old work n nodes
    → IsAudited work n seen facts → more ≡ nodes ++ facts ∷ []
    → ((before : List Seen) → Old before → New (before ++ seen)) → AreWalked New work (n + 1) more
walked-more Old New work n nodes more seen facts walked is adds looks =
    let turns = walked.turns in
    let one : Turn = record { seen = seen; facts = facts } in
    let place : 0 + length turns ≡ n = let before = walked.before in omega arith in
    record {
      turns = turns ++ one ∷ [];
      before = length-append turns (one ∷ []) ∙ ap (λ k. k + 1) walked.before;
      are = turns-more work 0 turns one walked.are
          (subst (λ k. IsAudited work k seen facts) (sym place) is);
      told = adds ∙ (ap (λ l. l ++ facts ∷ []) walked.told
          ∙ sym (map-append (λ (turn : Turn). turn.facts) turns (one ∷ [])));
      looked = subst New (sym (looks-more turns one)) (looks (looks_in turns) walked.looked);
    }

-- the whole walk
pub walked-all : (Looked More : List Seen → Type 0) (work : Work) (n : ℕ) (nodes : List NodeFacts)
    → ((seen : List Seen) → Looked seen → More seen) → n ≡ length work.plan
    → AreWalked Looked work n nodes → AreAudited More work nodes
walked-all Looked More work n nodes more all walked = record {
  turns = walked.turns;
  all = walked.before ∙ all;
  are = walked.are;
  told = walked.told;
  looked = more (looks_in walked.turns) walked.looked;
}
