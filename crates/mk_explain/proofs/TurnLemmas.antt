-- One turn after the other.
use Rattle.std.proofs.Common.{◌≡◌, ◌∙◌, ℕ, ◌+◌, ◌<◌, List, [], ◌∷◌, ◌++◌, length, Option, Some, None}
use Rattle.std.proofs.Common.{inr, refl, sym, ap, subst, arith, append_assoc}
use Rattle.std.proofs.lemmas.List.{append-nil, length-append}
use Rattle.mk_decision.specs.Decisions.{Work, IsJudged, IsRefused}
use Rattle.mk_decision.specs.Judgements.{IsFound}
use Rattle.mk_decision.specs.Reasons.{value_in}
use Rattle.mk_decision.specs.declared.reason.Found.{Found}
use Rattle.mk_oodate.specs.declared.reason.Why.{Why}
use Rattle.mk_world.specs.Looks.{Seen}
use Rattle.mk_world.specs.declared.command.Task.{Task}
use Rattle.mk_world.specs.declared.fault.WorldFault.{WorldFault}
use Rattle.mk_world.specs.declared.fault.WorldFault.TheVariants as world
use Rattle.mk_explain.proofs.LawLemmas.{length-as_new}
use Rattle.mk_explain.specs.Faults.{of_world}
use Rattle.mk_explain.specs.Lines.{line_of, names_of}
use Rattle.mk_explain.specs.Turns.{AreTurns, IsExplained, IsStoppedBy, IsTold, IsTurn, Turn, behind, behind_all, looks_of, quiet, reasons_of, tells}
use Rattle.mk_explain.specs.Walks.{AreWalked, HaltsAt, HasTurn, IsHaltedBy, turn_of}
use Rattle.mk_explain.specs.declared.fault.ExplainFault.{ExplainFault}
use Rattle.mk_explain.specs.declared.fault.ExplainFault.TheVariants.{Expand, Failed, NoMemory}
use Rattle.mk_explain.specs.declared.reason.Reason.{Reason}

-- the turn of a node that was judged and has no reason
pub quiet-found : (work : Work) (n : ℕ) (seen : List Seen) (task : Task) (found : Found)
    → found.why ≡ None → IsFound work n seen task found → IsTurn work n (quiet seen)
quiet-found work n seen task found none is =
    inr (is.commands, task, subst (IsJudged work n seen task) none is.judged)

-- and of one that has a reason
pub told-found : (work : Work) (n : ℕ) (seen : List Seen) (task : Task) (found : Found) (why : Why)
    (line : List ℕ) → found.why ≡ Some why
    → line ≡ line_of (names_of work n) task found.value found.times why
    → IsFound work n seen task found
    → IsTold work n seen (record { node = n; why = why; line = line })
told-found work n seen task found why line some says is =
    let judged = is.judged in record {
      task = task;
      commands = is.commands;
      judged = record {
        first = judged.first;
        sight = judged.sight;
        meta = judged.meta;
        are = judged.are;
        has = judged.has;
        opened = judged.opened;
        reason = sym some ∙ judged.reason;
      };
      place = refl;
      line = says ∙ (ap (λ value. line_of (names_of work n) task value found.times why) is.value
          ∙ ap (λ times. line_of (names_of work n) task (value_in judged.meta) times why)
          is.times);
    }

-- a refused call of the world stops the walk, by no fault of the node's
pub halted-world : (work : Work) (n : ℕ) (seen : List Seen) (fault : WorldFault)
    → IsHaltedBy work n seen (of_world fault)
halted-world work n seen world.Failed = tt
halted-world work n seen world.NoMemory = tt

-- turns at the end

turns-more : (work : Work) (n : ℕ) (turns : List Turn) (one : Turn) → AreTurns work n turns
    → IsTurn (behind_all work n turns) (n + length turns) one → AreTurns work n (turns ++ one ∷ [])
turns-more work n [] one are is =
    (subst (λ k. IsTurn work k one) (omega arith) is, tt)
turns-more work n (turn ∷ turns) one are is = (
  are.0,
  turns-more (behind work n turn) (n + 1) turns one are.1
      (subst (λ k. IsTurn (behind_all (behind work n turn) (n + 1) turns) k one) (omega arith) is),
)

behind-more : (work : Work) (n : ℕ) (turns : List Turn) (one : Turn)
    → behind_all work n (turns ++ one ∷ []) ≡ behind (behind_all work n turns) (n + length turns) one
behind-more work n [] one = ap (λ k. behind work k one) (omega arith)
behind-more work n (turn ∷ turns) one =
    behind-more (behind work n turn) (n + 1) turns one
    ∙ ap (λ k. behind (behind_all (behind work n turn) (n + 1) turns) k one) (omega arith)

looks-more : (turns : List Turn) (seen : List Seen) (told : Option Reason)
    → looks_of (turns ++ turn_of seen told ∷ []) ≡ looks_of turns ++ seen
looks-more [] seen None = append-nil seen
looks-more [] seen (Some reason) = append-nil seen
looks-more (quiet first ∷ turns) seen told =
    ap (λ l. first ++ l) (looks-more turns seen told) ∙ sym (append_assoc first (looks_of turns) seen)
looks-more (tells first reason ∷ turns) seen told =
    ap (λ l. first ++ l) (looks-more turns seen told) ∙ sym (append_assoc first (looks_of turns) seen)

-- the reasons that one turn adds
abbrev pub told_by : Option Reason → List Reason
told_by None = []
told_by (Some reason) = reason ∷ []

reasons-more : (turns : List Turn) (seen : List Seen) (told : Option Reason)
    → reasons_of (turns ++ turn_of seen told ∷ []) ≡ reasons_of turns ++ told_by told
reasons-more [] seen None = refl
reasons-more [] seen (Some reason) = refl
reasons-more (quiet first ∷ turns) seen told = reasons-more turns seen told
reasons-more (tells first reason ∷ turns) seen told =
    ap (λ l. reason ∷ l) (reasons-more turns seen told)

-- as many nodes as there were
behind-length : (work : Work) (n : ℕ) (turns : List Turn)
    → length (behind_all work n turns).plan ≡ length work.plan
behind-length work n [] = refl
behind-length work n (quiet seen ∷ turns) = behind-length work (n + 1) turns
behind-length work n (tells seen reason ∷ turns) =
    behind-length (behind work n (tells seen reason)) (n + 1) turns ∙ length-as_new work.plan n

-- the walk before the first turn
pub walked-none : (Looked : List Seen → Type 0) (work : Work) → Looked []
    → AreWalked Looked work work 0 []
walked-none Looked work none =
    record { turns = []; before = refl; are = tt; now = refl; told = refl; looked = none }

-- one turn more
pub walked-more : (Old New : List Seen → Type 0) (first work now : Work) (n : ℕ)
    (reasons more : List Reason) (seen : List Seen) (told : Option Reason)
    → AreWalked Old first work n reasons → HasTurn work n seen told
    → now ≡ behind work n (turn_of seen told) → more ≡ reasons ++ told_by told
    → ((before : List Seen) → Old before → New (before ++ seen))
    → AreWalked New first now (n + 1) more
walked-more Old New first work now n reasons more seen told walked turn is adds looks =
    let turns = walked.turns in
    let one = turn_of seen told in
    let place : 0 + length turns ≡ n = let before = walked.before in omega arith in
    let here : behind (behind_all first 0 turns) (0 + length turns) one ≡ now =
    ap (λ k. behind (behind_all first 0 turns) k one) place
    ∙ (ap (λ w. behind w n one) (sym walked.now) ∙ sym is) in
    record {
      turns = turns ++ one ∷ [];
      before = length-append turns (one ∷ []) ∙ ap (λ k. k + 1) walked.before;
      are = turns-more first 0 turns one walked.are
          (subst (λ k. IsTurn (behind_all first 0 turns) k one) (sym place)
          (subst (λ w. IsTurn w n one) walked.now turn));
      now = sym (behind-more first 0 turns one ∙ here);
      told = adds ∙ (ap (λ l. l ++ told_by told) walked.told ∙ sym (reasons-more turns seen told));
      looked = subst New (sym (looks-more turns seen told)) (looks (looks_of turns) walked.looked);
    }

-- the walk is stopped by what happens at a node
pub walked-halts : (Old New : List Seen → Type 0) (first work : Work) (n : ℕ) (reasons : List Reason)
    (seen : List Seen) (fault : ExplainFault) → n < length work.plan
    → AreWalked Old first work n reasons → IsHaltedBy work n seen fault
    → ((before : List Seen) → Old before → New (before ++ seen)) → HaltsAt New first fault
walked-halts Old New first work n reasons seen fault within walked halted looks = record {
  seen = looks_of walked.turns ++ seen;
  looked = looks (looks_of walked.turns) walked.looked;
  stopped = by fault halted;
}
  where
    by : (fault : ExplainFault) → IsHaltedBy work n seen fault → IsStoppedBy New first fault
    by Failed halted = tt
    by NoMemory halted = tt
    by (Expand place number what) halted = record {
      turns = walked.turns;
      seen = seen;
      within = rw halted.0 (subst (λ k. n < k)
          (ap (λ (w : Work). length w.plan) walked.now ∙ behind-length first 0 walked.turns) within);
      before = walked.before ∙ sym halted.0;
      are = walked.are;
      refused = rw halted.0 (subst (λ w. IsRefused w n seen number what) walked.now halted.1);
      looked = looks (looks_of walked.turns) walked.looked;
    }

-- the whole walk
pub walked-all : (Looked More : List Seen → Type 0) (first work : Work) (n : ℕ) (reasons : List Reason)
    → ((seen : List Seen) → Looked seen → More seen) → n ≡ length first.plan
    → AreWalked Looked first work n reasons → IsExplained More first reasons
walked-all Looked More first work n reasons more all walked = record {
  turns = walked.turns;
  all = walked.before ∙ all;
  are = walked.are;
  told = walked.told;
  looked = more (looks_of walked.turns) walked.looked;
}

-- the stopped walk, with more that is known of the looks
pub stopped-map : (Looked More : List Seen → Type 0) (first : Work) (fault : ExplainFault)
    → ((seen : List Seen) → Looked seen → More seen) → IsStoppedBy Looked first fault
    → IsStoppedBy More first fault
stopped-map Looked More first Failed more stopped = tt
stopped-map Looked More first NoMemory more stopped = tt
stopped-map Looked More first (Expand node number what) more stopped = record {
  turns = stopped.turns;
  seen = stopped.seen;
  within = stopped.within;
  before = stopped.before;
  are = stopped.are;
  refused = stopped.refused;
  looked = more (looks_of stopped.turns ++ stopped.seen) stopped.looked;
}
