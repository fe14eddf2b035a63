-- Evaluations that are the same where the answers to what they ask are.
use Rattle.std.proofs.Common.{◌≡◌, ◌⊎◌, ◌∙◌, ℕ, zero, suc, Bool, true, false, List, [], ◌∷◌, ◌++◌, length, Some, Result, Ok, Err, slice_get}
use Rattle.std.proofs.Common.{refl, sym, ap, subst, inl, inr, append_assoc}
use Rattle.std.proofs.lemmas.List.{append-nil}
use Rattle.mk_answers.specs.Evaluations.{PartAtQuestion}
use Rattle.mk_values.specs.Evaluators.{Answer, Counted, Progress, ◌>>=◌, answer_then, either, gives, looking, tried, with_asked}
use Rattle.mk_values.specs.Facts.{AnsweredBy, Answers, AsksMore}
use Rattle.mk_values.specs.Value.{questions_of}
use Rattle.mk_values.specs.declared.facts.Asked.{Asked}
use Rattle.mk_values.specs.declared.fault.ExpandFault.{ExpandFault}

-- two evaluations are the same, or part at a question
abbrev pub Parts : {A : Type 0} → Answers → Counted A → Counted A → Type 0
Parts answers first second =
    (second ≡ first) ⊎ PartAtQuestion answers (questions_of first.answer) (questions_of second.answer)

-- The second is the first where these answers agree with all that the first has asked; and then they agree with
-- what was asked before. Whatever the answers are, both ask more than before, and are the same up to a question that
-- is answered differently.
pub record Same (one other : Answers) (asked : List Asked) {A : Type 0} (first second : Counted A) : Type 0 where
  pub same : AnsweredBy other (questions_of first.answer) → second ≡ first
  pub more : AnsweredBy other (questions_of first.answer) → AnsweredBy other asked
  pub first_more : AsksMore asked (questions_of first.answer)
  pub second_more : AsksMore asked (questions_of second.answer)
  pub parts : Parts one first second

pub asks-same : (asked : List Asked) → AsksMore asked asked
asks-same asked = record { more = []; added = sym (append-nil asked) }

pub asks-then : {one two three : List Asked} → AsksMore one two → AsksMore two three → AsksMore one three
asks-then {one} {two} {three} first second = record {
  more = first.more ++ second.more;
  added = second.added ∙ (ap (λ asked. asked ++ second.more) first.added
      ∙ append_assoc one first.more second.more);
}

longer-is : (common rest more : List Asked) (question : Asked) {one longer : List Asked}
    → one ≡ common ++ question ∷ rest → longer ≡ one ++ more → longer ≡ common ++ question ∷ (rest ++ more)
longer-is common rest more question is added =
    added ∙ (ap (λ asked. asked ++ more) is ∙ append_assoc common (question ∷ rest) more)

-- what parts at a question does so whatever is asked behind it
pub part-longer : {answers : Answers} {one other longer longer_other : List Asked}
    → PartAtQuestion answers one other → AsksMore one longer → AsksMore other longer_other
    → PartAtQuestion answers longer longer_other
part-longer part more other_more = record {
  common = part.common;
  path = part.path;
  answer = part.answer;
  rest = part.rest ++ more.more;
  other_rest = part.other_rest ++ other_more.more;
  is = longer-is part.common part.rest more.more _ part.is more.added;
  other_is = longer-is part.common part.other_rest other_more.more _ part.other_is other_more.added;
  answered = part.answered;
}

last-asked : (asked : List Asked) (one : Asked) → slice_get (asked ++ one ∷ []) (length asked) ≡ Some one
last-asked [] one = refl
last-asked (first ∷ asked) one = last-asked asked one

one-of-more : (asked more : List Asked) (place : ℕ) (one : Asked) → slice_get asked place ≡ Some one
    → slice_get (asked ++ more) place ≡ Some one
one-of-more [] more place one is = absurd cc
one-of-more (first ∷ asked) more zero one is = is
one-of-more (first ∷ asked) more (suc place) one is = one-of-more asked more place one is

abbrev question : List ℕ → Bool → Asked
question path answer = record { path = path; answer = answer }

module _ (one other : Answers) where
  pub Same-gives : {A : Type 0} (found : A) (p : Progress)
      → Same one other p.asked (gives found p) (gives found p)
  Same-gives found p = record {
    same = λ answered. refl;
    more = λ answered. answered;
    first_more = asks-same p.asked;
    second_more = asks-same p.asked;
    parts = inl refl;
  }

  pub Same-tried : {A : Type 0} (found : Result A ExpandFault) (p : Progress)
      → Same one other p.asked (tried found p) (tried found p)
  Same-tried (Ok found) p = record {
    same = λ answered. refl;
    more = λ answered. answered;
    first_more = asks-same p.asked;
    second_more = asks-same p.asked;
    parts = inl refl;
  }
  Same-tried (Err fault) p = record {
    same = λ answered. refl;
    more = λ answered. answered;
    first_more = asks-same p.asked;
    second_more = asks-same p.asked;
    parts = inl refl;
  }

  -- a path that is asked of is answered the same, or both part at it
  asked-parts : (p : Progress) (path : List ℕ) (first second : Bool) → first ≡ one (length p.asked) path
      → Parts one (gives first (with_asked p (p.asked ++ question path first ∷ [])))
      (gives second (with_asked p (p.asked ++ question path second ∷ [])))
  asked-parts p path true true answered = inl refl
  asked-parts p path false false answered = inl refl
  asked-parts p path true false answered = inr (record {
    common = p.asked;
    path = path;
    answer = true;
    rest = [];
    other_rest = [];
    is = refl;
    other_is = refl;
    answered = answered;
  })
  asked-parts p path false true answered = inr (record {
    common = p.asked;
    path = path;
    answer = false;
    rest = [];
    other_rest = [];
    is = refl;
    other_is = refl;
    answered = answered;
  })

  -- a path is asked of
  pub Same-asked : (p : Progress) (path : List ℕ)
      → Same one other p.asked
      (gives (one (length p.asked) path)
      (with_asked p (p.asked ++ question path (one (length p.asked) path) ∷ [])))
      (gives (other (length p.asked) path)
      (with_asked p (p.asked ++ question path (other (length p.asked) path) ∷ [])))
  Same-asked p path = record {
    same = λ answered.
        ap (λ (answer : Bool). gives answer (with_asked p (p.asked ++ question path answer ∷ [])))
        (sym (answered (length p.asked) (question path (one (length p.asked) path))
        (last-asked p.asked (question path (one (length p.asked) path)))));
    more = λ answered place asked_one is.
        answered place asked_one (one-of-more p.asked _ place asked_one is);
    first_more = record { more = question path (one (length p.asked) path) ∷ []; added = refl };
    second_more = record { more = question path (other (length p.asked) path) ∷ []; added = refl };
    parts = asked-parts p path (one (length p.asked) path) (other (length p.asked) path)
        refl;
  }

  looking-parts : {A : Type 0} (name : List ℕ) (first second : Counted A) → Parts one first second
      → Parts one (looking name first) (looking name second)
  looking-parts name first second (inl is) = inl (ap (looking name) is)
  looking-parts name first second (inr part) = inr part

  pub Same-looking : {A : Type 0} (asked : List Asked) (name : List ℕ) (first second : Counted A)
      → Same one other asked first second → Same one other asked (looking name first) (looking name second)
  Same-looking asked name first second is = record {
    same = λ answered. ap (looking name) (is.same answered);
    more = is.more;
    first_more = is.first_more;
    second_more = is.second_more;
    parts = looking-parts name first second is.parts;
  }

  pub Same-either : {A : Type 0} (asked : List Asked) (b : Bool)
      (first second first_else second_else : Counted A)
      → Same one other asked first second → Same one other asked first_else second_else
      → Same one other asked (either b first first_else) (either b second second_else)
  Same-either asked true first second first_else second_else is is_else = is
  Same-either asked false first second first_else second_else is is_else = is_else

  -- a second step asks more than the first
  then-more : {A B : Type 0} (answer : Answer A) (next : A × Progress → Counted B)
      → ((v : A × Progress) → AsksMore v.1.asked (questions_of (next v).answer))
      → AsksMore (questions_of answer) (questions_of (answer_then answer next))
  then-more (Ok v) next more = more v
  then-more (Err fault) next more = asks-same _

  then-parts : {A B : Type 0} (answer : Answer A) (names : List (List ℕ) → List (List ℕ))
      (next other_next : A × Progress → Counted B)
      → ((v : A × Progress) → Parts one (next v) (other_next v))
      → Parts one (record { answer = answer; names = names } >>= next) (record { answer = answer; names = names } >>= other_next)
  then-parts {A} {B} (Ok v) names next other_next goes = by (goes v)
    where
      by : Parts one (next v) (other_next v)
          → Parts one (record { answer = Ok v; names = names } >>= next)
          (record { answer = Ok v; names = names } >>= other_next)
      by (inl is) = inl (ap (λ (found : Counted B).
          record { answer = found.answer; names = λ before. found.names (names before) }) is)
      by (inr part) = inr part
  then-parts (Err fault) names next other_next goes = inl refl

  both-parts : {A B : Type 0} (first second : Counted A) (next other_next : A × Progress → Counted B)
      → Parts one first second → ((v : A × Progress) → Parts one (next v) (other_next v))
      → ((v : A × Progress) → AsksMore v.1.asked (questions_of (next v).answer))
      → ((v : A × Progress) → AsksMore v.1.asked (questions_of (other_next v).answer))
      → Parts one (first >>= next) (second >>= other_next)
  both-parts first second next other_next (inl is) goes more other_more =
      subst (λ it. Parts one (first >>= next) (it >>= other_next)) (sym is)
      (then-parts first.answer first.names next other_next goes)
  both-parts first second next other_next (inr part) goes more other_more =
      inr (part-longer part (then-more first.answer next more) (then-more second.answer other_next other_more))

  then-same : {A B : Type 0} (asked : List Asked) (answer : Answer A) (names : List (List ℕ) → List (List ℕ))
      (second : Counted A) (next other_next : A × Progress → Counted B)
      → Same one other asked (record { answer = answer; names = names }) second
      → ((v : A × Progress) → Same one other v.1.asked (next v) (other_next v))
      → AnsweredBy other (questions_of (answer_then answer next))
      → (second >>= other_next ≡ record { answer = answer; names = names } >>= next) × AnsweredBy other asked
  then-same {A} {B} asked (Ok v) names second next other_next is goes answered = (
    ap (λ found. found >>= other_next) (is.same ((goes v).more answered))
        ∙ ap (λ (found : Counted B).
        record { answer = found.answer; names = λ before. found.names (names before) })
        ((goes v).same answered),
    is.more ((goes v).more answered),
  )
  then-same asked (Err fault) names second next other_next is goes answered =
      (ap (λ found. found >>= other_next) (is.same answered), is.more answered)

  -- one step after the other
  pub Same-then : {A B : Type 0} (asked : List Asked) (first second : Counted A)
      (next other_next : A × Progress → Counted B)
      → Same one other asked first second
      → ((v : A × Progress) → Same one other v.1.asked (next v) (other_next v))
      → Same one other asked (first >>= next) (second >>= other_next)
  Same-then asked first second next other_next is goes = record {
    same = λ answered.
        (then-same asked first.answer first.names second next other_next is goes answered).0;
    more = λ answered.
        (then-same asked first.answer first.names second next other_next is goes answered).1;
    first_more = asks-then is.first_more (then-more first.answer next (λ v. (goes v).first_more));
    second_more = asks-then is.second_more (then-more second.answer other_next (λ v. (goes v).second_more));
    parts = both-parts first second next other_next is.parts (λ v. (goes v).parts)
        (λ v. (goes v).first_more) (λ v. (goes v).second_more);
  }
