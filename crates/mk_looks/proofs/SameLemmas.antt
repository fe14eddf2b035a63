-- Evaluations that are the same where the raw values of the names that are looked up are.
use Rattle.std.proofs.Common.{◌≡◌, ℕ, Bool, true, false, List, [], ◌∷◌, ◌++◌, Option, Result, Ok, Err}
use Rattle.std.proofs.Common.{refl, sym, ap, ◌∙◌}
use Rattle.mk_values.specs.Evaluators.{Answer, Counted, Progress, ◌>>=◌, either, gives, looking, tried}
use Rattle.mk_looks.specs.Looks.{AgreeOn, Raw}
use Rattle.mk_values.specs.declared.fault.ExpandFault.{ExpandFault}

pub agree-first : (one other : Raw) (names : List (List ℕ)) (name : List ℕ)
    → AgreeOn one other (names ++ name ∷ []) → AgreeOn one other names
agree-first one other [] name agree = tt
agree-first one other (first ∷ names) name agree =
    (agree.0, agree-first one other names name agree.1)

pub agree-last : (one other : Raw) (names : List (List ℕ)) (name : List ℕ)
    → AgreeOn one other (names ++ name ∷ []) → one name ≡ other name
agree-last one other [] name agree = agree.0
agree-last one other (first ∷ names) name agree = agree-last one other names name agree.1

-- The second is the first where the raw values of the names agree that the first looks up; and it looks
-- them up behind those of before.
pub record Same (one other : Raw) {A : Type 0} (first second : Counted A) : Type 0 where
  pub same : (before : List (List ℕ)) → AgreeOn one other (first.names before) → second ≡ first
  pub more : (before : List (List ℕ)) → AgreeOn one other (first.names before)
      → AgreeOn one other before

module _ (one other : Raw) where
  pub Same-gives : {A : Type 0} (found : A) (p : Progress)
      → Same one other (gives found p) (gives found p)
  Same-gives found p = record { same = λ before agree. refl; more = λ before agree. agree }

  pub Same-tried : {A : Type 0} (found : Result A ExpandFault) (p : Progress)
      → Same one other (tried found p) (tried found p)
  Same-tried found p = record { same = λ before agree. refl; more = λ before agree. agree }

  -- where the second goes by the raw value of the name that is looked up
  pub Same-looking : {A : Type 0} (name : List ℕ) (first : Counted A)
      (second : Result (Option (List ℕ)) ExpandFault → Counted A)
      → Same one other first (second (one name))
      → Same one other (looking name first) (looking name (second (other name)))
  Same-looking name first second is = record {
    same = λ before agree.
        let names = before ++ name ∷ [] in
        let raw = agree-last one other before name (is.more names agree) in
        ap (λ found. looking name (second found)) (sym raw)
        ∙ ap (looking name) (is.same names agree);
    more = λ before agree.
        agree-first one other before name (is.more (before ++ name ∷ []) agree);
  }

  pub Same-either : {A : Type 0} (b : Bool) (first second first_else second_else : Counted A)
      → Same one other first second → Same one other first_else second_else
      → Same one other (either b first first_else) (either b second second_else)
  Same-either true first second first_else second_else is is_else = is
  Same-either false first second first_else second_else is is_else = is_else

  then_same : {A B : Type 0} (answer : Answer A) (names : List (List ℕ) → List (List ℕ))
      (second : Counted A) (next other_next : A × Progress → Counted B)
      → Same one other (record { answer = answer; names = names }) second
      → ((v : A × Progress) → Same one other (next v) (other_next v))
      → Same one other (record { answer = answer; names = names } >>= next) (second >>= other_next)
  then_same {A} {B} (Ok v) names second next other_next is goes = record {
    same = λ before agree.
        ap (λ found. found >>= other_next) (is.same before ((goes v).more (names before) agree))
        ∙ ap (λ (found : Counted B).
        record { answer = found.answer; names = λ before. found.names (names before) })
        ((goes v).same (names before) agree);
    more = λ before agree. is.more before ((goes v).more (names before) agree);
  }
  then_same (Err fault) names second next other_next is goes = record {
    same = λ before agree. ap (λ found. found >>= other_next) (is.same before agree);
    more = is.more;
  }

  -- one step after the other
  pub Same-then : {A B : Type 0} (first second : Counted A) (next other_next : A × Progress → Counted B)
      → Same one other first second
      → ((v : A × Progress) → Same one other (next v) (other_next v))
      → Same one other (first >>= next) (second >>= other_next)
  Same-then first second next other_next is goes =
      then_same first.answer first.names second next other_next is goes
