-- Evaluations that keep the names that they look up, beside the same ones that keep none.
use Rattle.std.proofs.Common.{◌≡◌, ◌⊎◌, ℕ, Bool, true, false, List, [], ◌∷◌, ◌++◌, Some, Result, Ok}
use Rattle.std.proofs.Common.{Err}
use Rattle.std.proofs.Common.{refl, sym, ap, inl, inr, ◌∙◌, unwrap_or, append_assoc}
use Rattle.std.proofs.lemmas.List.{append-nil}
use Rattle.mk_bytes.specs.Agrees.{AgreesBut}
use Rattle.mk_values.specs.Calls.{Gives}
use Rattle.mk_values.specs.Evaluators.{Answer, Counted, Progress, ◌>>=◌, either, gives, looking}
use Rattle.mk_values.specs.Evaluators.{tried}
use Rattle.mk_values.specs.Evaluators.{names_then, progress_with}
use Rattle.mk_values.specs.Facts.{IsOutside}
use Rattle.mk_values.specs.Value.{names_where, questions_of}
use Rattle.mk_values.specs.declared.facts.Asked.{Asked}
use Rattle.mk_values.specs.declared.fault.ExpandFault.{ExpandFault}

-- the same, where names are kept behind these
abbrev pub keeping : List (List ℕ) → Progress → Progress
keeping names p = progress_with (Some names) p.references p.asked

abbrev pub answer_kept : {A : Type 0} → List (List ℕ) → Answer A → Answer A
answer_kept names (Ok found) = Ok (found.0, keeping names found.1)
answer_kept names (Err fault) = Err (fault.0, keeping names fault.1)

-- what an evaluation gives, with the names that it looks up kept behind those of before
abbrev pub kept : {A : Type 0} → List (List ℕ) → Counted A → Counted A
kept before found =
    record { answer = answer_kept (found.names before) found.answer; names = found.names }

-- names come behind those of before
abbrev pub ComeBehind : (List (List ℕ) → List (List ℕ)) → Type 0
ComeBehind names = (before : List (List ℕ)) → names before ≡ before ++ names []

-- The second is the first, with the names kept that the first looks up.
pub record Kept (before : List (List ℕ)) {A : Type 0} (first second : Counted A) : Type 0 where
  pub is : second ≡ kept before first
  pub behind : ComeBehind first.names

pub Kept-gives : (before : List (List ℕ)) {A : Type 0} (found : A) (p : Progress)
    → Kept before (gives found p) (gives found (keeping before p))
Kept-gives before found p = record { is = refl; behind = λ some. sym (append-nil some) }

pub Kept-tried : (before : List (List ℕ)) {A : Type 0} (found : Result A ExpandFault) (p : Progress)
    → Kept before (tried found p) (tried found (keeping before p))
Kept-tried before (Ok found) p = record { is = refl; behind = λ some. sym (append-nil some) }
Kept-tried before (Err fault) p = record { is = refl; behind = λ some. sym (append-nil some) }

-- a name is looked up, before an evaluation that keeps it
pub Kept-looking : (before : List (List ℕ)) {A : Type 0} (name : List ℕ) (first second : Counted A)
    → Kept (before ++ name ∷ []) first second
    → Kept before (looking name first) (looking name second)
Kept-looking before name first second goes = record {
  is = ap (looking name) goes.is;
  behind = λ some.
      goes.behind (some ++ name ∷ [])
      ∙ (append_assoc some (name ∷ []) (first.names [])
      ∙ ap (λ names. some ++ names) (sym (goes.behind (name ∷ []))));
}

pub Kept-either : (before : List (List ℕ)) {A : Type 0} (b : Bool)
    (first second first_else second_else : Counted A)
    → Kept before first second → Kept before first_else second_else
    → Kept before (either b first first_else) (either b second second_else)
Kept-either before true first second first_else second_else goes goes_else = goes
Kept-either before false first second first_else second_else goes goes_else = goes_else

abbrev pub KeepsOn : {A B : Type 0} → (A × Progress → Counted B) → Type 0
KeepsOn {A} next =
    (more : List (List ℕ)) (v : A × Progress) → Kept more (next v) (next (v.0, keeping more v.1))

then_kept : {A B : Type 0} (before : List (List ℕ)) (answer : Answer A)
    (names : List (List ℕ) → List (List ℕ)) (next : A × Progress → Counted B) → KeepsOn next
    → (kept before (record { answer = answer; names = names }) >>= next)
    ≡ kept before (record { answer = answer; names = names } >>= next)
then_kept {A} {B} before (Ok v) names next goes =
    ap (λ (found : Counted B).
    record { answer = found.answer; names = λ more. found.names (names more) })
    (goes (names before) v).is
then_kept before (Err fault) names next goes = refl

then_behind : {A B : Type 0} (answer : Answer A) (names : List (List ℕ) → List (List ℕ))
    (next : A × Progress → Counted B) → KeepsOn next → ComeBehind names
    → ComeBehind (λ before. names_then answer next (names before))
then_behind (Ok v) names next goes come = λ before.
    (goes [] v).behind (names before)
    ∙ (ap (λ first. first ++ (next v).names []) (come before)
    ∙ (append_assoc before (names []) ((next v).names [])
    ∙ ap (λ more. before ++ more) (sym ((goes [] v).behind (names [])))))
then_behind (Err fault) names next goes come = come

-- one step after the other
pub Kept-then : (before : List (List ℕ)) {A B : Type 0} (first second : Counted A)
    (next : A × Progress → Counted B) → Kept before first second
    → KeepsOn next → Kept before (first >>= next) (second >>= next)
Kept-then before first second next first_goes goes = record {
  is = ap (λ found. found >>= next) first_goes.is
      ∙ then_kept before first.answer first.names next goes;
  behind = then_behind first.answer first.names next goes first_goes.behind;
}

-- the names that are kept, or the first fault
abbrev told : {A : Type 0} → Answer A → Result (List (List ℕ) × List Asked) ExpandFault
told (Ok found) = Ok (unwrap_or found.1.noted [], found.1.asked)
told (Err fault) = Err fault.0

told-kept : {A : Type 0} (answer : Answer A) (names : List (List ℕ))
    → told (answer_kept names answer) ≡ names_where answer names
told-kept (Ok found) names = refl
told-kept (Err fault) names = refl

told-where : {X : Type 0} (before : List (List ℕ)) (first second : Counted X)
    → Kept before first second
    → names_where first.answer (before ++ first.names []) ≡ told second.answer
told-where before first second goes =
    ap (names_where first.answer) (sym (goes.behind before))
    ∙ (sym (told-kept first.answer (first.names before))
    ∙ ap (λ found. told found.answer) (sym goes.is))

-- the names that were kept are those that are looked up
pub agrees_kept : {X : Type 0} (p : Progress) (before : List (List ℕ))
    (answer : Result X ExpandFault) (first second : Counted X)
    → Kept before first second → Gives (λ value. value) p answer second.answer
    → AgreesBut {Y = List (List ℕ) × List Asked} IsOutside
    (λ value. (unwrap_or p.noted [], p.asked)) answer (names_where first.answer (before ++ first.names []))
agrees_kept p before (Ok x) first second goes is =
    told-where before first second goes ∙ ap told is
agrees_kept p before (Err fault) first second goes (inl free) = inl free
agrees_kept p before (Err fault) first second goes (inr is) =
    inr (told-where before first second goes ∙ ap told is)

questions-kept : {A : Type 0} (answer : Answer A) (names : List (List ℕ))
    → questions_of (answer_kept names answer) ≡ questions_of answer
questions-kept (Ok found) names = refl
questions-kept (Err fault) names = refl

-- the questions behind a fault, where names are kept
pub refused_kept : {X : Type 0} (p : Progress) (before : List (List ℕ)) (fault : ExpandFault)
    (first second : Counted X)
    → Kept before first second → IsOutside fault ⊎ (second.answer ≡ Err (fault, p))
    → IsOutside fault ⊎ (questions_of first.answer ≡ p.asked)
refused_kept p before fault first second goes (inl free) = inl free
refused_kept p before fault first second goes (inr is) =
    inr (sym (questions-kept first.answer (first.names before))
    ∙ (ap (λ found. questions_of found.answer) (sym goes.is) ∙ ap questions_of is))
