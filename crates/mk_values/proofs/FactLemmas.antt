-- What is asked of the facts, one call after the other.
use Rattle.std.proofs.Common.{◌≡◌, ◌⊎◌, ℕ, zero, suc, ◌≤◌, ◌<◌, inl, inr, List, [], ◌∷◌, ◌++◌, Some, Result}
use Rattle.std.proofs.Common.{Ok, Err, slice_get, refl, sym, ap, ◌∙◌, append_assoc, arith}
use Rattle.std.proofs.lemmas.List.{append-nil}
use Rattle.mk_bytes.specs.Agrees.{Agrees, AgreesErr, AgreesBut}
use Rattle.mk_values.specs.Calls.{Asks, Extends, Gives, Keeps}
use Rattle.mk_pieces.proofs.PieceLemmas.{Begins-trans}
use Rattle.mk_values.specs.declared.run.Run.{Run}
use Rattle.mk_values.specs.Evaluators.{Answer, Counted, Progress, answer_then, behind}
use Rattle.mk_values.specs.Evaluators as of_progress
use Rattle.mk_values.specs.Value.{questions_of, with_asked}
use Rattle.mk_values.specs.Facts.{Answers, AnsweredBy, AsksMore, IsOutside, Lists, RefusedBehind}
use Rattle.mk_values.specs.declared.facts.Asked.{Asked}
use Rattle.mk_values.specs.declared.fault.ExpandFault.{ExpandFault}
use Rattle.mk_values.specs.declared.fault.ExpandFault.TheVariants.{Failed, NoMemory}
use Rattle.mk_world.specs.Causes.{HasCause}

-- Answers

slice_get-append : (old more : List Asked) (place : ℕ) (one : Asked)
    → slice_get old place ≡ Some one → slice_get (old ++ more) place ≡ Some one
slice_get-append [] more place one is = absurd cc
slice_get-append (x ∷ old) more zero one is = is
slice_get-append (x ∷ old) more (suc place) one is = slice_get-append old more place one is

-- what answers all questions answers the earlier ones
pub earlier : (old new : List Asked) (answers : Answers) → AsksMore old new
    → AnsweredBy answers new → AnsweredBy answers old
earlier old new answers asks by =
    λ place one is. by place one (rw asks.added (slice_get-append old asks.more place one is))

pub asks_nothing : (asked : List Asked) → AsksMore asked asked
asks_nothing asked = record { more = []; added = sym (append-nil asked) }

pub asks_both : (a b c : List Asked) → AsksMore a b → AsksMore b c → AsksMore a c
asks_both a b c first second = record {
  more = first.more ++ second.more;
  added = second.added ∙ (ap (λ asked. asked ++ second.more) first.added ∙ simp append_assoc);
}

-- Faults

-- no answer of this kind is a failure of the outside
abbrev pub NeverFails : {A : Type 0} → Result A ExpandFault → Type 0
NeverFails answer = answer ≡ Err Failed → ⊥

-- an answer that agrees with a definition fails only where that does
pub never_fails : {X Y : Type 0} (view : X → Y) (answer : Result X ExpandFault)
    (defined : Result Y ExpandFault)
    → Agrees NoMemory view answer defined → NeverFails defined → NeverFails answer
never_fails view (Ok x) defined agrees never = λ is. absurd cc
never_fails view (Err fault) defined (inl want) never = λ is. absurd cc
never_fails view (Err fault) defined (inr same) never = λ is. never (rw same cc)

same_count : {A : Type 0} (before after : ℕ) (given : A)
    → HasCause {E = ExpandFault} Failed before after (Ok given) → after ≡ before
same_count before after given cause =
    let none : before < after → ⊥ = λ rose. let is = cause.answered rose in cc in
    let kept : before ≤ after = cause.kept in omega (arith, none)

pub ok_never : {A : Type 0} (given : A) → NeverFails {A = A} (Ok given)
ok_never given = λ is. cc

-- nothing was asked
pub Asks-none : {A : Type 0} {leads : Type 0} (stays : leads) (lists : Lists) (asked : List Asked)
    (count : ℕ) (answer : Result A ExpandFault)
    → NeverFails answer → Asks leads lists lists asked asked count count answer
Asks-none stays lists asked count answer never = record {
  led = stays;
  lists = refl;
  asked = asks_nothing asked;
  cause = record {
    kept = omega arith;
    answered = λ rose. absurd (omega arith);
    rose = λ is. absurd (never is);
  };
}

module _ {A B : Type 0} where
  -- a fault is the same whatever was to be given
  pub Asks-err : {leads : Type 0} {l0 l1 : Lists} {a0 a1 : List Asked} {f0 f1 : ℕ}
      {fault : ExpandFault}
      → Asks {A = A} leads l0 l1 a0 a1 f0 f1 (Err fault)
      → Asks {A = B} leads l0 l1 a0 a1 f0 f1 (Err fault)
  Asks-err asks = record {
    led = asks.led;
    lists = asks.lists;
    asked = asks.asked;
    cause = record {
      kept = asks.cause.kept;
      answered = λ rose. let is = asks.cause.answered rose in cc;
      rose = λ is. asks.cause.rose cc;
    };
  }

  -- whatever was given
  pub Asks-ok : {leads : Type 0} {l0 l1 : Lists} {a0 a1 : List Asked} {f0 f1 : ℕ} {given : A}
      (other : B)
      → Asks leads l0 l1 a0 a1 f0 f1 (Ok given) → Asks leads l0 l1 a0 a1 f0 f1 (Ok other)
  Asks-ok {leads} {l0} {l1} {a0} {a1} {f0} {f1} {given} other asks = record {
    led = asks.led;
    lists = asks.lists;
    asked = asks.asked;
    cause = record {
      kept = asks.cause.kept;
      answered = λ rose. let is = asks.cause.answered rose in absurd cc;
      rose = λ is. absurd (ok_never other is);
    };
  }

  -- one call after another that went well
  pub Asks-then : {one two both : Type 0} {l0 l1 l2 : Lists} {a0 a1 a2 : List Asked}
      {f0 f1 f2 : ℕ} {given : A} {answer : Result B ExpandFault}
      → (one → two → both)
      → Asks one l0 l1 a0 a1 f0 f1 (Ok given) → Asks two l1 l2 a1 a2 f1 f2 answer
      → Asks both l0 l2 a0 a2 f0 f2 answer
  Asks-then {one} {two} {both} {l0} {l1} {l2} {a0} {a1} {a2} {f0} {f1} {f2} {given} {answer} goes_on first second =
      let same : f1 ≡ f0 = same_count f0 f1 given first.cause in
      record {
        led = goes_on first.led second.led;
        lists = second.lists ∙ first.lists;
        asked = asks_both a0 a1 a2 first.asked second.asked;
        cause = rw same at second.cause;
      }

-- Runs

pub Keeps-then : (a b c : Run) → Keeps a b → Keeps b c → Keeps a c
Keeps-then a b c first second = record {
  open_names = second.open_names ∙ first.open_names;
  bound = second.bound ∙ first.bound;
  region = second.region ∙ first.region;
}

pub Extends-then : (a b c : Run) → Extends a b → Extends b c → Extends a c
Extends-then a b c first second = record {
  open_names = second.open_names ∙ first.open_names;
  bound = second.bound ∙ first.bound;
  begins = Begins-trans _ _ _ first.begins second.begins;
}

-- Values

pub outside : {Y : Type 0} (fault : ExpandFault) (p : Progress) (defined : Result Y ExpandFault)
    → AgreesErr NoMemory fault defined → IsOutside fault ⊎ (behind defined p ≡ Err (fault, p))
outside fault p defined (inl want) = inl (inl want)
outside fault p defined (inr is) = inr (ap (λ one. behind one p) is)

-- an answer without questions, at any progress
pub gives_at : {X Y : Type 0} (view : X → Y) (p : Progress) (answer : Result X ExpandFault)
    (defined : Result Y ExpandFault)
    → Agrees NoMemory view answer defined → Gives view p answer (behind defined p)
gives_at view p (Ok x) defined is = ap (λ one. behind one p) is
gives_at view p (Err fault) defined (inl want) = inl (inl want)
gives_at view p (Err fault) defined (inr is) = inr (ap (λ one. behind one p) is)

-- the fault of a first step is the fault of all
pub fault_of_all : {Y Z : Type 0} {p : Progress} (fault : ExpandFault) (first : Answer Y)
    (next : Y × Progress → Counted Z)
    → IsOutside fault ⊎ (first ≡ Err (fault, p))
    → IsOutside fault ⊎ (answer_then first next ≡ Err (fault, p))
fault_of_all fault first next (inl free) = inl free
fault_of_all fault first next (inr is) = inr (ap (λ one. answer_then one next) is)

abbrev told_at : {X : Type 0} → Progress → Result (X × List Asked) ExpandFault → Answer X
told_at p (Ok told) = Ok (told.0, of_progress.with_asked p told.1)
told_at p (Err fault) = Err (fault, p)

-- the progress behind the answer of a fact
pub agrees_progress : {X : Type 0} (p : Progress) (asked : List Asked)
    (answer : Result X ExpandFault) (told : X × List Asked)
    → AgreesBut IsOutside (λ value. (value, asked)) answer (Ok told)
    → Gives (λ value. value) (of_progress.with_asked p asked) answer
    (Ok (told.0, of_progress.with_asked p told.1))
agrees_progress p asked (Ok x) told is = ap (told_at p) is
agrees_progress p asked (Err fault) told (inl free) = inl free
agrees_progress p asked (Err fault) told (inr is) = absurd cc

-- the questions in place of the progress
pub agrees_asked : {X : Type 0} (p : Progress) (answer : Result X ExpandFault) (defined : Answer X)
    → Gives (λ value. value) p answer defined
    → AgreesBut {Y = X × List Asked} IsOutside (λ value. (value, p.asked)) answer
    (with_asked defined)
agrees_asked p (Ok x) defined is = ap with_asked is
agrees_asked p (Err fault) defined (inl free) = inl free
agrees_asked p (Err fault) defined (inr is) = inr (ap with_asked is)

refused_one : {X : Type 0} (fault : ExpandFault) (p : Progress) (defined : Answer X)
    → IsOutside fault ⊎ (defined ≡ Err (fault, p))
    → IsOutside fault ⊎ (questions_of defined ≡ p.asked)
refused_one fault p defined (inl free) = inl free
refused_one fault p defined (inr is) = inr (ap questions_of is)

-- the questions behind a fault
pub refused_behind : {X : Type 0} (p : Progress) (answer : Result X ExpandFault)
    (defined : Answers → Answer X)
    → ((answers : Answers) → AnsweredBy answers p.asked
    → Gives (λ value. value) p answer (defined answers))
    → RefusedBehind p.asked answer (λ answers. questions_of (defined answers))
refused_behind p (Ok x) defined told = tt
refused_behind p (Err fault) defined told = λ answers by.
    refused_one fault p (defined answers) (told answers by)
