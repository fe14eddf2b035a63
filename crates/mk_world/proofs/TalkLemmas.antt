-- What a command does on a map is one thing.
use Rattle.std.proofs.Common.{◌≡◌, ℕ, zero, suc, ◌+◌, ◌<◌, ◌≤◌, List, [], ◌∷◌, ◌++◌, length}
use Rattle.std.proofs.Common.{length-append, Option, Some, None, refl, sym, ◌∙◌, ap, ap₂, subst}
use Rattle.std.proofs.Common.{arith, lt_irrefl, lt_of_lt_of_le, le_trans, le_of_eq, zero-add}
use Rattle.std.proofs.Common.{lt_of_not-le}
use Rattle.mk_world.specs.Deeds.{Store, IsRight, Meets, after_deed}
use Rattle.mk_world.specs.Outer.{nothing_over, SameDoing}
use Rattle.mk_world.specs.Talks.{NextOf, Meaning, Doing, Talks, IsDoing, IsOver, answer, looked}
use Rattle.mk_world.specs.Talks.{moved, deed_at, deed_on, place, with_deed, at_next, does_in, does}
use Rattle.mk_world.specs.declared.command.Cmd.{Cmd}
use Rattle.mk_world.specs.declared.step.Answer.{Answer}
use Rattle.mk_world.specs.declared.step.Deed.{Deed}
use Rattle.mk_world.specs.declared.step.Next.{Next}
use Rattle.mk_world.specs.declared.step.Next.TheVariants.{More, Over}
use Rattle.mk_world.specs.declared.step.Request.{Request}
use Rattle.mk_world.specs.declared.step.Request.TheVariants as ask
use Rattle.mk_world.proofs.OuterLemmas.{meets_on_both}

-- what a request does on a map is right there
looked-right : (store : Store) (path : List ℕ) (stands : Option (List ℕ)) → store path ≡ stands
    → IsRight store (looked path stands)
looked-right store path None is = is
looked-right store path (Some bytes) is = is

moved-right : (store : Store) (from to : List ℕ) (stands : Option (List ℕ)) → store from ≡ stands
    → IsRight store (moved from to stands)
moved-right store from to None is = is
moved-right store from to (Some bytes) is = is

pub deed_on-right : (store : Store) (request : Request) → IsRight store (deed_on request store)
deed_on-right store (ask.Look path) = looked-right store path (store path) refl
deed_on-right store (ask.Write path bytes) = tt
deed_on-right store (ask.Delete path) = tt
deed_on-right store (ask.Move from to) = moved-right store from to (store from) refl

-- what is right on a map was told by it
looked-told : (store : Store) (path : List ℕ) (stands : Option (List ℕ))
    → IsRight store (looked path stands) → stands ≡ store path
looked-told store path None right = sym right
looked-told store path (Some bytes) right = sym right

moved-told : (store : Store) (from to : List ℕ) (stands : Option (List ℕ))
    → IsRight store (moved from to stands) → stands ≡ store from
moved-told store from to None right = sym right
moved-told store from to (Some bytes) right = sym right

pub deed_at-told : (store : Store) (request : Request) (stands : Option (List ℕ))
    → IsRight store (deed_at request stands) → deed_at request stands ≡ deed_on request store
deed_at-told store (ask.Look path) stands right =
    ap (looked path) (looked-told store path stands right)
deed_at-told store (ask.Write path bytes) stands right = refl
deed_at-told store (ask.Delete path) stands right = refl
deed_at-told store (ask.Move from to) stands right =
    ap (moved from to) (moved-told store from to stands right)

length-answer : (seen : List Answer) (one : Answer) → length (seen ++ one ∷ []) ≡ suc (length seen)
length-answer seen one = length-append seen (one ∷ []) ∙ omega arith

pub more-not_over : (next : Next) (request : Request) → next ≡ More request → IsOver next → ⊥
more-not_over (Over status output) request is over = cc
more-not_over (More other) request is over = over

-- what is computed is a doing, where enough requests are allowed
does_in-is : (meaning : Meaning) (cmd : Cmd) (most : ℕ) (seen : List Answer) (store : Store)
    → length seen ≤ meaning.limit cmd → meaning.limit cmd < most + length seen
    → IsDoing meaning.next cmd seen store (does_in most meaning.next cmd seen store)
does_in-is meaning cmd zero seen store within few =
    absurd (lt_irrefl (meaning.limit cmd)
    (lt_of_lt_of_le few (le_trans (le_of_eq (zero-add _)) within)))
does_in-is meaning cmd (suc most) seen store within few =
    go (meaning.next cmd seen) refl
    (λ request short. does_in-is meaning cmd most (seen ++ answer (deed_on request store) ∷ [])
    (after_deed store (deed_on request store))
    (rw (length-answer seen (answer (deed_on request store))) short)
    (rw (length-answer seen (answer (deed_on request store))) (omega arith)))
  where
    go : (next : Next) → meaning.next cmd seen ≡ next
        → ((request : Request) → suc (length seen) ≤ meaning.limit cmd
        → IsDoing meaning.next cmd (seen ++ answer (deed_on request store) ∷ [])
        (after_deed store (deed_on request store))
        (does_in most meaning.next cmd (seen ++ answer (deed_on request store) ∷ [])
        (after_deed store (deed_on request store))))
        → IsDoing meaning.next cmd seen store
        (at_next next (λ request. with_deed (deed_on request store)
        (does_in most meaning.next cmd (seen ++ answer (deed_on request store) ∷ [])
        (after_deed store (deed_on request store)))))
    go (Over status output) is rest = (is, tt)
    go (More request) is rest =
        let short = lt_of_not-le (λ past.
        more-not_over (meaning.next cmd seen) request is (meaning.ends cmd seen past)) in
        let found = rest request short in (
          (request, store (place request), is, refl, found.0),
          (deed_on-right store request, found.1),
        )

pub does-is : (meaning : Meaning) (cmd : Cmd) (store : Store)
    → IsDoing meaning.next cmd [] store (does meaning cmd store)
does-is meaning cmd store =
    does_in-is meaning cmd (suc (meaning.limit cmd)) [] store (omega arith) (omega arith)

pub same_request : (next : Next) (one other : Request) → next ≡ More one → next ≡ More other
    → one ≡ other
same_request next one other is also = let same : More one ≡ More other = sym is ∙ also in cc

-- on a map a command has one doing
one_doing : (next : NextOf) (cmd : Cmd) (seen : List Answer) (store : Store)
    (deeds others : List Deed) (status other : ℕ) (output text : List ℕ)
    → Talks next cmd seen deeds status output → Talks next cmd seen others other text
    → Meets store deeds → Meets store others
    → (deeds ≡ others) × (status ≡ other) × (output ≡ text)
one_doing next cmd seen store [] [] status other output text talks also meets too =
    let same : Over status output ≡ Over other text = sym talks ∙ also in (refl, cc, cc)
one_doing next cmd seen store [] (e ∷ es) status other output text talks also meets too =
    let same : Over status output ≡ More also.0 = sym talks ∙ also.2 in
    absurd (more-not_over (Over status output) also.0 same tt)
one_doing next cmd seen store (d ∷ ds) [] status other output text talks also meets too =
    let same : Over other text ≡ More talks.0 = sym also ∙ talks.2 in
    absurd (more-not_over (Over other text) talks.0 same tt)
one_doing next cmd seen store (d ∷ ds) (e ∷ es) status other output text talks also meets too =
    let asked : talks.0 ≡ also.0 =
    same_request (next cmd seen) talks.0 also.0 talks.2 also.2 in
    let first : d ≡ deed_on talks.0 store =
    talks.3 ∙ deed_at-told store talks.0 talks.1 (subst (IsRight store) talks.3 meets.0) in
    let second : e ≡ deed_on also.0 store =
    also.3 ∙ deed_at-told store also.0 also.1 (subst (IsRight store) also.3 too.0) in
    let same : d ≡ e = first ∙ (ap (λ request. deed_on request store) asked ∙ sym second) in
    let rest = one_doing next cmd (seen ++ answer d ∷ []) (after_deed store d) ds es
    status other output text talks.4
    (subst (λ f. Talks next cmd (seen ++ answer f ∷ []) es other text) (sym same) also.4)
    meets.1 (subst (λ f. Meets (after_deed store f) es) (sym same) too.1) in
    (ap₂ (λ u v. u ∷ v) same rest.0, rest.1, rest.2)

same_parts : (one other : Doing) → one.deeds ≡ other.deeds → one.status ≡ other.status
    → one.output ≡ other.output → one ≡ other
same_parts one other deeds status output =
    λ i. record { deeds = deeds i; status = status i; output = output i }

pub doings_equal : (next : NextOf) (cmd : Cmd) (seen : List Answer) (store : Store)
    (one other : Doing) → IsDoing next cmd seen store one → IsDoing next cmd seen store other
    → one ≡ other
doings_equal next cmd seen store one other is also =
    let same = one_doing next cmd seen store one.deeds other.deeds one.status other.status
    one.output other.output is.0 also.0 is.1 also.1 in
    same_parts one other same.0 same.1 same.2

-- two maps that agree on the outer reads of a doing give the same doing
pub same_doing_law : (meaning : Meaning) → SameDoing meaning
same_doing_law meaning cmd first second agree =
    let doing = does meaning cmd first in
    let on_first = does-is meaning cmd first in
    let on_second : IsDoing meaning.next cmd [] second doing =
    (on_first.0, meets_on_both nothing_over first second doing.deeds agree on_first.1) in
    doings_equal meaning.next cmd [] second (does meaning cmd second) doing
    (does-is meaning cmd second) on_second
