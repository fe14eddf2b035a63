-- Steps of a reading that are the same where they are answered the same.
use Rattle.std.proofs.Common.{◌≡◌, ◌⊎◌, ◌∙◌, ℕ, suc, ◌+◌, Bool, true, false, not, List, [], ◌∷◌, ◌++◌, drop, length, Result, Ok, Err, if◌then◌else◌}
use Rattle.std.proofs.Common.{refl, sym, ap, subst, inl, inr, append_assoc, arith}
use Rattle.std.proofs.Math.Seq.{drop-append_seam}
use Rattle.std.proofs.lemmas.List.{append-nil, length-append}
use Rattle.mk_answers.proofs.SameLemmas.{Same}
use Rattle.mk_answers.specs.Evaluations.{PartAtQuestion}
use Rattle.mk_answers.specs.Readings.{AnswerAlike, AreAnsweredAlike, Counts, behind_act, behind_acts}
use Rattle.mk_blocks.specs.Acts.{Act, dated}
use Rattle.mk_blocks.specs.Outcomes.{Outcome, ◌>>=◌, behind, done, followed, refused, silent}
use Rattle.mk_makefile.specs.Acts.{dates}
use Rattle.mk_makefile.specs.Moments.{Doing, Moment, given}
use Rattle.mk_makefile.specs.Questions.{Answers}
use Rattle.mk_makefile.specs.ReadFaults.{fault_as, outcome_as}
use Rattle.mk_makefile.specs.Values.{asking, expanded}
use Rattle.mk_makefile.specs.declared.fault.What.{What}
use Rattle.mk_values.specs.Evaluators.{Answer, Counted}
use Rattle.mk_values.specs.Facts.{AsksMore}
use Rattle.mk_values.specs.Value.{questions_of}
use Rattle.mk_values.specs.declared.facts.Asked.{Asked}

same-ok : {A E : Type 0} (one other : A) → ◌≡◌ {A = Result A E} (Ok one) (Ok other) → one ≡ other
same-ok one other is = cc

pub behind_acts-append : (so_far : Counts) (first second : List Act)
    → behind_acts so_far (first ++ second) ≡ behind_acts (behind_acts so_far first) second
behind_acts-append so_far [] second = refl
behind_acts-append so_far (act ∷ first) second = behind_acts-append (behind_act so_far act) first second

-- how much was asked where reading stands
abbrev pub counts_at : Moment → Counts
counts_at s = record { dated = length s.asked; read = s.read; listed = s.listed; ran = s.ran }

-- what follows does more
followed-more : {A B E : Type 0} (acts : List Act) (answer : Result A E) (next : A → Outcome B E)
    → (more : List Act) × ((followed acts answer next).acts ≡ acts ++ more)
followed-more acts (Ok found) next = ((next found).acts, refl)
followed-more acts (Err fault) next = ([], sym (append-nil acts))

module _ (one other : Answers) where
  -- What is answered the same in all that is done is so in a first part.
  first-alike : (so_far : Counts) (first second acts other_acts more other_more : List Act)
      → acts ≡ first ++ more → other_acts ≡ second ++ other_more
      → AreAnsweredAlike one other so_far acts other_acts → AreAnsweredAlike one other so_far first second
  first-alike so_far first second acts other_acts more other_more is other_is alike common act rest other_rest here
      there =
      alike common act (rest ++ more) (other_rest ++ other_more)
      (is ∙ (ap (λ l. l ++ more) here ∙ append_assoc common (act ∷ rest) more))
      (other_is ∙ (ap (λ l. l ++ other_more) there ∙ append_assoc common (act ∷ other_rest) other_more))

  -- And in what stands behind it.
  rest-alike : (so_far now : Counts) (before acts other_acts : List Act) → now ≡ behind_acts so_far before
      → AreAnsweredAlike one other so_far (before ++ acts) (before ++ other_acts)
      → AreAnsweredAlike one other now acts other_acts
  rest-alike so_far now before acts other_acts is alike common act rest other_rest here there =
      subst (λ counts. AnswerAlike one other counts act)
      (behind_acts-append so_far before common ∙ ap (λ counts. behind_acts counts common) (sym is))
      (alike (before ++ common) act rest other_rest
      (ap (λ l. before ++ l) here ∙ sym (append_assoc before common (act ∷ rest)))
      (ap (λ l. before ++ l) there ∙ sym (append_assoc before common (act ∷ other_rest))))

  -- Behind what the first does, as much was asked as it says. The second is the first, where they are answered the
  -- same as long as they do the same.
  pub record IsAlike {A E : Type 0} (at : A → Counts) (so_far : Counts) (first second : Outcome A E) : Type 0 where
    pub counts : (found : A) → first.answer ≡ Ok found → at found ≡ behind_acts so_far first.acts
    pub same : AreAnsweredAlike one other so_far first.acts second.acts → second ≡ first

  -- the same of steps
  abbrev pub Alike : {A : Type 0} → Moment → Doing A → Doing A → Type 0
  Alike {A} s first second = IsAlike (λ (found : A × Moment). counts_at found.1) (counts_at s) first second

  pub silent-alike : {A E : Type 0} (at : A → Counts) (so_far : Counts) (answer : Result A E)
      → ((found : A) → at found ≡ so_far) → IsAlike at so_far (silent answer) (silent answer)
  silent-alike at so_far answer stays = record { counts = λ found is. stays found; same = λ alike. refl }

  pub done-alike : {A E : Type 0} (at : A → Counts) (so_far : Counts) (found : A) → at found ≡ so_far
      → IsAlike {A = A} {E = E} at so_far (done found) (done found)
  done-alike {A} {E} at so_far found stays = record {
    counts = λ found_too is. ap at (sym (same-ok {A = A} {E = E} found found_too is)) ∙ stays;
    same = λ alike. refl;
  }

  pub refused-alike : {A E : Type 0} (at : A → Counts) (so_far : Counts) (fault : E)
      → IsAlike {A = A} {E = E} at so_far (refused fault) (refused fault)
  refused-alike at so_far fault = record { counts = λ found is. absurd cc; same = λ alike. refl }

  pub given-alike : {A : Type 0} (found : A) (s now : Moment) → counts_at now ≡ counts_at s
      → Alike s (given found now) (given found now)
  given-alike {A} found s now stays =
      done-alike {A = A × Moment} {E = What} (λ v. counts_at v.1) (counts_at s) (found, now) stays

  pub if-alike : {A E : Type 0} (at : A → Counts) (so_far : Counts) (b : Bool) (first second first_else second_else : Outcome A E)
      → IsAlike at so_far first second → IsAlike at so_far first_else second_else
      → IsAlike at so_far (if b then first else first_else) (if b then second else second_else)
  if-alike at so_far true first second first_else second_else is is_else = is
  if-alike at so_far false first second first_else second_else is is_else = is_else

  then-counts : {A B E : Type 0} (at : A → Counts) (then_at : B → Counts) (so_far : Counts) (acts : List Act)
      (answer : Result A E) (next : A → Outcome B E)
      → ((found : A) → answer ≡ Ok found → at found ≡ behind_acts so_far acts)
      → ((v : A) (found : B) → (next v).answer ≡ Ok found → then_at found ≡ behind_acts (at v) (next v).acts)
      → (found : B) → (followed acts answer next).answer ≡ Ok found
      → then_at found ≡ behind_acts so_far (followed acts answer next).acts
  then-counts at then_at so_far acts (Ok v) next counts more found is =
      more v found is ∙ (ap (λ now. behind_acts now (next v).acts) (counts v refl)
      ∙ sym (behind_acts-append so_far acts (next v).acts))
  then-counts at then_at so_far acts (Err fault) next counts more found is = absurd cc

  then-same : {A B E : Type 0} (at : A → Counts) (so_far : Counts) (acts : List Act) (answer : Result A E)
      (next other_next : A → Outcome B E)
      → ((found : A) → answer ≡ Ok found → at found ≡ behind_acts so_far acts)
      → ((v : A) → AreAnsweredAlike one other (at v) (next v).acts (other_next v).acts → other_next v ≡ next v)
      → AreAnsweredAlike one other so_far (followed acts answer next).acts (followed acts answer other_next).acts
      → followed acts answer other_next ≡ followed acts answer next
  then-same at so_far acts (Ok v) next other_next counts same alike =
      ap (behind acts)
      (same v (rest-alike so_far (at v) acts (next v).acts (other_next v).acts (counts v refl) alike))
  then-same at so_far acts (Err fault) next other_next counts same alike = refl

  -- one step behind the other
  pub then-alike : {A B E : Type 0} (at : A → Counts) (then_at : B → Counts) (so_far : Counts)
      (first second : Outcome A E) (next other_next : A → Outcome B E) → IsAlike at so_far first second
      → ((v : A) → IsAlike then_at (at v) (next v) (other_next v))
      → IsAlike then_at so_far (first >>= next) (second >>= other_next)
  then-alike {A} {B} {E} at then_at so_far first second next other_next is goes = record {
    counts = then-counts at then_at so_far first.acts first.answer next is.counts (λ v. (goes v).counts);
    same = λ alike. both alike (is.same (start alike));
  }
    where
      start : AreAnsweredAlike one other so_far (first >>= next).acts (second >>= other_next).acts
          → AreAnsweredAlike one other so_far first.acts second.acts
      start alike =
          let more = followed-more first.acts first.answer next in
          let other_more = followed-more second.acts second.answer other_next in
          first-alike so_far first.acts second.acts (first >>= next).acts (second >>= other_next).acts more.0
          other_more.0 more.1 other_more.1 alike

      both : AreAnsweredAlike one other so_far (first >>= next).acts (second >>= other_next).acts → second ≡ first
          → (second >>= other_next) ≡ (first >>= next)
      both alike same =
          ap (λ (it : Outcome A E). it >>= other_next) same
          ∙ then-same at so_far first.acts first.answer next other_next is.counts (λ v. (goes v).same)
          (subst (λ (it : Outcome A E). AreAnsweredAlike one other so_far (first >>= next).acts (it >>= other_next).acts)
          same alike)

  -- A last step, which does nothing outside, is the same behind the same.
  pub last-same : {A B E : Type 0} (at : A → Counts) (so_far : Counts) (first second : Outcome A E)
      (next : A → Outcome B E) → IsAlike at so_far first second
      → AreAnsweredAlike one other so_far (first >>= next).acts (second >>= next).acts
      → (second >>= next) ≡ (first >>= next)
  last-same {A} {B} {E} at so_far first second next is alike =
      let more = followed-more first.acts first.answer next in
      let other_more = followed-more second.acts second.answer next in
      ap (λ (it : Outcome A E). it >>= next)
      (is.same (first-alike so_far first.acts second.acts (first >>= next).acts (second >>= next).acts more.0
      other_more.0 more.1 other_more.1 alike))

  -- the same step behind another, in doings
  pub do-alike : {A B : Type 0} (s : Moment) (first second : Doing A) (next other_next : A × Moment → Doing B)
      → Alike s first second → ((v : A × Moment) → Alike v.1 (next v) (other_next v))
      → Alike s (first >>= next) (second >>= other_next)
  do-alike {A} {B} s first second next other_next is goes =
      then-alike (λ (v : A × Moment). counts_at v.1) (λ (v : B × Moment). counts_at v.1) (counts_at s) first second
      next other_next is goes

  -- one act
  pub asking-alike : {A : Type 0} (act : Act) (found other_found : A) (s now : Moment)
      → counts_at now ≡ behind_act (counts_at s) act
      → (AnswerAlike one other (counts_at s) act → other_found ≡ found)
      → Alike s (asking act found now) (asking act other_found now)
  asking-alike {A} act found other_found s now counted same = record {
    counts = λ v is.
        ap (λ (it : A × Moment). counts_at it.1) (sym (same-ok {A = A × Moment} {E = What} (found, now) v is)) ∙ counted;
    same = λ alike.
        ap (λ (it : A). asking act it now) (same (alike [] act [] [] refl refl));
  }

  -- with other faults
  pub as-alike : {A E F : Type 0} (at : A → Counts) (so_far : Counts) (view : E → F) (first second : Outcome A E)
      → IsAlike at so_far first second → IsAlike at so_far (outcome_as view first) (outcome_as view second)
  as-alike {A} {E} {F} at so_far view first second is = record {
    counts = λ found here. is.counts found (given-as first.answer found here);
    same = λ alike. ap (outcome_as view) (is.same alike);
  }
    where
      given-as : (answer : Result A E) (found : A) → fault_as view answer ≡ Ok found → answer ≡ Ok found
      given-as (Ok got) found here = ap Ok (same-ok {A = A} {E = F} got found here)
      given-as (Err fault) found here = absurd cc

-- Evaluations

behind_dates : (so_far : Counts) (asked : List Asked)
    → behind_acts so_far (dates asked) ≡ record so_far { dated = so_far.dated + length asked }
behind_dates so_far [] =
    let none_more : so_far.dated ≡ so_far.dated + 0 = omega arith in
    ap (λ n. record so_far { dated = n }) none_more
behind_dates so_far (one ∷ more) =
    let one_more : so_far.dated + 1 + length more ≡ so_far.dated + suc (length more) = omega arith in
    behind_dates (record so_far { dated = so_far.dated + 1 }) more
    ∙ ap (λ n. record so_far { dated = n }) one_more

dates-append : (first second : List Asked) → dates (first ++ second) ≡ dates first ++ dates second
dates-append [] second = refl
dates-append (one ∷ first) second = ap (λ (l : List Act). dated one.path ∷ l) (dates-append first second)

-- where lists part

record PartBehind {A : Type 0} (before more other_more common rest other_rest : List A) (x y : A) : Type 0 where
  behind_it : List A
  common_is : common ≡ before ++ behind_it
  is : more ≡ behind_it ++ x ∷ rest
  other_is : other_more ≡ behind_it ++ y ∷ other_rest

-- two lists with one beginning part behind it
part-behind : {A : Type 0} (before more other_more common rest other_rest : List A) (x y : A)
    → before ++ more ≡ common ++ x ∷ rest → before ++ other_more ≡ common ++ y ∷ other_rest → (x ≡ y → ⊥)
    → PartBehind before more other_more common rest other_rest x y
part-behind [] more other_more common rest other_rest x y is other_is differ =
    record { behind_it = common; common_is = refl; is = is; other_is = other_is }
part-behind (one ∷ before) more other_more [] rest other_rest x y is other_is differ =
    let first : one ≡ x = cc in
    let second : one ≡ y = cc in
    absurd (differ (sym first ∙ second))
part-behind {A} (one ∷ before) more other_more (two ∷ common) rest other_rest x y is other_is differ =
    let head : one ≡ two = cc in
    let tail : before ++ more ≡ common ++ x ∷ rest = cc in
    let other_tail : before ++ other_more ≡ common ++ y ∷ other_rest = cc in
    let found = part-behind before more other_more common rest other_rest x y tail other_tail differ in
    record {
      behind_it = found.behind_it;
      common_is = ap (λ (l : List A). two ∷ l) found.common_is ∙ ap (λ it. it ∷ (before ++ found.behind_it)) (sym head);
      is = found.is;
      other_is = found.other_is;
    }

-- Two lists part at one place.
part-once : {A : Type 0} (common other_common rest other_rest again other_again : List A) (x y z w : A)
    → common ++ x ∷ rest ≡ other_common ++ z ∷ again → common ++ y ∷ other_rest ≡ other_common ++ w ∷ other_again
    → (x ≡ y → ⊥) → (z ≡ w → ⊥) → (common ≡ other_common) × (x ≡ z) × (y ≡ w)
part-once [] [] rest other_rest again other_again x y z w is other_is differ others =
    let first : x ≡ z = cc in
    let second : y ≡ w = cc in
    (refl, first, second)
part-once [] (one ∷ other_common) rest other_rest again other_again x y z w is other_is differ others =
    let first : x ≡ one = cc in
    let second : y ≡ one = cc in
    absurd (differ (first ∙ sym second))
part-once (one ∷ common) [] rest other_rest again other_again x y z w is other_is differ others =
    let first : one ≡ z = cc in
    let second : one ≡ w = cc in
    absurd (others (sym first ∙ second))
part-once (one ∷ common) (two ∷ other_common) rest other_rest again other_again x y z w is other_is differ others =
    let head : one ≡ two = cc in
    let tail : common ++ x ∷ rest ≡ other_common ++ z ∷ again = cc in
    let other_tail : common ++ y ∷ other_rest ≡ other_common ++ w ∷ other_again = cc in
    let found = part-once common other_common rest other_rest again other_again x y z w tail other_tail differ others in
    (ap (λ it. it ∷ common) head ∙ ap (λ l. two ∷ l) found.0, found.1, found.2)

abbrev question : List ℕ → Bool → Asked
question path answer = record { path = path; answer = answer }

two-answers : (path : List ℕ) (answer : Bool) → question path answer ≡ question path (not answer) → ⊥
two-answers path true is = let same : true ≡ false = ap (λ (it : Asked). it.answer) is in absurd cc
two-answers path false is = let same : false ≡ true = ap (λ (it : Asked). it.answer) is in absurd cc

not-same : (answer : Bool) → not answer ≡ answer → ⊥
not-same true is = absurd cc
not-same false is = absurd cc

module _ (one other : Answers) where
  -- two evaluations that part are not answered the same
  apart : (s : Moment) (first second : List Asked) → AsksMore s.asked first → AsksMore s.asked second
      → PartAtQuestion one.exists first second → PartAtQuestion other.exists second first
      → AreAnsweredAlike one other (counts_at s) (dates (drop (length s.asked) first))
      (dates (drop (length s.asked) second))
      → ⊥
  apart s first second more other_more part again alike = not-same part.answer (answer ∙ (here ∙ sym part.answered))
    where
      once : (part.common ≡ again.common) × (question part.path part.answer ≡ question again.path (not again.answer))
          × (question part.path (not part.answer) ≡ question again.path again.answer)
      once = part-once part.common again.common part.rest part.other_rest again.other_rest again.rest
          (question part.path part.answer) (question part.path (not part.answer))
          (question again.path (not again.answer)) (question again.path again.answer)
          (sym part.is ∙ again.other_is) (sym part.other_is ∙ again.is) (two-answers part.path part.answer)
          (λ same. two-answers again.path again.answer (sym same))

      answer : not part.answer ≡ other.exists (length part.common) part.path
      answer = ap (λ (it : Asked). it.answer) once.2
          ∙ (again.answered
          ∙ (ap (λ (it : Asked). other.exists (length again.common) it.path) (sym once.2)
          ∙ ap (λ (l : List Asked). other.exists (length l) part.path) (sym once.0)))

      found : PartBehind s.asked more.more other_more.more part.common part.rest part.other_rest
          (question part.path part.answer) (question part.path (not part.answer))
      found = part-behind s.asked more.more other_more.more part.common part.rest part.other_rest
          (question part.path part.answer) (question part.path (not part.answer))
          (sym more.added ∙ part.is) (sym other_more.added ∙ part.other_is) (two-answers part.path part.answer)

      shown : (all its_more rest : List Asked) (its_answer : Bool) → all ≡ s.asked ++ its_more
          → its_more ≡ found.behind_it ++ question part.path its_answer ∷ rest
          → dates (drop (length s.asked) all) ≡ dates found.behind_it ++ dated part.path ∷ dates rest
      shown all its_more rest its_answer added is =
          ap (λ l. dates (drop (length s.asked) l)) added
          ∙ (ap dates (drop-append_seam s.asked its_more)
          ∙ (ap dates is ∙ dates-append found.behind_it (question part.path its_answer ∷ rest)))

      place : (behind_acts (counts_at s) (dates found.behind_it)).dated ≡ length part.common
      place = ap (λ (counts : Counts). counts.dated) (behind_dates (counts_at s) found.behind_it)
          ∙ (sym (length-append s.asked found.behind_it) ∙ ap length (sym found.common_is))

      here : other.exists (length part.common) part.path ≡ one.exists (length part.common) part.path
      here = subst (λ n. other.exists n part.path ≡ one.exists n part.path) place
          (alike (dates found.behind_it) (dated part.path) (dates part.rest) (dates part.other_rest)
          (shown first more.more part.rest part.answer more.added found.is)
          (shown second other_more.more part.other_rest (not part.answer) other_more.added found.other_is))

  evaluated-counts : {A : Type 0} (s : Moment) (answer : Answer A) → AsksMore s.asked (questions_of answer)
      → (found : A × Moment) → (expanded s answer).answer ≡ Ok found
      → counts_at found.1 ≡ behind_acts (counts_at s) (expanded s answer).acts
  evaluated-counts {A} s (Ok v) more found is =
      ap (λ (it : A × Moment). counts_at it.1)
      (sym (same-ok {A = A × Moment} {E = What} (v.0, record s { asked = v.1.asked }) found is))
      ∙ (ap (λ n. record (counts_at s) { dated = n })
      (ap length more.added ∙ length-append s.asked more.more)
      ∙ (sym (behind_dates (counts_at s) more.more)
      ∙ ap (λ l. behind_acts (counts_at s) (dates l))
      (sym (ap (drop (length s.asked)) more.added ∙ drop-append_seam s.asked more.more))))
  evaluated-counts s (Err fault) more found is = absurd cc

  -- an evaluation
  pub expanded-alike : {A : Type 0} (s : Moment) (first second : Counted A)
      → Same one.exists other.exists s.asked first second → Same other.exists one.exists s.asked second first
      → Alike one other s (expanded s first.answer) (expanded s second.answer)
  expanded-alike {A} s first second is again = record {
    counts = evaluated-counts s first.answer is.first_more;
    same = λ alike. by alike is.parts again.parts;
  }
    where
      by : AreAnsweredAlike one other (counts_at s) (expanded s first.answer).acts (expanded s second.answer).acts
          → (second ≡ first) ⊎ PartAtQuestion one.exists (questions_of first.answer) (questions_of second.answer)
          → (first ≡ second) ⊎ PartAtQuestion other.exists (questions_of second.answer) (questions_of first.answer)
          → expanded s second.answer ≡ expanded s first.answer
      by alike (inl same) others = ap (λ (it : Counted A). expanded s it.answer) same
      by alike (inr part) (inl same) = ap (λ (it : Counted A). expanded s it.answer) (sym same)
      by alike (inr part) (inr other_part) =
          absurd (apart s (questions_of first.answer) (questions_of second.answer) is.first_more is.second_more part
          other_part alike)
