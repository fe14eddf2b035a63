-- How the calls of a reader are tied to the meaning of lines.
use Rattle.std.specs.Prelude.{◌≡◌, ℕ, ◌<◌, ◌≤◌, List, [], ◌∷◌, ◌++◌, Option, Some, None, Result, Ok}
use Rattle.std.specs.Prelude.{Err, slice_get}
use Rattle.std.specs.Prelude.{zero, suc}
use Rattle.std.proofs.Common.{refl, sym, ap, subst, ◌∙◌, append_assoc, arith}
use Rattle.std.proofs.lemmas.List.{append-nil, map-append}
use Rattle.mk_blocks.specs.Acts.{Act}
use Rattle.mk_blocks.specs.Outcomes.{done}
use Rattle.mk_blocks.specs.Ties.{Does, Ties}
use Rattle.mk_values.specs.Evaluators.{Answer}
use Rattle.mk_values.specs.Facts.{Means, RefusedBehind}
use Rattle.mk_values.specs.Facts as expand
use Rattle.mk_values.specs.Value.{questions_of, with_asked}
use Rattle.mk_values.specs.declared.fault.ExpandFault.{ExpandFault}
use Rattle.mk_makefile.specs.Acts.{Did, Did-both, Did-nothing, DidPart, DidPart-behind}
use Rattle.mk_makefile.specs.Acts.{DidPart-more, DidPart-whole, acts_of}
use Rattle.mk_makefile.specs.Kinds.{line_kind}
use Rattle.mk_makefile.specs.Languages.{meaning}
use Rattle.mk_makefile.specs.Leads.{Led, told-none, told_both}
use Rattle.mk_makefile.specs.Moments.{Doing, Moment, moment_of}
use Rattle.mk_makefile.specs.Notes.{asked_by, question_of, questions_in}
use Rattle.mk_makefile.specs.Questions.{Answered, Answers, AreAsked, Question}
use Rattle.mk_makefile.specs.Questions.{bytes_of, cut, names_of, output_of, time_of}
use Rattle.mk_makefile.specs.Questions.{cuts_in, cuts_in-append, listings_in, readings_in}
use Rattle.mk_makefile.specs.Questions.{runnings_in, times_in}
use Rattle.mk_makefile.specs.Questions.{listings_in-append, readings_in-append, runnings_in-append}
use Rattle.mk_makefile.specs.Questions.{times_in-append}
use Rattle.mk_makefile.specs.Refusals.{sorted}
use Rattle.mk_makefile.specs.SomeAnswers.{answers_to, are_answered}
use Rattle.mk_makefile.specs.declared.fault.Outside.{Outside}
use Rattle.mk_makefile.specs.declared.fault.Outside.TheVariants as outside
use Rattle.mk_makefile.specs.declared.fault.Refusal.{Refusal}
use Rattle.mk_makefile.specs.declared.fault.What.{What}
use Rattle.mk_makefile.specs.declared.note.Note.{Note}
use Rattle.mk_makefile.specs.declared.state.State.{State}
use Rattle.mk_world.specs.Causes.{HasCause}
use Rattle.mk_world.specs.Talks.{Meaning}
use Rattle.mk_world.specs.Told.{Told}
use Rattle.mk_world.specs.declared.history.History.{History}
use Rattle.mk_reader.specs.declared.reader.Reader.{Reader}

-- a reader's world and sink, as they tell of themselves
pub record Outer (W S : Type 0) : Type 1 where
  pub meaning : Meaning
  pub history : W → Option History
  pub faults : W → ℕ
  pub runs : W → List ℕ → Type 0
  pub held : S → Option (List ℕ)
  pub lost : S → ℕ

-- no question but the last is that of a command without an answer
abbrev pub IsCutLast : List Question → Type 0
IsCutLast [] = Unit {0}
IsCutLast (last ∷ []) = Unit {0}
IsCutLast (first ∷ next ∷ more) = (cuts_in (first ∷ []) ≡ []) × IsCutLast (next ∷ more)

-- Where nothing failed, each command was answered. Else the last question alone may be that of a
-- command without an answer.
abbrev pub IsWhole : Option Outside → List Question → Type 0
IsWhole None questions = cuts_in questions ≡ []
IsWhole (Some failure) questions = IsCutLast questions

-- how a call ended
abbrev pub ended : Option Outside → Result (Unit {0}) Outside
ended None = Ok tt
ended (Some failure) = Err failure

cuts_first : (question : Question) (more : List Question) → cuts_in (question ∷ more) ≡ []
    → (cuts_in (question ∷ []) ≡ []) × (cuts_in more ≡ [])
cuts_first (cut cmd) more none = absurd cc
cuts_first (bytes_of path found) more none = (refl, none)
cuts_first (time_of path when) more none = (refl, none)
cuts_first (names_of dir names) more none = (refl, none)
cuts_first (output_of cmd ended) more none = (refl, none)

cut_last_both : (first second : List Question) → cuts_in first ≡ [] → IsCutLast second
    → IsCutLast (first ++ second)
cut_last_both [] second none last = last
cut_last_both (one ∷ []) [] none last = tt
cut_last_both (one ∷ []) (next ∷ more) none last = ((cuts_first one [] none).0, last)
cut_last_both (one ∷ other ∷ first) second none last =
    let parts = cuts_first one (other ∷ first) none in
    (parts.0, cut_last_both (other ∷ first) second parts.1 last)

pub cut_last-none : (questions : List Question) → cuts_in questions ≡ [] → IsCutLast questions
cut_last-none [] none = tt
cut_last-none (last ∷ []) none = tt
cut_last-none (first ∷ next ∷ more) none =
    let parts = cuts_first first (next ∷ more) none in
    (parts.0, cut_last-none (next ∷ more) parts.1)

whole_both : (failure : Option Outside) (first second : List Question) → cuts_in first ≡ []
    → IsWhole failure second → IsWhole failure (first ++ second)
whole_both None first second none whole = cuts_in-append first second ∙ rw (none, whole) refl
whole_both (Some failure) first second none whole = cut_last_both first second none whole

pub no_cause : (failed : Outside) (count : ℕ) → HasCause failed count count (ended None)
no_cause failed count = record {
  kept = omega arith;
  answered = λ rose. absurd (let never : ⊥ = omega arith in never);
  rose = λ is. absurd cc;
}

pub same_count : (failed : Outside) (before after : ℕ)
    → HasCause failed before after (ended None) → after ≡ before
same_count failed before after cause =
    let none : before < after → ⊥ = λ rose. let is = cause.answered rose in absurd cc in
    let kept : before ≤ after = cause.kept in omega (arith, none)

cause_behind : (failed : Outside) (a b c : ℕ) (answer : Result (Unit {0}) Outside)
    → HasCause failed a b (ended None) → HasCause failed b c answer
    → HasCause failed a c answer
cause_behind failed a b c answer first second =
    let same : b ≡ a = same_count failed a b first in
    subst (λ n. HasCause failed n c answer) same second

-- the questions of a first part
slice_get-append : {A : Type 0} (old more : List A) (place : ℕ) (one : A)
    → slice_get old place ≡ Some one → slice_get (old ++ more) place ≡ Some one
slice_get-append [] more place one is = absurd cc
slice_get-append (x ∷ old) more zero one is = is
slice_get-append (x ∷ old) more (suc place) one is = slice_get-append old more place one is

Answered-first : (answers : Answers) (first more : List Question)
    → Answered answers (first ++ more) → Answered answers first
Answered-first answers first more by = record {
  exists = λ place one is. by.exists place one
      (rw (times_in-append first more)
      (slice_get-append (times_in first) (times_in more) place one is));
  contents = λ place one is. by.contents place one
      (rw (readings_in-append first more)
      (slice_get-append (readings_in first) (readings_in more) place one is));
  listings = λ place one is. by.listings place one
      (rw (listings_in-append first more)
      (slice_get-append (listings_in first) (listings_in more) place one is));
  outputs = λ place one is. by.outputs place one
      (rw (runnings_in-append first more)
      (slice_get-append (runnings_in first) (runnings_in more) place one is));
}

module _ {W S : Type 0} (outer : Outer W S) where
  -- no child runs
  abbrev pub idle : Reader W S → Type 0
  idle x = outer.runs x.world.now []

  -- What holds of a reader before and after calls, of which the last may have failed so: it has the
  -- same outside and order, questions were noted in addition, they were asked, and a failure has
  -- its cause.
  pub record Leads (failure : Option Outside) (x y : Reader W S) : Type 0 where
    pub world : y.world.ghost_name ≡ x.world.ghost_name
    pub err : y.err.ghost_name ≡ x.err.ghost_name
    pub state : y.state.ghost_name ≡ x.state.ghost_name
    pub order : y.order.now ≡ x.order.now
    pub more : List Note
    pub noted : y.state.now.notes.items ≡ x.state.now.notes.items ++ more
    pub told : idle x → Told (outer.history x.world.now) (outer.history y.world.now)
        (AreAsked outer.meaning (questions_in more))
    pub whole : IsWhole failure (questions_in more)
    pub stays_idle : idle x → idle y
    pub world_cause : HasCause outside.World (outer.faults x.world.now) (outer.faults y.world.now)
        (ended failure)
    pub sink_cause : HasCause outside.Sink (outer.lost x.err.now) (outer.lost y.err.now)
        (ended failure)

  pub leads_nowhere : (x : Reader W S) → Leads None x x
  leads_nowhere x = record {
    world = refl;
    err = refl;
    state = refl;
    order = refl;
    more = [];
    noted = sym (append-nil x.state.now.notes.items);
    told = λ is. told-none outer.meaning (outer.history x.world.now);
    whole = refl;
    stays_idle = λ is. is;
    world_cause = no_cause outside.World (outer.faults x.world.now);
    sink_cause = no_cause outside.Sink (outer.lost x.err.now);
  }

  pub leads_on : {x y z : Reader W S} {failure : Option Outside}
      → Leads None x y → Leads failure y z → Leads failure x z
  leads_on {x} {y} {z} {failure} first second = record {
    world = second.world ∙ first.world;
    err = second.err ∙ first.err;
    state = second.state ∙ first.state;
    order = second.order ∙ first.order;
    more = first.more ++ second.more;
    noted = second.noted ∙ ap (λ l. l ++ second.more) first.noted
        ∙ append_assoc x.state.now.notes.items first.more second.more;
    told = λ is.
        subst (λ q. Told (outer.history x.world.now) (outer.history z.world.now)
        (AreAsked outer.meaning q))
        (sym (map-append question_of first.more second.more))
        (told_both outer.meaning (outer.history x.world.now)
        (outer.history y.world.now) (outer.history z.world.now)
        (questions_in first.more) (questions_in second.more)
        (first.told is) (second.told (first.stays_idle is)));
    whole =
        subst (IsWhole failure) (sym (map-append question_of first.more second.more))
        (whole_both failure (questions_in first.more) (questions_in second.more) first.whole
        second.whole);
    stays_idle = λ is. second.stays_idle (first.stays_idle is);
    world_cause = cause_behind outside.World (outer.faults x.world.now)
        (outer.faults y.world.now) (outer.faults z.world.now) (ended failure)
        first.world_cause second.world_cause;
    sink_cause = cause_behind outside.Sink (outer.lost x.err.now)
        (outer.lost y.err.now) (outer.lost z.err.now) (ended failure)
        first.sink_cause second.sink_cause;
  }

  abbrev pub has_answered : Answers → Reader W S → Type 0
  has_answered answers x = Answered answers (questions_in x.state.now.notes.items)

  pub agreed : {x y : Reader W S} {failure : Option Outside} (answers : Answers)
      → Leads failure x y → has_answered answers y → has_answered answers x
  agreed {x} {y} answers leads by =
      Answered-first answers (questions_in x.state.now.notes.items) (questions_in leads.more)
      (subst (Answered answers)
      (ap questions_in leads.noted ∙ map-append question_of x.state.now.notes.items leads.more)
      by)

  -- the files, times, listings and commands that were asked for
  abbrev pub acts_at : Reader W S → List Act
  acts_at x = acts_of (questions_in x.state.now.notes.items)

  abbrev pub did : Reader W S → Reader W S → List Act → Type 0
  did x y acts = Did (outer.held x.err.now) (outer.held y.err.now) (acts_at x) (acts_at y) acts

  abbrev pub did_part : Reader W S → Reader W S → List Act → Type 0
  did_part x y acts =
      DidPart (outer.held x.err.now) (outer.held y.err.now) (acts_at x) (acts_at y) acts

  -- What lines mean to a reader.
  abbrev pub reader_ties : Ties (Reader W S) What Outside
  reader_ties = record {
    Answers = Answers;
    agrees = has_answered;
    some = λ x. let questions = questions_in x.state.now.notes.items in
        (answers_to questions, are_answered questions);
    State = Moment;
    state = λ x. moment_of x.state.now x.order.now;
    kind = line_kind;
    meaning = meaning;
    leads = Leads;
    did = did;
    did_part = did_part;
    leads_nowhere = leads_nowhere;
    leads_on = leads_on;
    agreed = agreed;
    did_nothing = λ x. Did-nothing (outer.held x.err.now) (acts_at x);
    did_both = λ {x} {y} {z} {first} {second} one other.
        Did-both (outer.held x.err.now) (outer.held y.err.now) (outer.held z.err.now)
        (acts_at x) (acts_at y) (acts_at z) first second one other;
    part_of_whole = λ {x} {y} {whole} done.
        DidPart-whole (outer.held x.err.now) (outer.held y.err.now) (acts_at x) (acts_at y) whole
        done;
    part_of_more = λ {x} {y} {part} more done.
        DidPart-more (outer.held x.err.now) (outer.held y.err.now) (acts_at x) (acts_at y) part
        more done;
    part_behind = λ {x} {y} {z} {first} {second} one part.
        DidPart-behind (outer.held x.err.now) (outer.held y.err.now) (outer.held z.err.now)
        (acts_at x) (acts_at y) (acts_at z) first second one part;
  }

abbrev pub outer : {W S : Type 0} → Meaning → (W → Option History) → (W → ℕ)
    → (W → List ℕ → Type 0) → (S → Option (List ℕ)) → (S → ℕ) → Outer W S
outer meaning history faults runs held lost = record {
  meaning = meaning;
  history = history;
  faults = faults;
  runs = runs;
  held = held;
  lost = lost;
}

-- A call of a reader gives what is defined, seen by `view`, and leaves the reader where reading
-- stands behind it; or it is refused as that, or by the outside, or for want of memory.
abbrev pub Gave : {W S A B : Type 0} → Outer W S → Reader W S → Reader W S → (A → B)
    → Result A Refusal → (Answers → Moment → Doing B) → Type 0
Gave outer x y view answer question =
    Does (reader_ties outer) sorted x y
    (λ answers found. done (view found, moment_of y.state.now y.order.now)) answer
    (λ answers. question answers (moment_of x.state.now x.order.now))

-- What evaluating a text or a condition gives, what it asks for, behind a fault of its own too, and
-- what it leaves of what was read and of the world.
pub record Evaluated {A B : Type 0} (meaning : Meaning) (idle then_idle : Type 0)
    (before after : Option History) (old new : State) (view : A → B)
    (answer : Result A ExpandFault)
    (defined : expand.Answers → Answer B) : Type 0
  where
    pub value : Means (asked_by new.notes.items) (λ found. (view found, asked_by new.notes.items))
        answer (λ answers. with_asked (defined answers))
    pub questions : RefusedBehind (asked_by new.notes.items) answer
        (λ answers. questions_of (defined answers))
    pub made : new.made ≡ old.made
    pub in_group : new.in_group ≡ old.in_group
    pub led : Led meaning idle before after old.notes.items new.notes.items
    pub stays_idle : idle → then_idle
