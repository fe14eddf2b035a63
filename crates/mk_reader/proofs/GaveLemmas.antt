-- Calls of a reader.
use Rattle.std.proofs.Common.{◌≡◌, ◌⊎◌, ℕ, List, [], ◌∷◌, ◌++◌, Option, Some, None, Result, Ok, Err}
use Rattle.std.proofs.Common.{refl, sym, ap, subst, ◌∙◌, inl, inr, arith}
use Rattle.std.proofs.lemmas.List.{append-nil, map-append}
use Rattle.mk_blocks.specs.Acts.{Act, wrote}
use Rattle.mk_blocks.specs.Outcomes.{done, refused}
use Rattle.mk_blocks.specs.Ties.{Does}
use Rattle.mk_values.specs.Evaluators.{Answer}
use Rattle.mk_values.specs.Facts as expand
use Rattle.mk_values.specs.Value.{questions_of, with_asked}
use Rattle.mk_values.specs.declared.facts.Asked.{Asked}
use Rattle.mk_values.specs.declared.fault.ExpandFault.{ExpandFault}
use Rattle.mk_values.specs.declared.fault.ExpandFault.TheVariants as expand_fault
use Rattle.mk_makefile.specs.Acts.{Did, Did-nothing, DidPart-more, DidPart-whole, acts_of, acts_of-append, acts_of-times}
use Rattle.mk_makefile.specs.Acts.{asked_in, asked_in-dates, begun-nothing, dates, written, written-dates}
use Rattle.mk_makefile.specs.Leads.{told-none}
use Rattle.mk_makefile.specs.Messages.{said}
use Rattle.mk_makefile.specs.Moments.{Doing, Moment, moment_of}
use Rattle.mk_makefile.specs.Notes.{asked_by, question_of, questions_in}
use Rattle.mk_makefile.specs.Questions.{Answers, AreAsked, AreTimes, IsAsked, Question, cuts_in}
use Rattle.mk_makefile.specs.Refusals.{of_expand, of_world, sorted}
use Rattle.mk_makefile.specs.Values.{expanded, found_by, newly_dated}
use Rattle.mk_makefile.specs.declared.fault.Outside.{Outside}
use Rattle.mk_makefile.specs.declared.fault.Outside.TheVariants as outside
use Rattle.mk_makefile.specs.declared.fault.Refusal.{Refusal}
use Rattle.mk_makefile.specs.declared.fault.Refusal.TheVariants.{Wrong, Failed, NoMemory}
use Rattle.mk_makefile.specs.declared.fault.What.{What}
use Rattle.mk_makefile.specs.declared.fault.What.TheVariants.{Expand}
use Rattle.mk_makefile.specs.declared.note.Note.{Note}
use Rattle.mk_makefile.specs.declared.state.State.{State}
use Rattle.mk_makefile.proofs.MomentLemmas.{moment-asked, newly_dated-more}
use Rattle.mk_makefile.proofs.QuestionLemmas.{cuts_in-none, told_nothing, told_one}
use Rattle.mk_world.specs.Causes.{HasCause}
use Rattle.mk_world.specs.Runs.{Same}
use Rattle.mk_world.specs.Sinks.{Begins, Gains, GainsPart}
use Rattle.mk_world.specs.Told.{Told}
use Rattle.mk_world.specs.declared.fault.SinkFault.{SinkFault}
use Rattle.mk_world.specs.declared.fault.SinkFault.TheVariants as sink_fault
use Rattle.mk_world.specs.declared.fault.WorldFault.{WorldFault}
use Rattle.mk_world.specs.declared.fault.WorldFault.TheVariants as world_fault
use Rattle.mk_world.proofs.SinkLemmas.{Gains-nothing}
use Rattle.mk_reader.specs.Ties.{cut_last-none, Evaluated, IsWhole, Leads, Outer, acts_at, did, did_part, ended, has_answered, idle}
use Rattle.mk_reader.specs.Ties.{no_cause, reader_ties}
use Rattle.mk_reader.specs.declared.reader.Reader.{Reader}

-- a fault that the outside does not cause
abbrev IsOwn : ExpandFault → Type 0
IsOwn fault = (fault ≡ expand_fault.NoMemory → ⊥) × (fault ≡ expand_fault.Failed → ⊥)

abbrev Sort : ExpandFault → Type 0
Sort fault =
    (fault ≡ expand_fault.NoMemory) ⊎ ((fault ≡ expand_fault.Failed)
    ⊎ ((of_expand fault ≡ Wrong (Expand fault)) × IsOwn fault))

sort_of : (fault : ExpandFault) → Sort fault
sort_of expand_fault.NoMemory = inl refl
sort_of expand_fault.Failed = inr (inl refl)
sort_of fault = inr (inr (refl, ((λ is. absurd cc), (λ is. absurd cc))))

-- what holds of an own fault, or of one that the outside causes
own_case : {P : Type 0} (fault : ExpandFault) → IsOwn fault → (expand.IsOutside fault) ⊎ P → P
own_case fault own (inl (inl want)) = absurd (own.0 want)
own_case fault own (inl (inr failed)) = absurd (own.1 failed)
own_case fault own (inr is) = is

-- what was gained of a line that was cut
part-begun : (a b : Option (List ℕ)) (line : List ℕ) → GainsPart a b line
    → (cut : List ℕ) × Begins cut line × Gains a b cut
part-begun a None line gained = ([], record { rest = line; is = refl }, tt)
part-begun None (Some b) line gained = absurd gained
part-begun (Some a) (Some b) line gained = gained

-- the questions behind an answer
given_questions : {B : Type 0} (found : Answer B) (value : B) (asked : List Asked)
    → with_asked found ≡ Ok (value, asked) → questions_of found ≡ asked
given_questions {B = B} (Ok found) value asked is =
    let same : (found.0, found.1.asked) ≡ (value, asked) = cc in
    ap (λ (both : B × List Asked). both.1) same
given_questions (Err fault) value asked is = absurd cc

-- an evaluation by what it asks for and what it gives
expanded-as : {B : Type 0} (s : Moment) (found : Answer B) (asked : List Asked) (acts : List Act)
    (told : Result (B × List Asked) ExpandFault)
    → questions_of found ≡ asked → newly_dated s asked ≡ acts → with_asked found ≡ told
    → expanded s found ≡ record { acts = acts; answer = found_by s told }
expanded-as {B = B} s found asked acts told questions dated value =
    ap (λ (q : List Asked). record {
      acts = newly_dated s q;
      answer = found_by s (with_asked found);
    }) questions
    ∙ ap (λ (l : List Act). record { acts = l; answer = found_by s (with_asked found) }) dated
    ∙ ap (λ (r : Result (B × List Asked) ExpandFault). record {
      acts = acts;
      answer = found_by s r;
    }) value

no_rise-ok : {A : Type 0} (found : A) (before after : ℕ)
    → HasCause expand_fault.Failed before after (Ok found)
    → HasCause outside.World before after (ended None)
no_rise-ok found before after cause = record {
  kept = cause.kept;
  answered = λ rose. let is = cause.answered rose in absurd cc;
  rose = λ is. absurd cc;
}

no_rise-err : {A : Type 0} (fault : ExpandFault) (before after : ℕ)
    → (fault ≡ expand_fault.Failed → ⊥)
    → HasCause {T = A} expand_fault.Failed before after (Err fault)
    → HasCause outside.World before after (ended None)
no_rise-err fault before after never cause = record {
  kept = cause.kept;
  answered = λ rose. let is = cause.answered rose in absurd (never cc);
  rose = λ is. absurd cc;
}

err_of : (A : Type 0) (fault : ExpandFault) → fault ≡ expand_fault.Failed
    → ◌≡◌ {A = Result A ExpandFault} (Err fault) (Err expand_fault.Failed)
err_of A fault failed = ap Err failed

rose_by : {A : Type 0} (fault : ExpandFault) (before after : ℕ) → fault ≡ expand_fault.Failed
    → HasCause {T = A} expand_fault.Failed before after (Err fault)
    → HasCause outside.World before after (ended (Some outside.World))
rose_by {A} fault before after failed cause = record {
  kept = cause.kept;
  answered = λ rose. refl;
  rose = λ is. cause.rose (err_of A fault failed);
}

-- a call of the world that went well
pub world-cause : {C : Type 0} (given : C) (before after : ℕ)
    → HasCause world_fault.Failed before after (Ok given)
    → HasCause outside.World before after (ended None)
world-cause given before after cause = record {
  kept = cause.kept;
  answered = λ rose. let is = cause.answered rose in absurd cc;
  rose = λ is. absurd cc;
}

-- how the outside failed in a call of the world
outside_of : WorldFault → Outside
outside_of world_fault.Failed = outside.World
outside_of world_fault.NoMemory = outside.NoMemory

of_world-failed : (fault : WorldFault) → Failed (outside_of fault) ≡ of_world fault
unfolding outside_of
of_world-failed world_fault.Failed = refl
of_world-failed world_fault.NoMemory = refl

no_sink : (fault : WorldFault) → Some (outside_of fault) ≡ Some outside.Sink → ⊥
unfolding outside_of
no_sink world_fault.Failed is = absurd cc
no_sink world_fault.NoMemory is = absurd cc

-- what a call gives of a whole definition
abbrev pub Given : {W S A B : Type 0} → Outer W S → Reader W S → Reader W S → (A → B)
    → Result A Refusal → (Answers → Doing B) → Type 0
Given o x y view answer whole =
    Does (reader_ties o) sorted x y
    (λ answers found. done (view found, moment_of y.state.now y.order.now)) answer whole

module _ {W S : Type 0} (o : Outer W S) where
  did_nothing : (x y : Reader W S) → y.err.now ≡ x.err.now → acts_at o y ≡ acts_at o x
      → did o x y []
  did_nothing x y same asked =
      subst (λ s. Did (o.held x.err.now) (o.held s) (acts_at o x) (acts_at o y) []) (sym same)
      (subst (λ l. Did (o.held x.err.now) (o.held x.err.now) (acts_at o x) l []) (sym asked)
      (Did-nothing (o.held x.err.now) (acts_at o x)))

  pub nothing_done : (x y : Reader W S) → y.err.now ≡ x.err.now
      → y.state.now.notes.items ≡ x.state.now.notes.items → did o x y []
  nothing_done x y same noted = did_nothing x y same (ap (λ l. acts_of (questions_in l)) noted)

  -- an act of asking was done, and nothing was written
  acts-noted : (x y : Reader W S) (note : Note)
      → y.state.now.notes.items ≡ x.state.now.notes.items ++ note ∷ []
      → acts_at o y ≡ acts_at o x ++ acts_of (question_of note ∷ [])
  acts-noted x y note noted =
      ap (λ l. acts_of (questions_in l)) noted
      ∙ ap acts_of (map-append question_of x.state.now.notes.items (note ∷ []))
      ∙ acts_of-append (questions_in x.state.now.notes.items) (question_of note ∷ [])

  -- questions of `exists` were asked, and nothing was written
  module _ (x y : Reader W S) (more : List Note) (same : y.err.now ≡ x.err.now)
      (noted : y.state.now.notes.items ≡ x.state.now.notes.items ++ more)
      (times : AreTimes (questions_in more))
    where
      dates-noted : acts_at o y ≡ acts_at o x ++ dates (asked_by more)
      dates-noted =
          ap (λ l. acts_of (questions_in l)) noted
          ∙ ap acts_of (map-append question_of x.state.now.notes.items more)
          ∙ acts_of-append (questions_in x.state.now.notes.items) (questions_in more)
          ∙ ap (λ l. acts_at o x ++ l) (acts_of-times (questions_in more) times)

      dates_done : did o x y (dates (asked_by more))
      dates_done = record {
        gains =
            subst (λ s. Gains (o.held x.err.now) (o.held s) (written (dates (asked_by more))))
            (sym same)
            (subst (Gains (o.held x.err.now) (o.held x.err.now)) (sym (written-dates (asked_by more)))
            (Gains-nothing (o.held x.err.now)));
        asks = dates-noted
            ∙ ap (λ l. acts_at o x ++ l) (sym (asked_in-dates (asked_by more)));
      }

      -- by an evaluation that ended before its own end
      dates_part : (acts : List Act) → did_part o x y acts
      dates_part acts = record {
        part = [];
        rest = acts;
        whole = refl;
        piece = [];
        begun = begun-nothing acts;
        gains = subst (λ s. Gains (o.held x.err.now) (o.held s) []) (sym same)
            (Gains-nothing (o.held x.err.now));
        looks = asked_by more;
        asks = dates-noted;
      }

  asked_done : (x y : Reader W S) (note : Note) (acts : List Act) → y.err.now ≡ x.err.now
      → y.state.now.notes.items ≡ x.state.now.notes.items ++ note ∷ []
      → acts_of (question_of note ∷ []) ≡ asked_in acts → written acts ≡ []
      → did o x y acts
  asked_done x y note acts same noted asks silent = record {
    gains =
        subst (λ s. Gains (o.held x.err.now) (o.held s) (written acts)) (sym same)
        (subst (Gains (o.held x.err.now) (o.held x.err.now)) (sym silent)
        (Gains-nothing (o.held x.err.now)));
    asks = acts-noted x y note noted ∙ ap (λ l. acts_at o x ++ l) asks;
  }

  -- a first part of anything was done where nothing was
  part_done : (x y : Reader W S) (acts : List Act) → did o x y [] → did_part o x y acts
  part_done x y acts nothing =
      DidPart-more (o.held x.err.now) (o.held y.err.now) (acts_at o x) (acts_at o y) [] acts
      (DidPart-whole (o.held x.err.now) (o.held y.err.now) (acts_at o x) (acts_at o y) [] nothing)

  -- an answer behind these acts
  pub gave-given : {A B : Type 0} (x y : Reader W S) (view : A → B) (whole : Answers → Doing B)
      (acts : List Act) → did o x y acts → (found : A) → Leads o None x y
      → ((answers : Answers) → has_answered o answers y
      → whole answers
      ≡ record { acts = acts; answer = Ok (view found, moment_of y.state.now y.order.now) })
      → Given o x y view (Ok found) whole
  gave-given x y view whole acts done found leads is = record {
    leads = leads;
    gives = λ answers by. record {
      acts = acts;
      did = done;
      is = is answers by
          ∙ ap (λ (l : List Act). record {
            acts = l;
            answer = Ok (view found, moment_of y.state.now y.order.now);
          }) (sym (append-nil acts));
    };
  }

  -- an answer to one question
  pub gave-asked : {A B : Type 0} (x y : Reader W S) (view : A → B) (whole : Answers → Doing B)
      (acts : List Act) (note : Note) → y.err.now ≡ x.err.now
      → y.state.now.notes.items ≡ x.state.now.notes.items ++ note ∷ []
      → acts_of (question_of note ∷ []) ≡ asked_in acts → written acts ≡ []
      → (found : A) → Leads o None x y
      → ((answers : Answers) → has_answered o answers y
      → whole answers
      ≡ record { acts = acts; answer = Ok (view found, moment_of y.state.now y.order.now) })
      → Given o x y view (Ok found) whole
  gave-asked x y view whole acts note same noted asks silent found leads is =
      gave-given x y view whole acts (asked_done x y note acts same noted asks silent) found leads is

  -- a failure of the outside behind a first part of the acts
  pub gave-failed : {A B : Type 0} (x y : Reader W S) (view : A → B) (whole : Answers → Doing B)
      (failure : Outside) → Leads o (Some failure) x y
      → ((answers : Answers) → did_part o x y (whole answers).acts)
      → Given o x y view (Err (Failed failure)) whole
  gave-failed x y view whole failure leads part = record {
    leads = leads;
    gives = λ answers by. part answers;
  }

  -- a fault of the definition behind these acts
  gave-refused : {A B : Type 0} (x y : Reader W S) (view : A → B) (whole : Answers → Doing B)
      (acts : List Act) → did o x y acts → (what : What) → Leads o None x y
      → ((answers : Answers) → has_answered o answers y
      → whole answers ≡ record { acts = acts; answer = Err what })
      → Given o x y view (Err (Wrong what)) whole
  gave-refused x y view whole acts done what leads is = record {
    leads = leads;
    gives = λ answers by. record {
      acts = acts;
      did = done;
      is = is answers by
          ∙ ap (λ (l : List Act). record { acts = l; answer = Err what }) (sym (append-nil acts));
    };
  }

  -- want of memory behind a first part of the acts
  gave-wanting : {A B : Type 0} (x y : Reader W S) (view : A → B) (whole : Answers → Doing B)
      → Leads o None x y → ((answers : Answers) → did_part o x y (whole answers).acts)
      → Given o x y view (Err NoMemory) whole
  gave-wanting x y view whole leads part = record {
    leads = leads;
    gives = λ answers by. part answers;
  }

  module _ {A B : Type 0} (x y : Reader W S) (view : A → B) (whole : Answers → Doing B)
      (nothing : did o x y [])
    where
      -- a fault of the definition
      pub gave-wrong : (what : What) → Leads o None x y
          → ((answers : Answers) → has_answered o answers y
          → whole answers ≡ refused what)
          → Given o x y view (Err (Wrong what)) whole
      gave-wrong what leads is = gave-refused x y view whole [] nothing what leads is

      -- want of memory
      pub gave-want : Leads o None x y → Given o x y view (Err NoMemory) whole
      gave-want leads =
          gave-wanting x y view whole leads (λ answers. part_done x y (whole answers).acts nothing)

  -- Evaluations

  -- where all commands were answered, no failure is needed
  pub whole_anyway : (failure : Option Outside) (questions : List Question)
      → cuts_in questions ≡ [] → IsWhole failure questions
  whole_anyway None questions none = none
  whole_anyway (Some failure) questions none = cut_last-none questions none

  -- the same references to the same outside, and the same order
  pub record Stays (x y : Reader W S) : Type 0 where
    pub world : y.world.ghost_name ≡ x.world.ghost_name
    pub err : y.err.ghost_name ≡ x.err.ghost_name
    pub state : y.state.ghost_name ≡ x.state.ghost_name
    pub order : y.order.now ≡ x.order.now
    pub same : y.err.now ≡ x.err.now

  ended_of : (failed failure : Outside) → ended (Some failure) ≡ Err failed
      → Some failure ≡ Some failed
  ended_of failed failure is = cc

  no_rise : (failed : Outside) (failure : Option Outside) (count : ℕ)
      → (failure ≡ Some failed → ⊥) → HasCause failed count count (ended failure)
  no_rise failed None count none = no_cause failed count
  no_rise failed (Some failure) count none = record {
    kept = omega arith;
    answered = λ rose. absurd (let never : ⊥ = omega arith in never);
    rose = λ is. absurd (none (ended_of failed failure is));
  }

  -- no write failed where none was made
  pub no_loss : (failure : Option Outside) (x y : Reader W S) → y.err.now ≡ x.err.now
      → (failure ≡ Some outside.Sink → ⊥)
      → HasCause outside.Sink (o.lost x.err.now) (o.lost y.err.now) (ended failure)
  no_loss failure x y same none =
      subst (λ s. HasCause outside.Sink (o.lost x.err.now) (o.lost s) (ended failure)) (sym same)
      (no_rise outside.Sink failure (o.lost x.err.now) none)

  module _ {A B : Type 0} (x y : Reader W S) (stays : Stays x y) (view : A → B)
      (defined : expand.Answers → Answer B) (whole : Answers → Doing B)
      (is : (answers : Answers) → whole answers
      ≡ expanded (moment_of x.state.now x.order.now) (defined answers.exists))
    where
      abbrev Evaluates : Result A ExpandFault → Type 0
      Evaluates answer =
          Evaluated o.meaning (idle o x) (idle o y) (o.history x.world.now)
          (o.history y.world.now) x.state.now y.state.now view answer defined

      leads-evaluated : (answer : Result A ExpandFault) (failure : Option Outside)
          → Evaluates answer
          → HasCause outside.World (o.faults x.world.now) (o.faults y.world.now) (ended failure)
          → (failure ≡ Some outside.Sink → ⊥)
          → Leads o failure x y
      leads-evaluated answer failure evaluated cause none = record {
        world = stays.world;
        err = stays.err;
        state = stays.state;
        order = stays.order;
        more = evaluated.led.more;
        noted = evaluated.led.added;
        told = evaluated.led.told;
        whole = whole_anyway failure (questions_in evaluated.led.more)
            (cuts_in-none (questions_in evaluated.led.more) evaluated.led.times);
        stays_idle = evaluated.stays_idle;
        world_cause = cause;
        sink_cause = no_loss failure x y stays.same none;
      }

      -- the times that were asked for
      looks : (answer : Result A ExpandFault) → Evaluates answer → List Act
      looks answer evaluated = dates (asked_by evaluated.led.more)

      looks-done : (answer : Result A ExpandFault) (evaluated : Evaluates answer)
          → did o x y (looks answer evaluated)
      unfolding looks
      looks-done answer evaluated =
          dates_done x y evaluated.led.more stays.same evaluated.led.added evaluated.led.times

      looks-part : (answer : Result A ExpandFault) (evaluated : Evaluates answer) (acts : List Act)
          → did_part o x y acts
      looks-part answer evaluated acts =
          dates_part x y evaluated.led.more stays.same evaluated.led.added evaluated.led.times acts

      -- they are those of the definition
      looks-are : (answer : Result A ExpandFault) (evaluated : Evaluates answer)
          → newly_dated (moment_of x.state.now x.order.now) (asked_by y.state.now.notes.items)
          ≡ looks answer evaluated
      unfolding looks
      looks-are answer evaluated =
          newly_dated-more x.state.now y.state.now x.order.now evaluated.led.more
          evaluated.led.added

      pub gave-evaluated : (found : A) → Evaluates (Ok found)
          → HasCause expand_fault.Failed (o.faults x.world.now) (o.faults y.world.now)
          (Ok found)
          → Given o x y view (Ok found) whole
      gave-evaluated found evaluated cause =
          gave-given x y view whole (looks (Ok found) evaluated) (looks-done (Ok found) evaluated)
          found
          (leads-evaluated (Ok found) None evaluated
          (no_rise-ok found (o.faults x.world.now) (o.faults y.world.now) cause) (λ none. absurd cc))
          (λ answers by. is answers
          ∙ expanded-as (moment_of x.state.now x.order.now) (defined answers.exists)
          (asked_by y.state.now.notes.items) (looks (Ok found) evaluated)
          (Ok (view found, asked_by y.state.now.notes.items))
          (given_questions (defined answers.exists) (view found)
          (asked_by y.state.now.notes.items) (evaluated.value answers.exists by.exists))
          (looks-are (Ok found) evaluated) (evaluated.value answers.exists by.exists)
          ∙ ap (λ (m : Moment). record {
            acts = looks (Ok found) evaluated;
            answer = Ok (view found, m);
          })
          (moment-asked x.state.now y.state.now x.order.now y.order.now evaluated.led.more
          evaluated.made evaluated.in_group stays.order evaluated.led.added
          evaluated.led.times))

      own_fault : (fault : ExpandFault) → IsOwn fault → Evaluates (Err fault)
          → HasCause {T = A} expand_fault.Failed (o.faults x.world.now)
          (o.faults y.world.now) (Err fault)
          → Given o x y view (Err (Wrong (Expand fault))) whole
      own_fault fault own evaluated cause =
          gave-refused x y view whole (looks (Err fault) evaluated)
          (looks-done (Err fault) evaluated) (Expand fault)
          (leads-evaluated (Err fault) None evaluated
          (no_rise-err fault (o.faults x.world.now) (o.faults y.world.now) own.1 cause)
          (λ none. absurd cc))
          (λ answers by. is answers
          ∙ expanded-as (moment_of x.state.now x.order.now) (defined answers.exists)
          (asked_by y.state.now.notes.items) (looks (Err fault) evaluated) (Err fault)
          (own_case fault own (evaluated.questions answers.exists by.exists))
          (looks-are (Err fault) evaluated)
          (own_case fault own (evaluated.value answers.exists by.exists)))

      by_sort : (fault : ExpandFault) → Sort fault → Evaluates (Err fault)
          → HasCause {T = A} expand_fault.Failed (o.faults x.world.now)
          (o.faults y.world.now) (Err fault)
          → Given o x y view (Err (of_expand fault)) whole
      by_sort fault (inl want) evaluated cause =
          subst (λ (r : Refusal). Given o x y view (Err r) whole) (sym (ap of_expand want))
          (gave-wanting x y view whole
          (leads-evaluated (Err fault) None evaluated
          (no_rise-err fault (o.faults x.world.now) (o.faults y.world.now)
          (λ failed. let never = sym want ∙ failed in absurd cc) cause)
          (λ none. absurd cc))
          (λ answers. looks-part (Err fault) evaluated (whole answers).acts))
      by_sort fault (inr (inl failed)) evaluated cause =
          subst (λ (r : Refusal). Given o x y view (Err r) whole) (sym (ap of_expand failed))
          (gave-failed x y view whole outside.World
          (leads-evaluated (Err fault) (Some outside.World) evaluated
          (rose_by fault (o.faults x.world.now) (o.faults y.world.now) failed cause)
          (λ none. absurd cc))
          (λ answers. looks-part (Err fault) evaluated (whole answers).acts))
      by_sort fault (inr (inr own)) evaluated cause =
          subst (λ (r : Refusal). Given o x y view (Err r) whole) (sym own.0)
          (own_fault fault own.1 evaluated cause)

      pub gave-fault : (fault : ExpandFault) → Evaluates (Err fault)
          → HasCause {T = A} expand_fault.Failed (o.faults x.world.now)
          (o.faults y.world.now) (Err fault)
          → Given o x y view (Err (of_expand fault)) whole
      gave-fault fault evaluated cause = by_sort fault (sort_of fault) evaluated cause

  -- Calls of the world

  module _ (x y : Reader W S) (stays : Stays x y) where
    -- nothing was asked
    pub leads-same : y.world.now ≡ x.world.now
        → y.state.now.notes.items ≡ x.state.now.notes.items → Leads o None x y
    leads-same world noted = record {
      world = stays.world;
      err = stays.err;
      state = stays.state;
      order = stays.order;
      more = [];
      noted = noted ∙ sym (append-nil x.state.now.notes.items);
      told = λ is.
          subst (λ w. Told (o.history x.world.now) (o.history w) (AreAsked o.meaning []))
          (sym world) (told-none o.meaning (o.history x.world.now));
      whole = refl;
      stays_idle = λ is. subst (λ w. o.runs w []) (sym world) is;
      world_cause =
          subst (λ w. HasCause outside.World (o.faults x.world.now) (o.faults w) (ended None))
          (sym world) (no_cause outside.World (o.faults x.world.now));
      sink_cause = no_loss None x y stays.same (λ none. absurd cc);
    }

    -- one question was asked, which may have been cut off where the outside failed
    leads-asked : (failure : Option Outside) (note : Note)
        → y.state.now.notes.items ≡ x.state.now.notes.items ++ note ∷ []
        → (idle o x → Told (o.history x.world.now) (o.history y.world.now)
        (IsAsked o.meaning (question_of note)))
        → IsWhole failure (questions_in (note ∷ []))
        → (idle o x → idle o y)
        → HasCause outside.World (o.faults x.world.now) (o.faults y.world.now) (ended failure)
        → (failure ≡ Some outside.Sink → ⊥)
        → Leads o failure x y
    leads-asked failure note noted asked whole stays_idle cause none = record {
      world = stays.world;
      err = stays.err;
      state = stays.state;
      order = stays.order;
      more = note ∷ [];
      noted = noted;
      told = λ is.
          told_one o.meaning (question_of note) (o.history x.world.now)
          (o.history y.world.now) (asked is);
      whole = whole;
      stays_idle = stays_idle;
      world_cause = cause;
      sink_cause = no_loss failure x y stays.same none;
    }

    pub leads-noted : (note : Note)
        → y.state.now.notes.items ≡ x.state.now.notes.items ++ note ∷ []
        → (idle o x → Told (o.history x.world.now) (o.history y.world.now)
        (IsAsked o.meaning (question_of note)))
        → IsWhole None (questions_in (note ∷ []))
        → (idle o x → idle o y)
        → HasCause outside.World (o.faults x.world.now) (o.faults y.world.now) (ended None)
        → Leads o None x y
    leads-noted note noted asked whole stays_idle cause =
        leads-asked None note noted asked whole stays_idle cause (λ none. absurd cc)

    -- a file that could not be read
    leads-unread : (failure : Outside)
        → y.state.now.notes.items ≡ x.state.now.notes.items
        → (idle o x → Told (o.history x.world.now) (o.history y.world.now) Same)
        → (idle o x → idle o y)
        → HasCause outside.World (o.faults x.world.now) (o.faults y.world.now)
        (ended (Some failure))
        → (Some failure ≡ Some outside.Sink → ⊥)
        → Leads o (Some failure) x y
    leads-unread failure noted same stays_idle cause none = record {
      world = stays.world;
      err = stays.err;
      state = stays.state;
      order = stays.order;
      more = [];
      noted = noted ∙ sym (append-nil x.state.now.notes.items);
      told = λ is.
          told_nothing o.meaning (o.history x.world.now) (o.history y.world.now) (same is);
      whole = tt;
      stays_idle = stays_idle;
      world_cause = cause;
      sink_cause = no_loss (Some failure) x y stays.same none;
    }

    cause_in : {C : Type 0} (fault : WorldFault) → HasCause {T = C} world_fault.Failed
        (o.faults x.world.now) (o.faults y.world.now) (Err fault)
        → HasCause outside.World (o.faults x.world.now) (o.faults y.world.now)
        (ended (Some (outside_of fault)))
    unfolding outside_of
    cause_in world_fault.Failed cause =
        record { kept = cause.kept; answered = λ rose. refl; rose = λ is. cause.rose refl }
    cause_in world_fault.NoMemory cause = record {
      kept = cause.kept;
      answered = λ rose. let is = cause.answered rose in absurd cc;
      rose = λ is. absurd cc;
    }

    -- a file was not read
    pub gave-unread : {A B C : Type 0} (view : A → B) (whole : Answers → Doing B)
        (fault : WorldFault)
        → y.state.now.notes.items ≡ x.state.now.notes.items
        → (idle o x → Told (o.history x.world.now) (o.history y.world.now) Same)
        → (idle o x → idle o y)
        → HasCause {T = C} world_fault.Failed (o.faults x.world.now) (o.faults y.world.now)
        (Err fault)
        → Given o x y view (Err (of_world fault)) whole
    gave-unread view whole fault noted same stays_idle cause =
        subst (λ (r : Refusal). Given o x y view (Err r) whole) (of_world-failed fault)
        (gave-failed x y view whole (outside_of fault)
        (leads-unread (outside_of fault) noted same stays_idle (cause_in fault cause)
        (no_sink fault))
        (λ answers. part_done x y (whole answers).acts (nothing_done x y stays.same noted)))

    -- a command was not answered
    pub gave-cut_off : {A B C : Type 0} (view : A → B) (whole : Answers → Doing B)
        (fault : WorldFault) (note : Note) (act : Act) (more : Answers → List Act)
        → y.state.now.notes.items ≡ x.state.now.notes.items ++ note ∷ []
        → acts_of (question_of note ∷ []) ≡ asked_in (act ∷ []) → written (act ∷ []) ≡ []
        → ((answers : Answers) → (whole answers).acts ≡ act ∷ more answers)
        → (idle o x → Told (o.history x.world.now) (o.history y.world.now)
        (IsAsked o.meaning (question_of note)))
        → (idle o x → idle o y)
        → HasCause {T = C} world_fault.Failed (o.faults x.world.now) (o.faults y.world.now)
        (Err fault)
        → Given o x y view (Err (of_world fault)) whole
    gave-cut_off view whole fault note act more noted asks silent is asked stays_idle cause =
        subst (λ (r : Refusal). Given o x y view (Err r) whole) (of_world-failed fault)
        (gave-failed x y view whole (outside_of fault)
        (leads-asked (Some (outside_of fault)) note noted asked tt stays_idle
        (cause_in fault cause) (no_sink fault))
        (λ answers. subst (did_part o x y) (sym (is answers))
        (DidPart-more (o.held x.err.now) (o.held y.err.now) (acts_at o x) (acts_at o y)
        (act ∷ []) (more answers)
        (DidPart-whole (o.held x.err.now) (o.held y.err.now) (acts_at o x) (acts_at o y)
        (act ∷ []) (asked_done x y note (act ∷ []) stays.same noted asks silent)))))

  -- Messages

  module _ (x y : Reader W S) (world : y.world.ghost_name ≡ x.world.ghost_name)
      (err : y.err.ghost_name ≡ x.err.ghost_name) (state : y.state.ghost_name ≡ x.state.ghost_name)
      (order : y.order.now ≡ x.order.now) (same : y.world.now ≡ x.world.now)
      (unchanged : y.state.now ≡ x.state.now) (whole : Answers → Doing (Unit {0}))
      (line : List ℕ)
      (is : (answers : Answers) → whole answers ≡ said line (moment_of x.state.now x.order.now))
    where
      leads-said : (failure : Option Outside) → (failure ≡ Some outside.World → ⊥)
          → HasCause outside.Sink (o.lost x.err.now) (o.lost y.err.now) (ended failure)
          → Leads o failure x y
      leads-said failure none cause = record {
        world = world;
        err = err;
        state = state;
        order = order;
        more = [];
        noted = ap (λ (s : State). s.notes.items) unchanged
            ∙ sym (append-nil x.state.now.notes.items);
        told = λ is.
            subst (λ w. Told (o.history x.world.now) (o.history w) (AreAsked o.meaning []))
            (sym same) (told-none o.meaning (o.history x.world.now));
        whole = whole_anyway failure [] refl;
        stays_idle = λ is. subst (λ w. o.runs w []) (sym same) is;
        world_cause =
            subst (λ w. HasCause outside.World (o.faults x.world.now) (o.faults w) (ended failure))
            (sym same) (no_rise outside.World failure (o.faults x.world.now) none);
        sink_cause = cause;
      }

      asked_as_before : acts_at o y ≡ acts_at o x ++ []
      asked_as_before =
          ap (λ (s : State). acts_of (questions_in s.notes.items)) unchanged
          ∙ sym (append-nil (acts_at o x))

      -- a message was written
      pub gave-said : (done : Unit {0}) → Gains (o.held x.err.now) (o.held y.err.now) line
          → HasCause sink_fault.Failed (o.lost x.err.now) (o.lost y.err.now) (Ok done)
          → Given o x y (λ (u : Unit {0}). u) (Ok done) whole
      gave-said done gains cause = record {
        leads = leads-said None (λ none. absurd cc)
            (record {
              kept = cause.kept;
              answered = λ rose. let is = cause.answered rose in absurd cc;
              rose = λ is. absurd cc;
            });
        gives = λ answers by. record {
          acts = wrote line ∷ [];
          did = record {
            gains =
                subst (Gains (o.held x.err.now) (o.held y.err.now)) (sym (append-nil line)) gains;
            asks = asked_as_before;
          };
          is = is answers
              ∙ rw (← unchanged, ← order) refl;
        };
      }

      -- or a part of it
      pub gave-cut : (fault : SinkFault) → GainsPart (o.held x.err.now) (o.held y.err.now) line
          → HasCause {T = Unit {0}} sink_fault.Failed (o.lost x.err.now) (o.lost y.err.now)
          (Err fault)
          → Given o x y (λ (u : Unit {0}). u) (Err (Failed outside.Sink)) whole
      gave-cut sink_fault.Failed part cause = record {
        leads = leads-said (Some outside.Sink) (λ none. absurd cc)
            (record {
              kept = cause.kept;
              answered = λ rose. refl;
              rose = λ is. cause.rose refl;
            });
        gives = λ answers by.
            subst (λ (acts : List Act). did_part o x y acts)
            (sym (ap (λ (w : Doing (Unit {0})). w.acts) (is answers)))
            (let begun = part-begun (o.held x.err.now) (o.held y.err.now) line part in record {
              part = [];
              rest = wrote line ∷ [];
              whole = refl;
              piece = begun.0;
              begun = begun.1;
              gains = begun.2;
              looks = [];
              asks = asked_as_before;
            });
      }
