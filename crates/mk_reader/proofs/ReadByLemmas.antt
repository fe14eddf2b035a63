-- What a whole reading gives, by what its calls did.
use Rattle.std.proofs.Common.{◌≡◌, ℕ, List, [], ◌++◌, Option, Some, None, Result, Ok, Err}
use Rattle.std.proofs.Common.{refl, sym, ap, subst, ◌∙◌}
use Rattle.std.specs.Prelude.{IfErr, IfOk}
use Rattle.std.proofs.lemmas.List.{append-nil}
use Rattle.mk_blocks.specs.Acts.{Act}
use Rattle.mk_blocks.specs.Outcomes.{Outcome, behind, done, silent}
use Rattle.mk_blocks.specs.Ties.{Does, Goes}
use Rattle.mk_blocks.specs.Ties as verdict
use Rattle.mk_world.specs.Causes.{HasCause}
use Rattle.mk_world.specs.Talks.{Meaning}
use Rattle.mk_world.specs.declared.history.History.{History}
use Rattle.mk_makefile.specs.Acts.{Did, Did-nothing, DidPart, DidPart-more, DidPart-whole, acts_of}
use Rattle.mk_makefile.specs.Leads.{told-none}
use Rattle.mk_makefile.specs.Notes.{questions_in}
use Rattle.mk_makefile.specs.Questions.{Answered, Answers}
use Rattle.mk_makefile.specs.ReadFaults.{Reads, of_stop, sorted}
use Rattle.mk_makefile.specs.declared.fault.Fault.TheVariants as fault
use Rattle.mk_makefile.specs.declared.fault.Outside.{Outside}
use Rattle.mk_makefile.specs.declared.fault.Outside.TheVariants as outside
use Rattle.mk_makefile.specs.declared.fault.ReadFault.{ReadFault}
use Rattle.mk_makefile.specs.declared.fault.ReadFault.TheVariants as read
use Rattle.mk_makefile.specs.declared.fault.Stop.{Stop}
use Rattle.mk_makefile.specs.declared.fault.Stop.TheVariants as stop
use Rattle.mk_reader.specs.Results.{ReadBy}
use Rattle.mk_reader.specs.Ties.{Leads, Outer, acts_at, cut_last-none, did, did_part, ended, has_answered, idle}
use Rattle.mk_reader.specs.Ties.{reader_ties}
use Rattle.mk_reader.specs.declared.reader.Reader.{Reader}

-- the acts of an outcome behind others that has none itself
goes-acts : {A E : Type 0} (whole : Outcome A E) (acts : List Act) (answer : Result A E)
    → whole ≡ behind acts (silent answer) → whole.acts ≡ acts
goes-acts whole acts answer is = ap (λ o. o.acts) is ∙ append-nil acts

-- a cause by the failure of the outside, and by the answer
pub cause_as : {A : Type 0} (failed : Outside) (target : ReadFault) (failure : Option Outside)
    (answer : Result A ReadFault) (before after : ℕ)
    → (failure ≡ Some failed → answer ≡ Err target)
    → (answer ≡ Err target → failure ≡ Some failed)
    → HasCause failed before after (ended failure) → HasCause target before after answer
cause_as failed target failure answer before after to from cause = record {
  kept = cause.kept;
  answered = λ rose. to (failed-is failure (cause.answered rose));
  rose = λ is. cause.rose (rw (from is) refl);
}
  where
    failed-is : (failure : Option Outside) → ended failure ≡ Err failed → failure ≡ Some failed
    failed-is None is = absurd cc
    failed-is (Some other) is = let same : other ≡ failed = cc in rw same refl

-- nothing was read, for want of memory
pub read_nothing : {A : Type 0} (meaning : Meaning) (told : Option History) (held : Option (List ℕ))
    (defined : Answers → Reads A)
    → ReadBy {A = A} meaning told told held held (Err read.NoMemory) defined
read_nothing meaning told held defined = record {
  questions = [];
  asked = told-none meaning told;
  whole = tt;
  gave = λ answers by.
      DidPart-more held held [] [] [] (defined answers).acts
      (DidPart-whole held held [] [] [] (Did-nothing held []));
}

-- one value, or want of memory
pub made_or_want : {A : Type 0} (P : Result A ReadFault → Type 0) (made : A)
    (answer : Result A ReadFault)
    → IfOk answer (λ given. given ≡ made) → IfErr answer (λ why. why ≡ read.NoMemory)
    → P (Ok made) → P (Err read.NoMemory) → P answer
made_or_want P made (Ok given) is none good bad = subst (λ g. P (Ok g)) (sym is) good
made_or_want P made (Err why) none is good bad = subst (λ w. P (Err w)) (sym is) bad

module _ {W S : Type 0} (o : Outer W S) {x y : Reader W S} where
  answered : (failure : Option Outside) (leads : Leads o failure x y)
      → x.state.now.notes.items ≡ [] → (answers : Answers)
      → Answered answers (questions_in leads.more) → has_answered o answers y
  answered failure leads none answers by =
      subst (λ l. Answered answers (questions_in l))
      (sym (leads.noted ∙ ap (λ l. l ++ leads.more) none)) by

  -- the causes of a refusal
  pub world_by : {A : Type 0} (why : Stop) → Leads o (verdict.failure_in (sorted why)) x y
      → HasCause {T = A} read.World (o.faults x.world.now) (o.faults y.world.now)
      (Err (of_stop why))
  world_by (stop.Fault (fault.NoFile name)) leads =
      cause_as outside.World read.World None _ _ _ (λ is. absurd cc) (λ is. absurd cc) leads.world_cause
  world_by (stop.Fault (fault.Bad name number what)) leads =
      cause_as outside.World read.World None _ _ _ (λ is. absurd cc) (λ is. absurd cc) leads.world_cause
  world_by (stop.Fault (fault.Limit kind most)) leads =
      cause_as outside.World read.World None _ _ _ (λ is. absurd cc) (λ is. absurd cc) leads.world_cause
  world_by (stop.Failed outside.World) leads =
      cause_as outside.World read.World (Some outside.World) _ _ _ (λ is. refl) (λ is. refl)
      leads.world_cause
  world_by (stop.Failed outside.Sink) leads =
      cause_as outside.World read.World (Some outside.Sink) _ _ _ (λ is. absurd cc) (λ is. absurd cc)
      leads.world_cause
  world_by (stop.Failed outside.NoMemory) leads =
      cause_as outside.World read.World (Some outside.NoMemory) _ _ _ (λ is. absurd cc)
      (λ is. absurd cc) leads.world_cause
  world_by stop.NoMemory leads =
      cause_as outside.World read.World None _ _ _ (λ is. absurd cc) (λ is. absurd cc) leads.world_cause

  pub sink_by : {A : Type 0} (why : Stop) → Leads o (verdict.failure_in (sorted why)) x y
      → HasCause {T = A} read.Sink (o.lost x.err.now) (o.lost y.err.now) (Err (of_stop why))
  sink_by (stop.Fault (fault.NoFile name)) leads =
      cause_as outside.Sink read.Sink None _ _ _ (λ is. absurd cc) (λ is. absurd cc) leads.sink_cause
  sink_by (stop.Fault (fault.Bad name number what)) leads =
      cause_as outside.Sink read.Sink None _ _ _ (λ is. absurd cc) (λ is. absurd cc) leads.sink_cause
  sink_by (stop.Fault (fault.Limit kind most)) leads =
      cause_as outside.Sink read.Sink None _ _ _ (λ is. absurd cc) (λ is. absurd cc) leads.sink_cause
  sink_by (stop.Failed outside.World) leads =
      cause_as outside.Sink read.Sink (Some outside.World) _ _ _ (λ is. absurd cc) (λ is. absurd cc)
      leads.sink_cause
  sink_by (stop.Failed outside.Sink) leads =
      cause_as outside.Sink read.Sink (Some outside.Sink) _ _ _ (λ is. refl) (λ is. refl)
      leads.sink_cause
  sink_by (stop.Failed outside.NoMemory) leads =
      cause_as outside.Sink read.Sink (Some outside.NoMemory) _ _ _ (λ is. absurd cc)
      (λ is. absurd cc) leads.sink_cause
  sink_by stop.NoMemory leads =
      cause_as outside.Sink read.Sink None _ _ _ (λ is. absurd cc) (λ is. absurd cc) leads.sink_cause

  -- nothing failed
  pub world_ok : {A : Type 0} (given : A) → Leads o None x y
      → HasCause {T = A} read.World (o.faults x.world.now) (o.faults y.world.now) (Ok given)
  world_ok given leads =
      cause_as outside.World read.World None (Ok given) _ _ (λ is. absurd cc) (λ is. absurd cc)
      leads.world_cause

  pub sink_ok : {A : Type 0} (given : A) → Leads o None x y
      → HasCause {T = A} read.Sink (o.lost x.err.now) (o.lost y.err.now) (Ok given)
  sink_ok given leads =
      cause_as outside.Sink read.Sink None (Ok given) _ _ (λ is. absurd cc) (λ is. absurd cc)
      leads.sink_cause

  -- what was done between a reader with no note and one behind it
  module _ {failure : Option Outside} (leads : Leads o failure x y)
      (none : x.state.now.notes.items ≡ [])
    where
      abbrev Done : List Act → Type 0
      Done acts =
          Did (o.held x.err.now) (o.held y.err.now) [] (acts_of (questions_in leads.more)) acts

      abbrev DonePart : List Act → Type 0
      DonePart acts =
          DidPart (o.held x.err.now) (o.held y.err.now) [] (acts_of (questions_in leads.more)) acts

      all_noted : acts_at o y ≡ acts_of (questions_in leads.more)
      all_noted =
          ap (λ l. acts_of (questions_in l)) (leads.noted ∙ ap (λ l. l ++ leads.more) none)

      none_noted : acts_at o x ≡ []
      none_noted = ap (λ l. acts_of (questions_in l)) none

      did_all : (acts : List Act) → did o x y acts → Done acts
      did_all acts done =
          subst (λ l. Did (o.held x.err.now) (o.held y.err.now) l
          (acts_of (questions_in leads.more)) acts) none_noted
          (subst (λ l. Did (o.held x.err.now) (o.held y.err.now) (acts_at o x) l acts) all_noted
          done)

      did_first : (acts : List Act) → did_part o x y acts → DonePart acts
      did_first acts done =
          subst (λ l. DidPart (o.held x.err.now) (o.held y.err.now) l
          (acts_of (questions_in leads.more)) acts) none_noted
          (subst (λ l. DidPart (o.held x.err.now) (o.held y.err.now) (acts_at o x) l acts)
          all_noted done)

      all_done : {A : Type 0} (defined : Reads A) (answer : Result A ReadFault)
          → Goes (reader_ties o) x y defined (silent answer)
          → (defined.answer ≡ answer) × Done defined.acts
      all_done defined answer goes = (
        ap (λ o. o.answer) goes.is,
        subst Done (sym (goes-acts defined goes.acts answer goes.is)) (did_all goes.acts goes.did),
      )

  -- a failure of the outside
  read_part : (failure : Option Outside) (acts : Answers → List Act)
      → x.state.now.notes.items ≡ [] → (leads : Leads o failure x y)
      → ((answers : Answers) → has_answered o answers y → did_part o x y (acts answers))
      → (answers : Answers) → Answered answers (questions_in leads.more)
      → DidPart (o.held x.err.now) (o.held y.err.now) [] (acts_of (questions_in leads.more))
      (acts answers)
  read_part failure acts none leads part answers by =
      did_first leads none (acts answers)
      (part answers (answered failure leads none answers by))

  module _ {A : Type 0} {defined : Answers → Reads A} where
    -- all was read
    pub read_ok : (given : A) → x.state.now.notes.items ≡ [] → idle o x
        → Does (reader_ties o) sorted x y (λ answers (found : A). done found) (Ok given) defined
        → ReadBy o.meaning (o.history x.world.now) (o.history y.world.now)
        (o.held x.err.now) (o.held y.err.now) (Ok given) defined
    read_ok given none is does = record {
      questions = questions_in does.leads.more;
      asked = does.leads.told is;
      whole = does.leads.whole;
      gave = λ answers by.
          all_done does.leads none (defined answers) (Ok given)
          (does.gives answers (answered None does.leads none answers by));
    }

    -- a fault of the makefiles or of the command line
    read_fault : (own : ReadFault) → x.state.now.notes.items ≡ []
        → (leads : Leads o None x y)
        → ((answers : Answers) → has_answered o answers y
        → Goes (reader_ties o) x y (defined answers) (silent (Err own)))
        → (answers : Answers) → Answered answers (questions_in leads.more)
        → ((defined answers).answer ≡ Err own)
        × Did (o.held x.err.now) (o.held y.err.now) [] (acts_of (questions_in leads.more))
        (defined answers).acts
    read_fault own none leads goes answers by =
        all_done leads none (defined answers) (Err own)
        (goes answers (answered None leads none answers by))

    pub read_err : {C : Type 0} {rest : Answers → C → Reads A} (why : Stop)
        → x.state.now.notes.items ≡ [] → idle o x
        → Does (reader_ties o) sorted x y rest (Err why) defined
        → ReadBy o.meaning (o.history x.world.now) (o.history y.world.now)
        (o.held x.err.now) (o.held y.err.now) (Err (of_stop why)) defined
    read_err (stop.Fault (fault.NoFile name)) none is does = record {
      questions = questions_in does.leads.more;
      asked = does.leads.told is;
      whole = does.leads.whole;
      gave = read_fault (read.NoFile name) none does.leads does.gives;
    }
    read_err (stop.Fault (fault.Bad name number what)) none is does = record {
      questions = questions_in does.leads.more;
      asked = does.leads.told is;
      whole = does.leads.whole;
      gave = read_fault (read.Bad name number what) none does.leads does.gives;
    }
    read_err (stop.Fault (fault.Limit kind most)) none is does = record {
      questions = questions_in does.leads.more;
      asked = does.leads.told is;
      whole = does.leads.whole;
      gave = read_fault (read.Limit kind most) none does.leads does.gives;
    }
    read_err (stop.Failed outside.World) none is does = record {
      questions = questions_in does.leads.more;
      asked = does.leads.told is;
      whole = does.leads.whole;
      gave = read_part (Some outside.World) (λ answers. (defined answers).acts) none does.leads does.gives;
    }
    read_err (stop.Failed outside.Sink) none is does = record {
      questions = questions_in does.leads.more;
      asked = does.leads.told is;
      whole = does.leads.whole;
      gave = read_part (Some outside.Sink) (λ answers. (defined answers).acts) none does.leads does.gives;
    }
    read_err (stop.Failed outside.NoMemory) none is does = record {
      questions = questions_in does.leads.more;
      asked = does.leads.told is;
      whole = does.leads.whole;
      gave = read_part (Some outside.NoMemory) (λ answers. (defined answers).acts) none does.leads does.gives;
    }
    read_err stop.NoMemory none is does = record {
      questions = questions_in does.leads.more;
      asked = does.leads.told is;
      whole = cut_last-none (questions_in does.leads.more) does.leads.whole;
      gave = read_part None (λ answers. (defined answers).acts) none does.leads does.gives;
    }
