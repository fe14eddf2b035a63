-- Calls of a reader, one after the other.
use Rattle.std.proofs.Common.{◌≡◌, ℕ, List, [], ◌∷◌, Result, Ok, Err}
use Rattle.std.proofs.Common.{◌+◌, ◌<◌, drop, get_or, length, refl, sym, ap, subst, ◌∙◌}
use Rattle.std.proofs.lemmas.List.{drop_more}
use Rattle.mk_blocks.specs.Outcomes.{done, refused, ◌>>=◌}
use Rattle.mk_blocks.specs.Ties.{Does, Gives}
use Rattle.mk_makefile.specs.Moments.{Doing, Moment, moment_of}
use Rattle.mk_makefile.specs.Questions.{Answers}
use Rattle.mk_makefile.specs.Refusals.{sorted}
use Rattle.mk_makefile.specs.declared.fault.Refusal.{Refusal}
use Rattle.mk_makefile.specs.declared.fault.Refusal.TheVariants.{Wrong, NoMemory}
use Rattle.mk_makefile.specs.declared.fault.What.{What}
use Rattle.mk_reader.specs.Ties.{Outer, leads_nowhere, reader_ties}
use Rattle.mk_reader.specs.declared.reader.Reader.{Reader}
use Rattle.mk_reader.proofs.TieLemmas.{Goes-as, Goes-bind, first-refused, first-then, left-then}
use Rattle.mk_reader.proofs.GaveLemmas.{Given, Stays, gave-given, gave-want, gave-wrong, leads-same, nothing_done}

module _ {W S : Type 0} (o : Outer W S) where
  -- what a reader is after a call
  abbrev pub stood : Reader W S → Moment
  stood x = moment_of x.state.now x.order.now

  module _ {A B C D : Type 0} {x y : Reader W S} {view : A → B} {first : Answers → Doing B}
      (next : Answers → B × Moment → Doing D)
    where
      -- a call that went well, and another one
      pub then-given : {z : Reader W S} {other : C → D} {found : A} {answer : Result C Refusal}
          → Given o x y view (Ok found) first
          → Given o y z other answer (λ answers. next answers (view found, stood y))
          → Given o x z other answer (λ answers. first answers >>= next answers)
      then-given does then_does =
          first-then (reader_ties o) sorted next does then_does

      -- a call that was refused
      pub then-fault : {other : C → D} {fault : Refusal}
          → Given o x y view (Err fault) first
          → Given o x y other (Err fault) (λ answers. first answers >>= next answers)
      then-fault does = first-refused (reader_ties o) sorted next does

  module _ {A B : Type 0} (x : Reader W S) (view : A → B) (whole : Answers → Doing B) where
    -- nothing is asked
    pub here-given : (found : A)
        → ((answers : Answers) → whole answers ≡ done (view found, stood x))
        → Given o x x view (Ok found) whole
    here-given found is =
        gave-given o x x view whole [] (nothing_done o x x refl refl) found (leads_nowhere o x) (λ answers by. is answers)

    pub here-wrong : (what : What) → ((answers : Answers) → whole answers ≡ refused what)
        → Given o x x view (Err (Wrong what)) whole
    here-wrong what is =
        gave-wrong o x x view whole (nothing_done o x x refl refl) what (leads_nowhere o x) (λ answers by. is answers)

    pub here-want : Given o x x view (Err NoMemory) whole
    here-want = gave-want o x x view whole (nothing_done o x x refl refl) (leads_nowhere o x)

  module _ {A B : Type 0} (x y : Reader W S) (stays : Stays o x y) (view : A → B)
      (whole : Answers → Doing B) (world : y.world.now ≡ x.world.now)
      (noted : y.state.now.notes.items ≡ x.state.now.notes.items)
    where
      -- what was read changes, and nothing is asked
      pub changed-given : (found : A)
          → ((answers : Answers) → whole answers ≡ done (view found, stood y))
          → Given o x y view (Ok found) whole
      changed-given found is =
          gave-given o x y view whole [] (nothing_done o x y stays.same noted) found (leads-same o x y stays world noted)
          (λ answers by. is answers)

      pub changed-want : Given o x y view (Err NoMemory) whole
      changed-want = gave-want o x y view whole (nothing_done o x y stays.same noted) (leads-same o x y stays world noted)

      pub changed-wrong : (what : What) → ((answers : Answers) → whole answers ≡ refused what)
          → Given o x y view (Err (Wrong what)) whole
      changed-wrong what is =
          gave-wrong o x y view whole (nothing_done o x y stays.same noted) what (leads-same o x y stays world noted)
          (λ answers by. is answers)

  -- a definition in other words
  pub given-as : {A B : Type 0} (x y : Reader W S) (view : A → B) (answer : Result A Refusal)
      (other : Answers → Doing B) {whole : Answers → Doing B}
      → ((answers : Answers) → whole answers ≡ other answers)
      → Given o x y view answer other → Given o x y view answer whole
  given-as {A} {B} x y view answer other same does = record {
    leads = does.leads;
    gives = λ answers agrees.
        subst (λ (w : Doing B). Gives (reader_ties o) sorted x y
        (λ found. done (view found, stood y)) answer w)
        (sym (same answers)) (does.gives answers agrees);
  }

  -- What was done between two readers, up to a rest that is left.
  abbrev pub Left : {B : Type 0} → Reader W S → Reader W S → (Answers → Doing B)
      → (Answers → Doing B) → Type 0
  Left x y rest whole =
      Does (reader_ties o) sorted x y (λ answers (u : Unit {0}). rest answers) (Ok tt) whole

  pub left-here : {B : Type 0} (x : Reader W S) (rest whole : Answers → Doing B)
      → ((answers : Answers) → whole answers ≡ rest answers)
      → Left x x rest whole
  left-here x rest whole same = record {
    leads = leads_nowhere o x;
    gives = λ answers agrees. record {
      acts = [];
      did = nothing_done o x x refl refl;
      is = same answers;
    };
  }

  -- what was read changes, and all of the definition is left
  pub left-changed : {B : Type 0} (x y : Reader W S) (stays : Stays o x y)
      (rest whole : Answers → Doing B) → y.world.now ≡ x.world.now
      → y.state.now.notes.items ≡ x.state.now.notes.items
      → ((answers : Answers) → whole answers ≡ rest answers)
      → Left x y rest whole
  left-changed x y stays rest whole world noted same = record {
    leads = leads-same o x y stays world noted;
    gives = λ answers agrees. record {
      acts = [];
      did = nothing_done o x y stays.same noted;
      is = same answers;
    };
  }

  -- a call does what is left
  pub left-given : {A B : Type 0} {x y z : Reader W S} {view : A → B} {answer : Result A Refusal}
      {rest whole : Answers → Doing B}
      → Left x y rest whole → Given o y z view answer rest → Given o x z view answer whole
  left-given left given = left-then (reader_ties o) sorted left given

  -- a call does a first part of a definition
  pub left-first : {A C B : Type 0} {x y : Reader W S} {view : A → C} {found : A}
      {first : Answers → Doing C} (next : Answers → C × Moment → Doing B)
      → Given o x y view (Ok found) first
      → Left x y (λ answers. next answers (view found, stood y))
      (λ answers. first answers >>= next answers)
  left-first next given = record {
    leads = given.leads;
    gives = λ answers agrees.
        Goes-bind (reader_ties o) (next answers) (given.gives answers agrees);
  }

  -- a first part of what is left
  pub left-on : {B : Type 0} {x y z : Reader W S} {rest whole behind : Answers → Doing B}
      → Left x y rest whole → Left y z behind rest → Left x z behind whole
  left-on left then_left = left-then (reader_ties o) sorted left then_left

  pub left-as : {B : Type 0} (x y : Reader W S) {rest whole behind other : Answers → Doing B}
      → ((answers : Answers) → whole answers ≡ other answers)
      → ((answers : Answers) → rest answers ≡ behind answers)
      → Left x y rest other → Left x y behind whole
  left-as x y same then_same left = record {
    leads = left.leads;
    gives = λ answers agrees.
        Goes-as (reader_ties o) x y (same answers) (then_same answers) (left.gives answers agrees);
  }

-- the items from a place on: the one there, and those behind it
pub drop-item : {A : Type 0} (items same : List A) (at : ℕ) (item : A)
    → same ≡ items → at < length same → item ≡ get_or same at item
    → drop at items ≡ item ∷ drop (at + 1) items
drop-item items same at item is within here =
    ap (drop at) (sym is) ∙ drop_more same at item within
    ∙ ap (λ x. x ∷ drop (at + 1) same) (sym here)
    ∙ ap (λ l. item ∷ drop (at + 1) l) is
