-- What was asked where names were looked up and a task was made.
use Rattle.std.proofs.Common.{◌≡◌, ◌≢◌, ◌⊎◌, ◌∙◌, ℕ, List, [], ◌∷◌, map, Option, Some, None}
use Rattle.std.proofs.Common.{inl, inr, Result, Ok, Err, IfOk, refl, ap, subst}
use Rattle.mk_bytes.specs.declared.fault.NoMemory.{NoMemory}
use Rattle.mk_decision.proofs.LookLemmas.{looks-asked}
use Rattle.mk_decision.specs.Asks.{TaskAsked}
use Rattle.mk_decision.specs.Metas.{paths_in}
use Rattle.mk_plan.specs.Asking.{as_asked}
use Rattle.mk_plan.specs.Refusals.{IsFree, IsOwn}
use Rattle.mk_plan.specs.declared.fault.TaskFault.{TaskFault}
use Rattle.mk_values.specs.declared.facts.Asked.{Asked}
use Rattle.mk_values.specs.declared.fault.ExpandFault.TheVariants as expand
use Rattle.mk_world.specs.Looks.{Dated, answered}
use Rattle.mk_world.specs.Talks.{Meaning}
use Rattle.mk_world.specs.declared.command.Task.{Task}
use Rattle.mk_world.specs.declared.fault.WorldFault.{WorldFault}
use Rattle.mk_world.specs.declared.fault.WorldFault.TheVariants as world
use Rattle.mk_world.specs.declared.history.History.{History}
use Rattle.mk_audit.specs.Looks.{IsAllAsked}
use Rattle.mk_audit.specs.Views.{made_of}
use Rattle.mk_audit.specs.Walks.{MadeByLooks, NamesAsked}
use Rattle.mk_audit.specs.declared.commands.Named.{Named}

-- `exists` was asked of all this for what was made, which this is, or nothing where it is at fault
abbrev IsMade : {A : Type 0} → Result (A × List Asked) TaskFault → List Asked → List Dated
    → Option A → Type 0
IsMade defined questions dates made = IsAllAsked defined questions dates × (made ≡ made_of defined)

made-all : {A : Type 0} (defined : Result (A × List Asked) TaskFault) (questions : List Asked)
    (dates : List Dated) (made : A) → defined ≡ Ok (made, map as_asked dates)
    → IsMade defined questions dates (Some made)
made-all defined questions dates made is = rw is (refl, refl)

fault-all : {A : Type 0} (defined : Result (A × List Asked) TaskFault) (questions : List Asked)
    (dates : List Dated) (fault : TaskFault) → IsFree fault ⊎ (defined ≡ Err fault)
    → IsFree fault ⊎ (questions ≡ map as_asked dates) → IsOwn fault
    → IsMade defined questions dates None
fault-all defined questions dates fault (inl free) told own = absurd (own free)
fault-all defined questions dates fault (inr is) (inl free) own = absurd (own free)
fault-all defined questions dates fault (inr is) (inr told) own = rw is (told, refl)

-- the paths that were asked
pub paths-asked : (dates : List Dated)
    → map (λ (one : Asked). one.path) (map as_asked dates) ≡ paths_in dates
paths-asked [] = refl
paths-asked (one ∷ dates) = ap (λ l. one.path ∷ l) (paths-asked dates)

module _ (meaning : Meaning) (a b : Option History)
    (defined : List Dated → Result (List (List ℕ) × List Asked) TaskFault)
    (asks : List Dated → List Asked) (asked : Result (List (List ℕ)) NoMemory) where
  -- what is taken of names that were looked up
  abbrev AreNamed : Named → Type 0
  AreNamed named =
      (found : MadeByLooks meaning a b defined asks named.names)
      × (named.asked ≡ paths_in found.dates)

  -- names were found
  pub names-found : (names : List (List ℕ)) (result : Result Named WorldFault)
      → NamesAsked meaning a b asked (Ok names) defined asks
      → IfOk result (λ named. named.names ≡ Some names)
      → IfOk result (λ named. asked ≡ Ok named.asked)
      → IfOk result AreNamed
  names-found names (Err fault) told is paths = tt
  names-found names (Ok named) told is paths =
      let dates = answered told.questions in
      let made = made-all (defined dates) (asks dates) dates names told.names in (
        record {
          dates = dates;
          looked = looks-asked meaning told.questions a b told.told;
          all = made.0;
          is = is ∙ made.1;
        },
        subst (λ r. IfOk r (λ l. l ≡ paths_in dates)) paths told.paths,
      )

  -- there are none, by a fault of the makefiles
  pub names-refused : (fault : TaskFault) (result : Result Named WorldFault)
      → NamesAsked meaning a b asked (Err fault) defined asks
      → IfOk result (λ named. IsOwn fault) → IfOk result (λ named. named.names ≡ None)
      → IfOk result (λ named. asked ≡ Ok named.asked)
      → IfOk result AreNamed
  names-refused fault (Err other) told own is paths = tt
  names-refused fault (Ok named) told own is paths =
      let dates = answered told.questions in
      let made = fault-all (defined dates) (asks dates) dates fault told.names told.faulty own in (
        record {
          dates = dates;
          looked = looks-asked meaning told.questions a b told.told;
          all = made.0;
          is = is ∙ made.1;
        },
        subst (λ r. IfOk r (λ l. l ≡ paths_in dates)) paths told.paths,
      )

module _ (meaning : Meaning) (a b : Option History)
    (defined : List Dated → Result (Task × List Asked) TaskFault)
    (asks : List Dated → List Asked) where
  -- a task was made
  pub task-found : (task : Task) → TaskAsked meaning a b (Ok task) defined asks
      → MadeByLooks meaning a b defined asks (Some task)
  task-found task told =
      let dates = answered told.questions in
      let made = made-all (defined dates) (asks dates) dates task told.task in
      record {
        dates = dates;
        looked = looks-asked meaning told.questions a b told.told;
        all = made.0;
        is = made.1;
      }

  -- there is none, by a fault of the makefiles
  pub task-refused : (fault : TaskFault) (result : Result (Option Task) WorldFault)
      → TaskAsked meaning a b (Err fault) defined asks
      → ((result ≡ Err world.NoMemory) × (fault.what ≢ expand.Failed))
      ⊎ (((result ≡ Err world.Failed) × (fault.what ≡ expand.Failed))
      ⊎ ((result ≡ Ok None) × IsOwn fault))
      → IfOk result (MadeByLooks meaning a b defined asks)
  task-refused fault result told (inl none) = rw none.0 tt
  task-refused fault result told (inr (inl failed)) = rw failed.0 tt
  task-refused fault result told (inr (inr own)) =
      let dates = answered told.questions in
      let made = fault-all (defined dates) (asks dates) dates fault told.task told.faulty own.1 in
      rw own.0 (record {
        dates = dates;
        looked = looks-asked meaning told.questions a b told.told;
        all = made.0;
        is = made.1;
      })
