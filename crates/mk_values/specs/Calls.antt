-- What one call of an evaluation is given, and what it leaves.
use Rattle.std.specs.Prelude.{◌≡◌, ◌⊎◌, ℕ, Bool, false, List, [], Option, Result, Ok, Err}
use Rattle.mk_pieces.specs.Pieces.{Begins}
use Rattle.mk_scopes.specs.Scopes.{Variables}
use Rattle.mk_world.specs.Causes.{HasCause}
use Rattle.mk_values.specs.Chains.{Chain}
use Rattle.mk_values.specs.Evaluators.{Answer, Counted, Progress, progress_with}
use Rattle.mk_values.specs.Facts.{Answers, AnsweredBy, AsksMore, IsOutside, Lists}
use Rattle.mk_values.specs.declared.facts.Asked.{Asked}
use Rattle.mk_values.specs.declared.facts.Facts.{Ghosts}
use Rattle.mk_values.specs.Names.{Context, raw_in}
use Rattle.mk_values.specs.View.{chain_view}
use Rattle.mk_values.specs.declared.chain.Chain.{Chain as CodeChain}
use Rattle.mk_values.specs.declared.run.Run.{Run}
use Rattle.mk_values.specs.declared.fault.ExpandFault.{ExpandFault}
use Rattle.mk_values.specs.declared.fault.ExpandFault.TheVariants.{Failed}
use Rattle.mk_values.specs.declared.local.Locals.{Locals}
use Rattle.mk_values.specs.declared.name.Names.{Names}

-- what names and facts mean in a call
abbrev pub here : Variables → Locals → Lists → Run → Bool → Answers → Context
here variables locals lists run keep answers = record {
  raw = raw_in variables locals;
  cwd = variables.cwd;
  lists = lists;
  answers = answers;
  bound = run.bound.items;
  open_names = run.open_names;
  keep = keep;
}

-- how far the evaluation is
abbrev pub at : Run → List Asked → Progress
at run asked = progress_with run.noted run.references asked

-- A call's answer, seen by `view`, is what is defined, and so is the progress behind it, also
-- behind a fault. Want of memory and a failure of the outside may stand in place of any answer.
abbrev pub Gives : {X Y : Type 0} → (X → Y) → Progress → Result X ExpandFault → Answer Y → Type 0
Gives view p (Ok given) defined = defined ≡ Ok (view given, p)
Gives view p (Err fault) defined = IsOutside fault ⊎ (defined ≡ Err (fault, p))

-- The answer of a call is what is defined by the answers to all that was asked up to its end.
abbrev pub Evaluates : {X Y : Type 0} → Run → List Asked → (X → Y) → Result X ExpandFault
    → (Answers → Counted Y) → Type 0
Evaluates run asked view result defined =
    (answers : Answers) → AnsweredBy answers asked
    → Gives view (at run asked) result (defined answers).answer

-- A call with these names, runs and facts gives what is defined, seen by `view`.
abbrev pub FindsAs : {F X Y : Type 0} → Ghosts F → Names → Bool → Run → Run → F → F → (X → Y)
    → Result X ExpandFault → (Context → Progress → Counted Y) → Type 0
FindsAs meaning names keep old new before after view result defined =
    Evaluates new (meaning.asked after) view result
    (λ answers. defined
    (here names.scopes.now names.locals.now (meaning.lists before) old keep answers)
    (at old (meaning.asked before)))

-- the same, of what is given as it is
abbrev pub Finds : {F X : Type 0} → Ghosts F → Names → Bool → Run → Run → F → F
    → Result X ExpandFault → (Context → Progress → Counted X) → Type 0
Finds meaning names keep old new before after result defined =
    FindsAs meaning names keep old new before after (λ given. given) result defined

-- the same, of what is made of a chain, by its items in the region behind the call
abbrev pub Modifies : {F : Type 0} → Ghosts F → Names → Run → Run → F → F
    → Result CodeChain ExpandFault → (Context → Progress → Counted Chain) → Type 0
Modifies meaning names old new before after result defined =
    FindsAs meaning names false old new before after (chain_view new.region.bytes) result defined

-- what a call leaves of a run as it was
pub record Keeps (old new : Run) : Type 0 where
  pub open_names : new.open_names ≡ old.open_names
  pub bound : new.bound.items ≡ old.bound.items
  pub region : new.region.bytes ≡ old.region.bytes

-- the same of a call that may place bytes in the region
pub record Extends (old new : Run) : Type 0 where
  pub open_names : new.open_names ≡ old.open_names
  pub bound : new.bound.items ≡ old.bound.items
  pub begins : Begins old.region.bytes new.region.bytes

-- What a call asks of the facts: they lead from one to the other, the lists stay, questions are
-- only added, and a failure has its cause.
pub record Asks {A : Type 0} (leads : Type 0) (old_lists new_lists : Lists) (old new : List Asked)
    (before after : ℕ) (answer : Result A ExpandFault) : Type 0
  where
    pub led : leads
    pub lists : new_lists ≡ old_lists
    pub asked : AsksMore old new
    pub cause : HasCause Failed before after answer

-- what a call asks of these facts
abbrev pub AsksOf : {F A : Type 0} → Ghosts F → F → F → Result A ExpandFault → Type 0
AsksOf meaning before after answer =
    Asks (meaning.leads before after) (meaning.lists before) (meaning.lists after)
    (meaning.asked before) (meaning.asked after) (meaning.faults before) (meaning.faults after) answer

-- a run before its first reference, in which the names are kept behind these
abbrev pub IsFirst : Option (List (List ℕ)) → Run → Type 0
IsFirst noted run =
    (run.open_names ≡ []) × (run.bound.items ≡ []) × (run.references ≡ 0) × (run.noted ≡ noted)
