-- What a run of the example leaves alone, and that it may be run again.
use Rattle.std.proofs.Common.{◌≡◌, ◌∙◌, ◌⊎◌, ℕ, List, [], ◌∷◌, ◌++◌, Bool, true, false, Option, Some, None, if◌then◌else◌}
use Rattle.std.proofs.Common.{inl, inr, refl, sym, ap, subst, codes}
use Rattle.std.proofs.lemmas.Bool.{eq-eqb, false≢true}
use Rattle.std.specs.List.{AllByRecursion}
use Rattle.std.specs.Str.{bytes_eq}
use Rattle.mk_clean.specs.Clean.{CleanJob, IsAmong, deeds_of}
use Rattle.mk_clean.specs.Same.{AreFirstSteps, DoesCleanSteps, own_step, steps_of}
use Rattle.mk_clean.specs.Turns as turn
use Rattle.mk_clean.specs.Turns.{Build, MayTurns, Turn}
use Rattle.mk_decision.specs.Decisions.{Work}
use Rattle.mk_filemon.proofs.PathLemmas.{same_bytes}
use Rattle.mk_headline.proofs.PlanLemmas.{meta_path-is}
use Rattle.mk_headline.specs.Plans.{clean_plan, is_meta_path, makes_file}
use Rattle.mk_plan.specs.Plans.{node_at}
use Rattle.mk_commands.specs.Meaning.{language}
use Rattle.mk_meta.specs.Texts.{meta_text}
use Rattle.mk_meta.specs.TrueHistory.{IsTrueHistory, meta_path}
use Rattle.mk_trace.proofs.TrueTexts.{true-same}
use Rattle.mk_trace.specs.Runs.{Tasks}
use Rattle.mk_world.proofs.CallLemmas.{MayAll-append, after_all-append}
use Rattle.mk_world.specs.Deeds.{Store, after_deed}
use Rattle.mk_world.specs.History.{State as Stand, after, contents, files_of, first_state, state_of}
use Rattle.mk_world.specs.declared.history.Happening.TheVariants.{Edit}
use Rattle.mk_world.specs.declared.history.History.{History}
use Rattle.mk_world.specs.declared.step.Deed.{Deed}
use Rattle.mk_example.specs.Copies.{EditedWorldsAreReady, edited}

-- a step leaves a path as it is, whatever files stand
abbrev pub LeavesPath : List ℕ → Deed → Type 0
LeavesPath path deed = (files : Store) → after_deed files deed path ≡ files path

abbrev TurnLeaves : List ℕ → Turn → Type 0
TurnLeaves path (turn.steps node deed) = LeavesPath path deed
TurnLeaves path (turn.looks_at node at) = Unit {0}
TurnLeaves path (turn.keeps node) = Unit {0}
TurnLeaves path (turn.begins node) = Unit {0}
TurnLeaves path (turn.starts_line node) = Unit {0}
TurnLeaves path (turn.ends_line node) = Unit {0}
TurnLeaves path (turn.fails node) = Unit {0}
TurnLeaves path (turn.settles node) = Unit {0}
TurnLeaves path (turn.removes node) = Unit {0}
TurnLeaves path (turn.puts_meta at bytes) = Unit {0}

put-leaves : (files : Store) (at path : List ℕ) (bytes : Option (List ℕ)) → is_meta_path at ≡ true
    → is_meta_path path ≡ false → (if bytes_eq at path then bytes else files path) ≡ files path
put-leaves files at path bytes meta plain = by (bytes_eq at path) refl
  where
    by : (b : Bool) → bytes_eq at path ≡ b → (if b then bytes else files path) ≡ files path
    by true same =
        absurd (false≢true (sym plain ∙ (sym (ap is_meta_path (same_bytes at path same)) ∙ meta)))
    by false same = refl

-- a path at which no node makes a file
abbrev pub IsNotMade : Work → List ℕ → Type 0
IsNotMade work path =
    (n : ℕ) → makes_file (node_at work.plan n) ≡ true → (node_at work.plan n).name ≡ path → ⊥

gone-leaves : (files : Store) (at path : List ℕ) → (at ≡ path → ⊥)
    → (if bytes_eq at path then None else files path) ≡ files path
gone-leaves files at path apart = by (bytes_eq at path) refl
  where
    by : (b : Bool) → bytes_eq at path ≡ b → (if b then None else files path) ≡ files path
    by true same = absurd (apart (same_bytes at path same))
    by false same = refl

-- where no step of a build of turns changes a path that is none of a meta file or a made one, it stands as it did
turns-leave : (work : Work) (tasks : Tasks) (path : List ℕ) (turns : List Turn) (build : Build)
    → is_meta_path path ≡ false → IsNotMade work path → MayTurns language (clean_plan work tasks) build turns
    → AllByRecursion (TurnLeaves path) turns
    → (turn.after_turns (clean_plan work tasks) build turns).files path ≡ build.files path
turns-leave work tasks path [] build plain none may all = refl
turns-leave work tasks path (one ∷ turns) build plain none may all =
    turns-leave work tasks path turns (turn.after_turn (clean_plan work tasks) build one) plain none may.1 all.1
    ∙ by one may.0 all.0
  where
    by : (one : Turn) → turn.MayTurn language (clean_plan work tasks) build one → TurnLeaves path one
        → (turn.after_turn (clean_plan work tasks) build one).files path ≡ build.files path
    by (turn.steps node deed) may_one leaves = leaves build.files
    by (turn.puts_meta at bytes) may_one leaves = put-leaves build.files at path bytes may_one plain
    by (turn.looks_at node at) may_one leaves = refl
    by (turn.keeps node) may_one leaves = refl
    by (turn.begins node) may_one leaves = refl
    by (turn.starts_line node) may_one leaves = refl
    by (turn.ends_line node) may_one leaves = refl
    by (turn.fails node) may_one leaves = refl
    by (turn.settles node) may_one leaves = refl
    by (turn.removes node) may_one leaves = gone-leaves build.files (node_at work.plan node).name path (none node may_one.1)

-- the steps of a build, node by node

all-second : {A : Type 0} (P : A → Type 0) (items more : List A) → AllByRecursion P (items ++ more)
    → AllByRecursion P more
all-second P [] more all = all
all-second P (item ∷ items) more all = all-second P items more all.1

all-first : {A : Type 0} (P : A → Type 0) (items more : List A) → AllByRecursion P (items ++ more)
    → AllByRecursion P items
all-first P [] more all = tt
all-first P (item ∷ items) more all = (all.0, all-first P items more all.1)

each-turn : (path : List ℕ) (turns : List Turn)
    → ((node : ℕ) → AllByRecursion (LeavesPath path) (steps_of node turns))
    → AllByRecursion (TurnLeaves path) turns
each-turn path [] all = tt
each-turn path (one ∷ turns) all = (
  by one (λ node. all-first (LeavesPath path) (own_step node one) (steps_of node turns) (all node)),
  each-turn path turns
      (λ node. all-second (LeavesPath path) (own_step node one) (steps_of node turns) (all node)),
)
  where
    by : (one : Turn) → ((node : ℕ) → AllByRecursion (LeavesPath path) (own_step node one)) → TurnLeaves path one
    by (turn.steps node deed) own =
        (subst (λ b. AllByRecursion (LeavesPath path) (if b then deed ∷ [] else [])) (eq-eqb node node refl)
        (own node)).0
    by (turn.looks_at node at) own = tt
    by (turn.keeps node) own = tt
    by (turn.begins node) own = tt
    by (turn.starts_line node) own = tt
    by (turn.ends_line node) own = tt
    by (turn.fails node) own = tt
    by (turn.settles node) own = tt
    by (turn.removes node) own = tt
    by (turn.puts_meta at bytes) own = tt

-- where no step of the clean build changes a path, none of the build does
clean-leave : (work : Work) (tasks : Tasks) (path : List ℕ) (all : List CleanJob) (turns : List Turn) (build : Build)
    → DoesCleanSteps (clean_plan work tasks) all turns build
    → ((one : CleanJob) → IsAmong one all → AllByRecursion (LeavesPath path) (deeds_of one))
    → AllByRecursion (TurnLeaves path) turns
clean-leave work tasks path all turns build does leaves = each-turn path turns (λ node. by node (does.begun node))
  where
    by : (node : ℕ) → (steps_of node turns ≡ []) ⊎ AreFirstSteps all node (steps_of node turns)
        → AllByRecursion (LeavesPath path) (steps_of node turns)
    by node (inl none) = subst (AllByRecursion (LeavesPath path)) (sym none) tt
    by node (inr first) =
        all-first (LeavesPath path) (steps_of node turns) first.rest
        (subst (AllByRecursion (LeavesPath path)) first.are (leaves first.one first.among))

pub stays-there : (work : Work) (tasks : Tasks) (path : List ℕ) (all : List CleanJob) (turns : List Turn)
    (old new : History) → is_meta_path path ≡ false → IsNotMade work path
    → MayTurns language (clean_plan work tasks) (turn.first_build (files_of old)) turns
    → (turn.after_turns (clean_plan work tasks) (turn.first_build (files_of old)) turns).files ≡ files_of new
    → DoesCleanSteps (clean_plan work tasks) all turns
    (turn.after_turns (clean_plan work tasks) (turn.first_build (files_of old)) turns)
    → ((one : CleanJob) → IsAmong one all → AllByRecursion (LeavesPath path) (deeds_of one))
    → files_of new path ≡ files_of old path
stays-there work tasks path all turns old new plain none may files does leaves =
    ap (λ (s : Store). s path) (sym files)
    ∙ turns-leave work tasks path turns (turn.first_build (files_of old)) plain none may
    (clean-leave work tasks path all turns _ does leaves)

-- an edit of the source

edited-state : (old : History) (newer : List ℕ) (time : ℕ)
    → state_of (edited old newer time) ≡ after (state_of old) (Edit (codes "a") (Some newer) time)
edited-state old newer time =
    after_all-append (first_state old.base) old.events (Edit (codes "a") (Some newer) time ∷ [])

no-meta : (target : List ℕ) → codes "a" ≡ meta_path target → ⊥
no-meta target same = absurd (false≢true (ap is_meta_path same ∙ meta_path-is target))

edit-keeps : (old : History) (newer : List ℕ) (time : ℕ) → IsTrueHistory language.next old
    → IsTrueHistory language.next (edited old newer time)
edit-keeps old newer time truth = λ meta lawful stands.
    (true-same language.next old.events (state_of old).files (λ stamp. Unit {0}) (λ stamp. Unit {0})
    (Edit (codes "a") (Some newer) time) (λ target. (no-meta target, tt)) (λ stamp over. (tt, refl))
    (λ one one_is one_stands. (truth one one_is one_stands, tt)) meta lawful
    (subst (λ (s : Stand). contents s.files (meta_path meta.target) ≡ Some (meta_text meta))
    (edited-state old newer time) stands)).0

pub edited-ready : EditedWorldsAreReady
edited-ready bytes newer new time copied idle later = record {
  makefile_is =
      ap (λ (s : Stand). contents s.files (codes "makefile")) (edited-state new newer time) ∙ copied.makefile_is;
  source_is = ap (λ (s : Stand). contents s.files (codes "a")) (edited-state new newer time);
  lawful = record {
    events = MayAll-append language (first_state new.base) new.events (Edit (codes "a") (Some newer) time ∷ [])
        copied.lawful.events (((later, tt), idle), tt);
  };
  idle = ap (λ (s : Stand). s.children) (edited-state new newer time) ∙ idle;
  truth = edit-keeps new newer time copied.truth;
}
