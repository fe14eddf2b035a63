-- A node that is being decided: what its looks saw so far.
use Rattle.std.proofs.Common.{◌≡◌, ◌≢◌, ◌∙◌, ◌⊎◌, ℕ, codes, zero, suc, ◌<◌, ◌==◌, ◌&&◌, ◌||◌, not, nat_le, List, [], ◌∷◌, ◌++◌, length, set, slice_get, Option, Some, None, Bool, true, false, if◌then◌else◌}
use Rattle.std.proofs.Common.{inl, inr, refl, sym, ap, subst, arith, append_assoc, eq-eqb, ne_eqb}
use Rattle.std.proofs.lemmas.Bool.{cases_eq, false≢true, false_from_ne_true}
use Rattle.std.proofs.lemmas.List.{append-nil, append_cancel_right}
use Rattle.std.proofs.lemmas.Option.{slice_get_within}
use Rattle.std.proofs.lemmas.Slice.Eq.{bytes_eq-Decides}
use Rattle.std.specs.List.{Contains, list_any}
use Rattle.std.specs.Str.{bytes_eq}
use Rattle.mk_clean.proofs.CleanLemmas.{changed_first, changed_last}
use Rattle.mk_clean.proofs.StepLemmas.{steps_clean}
use Rattle.mk_clean.proofs.WalkLemmas.{left_alone}
use Rattle.mk_clean.specs.Clean.{CleanJob, Plan, IsAmong, clean_build, cleared, deeds_of, is_changed}
use Rattle.mk_clean.specs.Declared.{IsDeclared, IsOwn, IsPrivate}
use Rattle.mk_clean.specs.Same.{AreFirstSteps, steps_of, own_step}
use Rattle.mk_clean.specs.Turns as turn
use Rattle.mk_clean.specs.Turns.{Turn, after_turns, MayTurns, with_look}
use Rattle.mk_decision.specs.Decisions.{Work}
use Rattle.mk_headline.proofs.GoodLemmas.{Good, sources-ready, waits-ready}
use Rattle.mk_headline.proofs.LookLemmas.{AllLeave, leave-last, AllSeen, all-more, IsDated, SawWhen, saw-when, AllOf, of-last, seen_in, is_looked, first_look, first-other, first-before, first-now, seen-last}
use Rattle.mk_headline.proofs.PastLemmas.{Past}
use Rattle.mk_headline.proofs.PlanLemmas.{length-before, meta_path-is, job-among, job-has, clean-node, are-well-made, names-differ, node-is}
use Rattle.mk_headline.proofs.StageLemmas.{may-append}
use Rattle.mk_headline.proofs.TurnLemmas.{each-node, Turning, look-passed, look-taken}
use Rattle.mk_headline.specs.Plans.{clean_plan, has_job, is_meta_path, makes_file}
use Rattle.mk_headline.specs.Premises.{IsWellMade}
use Rattle.mk_meta.specs.TrueHistory.{LeavesAlone, changed_paths, meta_path}
use Rattle.mk_plan.specs.Deciding.{may_decide, is_stopped}
use Rattle.mk_plan.specs.Plans.{node_at}
use Rattle.mk_plan.specs.declared.plan.NodeState.{NodeState}
use Rattle.mk_plan.specs.declared.plan.PlanNode.{PlanNode}
use Rattle.mk_plan.specs.declared.plan.NodeState.TheVariants.{Undecided, Open, Settled, Failed}
use Rattle.mk_trace.proofs.TrueChildren.{step-leaves}
use Rattle.mk_trace.proofs.TrueIdle.{free-not, stop-not, begin-not}
use Rattle.mk_trace.proofs.RunLemmas.{long-run}
use Rattle.mk_trace.proofs.TrueRuns.{slice-other, slice-same, ended_run, taken-due, IsDue, closing-due, end-due, ended-shut}
use Rattle.mk_trace.proofs.BegunLemmas.{may-undecided, start-within}
use Rattle.mk_trace.proofs.ItemLemmas.{happened_all-append, run-events}
use Rattle.mk_trace.specs.Builds.{Build, Duty, free, remove, begin, date, close, stop, MayLook, Makes, behind_look, build_after, first_build, rules_of}
use Rattle.mk_trace.specs.Calls.{NoneLeft}
use Rattle.mk_world.proofs.CallLemmas.{after_all-append}
use Rattle.mk_world.specs.Outer.{Over}
use Rattle.mk_trace.specs.Collected.{has_meta}
use Rattle.mk_trace.specs.Items.{gone, head, whole, cut_head, cut_whole, Item, looks, keeps, refuses, starts, passes, waits, steps, ends, changes, leaves, path_of, happened, happened_all, reported_all, IsSeenIn}
use Rattle.mk_trace.specs.Runs as run
use Rattle.mk_world.specs.Calls.{when_of}
use Rattle.mk_world.specs.Deeds.{changes as changes_of}
use Rattle.mk_world.specs.History.{State as Stand, Filed, FileMap, after_all as stand_after, at_time, contents, filed}
use Rattle.mk_world.specs.Looks.{Seen, dated, read}
use Rattle.mk_world.specs.Talks.{Meaning}
use Rattle.mk_world.specs.declared.step.Deed.{Deed}

-- lists

pub contains-any : (paths : List (List ℕ)) (path : List ℕ) → Contains paths path
    → list_any (λ one. bytes_eq one path) paths ≡ true
contains-any [] path has = absurd (omega (arith, has.1))
contains-any (one ∷ paths) path (zero, less, is) = rw ((bytes_eq-Decides one path).1 is) refl
contains-any (one ∷ paths) path (suc k, less, is) =
    or_right (bytes_eq one path) _ (contains-any paths path (k, omega (arith, less), is))
  where
    or_right : (a b : Bool) → b ≡ true → (a || b) ≡ true
    or_right true b given = refl
    or_right false b given = given

some-same : (n m : ℕ) → Some n ≡ Some m → n ≡ m
some-same n m is = cc

steps_of-append : (node : ℕ) (first second : List Turn)
    → steps_of node (first ++ second) ≡ steps_of node first ++ steps_of node second
steps_of-append node [] second = refl
steps_of-append node (one ∷ first) second =
    ap (λ l. own_step node one ++ l) (steps_of-append node first second)
    ∙ sym (append_assoc (own_step node one) (steps_of node first) (steps_of node second))

not-nil : (deeds : List Deed) (deed : Deed) → deeds ++ deed ∷ [] ≡ [] → ⊥
not-nil [] deed is = absurd cc
not-nil (one ∷ deeds) deed is = absurd cc

pub set-back : (nodes : List NodeState) (m n : ℕ) (stands : NodeState) → (stands ≡ Undecided → ⊥)
    → slice_get (set nodes m stands) n ≡ Some Undecided → (n ≢ m) × (slice_get nodes n ≡ Some Undecided)
set-back nodes m n stands decided is = elim (cases_eq n m) [
  | inl same ↦
      absurd (decided (slice-same nodes m stands Undecided
      (subst (λ k. slice_get (set nodes m stands) k ≡ Some Undecided) same is)))
  | inr other ↦ (other, sym (slice-other nodes m n stands other) ∙ is)
]

pub ended-back : (state : run.State) (m number n : ℕ) (failed stops : Bool)
    → slice_get (ended_run state m number failed stops).nodes n ≡ Some Undecided
    → slice_get state.nodes n ≡ Some Undecided
ended-back state m number n true stops is = (set-back state.nodes m n Failed (λ same. absurd cc) is).1
ended-back state m number n false true is = (set-back state.nodes m n Settled (λ same. absurd cc) is).1
ended-back state m number n false false is = is

pub opening-begins : (m n : ℕ) (b : Bool) → (if b then begin m else free) ≡ begin n → n ≡ m
opening-begins m n true is = cc
opening-begins m n false is = absurd cc

opening-stop : (m : ℕ) (b : Bool) → (if b then begin m else free) ≡ stop → ⊥
opening-stop m true is = absurd cc
opening-stop m false is = absurd cc

-- a line begins where nothing is due for the node that may be decided
start-decides : (work : Work) (tasks : run.Tasks) (state : run.State) (m number : ℕ) (due : run.Due)
    → due ≡ run.anything → run.MayStart (rules_of work) tasks state m number due
    → may_decide (rules_of work) state.nodes ≡ Some m
start-decides work tasks state m number run.anything is may = may.0
start-decides work tasks state m number run.child is may = absurd may
start-decides work tasks state m number (run.line one next) is may = absurd cc
start-decides work tasks state m number (run.close one last) is may = absurd may

put-elsewhere : (files : FileMap) (path other bytes : List ℕ) (time : ℕ) → is_meta_path path ≡ true
    → is_meta_path other ≡ false
    → (if bytes_eq path other then filed (Some bytes) time else files other) ≡ files other
put-elsewhere files path other bytes time meta none =
    ap (λ b. if b then filed (Some bytes) time else files other)
    (false_from_ne_true (bytes_eq path other)
    (λ is. false≢true (sym none ∙ (ap is_meta_path (sym ((bytes_eq-Decides path other).0 is)) ∙ meta))))

gone-elsewhere : (files : FileMap) (path other : List ℕ) (time : ℕ) → (path ≡ other → ⊥)
    → (if bytes_eq path other then filed None time else files other) ≡ files other
gone-elsewhere files path other time apart =
    ap (λ b. if b then filed None time else files other)
    (false_from_ne_true (bytes_eq path other) (λ is. apart ((bytes_eq-Decides path other).0 is)))

-- a node that makes a file has a job
pub makes-job : (node : PlanNode) → makes_file node ≡ true → has_job node ≡ true
makes-job node is = by (has_job node) is
  where
    by : (has : Bool) → (has && not node.marks.phony) ≡ true → has ≡ true
    by true both = refl
    by false both = absurd (false≢true both)

module _ (meaning : Meaning) (work : Work) (tasks : run.Tasks) (entry : Stand)
    (idle : entry.children ≡ []) (well : IsWellMade work)
    (declared : IsDeclared (clean_plan work tasks)
    (clean_build meaning (clean_plan work tasks) (contents entry.files)))
    (no_meta : (n : ℕ) → has_job (node_at work.plan n) ≡ true
    → is_meta_path (node_at work.plan n).name ≡ false) where
  abbrev plan : Plan
  plan = clean_plan work tasks

  abbrev name : ℕ → List ℕ
  name n = (node_at work.plan n).name

  abbrev IsGood : List Item → Build → Stand → List Turn → turn.Build → Type 0
  IsGood = Good meaning work tasks entry idle well

  -- a step of a build is one of the clean build
  pub record CleanStep (j : ℕ) (deed : Deed) : Type 0 where
    pub one : CleanJob
    pub among : IsAmong one (clean_build meaning plan (contents entry.files))
    pub node_is : one.node ≡ j
    pub changes_it : (path : List ℕ) → is_changed (deed ∷ []) path ≡ true
        → is_changed (deeds_of one) path ≡ true

  pub clean-step : (build : Build) (stand : Stand) (turns : List Turn) (clean : turn.Build)
      (ticket owner time : ℕ) (deed : Deed)
      → MayTurns meaning plan (turn.first_build (contents entry.files)) turns
      → after_turns plan (turn.first_build (contents entry.files)) turns ≡ clean
      → (now : Turning meaning work tasks build stand clean (steps ticket owner deed time))
      → CleanStep now.turned.0 deed
  clean-step build stand turns clean ticket owner time deed may_turns at now = record {
    one = begun.one;
    among = begun.among;
    node_is = begun.node_is;
    changes_it = λ path given.
        subst (λ l. is_changed l path ≡ true) (sym begun.are)
        (changed_first path (steps_of j turns ++ deed ∷ []) begun.rest
        (changed_last path (steps_of j turns) (deed ∷ []) given));
  }
    where
      j : ℕ
      j = now.turned.0

      all : List CleanJob
      all = clean_build meaning plan (contents entry.files)

      may : MayTurns meaning plan (turn.first_build (contents entry.files)) (turns ++ turn.steps j deed ∷ [])
      may =
          may-append meaning work tasks (turn.first_build (contents entry.files)) turns
          (turn.steps j deed ∷ []) may_turns
          (subst (λ c. MayTurns meaning plan c (turn.steps j deed ∷ [])) (sym at)
          (subst (MayTurns meaning plan clean) now.turned.3 now.may))

      mine : steps_of j (turn.steps j deed ∷ []) ≡ deed ∷ []
      mine = rw (eq-eqb j j refl) refl

      told : steps_of j (turns ++ turn.steps j deed ∷ []) ≡ steps_of j turns ++ deed ∷ []
      told =
          steps_of-append j turns (turn.steps j deed ∷ []) ∙ ap (λ l. steps_of j turns ++ l) mine

      first : (steps_of j (turns ++ turn.steps j deed ∷ []) ≡ [])
          ⊎ AreFirstSteps all j (steps_of j (turns ++ turn.steps j deed ∷ []))
          → AreFirstSteps all j (steps_of j turns ++ deed ∷ [])
      first (inl none) = absurd (not-nil (steps_of j turns) deed (sym told ∙ none))
      first (inr are) = subst (AreFirstSteps all j) told are

      begun : AreFirstSteps all j (steps_of j turns ++ deed ∷ [])
      begun =
          first
          ((steps_clean meaning plan (contents entry.files) declared
          (are-well-made meaning work tasks (contents entry.files) well)
          (turns ++ turn.steps j deed ∷ []) may).begun j)

  -- so no step of another node's job changes the path of a node that is not decided yet
  target-stays : (done : List Item) (build : Build) (stand : Stand) (turns : List Turn)
      (clean : turn.Build) (ticket owner time : ℕ) (deed : Deed) → IsGood done build stand turns clean
      → Turning meaning work tasks build stand clean (steps ticket owner deed time) → (n : ℕ)
      → slice_get build.run.nodes n ≡ Some Undecided → has_job (node_at work.plan n) ≡ true
      → LeavesAlone (name n) (at_time time (changes_of deed))
  target-stays done build stand turns clean ticket owner time deed good now n undecided has =
      step-leaves time (name n) deed
      (λ given. clash (contains-any (changed_paths (deed ∷ [])) (name n) given))
    where
      all : List CleanJob
      all = clean_build meaning plan (contents entry.files)

      step : CleanStep now.turned.0 deed
      step = clean-step build stand turns clean ticket owner time deed good.may good.at now

      clash : is_changed (deed ∷ []) (name n) ≡ true → ⊥
      clash given =
          let within_n = (job-has work n (job-among work n has)).0 in
          by within_n (declared.changes step.one step.among (name n) (step.changes_it (name n) given))
        where
          by : n < length work.plan → IsOwn plan step.one (name n) ⊎ IsPrivate plan all step.one (name n) → ⊥
          by within_n (inl own) =
              let within = (job-has work step.one.node
              (clean-node meaning plan plan.order (cleared plan (contents entry.files)) step.one
              step.among)).0 in
              let same : step.one.node ≡ n =
              names-differ work well step.one.node n within within_n own.name in
              let opens : slice_get build.run.nodes n ≡ Some Open =
              subst (λ k. slice_get build.run.nodes k ≡ Some Open) (sym step.node_is ∙ same)
              now.turned.1.0 in
              let both : Some Open ≡ Some Undecided = sym opens ∙ undecided in
              absurd cc
          by within_n (inr private) = false≢true (sym private.no_node ∙ node-is work tasks n within_n)

  -- and none changes a meta file
  meta-stays : (done : List Item) (build : Build) (stand : Stand) (turns : List Turn)
      (clean : turn.Build) (ticket owner time : ℕ) (deed : Deed) → IsGood done build stand turns clean
      → Turning meaning work tasks build stand clean (steps ticket owner deed time) → (target : List ℕ)
      → LeavesAlone (meta_path target) (at_time time (changes_of deed))
  meta-stays done build stand turns clean ticket owner time deed good now target =
      step-leaves time (meta_path target) deed
      (λ given. clash (contains-any (changed_paths (deed ∷ [])) (meta_path target) given))
    where
      step : CleanStep now.turned.0 deed
      step = clean-step build stand turns clean ticket owner time deed good.may good.at now

      clash : is_changed (deed ∷ []) (meta_path target) ≡ true → ⊥
      clash given =
          false≢true
          (sym (declared.no_meta step.one step.among (meta_path target) (meta_path-is target))
          ∙ step.changes_it (meta_path target) given)

  -- the meta file of a node was looked at, and since then nothing but looks for it and steps has happened
  pub record ReadAt (n : ℕ) (done : List Item) (build : Build) (clean : turn.Build) : Type 0 where
    -- what had happened then
    pub front : List Item
    pub path : List ℕ
    pub bytes : Option (List ℕ)
    pub text : bytes ≡ contents (stand_after entry (happened_all front)).files path
    pub late : List Item
    pub cut : done ≡ front ++ late
    pub of : AllOf n late
    pub leave : AllLeave (meta_path (name n)) late
    pub stays : (stand_after entry (happened_all front)).files (meta_path (name n))
        ≡ entry.files (meta_path (name n))
    pub first : List Seen
    pub first_dated : AllSeen IsDated first
    pub seen_is : build.seen n ≡ first ++ read path bytes ∷ seen_in late
    pub looks_are : (other : List ℕ)
        → clean.looks n other ≡ first_look (stand_after entry (happened_all front)) late other
    pub may : run.MayDecide (rules_of work) build.run n
    pub free_now : build.duty ≡ free

  -- or it was not
  pub record NotRead (n : ℕ) (build : Build) (clean : turn.Build) : Type 0 where
    pub dated_all : AllSeen IsDated (build.seen n)
    pub none : (path : List ℕ) → clean.looks n path ≡ None

  abbrev pub SawTarget : ℕ → Stand → Seen → Type 0
  SawTarget n stand seen = path_of seen ≡ name n → SawWhen (when_of (stand.files (name n))) seen

  -- what was seen for a node: its own file stands as each look at it saw it
  pub record Deciding (n : ℕ) (done : List Item) (build : Build) (stand : Stand) (clean : turn.Build) : Type 0 where
    pub target : has_job (node_at work.plan n) ≡ true → AllSeen (SawTarget n stand) (build.seen n)
    pub meta_file : stand.files (meta_path (name n)) ≡ entry.files (meta_path (name n))
    pub phase : NotRead n build clean ⊎ ReadAt n done build clean

  abbrev pub EachDeciding : List Item → Build → Stand → turn.Build → Type 0
  EachDeciding done build stand clean =
      (n : ℕ) → slice_get build.run.nodes n ≡ Some Undecided → (build.duty ≡ begin n → ⊥)
      → (build.duty ≡ stop → ⊥) → Deciding n done build stand clean

  -- an item that is no look keeps it, where the meta file was not looked at
  kept-on : (n : ℕ) (done : List Item) (item : Item) (build later : Build) (stand then_stand : Stand)
      (clean then_clean : turn.Build) → later.seen n ≡ build.seen n
      → (has_job (node_at work.plan n) ≡ true → then_stand.files (name n) ≡ stand.files (name n))
      → then_stand.files (meta_path (name n)) ≡ stand.files (meta_path (name n))
      → then_clean.looks n ≡ clean.looks n → (ReadAt n done build clean → ⊥)
      → Deciding n done build stand clean → Deciding n (done ++ item ∷ []) later then_stand then_clean
  kept-on n done item build later stand then_stand clean then_clean seen files meta_same looks_same none deciding = record {
    target = λ has.
        subst (AllSeen (SawTarget n then_stand)) (sym seen)
        (subst (λ (f : Option Filed). AllSeen (λ s. path_of s ≡ name n → SawWhen (when_of f) s) (build.seen n))
        (sym (files has)) (deciding.target has));
    meta_file = meta_same ∙ deciding.meta_file;
    phase = by deciding.phase;
  }
    where
      by : NotRead n build clean ⊎ ReadAt n done build clean
          → NotRead n later then_clean ⊎ ReadAt n (done ++ item ∷ []) later then_clean
      by (inl not_read) = inl (record {
        dated_all = subst (AllSeen IsDated) (sym seen) not_read.dated_all;
        none = λ path. ap (λ l. l path) looks_same ∙ not_read.none path;
      })
      by (inr read_at) = absurd (none read_at)

  -- the node that may be decided is one
  only : (n m : ℕ) (build : Build) → may_decide (rules_of work) build.run.nodes ≡ Some n
      → may_decide (rules_of work) build.run.nodes ≡ Some m → n ≡ m
  only n m build first second = some-same n m (sym first ∙ second)

  -- a step
  stepped : (n : ℕ) (done : List Item) (build : Build) (stand : Stand) (clean : turn.Build)
      (ticket owner time : ℕ) (deed : Deed) (then_clean : turn.Build) → then_clean.looks ≡ clean.looks
      → (has_job (node_at work.plan n) ≡ true → LeavesAlone (name n) (at_time time (changes_of deed)))
      → LeavesAlone (meta_path (name n)) (at_time time (changes_of deed))
      → Deciding n done build stand clean
      → Deciding n (done ++ steps ticket owner deed time ∷ []) build
      (stand_after stand (happened (steps ticket owner deed time))) then_clean
  stepped n done build stand clean ticket owner time deed then_clean same leave leave_meta deciding = record {
    target = λ has.
        let files = left_alone (name n) stand.files (at_time time (changes_of deed)) (leave has) in
        subst (λ (f : Option Filed). AllSeen (λ s. path_of s ≡ name n → SawWhen (when_of f) s) (build.seen n))
        (sym files) (deciding.target has);
    meta_file = left_alone (meta_path (name n)) stand.files (at_time time (changes_of deed)) leave_meta
        ∙ deciding.meta_file;
    phase = by deciding.phase;
  }
    where
      item : Item
      item = steps ticket owner deed time

      by : NotRead n build clean ⊎ ReadAt n done build clean
          → NotRead n build then_clean ⊎ ReadAt n (done ++ item ∷ []) build then_clean
      by (inl not_read) = inl (record {
        dated_all = not_read.dated_all;
        none = λ path. ap (λ l. l n path) same ∙ not_read.none path;
      })
      by (inr at) = inr (record {
        front = at.front;
        path = at.path;
        bytes = at.bytes;
        text = at.text;
        late = at.late ++ item ∷ [];
        cut = ap (λ l. l ++ item ∷ []) at.cut ∙ append_assoc at.front at.late (item ∷ []);
        of = of-last n at.late item at.of tt;
        leave = leave-last (meta_path (name n)) at.late item at.leave leave_meta;
        stays = at.stays;
        first = at.first;
        first_dated = at.first_dated;
        seen_is = at.seen_is
            ∙ ap (λ l. at.first ++ read at.path at.bytes ∷ l)
            (sym (seen-last at.late item ∙ append-nil (seen_in at.late)));
        looks_are = λ path.
            ap (λ l. l n path) same
            ∙ (at.looks_are path
            ∙ sym (first-other (stand_after entry (happened_all at.front)) at.late item path refl));
        may = at.may;
        free_now = at.free_now;
      })

  -- a job whose meta file is to be written is over
  abbrev pub DueDone : Build → Type 0
  DueDone build =
      (m : ℕ) → IsDue build.duty m
      → (m < length work.plan) × (slice_get build.run.nodes m ≡ Some Undecided → ⊥)

  nodes-long : (done : List Item) (build : Build) (stand : Stand)
      → Past meaning work tasks entry idle done build stand
      → length build.run.nodes ≡ length work.plan
  nodes-long done build stand past =
      ap (λ (r : run.State). length r.nodes)
      (sym (ap (λ (b : Build). b.run) past.at) ∙ run-events work tasks (first_build work) done)
      ∙ (long-run (rules_of work) tasks (reported_all done) ∙ length-before work.plan)

  pub within-plan : (done : List Item) (build : Build) (stand : Stand)
      → Past meaning work tasks entry idle done build stand → (n : ℕ) → {stands : NodeState}
      → slice_get build.run.nodes n ≡ Some stands → n < length work.plan
  within-plan done build stand past n {stands} is =
      let less = slice_get_within build.run.nodes n stands is in
      let long = nodes-long done build stand past in
      omega (arith, less, long)

  -- the meta file of another node is not changed
  meta-other : (files : FileMap) (path bytes : List ℕ) (time m n : ℕ) → path ≡ meta_path (name m)
      → n ≢ m → m < length work.plan → n < length work.plan
      → (if bytes_eq path (meta_path (name n)) then filed (Some bytes) time
      else files (meta_path (name n)))
      ≡ files (meta_path (name n))
  meta-other files path bytes time m n path_is other within also =
      ap (λ b. if b then filed (Some bytes) time else files (meta_path (name n)))
      (false_from_ne_true (bytes_eq path (meta_path (name n)))
      (λ is.
      other (names-differ work well n m also within
      (append_cancel_right (name n) (name m) (codes ".meta")
      (sym ((bytes_eq-Decides path (meta_path (name n))).0 is) ∙ path_is)))))

  due-free : (duty : Duty) (m : ℕ) → duty ≡ free → IsDue duty m → ⊥
  due-free duty m is due = free-not m (subst (λ d. IsDue d m) is due)

  look-due : (duty : Duty) (m : ℕ) → IsDue (behind_look duty) m → IsDue duty m
  look-due free m (inl is) = absurd cc
  look-due free m (inr is) = absurd cc
  look-due (remove one) m (inl is) = absurd cc
  look-due (remove one) m (inr is) = absurd cc
  look-due (begin one) m (inl is) = absurd cc
  look-due (begin one) m (inr is) = absurd cc
  look-due (date one) m (inl is) = absurd cc
  look-due (date one) m (inr is) = inl cc
  look-due (close one) m (inl is) = absurd cc
  look-due (close one) m (inr is) = inr is
  look-due stop m (inl is) = absurd cc
  look-due stop m (inr is) = absurd cc

  pub due-on : (done : List Item) (build : Build) (stand : Stand) (turns : List Turn) (clean : turn.Build)
      (item : Item) → IsGood done build stand turns clean → DueDone build
      → Makes work tasks build (item ∷ []) → NoneLeft (item ∷ [])
      → DueDone (build_after work tasks build item)
  due-on done build stand turns clean (looks n seen) good due makes none m is =
      due m (look-due build.duty m is)
  due-on done build stand turns clean (keeps n) good due makes none m is =
      absurd (due-free build.duty m makes.1 is)
  due-on done build stand turns clean (refuses n number what) good due makes none m is =
      absurd (due-free build.duty m makes.1 is)
  due-on done build stand turns clean (starts n number ticket owner cmd) good due makes none m is =
      absurd (free-not m is)
  due-on done build stand turns clean (passes n number) good due makes none m is =
      let over = closing-due work n m (nat_le (length (tasks n)) number) is in
      let begun_run = run.start_line tasks build.run n number in
      let stops : (nat_le (length (tasks n)) number || is_stopped (rules_of work) begun_run.nodes) ≡ true =
      rw over.1 refl in
      let less = start-within (rules_of work) tasks build.run n number build.run.due good.steady makes.0.0 in
      let long = nodes-long done build stand good.past in
      let same = over.0 in (
        omega (arith, less, long, same),
        subst (λ k. slice_get (build_after work tasks build (passes n number)).run.nodes k ≡ Some Undecided → ⊥)
            (sym same)
            (ended-shut begun_run n number false _ refl stops).decided,
      )
  due-on done build stand turns clean waits good due makes none m is =
      absurd (due-free build.duty m makes.1 is)
  due-on done build stand turns clean (steps ticket owner deed time) good due makes none m is = due m is
  due-on done build stand turns clean (ends n number owner ended) good due makes none m is =
      let fails = run.fails (run.line_of (tasks n) number) ended.status in
      let over = end-due work n m fails (nat_le (length (tasks n)) number) is in
      let stops : (nat_le (length (tasks n)) number || is_stopped (rules_of work) build.run.nodes) ≡ true =
      rw over.2 refl in
      let taken = taken-due build.run n number ended.status build.run.due good.free_due makes.0.0 in
      let less = within-plan done build stand good.past n taken.1 in
      let same = over.0 in (
        omega (arith, less, same),
        subst (λ k. slice_get (build_after work tasks build (ends n number owner ended)).run.nodes k
            ≡ Some Undecided → ⊥) (sym same)
            (ended-shut build.run n number fails _ over.1 stops).decided,
      )
  due-on done build stand turns clean (changes n (gone path time)) good due makes none m is =
      absurd (free-not m is)
  due-on done build stand turns clean (changes n (head path bytes time)) good due makes none m is =
      absurd (begin-not n m is)
  due-on done build stand turns clean (changes n (whole path bytes time)) good due makes none m is =
      absurd (free-not m is)
  due-on done build stand turns clean (changes n (cut_head path part time)) good due makes none m is =
      absurd (stop-not m is)
  due-on done build stand turns clean (changes n (cut_whole path part time)) good due makes none m is =
      absurd (stop-not m is)
  due-on done build stand turns clean (leaves ticket owner) good due makes none m is = absurd none

  -- behind each item but a look

  pub decided-on : (done : List Item) (build : Build) (stand : Stand) (turns : List Turn) (clean : turn.Build)
      (item : Item) → IsGood done build stand turns clean → EachDeciding done build stand clean
      → DueDone build → Makes work tasks build (item ∷ []) → NoneLeft (item ∷ [])
      → ((n : ℕ) (seen : Seen) → item ≡ looks n seen → ⊥)
      → (now : Turning meaning work tasks build stand clean item)
      → EachDeciding (done ++ item ∷ []) (build_after work tasks build item)
      (stand_after stand (happened item)) (after_turns plan clean now.now)
  decided-on done build stand turns clean (looks m seen) good each due makes none other now n undecided no_begin no_stop =
      absurd (other m seen refl)
  decided-on done build stand turns clean (keeps m) good each due makes none other now n undecided no_begin no_stop =
      let back = set-back build.run.nodes m n Settled (λ same. absurd cc) undecided in
      kept-on n done (keeps m) build (build_after work tasks build (keeps m)) stand stand clean _ refl
      (λ has. refl) refl (ap (λ l. l n) (now.looks other))
      (λ at. back.0 (only n m build at.may.1 makes.0.0.1)) (each n back.1 no_begin no_stop)
  decided-on done build stand turns clean (refuses m number what) good each due makes none other now n undecided no_begin no_stop =
      let back = set-back build.run.nodes m n Failed (λ same. absurd cc) undecided in
      kept-on n done (refuses m number what) build (build_after work tasks build (refuses m number what)) stand
      stand clean _ refl (λ has. refl) refl (ap (λ l. l n) (now.looks other))
      (λ at. back.0 (only n m build at.may.1 makes.0.0.1)) (each n back.1 no_begin no_stop)
  decided-on done build stand turns clean (starts m number ticket owner cmd) good each due makes none other now n undecided no_begin no_stop =
      let back = set-back build.run.nodes m n Open (λ same. absurd cc) undecided in
      let opens = (number == 1) && has_meta work m in
      kept-on n done (starts m number ticket owner cmd) build _ stand _ clean _ refl
      (λ has. refl) refl (ap (λ l. l n) (now.looks other))
      (λ at. back.0 (only n m build at.may.1
      (start-decides work tasks build.run m number build.run.due at.may.0 makes.0.0)))
      (each n back.1 (λ is. back.0 (opening-begins m n opens (sym makes.1 ∙ is)))
      (λ is. opening-stop m opens (sym makes.1 ∙ is)))
  decided-on done build stand turns clean (passes m number) good each due makes none other now n undecided no_begin no_stop =
      let begun_run = run.start_line tasks build.run m number in
      let stops = nat_le (length (tasks m)) number || is_stopped (rules_of work) begun_run.nodes in
      let back = set-back build.run.nodes m n Open (λ same. absurd cc)
      (ended-back begun_run m number n false stops undecided) in
      let opens = (number == 1) && has_meta work m in
      kept-on n done (passes m number) build _ stand stand clean _ refl
      (λ has. refl) refl (ap (λ l. l n) (now.looks other))
      (λ at. back.0 (only n m build at.may.1
      (start-decides work tasks build.run m number build.run.due at.may.0 makes.0.0)))
      (each n back.1 (λ is. back.0 (opening-begins m n opens (sym makes.1 ∙ is)))
      (λ is. opening-stop m opens (sym makes.1 ∙ is)))
  decided-on done build stand turns clean waits good each due makes none other now n undecided no_begin no_stop =
      kept-on n done waits build _ stand stand clean _ refl (λ has. refl) refl
      (ap (λ l. l n) (now.looks other))
      (λ at. let both : Some n ≡ None = sym at.may.1 ∙ makes.0.0.1 in absurd cc)
      (each n undecided no_begin no_stop)
  decided-on done build stand turns clean (steps ticket owner deed time) good each due makes none other now n undecided no_begin no_stop =
      stepped n done build stand clean ticket owner time deed _ (now.looks other)
      (λ has. target-stays done build stand turns clean ticket owner time deed good now n undecided has)
      (meta-stays done build stand turns clean ticket owner time deed good now (name n))
      (each n undecided no_begin no_stop)
  decided-on done build stand turns clean (ends m number owner ended) good each due makes none other now n undecided no_begin no_stop =
      let fails = run.fails (run.line_of (tasks m) number) ended.status in
      let stops = nat_le (length (tasks m)) number || is_stopped (rules_of work) build.run.nodes in
      let due = taken-due build.run m number ended.status build.run.due good.free_due makes.0.0 in
      kept-on n done (ends m number owner ended) build _ stand _ clean _ refl (λ has. refl) refl
      (ap (λ l. l n) (now.looks other))
      (λ at. let both : run.anything ≡ run.child = sym at.may.0 ∙ due.0 in absurd cc)
      (each n (ended-back build.run m number n fails stops undecided)
      (λ is. let both : free ≡ begin n = sym makes.1 ∙ is in absurd cc)
      (λ is. let both : free ≡ stop = sym makes.1 ∙ is in absurd cc))
  decided-on done build stand turns clean (changes m (gone path time)) good each due makes none other now n undecided no_begin no_stop =
      let removing = good.removing m makes.1 in
      let apart : n ≢ m = λ same.
      let both : Some Undecided ≡ Some Failed =
      sym undecided ∙ (ap (slice_get build.run.nodes) same ∙ removing.shut) in absurd cc in
      let within = within-plan done build stand good.past m removing.shut in
      let also = within-plan done build stand good.past n undecided in
      let job = makes-job (node_at work.plan m) removing.makes in
      kept-on n done (changes m (gone path time)) build _ stand _ clean _ refl
      (λ has.
      gone-elsewhere stand.files path (name n) time
      (λ same. apart (sym (names-differ work well m n within also (sym makes.2 ∙ same)))))
      (gone-elsewhere stand.files path (meta_path (name n)) time
      (λ same.
      false≢true (sym (no_meta m job) ∙ (ap is_meta_path (sym makes.2 ∙ same) ∙ meta_path-is (name n)))))
      (ap (λ l. l n) (now.looks other))
      (λ at. let both : remove m ≡ free = sym makes.1 ∙ at.free_now in absurd cc)
      (each n undecided
      (λ is. let both : remove m ≡ begin n = sym makes.1 ∙ is in absurd cc)
      (λ is. let both : remove m ≡ stop = sym makes.1 ∙ is in absurd cc))
  decided-on done build stand turns clean (changes m (head path bytes time)) good each due makes none other now n undecided no_begin no_stop =
      kept-on n done (changes m (head path bytes time)) build _ stand _ clean _ refl
      (λ has.
      put-elsewhere stand.files path (name n) bytes time
      (ap is_meta_path makes.2.0.path_is ∙ meta_path-is (name m)) (no_meta n has))
      (meta-other stand.files path bytes time m n makes.2.0.path_is
      (λ same. no_begin (ap begin (sym same)))
      (within-plan done build stand good.past m
      (may-undecided (rules_of work) build.run.nodes m makes.2.0.may.1))
      (within-plan done build stand good.past n undecided))
      (ap (λ l. l n) (now.looks other))
      (λ at. no_begin (ap begin (sym (only n m build at.may.1 makes.2.0.may.1))))
      (each n undecided
      (λ is. let both : free ≡ begin n = sym makes.1 ∙ is in absurd cc)
      (λ is. let both : free ≡ stop = sym makes.1 ∙ is in absurd cc))
  decided-on done build stand turns clean (changes m (whole path bytes time)) good each due makes none other now n undecided no_begin no_stop =
      kept-on n done (changes m (whole path bytes time)) build _ stand _ clean _ refl
      (λ has.
      put-elsewhere stand.files path (name n) bytes time
      (ap is_meta_path makes.2.0.path_is ∙ meta_path-is (name m)) (no_meta n has))
      (meta-other stand.files path bytes time m n makes.2.0.path_is
      (λ same.
      (due m (inr makes.1)).1 (subst (λ k. slice_get build.run.nodes k ≡ Some Undecided) same undecided))
      (due m (inr makes.1)).0 (within-plan done build stand good.past n undecided))
      (ap (λ l. l n) (now.looks other))
      (λ at. let both : close m ≡ free = sym makes.1 ∙ at.free_now in absurd cc)
      (each n undecided
      (λ is. let both : close m ≡ begin n = sym makes.1 ∙ is in absurd cc)
      (λ is. let both : close m ≡ stop = sym makes.1 ∙ is in absurd cc))
  decided-on done build stand turns clean (changes m (cut_head path part time)) good each due makes none other now n undecided no_begin no_stop =
      absurd (no_stop refl)
  decided-on done build stand turns clean (changes m (cut_whole path part time)) good each due makes none other now n undecided no_begin no_stop =
      absurd (no_stop refl)
  decided-on done build stand turns clean (leaves ticket owner) good each due makes none other now n undecided no_begin no_stop =
      absurd none

  -- behind a look

  look-kind : (duty : Duty) (m : ℕ) (seen : Seen) → MayLook work duty m seen
      → (duty ≡ free) ⊎ (IsDated seen × (k : ℕ) × (duty ≡ date k))
  look-kind free m seen may = inl refl
  look-kind (remove one) m seen may = absurd may
  look-kind (begin one) m seen may = absurd may
  look-kind (date one) m seen may = inr (subst IsDated (sym may.1.1) tt, one, refl)
  look-kind (close one) m seen may = absurd may
  look-kind stop m seen may = absurd may

  with-own : (m : ℕ) (path : List ℕ) (stands : Option (List ℕ)) (all : ℕ → Over) (other : List ℕ)
      → with_look m path stands all m other ≡ (if bytes_eq path other then Some stands else all m other)
  with-own m path stands all other = rw (eq-eqb m m refl) refl

  with-other : (m n : ℕ) (path : List ℕ) (stands : Option (List ℕ)) (all : ℕ → Over) → n ≢ m
      → with_look m path stands all n ≡ all n
  with-other m n path stands all other = rw (ne_eqb m n (λ same. other (sym same))) refl

  -- how things stand, by what happened since a moment
  pub since : (front late done : List Item) (build : Build) (stand : Stand)
      → Past meaning work tasks entry idle done build stand → done ≡ front ++ late
      → stand ≡ stand_after (stand_after entry (happened_all front)) (happened_all late)
  since front late done build stand past cut =
      sym past.stand_at
      ∙ (ap (λ l. stand_after entry (happened_all l)) cut
      ∙ (ap (stand_after entry) (happened_all-append front late)
      ∙ after_all-append entry (happened_all front) (happened_all late)))

  abbrev LookNext : List Item → Build → Stand → turn.Build → ℕ → Seen → Type 0
  LookNext done build stand clean m seen =
      (now : Turning meaning work tasks build stand clean (looks m seen))
      × EachDeciding (done ++ looks m seen ∷ []) (build_after work tasks build (looks m seen))
      (stand_after stand (happened (looks m seen))) (after_turns plan clean now.now)

  own-seen : (m : ℕ) (seen : Seen) (build : Build)
      → (build_after work tasks build (looks m seen)).seen m ≡ build.seen m ++ seen ∷ []
  own-seen m seen build = rw (eq-eqb m m refl) refl

  other-seen : (m n : ℕ) (seen : Seen) (build : Build) → n ≢ m
      → (build_after work tasks build (looks m seen)).seen n ≡ build.seen n
  other-seen m n seen build other = rw (ne_eqb n m other) refl

  target-more : (done : List Item) (build : Build) (stand : Stand) (clean : turn.Build) (m : ℕ) (seen : Seen)
      → IsSeenIn stand seen → Deciding m done build stand clean
      → has_job (node_at work.plan m) ≡ true
      → AllSeen (SawTarget m (stand_after stand (happened (looks m seen))))
      ((build_after work tasks build (looks m seen)).seen m)
  target-more done build stand clean m seen fits deciding has =
      subst (AllSeen (SawTarget m (stand_after stand (happened (looks m seen))))) (sym (own-seen m seen build))
      (all-more (SawTarget m stand) (build.seen m) (seen ∷ []) (deciding.target has)
      ((λ same. saw-when stand seen (name m) fits same), tt))

  -- of other nodes
  look-others : (done : List Item) (build : Build) (stand : Stand) (clean then_clean : turn.Build) (m n : ℕ)
      (seen : Seen) → n ≢ m → then_clean.looks n ≡ clean.looks n
      → (ReadAt n done build clean → ⊥) → Deciding n done build stand clean
      → Deciding n (done ++ looks m seen ∷ []) (build_after work tasks build (looks m seen))
      (stand_after stand (happened (looks m seen))) then_clean
  look-others done build stand clean then_clean m n seen other same none deciding =
      kept-on n done (looks m seen) build _ stand _ clean then_clean (other-seen m n seen build other)
      (λ has. refl) refl same none deciding

  -- a look of the node itself, before its meta file is looked at
  look-dated : (done : List Item) (build : Build) (stand : Stand) (clean : turn.Build) (m : ℕ) (seen : Seen)
      → IsDated seen → NotRead m build clean
      → NotRead m (build_after work tasks build (looks m seen)) clean
  look-dated done build stand clean m seen is not_read = record {
    dated_all = subst (AllSeen IsDated) (sym (own-seen m seen build))
        (all-more IsDated (build.seen m) (seen ∷ []) not_read.dated_all (is, tt));
    none = not_read.none;
  }

  look-read : (done : List Item) (build : Build) (stand : Stand) (clean : turn.Build) (m : ℕ)
      (path : List ℕ) (bytes : Option (List ℕ)) → Past meaning work tasks entry idle done build stand
      → bytes ≡ contents stand.files path
      → stand.files (meta_path (name m)) ≡ entry.files (meta_path (name m)) → NotRead m build clean
      → run.MayDecide (rules_of work) build.run m → build.duty ≡ free
      → ReadAt m (done ++ looks m (read path bytes) ∷ [])
      (build_after work tasks build (looks m (read path bytes))) clean
  look-read done build stand clean m path bytes past fits meta_file not_read may duty =
      let item = looks m (read path bytes) in
      let stands : stand_after entry (happened_all (done ++ item ∷ [])) ≡ stand_after stand (happened item) =
      ap (stand_after entry) (happened_all-append done (item ∷ []))
      ∙ (after_all-append entry (happened_all done) (happened_all (item ∷ []))
      ∙ ap (λ s. stand_after s (happened item)) past.stand_at) in
      record {
        front = done ++ item ∷ [];
        path = path;
        bytes = bytes;
        text = fits ∙ ap (λ (s : Stand). contents s.files path) (sym stands);
        late = [];
        cut = sym (append-nil (done ++ item ∷ []));
        of = tt;
        leave = tt;
        stays = ap (λ (s : Stand). s.files (meta_path (name m))) stands ∙ meta_file;
        first = build.seen m;
        first_dated = not_read.dated_all;
        seen_is = own-seen m (read path bytes) build;
        looks_are = not_read.none;
        may = may;
        free_now = ap behind_look duty;
      }

  -- and behind it: the first look at a path counts
  look-more : (done : List Item) (build : Build) (clean then_clean : turn.Build) (m : ℕ) (seen : Seen)
      → (at : ReadAt m done build clean)
      → ((other : List ℕ) → then_clean.looks m other
      ≡ first_look (stand_after entry (happened_all at.front)) (at.late ++ looks m seen ∷ []) other)
      → ReadAt m (done ++ looks m seen ∷ []) (build_after work tasks build (looks m seen)) then_clean
  look-more done build clean then_clean m seen at looks_then =
      let item = looks m seen in
      record {
        front = at.front;
        path = at.path;
        bytes = at.bytes;
        text = at.text;
        late = at.late ++ item ∷ [];
        cut = ap (λ l. l ++ item ∷ []) at.cut ∙ append_assoc at.front at.late (item ∷ []);
        of = of-last m at.late item at.of refl;
        leave = leave-last (meta_path (name m)) at.late item at.leave tt;
        stays = at.stays;
        first = at.first;
        first_dated = at.first_dated;
        seen_is = own-seen m seen build
            ∙ (ap (λ l. l ++ seen ∷ []) at.seen_is
            ∙ (append_assoc at.first (read at.path at.bytes ∷ seen_in at.late) (seen ∷ [])
            ∙ ap (λ l. at.first ++ read at.path at.bytes ∷ l) (sym (seen-last at.late item))));
        looks_are = looks_then;
        may = at.may;
        free_now = ap behind_look at.free_now;
      }

  pub look-next : (done : List Item) (build : Build) (stand : Stand) (turns : List Turn) (clean : turn.Build)
      (m : ℕ) (seen : Seen) → IsGood done build stand turns clean → EachDeciding done build stand clean
      → Makes work tasks build (looks m seen ∷ []) → IsSeenIn stand seen
      → LookNext done build stand clean m seen
  look-next done build stand turns clean m seen good each makes fits = by (look-kind build.duty m seen makes.1)
    where
      -- the look counts where it is the first at its path
      behind-read : (duty : build.duty ≡ free) → run.MayDecide (rules_of work) build.run m
          → Deciding m done build stand clean → (at : ReadAt m done build clean) → (looked : Bool)
          → is_looked (path_of seen) at.late ≡ looked → LookNext done build stand clean m seen
      behind-read duty may deciding at true is = (
        look-passed meaning work tasks build stand clean m seen good.files good.nodes,
        each-node m _
            (λ undecided no_begin no_stop. record {
              target = target-more done build stand clean m seen fits deciding;
              meta_file = deciding.meta_file;
              phase = inr (look-more done build clean clean m seen at
                  (λ other. at.looks_are other ∙ sym (same other (bytes_eq (path_of seen) other) refl)));
            })
            (λ n other undecided no_begin no_stop.
            look-others done build stand clean clean m n seen other refl
            (λ read_at. other (only n m build read_at.may.1 may.1))
            (each n undecided (λ given. let both : free ≡ begin n = sym duty ∙ given in absurd cc)
            (λ given. let both : free ≡ stop = sym duty ∙ given in absurd cc))),
      )
        where
          same : (other : List ℕ) (b : Bool) → bytes_eq (path_of seen) other ≡ b
              → first_look (stand_after entry (happened_all at.front)) (at.late ++ looks m seen ∷ []) other
              ≡ first_look (stand_after entry (happened_all at.front)) at.late other
          same other true here =
              first-before (stand_after entry (happened_all at.front)) at.late (looks m seen) other
              (subst (λ p. is_looked p at.late ≡ true) ((bytes_eq-Decides (path_of seen) other).0 here) is)
          same other false here =
              first-other (stand_after entry (happened_all at.front)) at.late (looks m seen) other here
      behind-read duty may deciding at false is = (
        look-taken meaning work tasks build stand clean m seen good.files good.nodes
            (waits-ready meaning work tasks entry idle well done build stand turns clean good m may)
            (sources-ready meaning work tasks entry idle well done build stand turns clean good m may),
        each-node m _
            (λ undecided no_begin no_stop. record {
              target = target-more done build stand clean m seen fits deciding;
              meta_file = deciding.meta_file;
              phase = inr (look-more done build clean _ m seen at
                  (λ other.
                  with-own m (path_of seen) (clean.files (path_of seen)) clean.looks other
                  ∙ counts other (bytes_eq (path_of seen) other) refl));
            })
            (λ n other undecided no_begin no_stop.
            look-others done build stand clean _ m n seen other
            (with-other m n (path_of seen) (clean.files (path_of seen)) clean.looks other)
            (λ read_at. other (only n m build read_at.may.1 may.1))
            (each n undecided (λ given. let both : free ≡ begin n = sym duty ∙ given in absurd cc)
            (λ given. let both : free ≡ stop = sym duty ∙ given in absurd cc))),
      )
        where
          counts : (other : List ℕ) (b : Bool) → bytes_eq (path_of seen) other ≡ b
              → (if b then Some (clean.files (path_of seen)) else clean.looks m other)
              ≡ first_look (stand_after entry (happened_all at.front)) (at.late ++ looks m seen ∷ []) other
          counts other true here =
              let path_is = (bytes_eq-Decides (path_of seen) other).0 here in
              let stands = since at.front at.late done build stand good.past at.cut in
              ap Some (ap clean.files path_is
              ∙ (ap (λ f. f other) (sym good.files) ∙ ap (λ (s : Stand). contents s.files other) stands))
              ∙ sym (first-now (stand_after entry (happened_all at.front)) at.late (looks m seen) other
              (subst (λ p. is_looked p at.late ≡ false) path_is is) here)
          counts other false here =
              at.looks_are other
              ∙ sym (first-other (stand_after entry (happened_all at.front)) at.late (looks m seen) other here)

      first-look-at : (duty : build.duty ≡ free) → run.MayDecide (rules_of work) build.run m
          → Deciding m done build stand clean → (one : Seen) → one ≡ seen → IsSeenIn stand one
          → NotRead m build clean
          → NotRead m (build_after work tasks build (looks m one)) clean
          ⊎ ReadAt m (done ++ looks m one ∷ []) (build_after work tasks build (looks m one)) clean
      first-look-at duty may deciding (dated one) is fit not_read =
          inl (look-dated done build stand clean m (dated one) tt not_read)
      first-look-at duty may deciding (read path bytes) is fit not_read =
          inr (look-read done build stand clean m path bytes good.past fit deciding.meta_file not_read may duty)

      in-phase : (duty : build.duty ≡ free) → run.MayDecide (rules_of work) build.run m
          → Deciding m done build stand clean
          → NotRead m build clean ⊎ ReadAt m done build clean → LookNext done build stand clean m seen
      in-phase duty may deciding (inl not_read) = (
        look-passed meaning work tasks build stand clean m seen good.files good.nodes,
        each-node m _
            (λ undecided no_begin no_stop. record {
              target = target-more done build stand clean m seen fits deciding;
              meta_file = deciding.meta_file;
              phase = first-look-at duty may deciding seen refl fits not_read;
            })
            (λ n other undecided no_begin no_stop.
            look-others done build stand clean clean m n seen other refl
            (λ read_at. other (only n m build read_at.may.1 may.1))
            (each n undecided (λ given. let both : free ≡ begin n = sym duty ∙ given in absurd cc)
            (λ given. let both : free ≡ stop = sym duty ∙ given in absurd cc))),
      )
      in-phase duty may deciding (inr at) =
          behind-read duty may deciding at (is_looked (path_of seen) at.late) refl

      by : (build.duty ≡ free) ⊎ (IsDated seen × (k : ℕ) × (build.duty ≡ date k))
          → LookNext done build stand clean m seen
      by (inl duty) =
          let may = makes.2 duty in
          let deciding = each m (may-undecided (rules_of work) build.run.nodes m may.1)
          (λ given. let both : free ≡ begin m = sym duty ∙ given in absurd cc)
          (λ given. let both : free ≡ stop = sym duty ∙ given in absurd cc) in
          in-phase duty may deciding deciding.phase
      by (inr late_look) = (
        look-passed meaning work tasks build stand clean m seen good.files good.nodes,
        each-node m _
            (λ undecided no_begin no_stop.
            let deciding = each m undecided
            (λ given. let both : date late_look.1 ≡ begin m = sym late_look.2 ∙ given in absurd cc)
            (λ given. let both : date late_look.1 ≡ stop = sym late_look.2 ∙ given in absurd cc) in
            record {
              target = target-more done build stand clean m seen fits deciding;
              meta_file = deciding.meta_file;
              phase = dated_phase deciding.phase;
            })
            (λ n other undecided no_begin no_stop.
            look-others done build stand clean clean m n seen other refl
            (λ read_at. let both : date late_look.1 ≡ free = sym late_look.2 ∙ read_at.free_now in absurd cc)
            (each n undecided
            (λ given. let both : date late_look.1 ≡ begin n = sym late_look.2 ∙ given in absurd cc)
            (λ given. let both : date late_look.1 ≡ stop = sym late_look.2 ∙ given in absurd cc))),
      )
        where
          dated_phase : NotRead m build clean ⊎ ReadAt m done build clean
              → NotRead m (build_after work tasks build (looks m seen)) clean
              ⊎ ReadAt m (done ++ looks m seen ∷ []) (build_after work tasks build (looks m seen)) clean
          dated_phase (inl not_read) = inl (look-dated done build stand clean m seen late_look.0 not_read)
          dated_phase (inr at) =
              let both : date late_look.1 ≡ free = sym late_look.2 ∙ at.free_now in absurd cc

  pub deciding-first : EachDeciding [] (first_build work) entry (turn.first_build (contents entry.files))
  deciding-first n undecided no_begin no_stop = record {
    target = λ has. tt;
    meta_file = refl;
    phase = inl (record { dated_all = tt; none = λ path. refl });
  }
