-- The nodes that a dry run shows are those that are explained.
use Rattle.std.proofs.Common.{◌≡◌, ◌≢◌, ◌∙◌, ◌⊎◌, ℕ, suc, ◌+◌, ◌<◌, ◌≤◌, ◌==◌, ◌&&◌, ◌||◌, not, nat_le, nat_lt, nat_eq, List, [], ◌∷◌, ◌++◌, length, map, get_or, set, IsTrue, Bool, true, false, Option, Some, None, Result, Ok, if◌then◌else◌}
use Rattle.std.proofs.Common.{inl, inr, refl, sym, ap, ap₂, subst, arith, eq-eqb, ne_eqb}
use Rattle.std.proofs.lemmas.Bool.{cases_eq, false≢true, ltb-true, ltb-false}
use Rattle.std.proofs.lemmas.Bool.Decides.{nat_tests}
use Rattle.std.proofs.lemmas.Grind.{common_steps}
use Rattle.std.proofs.lemmas.List.{get_or-set_same, get_or-set_other, set-set}
use Rattle.mk_decision.specs.Decisions.{IsBegun, IsJudged, IsKept, Sight, Work}
use Rattle.mk_dry.proofs.NodeLemmas.{gone-decided, gone-first, may-decide, none-may-decide, stand-behind}
use Rattle.mk_dry.specs.DryRuns.{IsDryRun, IsOver}
use Rattle.mk_dry.specs.Items.{DryItem, announces, does, dry_line, dry_tasks, in_build_all, reported_all, shows}
use Rattle.mk_dry.specs.Progress.{IsGoneThrough, is_ready}
use Rattle.mk_dry.specs.Runs.{Dry, Makes, MayShow, dry_after, dry_after_all, first_dry, rules_of, with_shown, work_after}
use Rattle.mk_explain.specs.Turns.{AreTurns, IsAnswered, IsExplained, IsQuiet, IsTold, IsTurn, Turn, behind, looks_of, quiet, reasons_of, tells}
use Rattle.mk_explain.specs.declared.reason.Reason.{Reason}
use Rattle.mk_values.specs.declared.facts.Asked.{Asked}
use Rattle.mk_flags.specs.declared.Flags.{Flags}
use Rattle.mk_graph.specs.Walks.{is_among, preds_of}
use Rattle.mk_oodate.specs.declared.reason.Why.{Why}
use Rattle.mk_plan.specs.Asking.{as_asked}
use Rattle.mk_plan.specs.AsNew.{as_new}
use Rattle.mk_plan.specs.Deciding.{Rules, all_settled, is_stopped, may_decide}
use Rattle.mk_plan.specs.Plans.{are_ordered, node_at}
use Rattle.mk_plan.specs.Tasks.{lines_from, task_with}
use Rattle.mk_plan.specs.declared.fault.TaskFault.{TaskFault}
use Rattle.mk_plan.specs.declared.plan.NodeState.{NodeState}
use Rattle.mk_plan.specs.declared.plan.NodeState.TheVariants.{Undecided, Open, Settled, Failed}
use Rattle.mk_plan.specs.declared.plan.PlanNode.{PlanNode}
use Rattle.mk_sched.specs.Schedule.{none_decided, predecessors}
use Rattle.mk_trace.specs.Builds.{Moment, event_of}
use Rattle.mk_trace.specs.Items.{FitsAll, happened_all, looks, keeps, refuses, starts, passes, waits, steps, ends, changes, leaves, Happened, IsEndOf, IsSeenIn}
use Rattle.mk_trace.specs.Runs as run
use Rattle.mk_trace.specs.declared.result.BuildResult.TheVariants as ended
use Rattle.mk_trace.specs.declared.event.Event.TheVariants.{Start, End}
use Rattle.mk_world.specs.Calls.{when_of}
use Rattle.mk_world.specs.History.{FileMap, MayAll, MayLeave, MayStep, State, child_in, contents, state_of}
use Rattle.mk_world.specs.Looks.{Seen, dated, read}
use Rattle.mk_world.specs.Talks.{Meaning}
use Rattle.mk_world.specs.Told.{Told}
use Rattle.mk_world.specs.declared.command.Task.{Task}
use Rattle.mk_world.specs.declared.command.TaskLine.{TaskLine}
use Rattle.mk_world.specs.declared.history.History.{History}
use Rattle.mk_world.specs.declared.step.Deed.{Deed}
use Rattle.mk_world.specs.declared.step.Ended.{Ended}
use Rattle.mk_same.proofs.ExplainedLemmas.{looks-first, reasons_in, seen_in}
use Rattle.mk_same.proofs.JudgedLemmas.{judged-same}
use Rattle.mk_same.specs.Judged.{AreAnswered}
use Rattle.mk_same.specs.Shown.{NoneAlways, SayTheSame, ShownAreExplained, shown_nodes, under}

-- which node may be decided

all-ready : (nodes : List NodeState) (k : ℕ) (before : List ℕ)
    → ((one : ℕ) → is_among before one ≡ true → one < k)
    → ((one : ℕ) → one < k → get_or nodes one Undecided ≡ Settled) → all_settled nodes before ≡ true
all-ready nodes k [] less settled = refl
all-ready nodes k (first ∷ before) less settled =
    let here : get_or nodes first Undecided ≡ Settled = settled first (less first (among-first first before)) in
    rw (
      here,
      all-ready nodes k before (λ one among. less one (among-later first before one among)) settled,
    ) refl
  where
    among-first : (one : ℕ) (more : List ℕ) → is_among (one ∷ more) one ≡ true
    among-first one more = rw (eq-eqb one one refl) refl

    or-right : (a b : Bool) → b ≡ true → (a || b) ≡ true
    or-right true b is = refl
    or-right false b is = is

    among-later : (first : ℕ) (more : List ℕ) (one : ℕ) → is_among more one ≡ true
        → is_among (first ∷ more) one ≡ true
    among-later first more one among = or-right (nat_eq one first) (is_among more one) among

-- all nodes before this one are settled, and none behind it is decided
record IsFront (rules : Rules) (k : ℕ) (nodes : List NodeState) : Type 0 where
  gone : IsGoneThrough rules nodes None k
  settled : (one : ℕ) → one < k → get_or nodes one Undecided ≡ Settled

module _ (rules : Rules) where
  unstopped : (k : ℕ) (nodes : List NodeState) → IsFront rules k nodes → is_stopped rules nodes ≡ false
  unstopped k nodes front = rw front.gone.failed (both (not rules.keep_going))
    where
      both : (b : Bool) → (b && false) ≡ false
      both true = refl
      both false = refl

  ready-now : (k : ℕ) (nodes : List NodeState) → IsFront rules k nodes → k < length nodes
      → may_decide rules nodes ≡ Some k
  ready-now k nodes front within =
      let fresh : get_or nodes k Failed ≡ Undecided = front.gone.fresh k (omega arith) within in
      let ready : is_ready rules nodes k ≡ true =
      rw (fresh, all-ready nodes k (preds_of rules.before k) (front.gone.ordered k) front.settled) refl in
      may-decide rules nodes None k front.gone within ready (unstopped k nodes front)

  which : (k node : ℕ) (nodes : List NodeState) → IsFront rules k nodes → may_decide rules nodes ≡ Some node
      → (node ≡ k) × (k < length nodes)
  which k node nodes front may = by (nat_lt k (length nodes)) refl
    where
      by : (b : Bool) → nat_lt k (length nodes) ≡ b → (node ≡ k) × (k < length nodes)
      by true less =
          let within = ltb-true k (length nodes) less in
          let is = ready-now k nodes front within in (cc, within)
      by false less =
          let all = ltb-false k (length nodes) less in
          let none = none-may-decide rules nodes None k front.gone (inl all) in absurd cc

  behind-all : (k : ℕ) (nodes : List NodeState) → IsFront rules k nodes → may_decide rules nodes ≡ None
      → length nodes ≤ k
  behind-all k nodes front none = by (nat_lt k (length nodes)) refl
    where
      by : (b : Bool) → nat_lt k (length nodes) ≡ b → length nodes ≤ k
      by true less =
          let is = ready-now k nodes front (ltb-true k (length nodes) less) in absurd cc
      by false less = ltb-false k (length nodes) less

  front-next : (k : ℕ) (nodes : List NodeState) → IsFront rules k nodes → k < length nodes
      → IsFront rules (k + 1) (set nodes k Settled)
  front-next k nodes front within = record {
    gone = gone-decided rules nodes None None k Settled front.gone within refl;
    settled = λ one less. at one less (cases_eq one k);
  }
    where
      lower : (one : ℕ) → one < k + 1 → one ≢ k → one < k
      lower one less other = grind (arith, nat_tests, common_steps)

      at : (one : ℕ) → one < k + 1 → (one ≡ k) ⊎ (one ≢ k)
          → get_or (set nodes k Settled) one Undecided ≡ Settled
      at one less (inl same) =
          ap (λ n. get_or (set nodes k Settled) n Undecided) same
          ∙ get_or-set_same nodes k Settled Undecided within
      at one less (inr other) =
          get_or-set_other nodes k one Settled Undecided other
          ∙ front.settled one (lower one less other)

first-decided : (plan : List PlanNode) → map (λ (before : List ℕ). Undecided) (predecessors plan) ≡ none_decided plan
first-decided [] = refl
first-decided (node ∷ plan) = ap (λ l. Undecided ∷ l) (first-decided plan)

as-many : (plan : List PlanNode) → length (predecessors plan) ≡ length plan
as-many [] = refl
as-many (node ∷ plan) = ap suc (as-many plan)

-- a task without commands has no lines

of-none : {E : Type 0} (one other : Task × List Asked) → ◌≡◌ {A = Result (Task × List Asked) E} (Ok one) (Ok other)
    → one.0 ≡ other.0
of-none one other is = cc

no-lines : (work : Work) (node : ℕ) (seen : List Seen) (task : Task) (why : Option Why)
    → IsJudged work node seen task why → (node_at work.plan node).commands ≡ [] → task.lines ≡ []
unfolding lines_from
no-lines work node seen task why judged none =
    let is : ◌≡◌ {A = Result (Task × List Asked) TaskFault}
    (Ok (task_with work.variables work.mode.exports (node_at work.plan node).name [], []))
    (Ok (task, map as_asked judged.sight.asked)) = rw none at judged.has in
    ap (λ (t : Task). t.lines) (sym (of-none (task_with work.variables work.mode.exports (node_at work.plan node).name [], [])
    (task, map as_asked judged.sight.asked) is))

module _ (files : FileMap) (work : Work) (node : ℕ) where
  -- what is kept is not told of, and what is begun is
  kept-told : (one other : List Seen) (lines : List TaskLine) (reason : Reason) → AreAnswered files one
      → AreAnswered files other → IsKept work node one lines → IsTold work node other reason → ⊥
  kept-told one other lines reason answered fits (inl none) told =
      let some = told.commands in
      let empty : length (node_at work.plan node).commands ≡ 0 = ap length none.0 in
      omega (arith, some, empty)
  kept-told one other lines reason answered fits (inr (some, task, judged, is)) told =
      let same = judged-same files work node one other task told.task None (Some reason.why) answered fits judged
      told.judged in
      let wrong = same.why_is in cc

  begun-quiet : (one other : List Seen) (lines : List TaskLine) → AreAnswered files one → AreAnswered files other
      → IsBegun work node one lines → 0 < length lines → IsQuiet work node other → ⊥
  begun-quiet one other lines answered fits (task, why, judged, is) some (inl none) =
      let empty : length lines ≡ 0 = ap length (is ∙ no-lines work node one task (Some why) judged none.0) in
      omega (arith, some, empty)
  begun-quiet one other lines answered fits (task, why, judged, is) some (inr (full, again, also)) =
      let same = judged-same files work node one other task again (Some why) None answered fits judged also in
      let wrong = same.why_is in cc

-- how a dry run stands

record IsBetween (rules : Rules) (files : FileMap) (work : Work) (place : ℕ) (dry : Dry) : Type 0 where
  front : IsFront rules place dry.run.nodes
  due_is : dry.run.due ≡ run.anything
  answered : AreAnswered files dry.seen
  work_is : dry.work ≡ work
  free : dry.announced ≡ None

-- behind a line of the node before this place, whose line with this number is due
record IsAmid (rules : Rules) (work : Work) (place number : ℕ) (dry : Dry) : Type 0 where
  node : ℕ
  next : place ≡ node + 1
  nodes : List NodeState
  front : IsFront rules node nodes
  within : node < length nodes
  closed : set dry.run.nodes node Settled ≡ set nodes node Settled
  due_is : dry.run.due ≡ run.line node number
  later : 1 < number
  work_is : dry.work ≡ work
  free : dry.announced ≡ None

abbrev Stands : Rules → FileMap → Work → ℕ → Option ℕ → Dry → Type 0
Stands rules files work place None dry = IsBetween rules files work place dry
Stands rules files work place (Some number) dry = IsAmid rules work place number dry

free-of : (rules : Rules) (files : FileMap) (work : Work) (place : ℕ) (position : Option ℕ) (dry : Dry)
    → Stands rules files work place position dry → dry.announced ≡ None
free-of rules files work place None dry stands = stands.free
free-of rules files work place (Some number) dry stands = stands.free

-- what is left of a dry run, from a place in its items on
record IsLeft (meaning : Meaning) (rules : Rules) (tasks : run.Tasks) (files : FileMap) (dry : Dry) (stand : State)
    (items : List DryItem) : Type 0 where
  makes : Makes rules tasks dry items
  lawful : MayAll meaning stand (happened_all (in_build_all items))
  fits : FitsAll meaning stand (in_build_all items)
  over : IsOver rules None (dry_after_all rules tasks dry items)
  unfailed : run.first_failure (dry_tasks tasks) (reported_all items) ≡ None
  files_are : stand.files ≡ files
  alone : stand.children ≡ []

-- the run behind a line that is shown
module _ (rules : Rules) (tasks : run.Tasks) (state : run.State) (node number : ℕ) where
  abbrev started_run : run.State
  started_run = run.start_line (dry_tasks tasks) state node number

  abbrev next_run : run.State
  next_run = record {
    nodes = started_run.nodes;
    started = started_run.started;
    due = run.line node (number + 1);
  }

  abbrev shown_run : run.State
  shown_run = run.after_all rules (dry_tasks tasks) state (Start node number ∷ End node number 0 ∷ [])

  shown-run : (shown_run ≡ run.settle started_run node Settled) ⊎ (shown_run ≡ next_run)
  shown-run =
      by (nat_le (length (dry_tasks tasks node)) number || is_stopped rules (set state.nodes node Open)) refl
    where
      by : (b : Bool) → (nat_le (length (dry_tasks tasks node)) number || is_stopped rules (set state.nodes node Open)) ≡ b
          → (shown_run ≡ run.settle started_run node Settled) ⊎ (shown_run ≡ next_run)
      by true is = inl (rw is refl)
      by false is = inr (rw is refl)

module _ (meaning : Meaning) (rules : Rules) (tasks : run.Tasks) (files : FileMap) (plain : NoneAlways tasks) where
  -- behind a line of a node that is shown: the node is settled, or its next line is due
  behind-line : (work : Work) (k node number : ℕ) (nodes : List NodeState) (dry : Dry) → IsFront rules k nodes
      → k < length nodes → set dry.run.nodes k Settled ≡ set nodes k Settled → node ≡ k → 0 < number
      → dry.announced ≡ None → work_after dry.work (shows node number) ≡ work
      → (position : Option ℕ) × Stands rules files work (k + 1) position (dry_after rules tasks dry (shows node number))
  behind-line work k node number nodes dry front within closed same some free work_is =
      by (shown-run rules tasks dry.run node number)
    where
      settled : set (set dry.run.nodes node Open) node Settled ≡ set nodes k Settled
      settled = set-set dry.run.nodes node Open Settled ∙ ap (λ n. set dry.run.nodes n Settled) same ∙ closed

      open_closed : set (set dry.run.nodes node Open) k Settled ≡ set nodes k Settled
      open_closed = ap (λ n. set (set dry.run.nodes node Open) n Settled) (sym same) ∙ settled

      by : (shown_run rules tasks dry.run node number
          ≡ run.settle (started_run rules tasks dry.run node number) node Settled)
          ⊎ (shown_run rules tasks dry.run node number ≡ next_run rules tasks dry.run node number)
          → (position : Option ℕ)
          × Stands rules files work (k + 1) position (dry_after rules tasks dry (shows node number))
      by (inl is) = (
        None,
        record {
          front = subst (IsFront rules (k + 1)) (sym (ap (λ (r : run.State). r.nodes) is ∙ settled))
              (front-next rules k nodes front within);
          due_is = ap (λ (r : run.State). r.due) is;
          answered = tt;
          work_is = work_is;
          free = free;
        },
      )
      by (inr is) = (
        Some (number + 1),
        record {
          node = k;
          next = refl;
          nodes = nodes;
          front = front;
          within = within;
          closed = ap (λ (r : run.State). set r.nodes k Settled) is ∙ open_closed;
          due_is = ap (λ (r : run.State). r.due) is ∙ ap (λ n. run.line n (number + 1)) same;
          later = omega (arith, some);
          work_is = work_is;
          free = free;
        },
      )

  -- what cannot come
  no-step : (stand : State) (ticket owner : ℕ) (deed : Deed) → stand.children ≡ []
      → MayStep meaning.next (contents stand.files) owner deed (child_in stand.children ticket) → ⊥
  no-step stand ticket owner deed alone may =
      subst (λ l. MayStep meaning.next (contents stand.files) owner deed (child_in l ticket)) alone may

  no-leave : (stand : State) (ticket owner : ℕ) → stand.children ≡ []
      → MayLeave owner (child_in stand.children ticket) → ⊥
  no-leave stand ticket owner alone may = subst (λ l. MayLeave owner (child_in l ticket)) alone may

  no-end : (stand : State) (ended : Ended) (owner : ℕ) → stand.children ≡ []
      → IsEndOf meaning ended owner (child_in stand.children ended.ticket.0) → ⊥
  no-end stand ended owner alone is =
      subst (λ l. IsEndOf meaning ended owner (child_in l ended.ticket.0)) alone is

  no-start : (dry : Dry) (line : ℕ × ℕ) → dry.announced ≡ None → dry.announced ≡ Some line → ⊥
  no-start dry line free is = cc

  no-wait : (work : Work) (place : ℕ) (position : Option ℕ) (dry : Dry)
      → Stands rules files work place position dry → run.MayWait rules dry.run → ⊥
  no-wait work place None dry stands (due, none, some) =
      let closed = stands.front.gone.none_open in omega (arith, some, closed)
  no-wait work place (Some number) dry stands (due, none, some) = let is = stands.due_is in cc

  no-announcement : (dry : Dry) (node number : ℕ) → MayShow tasks dry node number true → ⊥
  no-announcement dry node number may =
      let never = plain node number may.one may.line in
      let is : (may.one.always && not (run.is_empty may.one.text)) ≡ true = may.is in
      false≢true (subst (λ b. (b && not (run.is_empty may.one.text)) ≡ true) never is)

  -- a node is decided between two nodes
  decided-at : (work : Work) (place node : ℕ) (position : Option ℕ) (dry : Dry)
      → Stands rules files work place position dry → run.MayDecide rules dry.run node
      → IsBetween rules files work place dry × (node ≡ place) × (place < length dry.run.nodes)
  decided-at work place node None dry stands (due, may) =
      let is = which rules place node dry.run.nodes stands.front may in (stands, is.0, is.1)
  decided-at work place node (Some number) dry stands (due, may) = let is = stands.due_is in absurd cc

  -- a node is kept where the next turn is quiet
  kept-turn : (work : Work) (place node : ℕ) (dry : Dry) (turn : Turn) → IsBetween rules files work place dry
      → node ≡ place → IsKept dry.work node dry.seen (tasks node) → IsTurn work place turn
      → AreAnswered files (seen_in turn) → (reasons_in turn ≡ []) × (behind work place turn ≡ work)
  kept-turn work place node dry (quiet seen) stands same kept is answered = (refl, refl)
  kept-turn work place node dry (tells seen reason) stands same kept is answered =
      absurd (kept-told files work place dry.seen seen (tasks node) reason stands.answered answered
      (subst (λ n. IsKept work n dry.seen (tasks node)) same
      (subst (λ w. IsKept w node dry.seen (tasks node)) stands.work_is kept)) is)

  -- a node is shown where its reason is told
  record IsShown (work : Work) (place : ℕ) (turn : Turn) : Type 0 where
    reasons : map (λ (one : Reason). one.node) (reasons_in turn) ≡ place ∷ []
    work_is : behind work place turn ≡ record work { plan = as_new work.plan place }

  shown-turn : (work : Work) (place node : ℕ) (dry : Dry) (turn : Turn) → IsBetween rules files work place dry
      → node ≡ place → IsBegun dry.work node dry.seen (tasks node) → 0 < length (tasks node)
      → IsTurn work place turn → AreAnswered files (seen_in turn) → IsShown work place turn
  shown-turn work place node dry (quiet seen) stands same begun some is answered =
      absurd (begun-quiet files work place dry.seen seen (tasks node) stands.answered answered
      (subst (λ n. IsBegun work n dry.seen (tasks node)) same
      (subst (λ w. IsBegun w node dry.seen (tasks node)) stands.work_is begun)) some is)
  shown-turn work place node dry (tells seen reason) stands same begun some is answered =
      record { reasons = ap (λ n. n ∷ []) is.place; work_is = refl }

  -- the walk over the items of a dry run

  abbrev AreExplained : List DryItem → List Turn → Type 0
  AreExplained items turns = shown_nodes (reported_all items) ≡ map (λ (one : Reason). one.node) (reasons_of turns)

  nodes-first : (turn : Turn) (turns : List Turn)
      → map (λ (one : Reason). one.node) (reasons_of (turn ∷ turns))
      ≡ map (λ (one : Reason). one.node) (reasons_in turn) ++ map (λ (one : Reason). one.node) (reasons_of turns)
  nodes-first (quiet seen) turns = refl
  nodes-first (tells seen reason) turns = refl

  all-more : (seen : List Seen) (one : Seen) → AreAnswered files seen → IsAnswered files one
      → AreAnswered files (seen ++ one ∷ [])
  all-more [] one all is = (is, tt)
  all-more (first ∷ seen) one all is = (all.0, all-more seen one all.1 is)

  answered-in : (stand : State) (one : Seen) → stand.files ≡ files → IsSeenIn stand one → IsAnswered files one
  answered-in stand (dated one) same is = subst (λ (f : FileMap). one.when ≡ when_of (f one.path)) same is
  answered-in stand (read path bytes) same is = subst (λ (f : FileMap). bytes ≡ contents f path) same is

  dry-length : (lines : List TaskLine) → length (map dry_line lines) ≡ length lines
  dry-length [] = refl
  dry-length (one ∷ lines) = ap suc (dry-length lines)

  at-end : (place : ℕ) (position : Option ℕ) (work : Work) (dry : Dry) (turns : List Turn)
      → Stands rules files work place position dry → IsOver rules None dry
      → place + length turns ≡ length rules.before → AreExplained [] turns
  at-end place (Some number) work dry turns stands over long =
      let due = over.over.due in let is = stands.due_is in absurd cc
  at-end place None work dry [] stands over long = refl
  at-end place None work dry (turn ∷ turns) stands over long =
      let all = behind-all rules place dry.run.nodes stands.front over.over.none_ready in
      let same = stands.front.gone.long in absurd (omega (arith, long, all, same))

  walk : (items : List DryItem) (position : Option ℕ) (place : ℕ) (work : Work) (dry : Dry) (stand : State)
      (turns : List Turn) → Stands rules files work place position dry
      → IsLeft meaning rules tasks files dry stand items → place + length turns ≡ length rules.before
      → AreTurns work place turns → AreAnswered files (looks_of turns) → AreExplained items turns
  walk [] position place work dry stand turns stands left long are answered =
      at-end place position work dry turns stands left.over long
  walk (does (looks node one) ∷ items) position place work dry stand turns stands left long are answered =
      let is = decided-at work place node position dry stands left.makes.1.1 in
      walk items None place work (dry_after rules tasks dry (does (looks node one))) stand turns
      (record {
        front = is.0.front;
        due_is = is.0.due_is;
        answered = all-more dry.seen one is.0.answered (answered-in stand one left.files_are left.fits.0);
        work_is = is.0.work_is;
        free = is.0.free;
      })
      (record {
        makes = left.makes.2;
        lawful = left.lawful.1;
        fits = left.fits.1;
        over = left.over;
        unfailed = left.unfailed;
        files_are = left.files_are;
        alone = left.alone;
      }) long are answered
  walk (does (keeps node) ∷ items) position place work dry stand [] stands left long are answered =
      let is = decided-at work place node position dry stands left.makes.0.0 in
      let within = is.2 in let same = is.0.front.gone.long in absurd (omega (arith, long, within, same))
  walk (does (keeps node) ∷ items) position place work dry stand (turn ∷ turns) stands left long are answered =
      let is = decided-at work place node position dry stands left.makes.0.0 in
      let split = looks-first files turn turns answered in
      let kept = kept-turn work place node dry turn is.0 is.1 left.makes.1.1 are.0 split.0 in
      let rest = walk items None (place + 1) work (dry_after rules tasks dry (does (keeps node))) stand turns
      (record {
        front = subst (λ n. IsFront rules (place + 1) (set dry.run.nodes n Settled)) (sym is.1)
            (front-next rules place dry.run.nodes is.0.front is.2);
        due_is = refl;
        answered = tt;
        work_is = is.0.work_is;
        free = is.0.free;
      })
      (record {
        makes = left.makes.2;
        lawful = left.lawful;
        fits = left.fits.1;
        over = left.over;
        unfailed = left.unfailed;
        files_are = left.files_are;
        alone = left.alone;
      }) (omega (arith, long)) (subst (λ w. AreTurns w (place + 1) turns) kept.1 are.1) split.1 in
      rest
      ∙ sym (nodes-first turn turns
      ∙ ap (λ l. map (λ (one : Reason). one.node) l ++ map (λ (one : Reason). one.node) (reasons_of turns)) kept.0)
  walk (does (refuses node number what) ∷ items) position place work dry stand turns stands left long are answered =
      let no = left.unfailed in absurd cc
  walk (does (starts node number ticket owner cmd) ∷ items) position place work dry stand turns stands left long are
      answered =
      absurd (no-start dry (node, number) (free-of rules files work place position dry stands) left.makes.1.0)
  walk (does (passes node number) ∷ items) position place work dry stand turns stands left long are answered =
      absurd left.makes.1
  walk (does waits ∷ items) position place work dry stand turns stands left long are answered =
      absurd (no-wait work place position dry stands left.makes.0.0)
  walk (does (steps ticket owner deed time) ∷ items) position place work dry stand turns stands left long are
      answered = absurd (no-step stand ticket owner deed left.alone left.lawful.0.1)
  walk (does (ends node number owner ended) ∷ items) position place work dry stand turns stands left long are
      answered = absurd (no-end stand ended owner left.alone left.fits.0)
  walk (does (changes node change) ∷ items) position place work dry stand turns stands left long are answered =
      absurd left.makes.1
  walk (does (leaves ticket owner) ∷ items) position place work dry stand turns stands left long are answered =
      absurd (no-leave stand ticket owner left.alone left.lawful.0.1)
  walk (announces node number ∷ items) position place work dry stand turns stands left long are answered =
      absurd (no-announcement dry node number left.makes.1.0)
  walk (shows node number ∷ items) None place work dry stand [] stands left long are answered =
      let may = subst (run.MayStart rules (dry_tasks tasks) dry.run node number) stands.due_is left.makes.0.0 in
      let is = which rules place node dry.run.nodes stands.front may.0 in
      let within = is.1 in let same = stands.front.gone.long in absurd (omega (arith, long, within, same))
  walk (shows node number ∷ items) None place work dry stand (turn ∷ turns) stands left long are answered =
      let may = subst (run.MayStart rules (dry_tasks tasks) dry.run node number) stands.due_is left.makes.0.0 in
      let is = which rules place node dry.run.nodes stands.front may.0 in
      let split = looks-first files turn turns answered in
      let some : 0 < length (tasks node) = subst (λ n. 0 < n) (dry-length (tasks node)) may.2 in
      let shown = shown-turn work place node dry turn stands is.0 (left.makes.1.reason may.1) some are.0 split.0 in
      let first = may.1 in
      let after = behind-line (record work { plan = as_new work.plan place }) place node number dry.run.nodes dry
      stands.front is.1 refl is.0 (omega (arith, first)) stands.free
      (ap (λ n. with_shown dry.work node n) may.1
      ∙ ap (λ n. with_shown dry.work n 1) is.0
      ∙ ap (λ w. with_shown w place 1) stands.work_is) in
      let rest = walk items after.0 (place + 1) (record work { plan = as_new work.plan place })
      (dry_after rules tasks dry (shows node number)) stand turns after.1
      (record {
        makes = left.makes.2;
        lawful = left.lawful;
        fits = left.fits.1;
        over = left.over;
        unfailed = left.unfailed;
        files_are = left.files_are;
        alone = left.alone;
      }) (omega (arith, long)) (subst (λ w. AreTurns w (place + 1) turns) shown.work_is are.1) split.1 in
      ap (λ n. if n == 1 then node ∷ shown_nodes (reported_all items) else shown_nodes (reported_all items)) may.1
      ∙ ap (λ n. n ∷ shown_nodes (reported_all items)) is.0
      ∙ ap (λ l. place ∷ l) rest
      ∙ sym (nodes-first turn turns
      ∙ ap (λ l. l ++ map (λ (one : Reason). one.node) (reasons_of turns)) shown.reasons)
  walk (shows node number ∷ items) (Some due) place work dry stand turns stands left long are answered =
      let may = subst (run.MayStart rules (dry_tasks tasks) dry.run node number) stands.due_is left.makes.0.0 in
      let later = stands.later in let same = may.1 in
      let other : (number == 1) ≡ false = ne_eqb number 1 (λ one. omega (arith, one, later, same)) in
      let after = behind-line work stands.node node number stands.nodes dry stands.front stands.within stands.closed
      may.0 (omega (arith, later, same)) stands.free
      (ap (λ (b : Bool). if b then record dry.work { plan = as_new dry.work.plan node } else dry.work) other
      ∙ stands.work_is) in
      let rest = walk items after.0 place work (dry_after rules tasks dry (shows node number)) stand turns
      (subst (λ p. Stands rules files work p after.0 (dry_after rules tasks dry (shows node number)))
      (sym stands.next) after.1)
      (record {
        makes = left.makes.2;
        lawful = left.lawful;
        fits = left.fits.1;
        over = left.over;
        unfailed = left.unfailed;
        files_are = left.files_are;
        alone = left.alone;
      }) long are answered in
      ap (λ (b : Bool). if b then node ∷ shown_nodes (reported_all items) else shown_nodes (reported_all items)) other
      ∙ rest

shown-explained : (meaning : Meaning) (work : Work) (first last : Moment) (old new : History)
    (reasons : List Reason) → IsTrue (are_ordered 0 work.plan) → first.history ≡ Some old
    → last.history ≡ Some new → (state_of old).children ≡ []
    → (dry : IsDryRun meaning work ended.Done first last) → NoneAlways dry.tasks
    → IsExplained (AreAnswered (state_of old).files) work reasons
    → shown_nodes last.events ≡ map (λ (one : Reason). one.node) reasons
shown-explained meaning work first last old new reasons ordered begins ends_at alone dry plain is =
    ap shown_nodes dry.reported
    ∙ walk meaning (rules_of work) dry.tasks (state_of old).files plain dry.items None 0 work (first_dry work)
    (state_of old) is.turns between left (omega (arith, all, many)) is.are is.looked
    ∙ ap (map (λ (one : Reason). one.node)) (sym is.told)
  where
    happened : Happened meaning (in_build_all dry.items) old new
    happened =
        subst (λ h. Told (Some old) h (Happened meaning (in_build_all dry.items))) ends_at
        (subst (λ h. Told h last.history (Happened meaning (in_build_all dry.items))) begins dry.told)

    many : length (predecessors work.plan) ≡ length work.plan
    many = as-many work.plan

    all : length is.turns ≡ length work.plan
    all = is.all

    between : IsBetween (rules_of work) (state_of old).files work 0 (first_dry work)
    between = record {
      front = record {
        gone = subst (λ l. IsGoneThrough (rules_of work) l None 0) (sym (first-decided work.plan))
            (gone-first work.plan work.flags.keep_going (stand-behind work.plan ordered));
        settled = λ one less. absurd (omega (arith, less));
      };
      due_is = refl;
      answered = tt;
      work_is = refl;
      free = refl;
    }

    left : IsLeft meaning (rules_of work) dry.tasks (state_of old).files (first_dry work) (state_of old) dry.items
    left = record {
      makes = dry.makes;
      lawful = happened.lawful;
      fits = happened.fits;
      over = dry.stands;
      unfailed = ap (run.first_failure (dry_tasks dry.tasks)) (sym dry.reported)
          ∙ (dry.failure ∙ ap event_of dry.stands.failed);
      files_are = refl;
      alone = alone;
    }

-- an explanation by options that say the same of what commands are

sight-under : (work : Work) (flags : Flags) (node : ℕ) (seen : List Seen) → Sight work node seen
    → Sight (under flags work) node seen
sight-under work flags node seen sight = record {
  target = sight.target;
  sources = sight.sources;
  asked = sight.asked;
  are = sight.are;
  walk = sight.walk;
}

abbrev saying : Flags → Flags → Flags
saying flags other = record other { ignore = flags.ignore; silent = flags.silent }

judged-under : (work : Work) (other : Flags) (node : ℕ) (seen : List Seen) (task : Task) (why : Option Why)
    → IsJudged work node seen task why
    → IsJudged (under (saying work.flags other) work) node seen task why
unfolding sight-under
judged-under work other node seen task why judged = record {
  first = judged.first;
  sight = sight-under work (saying work.flags other) node judged.first judged.sight;
  meta = judged.meta;
  are = judged.are;
  has = judged.has;
  opened = judged.opened;
  reason = judged.reason;
}

turn-under : (work : Work) (other : Flags) (node : ℕ) (turn : Turn) → IsTurn work node turn
    → IsTurn (under (saying work.flags other) work) node turn
unfolding judged-under
turn-under work other node (quiet seen) (inl none) = inl none
turn-under work other node (quiet seen) (inr (some, task, judged)) =
    inr (some, task, judged-under work other node seen task None judged)
turn-under work other node (tells seen reason) is = record {
  task = is.task;
  commands = is.commands;
  judged = judged-under work other node seen is.task (Some reason.why) is.judged;
  place = is.place;
  line = is.line;
}

turns-under : (work : Work) (other : Flags) (node : ℕ) (turns : List Turn) → AreTurns work node turns
    → AreTurns (under (saying work.flags other) work) node turns
turns-under work other node [] are = tt
turns-under work other node (quiet seen ∷ turns) are =
    (turn-under work other node (quiet seen) are.0, turns-under work other (node + 1) turns are.1)
turns-under work other node (tells seen reason ∷ turns) are = (
  turn-under work other node (tells seen reason) are.0,
  turns-under (behind work node (tells seen reason)) other (node + 1) turns are.1,
)

said : (flags other : Flags) → SayTheSame flags other → saying other flags ≡ flags
said flags other same = ap₂ (λ ignore silent. record flags { ignore = ignore; silent = silent }) same.ignore same.silent

explained-under : (Looked : List Seen → Type 0) (work : Work) (flags : Flags) (reasons : List Reason)
    → SayTheSame flags work.flags → IsExplained Looked work reasons → IsExplained Looked (under flags work) reasons
explained-under Looked work flags reasons same is = record {
  turns = is.turns;
  all = is.all;
  are = subst (λ f. AreTurns (under f work) 0 is.turns) (said flags work.flags same)
      (turns-under work flags 0 is.turns is.are);
  told = is.told;
  looked = is.looked;
}

pub shown-are-explained : ShownAreExplained
shown-are-explained meaning work flags first last old new reasons ordered same begins ends_at alone dry plain is =
    shown-explained meaning (under flags work) first last old new reasons ordered begins ends_at alone dry plain
    (explained-under (AreAnswered (state_of old).files) work flags reasons same is)
