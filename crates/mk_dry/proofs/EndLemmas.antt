-- Whole dry runs.
use Rattle.std.proofs.Common.{◌≡◌, ◌∙◌, ℕ, suc, ◌+◌, ◌<◌, ◌≤◌, List, [], ◌∷◌, ◌++◌, length, map, set, not, ◌&&◌, ◌⊎◌, Option, Some, None, Bool, true, false, unwrap_or}
use Rattle.std.proofs.Common.{refl, sym, ap, subst, arith}
use Rattle.std.proofs.lemmas.List.{append-nil, length-set, set-set}
use Rattle.std.proofs.Math.Seq.{map-set_same}
use Rattle.mk_child.specs.Halts.{of_halt}
use Rattle.mk_child.specs.declared.halt.Halt.{Halt}
use Rattle.mk_child.specs.declared.halt.Halt.TheVariants as halts
use Rattle.mk_decision.specs.Decisions.{IsBegun, Work}
use Rattle.mk_decision.specs.Looks.{LooksAt}
use Rattle.mk_decision.specs.Makers.{work_on}
use Rattle.mk_world.specs.Looks.{Seen}
use Rattle.mk_flags.specs.declared.Flags.{Flags}
use Rattle.mk_graph.specs.declared.Made.{Made}
use Rattle.mk_plan.specs.AsNew.{as_new, phony}
use Rattle.mk_plan.specs.Deciding.{Rules, is_stopped, may_decide, open_jobs}
use Rattle.mk_plan.specs.Plans.{no_node, node_at}
use Rattle.mk_plan.specs.declared.plan.NodeState.{NodeState}
use Rattle.mk_plan.specs.declared.plan.NodeState.TheVariants.{Undecided, Open}
use Rattle.mk_plan.specs.declared.plan.PlanNode.{PlanNode}
use Rattle.mk_sched.specs.Schedule.{none_decided, predecessors}
use Rattle.mk_trace.specs.Builds.{Moment, Prints, moment}
use Rattle.mk_trace.specs.Calls.{AreLeaveItems, AreStepItems, Called}
use Rattle.mk_trace.specs.Ends.{is_cut, result_of}
use Rattle.mk_trace.specs.Growth.{Known}
use Rattle.mk_trace.specs.Items as build
use Rattle.mk_trace.specs.Items.{Item, Happened}
use Rattle.mk_trace.specs.Runs as run
use Rattle.mk_trace.specs.declared.result.BuildResult.{BuildResult}
use Rattle.mk_trace.specs.declared.result.BuildResult.TheVariants as ended
use Rattle.mk_trace.specs.declared.result.Failure.{Failure}
use Rattle.mk_trace.specs.declared.result.Failure.TheVariants.{JobFailed, Expand}
use Rattle.mk_trace.proofs.CallLemmas.{on_leaves}
use Rattle.mk_trace.proofs.ItemLemmas as trace
use Rattle.mk_trace.proofs.QuietLemmas.{prints-out}
use Rattle.mk_trace.proofs.SettledLemmas.{told-settled}
use Rattle.mk_world.proofs.IdleLemmas.{IsIdle}
use Rattle.mk_world.proofs.SinkLemmas.{Gains-nothing}
use Rattle.mk_world.specs.Talks.{Meaning}
use Rattle.mk_world.specs.Told.{Told}
use Rattle.mk_world.specs.declared.history.History.{History}
use Rattle.mk_dry.specs.DryRuns.{IsDryRun, IsOver, StandsBy}
use Rattle.mk_dry.specs.Items.{DryItem, does, dry_tasks, in_build_all, printed_all, reported_all}
use Rattle.mk_dry.proofs.ReportLemmas.{announced-all, as-build-all, failure-all, legal-all, legal-by, run-all}
use Rattle.mk_dry.specs.Parts.{AreLinesOf, GoingFrom, IsDue, Origin, Point, StandsIn, point}
use Rattle.mk_dry.specs.Reports.{AreAnnounced, IsRunBy, as_build}
use Rattle.mk_dry.specs.Progress.{AreUnknownFrom, EndedAt, GoingAt, HaltedAt, HasCome, IsAt, IsBehind, IsFirstCourse, IsGoneThrough, IsOpenScene, OverAt, Scene, SeenAt, SoFar, is_ready, is_there, work_in}
use Rattle.mk_dry.specs.Runs.{Dry, Makes, dry_after_all, first_dry, rules_of, with_shown}
use Rattle.mk_dry.specs.declared.course.Course.{Course}
use Rattle.mk_dry.proofs.GrowLemmas.{Makes-append, after-steps, dry_after_all-append, in_build-does, in_build_all-append, makes-steps, printed-steps, printed_all-append, reported-steps, reported_all-append, so_far-weaken}
use Rattle.mk_dry.proofs.NodeLemmas.{gone-decided, gone-first, may-decide, none-may-decide, opened}
use Rattle.mk_dry.proofs.LooksLemmas.{scene_of, so_far-begun, so_far-looks, task-now, unknown-behind, with_task}
use Rattle.mk_world.specs.declared.command.TaskLine.{TaskLine}

-- children that are given up

reported-leaves : (items : List Item) → AreLeaveItems items → reported_all (map does items) ≡ []
reported-leaves = on_leaves (λ items. reported_all (map does items) ≡ []) refl
    (λ ticket owner items more. more)

printed-leaves : (tasks : run.Tasks) (items : List Item) → AreLeaveItems items
    → printed_all tasks (map does items) ≡ []
printed-leaves tasks = on_leaves (λ items. printed_all tasks (map does items) ≡ []) refl
    (λ ticket owner items more. more)

after-leaves : (rules : Rules) (tasks : run.Tasks) (dry : Dry) (items : List Item)
    → AreLeaveItems items → dry_after_all rules tasks dry (map does items) ≡ dry
after-leaves rules tasks dry = on_leaves (λ items. dry_after_all rules tasks dry (map does items) ≡ dry)
    refl (λ ticket owner items more. more)

makes-leaves : (rules : Rules) (tasks : run.Tasks) (dry : Dry) (items : List Item)
    → AreLeaveItems items → Makes rules tasks dry (map does items)
makes-leaves rules tasks dry = on_leaves (λ items. Makes rules tasks dry (map does items)) tt
    (λ ticket owner items more. (tt, tt, more))

-- items that add nothing but to the history
record AreQuiet (quiet : List DryItem) : Type 0 where
  reported : reported_all quiet ≡ []
  printed : (tasks : run.Tasks) → printed_all tasks quiet ≡ []
  after : (rules : Rules) (tasks : run.Tasks) (dry : Dry) → dry_after_all rules tasks dry quiet ≡ dry
  makes : (rules : Rules) (tasks : run.Tasks) (dry : Dry) → Makes rules tasks dry quiet

quiet-steps : (items : List Item) → AreStepItems items → AreQuiet (map does items)
quiet-steps items are = record {
  reported = reported-steps items are;
  printed = λ tasks. printed-steps tasks items are;
  after = λ rules tasks dry. after-steps rules tasks dry items are;
  makes = λ rules tasks dry. makes-steps rules tasks dry items are;
}

quiet-leaves : (items : List Item) → AreLeaveItems items → AreQuiet (map does items)
quiet-leaves items are = record {
  reported = reported-leaves items are;
  printed = λ tasks. printed-leaves tasks items are;
  after = λ rules tasks dry. after-leaves rules tasks dry items are;
  makes = λ rules tasks dry. makes-leaves rules tasks dry items are;
}

quiet-append : (items more : List DryItem) → AreQuiet items → AreQuiet more → AreQuiet (items ++ more)
quiet-append items more first second = record {
  reported = reported_all-append items more ∙ rw (first.reported, second.reported) refl;
  printed = λ tasks. printed_all-append tasks items more
      ∙ rw (first.printed tasks, second.printed tasks) refl;
  after = λ rules tasks dry. dry_after_all-append rules tasks dry items more
      ∙ (second.after rules tasks (dry_after_all rules tasks dry items) ∙ first.after rules tasks dry);
  makes = λ rules tasks dry. Makes-append rules tasks dry items more (first.makes rules tasks dry)
      (second.makes rules tasks (dry_after_all rules tasks dry items));
}

-- a dry run at its end, behind which the children that still ran were given up
pub ended-run : (meaning : Meaning) (work : Work) (result : BuildResult) (first now next : Moment)
    → EndedAt meaning work result first now
    → Called meaning now.history next.history AreLeaveItems
    → next.events ≡ now.events → next.out ≡ now.out
    → IsIdle first.history → IsIdle next.history → IsDryRun meaning work result first next
ended-run meaning work result first now next at call events out idle still =
    let known = at.0 in
    let so = at.1 in
    let tasks : run.Tasks = λ node. unwrap_or (known node) [] in
    let quiet = map does call.early ++ (map does call.own ++ map does call.late) in
    let are = quiet-append (map does call.early) (map does call.own ++ map does call.late)
    (quiet-steps call.early call.early_steps)
    (quiet-append (map does call.own) (map does call.late) (quiet-leaves call.own call.is_own)
    (quiet-steps call.late call.late_steps)) in
    let items = so.items ++ quiet in
    let dry = dry_after_all (rules_of work) tasks (first_dry work) so.items in
    let made = so.made tasks (λ node lines is. ap (λ l. unwrap_or l []) is) in
    let reported_is : next.events ≡ reported_all items =
    events ∙ (so.reported ∙ sym (reported_all-append so.items quiet
    ∙ rw are.reported (append-nil (reported_all so.items)))) in
    let built : in_build_all quiet ≡ call.early ++ (call.own ++ call.late) =
    in_build_all-append (map does call.early) (map does call.own ++ map does call.late)
    ∙ rw (
      in_build-does call.early,
      in_build_all-append (map does call.own) (map does call.late),
      in_build-does call.own,
      in_build-does call.late,
    ) refl in
    let told : Told first.history next.history (Happened meaning (in_build_all items)) =
    subst (λ l. Told first.history next.history (Happened meaning l))
    (sym (in_build_all-append so.items quiet ∙ ap (λ l. in_build_all so.items ++ l) built))
    (trace.told-then meaning (in_build_all so.items) (call.early ++ (call.own ++ call.late)) first.history
    now.history next.history so.told call.told) in
    let after : dry_after_all (rules_of work) tasks (first_dry work) items ≡ dry =
    dry_after_all-append (rules_of work) tasks (first_dry work) so.items quiet
    ∙ are.after (rules_of work) tasks dry in
    let makes : Makes (rules_of work) tasks (first_dry work) items =
    Makes-append (rules_of work) tasks (first_dry work) so.items quiet made.makes
    (are.makes (rules_of work) tasks dry) in
    let stands = subst (StandsBy (rules_of work) result) (sym after) made.stands in
    let printed_is : printed_all tasks items ≡ printed_all tasks so.items =
    printed_all-append tasks so.items quiet
    ∙ rw (are.printed tasks) (append-nil (printed_all tasks so.items)) in
    record {
      tasks = tasks;
      items = items;
      reported = reported_is;
      legal = subst (IsRunBy result (rules_of work) (dry_tasks tasks))
          (sym (ap (as_build tasks) reported_is
          ∙ as-build-all (rules_of work) tasks (first_dry work) items makes))
          (legal-by (rules_of work) (dry_tasks tasks) result
          (dry_after_all (rules_of work) tasks (first_dry work) items) (build.reported_all (in_build_all items))
          (legal-all (rules_of work) tasks (first_dry work) items makes)
          (run-all (rules_of work) tasks (first_dry work) items) stands);
      announced = subst (AreAnnounced tasks None) (sym reported_is)
          (announced-all (rules_of work) tasks (first_dry work) None items tt makes);
      makes = makes;
      told = told;
      settled = told-settled meaning (in_build_all items) first.history next.history told idle still;
      printed = subst (Prints (is_cut result) first next) (sym printed_is)
          (prints-out (is_cut result) first now next (printed_all tasks so.items) out made.printed);
      stands = stands;
      failure = ap (run.first_failure (dry_tasks tasks)) reported_is
          ∙ sym (failure-all (rules_of work) work tasks (first_dry work) items);
    }

-- the end of a dry run that is over

stands-result : (rules : Rules) (failure : Option Failure) (dry : Dry) → IsOver rules failure dry
    → StandsBy rules (result_of failure) dry
stands-result rules None dry over = over
stands-result rules (Some (JobFailed n number status)) dry over = over
stands-result rules (Some (Expand n number what)) dry over = over

uncut : (failure : Option Failure) → false ≡ is_cut (result_of failure)
uncut None = refl
uncut (Some (JobFailed n number status)) = refl
uncut (Some (Expand n number what)) = refl

pub ended-over : (meaning : Meaning) (start : Work) (course : Course) (history : Option History)
    (first : Moment) (out : Option (List ℕ)) → OverAt meaning start history course first out
    → EndedAt meaning start (result_of course.failure) first (moment history out course.events.items)
ended-over meaning start course history first out over = (
  over.0,
  subst (λ b. SoFar meaning start b first (moment history out course.events.items) over.0
      (λ tasks dry. StandsBy (rules_of start) (result_of course.failure) dry)) (uncut course.failure)
      (so_far-weaken meaning start false first (moment history out course.events.items) over.0 over.0
      (λ tasks dry. IsOver (rules_of start) course.failure dry) _ over.1 (λ tasks has. has)
      (λ tasks dry has is. stands-result (rules_of start) course.failure dry is)),
)

pub ended-halted : (meaning : Meaning) (start : Work) (halt : Halt) (first now : Moment)
    → HaltedAt meaning start halt first now → EndedAt meaning start (of_halt halt) first now
ended-halted meaning start halts.World first now at = at
ended-halted meaning start halts.Sink first now at = at
ended-halted meaning start halts.NoMemory first now at = at

-- a dry run that did not begin
pub ended-none : (meaning : Meaning) (work : Work) (history : Option History) (out : Option (List ℕ))
    → EndedAt meaning work ended.NoMemory (moment history out []) (moment history out [])
ended-none meaning work history out = (
  (λ node. None),
  record {
    items = [];
    reported = refl;
    told = trace.told-none meaning history;
    made = λ tasks has. record { makes = tt; printed = Gains-nothing out; stands = tt };
  },
)

map-undecided : (plan : List PlanNode)
    → map (λ (before : List ℕ). Undecided) (predecessors plan) ≡ none_decided plan
map-undecided [] = refl
map-undecided (node ∷ plan) = ap (λ l. Undecided ∷ l) (map-undecided plan)

-- the rules stay when a node counts as new
pub predecessors-new : (plan : List PlanNode) (n : ℕ)
    → predecessors (as_new plan n) ≡ predecessors plan
predecessors-new plan n =
    map-set_same (λ (node : PlanNode). node.before) plan n (phony (node_at plan n)) no_node refl

-- all nodes were gone through, or a failure has stopped the run
pub over-at : (meaning : Meaning) (start : Work) (made : Made) (flags : Flags)
    (history : Option History) (course : Course) (place : ℕ) (first : Moment) (out : Option (List ℕ))
    → IsGoneThrough (rules_of (work_in course made flags)) course.nodes.items course.failure place
    → (length course.nodes.items ≤ place)
    ⊎ (is_stopped (rules_of (work_in course made flags)) course.nodes.items ≡ true)
    → GoingAt meaning start made flags history course place first out
    → OverAt meaning start history course first out
over-at meaning start made flags history course place first out gone all at =
    let none : may_decide (rules_of start) course.nodes.items ≡ None =
    subst (λ r. may_decide r course.nodes.items ≡ None) (sym at.0)
    (none-may-decide (rules_of (work_in course made flags)) course.nodes.items course.failure place gone
    all) in (
      at.1,
      so_far-weaken meaning start false first (moment history out course.events.items) at.1 at.1
          (IsAt course.nodes.items [] (work_in course made flags) course.failure)
          (λ tasks dry. IsOver (rules_of start) course.failure dry) at.3 (λ tasks has. has)
          (λ tasks dry has is. record {
            over = record {
              due = is.due_is;
              none_open = ap open_jobs is.nodes_are ∙ gone.none_open;
              none_ready = ap (may_decide (rules_of start)) is.nodes_are ∙ none;
            };
            failed = is.failed;
            free = is.free;
          }),
    )

-- the beginning of a dry run
pub going-first : (meaning : Meaning) (plan : List PlanNode) (made : Made) (flags : Flags)
    (history : Option History) (course : Course) (out : Option (List ℕ)) → IsFirstCourse plan course
    → GoingAt meaning (work_on plan made flags) made flags history course 0 (moment history out []) out
going-first meaning plan made flags history course out is = (
  ap (λ p. rules_of (work_on p made flags)) (sym is.plan_is),
  (λ node. None),
  (λ node from. refl),
  record {
    items = [];
    reported = is.events;
    told = trace.told-none meaning history;
    made = λ tasks has. record {
      makes = tt;
      printed = Gains-nothing out;
      stands = record {
        nodes_are = map-undecided plan ∙ sym is.nodes_are;
        due_is = refl;
        seen_is = refl;
        work_is = ap (λ p. work_on p made flags) (sym is.plan_is);
        failed = sym is.failure;
        free = refl;
      };
    };
  },
)

pub gone-course : (plan : List PlanNode) (made : Made) (flags : Flags) (course : Course)
    → IsFirstCourse plan course
    → IsGoneThrough (rules_of (work_in course made flags)) course.nodes.items course.failure 0
gone-course plan made flags course is =
    rw (is.plan_is, is.nodes_are, is.failure) (gone-first plan flags.keep_going is.ordered)

-- the beginning of the nodes

long-plan : (plan : List PlanNode) → length (predecessors plan) ≡ length plan
long-plan [] = refl
long-plan (node ∷ plan) = ap suc (long-plan plan)

-- a place in the plan is one among the nodes
pub within-nodes : (plan : List PlanNode) (made : Made) (flags : Flags) (nodes : List NodeState)
    (failure : Option Failure) (place n : ℕ)
    → IsGoneThrough (rules_of (work_on plan made flags)) nodes failure place → n < length plan
    → n < length nodes
within-nodes plan made flags nodes failure place n gone within =
    rw (gone.long, long-plan plan) within

-- the node that is gone through may be decided
pub may-begin : (start : Work) (rules : Rules) (nodes : List NodeState) (failure : Option Failure) (n : ℕ)
    → rules_of start ≡ rules → IsGoneThrough rules nodes failure n → n < length nodes
    → is_ready rules nodes n ≡ true → is_stopped rules nodes ≡ false
    → may_decide (rules_of start) nodes ≡ Some n
may-begin start rules nodes failure n same gone within ready going =
    subst (λ r. may_decide r nodes ≡ Some n) (sym same) (may-decide rules nodes failure n gone within ready going)

-- the scene of a node that is out of date is open
pub open-scene : (start : Work) (first : Moment) (known : Known) (nodes : List NodeState) (work : Work)
    (failure : Option Failure) (n : ℕ) (lines : List TaskLine) (rules : Rules)
    → rules_of start ≡ rules → IsGoneThrough rules nodes failure n → n < length nodes
    → is_stopped rules nodes ≡ false → IsOpenScene (scene_of start first known nodes work failure n lines)
open-scene start first known nodes work failure n lines rules same gone within going =
    let at = opened rules nodes failure n gone within going in
    record {
      task = task-now known n lines;
      open_now = at.open_now;
      again = at.again;
      one_open = at.one_open;
      unstopped = subst (λ r. is_stopped r (set nodes n Open) ≡ false) (sym same) at.unstopped;
    }

-- the rules stay when a node counts as new
pub rules-new : (plan new : List PlanNode) (made : Made) (flags : Flags) (n : ℕ) → new ≡ as_new plan n
    → rules_of (work_on new made flags) ≡ rules_of (work_on plan made flags)
rules-new plan new made flags n is =
    let before : predecessors new ≡ predecessors plan = ap predecessors is ∙ predecessors-new plan n in
    ap (λ (b : List (List ℕ)). record { before = b; jobs = 1; keep_going = flags.keep_going }) before

-- and so does the number of nodes
pub same-length : (plan new : List PlanNode) (n : ℕ) → new ≡ as_new plan n → length new ≡ length plan
same-length plan new n is = ap length is ∙ length-set plan n (phony (node_at plan n))

-- a node was shown, and counts as new
pub shown-after : (meaning : Meaning) (start : Work) (first : Moment) (plan new : List PlanNode)
    (made : Made) (flags : Flags) (known : Known) (nodes : List NodeState) (n : ℕ)
    (lines : List TaskLine) (stands : NodeState) (failure : Option Failure) (now : Moment)
    → new ≡ as_new plan n → rules_of start ≡ rules_of (work_on plan made flags)
    → AreUnknownFrom n known
    → SoFar meaning start false first now (with_task known n lines)
    (IsAt (set (set nodes n Open) n stands) [] (with_shown (work_on plan made flags) n 1) failure)
    → (rules_of start ≡ rules_of (work_on new made flags))
    × (more : Known) × AreUnknownFrom (n + 1) more
    × SoFar meaning start false first now more
    (IsAt (set nodes n stands) [] (work_on new made flags) failure)
shown-after meaning start first plan new made flags known nodes n lines stands failure now is same unknown
    so = (
      same ∙ sym (rules-new plan new made flags n is),
      with_task known n lines,
      unknown-behind known n lines unknown,
      subst (λ p. SoFar meaning start false first now (with_task known n lines)
          (IsAt (set nodes n stands) [] (work_on p made flags) failure)) (sym is)
          (subst (λ l. SoFar meaning start false first now (with_task known n lines)
          (IsAt l [] (work_on (as_new plan n) made flags) failure)) (set-set nodes n Open stands) so),
    )

-- the node that is due may be decided
pub due-may : (start : Work) (made : Made) (flags : Flags) (course : Course) (n : ℕ)
    → rules_of start ≡ rules_of (work_in course made flags) → IsDue made flags course n
    → may_decide (rules_of start) course.nodes.items ≡ Some n
due-may start made flags course n same due =
    let next = due.next in
    may-begin start (rules_of (work_in course made flags)) course.nodes.items course.failure n same next.gone
    (within-nodes course.plan made flags course.nodes.items course.failure n n next.gone next.within) due.ready
    next.going

-- looks at the node that is due
pub looked-from : (meaning : Meaning) (made : Made) (flags : Flags) (n : ℕ) (course : Course)
    (out : Option (List ℕ)) (a b : Option History) (seen : List Seen) → IsDue made flags course n
    → LooksAt meaning a b seen → (from : Origin) → GoingFrom meaning made flags n (point a out course) from
    → SeenAt meaning from.start made flags b course n seen from.first out
looked-from meaning made flags n course out a b seen due looked from at = (
  at.0,
  at.1,
  at.2,
  so_far-looks meaning from.start (work_in course made flags) at.1 course.nodes.items course.failure n
      from.first out course.events.items a b seen looked (due-may from.start made flags course n at.0 due) at.3,
)

-- the scene of a node
abbrev pub scene_from : Made → Flags → ℕ → List TaskLine → Known → Point → Origin → Scene
scene_from made flags n lines known now from =
    scene_of from.start from.first known now.course.nodes.items (work_in now.course made flags)
    now.course.failure n lines

-- the lines of the node that is due
pub begun-from : (meaning : Meaning) (made : Made) (flags : Flags) (n : ℕ) (lines : List TaskLine)
    (now : Point) (seen : List Seen) → IsDue made flags now.course n
    → IsBegun (work_in now.course made flags) n seen lines → 0 < length lines → (from : Origin)
    → (at : SeenAt meaning from.start made flags now.history now.course n seen from.first now.out)
    → AreLinesOf made n lines now.course.failure (scene_from made flags n lines at.1 now from)
    × StandsIn meaning (moment now.history now.out now.course.events.items)
    (IsBehind (scene_from made flags n lines at.1 now from) 0)
    (scene_from made flags n lines at.1 now from)
begun-from meaning made flags n lines now seen due begun some from at =
    let course = now.course in
    let nodes = course.nodes.items in
    let work = work_in course made flags in
    let next = due.next in (
      record {
        is_open = open-scene from.start from.first at.1 nodes work course.failure n lines (rules_of work) at.0
            next.gone
            (within-nodes course.plan made flags nodes course.failure n n next.gone next.within) next.going;
        node_is = refl;
        lines_are = refl;
        variables_are = refl;
        mode_is = refl;
        failure_is = refl;
      },
      so_far-begun meaning from.start work at.1 nodes course.failure n lines seen from.first
          (moment now.history now.out course.events.items) (due-may from.start made flags course n at.0 due)
          (at.2 n (omega arith)) some begun at.3,
    )

-- the node that was decided is gone through
pub gone-made : (rules new_rules : Rules) (nodes kept : List NodeState) (old new : Option Failure) (n : ℕ)
    (stands : NodeState) → IsGoneThrough rules nodes old n → n < length nodes
    → HasCome stands old new → new_rules ≡ rules → kept ≡ nodes
    → IsGoneThrough new_rules (set kept n stands) new (n + 1)
gone-made rules new_rules nodes kept old new n stands gone within come same same_nodes =
    subst (λ r. IsGoneThrough r (set kept n stands) new (n + 1)) (sym same)
    (subst (λ l. IsGoneThrough rules (set l n stands) new (n + 1)) (sym same_nodes)
    (gone-decided rules nodes old new n stands gone within come))

-- there are no more nodes than the plan has
pub all-nodes : (plan : List PlanNode) (made : Made) (flags : Flags) (nodes : List NodeState)
    (failure : Option Failure) (place n : ℕ)
    → IsGoneThrough (rules_of (work_on plan made flags)) nodes failure place → length plan ≤ n
    → length nodes ≤ n
all-nodes plan made flags nodes failure place n gone none = rw (gone.long, long-plan plan) none

-- a run is stopped where there is a failure, unless it goes on behind one
pub stopped-by : (plan : List PlanNode) (made : Made) (flags : Flags) (nodes : List NodeState)
    (failure : Option Failure) (place : ℕ) (stopped : Bool)
    → IsGoneThrough (rules_of (work_on plan made flags)) nodes failure place
    → stopped ≡ (not flags.keep_going && is_there failure)
    → is_stopped (rules_of (work_on plan made flags)) nodes ≡ stopped
stopped-by plan made flags nodes failure place stopped gone is =
    ap (λ b. not flags.keep_going && b) gone.failed ∙ sym is
