-- The decision of a node in a dry run.
use Rattle.std.proofs.Common.{◌≡◌, ◌≢◌, ◌∙◌, ℕ, ◌+◌, ◌<◌, ◌≤◌, ◌==◌, List, [], ◌∷◌, ◌++◌, length, map, set, Option, Some, None, true, false, if◌then◌else◌}
use Rattle.std.proofs.Common.{inl, inr, refl, sym, ap, subst, append_assoc, arith}
use Rattle.std.proofs.lemmas.Bool.{cases_eq}
use Rattle.std.proofs.lemmas.Bool.Decides.{nat_tests}
use Rattle.std.proofs.lemmas.Grind.{common_steps}
use Rattle.std.proofs.lemmas.List.{append-nil}
use Rattle.mk_decision.specs.Decisions.{Work, IsKept, IsBegun, IsRefused}
use Rattle.mk_decision.specs.Looks.{LooksAt}
use Rattle.mk_values.specs.declared.fault.ExpandFault.{ExpandFault}
use Rattle.mk_plan.specs.Deciding.{may_decide}
use Rattle.mk_plan.specs.declared.plan.NodeState.{NodeState}
use Rattle.mk_plan.specs.declared.plan.NodeState.TheVariants.{Open, Settled, Failed}
use Rattle.mk_trace.specs.Builds.{Moment, moment, or_next}
use Rattle.mk_trace.specs.Calls.{Called, LookItem, NoItem}
use Rattle.mk_trace.specs.Growth.{Known, HasTasks}
use Rattle.mk_trace.specs.Items.{keeps, looks, refuses}
use Rattle.mk_trace.specs.Runs as run
use Rattle.mk_trace.specs.declared.event.Event.{Event}
use Rattle.mk_trace.specs.declared.event.Event.TheVariants as event
use Rattle.mk_trace.specs.declared.result.Failure.{Failure}
use Rattle.mk_trace.specs.declared.result.Failure.TheVariants.{Expand}
use Rattle.mk_trace.proofs.CallLemmas.{called-none}
use Rattle.mk_trace.proofs.WorldLemmas.{called-look, called-nothing}
use Rattle.mk_world.specs.Calls.{Adds}
use Rattle.mk_world.specs.Looks.{LooksAll, OwnLook, Seen, answered}
use Rattle.mk_world.specs.Talks.{Meaning}
use Rattle.mk_world.specs.Told.{Told}
use Rattle.mk_world.specs.declared.command.TaskLine.{TaskLine}
use Rattle.mk_world.specs.declared.history.History.{History}
use Rattle.mk_dry.specs.Items.{does, dry_line, dry_tasks}
use Rattle.mk_dry.specs.Progress.{AreUnknownFrom, IsAt, IsBehind, IsPoised, Scene, SoFar}
use Rattle.mk_dry.specs.Runs.{Dry, rules_of, with_shown}
use Rattle.mk_dry.proofs.GrowLemmas.{GoesOn, so_far-called, so_far-nothing, so_far-own, so_far-weaken, unprinted}

-- looks

go_on-looks : (start work : Work) (nodes : List NodeState) (failure : Option Failure) (n : ℕ)
    (tasks : run.Tasks) (one : Seen) (seen : List Seen) (dry : Dry)
    → may_decide (rules_of start) nodes ≡ Some n → IsAt nodes seen work failure tasks dry
    → GoesOn start tasks dry (does (looks n one) ∷ []) (IsAt nodes (seen ++ one ∷ []) work failure)
go_on-looks start work nodes failure n tasks one seen dry may is = record {
  makes = (tt, (is.free, (is.due_is, rw is.nodes_are may)), tt);
  stands = record {
    nodes_are = is.nodes_are;
    due_is = is.due_is;
    seen_is = ap (λ l. l ++ one ∷ []) is.seen_is;
    work_is = is.work_is;
    failed = is.failed;
    free = is.free;
  };
}

-- one question more
so_far-question : (meaning : Meaning) (start work : Work) (known : Known) (nodes : List NodeState)
    (failure : Option Failure) (n : ℕ) (first now next : Moment) (seen : List Seen)
    (one : Option Seen) → SoFar meaning start false first now known (IsAt nodes seen work failure)
    → may_decide (rules_of start) nodes ≡ Some n
    → Adds meaning now.history next.history (OwnLook one)
    → next.events ≡ now.events → next.out ≡ now.out
    → SoFar meaning start false first next known
    (IsAt nodes (seen ++ answered (one ∷ [])) work failure)
so_far-question meaning start work known nodes failure n first now next seen None so may adds events out =
    subst (λ l. SoFar meaning start false first next known (IsAt nodes l work failure))
    (sym (append-nil seen))
    (so_far-nothing meaning start first now next known (IsAt nodes seen work failure) so
    (called-nothing meaning now.history next.history adds) events out)
so_far-question meaning start work known nodes failure n first now next seen (Some one) so may adds
    events out =
    let call : Called meaning now.history next.history (LookItem n one) =
    called-look meaning now.history next.history n one adds in
    so_far-called meaning start false first now next known known (IsAt nodes seen work failure)
    (IsAt nodes (seen ++ one ∷ []) work failure) (LookItem n one) (does (looks n one) ∷ []) so call
    call.is_own (events ∙ sym (append-nil now.events)) (λ tasks has. has)
    (λ tasks dry has is. go_on-looks start work nodes failure n tasks one seen dry may is)
    (λ tasks dry has is. unprinted now next [] out refl)

none-asked : (meaning : Meaning) (a b : Option History) → Told a b (LooksAll meaning [])
    → Called meaning a b NoItem
none-asked meaning a None told = called-nothing meaning a None tt
none-asked meaning None (Some y) told = absurd told
none-asked meaning (Some x) (Some y) same =
    subst (λ h. Called meaning (Some x) (Some h) NoItem) (sym same) (called-none meaning (Some x))

answered-one : (one : Option Seen) (more : List (Option Seen))
    → answered (one ∷ more) ≡ answered (one ∷ []) ++ answered more
answered-one None more = refl
answered-one (Some one) more = refl

-- questions, one after the other
so_far-questions : (meaning : Meaning) (start work : Work) (known : Known) (nodes : List NodeState)
    (failure : Option Failure) (n : ℕ) (first : Moment) (out : Option (List ℕ)) (events : List Event)
    (questions : List (Option Seen)) (a b : Option History) (seen : List Seen)
    → Told a b (LooksAll meaning questions)
    → SoFar meaning start false first (moment a out events) known (IsAt nodes seen work failure)
    → may_decide (rules_of start) nodes ≡ Some n
    → SoFar meaning start false first (moment b out events) known
    (IsAt nodes (seen ++ answered questions) work failure)
so_far-questions meaning start work known nodes failure n first out events [] a b seen told so may =
    subst (λ l. SoFar meaning start false first (moment b out events) known
    (IsAt nodes l work failure)) (sym (append-nil seen))
    (so_far-nothing meaning start first (moment a out events) (moment b out events) known
    (IsAt nodes seen work failure) so (none-asked meaning a b told) refl refl)
so_far-questions meaning start work known nodes failure n first out events (one ∷ more) a None seen told
    so may =
    subst (λ l. SoFar meaning start false first (moment None out events) known
    (IsAt nodes l work failure))
    (append_assoc seen (answered (one ∷ [])) (answered more)
    ∙ ap (λ l. seen ++ l) (sym (answered-one one more)))
    (so_far-questions meaning start work known nodes failure n first out events more None None
    (seen ++ answered (one ∷ [])) tt
    (so_far-question meaning start work known nodes failure n first (moment a out events)
    (moment None out events) seen one so may tt refl refl) may)
so_far-questions meaning start work known nodes failure n first out events (one ∷ more) None (Some y)
    seen told so may = absurd told
so_far-questions meaning start work known nodes failure n first out events (one ∷ more) (Some x) (Some y)
    seen told so may =
    subst (λ l. SoFar meaning start false first (moment (Some y) out events) known
    (IsAt nodes l work failure))
    (append_assoc seen (answered (one ∷ [])) (answered more)
    ∙ ap (λ l. seen ++ l) (sym (answered-one one more)))
    (so_far-questions meaning start work known nodes failure n first out events more (Some told.0)
    (Some y) (seen ++ answered (one ∷ [])) told.2
    (so_far-question meaning start work known nodes failure n first (moment (Some x) out events)
    (moment (Some told.0) out events) seen one so may told.1 refl refl) may)

-- a node was looked at
pub so_far-looks : (meaning : Meaning) (start work : Work) (known : Known) (nodes : List NodeState)
    (failure : Option Failure) (n : ℕ) (first : Moment) (out : Option (List ℕ)) (events : List Event)
    (a b : Option History) (seen : List Seen) → LooksAt meaning a b seen
    → may_decide (rules_of start) nodes ≡ Some n
    → SoFar meaning start false first (moment a out events) known (IsAt nodes [] work failure)
    → SoFar meaning start false first (moment b out events) known (IsAt nodes seen work failure)
so_far-looks meaning start work known nodes failure n first out events a b seen looked may so =
    subst (λ l. SoFar meaning start false first (moment b out events) known
    (IsAt nodes l work failure)) (sym looked.are)
    (so_far-questions meaning start work known nodes failure n first out events looked.questions a b []
    looked.told so may)

-- the task of one more node is known

abbrev pub with_task : Known → ℕ → List TaskLine → Known
with_task known n lines = λ one. if one == n then Some lines else known one

same_node : (n : ℕ) → (n == n) ≡ true
same_node n = grind (arith, nat_tests, common_steps)

other_node : (n node : ℕ) → node ≢ n → (node == n) ≡ false
other_node n node other = grind (arith, nat_tests, common_steps)

pub task-now : (known : Known) (n : ℕ) (lines : List TaskLine)
    → with_task known n lines n ≡ Some lines
task-now known n lines = rw (same_node n) refl

pub has-before : (known : Known) (n : ℕ) (lines : List TaskLine) (tasks : run.Tasks)
    → known n ≡ None → HasTasks tasks (with_task known n lines) → HasTasks tasks known
has-before known n lines tasks unknown has node own is = elim (cases_eq node n) [
  | inl same ↦ absurd (none-some (sym (ap known same ∙ unknown) ∙ is))
  | inr other ↦ has node own (rw (other_node n node other) is)
]
  where
    none-some : None ≡ Some own → ⊥
    none-some is = cc

pub unknown-behind : (known : Known) (n : ℕ) (lines : List TaskLine) → AreUnknownFrom n known
    → AreUnknownFrom (n + 1) (with_task known n lines)
unknown-behind known n lines unknown node from =
    rw (other_node n node (above node from)) (unknown node (omega (arith, from)))
  where
    above : (node : ℕ) → n + 1 ≤ node → node ≢ n
    above node from same = omega (arith, from, same)

pub unknown-still : (known : Known) (n : ℕ) → AreUnknownFrom n known → AreUnknownFrom (n + 1) known
unknown-still known n unknown node from = unknown node (omega (arith, from))

-- a kept node is settled
go_on-keeps : (start work : Work) (nodes : List NodeState) (failure : Option Failure) (n : ℕ)
    (lines : List TaskLine) (tasks : run.Tasks) (seen : List Seen) (dry : Dry)
    → may_decide (rules_of start) nodes ≡ Some n → tasks n ≡ lines
    → IsAt nodes seen work failure tasks dry → IsKept work n seen lines
    → GoesOn start tasks dry (does (keeps n) ∷ []) (IsAt (set nodes n Settled) [] work failure)
go_on-keeps start work nodes failure n lines tasks seen dry may task is kept = record {
  makes = (
    ((is.due_is, rw is.nodes_are may), tt),
    (
      is.free,
      subst (λ w. IsKept w n dry.seen (tasks n)) (sym is.work_is)
          (subst (λ l. IsKept work n l (tasks n)) (sym is.seen_is)
          (subst (IsKept work n seen) (sym task) kept)),
    ),
    tt,
  );
  stands = record {
    nodes_are = ap (λ l. set l n Settled) is.nodes_are;
    due_is = refl;
    seen_is = refl;
    work_is = is.work_is;
    failed = is.failed;
    free = is.free;
  };
}

pub so_far-keeps : (meaning : Meaning) (start work : Work) (known : Known) (nodes : List NodeState)
    (failure : Option Failure) (n : ℕ) (lines : List TaskLine) (seen : List Seen) (first : Moment)
    (history : Option History) (out : Option (List ℕ)) (events now : List Event)
    → may_decide (rules_of start) nodes ≡ Some n → known n ≡ None → IsKept work n seen lines
    → SoFar meaning start false first (moment history out events) known (IsAt nodes seen work failure)
    → now ≡ events ++ event.Kept n ∷ []
    → SoFar meaning start false first (moment history out now) (with_task known n lines)
    (IsAt (set nodes n Settled) [] work failure)
so_far-keeps meaning start work known nodes failure n lines seen first history out events now may unknown
    kept so told =
    so_far-own meaning start false first (moment history out events) (moment history out now) known
    (with_task known n lines) (IsAt nodes seen work failure)
    (IsAt (set nodes n Settled) [] work failure) (does (keeps n) ∷ []) so refl (λ stand. (tt, tt)) refl
    told (λ tasks has. has-before known n lines tasks unknown has)
    (λ tasks dry has is. go_on-keeps start work nodes failure n lines tasks seen dry may
    (has n lines (task-now known n lines)) is kept)
    (λ tasks dry has is. unprinted (moment history out events) (moment history out now) [] refl refl)

-- a refused node has failed
go_on-refuses : (start work : Work) (nodes : List NodeState) (failure : Option Failure) (n number : ℕ)
    (what : ExpandFault) (tasks : run.Tasks) (seen : List Seen) (dry : Dry)
    → may_decide (rules_of start) nodes ≡ Some n
    → IsAt nodes seen work failure tasks dry → IsRefused work n seen number what
    → GoesOn start tasks dry (does (refuses n number what) ∷ [])
    (IsAt (set nodes n Failed) [] work (or_next failure (Some (Expand n number what))))
go_on-refuses start work nodes failure n number what tasks seen dry may is refused = record {
  makes = (
    ((is.due_is, rw is.nodes_are may), tt),
    (
      is.free,
      subst (λ w. IsRefused w n dry.seen number what) (sym is.work_is)
          (subst (λ l. IsRefused work n l number what) (sym is.seen_is) refused),
    ),
    tt,
  );
  stands = record {
    nodes_are = ap (λ l. set l n Failed) is.nodes_are;
    due_is = refl;
    seen_is = refl;
    work_is = is.work_is;
    failed = ap (λ f. or_next f (Some (Expand n number what))) is.failed;
    free = is.free;
  };
}

pub so_far-refuses : (meaning : Meaning) (start work : Work) (known : Known) (nodes : List NodeState)
    (failure : Option Failure) (n number : ℕ) (what : ExpandFault) (seen : List Seen) (first : Moment)
    (history : Option History) (out : Option (List ℕ)) (events now : List Event)
    → may_decide (rules_of start) nodes ≡ Some n → IsRefused work n seen number what
    → SoFar meaning start false first (moment history out events) known (IsAt nodes seen work failure)
    → now ≡ events ++ event.Refused n number ∷ []
    → SoFar meaning start false first (moment history out now) known
    (IsAt (set nodes n Failed) [] work (or_next failure (Some (Expand n number what))))
so_far-refuses meaning start work known nodes failure n number what seen first history out events now may
    refused so told =
    so_far-own meaning start false first (moment history out events) (moment history out now) known known
    (IsAt nodes seen work failure)
    (IsAt (set nodes n Failed) [] work (or_next failure (Some (Expand n number what))))
    (does (refuses n number what) ∷ []) so refl (λ stand. (tt, tt)) refl told (λ tasks has. has)
    (λ tasks dry has is. go_on-refuses start work nodes failure n number what tasks seen dry may is refused)
    (λ tasks dry has is. unprinted (moment history out events) (moment history out now) [] refl refl)

-- the lines of a node are to be shown

dry-some : (lines : List TaskLine) → 0 < length lines → 0 < length (map dry_line lines)
dry-some [] some = absurd (omega (arith, some))
dry-some (one ∷ lines) some = omega arith

-- the scene of a node that is out of date
abbrev pub scene_of : Work → Moment → Known → List NodeState → Work → Option Failure → ℕ
    → List TaskLine → Scene
scene_of start first known nodes work failure n lines = record {
  start = start;
  first = first;
  known = with_task known n lines;
  node = n;
  lines = lines;
  opened = set nodes n Open;
  work = with_shown work n 1;
  failure = failure;
}

poised-first : (start work : Work) (first : Moment) (known : Known) (nodes : List NodeState)
    (failure : Option Failure) (n : ℕ) (lines : List TaskLine) (tasks : run.Tasks) (seen : List Seen)
    (dry : Dry) → may_decide (rules_of start) nodes ≡ Some n → tasks n ≡ lines → 0 < length lines
    → IsBegun work n seen lines → IsAt nodes seen work failure tasks dry
    → IsPoised (scene_of start first known nodes work failure n lines) 1 tasks dry
poised-first start work first known nodes failure n lines tasks seen dry may task some begun is = record {
  nodes_are = ap (λ l. set l n Open) is.nodes_are;
  may = subst (run.MayStart (rules_of start) (dry_tasks tasks) dry.run n 1) (sym is.due_is)
      (rw is.nodes_are may, refl, rw task (dry-some lines some));
  reason = λ one. subst (λ w. IsBegun w n dry.seen lines) (sym is.work_is)
      (subst (λ l. IsBegun work n l lines) (sym is.seen_is) begun);
  work_is = ap (λ w. with_shown w n 1) is.work_is;
  failed = is.failed;
  free = is.free;
}

pub so_far-begun : (meaning : Meaning) (start work : Work) (known : Known) (nodes : List NodeState)
    (failure : Option Failure) (n : ℕ) (lines : List TaskLine) (seen : List Seen) (first now : Moment)
    → may_decide (rules_of start) nodes ≡ Some n → known n ≡ None → 0 < length lines
    → IsBegun work n seen lines
    → SoFar meaning start false first now known (IsAt nodes seen work failure)
    → SoFar meaning start false first now (with_task known n lines)
    (IsBehind (scene_of start first known nodes work failure n lines) 0)
so_far-begun meaning start work known nodes failure n lines seen first now may unknown some begun so =
    so_far-weaken meaning start false first now known (with_task known n lines)
    (IsAt nodes seen work failure) (IsBehind (scene_of start first known nodes work failure n lines) 0) so
    (λ tasks has. has-before known n lines tasks unknown has)
    (λ tasks dry has is. (
      (λ more. poised-first start work first known nodes failure n lines tasks seen dry may
          (has n lines (task-now known n lines)) some begun is),
      (λ none. absurd (none-left (length lines) some none)),
    ))
  where
    none-left : (k : ℕ) → 0 < k → k ≤ 0 → ⊥
    none-left k some none = omega arith
