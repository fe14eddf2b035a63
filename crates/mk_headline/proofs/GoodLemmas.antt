-- A build beside its turns, item after item.
use Rattle.std.proofs.Common.{◌≡◌, ◌∙◌, ℕ, zero, suc, ◌<◌, ◌==◌, ◌&&◌, ◌||◌, not, nat_le, nat_lt, List, [], ◌∷◌, ◌++◌, length, map, slice_get, Option, Some, None, Bool, true, false, if◌then◌else◌}
use Rattle.std.proofs.Common.{refl, sym, ap, subst, arith, eqb-true}
use Rattle.std.proofs.lemmas.Option.{slice_get_within}
use Rattle.std.specs.List.{list_any}
use Rattle.mk_clean.specs.Clean.{Plan}
use Rattle.mk_clean.specs.Turns as turn
use Rattle.mk_clean.specs.Turns.{waiting, Turn, after_turns, SourcesSettled, MayTurns}
use Rattle.mk_decision.specs.Decisions.{Work, IsBegun, newer_of, setting_by}
use Rattle.mk_values.specs.declared.facts.Asked.{Asked}
use Rattle.mk_headline.proofs.PastLemmas.{Past, past-more, together, sources-settled}
use Rattle.mk_headline.proofs.PlanLemmas.{job-among}
use Rattle.mk_headline.proofs.StageLemmas.{AreOfNodes, InLine, FitsNode, may-append, after-append, own-stage, ready}
use Rattle.mk_headline.proofs.TurnLemmas.{none_failed-set, slice-here, Removing, Turning, refused, waited, started, passed, taken, stepped-on, changed-by}
use Rattle.mk_headline.specs.Plans.{clean_plan, has_job}
use Rattle.mk_headline.specs.Premises.{IsWellMade}
use Rattle.mk_headline.specs.Turned.{ended_by}
use Rattle.mk_plan.specs.Deciding.{Rules, first_ready, is_failed, is_stopped, may_decide, open_jobs}
use Rattle.mk_plan.specs.Lists.{is_nil}
use Rattle.mk_plan.specs.Plans.{node_at}
use Rattle.mk_plan.specs.Tasks.{Setting, lines_from, locals_of, manner_of, task_with}
use Rattle.mk_plan.specs.declared.plan.NodeState.{NodeState}
use Rattle.mk_plan.specs.declared.plan.NodeState.TheVariants.{Undecided, Open, Settled, Failed}
use Rattle.mk_plan.specs.declared.tasks.Manner.{Manner}
use Rattle.mk_values.specs.declared.local.Locals.{Locals}
use Rattle.mk_bytes.specs.Agrees.{◌>>=◌}
use Rattle.mk_trace.proofs.BegunLemmas.{may-undecided, Steady, steady-all}
use Rattle.mk_trace.proofs.TrueChildren.{end-child}
use Rattle.mk_trace.proofs.TrueRuns.{ended_run, IsFree, free-ended, taken-due}
use Rattle.mk_trace.specs.Builds.{Build, Duty, Own, MayLook, is_removed, free, remove, begin, date, close, stop, Makes, MayMake, IsCommandOf, first_build, build_after, build_after_all, rules_of, behind_look, behind_end, or_next}
use Rattle.mk_trace.specs.Calls.{NoneLeft}
use Rattle.mk_trace.specs.Collected.{has_meta}
use Rattle.mk_trace.specs.declared.result.Failure.{Failure}
use Rattle.mk_trace.specs.Items.{gone, head, whole, cut_head, cut_whole, Item, looks, keeps, refuses, starts, passes, waits, steps, ends, changes, leaves, reported, happened, Fits}
use Rattle.mk_trace.specs.Runs as run
use Rattle.mk_trace.specs.Together.{AreTogether, HasChild, IsNotDue}
use Rattle.mk_world.specs.Calls.{EndsAs}
use Rattle.mk_world.specs.History.{State as Stand, MayAll as MayHappen, after_all as stand_after, child_in, contents}
use Rattle.mk_world.specs.Looks.{Seen}
use Rattle.mk_world.specs.Talks.{Meaning}
use Rattle.mk_world.specs.declared.command.Cmd.{Cmd}
use Rattle.mk_world.specs.declared.command.Task.{Task}
use Rattle.mk_world.specs.declared.command.TaskLine.{TaskLine}
use Rattle.mk_world.specs.declared.history.Child.{Child}
use Rattle.mk_world.specs.declared.step.Deed.{Deed}
use Rattle.mk_world.specs.declared.step.Ended.{Ended}
use Rattle.std.specs.Prelude.{Result, Ok, Err}

-- a node that begins has commands

bound : {A B E : Type 0} (given : Result A E) (next : A → Result B E) (last : B)
    → (given >>= next) ≡ Ok last → (first : A) × (given ≡ Ok first) × (next first ≡ Ok last)
bound (Ok first) next last is = (first, refl, is)
bound (Err fault) next last is = absurd cc

same-ok : {A E : Type 0} (one other : A) → ◌≡◌ {A = Result A E} (Ok one) (Ok other) → one ≡ other
same-ok one other is = cc

nil-lines : (k : Setting) (locals : Locals) (manner : Manner) (commands : List (List ℕ))
    (all : List TaskLine × List Asked) → lines_from k locals manner [] 1 [] commands ≡ Ok all
    → 0 < length all.0 → not (is_nil commands) ≡ true
unfolding lines_from
nil-lines k locals manner [] all is some =
    let none : [] ≡ all.0 = ap (λ (one : List TaskLine × List Asked). one.0) (same-ok ([], []) all is) in
    absurd (omega (arith, subst (λ (l : List TaskLine). 0 < length l) (sym none) some))
nil-lines k locals manner (one ∷ commands) all is some = refl

pub begun-has : (work : Work) (node : ℕ) (seen : List Seen) (lines : List TaskLine)
    → IsBegun work node seen lines → 0 < length lines → has_job (node_at work.plan node) ≡ true
begun-has work node seen lines begun some =
    let sight = begun.2.sight in
    let all = bound
    (lines_from (setting_by work sight.asked)
    (locals_of work.suffixes work.plan node (newer_of work node sight.target sight.sources))
    (manner_of work.mode work.flags (node_at work.plan node).marks) [] 1 []
    (node_at work.plan node).commands)
    (λ (made : List TaskLine × List Asked).
    Ok (task_with work.variables work.mode.exports (node_at work.plan node).name made.0, made.1)) _ begun.2.has in
    let lines_are : all.0.0 ≡ lines =
    ap (λ (made : Task × List Asked). made.0.lines) (same-ok _ _ all.2) ∙ sym begun.3 in
    nil-lines (setting_by work sight.asked)
    (locals_of work.suffixes work.plan node (newer_of work node sight.target sight.sources))
    (manner_of work.mode work.flags (node_at work.plan node).marks) (node_at work.plan node).commands
    all.0 all.1 (subst (λ (l : List TaskLine). 0 < length l) (sym lines_are) some)

-- failures

refuse-fails : (failure : Option Failure) (next : Failure) → or_next failure (Some next) ≡ None → ⊥
refuse-fails None next is = absurd cc
refuse-fails (Some failure) next is = absurd cc

end-well : (fails : Bool) (failure : Option Failure) (next : Failure)
    → (if fails then or_next failure (Some next) else failure) ≡ None → (fails ≡ false) × (failure ≡ None)
end-well true failure next is = absurd (refuse-fails failure next is)
end-well false failure next is = (refl, is)

next-none : (failure next : Option Failure) → or_next failure next ≡ None → failure ≡ None
next-none None next is = refl
next-none (Some failure) next is = absurd cc

pub failure-back : (work : Work) (tasks : run.Tasks) (build : Build) (item : Item)
    → (build_after work tasks build item).failure ≡ None → build.failure ≡ None
failure-back work tasks build (looks node seen) is = is
failure-back work tasks build (keeps node) is = is
failure-back work tasks build (refuses node number what) is = next-none build.failure _ is
failure-back work tasks build (starts node number ticket owner cmd) is = is
failure-back work tasks build (passes node number) is = is
failure-back work tasks build waits is = is
failure-back work tasks build (steps ticket owner deed time) is = is
failure-back work tasks build (ends node number owner ended) is =
    (end-well (run.fails (run.line_of (tasks node) number) ended.status) build.failure _ is).1
failure-back work tasks build (changes node change) is = is
failure-back work tasks build (leaves ticket owner) is = is

pub failure-all : (work : Work) (tasks : run.Tasks) (build : Build) (items : List Item)
    → (build_after_all work tasks build items).failure ≡ None → build.failure ≡ None
failure-all work tasks build [] is = is
failure-all work tasks build (item ∷ items) is =
    failure-back work tasks build item (failure-all work tasks (build_after work tasks build item) items is)

-- what stays between items

started-free : (work : Work) (one : Option TaskLine) (cmd : Cmd) (node number : ℕ) → IsCommandOf work one cmd
    → IsFree (if run.has_child one then run.anything else run.close node number)
started-free work None cmd node number is = absurd is
started-free work (Some line) cmd node number is = rw is.0 tt

pub free-after : (work : Work) (tasks : run.Tasks) (build : Build) (item : Item) → IsFree build.run.due
    → MayMake work tasks build item → IsFree (build_after work tasks build item).run.due
free-after work tasks build (looks node seen) free_due may = free_due
free-after work tasks build (keeps node) free_due may = tt
free-after work tasks build (refuses node number what) free_due may = tt
free-after work tasks build (starts node number ticket owner cmd) free_due may =
    started-free work (run.line_of (tasks node) number) cmd node number may.1
free-after work tasks build (passes node number) free_due may =
    free-ended (run.start_line tasks build.run node number) node number false
    (nat_le (length (tasks node)) number
    || is_stopped (rules_of work) (run.start_line tasks build.run node number).nodes)
free-after work tasks build waits free_due may = tt
free-after work tasks build (steps ticket owner deed time) free_due may = free_due
free-after work tasks build (ends node number owner ended) free_due may =
    free-ended build.run node number (run.fails (run.line_of (tasks node) number) ended.status)
    (nat_le (length (tasks node)) number || is_stopped (rules_of work) build.run.nodes)
free-after work tasks build (changes node change) free_due may = free_due
free-after work tasks build (leaves ticket owner) free_due may = free_due

ended-sound : (state : run.State) (n number : ℕ) (failed stops : Bool) → failed ≡ false
    → list_any is_failed state.nodes ≡ false
    → list_any is_failed (ended_run state n number failed stops).nodes ≡ false
ended-sound state n number true stops well sound = absurd cc
ended-sound state n number false true well sound = none_failed-set state.nodes n Settled refl sound
ended-sound state n number false false well sound = sound

sound-after : (work : Work) (tasks : run.Tasks) (build : Build) (item : Item)
    → list_any is_failed build.run.nodes ≡ false → (build_after work tasks build item).failure ≡ None
    → list_any is_failed (build_after work tasks build item).run.nodes ≡ false
sound-after work tasks build (looks node seen) sound well = sound
sound-after work tasks build (keeps node) sound well = none_failed-set build.run.nodes node Settled refl sound
sound-after work tasks build (refuses node number what) sound well =
    absurd (refuse-fails build.failure _ well)
sound-after work tasks build (starts node number ticket owner cmd) sound well =
    none_failed-set build.run.nodes node Open refl sound
sound-after work tasks build (passes node number) sound well =
    ended-sound (run.start_line tasks build.run node number) node number false
    (nat_le (length (tasks node)) number
    || is_stopped (rules_of work) (run.start_line tasks build.run node number).nodes) refl
    (none_failed-set build.run.nodes node Open refl sound)
sound-after work tasks build waits sound well = sound
sound-after work tasks build (steps ticket owner deed time) sound well = sound
sound-after work tasks build (ends node number owner ended) sound well =
    ended-sound build.run node number (run.fails (run.line_of (tasks node) number) ended.status)
    (nat_le (length (tasks node)) number || is_stopped (rules_of work) build.run.nodes)
    (end-well (run.fails (run.line_of (tasks node) number) ended.status) build.failure _ well).0 sound
sound-after work tasks build (changes node change) sound well = sound
sound-after work tasks build (leaves ticket owner) sound well = sound

-- where nothing has failed, no node has
pub sound-all : (work : Work) (tasks : run.Tasks) (build : Build) (items : List Item)
    → list_any is_failed build.run.nodes ≡ false → (build_after_all work tasks build items).failure ≡ None
    → list_any is_failed (build_after_all work tasks build items).run.nodes ≡ false
sound-all work tasks build [] sound well = sound
sound-all work tasks build (item ∷ items) sound well =
    sound-all work tasks (build_after work tasks build item) items
    (sound-after work tasks build item sound
    (failure-all work tasks (build_after work tasks build item) items well)) well

-- a run that goes on
pub decides-going : (rules : Rules) (nodes : List NodeState) (n : ℕ) → may_decide rules nodes ≡ Some n
    → is_stopped rules nodes ≡ false
decides-going rules nodes n may = by (is_stopped rules nodes) (nat_lt (open_jobs nodes) rules.jobs) may
  where
    by : (stopped room : Bool) → (if not stopped && room then first_ready nodes 0 rules.before else None) ≡ Some n
        → stopped ≡ false
    by true room given = absurd cc
    by false room given = refl

look-removes : (duty : Duty) (n : ℕ) → behind_look duty ≡ remove n → duty ≡ remove n
look-removes free n is = absurd cc
look-removes (remove one) n is = is
look-removes (begin one) n is = absurd cc
look-removes (date one) n is = absurd cc
look-removes (close one) n is = absurd cc
look-removes stop n is = absurd cc

closing-removes : (one n : ℕ) (b : Bool) → (if b then date one else free) ≡ remove n → ⊥
closing-removes one n true is = absurd cc
closing-removes one n false is = absurd cc

-- a target is removed behind a line that has failed
removes-end : (work : Work) (node n : ℕ) (fails over : Bool) → behind_end work node fails over ≡ remove n
    → (fails ≡ true) × (n ≡ node) × (is_removed work node ≡ true)
removes-end work node n true over is = removed (is_removed work node) is
  where
    removed : (b : Bool) → (if b then remove node else free) ≡ remove n
        → (true ≡ true) × (n ≡ node) × (b ≡ true)
    removed true given = (refl, cc, refl)
    removed false given = absurd cc
removes-end work node n false over is =
    absurd (closing-removes node n (over && has_meta work node) is)

removed-plain : (work : Work) (node : ℕ) → is_removed work node ≡ true
    → (node_at work.plan node).marks.phony ≡ false
removed-plain work node is =
    by work.mode.delete_on_error (node_at work.plan node).marks.phony (node_at work.plan node).marks.precious is
  where
    by : (asked phony precious : Bool) → (asked && (not phony && not precious)) ≡ true → phony ≡ false
    by true true precious given = absurd cc
    by true false precious given = refl
    by false phony precious given = absurd cc

none-open : (before : List (List ℕ)) (node : ℕ) (stands : NodeState)
    → slice_get (map (λ one. Undecided) before) node ≡ Some stands → Undecided ≡ stands
none-open [] node stands is = absurd cc
none-open (one ∷ before) zero stands is = cc
none-open (one ∷ before) (suc node) stands is = none-open before node stands is

pub none-failed : (before : List (List ℕ)) → list_any is_failed (map (λ one. Undecided) before) ≡ false
none-failed [] = refl
none-failed (one ∷ before) = none-failed before

module _ (meaning : Meaning) (work : Work) (tasks : run.Tasks) (entry : Stand)
    (idle : entry.children ≡ []) (well : IsWellMade work) where
  abbrev plan : Plan
  plan = clean_plan work tasks

  abbrev pub begins_at : turn.Build
  begins_at = turn.first_build (contents entry.files)

  pub of-together : {state : run.State} {own : ℕ → Own} {children : List Child}
      → AreTogether work tasks state own children → AreOfNodes state own children
  of-together are = record { node = are.node; apart = are.apart }

  -- a build so far, and the turns beside it
  pub record Good (done : List Item) (build : Build) (stand : Stand) (turns : List Turn)
      (clean : turn.Build) : Type 0
    where
      pub past : Past meaning work tasks entry idle done build stand
      pub may : MayTurns meaning plan begins_at turns
      pub at : after_turns plan begins_at turns ≡ clean
      pub files : contents stand.files ≡ clean.files
      pub steady : Steady build.run.nodes build.run.due
      pub free_due : IsFree build.run.due
      pub removing : (n : ℕ) → build.duty ≡ remove n → Removing meaning work tasks build clean n
      pub nodes : (node : ℕ) → FitsNode meaning work tasks build.run build.own stand.children node
          (clean.stage node)

  pub good-first : Good [] (first_build work) entry [] begins_at
  good-first = record {
    past = record { at = refl; stand_at = refl; makes = tt; happens = tt; fits = tt; none = tt };
    may = tt;
    at = refl;
    files = refl;
    steady = tt;
    free_due = tt;
    removing = λ n is. absurd cc;
    nodes = λ node. record {
      undecided = λ is. refl;
      decided = λ going is. let same = none-open (rules_of work).before node Settled is in absurd cc;
      running = λ child has here. let same = none-open (rules_of work).before node Open has.0 in absurd cc;
      due = λ number is. absurd cc;
    };
  }

  abbrev IsRemoving : Build → turn.Build → Type 0
  IsRemoving build clean = (n : ℕ) → build.duty ≡ remove n → Removing meaning work tasks build clean n

  -- a step leaves a node that has failed so
  removing-step : (build : Build) (clean : turn.Build) (m : ℕ) (deed : Deed) (turns : List Turn)
      → turns ≡ turn.steps m deed ∷ [] → IsRemoving build clean
      → IsRemoving build (after_turns plan clean turns)
  removing-step build clean m deed turns turns_are removing n is =
      let was = removing n is in
      record {
        stage_is = ap (λ l. (after_turns plan clean l).stage n) turns_are ∙ by (m == n) refl was.stage_is;
        shut = was.shut;
        makes = was.makes;
      }
    where
      by : (mine : Bool) → (m == n) ≡ mine → clean.stage n ≡ turn.failed
          → (if mine then turn.stepped deed (clean.stage m) else clean.stage n) ≡ turn.failed
      by true same failed_is =
          ap (turn.stepped deed) (ap clean.stage (eqb-true m n same) ∙ failed_is)
      by false other failed_is = failed_is

  -- a line has failed
  removing-end : (done : List Item) (build : Build) (stand : Stand) (turns : List Turn)
      (clean : turn.Build) (node number owner : ℕ) (ended : Ended) → Good done build stand turns clean
      → Makes work tasks build (ends node number owner ended ∷ [])
      → Fits meaning stand (ends node number owner ended)
      → (now : Turning meaning work tasks build stand clean (ends node number owner ended))
      → IsRemoving (build_after work tasks build (ends node number owner ended)) (after_turns plan clean now.now)
  removing-end done build stand turns clean node number owner ended good makes fits now n is =
      subst (Removing meaning work tasks then_build (after_turns plan clean now.now)) (sym parts.1)
      (record {
        stage_is = ap (λ l. (after_turns plan clean l).stage node) turns_are
            ∙ own-stage meaning work tasks node turn.failed clean.stage;
        shut = ap (λ (r : run.State). slice_get r.nodes node) run_is
            ∙ slice-here build.run.nodes node Failed
            (slice_get_within build.run.nodes node Open due.1);
        makes = rw (line.has, removed-plain work node parts.2) refl;
      })
    where
      then_build : Build
      then_build = build_after work tasks build (ends node number owner ended)

      fails : Bool
      fails = run.fails (run.line_of (tasks node) number) ended.status

      over : Bool
      over = nat_le (length (tasks node)) number

      parts : (fails ≡ true) × (n ≡ node) × (is_removed work node ≡ true)
      parts = removes-end work node n fails over is

      turns_are : now.now ≡ turn.fails node ∷ []
      turns_are = now.turned ∙ ap (λ f. ended_by tasks node number f) parts.0

      run_is : then_build.run ≡ run.settle build.run node Failed
      run_is = ap (λ f. ended_run build.run node number f (over || is_stopped (rules_of work) build.run.nodes)) parts.0

      due : (build.run.due ≡ run.child) × (slice_get build.run.nodes node ≡ Some Open)
          × (build.run.started node ≡ number)
      due = taken-due build.run node number ended.status build.run.due good.free_due makes.0.0

      has : HasChild build.run node
      has = (due.1, subst (IsNotDue node) (sym due.0) tt)

      child : (child : Child) × (child_in stand.children ended.ticket.0 ≡ Some child)
          × (child.owner ≡ owner) × EndsAs meaning ended child
      child = end-child meaning ended owner (child_in stand.children ended.ticket.0) fits

      line : InLine meaning work tasks node (build.run.started node) child.0 (clean.stage node)
      line = (good.nodes node).running child.0 has (ap (child_in stand.children) makes.2 ∙ child.1)

  removing-next : (done : List Item) (build : Build) (stand : Stand) (turns : List Turn)
      (clean : turn.Build) (item : Item) → Good done build stand turns clean
      → Makes work tasks build (item ∷ []) → Fits meaning stand item
      → (now : Turning meaning work tasks build stand clean item)
      → IsRemoving (build_after work tasks build item) (after_turns plan clean now.now)
  removing-next done build stand turns clean (looks node seen) good makes fits now n is =
      absurd (subst (λ d. MayLook work d node seen) (look-removes build.duty n is) makes.1)
  removing-next done build stand turns clean (keeps node) good makes fits now n is =
      let both : free ≡ remove n = sym makes.1 ∙ is in absurd cc
  removing-next done build stand turns clean (refuses node number what) good makes fits now n is =
      let both : free ≡ remove n = sym makes.1 ∙ is in absurd cc
  removing-next done build stand turns clean (starts node number ticket owner cmd) good makes fits now n is =
      absurd cc
  removing-next done build stand turns clean (passes node number) good makes fits now n is =
      absurd (closing-removes node n (nat_le (length (tasks node)) number && has_meta work node) is)
  removing-next done build stand turns clean waits good makes fits now n is =
      let both : free ≡ remove n = sym makes.1 ∙ is in absurd cc
  removing-next done build stand turns clean (steps ticket owner deed time) good makes fits now n is =
      removing-step build clean now.turned.0 deed now.now now.turned.3 good.removing n is
  removing-next done build stand turns clean (ends node number owner ended) good makes fits now n is =
      removing-end done build stand turns clean node number owner ended good makes fits now n is
  removing-next done build stand turns clean (changes node (gone path time)) good makes fits now n is = absurd cc
  removing-next done build stand turns clean (changes node (head path bytes time)) good makes fits now n is =
      absurd cc
  removing-next done build stand turns clean (changes node (whole path bytes time)) good makes fits now n is =
      absurd cc
  removing-next done build stand turns clean (changes node (cut_head path part time)) good makes fits now n is =
      absurd cc
  removing-next done build stand turns clean (changes node (cut_whole path part time)) good makes fits now n is =
      absurd cc
  removing-next done build stand turns clean (leaves ticket owner) good makes fits now n is =
      let was = good.removing n is in
      record {
        stage_is = ap (λ l. (after_turns plan clean l).stage n) now.turned ∙ was.stage_is;
        shut = was.shut;
        makes = was.makes;
      }

  pub good-next : (done : List Item) (build : Build) (stand : Stand) (turns : List Turn)
      (clean : turn.Build) (item : Item) → Good done build stand turns clean
      → Makes work tasks build (item ∷ []) → MayHappen meaning stand (happened item)
      → Fits meaning stand item → NoneLeft (item ∷ [])
      → (now : Turning meaning work tasks build stand clean item)
      → Good (done ++ item ∷ []) (build_after work tasks build item) (stand_after stand (happened item))
      (turns ++ now.now) (after_turns plan clean now.now)
  good-next done build stand turns clean item good makes may fits none now = record {
    past = past-more meaning work tasks entry idle done build stand item good.past makes may fits none;
    may = may-append meaning work tasks begins_at turns now.now good.may
        (subst (λ c. MayTurns meaning plan c now.now) (sym good.at) now.may);
    at = after-append meaning work tasks begins_at turns now.now
        ∙ ap (λ c. after_turns plan c now.now) good.at;
    files = now.files;
    steady = steady-all (rules_of work) tasks build.run (reported item) good.steady makes.0;
    free_due = free-after work tasks build item good.free_due makes.2;
    removing = removing-next done build stand turns clean item good makes fits now;
    nodes = now.nodes;
  }

  -- what the node that may be decided depends on is settled in the turns
  pub sources-ready : (done : List Item) (build : Build) (stand : Stand) (turns : List Turn)
      (clean : turn.Build) → Good done build stand turns clean → (n : ℕ)
      → run.MayDecide (rules_of work) build.run n → SourcesSettled plan clean n
  sources-ready done build stand turns clean good n may other depends =
      (good.nodes other).decided (decides-going (rules_of work) build.run.nodes n may.1)
      (sources-settled meaning work tasks entry idle done build stand well good.past n other may depends)

  pub waits-ready : (done : List Item) (build : Build) (stand : Stand) (turns : List Turn)
      (clean : turn.Build) → Good done build stand turns clean → (n : ℕ)
      → run.MayDecide (rules_of work) build.run n → clean.stage n ≡ waiting
  waits-ready done build stand turns clean good n may =
      (good.nodes n).undecided (may-undecided (rules_of work) build.run.nodes n may.1)

  -- each item but a look and a kept node
  abbrev pub IsOther : Item → Type 0
  IsOther (looks node seen) = ⊥
  IsOther (keeps node) = ⊥
  IsOther (refuses node number what) = Unit {0}
  IsOther (starts node number ticket owner cmd) = Unit {0}
  IsOther (passes node number) = Unit {0}
  IsOther waits = Unit {0}
  IsOther (steps ticket owner deed time) = Unit {0}
  IsOther (ends node number owner ended) = Unit {0}
  IsOther (changes node change) = Unit {0}
  IsOther (leaves ticket owner) = Unit {0}

  pub item-turns : (done : List Item) (build : Build) (stand : Stand) (turns : List Turn)
      (clean : turn.Build) (item : Item) → Good done build stand turns clean
      → Makes work tasks build (item ∷ []) → MayHappen meaning stand (happened item)
      → Fits meaning stand item → NoneLeft (item ∷ []) → IsOther item
      → Turning meaning work tasks build stand clean item
  item-turns done build stand turns clean (looks node seen) good makes may fits none other = absurd other
  item-turns done build stand turns clean (keeps node) good makes may fits none other = absurd other
  item-turns done build stand turns clean (refuses node number what) good makes may fits none other =
      refused meaning work tasks build stand clean node number what good.files good.nodes makes.0.0.0
      (may-undecided (rules_of work) build.run.nodes node makes.0.0.1)
  item-turns done build stand turns clean (starts node number ticket owner cmd) good makes may fits none other =
      started meaning work tasks build stand clean node number ticket owner cmd good.files good.nodes
      (together meaning work tasks entry idle done build stand good.past) good.steady makes.0.0 makes.2.1 may.0.1
      (ready meaning work tasks build.run build.own stand.children node number build.run.due clean refl
      makes.0.0
      (λ first some. begun-has work node (build.seen node) (tasks node) (makes.2.0 first) some)
      (sources-ready done build stand turns clean good node) (job-among work node) (good.nodes node))
  item-turns done build stand turns clean (passes node number) good makes may fits none other =
      passed meaning work tasks build stand clean node number good.files good.nodes good.steady
      makes.0
      (ready meaning work tasks build.run build.own stand.children node number build.run.due clean refl
      makes.0.0
      (λ first some. begun-has work node (build.seen node) (tasks node) (makes.2 first) some)
      (sources-ready done build stand turns clean good node) (job-among work node) (good.nodes node))
  item-turns done build stand turns clean waits good makes may fits none other =
      waited meaning work tasks build stand clean good.files good.nodes makes.0.0.0
  item-turns done build stand turns clean (steps ticket owner deed time) good makes may fits none other =
      stepped-on meaning work tasks build stand clean ticket owner time deed good.files good.nodes
      (of-together (together meaning work tasks entry idle done build stand good.past)) may
  item-turns done build stand turns clean (ends node number owner ended) good makes may fits none other =
      taken meaning work tasks build stand clean node number owner ended good.files good.nodes
      (together meaning work tasks entry idle done build stand good.past) good.free_due
      makes.0.0 makes.2 fits
  item-turns done build stand turns clean (changes node change) good makes may fits none other =
      changed-by meaning work tasks build stand clean node change good.files good.nodes
      (good.removing node) makes.1 makes.2
  item-turns done build stand turns clean (leaves ticket owner) good makes may fits none other =
      absurd none
