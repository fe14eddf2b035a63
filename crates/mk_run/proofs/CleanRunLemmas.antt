-- Runs whose builds leave what the clean build leaves.
use Rattle.std.proofs.Common.{◌≡◌, ◌∙◌, ℕ, List, [], ◌∷◌, Bool, true, false, Option, Some, Result, Ok, Err, slice_get, if◌then◌else◌}
use Rattle.std.proofs.Common.{inl, inr, refl, sym, ap, subst}
use Rattle.std.specs.List.{AllByRecursion}
use Rattle.mk_bytes.specs.Agrees.{◌>>=◌}
use Rattle.mk_clean.specs.Clean.{AllWell, CleanJob, IsAmong, Plan, after_job, clean_build, clean_end, clean_files, clean_jobs, cleared, doings_on}
use Rattle.mk_clean.specs.Declared.{IsDeclared}
use Rattle.mk_clean.specs.Jobs.{job}
use Rattle.mk_clean.specs.Same.{DoesCleanSteps, HasCleanFiles}
use Rattle.mk_clean.specs.Turns as turn
use Rattle.mk_clean.specs.Turns.{MayTurns}
use Rattle.mk_cli.specs.declared.order.Order.{Order}
use Rattle.mk_decision.specs.Decisions.{Work}
use Rattle.mk_decision.specs.Makers.{work_on}
use Rattle.mk_values.specs.declared.facts.Asked.{Asked}
use Rattle.mk_flags.specs.declared.Flags.{Flags}
use Rattle.mk_graph.specs.Nodes as graph
use Rattle.mk_graph.specs.declared.Made.{Made}
use Rattle.mk_headline.proofs.PlanLemmas.{clean-node, job-has}
use Rattle.mk_headline.specs.Laws.{IsClean, IsReadyBuild}
use Rattle.mk_headline.specs.Plans.{clean_plan, has_job, jobs_from, lines_of, makes_file}
use Rattle.mk_headline.specs.Premises.{IsWellMade}
use Rattle.mk_meta.specs.Jobs.{working}
use Rattle.mk_meta.specs.TrueHistory.{IsTrueHistory, deeds_of_job}
use Rattle.mk_plan.proofs.PlanLawLemmas.{names_differ, plans_reached, plans_sourced}
use Rattle.mk_plan.proofs.PlanLemmas.{nodes_of-ordered}
use Rattle.mk_plan.specs.Deciding.{is_stopped}
use Rattle.mk_plan.specs.Plans.{are_ordered, node_at, planned}
use Rattle.mk_bytes.specs.declared.pair.Pair.{Pair}
use Rattle.mk_plan.specs.Tasks.{task_with}
use Rattle.mk_plan.specs.declared.fault.TaskFault.{TaskFault}
use Rattle.mk_plan.specs.declared.plan.NodeState.TheVariants.{Settled}
use Rattle.mk_plan.specs.declared.plan.PlanNode.{PlanNode}
use Rattle.mk_pool.specs.Pool.{AreDistinct}
use Rattle.mk_scopes.specs.Scopes.{Variables}
use Rattle.mk_scopes.specs.declared.scopes.Env.{Env}
use Rattle.mk_trace.proofs.AlongLemmas.{OnlyAsked, questions-children, same-history}
use Rattle.mk_trace.proofs.QuestionLemmas.{questions-keep-truth}
use Rattle.mk_trace.specs.Builds.{build_after_all, command_of, first_build, rules_of}
use Rattle.mk_trace.specs.Items.{Item}
use Rattle.mk_trace.specs.Runs.{Tasks}
use Rattle.mk_trace.specs.TrueBuilds.{IsQuestion, LeavesFiles, longer}
use Rattle.mk_trace.specs.declared.result.BuildResult.TheVariants as build
use Rattle.mk_trace.specs.declared.result.BuildResult.{BuildResult}
use Rattle.mk_world.proofs.CallLemmas.{after_all-append}
use Rattle.mk_world.proofs.LawLemmas.{runs_stay_lawful}
use Rattle.mk_world.specs.Deeds.{Store, after_deeds}
use Rattle.mk_world.specs.History.{State as Stand, after, after_all, contents, effected_all, files_of, first_state, state_of}
use Rattle.mk_world.specs.Talks.{Doing, Meaning}
use Rattle.mk_world.specs.declared.command.Cmd.{Cmd}
use Rattle.mk_world.specs.declared.command.Task.{Task}
use Rattle.mk_world.specs.declared.command.TaskLine.{TaskLine}
use Rattle.mk_world.specs.declared.history.Happening.TheVariants as world
use Rattle.mk_world.specs.declared.history.Happening.{Happening}
use Rattle.mk_world.specs.declared.history.History.{History}
use Rattle.mk_modes.specs.Building.{IsEndOf}
use Rattle.mk_run.specs.CleanRuns.{ArePlansAlike, HasSameTask, IsReadyRun, LeavesCleanFiles, bare, clean_files_of, clean_jobs_of, files_behind, job_on, jobs_on, left_by, lines_of_task, lines_on, task_on}
use Rattle.mk_modes.specs.Modes.{Held}
use Rattle.mk_run.specs.Runs.{Closed}
use Rattle.mk_modes.specs.declared.report.End.TheVariants.{Done, NoMemory, SinkFault}
use Rattle.mk_modes.specs.declared.report.End.{End}

-- files behind questions

pub questions-leave : (state : Stand) (events : List Happening) → AllByRecursion IsQuestion events
    → AllByRecursion LeavesFiles events → (after_all state events).files ≡ state.files
questions-leave state [] are leave = refl
questions-leave state (world.Look path ∷ events) are leave =
    questions-leave (after state (world.Look path)) events are.1 leave.1
questions-leave state (world.Ask cmd asked ∷ events) are leave =
    questions-leave (after state (world.Ask cmd asked)) events are.1 leave.1
    ∙ ap (λ l. effected_all state.files l) leave.0
questions-leave state (world.Edit path bytes time ∷ events) are leave = absurd are.0
questions-leave state (world.Stamp path bytes time ∷ events) are leave = absurd are.0
questions-leave state (world.Put path bytes time ∷ events) are leave = absurd are.0
questions-leave state (world.Gone path time ∷ events) are leave = absurd are.0
questions-leave state (world.Start ticket owner cmd ∷ events) are leave = absurd are.0
questions-leave state (world.Step ticket owner deed time ∷ events) are leave = absurd are.0
questions-leave state (world.End ticket owner ∷ events) are leave = absurd are.0
questions-leave state (world.Left ticket owner ∷ events) are leave = absurd are.0

-- how things stand behind questions
pub asked-state : (meaning : Meaning) (old planned : History) (asked : OnlyAsked meaning old planned)
    → state_of planned ≡ after_all (state_of old) asked.run.events
asked-state meaning old planned asked =
    ap (λ b. after_all (first_state b) planned.events) asked.run.base
    ∙ (ap (after_all (first_state old.base)) asked.run.longer
    ∙ after_all-append (first_state old.base) old.events asked.run.events)

pub asked-history : (meaning : Meaning) (old planned : History) (asked : OnlyAsked meaning old planned)
    → longer old asked.run.events ≡ planned
asked-history meaning old planned asked =
    same-history (longer old asked.run.events) planned (sym asked.run.base) (sym asked.run.longer)

pub asked-files : (meaning : Meaning) (old planned : History) (asked : OnlyAsked meaning old planned)
    → AllByRecursion LeavesFiles asked.run.events → files_of planned ≡ files_of old
asked-files meaning old planned asked leave =
    ap (λ (s : Stand). contents s.files) (asked-state meaning old planned asked)
    ∙ ap contents (questions-leave (state_of old) asked.run.events asked.questions leave)

-- the jobs of the clean build that plans anew

task-directory : (variables : Variables) (exports : List Pair) (name : List ℕ) (lines : Result (List TaskLine × List Asked) TaskFault)
    (given : Task × List Asked)
    → (lines >>= λ all. Ok (task_with variables exports name all.0, all.1)) ≡ Ok given
    → (given.0.cwd ≡ variables.cwd) × (given.0.exports ≡ exports)
task-directory variables exports name (Ok all) given is =
    let same : (task_with variables exports name all.0, all.1) ≡ given = cc in (
      sym (ap (λ (one : Task × List Asked). one.0.cwd) same),
      sym (ap (λ (one : Task × List Asked). one.0.exports) same),
    )
task-directory variables exports name (Err fault) given is = absurd cc

command_in : List ℕ → List Pair → TaskLine → Cmd
command_in cwd exports one = record { text = one.text; cwd = cwd; exports = exports }

same-command : (clean work : Work) → clean.variables.cwd ≡ work.variables.cwd
    → clean.mode.exports ≡ work.mode.exports → command_of clean ≡ command_of work
unfolding command_in
same-command clean work same exports =
    ap (λ cwd. command_in cwd clean.mode.exports) same
    ∙ ap (command_in work.variables.cwd) exports

same-lines : (clean work : Work) (tasks : Tasks) (node : ℕ) (files : Store) (asked : List Asked)
    → has_job (node_at work.plan node) ≡ true
    → task_on clean node files
    ≡ Ok (task_with work.variables work.mode.exports (node_at work.plan node).name (tasks node), asked)
    → lines_on clean node files ≡ lines_of work tasks node
same-lines clean work tasks node files asked has is =
    ap lines_of_task is ∙ sym (ap (λ b. if b then working (tasks node) else []) has)

same-job : (meaning : Meaning) (clean work : Work) (tasks : Tasks) (node : ℕ) (files : Store)
    → has_job (node_at work.plan node) ≡ true
    → HasSameTask clean work tasks
    (record { node = node; before = files; doings = job_on meaning clean node files })
    → job_on meaning clean node files ≡ doings_on meaning (clean_plan work tasks) node files
same-job meaning clean work tasks node files has (asked, is) =
    let parts = task-directory clean.variables clean.mode.exports (node_at clean.plan node).name _ _ is in
    let directory : clean.variables.cwd ≡ work.variables.cwd = sym parts.0 in
    ap (λ command. job meaning command (lines_on clean node files) files)
    (same-command clean work directory (sym parts.1))
    ∙ ap (λ lines. job meaning (command_of work) lines files)
    (same-lines clean work tasks node files asked has is)

abbrev one_job : ℕ → Store → List Doing → CleanJob
one_job node files doings = record { node = node; before = files; doings = doings }

-- the jobs, and the files behind them, are those of the clean build of the run's plan
pub same-jobs : (meaning : Meaning) (clean work : Work) (tasks : Tasks) (nodes : List ℕ) (files : Store)
    → ((n : ℕ) → IsAmong n nodes → has_job (node_at work.plan n) ≡ true)
    → ((one : CleanJob) → IsAmong one (jobs_on meaning clean nodes files) → HasSameTask clean work tasks one)
    → (jobs_on meaning clean nodes files ≡ clean_jobs meaning (clean_plan work tasks) nodes files)
    × (files_behind meaning clean nodes files ≡ clean_end meaning (clean_plan work tasks) nodes files)
same-jobs meaning clean work tasks [] files have same = (refl, refl)
same-jobs meaning clean work tasks (node ∷ nodes) files have same =
    let plan = clean_plan work tasks in
    let here : job_on meaning clean node files ≡ doings_on meaning plan node files =
    same-job meaning clean work tasks node files (have node (inl refl))
    (same (record { node = node; before = files; doings = job_on meaning clean node files }) (inl refl)) in
    let behind : left_by meaning clean node files ≡ after_job meaning plan node files =
    ap (λ doings. after_deeds files (deeds_of_job doings)) here in
    let rest = same-jobs meaning clean work tasks nodes (after_job meaning plan node files)
    (λ n among. have n (inr among))
    (λ one among. same one (inr (subst (λ s. IsAmong one (jobs_on meaning clean nodes s)) (sym behind) among))) in (
      ap (λ doings. one_job node files doings ∷ jobs_on meaning clean nodes (after_deeds files (deeds_of_job doings)))
          here
          ∙ ap (λ l. one_job node files (doings_on meaning plan node files) ∷ l) rest.0,
      ap (λ doings. files_behind meaning clean nodes (after_deeds files (deeds_of_job doings))) here ∙ rest.1,
    )

-- The clean build that plans anew has the jobs and leaves the files of the clean build of the run's plan.
alike-jobs : (meaning : Meaning) (env : Env) (order : Order) (files : Store) (work clean : Work) (tasks : Tasks)
    → ArePlansAlike meaning env order files work tasks clean
    → (clean_jobs_of meaning clean (bare work.plan files) ≡ clean_build meaning (clean_plan work tasks) files)
    × (clean_files_of meaning clean (bare work.plan files) ≡ clean_files meaning (clean_plan work tasks) files)
alike-jobs meaning env order files work clean tasks alike = (
  ap (λ plan. jobs_on meaning clean (jobs_from 0 plan) (bare work.plan files)) alike.plan ∙ same.0,
  ap (λ plan. files_behind meaning clean (jobs_from 0 plan) (bare work.plan files)) alike.plan ∙ same.1,
)
  where
    same : (jobs_on meaning clean (jobs_from 0 work.plan) (bare work.plan files)
        ≡ clean_build meaning (clean_plan work tasks) files)
        × (files_behind meaning clean (jobs_from 0 work.plan) (bare work.plan files)
        ≡ clean_files meaning (clean_plan work tasks) files)
    same =
        same-jobs meaning clean work tasks (jobs_from 0 work.plan) (bare work.plan files)
        (λ n among. (job-has work n among).1)
        (λ one among. alike.same_tasks one
        (subst (λ plan. IsAmong one (jobs_on meaning clean (jobs_from 0 plan) (bare work.plan files)))
        (sym alike.plan) among))

-- each plan is well made
plan-ordered : (files : Store) (made : Made) (requested : List (List ℕ)) (query : Bool) (nodes : List PlanNode)
    → planned files made requested query ≡ Ok nodes → are_ordered 0 nodes ≡ true
plan-ordered files made requested query nodes is =
    let reached = plans_reached files made requested query nodes is in
    subst (λ l. are_ordered 0 l ≡ true) (sym reached.2.nodes_are)
    (nodes_of-ordered reached.0 query reached.2.order reached.2.whole.order_is)

pub well-made : (files : Store) (made : Made) (flags : Flags) (nodes : List PlanNode)
    → planned files made flags.requested flags.query ≡ Ok nodes → AreDistinct (graph.names_of made.graph)
    → IsWellMade (work_on nodes made flags)
well-made files made flags nodes is differ = record {
  ordered = plan-ordered files made flags.requested flags.query nodes is;
  sourced = plans_sourced files made flags.requested flags.query nodes is;
  distinct = names_differ files made flags.requested flags.query nodes differ is;
}

-- A build that leaves what the clean build of its plan leaves, behind questions that change no file, leaves what the
-- clean build leaves that plans anew.
pub clean-run : (meaning : Meaning) (env : Env) (order : Order) (made : Made) (flags : Flags) (nodes : List PlanNode)
    (tasks : Tasks) (items : List Item) (planned_at : Option History) (old planned_then new : History) (clean : Work)
    (files : Store) → planned_at ≡ Some planned_then → OnlyAsked meaning old planned_then
    → planned files made flags.requested flags.query ≡ Ok nodes
    → AreDistinct (graph.names_of made.graph)
    → (IsReadyBuild meaning (work_on nodes made flags) tasks planned_then
    → IsClean meaning (work_on nodes made flags) tasks items planned_then new)
    → IsReadyRun meaning env order planned_at (work_on nodes made flags) tasks old clean
    → LeavesCleanFiles meaning (work_on nodes made flags) tasks items old new clean (bare nodes (files_of old))
clean-run meaning env order made flags nodes tasks items planned_at old planned_then new clean files here asked is
    differ cleans ready = record {
      well = λ one among.
          subst (λ lines. AllWell lines one.doings) (sym (lines-are one among))
          (files_are.well one (subst (λ l. IsAmong one l) jobs.0 among));
      same = λ one among makes.
          let planned_makes = subst (λ plan. makes_file (node_at plan one.node) ≡ true) ready.alike.plan makes in
          subst (λ plan. files_of new (node_at plan one.node).name
          ≡ clean_files_of meaning clean (bare nodes (files_of old)) (node_at plan one.node).name)
          (sym ready.alike.plan)
          (files_are.same one (subst (λ l. IsAmong one l) jobs.0 among) planned_makes
          ∙ ap (λ (s : Store). s (node_at nodes one.node).name) (sym jobs.1));
      built = record {
        turns = left.built.turns;
        are = left.built.are;
        may = subst (λ s. MayTurns meaning plan (turn.first_build s) left.built.turns) start left.built.may;
        files = subst (λ s. (turn.after_turns plan (turn.first_build s) left.built.turns).files ≡ files_of new)
            start left.built.files;
        settled_are = subst (λ s. is_stopped (rules_of work) (build_after_all work tasks (first_build work) items).run.nodes
            ≡ false → (node : ℕ)
            → slice_get (build_after_all work tasks (first_build work) items).run.nodes node ≡ Some Settled
            → (turn.after_turns plan (turn.first_build s) left.built.turns).stage node ≡ turn.settled)
            start left.built.settled_are;
      };
      steps_are = subst (λ l. DoesCleanSteps plan l left.built.turns
          (turn.after_turns plan (turn.first_build (files_of old)) left.built.turns)) (sym jobs.0)
          (subst (λ s. DoesCleanSteps plan (clean_build meaning plan s) left.built.turns
          (turn.after_turns plan (turn.first_build s) left.built.turns)) start left.steps_are);
      apart = left.apart;
      truth = left.truth;
    }
  where
    work : Work
    work = work_on nodes made flags

    plan : Plan
    plan = clean_plan work tasks

    leave : AllByRecursion LeavesFiles asked.run.events
    leave = ready.asks asked.run.events (here ∙ ap (λ h. Some h) (sym (asked-history meaning old planned_then asked)))

    start : files_of planned_then ≡ files_of old
    start = asked-files meaning old planned_then asked leave

    jobs : (clean_jobs_of meaning clean (bare nodes (files_of old)) ≡ clean_build meaning plan (files_of old))
        × (clean_files_of meaning clean (bare nodes (files_of old)) ≡ clean_files meaning plan (files_of old))
    jobs = alike-jobs meaning env order (files_of old) work clean tasks ready.alike

    is_ready : IsReadyBuild meaning work tasks planned_then
    is_ready = record {
      lawful = runs_stay_lawful meaning old planned_then asked.run ready.lawful;
      idle = ap (λ (s : Stand). s.children) (asked-state meaning old planned_then asked)
          ∙ (questions-children (state_of old) asked.run.events asked.questions ∙ ready.idle);
      truth = subst (IsTrueHistory meaning.next) (asked-history meaning old planned_then asked)
          (questions-keep-truth meaning old asked.run.events asked.questions leave ready.truth);
      well_made = well-made files made flags nodes is differ;
      mode = ready.mode;
      declared = subst (λ s. IsDeclared plan (clean_build meaning plan s)) (sym start)
          (subst (IsDeclared plan) jobs.0 ready.declared);
    }

    left : IsClean meaning work tasks items planned_then new
    left = cleans is_ready

    files_are : HasCleanFiles meaning plan (files_of old) (files_of new)
    files_are = subst (λ s. HasCleanFiles meaning plan s (files_of new)) start left.files

    lines-are : (one : CleanJob) → IsAmong one (clean_jobs_of meaning clean (bare nodes (files_of old)))
        → lines_on clean one.node one.before ≡ lines_of work tasks one.node
    lines-are one among =
        let in_order = clean-node meaning plan plan.order (cleared plan (files_of old)) one
        (subst (λ l. IsAmong one l) jobs.0 among) in
        let same = ready.alike.same_tasks one among in
        same-lines clean work tasks one.node one.before same.0 (job-has work one.node in_order).1 same.1

no-memory : (end : End) → end ≡ Done → end ≡ NoMemory → ⊥
no-memory end done want = cc

sink-fault : (end : End) → end ≡ Done → end ≡ SinkFault → ⊥
sink-fault end done cut = cc

-- the build of a run that ends with all made
pub done-build : (nodes : List PlanNode) (result : BuildResult) (end : End) → end ≡ Done
    → IsEndOf nodes result end → result ≡ build.Done
done-build nodes build.Done end done is = refl
done-build nodes (build.JobFailed n number status) end done (inl is) = absurd cc
done-build nodes (build.Expand n number what) end done (inl is) = absurd cc
done-build nodes build.World end done (inl is) = absurd cc
done-build nodes build.Sink end done (inl is) = absurd cc
done-build nodes build.NoMemory end done (inl is) = absurd cc
done-build nodes (build.JobFailed n number status) end done (inr want) = absurd (no-memory end done want.0)
done-build nodes (build.Expand n number what) end done (inr want) = absurd (no-memory end done want.0)
done-build nodes build.World end done (inr want) = absurd (no-memory end done want.0)
done-build nodes build.Sink end done (inr want) = absurd (no-memory end done want.0)
done-build nodes build.NoMemory end done (inr want) = absurd (no-memory end done want.0)

-- and so it did before the line of its end was written
pub done-before : (words : List (List ℕ)) (before end : End) (err : Held) → Closed words before err end
    → end ≡ Done → before ≡ Done
done-before words before end err (inl same) done = sym same.0 ∙ done
done-before words before end err (inr cut) done = absurd (sink-fault end done cut.0)
