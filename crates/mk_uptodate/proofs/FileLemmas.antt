-- Where all is up to date, the clean build does what the jobs on the files that stand do, with the same tasks.
use Rattle.std.proofs.Common.{◌≡◌, ◌∙◌, ℕ, zero, suc, true, false, ◌||◌, List, [], ◌∷◌, map, Some, None, Ok, is_some, slice_get, if◌then◌else◌}
use Rattle.std.proofs.Common.{inl, inr, refl, sym, ap, subst}
use Rattle.mk_clean.proofs.CleanLemmas.{job_of_node, node_of_job, unchanged}
use Rattle.mk_clean.specs.Clean.{CleanJob, DependsOn, IsAmong, LeavesIt, Plan, StandsBefore, after_job, clean_build, clean_files, clean_jobs, cleared, doings_on, lines_in}
use Rattle.mk_clean.specs.Declared.{AreWellMade, IsDeclared, IsSource}
use Rattle.mk_decision.specs.Decisions.{Work, source_names}
use Rattle.mk_declared.proofs.PresentLemmas.{among-map, present-clean}
use Rattle.mk_declared.specs.Present.{IsPresent, at, present_job, present_jobs}
use Rattle.mk_headline.proofs.DecideLemmas.{makes-job}
use Rattle.mk_headline.proofs.PlanLemmas.{are-well-made, job-among, job-has}
use Rattle.mk_headline.specs.Plans.{clean_plan, has_job, is_meta_path, jobs_from, makes_file}
use Rattle.mk_headline.specs.Premises.{IsWellMade}
use Rattle.mk_looks.specs.Looks.{looks_for_newer}
use Rattle.mk_meta.specs.TrueHistory.{deeds_of_job}
use Rattle.mk_plan.specs.Newer.{task_names}
use Rattle.mk_plan.specs.Plans.{node_at}
use Rattle.mk_plan.specs.Tasks.{Setting, setting_of}
use Rattle.mk_run.proofs.CleanRunLemmas.{same-jobs, well-made}
use Rattle.mk_run.specs.CleanRuns.{HasSameTask, bare, by_files, clean_files_of, clean_jobs_of, jobs_on, left_by, task_on}
use Rattle.mk_same.proofs.TaskLemmas.{task_names_are_by_answers, tasks_are_by_answers}
use Rattle.mk_sound.specs.Sound.{HasItsTask}
use Rattle.mk_trace.specs.Runs.{Tasks}
use Rattle.mk_uptodate.proofs.NodeLemmas.{up_to_date_nodes_stand}
use Rattle.mk_uptodate.specs.UpToDate.{HasPresentTask, UpToDateFilesAreSound, task_in}
use Rattle.mk_values.specs.Facts.{AnsweredBy}
use Rattle.mk_world.specs.Deeds.{Store}
use Rattle.mk_world.specs.History.{files_of}
use Rattle.mk_world.specs.Talks.{Meaning}

-- lists

among-place : {A : Type 0} (all : List A) (place : ℕ) (one : A) → slice_get all place ≡ Some one → IsAmong one all
among-place {A} [] place one is = absurd cc
among-place {A} (first ∷ more) zero one is =
    let same : first ≡ one = cc in inl (sym same)
among-place {A} (first ∷ more) (suc place) one is = inr (among-place more place one is)

-- the jobs on the files that stand are well made where those of the clean build are

module _ (meaning : Meaning) (plan : Plan) (files : Store)
    (well : AreWellMade plan (clean_build meaning plan files))
  where
    abbrev here : ℕ → CleanJob
    here = present_job meaning plan files

    abbrev clean : List CleanJob
    clean = clean_build meaning plan files

    -- each is of a node, and is that node's
    node-among : (nodes : List ℕ) (one : CleanJob) → IsAmong one (map here nodes) → IsAmong one.node nodes
    node-among [] one among = absurd among
    node-among (node ∷ nodes) one (inl is) = inl (ap (λ (job : CleanJob). job.node) is)
    node-among (node ∷ nodes) one (inr among) = inr (node-among nodes one among)

    is-here : (nodes : List ℕ) (one : CleanJob) → IsAmong one (map here nodes) → here one.node ≡ one
    is-here [] one among = absurd among
    is-here (node ∷ nodes) one (inl is) = ap (λ (job : CleanJob). here job.node) is ∙ sym is
    is-here (node ∷ nodes) one (inr among) = is-here nodes one among

    -- the job of the same node in the clean build
    clean-job : (nodes : List ℕ) (store : Store) (node : ℕ) → IsAmong node nodes
        → (one : CleanJob) × IsAmong one (clean_jobs meaning plan nodes store) × (one.node ≡ node)
    clean-job nodes store node among = job_of_node meaning plan.command (lines_in plan) node nodes store among

    its-clean : (one : CleanJob) → IsAmong one (present_jobs meaning plan files)
        → (job : CleanJob) × IsAmong job clean × (job.node ≡ one.node)
    its-clean one among =
        clean-job plan.order (cleared plan files) one.node (node-among plan.order one among)

    -- jobs of the clean build that stand one before the other, of these nodes
    record Before (jobs : List CleanJob) (first second : ℕ) : Type 0 where
      one : CleanJob
      other : CleanJob
      before : StandsBefore one other jobs
      first_is : one.node ≡ first
      second_is : other.node ≡ second

    later : (job : CleanJob) (jobs : List CleanJob) (first second : ℕ) → Before jobs first second
        → Before (job ∷ jobs) first second
    later job jobs first second is = record {
      one = is.one;
      other = is.other;
      before = inr is.before;
      first_is = is.first_is;
      second_is = is.second_is;
    }

    clean-before : (nodes : List ℕ) (store : Store) (one other : CleanJob) → StandsBefore one other (map here nodes)
        → Before (clean_jobs meaning plan nodes store) one.node other.node
    clean-before [] store one other before = absurd before
    clean-before (node ∷ nodes) store one other (inl (is, among)) =
        let job = clean-job nodes (after_job meaning plan node store) other.node (node-among nodes other among) in record {
          one = record { node = node; before = store; doings = doings_on meaning plan node store };
          other = job.0;
          before = inl (refl, job.1);
          first_is = ap (λ (it : CleanJob). it.node) (sym is);
          second_is = job.2;
        }
    clean-before (node ∷ nodes) store one other (inr before) =
        later (record { node = node; before = store; doings = doings_on meaning plan node store })
        (clean_jobs meaning plan nodes (after_job meaning plan node store)) one.node other.node
        (clean-before nodes (after_job meaning plan node store) one other before)

    here-before : (nodes : List ℕ) (store : Store) (one other : CleanJob)
        → StandsBefore one other (clean_jobs meaning plan nodes store)
        → StandsBefore (here one.node) (here other.node) (map here nodes)
    here-before [] store one other before = absurd before
    here-before (node ∷ nodes) store one other (inl (is, among)) = inl (
      ap (λ (it : CleanJob). here it.node) is,
      among-map here nodes other.node
          (node_of_job meaning plan.command (lines_in plan) nodes (after_job meaning plan node store) other among),
    )
    here-before (node ∷ nodes) store one other (inr before) =
        inr (here-before nodes (after_job meaning plan node store) one other before)

    ordered : (one other : CleanJob) → IsAmong one (present_jobs meaning plan files)
        → IsAmong other (present_jobs meaning plan files) → DependsOn plan one.node other.node
        → StandsBefore other one (present_jobs meaning plan files)
    ordered one other among also depends =
        let first = its-clean one among in
        let second = its-clean other also in
        let before = here-before plan.order (cleared plan files) second.0 first.0
        (well.ordered first.0 second.0 first.1 second.1
        (subst (λ n. DependsOn plan n second.0.node) (sym first.2)
        (subst (DependsOn plan one.node) (sym second.2) depends))) in
        subst (λ it. StandsBefore it one (present_jobs meaning plan files))
        (ap here second.2 ∙ is-here plan.order other also)
        (subst (λ it. StandsBefore (here second.0.node) it (present_jobs meaning plan files))
        (ap here first.2 ∙ is-here plan.order one among) before)

    pub present_well_made : AreWellMade plan (present_jobs meaning plan files)
    present_well_made = record {
      is_node = λ one among.
          let job = its-clean one among in
          subst (λ n. plan.is_node (plan.node n).name ≡ true) job.2 (well.is_node job.0 job.1);
      is_made = λ one among made.
          let job = its-clean one among in
          subst (λ n. plan.is_made (plan.node n).name ≡ true) job.2
          (well.is_made job.0 job.1 (subst (λ n. (plan.node n).made ≡ true) (sym job.2) made));
      names = λ one other among also same.
          let first = its-clean one among in
          let second = its-clean other also in
          sym first.2
          ∙ (well.names first.0 second.0 first.1 second.1
          (ap (λ n. (plan.node n).name) first.2 ∙ (same ∙ ap (λ n. (plan.node n).name) (sym second.2)))
          ∙ second.2);
      once = λ one other before same.
          let it = clean-before plan.order (cleared plan files) one other before in
          well.once it.one it.other it.before (it.first_is ∙ (same ∙ sym it.second_is));
      ordered = ordered;
    }

-- the tasks of the clean build

module _ (meaning : Meaning) (work : Work) (lines : Tasks) (files : Store)
    (tasks : (node : ℕ) → has_job (node_at work.plan node) ≡ true → HasPresentTask meaning work lines files node)
    (present : IsPresent meaning (clean_plan work lines) files)
  where
    abbrev plan : Plan
    plan = clean_plan work lines

    abbrev IsStill : List ℕ → Type 0
    IsStill = IsSource plan (present_jobs meaning plan files)

    -- sources stand
    abbrev AsHere : Store → Type 0
    AsHere store = (path : List ℕ) → IsStill path → store path ≡ files path

    abbrev Leaves : List CleanJob → Type 0
    Leaves jobs = (one : CleanJob) → IsAmong one jobs → (path : List ℕ) → IsStill path → LeavesIt one path

    clean-leaves : Leaves (clean_build meaning plan files)
    clean-leaves one among path still =
        still.alone (at files one)
        (subst (IsAmong (at files one)) present.jobs (among-map (at files) (clean_build meaning plan files) one among))

    bare-here : AsHere (bare work.plan files)
    bare-here path still =
        ap (λ b. if b || is_meta_path path then None else files path) still.no_made
        ∙ ap (λ b. if b then None else files path) still.no_meta

    abbrev setting : Setting
    setting = setting_of work.variables work.lists (by_files files)

    module _ (node : ℕ) (has : has_job (node_at work.plan node) ≡ true) (store : Store) (stands : AsHere store) where
      abbrev its : HasPresentTask meaning work lines files node
      its = tasks node has

      answered : AnsweredBy (by_files store) its.asked
      answered place one is =
          its.answered place one is
          ∙ ap (λ bytes. is_some bytes) (sym (stands one.path (its.sources one (among-place its.asked place one is))))

      task-is : task_on work node store ≡ Ok (task_in work lines node, its.asked)
      task-is = tasks_are_by_answers setting (by_files store) work.suffixes work.plan node (source_names work node)
          work.mode work.flags [] (task_in work lines node, its.asked) its.task answered

      no-newer : looks_for_newer (task_names (setting_of work.variables work.lists (by_files store)) work.suffixes
          work.plan node (source_names work node) work.mode work.flags []) ≡ false
      no-newer = ap looks_for_newer
          (task_names_are_by_answers setting (by_files store) work.suffixes work.plan node (source_names work node)
          work.mode work.flags [] (task_in work lines node, its.asked) its.task answered)
          ∙ its.no_newer

    -- behind one job
    left-is : (node : ℕ) → has_job (node_at work.plan node) ≡ true → (store : Store) → AsHere store
        → left_by meaning work node store ≡ after_job meaning plan node store
    left-is node has store stands =
        (same-jobs meaning work work lines (node ∷ []) store (λ n among. only n among) same).1
      where
        only : (n : ℕ) → IsAmong n (node ∷ []) → has_job (node_at work.plan n) ≡ true
        only n (inl is) = subst (λ k. has_job (node_at work.plan k) ≡ true) (sym is) has
        only n (inr among) = absurd among

        same : (one : CleanJob) → IsAmong one (jobs_on meaning work (node ∷ []) store) → HasSameTask work work lines one
        same one (inl is) = subst (HasSameTask work work lines) (sym is)
            ((tasks node has).asked, task-is node has store stands)
        same one (inr among) = absurd among

    -- each job of the clean build that plans anew has the sources as they stand
    walk : (nodes : List ℕ) (store : Store) → ((n : ℕ) → IsAmong n nodes → has_job (node_at work.plan n) ≡ true)
        → Leaves (clean_jobs meaning plan nodes store) → AsHere store
        → (one : CleanJob) → IsAmong one (jobs_on meaning work nodes store) → IsAmong one.node nodes × AsHere one.before
    walk [] store has leave stands one among = absurd among
    walk (node ∷ nodes) store has leave stands one (inl is) =
        (inl (ap (λ (it : CleanJob). it.node) is), subst (λ (it : CleanJob). AsHere it.before) (sym is) stands)
    walk (node ∷ nodes) store has leave stands one (inr among) =
        let rest = walk nodes (after_job meaning plan node store) (λ n there. has n (inr there))
        (λ other there. leave other (inr there))
        (λ path still.
        unchanged store (deeds_of_job (doings_on meaning plan node store)) path (leave _ (inl refl) path still)
        ∙ stands path still)
        one
        (subst (λ s. IsAmong one (jobs_on meaning work nodes s)) (left-is node (has node (inl refl)) store stands)
        among) in
        (inr rest.0, rest.1)

    abbrev all : List CleanJob
    all = clean_jobs_of meaning work (bare work.plan files)

    walked : (one : CleanJob) → IsAmong one all → IsAmong one.node (jobs_from 0 work.plan) × AsHere one.before
    walked = walk (jobs_from 0 work.plan) (bare work.plan files) (λ n among. (job-has work n among).1) clean-leaves
        bare-here

    -- its jobs are those of the plan with these lines
    same : (all ≡ clean_build meaning plan files)
        × (clean_files_of meaning work (bare work.plan files) ≡ clean_files meaning plan files)
    same = same-jobs meaning work work lines (jobs_from 0 work.plan) (bare work.plan files)
        (λ n among. (job-has work n among).1)
        (λ one among.
        let it = walked one among in
        let has = (job-has work one.node it.0).1 in
        ((tasks one.node has).asked, task-is one.node has one.before it.1))

    pub clean-declared : IsDeclared plan all
    clean-declared = subst (IsDeclared plan) (sym same.0) present.declared

    pub clean-same : (node : ℕ) → makes_file (node_at work.plan node) ≡ true
        → files (node_at work.plan node).name
        ≡ clean_files_of meaning work (bare work.plan files) (node_at work.plan node).name
    clean-same node makes =
        sym (present.same node (job-among work node (makes-job (node_at work.plan node) makes)) makes)
        ∙ ap (λ (s : Store). s (node_at work.plan node).name) (sym same.1)

    pub clean-task : (one : CleanJob) → IsAmong one all → HasItsTask work lines all one
    clean-task one among =
        let it = walked one among in
        let has = (job-has work one.node it.0).1 in
        record {
          asked = (tasks one.node has).asked;
          task = task-is one.node has one.before it.1;
          no_newer = no-newer one.node has one.before it.1;
          sources = λ question asks.
              let still = (tasks one.node has).sources question asks in
              record {
                alone = λ other there.
                    clean-leaves other (subst (IsAmong other) same.0 there) question.path still;
                no_made = still.no_made;
                no_meta = still.no_meta;
              };
        }

pub up_to_date_files_are_sound : UpToDateFilesAreSound
up_to_date_files_are_sound meaning env order old start its = record {
  sound = record {
    made = its.made;
    listings = its.listings;
    read = its.read;
    work = work;
    planned = its.planned;
    work_is = its.work_is;
    lines = its.lines;
    room = its.room;
    asks = its.asks;
    mode = its.mode;
    alike = its.alike;
    tasks_are = clean-task meaning work its.lines files its.tasks_are present;
    declared = clean-declared meaning work its.lines files its.tasks_are present;
  };
  work_is = refl;
  lines_are = refl;
  same = clean-same meaning work its.lines files its.tasks_are present;
}
  where
    work : Work
    work = its.work

    files : Store
    files = files_of old

    plan : Plan
    plan = clean_plan work its.lines

    well : IsWellMade work
    well = subst IsWellMade (sym its.work_is)
        (well-made files its.made order.flags work.plan its.planned its.names_differ)

    present : IsPresent meaning plan files
    present = present-clean meaning plan files its.declared
        (present_well_made meaning plan files (are-well-made meaning work its.lines files well))
        (λ node among made. up_to_date_nodes_stand meaning old work its.lines node start its.mode made (its.fresh node made))
