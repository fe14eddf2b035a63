-- What a sound clean build has at sources, and the tasks of nodes that were judged by looks which saw that.
use Rattle.std.proofs.Common.{◌≡◌, ◌⊎◌, ◌∙◌, ℕ, Bool, true, false, not, ◌||◌, List, [], ◌∷◌, map, Option, None, Ok, is_some, if◌then◌else◌}
use Rattle.std.proofs.Common.{inl, inr, refl, sym, ap, subst}
use Rattle.mk_clean.proofs.CleanLemmas.{among_first, among_last, job_of_node, untouched}
use Rattle.mk_clean.specs.Clean.{CleanJob, IsAmong}
use Rattle.mk_clean.specs.Declared.{IsSource}
use Rattle.mk_decision.specs.Decisions.{IsJudged, Sight, Work, newer_of, source_names}
use Rattle.mk_headline.proofs.PlanLemmas.{job-among}
use Rattle.mk_headline.specs.Plans.{clean_plan, has_job, is_meta_path, jobs_from}
use Rattle.mk_oodate.specs.declared.reason.Why.{Why}
use Rattle.mk_plan.proofs.NewerLemmas.{newer_do_not_count}
use Rattle.mk_plan.specs.Asking.{answers_by, as_asked}
use Rattle.mk_plan.specs.Plans.{node_at}
use Rattle.mk_plan.specs.Tasks.{Setting, setting_of, task_of, task_with}
use Rattle.mk_run.specs.CleanRuns.{bare, by_files, clean_jobs_of, lines_on}
use Rattle.mk_same.proofs.TaskLemmas.{tasks_part_at_questions}
use Rattle.mk_answers.specs.Evaluations.{PartAtQuestion}
use Rattle.mk_sound.specs.Sound.{HasItsTask, IsSound}
use Rattle.mk_trace.specs.Builds.{command_of}
use Rattle.mk_trace.specs.Runs.{Tasks}
use Rattle.mk_values.specs.declared.facts.Asked.{Asked}
use Rattle.mk_world.specs.Deeds.{Store}
use Rattle.mk_world.specs.Looks.{Dated, Seen, dated, is_missing, read}
use Rattle.mk_world.specs.Talks.{Meaning}
use Rattle.mk_world.specs.declared.command.Task.{Task}

-- lists

among-map : {A B : Type 0} (f : A → B) (items : List A) (one : A) → IsAmong one items
    → IsAmong (f one) (map f items)
among-map f [] one among = absurd among
among-map f (item ∷ items) one (inl is) = inl (ap f is)
among-map f (item ∷ items) one (inr among) = inr (among-map f items one among)

mapped : {A B : Type 0} (f : A → B) (items : List A) (one : B) → IsAmong one (map f items)
    → (item : A) × IsAmong item items × (one ≡ f item)
mapped f [] one among = absurd among
mapped f (item ∷ items) one (inl is) = (item, inl refl, is)
mapped f (item ∷ items) one (inr among) =
    let rest = mapped f items one among in (rest.0, inr rest.1, rest.2)

abbrev question : List ℕ → Bool → Asked
question path answer = record { path = path; answer = answer }

two-not : (b : Bool) → not b ≡ b → ⊥
two-not true is = cc
two-not false is = cc

module _ (meaning : Meaning) (work : Work) (lines : Tasks) (store : Store)
    (sound : IsSound meaning work lines store)
  where
    abbrev pub all : List CleanJob
    all = clean_jobs_of meaning work (bare work.plan store)

    -- a path that no job changes, and that no build leaves
    abbrev pub IsStill : List ℕ → Type 0
    IsStill path = IsSource (clean_plan work lines) all path

    -- a look at a source has told whether it was there at the beginning
    abbrev pub SawRight : Seen → Type 0
    SawRight (dated one) = IsStill one.path → not (is_missing one.when) ≡ is_some (store one.path)
    SawRight (read path bytes) = Unit {0}

    bare-is : (path : List ℕ) → IsStill path → bare work.plan store path ≡ store path
    bare-is path source =
        ap (λ b. if b || is_meta_path path then None else store path) source.no_made
        ∙ ap (λ b. if b then None else store path) source.no_meta

    before-store : (one : CleanJob) → IsAmong one all → (path : List ℕ) → IsStill path
        → one.before path ≡ store path
    before-store one among path source =
        (untouched meaning (command_of work) (lines_on work) path (jobs_from 0 work.plan) (bare work.plan store)
        source.alone).1 one among
        ∙ bare-is path source

    -- the question at which two tasks part was answered by a look, which saw what the clean build has
    no-part : (one : CleanJob) → IsAmong one all → (its : HasItsTask work lines all one) (asked : List Dated)
        → ((look : Dated) → IsAmong look asked → SawRight (dated look))
        → PartAtQuestion (by_files one.before) its.asked (map as_asked asked) → ⊥
    no-part one among its asked right part =
        two-not part.answer
        (ap (λ (q : Asked). q.answer) found.2
        ∙ (right found.0 found.1 (subst IsStill path_is still)
        ∙ (ap (λ p. is_some (store p)) (sym path_is)
        ∙ (ap (λ bytes. is_some bytes) (sym (before-store one among part.path still)) ∙ sym part.answered))))
      where
        still : IsStill part.path
        still = its.sources (question part.path part.answer)
            (subst (IsAmong (question part.path part.answer)) (sym part.is)
            (among_last part.common (question part.path part.answer ∷ part.rest)
            (question part.path part.answer) (inl refl)))

        found : (look : Dated) × IsAmong look asked
            × (◌≡◌ {A = Asked} (question part.path (not part.answer)) (as_asked look))
        found = mapped as_asked asked (question part.path (not part.answer))
            (subst (IsAmong (question part.path (not part.answer))) (sym part.other_is)
            (among_last part.common (question part.path (not part.answer) ∷ part.other_rest)
            (question part.path (not part.answer)) (inl refl)))

        path_is : part.path ≡ found.0.path
        path_is = ap (λ (q : Asked). q.path) found.2

    -- a node that was judged has the lines that it has in the clean build
    judged-lines : (one : CleanJob) → IsAmong one all → (seen : List Seen) (task : Task) (why : Option Why)
        → IsJudged work one.node seen task why → ((look : Seen) → IsAmong look seen → SawRight look)
        → task.lines ≡ lines one.node
    judged-lines one among seen task why judged right =
        by (tasks_part_at_questions k (answers_by sight.asked) work.suffixes work.plan one.node newer work.mode
        work.flags [] (given, its.asked) (task, map as_asked sight.asked) clean_is judged.has)
      where
        its : HasItsTask work lines all one
        its = sound.tasks_are one among

        sight : Sight work one.node judged.first
        sight = judged.sight

        newer : List (List ℕ)
        newer = newer_of work one.node sight.target sight.sources

        k : Setting
        k = setting_of work.variables work.lists (by_files one.before)

        given : Task
        given = task_with work.variables work.mode.exports (node_at work.plan one.node).name (lines one.node)

        clean_is : task_of k work.suffixes work.plan one.node newer work.mode work.flags [] ≡ Ok (given, its.asked)
        clean_is = newer_do_not_count k work.suffixes work.plan one.node (source_names work one.node) newer work.mode
            work.flags [] its.no_newer ∙ its.task

        asked_right : (look : Dated) → IsAmong look sight.asked → SawRight (dated look)
        asked_right look there = right (dated look)
            (subst (IsAmong (dated look)) (sym judged.are)
            (among_first judged.first _ (dated look)
            (subst (IsAmong (dated look)) (sym sight.are)
            (among_last _ (map dated sight.asked) (dated look) (among-map dated sight.asked look there)))))

        by : (◌≡◌ {A = Task × List Asked} (task, map as_asked sight.asked) (given, its.asked))
            ⊎ PartAtQuestion (by_files one.before) its.asked (map as_asked sight.asked)
            → task.lines ≡ lines one.node
        by (inl same) = ap (λ (it : Task × List Asked). it.0.lines) same
        by (inr part) = absurd (no-part one among its sight.asked asked_right part)

    pub task-lines : (node : ℕ) → has_job (node_at work.plan node) ≡ true → (seen : List Seen) (task : Task)
        (why : Option Why) → IsJudged work node seen task why
        → ((look : Seen) → IsAmong look seen → SawRight look) → task.lines ≡ lines node
    task-lines node has seen task why judged right =
        let job = job_of_node meaning (command_of work) (lines_on work) node (jobs_from 0 work.plan)
        (bare work.plan store) (job-among work node has) in
        subst (λ n. task.lines ≡ lines n) job.2
        (judged-lines job.0 job.1 seen task why
        (subst (λ n. IsJudged work n seen task why) (sym job.2) judged) right)
