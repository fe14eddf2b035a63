-- Runs of the example leave what its clean build leaves.
use Rattle.std.proofs.Common.{◌≡◌, ◌∙◌, ◌⊎◌, ℕ, zero, suc, ◌<◌, ◌||◌, List, [], ◌∷◌, length, Bool, true, false, Option, Some, None, Result, Ok, Err, slice_get}
use Rattle.std.proofs.Common.{inl, inr, refl, sym, ap, subst, codes, arith}
use Rattle.std.proofs.lemmas.Bool.{false≢true}
use Rattle.std.specs.List.{AllByRecursion}
use Rattle.std.specs.Str.{bytes_eq}
use Rattle.mk_ast.specs.Text.{text_at}
use Rattle.mk_bytes.specs.Agrees.{Agrees}
use Rattle.mk_clean.specs.Clean.{Changes, IsWell, LeavesIt, deeds_of, CleanJob, IsAmong}
use Rattle.mk_clean.specs.Declared.{IsDeclared, IsMadeBefore, IsOwn, IsPrivate, IsSource, LeavesFile}
use Rattle.mk_cli.specs.Orders.{no_order}
use Rattle.mk_cli.specs.declared.order.Order.{Order}
use Rattle.mk_decision.specs.Decisions.{Work, mode_at, newer_of}
use Rattle.mk_decision.specs.Makers.{jobs_of, work_on}
use Rattle.mk_values.specs.Parts as parts
use Rattle.mk_values.specs.declared.facts.Asked.{Asked}
use Rattle.mk_filemon.proofs.PathLemmas.{same_bytes}
use Rattle.mk_graph.specs.declared.Made.{Made}
use Rattle.mk_headline.proofs.PlanLemmas.{meta_path-is}
use Rattle.mk_headline.specs.Plans.{clean_plan, is_meta_path, makes_file, has_job}
use Rattle.mk_headline.specs.Premises.{GoesByMetaMode, IsWellMade}
use Rattle.mk_makefile.specs.Acts.{acts_of, asked_in}
use Rattle.mk_makefile.specs.Questions.{Reading, readings_in}
use Rattle.mk_makefile.specs.ReadFaults.{Reads}
use Rattle.mk_makefile.specs.Reading.{reading}
use Rattle.mk_makefile.specs.declared.fault.ReadFault.{ReadFault}
use Rattle.mk_commands.specs.Meaning.{language}
use Rattle.mk_meta.specs.Texts.{meta_text}
use Rattle.mk_meta.specs.TrueHistory.{meta_path}
use Rattle.mk_meta.specs.declared.meta.Meta.{Meta}
use Rattle.mk_oodate.specs.Fresh.{GoesByRecords}
use Rattle.mk_plan.proofs.LookLemmas.{ByLooks-told}
use Rattle.mk_plan.specs.Oodate.{refers}
use Rattle.mk_plan.specs.PlanLaws.{plan_names}
use Rattle.mk_plan.specs.Plans.{node_at, planned}
use Rattle.mk_plan.specs.Tasks.{lines_from, task_with}
use Rattle.mk_plan.specs.declared.plan.PlanNode.{PlanNode}
use Rattle.mk_pool.specs.Pool.{AreDistinct}
use Rattle.mk_reader.specs.Results.{Gave, ReadBy}
use Rattle.mk_run.proofs.CleanRunLemmas.{done-before, done-build}
use Rattle.mk_run.proofs.TrueRunLemmas.{told-at, told-before}
use Rattle.mk_modes.specs.Building.{IsBuilt, Point, point}
use Rattle.mk_run.specs.CleanRuns.{ArePlansAlike, IsReadyRun, LeavesCleanFiles, bare, clean_files_of, clean_jobs_of, HasSameTask, LeavesThem, task_on}
use Rattle.mk_modes.specs.Ends.{of_plan}
use Rattle.mk_modes.specs.Meaning.{asked, by_reading}
use Rattle.mk_modes.specs.Modes.{Followed, Goes, Held}
use Rattle.mk_run.specs.TrueRuns.{IsTrueOrderRun, LeavesClean, built_in}
use Rattle.mk_modes.specs.declared.building.Went.{Went}
use Rattle.mk_modes.specs.declared.report.End.TheVariants.{Done, NoMemory}
use Rattle.mk_modes.specs.declared.report.End.{End}
use Rattle.mk_modes.specs.declared.report.Report.{Report}
use Rattle.mk_top.specs.Runs.{Does, Follows}
use Rattle.mk_trace.specs.Builds.{build_after_all, first_build}
use Rattle.mk_trace.specs.Ends.{IsOver, StandsBy}
use Rattle.mk_trace.specs.Runs.{Tasks}
use Rattle.mk_trace.specs.TrueBuilds.{LeavesFiles, longer}
use Rattle.mk_trace.specs.declared.result.BuildResult.TheVariants as build
use Rattle.mk_world.proofs.LawLemmas.{runs_stay_lawful}
use Rattle.mk_world.specs.Deeds.{Store}
use Rattle.mk_world.specs.History.{files_of}
use Rattle.mk_world.specs.Looks.{OnlyLooks}
use Rattle.mk_world.specs.Runs.{Run}
use Rattle.mk_world.specs.Outer.{nothing_over, outer}
use Rattle.mk_world.specs.Talks.{Doing}
use Rattle.mk_world.specs.declared.command.Task.{Task}
use Rattle.mk_world.specs.declared.command.TaskLine.{TaskLine}
use Rattle.mk_world.specs.declared.history.Happening.{Happening}
use Rattle.mk_world.specs.declared.history.History.{History}
use Rattle.mk_world.specs.declared.step.Deed.TheVariants.{Read, Write}
use Rattle.mk_example.proofs.AgainLemmas.{LeavesPath, stays-there}
use Rattle.mk_example.proofs.DoneLemmas.{plan-fault, same-ok, unbuilt-end, unread}
use Rattle.mk_example.proofs.ReadingLemmas.{IsLooked, IsQuiet, agreeing, agrees, asked-quiet, first-found, found_in, quiet-leaves, quiet-looks}
use Rattle.mk_example.proofs.RowLemmas.{answers, clean-planned-is, clean-reading-is, planned-differ, planned-is, put-there, reading-first, reading-is, task-is, with_file, files, lines, made, nodes, work}
use Rattle.mk_headline.proofs.JudgedLemmas.{over-judged}
use Rattle.mk_headline.specs.Laws.{HasJudgedLines}
use Rattle.mk_example.specs.Copies.{CopiesAreRight, IsCopied, IsReady, NewWorldsAreReady, env, makefile, new_world}

-- the clean build

abbrev start : Store → List ℕ → Store
start others bytes = bare nodes (files others bytes)

abbrev doing : List ℕ → Doing
doing bytes = record {
  deeds = Read (codes "a") bytes ∷ Write (codes "t") bytes ∷ [];
  status = 0;
  output = [];
}

abbrev job : Store → List ℕ → CleanJob
job others bytes = record { node = 1; before = start others bytes; doings = doing bytes ∷ [] }

pub jobs-are : (others : Store) (bytes : List ℕ)
    → clean_jobs_of language work (start others bytes) ≡ job others bytes ∷ []
unfolding lines_from text_at parts.joined
jobs-are others bytes = refl

files-are : (others : Store) (bytes : List ℕ)
    → clean_files_of language work (start others bytes) (codes "t") ≡ Some bytes
unfolding lines_from text_at parts.joined
files-are others bytes = refl

clean-task-is : (others : Store) (bytes : List ℕ)
    → task_on work 1 (start others bytes) ≡ Ok (task_with work.variables work.mode.exports (codes "t") lines, [])
unfolding lines_from text_at parts.joined refers
clean-task-is others bytes = refl

the-job : (others : Store) (bytes : List ℕ) (one : CleanJob) → IsAmong one (job others bytes ∷ [])
    → job others bytes ≡ one
the-job others bytes one (inl is) = sym is
the-job others bytes one (inr past) = absurd past

or-false : (b : Bool) → (b || false) ≡ true → b ≡ true
or-false true is = refl
or-false false is = is

-- what its job reads and changes is declared
pub declared : (others : Store) (bytes : List ℕ) (tasks : Tasks)
    → IsDeclared (clean_plan work tasks) (job others bytes ∷ [])
declared others bytes tasks = record {
  reads = λ one among. subst
      (λ (it : CleanJob). (path : List ℕ) → IsAmong path (outer nothing_over (deeds_of it))
      → IsSource (clean_plan work tasks) (job others bytes ∷ []) path
      ⊎ IsMadeBefore (clean_plan work tasks) (job others bytes ∷ []) it path)
      (the-job others bytes one among) read;
  changes = λ one among. subst
      (λ (it : CleanJob). (path : List ℕ) → Changes it path → IsOwn (clean_plan work tasks) it path
      ⊎ IsPrivate (clean_plan work tasks) (job others bytes ∷ []) it path)
      (the-job others bytes one among) changed;
  leaves = λ one among. subst
      (λ (it : CleanJob). IsWell (clean_plan work tasks) it → ((clean_plan work tasks).node it.node).made ≡ true
      → LeavesFile (clean_plan work tasks) it)
      (the-job others bytes one among) (λ well makes. record { bytes = bytes; is = refl });
  no_meta = λ one among. subst
      (λ (it : CleanJob). (path : List ℕ) → (clean_plan work tasks).is_meta path ≡ true → LeavesIt it path)
      (the-job others bytes one among) left;
}
  where
    read : (path : List ℕ) → IsAmong path (outer nothing_over (deeds_of (job others bytes)))
        → IsSource (clean_plan work tasks) (job others bytes ∷ []) path
        ⊎ IsMadeBefore (clean_plan work tasks) (job others bytes ∷ []) (job others bytes) path
    read path (inl is) = inl (subst (IsSource (clean_plan work tasks) (job others bytes ∷ [])) (sym is) (record {
      alone = λ one among.
          subst (λ (it : CleanJob). LeavesIt it (codes "a")) (the-job others bytes one among) refl;
      no_made = refl;
      no_meta = refl;
    }))
    read path (inr past) = absurd past

    changed : (path : List ℕ) → Changes (job others bytes) path → IsOwn (clean_plan work tasks) (job others bytes) path
        ⊎ IsPrivate (clean_plan work tasks) (job others bytes ∷ []) (job others bytes) path
    changed path is = inl (record {
      made = refl;
      name = same_bytes (codes "t") path (or-false (bytes_eq (codes "t") path) is);
    })

    left : (path : List ℕ) → is_meta_path path ≡ true → LeavesIt (job others bytes) path
    left path meta = by (bytes_eq (codes "t") path) refl
      where
        by : (b : Bool) → bytes_eq (codes "t") path ≡ b → (b || false) ≡ false
        by true same = absurd (false≢true (subst (λ p. is_meta_path p ≡ true)
            (sym (same_bytes (codes "t") path same)) meta))
        by false same = refl

-- the build goes by meta mode
pub by-meta-mode : (tasks : Tasks) → tasks 1 ≡ lines → GoesByMetaMode work tasks
by-meta-mode tasks is = record {
  by_records = records;
  compared = compared;
  none_ignored = refl;
  no_meta_names = names;
}
  where
    records : (node : ℕ) → makes_file (node_at nodes node) ≡ true → GoesByRecords (mode_at work node)
    records zero makes = absurd (false≢true makes)
    records (suc zero) makes = record {
      meta = refl;
      missing_meta = refl;
      missing_filemon = refl;
      nofilemon = refl;
      ignore_cmd = refl;
      count_only = refl;
    }
    records (suc (suc node)) makes = absurd (false≢true makes)

    compared : (node : ℕ) → makes_file (node_at nodes node) ≡ true
        → AllByRecursion (λ (line : TaskLine). line.compared ≡ true) (tasks node)
    compared zero makes = absurd (false≢true makes)
    compared (suc zero) makes =
        subst (AllByRecursion (λ (line : TaskLine). line.compared ≡ true)) (sym is) (refl, tt)
    compared (suc (suc node)) makes = absurd (false≢true makes)

    names : (node : ℕ) → has_job (node_at nodes node) ≡ true → is_meta_path (node_at nodes node).name ≡ false
    names zero has = absurd (false≢true has)
    names (suc zero) has = refl
    names (suc (suc node)) has = absurd (false≢true has)

-- a clean build has the same plan and tasks
alike : (others : Store) (bytes : List ℕ) (tasks : Tasks) → tasks 1 ≡ lines
    → ArePlansAlike language env no_order (files others bytes) work tasks work
alike others bytes tasks is = record {
  planned = record {
    made = made;
    nodes = nodes;
    listings = λ dir. None;
    read = ap (λ (it : Reads Made). it.answer) (clean-reading-is others bytes);
    leaves = subst (λ (it : Reads Made). AllByRecursion
        (LeavesThem language (start others bytes) (λ dir. None)) it.acts)
        (sym (clean-reading-is others bytes)) (tt, tt);
    planned = clean-planned-is others bytes;
    work_is = refl;
  };
  plan = refl;
  same_tasks = λ one among.
      subst (HasSameTask work work tasks)
      (the-job others bytes one (subst (λ l. IsAmong one l) (jobs-are others bytes) among))
      ([], clean-task-is others bytes ∙ ap (λ l. Ok (task_with work.variables work.mode.exports (codes "t") l, [])) (sym is));
}

files-stand : (bytes : List ℕ) (old : History) → IsReady bytes old → files (files_of old) bytes ≡ files_of old
files-stand bytes old ready =
    ap (λ all. with_file all (codes "a") bytes)
    (put-there (files_of old) (codes "makefile") makefile ready.makefile_is)
    ∙ put-there (files_of old) (codes "a") bytes ready.source_is

-- All that is asked of a run of the example.
pub ready-run : (bytes : List ℕ) (old : History) (planned_at : Option History) (tasks : Tasks) → IsReady bytes old
    → ((asked : List Happening) → planned_at ≡ Some (longer old asked) → AllByRecursion LeavesFiles asked)
    → tasks 1 ≡ lines → IsReadyRun language env no_order planned_at work tasks old work
ready-run bytes old planned_at tasks ready asks is = record {
  lawful = ready.lawful;
  idle = ready.idle;
  truth = ready.truth;
  asks = asks;
  mode = by-meta-mode tasks is;
  alike = subst (λ s. ArePlansAlike language env no_order s work tasks work) (files-stand bytes old ready)
      (alike (files_of old) bytes tasks is);
  declared = subst (λ s. IsDeclared (clean_plan work tasks) (clean_jobs_of language work (bare nodes s)))
      (files-stand bytes old ready)
      (subst (IsDeclared (clean_plan work tasks)) (sym (jobs-are (files_of old) bytes))
      (declared (files_of old) bytes tasks));
}

-- a run of it, behind its words

-- what was read is what the makefile says, and nothing but looks happened
record IsRead (old mid : History) (made_then : Made) : Type 0 where
  made_is : made_then ≡ made
  quiet : IsQuiet old mid

was-read : (bytes : List ℕ) (old mid : History) (held held_after : Option (List ℕ)) (made_then : Made)
    → IsReady bytes old
    → ReadBy language (Some old) (Some mid) held held_after (Ok made_then) (λ answers. reading answers env no_order)
    → IsRead old mid made_then
was-read bytes old mid held held_after made_then ready reads = record {
  made_is = sym (same-ok made made_then
      (sym (ap (λ (it : Reads Made). it.answer) (reading-is (agreeing reads.questions))) ∙ gave.0));
  quiet = asked-quiet language reads.questions old mid
      (subst (AllByRecursion IsLooked)
      (sym (gave.1.asks ∙ ap (λ (it : Reads Made). asked_in it.acts) (reading-is (agreeing reads.questions))))
      (tt, tt)) reads.asked;
}
  where
    first : Gave held held_after (acts_of reads.questions) (Ok made_then)
        (reading (agreeing reads.questions) env no_order)
    first = reads.gave (agreeing reads.questions) (agrees reads.questions)

    found : found_in (slice_get (readings_in reads.questions) zero) ≡ Some makefile
    found =
        first-found language reads.questions old mid (codes "makefile") _ reads.asked
        (first.1.asks ∙ (reading-first (agreeing reads.questions)).1)
        ∙ ready.makefile_is

    gave : Gave held held_after (acts_of reads.questions) (Ok made_then)
        (reading (answers (agreeing reads.questions)) env no_order)
    gave = reads.gave (answers (agreeing reads.questions)) (record {
      exists = (agrees reads.questions).exists;
      contents = there;
      listings = (agrees reads.questions).listings;
      outputs = (agrees reads.questions).outputs;
    })
      where
        there : (place : ℕ) (one : Reading) → slice_get (readings_in reads.questions) place ≡ Some one
            → one.found ≡ (answers (agreeing reads.questions)).contents place one.path
        there zero one is = sym (ap found_in is) ∙ found
        there (suc place) one is = (agrees reads.questions).contents (suc place) one is

some-same : {A : Type 0} {one other : A} → ◌≡◌ {A = Option A} (Some one) (Some other) → one ≡ other
some-same {A} {one} {other} is = cc

-- the target alone is made
not-made : (path : List ℕ) → (codes "t" ≡ path → ⊥) → (n : ℕ) → makes_file (node_at nodes n) ≡ true
    → (node_at nodes n).name ≡ path → ⊥
not-made path other zero makes is = false≢true makes
not-made path other (suc zero) makes is = other is
not-made path other (suc (suc n)) makes is = false≢true makes

-- the lines of its task are those of the clean build
judged-lines : (tasks : Tasks) → HasJudgedLines work tasks 1 → tasks 1 ≡ lines
judged-lines tasks (seen, inl (inl none)) = let empty = none.0 in absurd cc
judged-lines tasks (seen, inl (inr (some, task, judged, is))) =
    is ∙ ap (λ (it : Task × List Asked). it.0.lines)
    (same-ok _ _ (sym judged.has ∙ task-is (newer_of work 1 judged.sight.target judged.sight.sources) judged.sight.asked))
judged-lines tasks (seen, inr (task, why, judged, is)) =
    is ∙ ap (λ (it : Task × List Asked). it.0.lines)
    (same-ok _ _ (sym judged.has ∙ task-is (newer_of work 1 judged.sight.target judged.sight.sources) judged.sight.asked))

well-made : IsWellMade work
well-made = record { ordered = refl; sourced = refl; distinct = differ }
  where
    differ : AreDistinct (plan_names nodes)
    differ = planned-differ

-- what a build of the example leaves
leaves-copy : (bytes : List ℕ) (old mid new : History) (first last : Point) (went : Went) (made_then : Made)
    → IsReady bytes old → IsRead old mid made_then → first.history ≡ Some mid → last.history ≡ Some new
    → went.end ≡ Done → (built : IsBuilt language made_then no_order.flags first last went)
    → Run language old new
    → (went.end ≡ Done → (clean : Work)
    → IsReadyRun language env no_order built.planned_at (work_on built.nodes made_then no_order.flags)
    built.built.true_build.build.tasks old clean
    → LeavesCleanFiles language (work_on built.nodes made_then no_order.flags)
    built.built.true_build.build.tasks built.built.true_build.build.items old new clean
    (bare built.nodes (files_of old)))
    → IsCopied bytes new
leaves-copy bytes old mid new first last went made_then ready was at then_is done built happened cleans =
    planned_then built.planned_at refl
  where
    planned_then : (planned_at : Option History) → built.planned_at ≡ planned_at
        → IsCopied bytes new
    planned_then None here = absurd (told-before _ here then_is built.built.true_build.build.told)
    planned_then (Some planned_at) here = record {
      target_is = leaves.same (job (files_of old) bytes) among refl
          ∙ subst (λ s. clean_files_of language work s (codes "t") ≡ Some bytes) starts (files-are (files_of old) bytes);
      makefile_is = stays (codes "makefile") refl (λ is. false≢true (sym (ap (bytes_eq (codes "t")) is)))
          (λ all. refl, (λ all. refl, tt)) ∙ ready.makefile_is;
      source_is = stays (codes "a") refl (λ is. false≢true (sym (ap (bytes_eq (codes "t")) is)))
          (λ all. refl, (λ all. refl, tt)) ∙ ready.source_is;
      lawful = runs_stay_lawful language old new happened ready.lawful;
      truth = leaves.truth;
    }
      where
        looked_only : OnlyLooks mid planned_at
            × (planned (files_of mid) made_then [] false ≡ Ok built.nodes)
        looked_only = told-at _ at here (ByLooks-told built.planned)

        nodes_are : built.nodes ≡ nodes
        nodes_are = sym (same-ok nodes built.nodes
            (sym (planned-is (files_of old) bytes)
            ∙ (ap (λ s. planned s made [] false) (files-stand bytes old ready ∙ sym was.quiet.files)
            ∙ (ap (λ m. planned (files_of mid) m [] false) (sym was.made_is) ∙ looked_only.1))))

        work_is : work_on built.nodes made_then no_order.flags ≡ work
        work_is = ap (λ l. work_on l made_then no_order.flags) nodes_are
            ∙ ap (λ m. work_on nodes m no_order.flags) was.made_is

        starts : start (files_of old) bytes ≡ bare built.nodes (files_of old)
        starts = ap (bare nodes) (files-stand bytes old ready) ∙ ap (λ l. bare l (files_of old)) (sym nodes_are)

        result_is : built.result ≡ build.Done
        result_is = done-build built.nodes built.result went.end done built.end

        over : IsOver (work_on built.nodes made_then no_order.flags) None
            (build_after_all (work_on built.nodes made_then no_order.flags) built.built.true_build.build.tasks
            (first_build (work_on built.nodes made_then no_order.flags)) built.built.true_build.build.items)
        over = subst (λ r. StandsBy (work_on built.nodes made_then no_order.flags) r
            (build_after_all (work_on built.nodes made_then no_order.flags) built.built.true_build.build.tasks
            (first_build (work_on built.nodes made_then no_order.flags)) built.built.true_build.build.items))
            result_is built.built.true_build.build.stands

        tasks_are : built.built.true_build.build.tasks 1 ≡ lines
        tasks_are = judged-lines built.built.true_build.build.tasks
            (subst (λ w. HasJudgedLines w built.built.true_build.build.tasks 1) work_is
            (over-judged (work_on built.nodes made_then no_order.flags) built.built.true_build.build.tasks
            built.built.true_build.build.items (subst IsWellMade (sym work_is) well-made)
            built.built.true_build.build.makes
            (subst (λ w. 0 < jobs_of w) (sym work_is) (omega arith)) over 1
            (subst (λ (l : List PlanNode). 1 < length l) (sym nodes_are) (omega arith))))

        leaves : LeavesCleanFiles language (work_on built.nodes made_then no_order.flags)
            built.built.true_build.build.tasks built.built.true_build.build.items old new work
            (bare built.nodes (files_of old))
        leaves = cleans done work
            (subst (λ w. IsReadyRun language env no_order built.planned_at w built.built.true_build.build.tasks old work)
            (sym work_is)
            (ready-run bytes old built.planned_at built.built.true_build.build.tasks ready
            (λ asked is. quiet-leaves old planned_at (quiet-looks old mid planned_at was.quiet looked_only.0) asked
            (some-same (sym here ∙ is))) tasks_are))

        stays : (path : List ℕ) → is_meta_path path ≡ false → (codes "t" ≡ path → ⊥)
            → AllByRecursion (LeavesPath path) (deeds_of (job (files_of old) bytes))
            → files_of new path ≡ files_of old path
        stays path plain other leave =
            stays-there (work_on built.nodes made_then no_order.flags) built.built.true_build.build.tasks path
            (clean_jobs_of language work (bare built.nodes (files_of old))) leaves.built.turns old new plain
            (subst (λ l. (n : ℕ) → makes_file (node_at l n) ≡ true → (node_at l n).name ≡ path → ⊥) (sym nodes_are)
            (not-made path other))
            leaves.built.may leaves.built.files leaves.steps_are
            (λ one is. subst (λ (it : CleanJob). AllByRecursion (LeavesPath path) (deeds_of it))
            (the-job (files_of old) bytes one
            (subst (λ l. IsAmong one l)
            (ap (clean_jobs_of language work) (sym starts) ∙ jobs-are (files_of old) bytes) is)) leave)

        among : IsAmong (job (files_of old) bytes)
            (clean_jobs_of language work (bare built.nodes (files_of old)))
        among = subst (λ s. IsAmong (job (files_of old) bytes) (clean_jobs_of language work s)) starts
            (subst (λ l. IsAmong (job (files_of old) bytes) l) (sym (jobs-are (files_of old) bytes)) (inl refl))

of-run : (bytes : List ℕ) (old new : History) (out out_after : Option (List ℕ)) (err : Held) (report : Report)
    → IsReady bytes old
    → IsTrueOrderRun language [] env no_order (point (Some old) out) (point (Some new) out_after) err report
    → report.end ≡ Done → IsCopied bytes new
of-run bytes old new out out_after err report ready run done =
    from followed.read_at followed.read followed.reads followed.goes run.clean
  where
    followed : Followed language env no_order (point (Some old) out) (point (Some new) out_after)
        (record { before = err.before; after = run.run.err_at }) run.run.went
    followed = run.run.followed

    went_done : run.run.went.end ≡ Done
    went_done = done-before [] run.run.went.end report.end _ run.run.closed done

    from : (read_at : Option History) (read : Result Made ReadFault)
        → ReadBy language (Some old) read_at err.before run.run.err_at read (λ answers. reading answers env no_order)
        → (goes : Goes language (by_reading env no_order read) (point read_at out) (point (Some new) out_after)
        run.run.went)
        → LeavesClean language env no_order
        (built_in language (by_reading env no_order read) (point read_at out) (point (Some new) out_after) run.run.went
        goes) report.end old new
        → IsCopied bytes new
    from read_at (Err fault) reads goes cleans =
        absurd (unread fault _ run.run.went.end went_done goes.printed)
    from read_at (Ok made_then) reads (inl unplanned) cleans =
        absurd (plan-fault unplanned.fault
        (sym (unbuilt-end run.run.went (of_plan unplanned.fault) unplanned.is) ∙ went_done))
    from None (Ok made_then) reads (inr built) cleans = absurd (untold built.planned_at refl)
      where
        untold : (planned_at : Option History) → built.planned_at ≡ planned_at → ⊥
        untold None here = told-before _ here refl built.built.true_build.build.told
        untold (Some planned_at) here = told-before _ refl here (ByLooks-told built.planned)
    from (Some mid) (Ok made_then) reads (inr built) cleans =
        leaves-copy bytes old mid new (point (Some mid) out) (point (Some new) out_after) run.run.went made_then ready
        (was-read bytes old mid err.before run.run.err_at made_then ready reads) refl refl went_done built
        run.happened (λ went clean is_ready. cleans done clean is_ready)

pub copies-right : CopiesAreRight
copies-right bytes old new out out_after err report ready run done = by run.order run.is run.follows
  where
    no-memory : (end : End) → end ≡ Done → end ≡ NoMemory → ⊥
    no-memory end is want = cc

    by : (order : Result Order End) → Agrees NoMemory (λ asked. asked) order (asked env.cwd [])
        → Follows language [] env order (point (Some old) out) (point (Some new) out_after) err report
        → IsCopied bytes new
    by (Err end) (inl want) refused =
        absurd (no-memory end (done-before [] end report.end err refused.closed done) want)
    by (Err end) (inr other) refused = absurd cc
    by (Ok order) is does =
        of-run bytes old new out out_after err report ready
        (subst (λ (o : Order). Does language [] env o o.generate (point (Some old) out) (point (Some new) out_after)
        err report) (sym (same-ok no_order order is)) does) done

-- a new world

new-missing : (bytes path : List ℕ) → is_meta_path path ≡ true → files_of (new_world bytes) path ≡ None
new-missing bytes path meta = by (bytes_eq (codes "makefile") path) (bytes_eq (codes "a") path) refl refl
  where
    other : (name : List ℕ) → is_meta_path name ≡ false → bytes_eq name path ≡ true → ⊥
    other name never same =
        false≢true (sym never ∙ (ap is_meta_path (same_bytes name path same) ∙ meta))

    by : (first second : Bool) → bytes_eq (codes "makefile") path ≡ first → bytes_eq (codes "a") path ≡ second
        → files_of (new_world bytes) path ≡ None
    by true second is then_is = absurd (other (codes "makefile") refl is)
    by false true is then_is = absurd (other (codes "a") refl then_is)
    by false false is then_is = rw (is, then_is) refl

pub new-ready : NewWorldsAreReady
new-ready bytes = record {
  makefile_is = refl;
  source_is = refl;
  lawful = record { events = tt };
  idle = refl;
  truth = λ meta lawful stands. absurd (none meta stands);
}
  where
    none : (meta : Meta) → files_of (new_world bytes) (meta_path meta.target) ≡ Some (meta_text meta) → ⊥
    none meta stands =
        let missing = new-missing bytes (meta_path meta.target) (meta_path-is meta.target) in cc
