-- The job of a node that is recorded repeats itself on the files that stand.
use Rattle.std.proofs.Common.{◌≡◌, ◌∙◌, ℕ, List, true, refl, sym, ap, subst}
use Rattle.mk_clean.proofs.RepeatedLemmas.{exact_records_are_of_steps, recorded_jobs_repeat}
use Rattle.mk_clean.specs.Clean.{Plan, doings_on}
use Rattle.mk_clean.specs.Kept.{seen_at}
use Rattle.mk_clean.specs.Repeated.{IsAsRecorded}
use Rattle.mk_clean.specs.Tested.{HasTask}
use Rattle.mk_decision.specs.Decisions.{Work}
use Rattle.mk_declared.proofs.RecordedLemmas.{declared_by}
use Rattle.mk_filemon.specs.Outer.{ops_of}
use Rattle.mk_filemon.specs.declared.record.Rec.{Rec}
use Rattle.mk_headline.proofs.PlanLemmas.{job-has}
use Rattle.mk_headline.specs.Plans.{clean_plan, has_job}
use Rattle.mk_meta.specs.TrueHistory.{deeds_of_job}
use Rattle.mk_plan.specs.Plans.{node_at}
use Rattle.mk_sound.specs.Files.{IsTrueStart}
use Rattle.mk_trace.specs.Runs.{Tasks}
use Rattle.mk_uptodate.specs.Recorded.{IsRecorded, RecordedFilesAreDeclared, RecordedNodesDoTheSame}
use Rattle.mk_uptodate.specs.UpToDate.{task_in}
use Rattle.mk_world.specs.Calls.{when_of}
use Rattle.mk_world.specs.History.{FileMap, MayAll, after_all, contents, files_of, first_state, state_of}
use Rattle.mk_world.specs.Records.{AreExact}
use Rattle.mk_world.specs.Talks.{Meaning}
use Rattle.mk_world.specs.declared.history.Happening.{Happening}
use Rattle.mk_world.specs.declared.history.History.{History}

module _ (meaning : Meaning) (old : History) (work : Work) (lines : Tasks) (node : ℕ) (records : List Rec)
    (start : IsTrueStart meaning old) (job : has_job (node_at work.plan node) ≡ true)
    (its : IsRecorded meaning old work lines node records)
  where
    abbrev plan : Plan
    plan = clean_plan work lines

    abbrev later : List ℕ → List Happening
    later path = its.told.since

    -- all that has happened is what had happened at the moment of each path
    now : (state_of old).files ≡ seen_at old.base its.told later
    now = ap (λ events. (after_all (first_state old.base) events).files) its.told.all

    has_task : HasTask plan node (task_in work lines node)
    has_task = record {
      name = refl;
      lines = rw job refl;
      command = λ line. refl;
      compared = its.compared;
    }

    same : doings_on meaning plan node (files_of old) ≡ its.told.doings
    same =
        ap (λ (files : FileMap). doings_on meaning plan node (contents files)) now
        ∙ recorded_jobs_repeat meaning old.base its.meta old.events its.told later records plan node
        (task_in work lines node)
        (λ path. subst (MayAll meaning (first_state old.base)) its.told.all start.lawful.events)
        its.recorded has_task
        (subst (λ (files : FileMap). IsAsRecorded its.meta records (task_in work lines node)
        (λ path. when_of (files path))) now its.as_recorded)

    pub repeats_itself : AreExact (ops_of records) (deeds_of_job (doings_on meaning plan node (files_of old)))
    repeats_itself =
        subst (λ doings. AreExact (ops_of records) (deeds_of_job doings)) (sym same)
        (exact_records_are_of_steps meaning.next its.meta old.events its.told records its.recorded its.exact)

pub recorded_nodes_do_the_same : RecordedNodesDoTheSame
recorded_nodes_do_the_same = repeats_itself

pub recorded_files_are_declared : RecordedFilesAreDeclared
recorded_files_are_declared meaning old work lines records start its declared =
    declared_by meaning (clean_plan work lines) (files_of old) (λ node. ops_of (records node))
    (λ node among. repeats_itself meaning old work lines node (records node) start (job-has work node among).1
    (its node among)) declared
