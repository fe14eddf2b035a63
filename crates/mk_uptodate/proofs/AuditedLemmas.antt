-- What is told from the meta files that stand is so of the jobs.
use Rattle.std.proofs.Common.{◌≡◌, ◌∙◌, ℕ, suc, Bool, true, false, List, [], ◌∷◌, map, Some, refl, ap, subst, arith}
use Rattle.std.specs.List.{All, AllByRecursion}
use Rattle.mk_clean.specs.Repeated.{IsAsRecorded}
use Rattle.mk_cli.specs.declared.order.Order.{Order}
use Rattle.mk_declared.proofs.RecordedLemmas.{source}
use Rattle.mk_filemon.specs.declared.record.Rec.{Rec}
use Rattle.mk_headline.proofs.PlanLemmas.{job-has}
use Rattle.mk_headline.specs.Plans.{clean_plan, has_job, makes_file}
use Rattle.mk_headline.specs.Premises.{GoesByMetaMode}
use Rattle.mk_meta.specs.Texts.{meta_text}
use Rattle.mk_meta.specs.TrueHistory.{meta_path}
use Rattle.mk_oodate.proofs.FreshLemmas.{no_reason_is_fresh}
use Rattle.mk_oodate.specs.Fresh.{IsOlderThan}
use Rattle.mk_oodate.specs.Lists.{missed_paths, read_paths}
use Rattle.mk_plan.specs.Plans.{node_at}
use Rattle.mk_scopes.specs.declared.scopes.Env.{Env}
use Rattle.mk_decision.specs.Decisions.{Work, mode_at}
use Rattle.mk_sound.specs.Files.{IsTrueStart}
use Rattle.mk_trace.specs.Runs.{Tasks}
use Rattle.mk_uptodate.proofs.FileLemmas.{up_to_date_files_are_sound}
use Rattle.mk_uptodate.proofs.NodeLemmas.{goes-unforced}
use Rattle.mk_uptodate.proofs.RecordedLemmas.{recorded_files_are_declared, recorded_nodes_do_the_same}
use Rattle.mk_uptodate.specs.Audited.{AreAudited, AuditedFilesAreSound, HasExactHistory, IsUpToDateBy, StandsAsRecorded, ops_by}
use Rattle.mk_uptodate.specs.Recorded.{IsRecorded}
use Rattle.mk_uptodate.specs.UpToDate.{AreUpToDate, task_in, time_in, times_in, unforced}
use Rattle.mk_world.specs.History.{files_of}
use Rattle.mk_world.specs.Talks.{Meaning}
use Rattle.mk_world.specs.declared.history.History.{History}
use Rattle.mk_world.specs.declared.time.When.{When}
use Rattle.mk_world.specs.declared.time.When.TheVariants as when

-- what holds of all that is made of items holds of these
pub all-made : {X Y : Type 0} (Kind : Y → Type 0) (make : X → Y) (items : List X) → All Kind (map make items)
    → AllByRecursion (λ item. Kind (make item)) items
all-made Kind make [] all = tt
all-made Kind make (item ∷ items) all = (
  all 0 (make item) (omega arith),
  all-made Kind make items (λ place other less. all (suc place) other (omega (arith, less))),
)

module _ (meaning : Meaning) (old : History) (start : IsTrueStart meaning old)
    (exact : HasExactHistory meaning old start) (work : Work) (lines : Tasks)
  where
    -- a node that stands as it is recorded is one whose meta file tells what happened
    told : (node : ℕ) (records : List Rec) → StandsAsRecorded old work lines node records
        → IsRecorded meaning old work lines node records
    told node records its =
        let stands : files_of old (meta_path its.meta.target) ≡ Some (meta_text its.meta) =
        ap (λ path. files_of old (meta_path path)) its.target ∙ its.stands in
        record {
          meta = its.meta;
          told = start.truth its.meta its.lawful stands;
          recorded = its.recorded;
          exact = exact its.meta its.lawful stands;
          compared = its.compared;
          as_recorded = its.as_recorded;
        }

    -- and so is one that is up to date
    fresh-stands : (node : ℕ) (records : List Rec) → GoesByMetaMode work lines
        → makes_file (node_at work.plan node) ≡ true → IsUpToDateBy old work lines node records
        → StandsAsRecorded old work lines node records
    fresh-stands node records mode makes by =
        let its = by.fresh in
        let name = (node_at work.plan node).name in
        let is = no_reason_is_fresh its.meta (task_in work lines node)
        (unforced (mode_at work node)) (times_in old name its.ages its.records)
        (goes-unforced (mode_at work node) (mode.by_records node makes)) its.no_reason in
        record {
          meta = its.meta;
          lawful = its.lawful;
          stands = its.stands;
          target = is.target;
          recorded = its.recorded ∙ ap (λ (all : List Rec). Some all) by.records_are;
          compared = mode.compared node makes;
          as_recorded = subst (λ all. IsAsRecorded its.meta all (task_in work lines node) (time_in old)) by.records_are
              (record {
                exports = is.exports;
                directory = is.directory;
                lines = is.lines;
                reads = all-made (IsOlderThan its.meta.stamp) (time_in old) (read_paths [] its.records) is.reads;
                misses = all-made (λ (time : When). time ≡ when.Missing) (time_in old)
                    (missed_paths [] its.records) is.misses;
              });
        }

module _ (meaning : Meaning) (env : Env) (order : Order) (old : History) (start : IsTrueStart meaning old)
    (exact : HasExactHistory meaning old start) (its : AreAudited meaning env order old)
  where
    stands : (node : ℕ) → has_job (node_at its.work.plan node) ≡ true
        → StandsAsRecorded old its.work its.lines node (its.records node)
    stands node job = by (makes_file (node_at its.work.plan node)) refl
      where
        by : (makes : Bool) → makes_file (node_at its.work.plan node) ≡ makes
            → StandsAsRecorded old its.work its.lines node (its.records node)
        by true is =
            fresh-stands meaning old start exact its.work its.lines node (its.records node) its.mode is
            (its.fresh node is)
        by false is = its.phony node job is

    recorded : (node : ℕ) → has_job (node_at its.work.plan node) ≡ true
        → IsRecorded meaning old its.work its.lines node (its.records node)
    recorded node job =
        told meaning old start exact its.work its.lines node (its.records node) (stands node job)

    up_to_date : AreUpToDate meaning env order old
    up_to_date = record {
      made = its.made;
      listings = its.listings;
      read = its.read;
      names_differ = its.names_differ;
      work = its.work;
      planned = its.planned;
      work_is = its.work_is;
      lines = its.lines;
      room = its.room;
      asks = its.asks;
      mode = its.mode;
      alike = its.alike;
      tasks_are = λ node job.
          let task = its.tasks_are node job in
          record {
            asked = task.asked;
            task = task.task;
            no_newer = task.no_newer;
            answered = task.answered;
            sources = λ question among.
                source meaning (clean_plan its.work its.lines) (files_of old) (ops_by its.records)
                (λ other there. recorded_nodes_do_the_same meaning old its.work its.lines other (its.records other) start
                (job-has its.work other there).1 (recorded other (job-has its.work other there).1))
                its.declared question.path (task.unaltered question among);
          };
      fresh = λ node makes. (its.fresh node makes).fresh;
      declared = recorded_files_are_declared meaning old its.work its.lines its.records start
          (λ node among. recorded node (job-has its.work node among).1) its.declared;
    }

pub audited_files_are_sound : AuditedFilesAreSound
unfolding up_to_date
audited_files_are_sound meaning env order old start exact its =
    let clean = up_to_date_files_are_sound meaning env order old start
    (up_to_date meaning env order old start exact its) in
    record {
      sound = clean.sound;
      work_is = clean.work_is;
      lines_are = clean.lines_are;
      same = clean.same;
    }
