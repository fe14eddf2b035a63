-- Makefiles that ask for nothing that builds leave are sound.
use Rattle.std.proofs.Common.{◌≡◌, ◌∙◌, ℕ, List, [], ◌∷◌, ◌++◌, is_some}
use Rattle.std.proofs.Common.{inl, inr, refl, sym, ap, subst}
use Rattle.std.specs.List.{AllByRecursion}
use Rattle.mk_answers.proofs.ReadingLemmas.{readings_part_at_questions}
use Rattle.mk_answers.specs.OnFiles.{ChangesNone}
use Rattle.mk_answers.specs.Readings.{AnswerAlike, Counts, behind_acts, none_so_far}
use Rattle.mk_blocks.specs.Acts.{Act, wrote, looked, dated, listed, ran}
use Rattle.mk_clean.specs.Clean.{CleanJob, IsAmong}
use Rattle.mk_cli.specs.declared.order.Order.{Order}
use Rattle.mk_decision.specs.Decisions.{Work, source_names}
use Rattle.mk_graph.specs.declared.Made.{Made}
use Rattle.mk_headline.proofs.PlanLemmas.{job-has}
use Rattle.mk_headline.specs.Plans.{jobs_from}
use Rattle.mk_looks.specs.Looks.{looks_for_newer}
use Rattle.mk_makefile.specs.ReadFaults.{Reads}
use Rattle.mk_plain.proofs.WalkLemmas.{plans_are_alike_by_names}
use Rattle.mk_plain.specs.Plain.{IsAskedPlainly, PlainFilesAreSound}
use Rattle.mk_plan.specs.Plans.{node_at}
use Rattle.mk_plan.specs.Tasks.{Setting, setting_of, task_with}
use Rattle.mk_reader.specs.OnMaps.{Listings, answers_on, reading_on}
use Rattle.mk_run.specs.CleanRuns.{LeavesThem, bare, by_files, clean_jobs_of, jobs_on, left_by}
use Rattle.mk_same.proofs.TaskLemmas.{task_names_are_by_answers, tasks_are_by_answers}
use Rattle.mk_scopes.specs.declared.scopes.Env.{Env}
use Rattle.mk_sound.specs.Sound.{HasItsTask}
use Rattle.mk_values.specs.Facts.{AnsweredBy, Answers}
use Rattle.mk_world.specs.Deeds.{Store}
use Rattle.mk_world.specs.Talks.{Meaning}

-- one of some acts
at-act : (P : Act → Type 0) (common : List Act) (act : Act) (rest : List Act)
    → AllByRecursion P (common ++ act ∷ rest) → P act
at-act P [] act rest all = all.0
at-act P (one ∷ common) act rest all = at-act P common act rest all.1

all-so : (P Q : Act → Type 0) (acts : List Act) → ((act : Act) → P act → Q act) → AllByRecursion P acts
    → AllByRecursion Q acts
all-so P Q [] so all = tt
all-so P Q (act ∷ acts) so all = (so act all.0, all-so P Q acts so all.1)

-- the node of a job
job-node : (meaning : Meaning) (work : Work) (ns : List ℕ) (store : Store) (one : CleanJob)
    → IsAmong one (jobs_on meaning work ns store) → IsAmong one.node ns
job-node meaning work [] store one among = absurd among
job-node meaning work (n ∷ ns) store one (inl at) = inl (ap (λ (job : CleanJob). job.node) at)
job-node meaning work (n ∷ ns) store one (inr among) =
    inr (job-node meaning work ns (left_by meaning work n store) one among)

module _ (meaning : Meaning) (files other : Store) (listings : Listings) where
  -- an act that is asked plainly is answered the same
  asked-alike : (so_far : Counts) (act : Act) → IsAskedPlainly files other listings act
      → AnswerAlike (answers_on meaning files listings) (answers_on meaning other listings) so_far act
  asked-alike so_far (wrote message) is = tt
  asked-alike so_far (looked path) is = is
  asked-alike so_far (dated path) is = ap is_some is
  asked-alike so_far (listed dir) is = refl
  asked-alike so_far (ran cmd) is = absurd is

  changes-none : (act : Act) → IsAskedPlainly files other listings act → ChangesNone meaning files listings act
  changes-none (wrote message) is = tt
  changes-none (looked path) is = tt
  changes-none (dated path) is = tt
  changes-none (listed dir) is = is.0
  changes-none (ran cmd) is = absurd is

  leaves-them : (act : Act) → IsAskedPlainly files other listings act → LeavesThem meaning other listings act
  leaves-them (wrote message) is = tt
  leaves-them (looked path) is = tt
  leaves-them (dated path) is = tt
  leaves-them (listed dir) is = is.1
  leaves-them (ran cmd) is = absurd is

  -- the reading is the same
  reading-alike : (env : Env) (order : Order)
      → AllByRecursion (IsAskedPlainly files other listings) (reading_on meaning files listings env order).acts
      → reading_on meaning other listings env order ≡ reading_on meaning files listings env order
  reading-alike env order asks =
      readings_part_at_questions (answers_on meaning files listings) (answers_on meaning other listings) env order
      (λ common act rest other_rest is other_is.
      asked-alike (behind_acts none_so_far common) act
      (at-act (IsAskedPlainly files other listings) common act rest
      (subst (AllByRecursion (IsAskedPlainly files other listings)) is asks)))

pub plain_files_are_sound : PlainFilesAreSound
plain_files_are_sound meaning env order files made listings work lines plain room mode declared = (
  record {
    made = made;
    listings = listings;
    read = plain.read;
    work = work;
    planned = plain.planned;
    work_is = plain.work_is;
    lines = lines;
    room = room;
    asks = all-so (IsAskedPlainly files other listings) (ChangesNone meaning files listings)
        (reading_on meaning files listings env order).acts (changes-none meaning files other listings) plain.asks;
    mode = mode;
    alike = record {
      made = made;
      nodes = work.plan;
      listings = listings;
      read = ap (λ (it : Reads Made). it.answer) same ∙ plain.read;
      leaves =
          subst (λ (it : Reads Made). AllByRecursion (LeavesThem meaning other listings) it.acts) (sym same)
          (all-so (IsAskedPlainly files other listings) (LeavesThem meaning other listings)
          (reading_on meaning files listings env order).acts (leaves-them meaning files other listings) plain.asks);
      planned = plans_are_alike_by_names files other made order.flags.requested order.flags.query work.plan
          plain.names plain.planned;
      work_is = plain.work_is;
    };
    tasks_are = λ one among. has-task one among;
    declared = declared;
  },
  refl,
  refl,
)
  where
    other : Store
    other = bare work.plan files

    same : reading_on meaning other listings env order ≡ reading_on meaning files listings env order
    same = reading-alike meaning files other listings env order plain.asks

    setting : Setting
    setting = setting_of work.variables work.lists (by_files files)

    nothing : (answers : Answers) → AnsweredBy answers []
    nothing answers place asked is = absurd cc

    has-task : (one : CleanJob) → IsAmong one (clean_jobs_of meaning work other)
        → HasItsTask work lines (clean_jobs_of meaning work other) one
    has-task one among =
        let its = plain.tasks one.node
        (job-has work one.node (job-node meaning work (jobs_from 0 work.plan) other one among)).1 in
        record {
          asked = [];
          task = tasks_are_by_answers setting (by_files one.before) work.suffixes work.plan one.node
              (source_names work one.node) work.mode work.flags []
              (task_with work.variables work.mode.exports (node_at work.plan one.node).name (lines one.node), [])
              its.task (nothing (by_files one.before));
          no_newer = ap looks_for_newer
              (task_names_are_by_answers setting (by_files one.before) work.suffixes work.plan one.node
              (source_names work one.node) work.mode work.flags []
              (task_with work.variables work.mode.exports (node_at work.plan one.node).name (lines one.node), [])
              its.task (nothing (by_files one.before)))
              ∙ its.no_newer;
          sources = λ question among_it. absurd among_it;
        }
