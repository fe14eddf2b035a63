-- The meta file that is written when a job is over tells what happened.
use Rattle.std.proofs.Common.{◌≡◌, ◌∙◌, ℕ, ◌+◌, ◌<◌, ◌^◌, List, [], ◌∷◌, ◌++◌, length, map, flat_map, Option, Some, None, IfSome, Bool, true, false, if◌then◌else◌}
use Rattle.std.proofs.Common.{refl, sym, ap, subst, append_assoc}
use Rattle.std.proofs.lemmas.List.{append-nil}
use Rattle.std.specs.List.{AllZip}
use Rattle.std.specs.Option.{option_map}
use Rattle.mk_export.specs.Lists.{AreExports}
use Rattle.mk_filemon.specs.declared.record.Rec.{Rec}
use Rattle.mk_meta.proofs.JobLemmas.{jobs_are_lawful}
use Rattle.mk_meta.proofs.MetaLemmas.{none_begins}
use Rattle.mk_meta.specs.Jobs.{command_in, commands_of, is_empty, kept_line, numbered, records_from, records_of_job, working}
use Rattle.mk_meta.specs.Lawful.{IsLawful}
use Rattle.mk_meta.specs.Texts.{meta_text}
use Rattle.mk_meta.specs.TrueHistory.{JobEvent, did, ended, job_events, one_by_one, deeds_of_job, changed_paths, Alone, AreOfJob, WentWell, meta_path, IsTrue}
use Rattle.mk_meta.specs.declared.meta.Meta.{Meta}
use Rattle.mk_plan.specs.Plans.{node_at}
use Rattle.mk_world.specs.Sinks.{Begins}
use Rattle.mk_world.specs.Talks.{Doing, NextOf}
use Rattle.mk_world.specs.declared.command.Cmd.{Cmd}
use Rattle.mk_world.specs.declared.command.TaskLine.{TaskLine}
use Rattle.mk_world.specs.declared.history.Happening.{Happening}
use Rattle.mk_world.specs.declared.history.Happening.TheVariants.{Stamp, Put}
use Rattle.mk_world.specs.declared.step.Deed.{Deed}
use Rattle.mk_world.specs.declared.step.Op.{Op}
use Rattle.mk_decision.specs.Decisions.{Work}
use Rattle.mk_trace.proofs.ItemLemmas.{happened_all-append}
use Rattle.mk_trace.proofs.TrueJobs.{Went, Ran}
use Rattle.mk_trace.proofs.TrueStages.{Job}
use Rattle.mk_trace.proofs.TrueTexts.{same-text}
use Rattle.mk_trace.specs.Builds.{Own, command_of}
use Rattle.mk_trace.specs.Collected.{IsCountable, meta_of}
use Rattle.mk_trace.specs.Items.{head, Item, changes, happened_all}
use Rattle.mk_trace.specs.Runs as run
use Rattle.mk_trace.specs.TrueBuilds.{deed_of, deeds_in}

-- the lines as a meta file keeps them

working-kept : (lines : List TaskLine) → working (map kept_line lines) ≡ map kept_line (working lines)
working-kept [] = refl
working-kept (line ∷ lines) = by (is_empty line.text) refl (working-kept lines)
  where
    by : (b : Bool) → is_empty line.text ≡ b → working (map kept_line lines) ≡ map kept_line (working lines)
        → working (map kept_line (line ∷ lines)) ≡ map kept_line (working (line ∷ lines))
    by true is more = rw is more
    by false is more = rw is (ap (λ l. kept_line line ∷ l) more)

records-kept : (number : ℕ) (lines : List TaskLine) (children : List (List Op))
    → records_from number (map kept_line lines) children ≡ records_from number lines children
records-kept number [] children = refl
records-kept number (line ∷ lines) [] = refl
records-kept number (line ∷ lines) (ops ∷ children) =
    by (is_empty line.text) refl (records-kept (number + 1) lines (ops ∷ children))
    (records-kept (number + 1) lines children)
  where
    by : (b : Bool) → is_empty line.text ≡ b
        → records_from (number + 1) (map kept_line lines) (ops ∷ children)
        ≡ records_from (number + 1) lines (ops ∷ children)
        → records_from (number + 1) (map kept_line lines) children ≡ records_from (number + 1) lines children
        → records_from number (map kept_line (line ∷ lines)) (ops ∷ children)
        ≡ records_from number (line ∷ lines) (ops ∷ children)
    by true is same more = rw is same
    by false is same more = rw is (ap (λ l. numbered number ops ++ l) more)

-- the steps of a job among its events

dids : (deeds : List Deed) (events : List JobEvent)
    → flat_map deed_of (map did deeds ++ events) ≡ deeds ++ flat_map deed_of events
dids [] events = refl
dids (deed ∷ deeds) events = ap (λ l. deed ∷ l) (dids deeds events)

deeds-ran : (next : NextOf) (command : TaskLine → Cmd) (lines : List TaskLine) (doings : List Doing)
    → AllZip (Went next command) lines doings
    → flat_map deed_of (one_by_one (map command lines) doings) ≡ deeds_of_job doings
deeds-ran next command [] [] well = refl
deeds-ran next command [] (doing ∷ doings) well = absurd well
deeds-ran next command (line ∷ lines) [] well = absurd well
deeds-ran next command (line ∷ lines) (doing ∷ doings) well =
    dids doing.deeds (ended ∷ one_by_one (map command lines) doings)
    ∙ ap (λ l. doing.deeds ++ l) (deeds-ran next command lines doings well.1)

module _ (next : NextOf) (work : Work) (tasks : run.Tasks) (node : ℕ) (done : List Item) (own : Own)
    (job : Job next work tasks node done own (Ran next (command_of work) 1 (tasks node))) where
  abbrev mine : Meta
  mine = meta_of work node (tasks node) own.collected

  same-records : (without : Bool) (collected : Option (List Rec)) → IfSome collected (λ r. r ≡ job.records)
      → (if without then None else collected)
      ≡ option_map (records_of_job (tasks node))
      (if without then None else option_map (λ r. job.goes.children) collected)
  same-records true collected are = refl
  same-records false None are = refl
  same-records false (Some one) are = ap Some (are ∙ job.goes.records_are)

  mine-lawful : IsCountable own.collected → length (tasks node) < 2 ^ 32
      → AreExports work.mode.exports → IsLawful mine
  mine-lawful countable few exports =
      let recorded : Option (List (List Op)) =
      if work.mode.nofilemon then None
      else option_map (λ r. job.goes.children) own.collected.records in
      subst IsLawful
      (ap (λ (r : Option (List Rec)). record {
        stamp = record { 0 = own.collected.owner };
        exports = work.mode.exports;
        lines = map kept_line (tasks node);
        cwd = work.variables.cwd;
        target = (node_at work.plan node).name;
        output = own.collected.output;
        records = r;
      }) (sym (same-records work.mode.nofilemon own.collected.records job.recorded)))
      (jobs_are_lawful (record { 0 = own.collected.owner })
      (record {
        lines = tasks node;
        cwd = work.variables.cwd;
        target = (node_at work.plan node).name;
        exports = work.mode.exports;
      }) own.collected.output recorded
      (record {
        commands = job.commands;
        few = few;
        names = exports.names;
        sorted = exports.sorted;
      }) countable.owner
      countable.output)

  same-commands : (some : List TaskLine)
      → map (command_in mine) (map kept_line some) ≡ map (command_of work) some
  same-commands [] = refl
  same-commands (line ∷ some) = ap (λ l. command_of work line ∷ l) (same-commands some)

  commands-are : commands_of mine ≡ map (command_of work) (working (tasks node))
  commands-are = ap (map (command_in mine)) (working-kept (tasks node)) ∙ same-commands (working (tasks node))

  well-kept : (some : List TaskLine) (all : List Doing) → AllZip (Went next (command_of work)) some all
      → AllZip (WentWell next mine) (map kept_line some) all
  well-kept [] [] well = tt
  well-kept [] (doing ∷ all) well = absurd well
  well-kept (line ∷ some) [] well = absurd well
  well-kept (line ∷ some) (doing ∷ all) well =
      (record { talks = well.0.talks; well = well.0.well }, well-kept some all well.1)

  records-are : (without : Bool) (collected : Option (List Rec)) → IfSome collected (λ r. r ≡ job.records)
      → IfSome (if without then None else collected)
      (AreOfJob (map kept_line (tasks node)) job.goes.doings)
  records-are true collected are = tt
  records-are false None are = tt
  records-are false (Some one) are = record {
    children = job.goes.children;
    tell = job.goes.tell;
    all = are ∙ (job.goes.records_are ∙ sym (records-kept 1 (tasks node) job.goes.children));
  }

  regroup : (first before during : List Happening) (stamp put : Happening)
      → (first ++ (before ++ stamp ∷ during)) ++ put ∷ [] ≡ (first ++ before) ++ stamp ∷ (during ++ put ∷ [])
  regroup first before during stamp put =
      ap (λ l. l ++ put ∷ []) (sym (append_assoc first before (stamp ∷ during)))
      ∙ append_assoc (first ++ before) (stamp ∷ during) (put ∷ [])

  -- The text that a job's meta value has, written at its path, is true.
  mine-true : (old : List Happening) (path part : List ℕ) (time : ℕ) → path ≡ meta_path (node_at work.plan node).name
      → part ≡ meta_text mine
      → Alone job.stamp ((node_at work.plan node).name ∷ changed_paths (deeds_in job.stamp job.during))
      (happened_all job.during)
      → IsTrue next mine ((old ++ happened_all done) ++ Put path part time ∷ [])
  mine-true old path part time path_is part_is alone = record {
    before = old ++ happened_all job.before;
    first = job.bytes;
    during = happened_all job.during;
    time = time;
    since = [];
    doings = job.goes.doings;
    all = ap (λ l. (old ++ l) ++ Put path part time ∷ [])
        (ap happened_all job.cut
        ∙ happened_all-append job.before (changes node (head job.path job.bytes job.stamp) ∷ job.during))
        ∙ (regroup old (happened_all job.before) (happened_all job.during)
        (Stamp job.path job.bytes job.stamp) (Put path part time)
        ∙ rw (job.path_is, path_is, part_is, sym job.stamp_is) refl);
    unchanged = tt;
    commands = ap (λ s. job_events s (happened_all job.during)) job.stamp_is
        ∙ (job.events_are
        ∙ (job.goes.events_are ∙ ap (λ c. one_by_one c job.goes.doings) (sym commands-are)));
    well = subst (λ l. AllZip (WentWell next mine) l job.goes.doings) (sym (working-kept (tasks node)))
        (well-kept (working (tasks node)) job.goes.doings job.goes.well);
    over = refl;
    records = records-are work.mode.nofilemon own.collected.records job.recorded;
    alone = subst (λ s. Alone s (name_is ∷ changed_paths (deeds_of_job job.goes.doings))
        (happened_all job.during)) (sym job.stamp_is)
        (subst (λ deeds. Alone job.stamp (name_is ∷ changed_paths deeds) (happened_all job.during))
        deeds_are alone);
  }
    where
      name_is : List ℕ
      name_is = (node_at work.plan node).name

      deeds_are : deeds_in job.stamp job.during ≡ deeds_of_job job.goes.doings
      deeds_are =
          ap (flat_map deed_of) (job.events_are ∙ job.goes.events_are)
          ∙ deeds-ran next (command_of work) (working (tasks node)) job.goes.doings job.goes.well

  -- What stands of it, where a value has this text, is true, and it is that job's.
  pub whole-true : (old : List Happening) (path part : List ℕ) (time : ℕ) (meta : Meta)
      → IsCountable own.collected → length (tasks node) < 2 ^ 32 → AreExports work.mode.exports
      → path ≡ meta_path (node_at work.plan node).name → Begins part (meta_text mine)
      → Alone job.stamp ((node_at work.plan node).name ∷ changed_paths (deeds_in job.stamp job.during))
      (happened_all job.during)
      → IsLawful meta → part ≡ meta_text meta
      → IsTrue next meta ((old ++ happened_all done) ++ Put path part time ∷ []) × (job.stamp ≡ meta.stamp.0)
  whole-true old path part time meta countable few exports path_is begins alone lawful stands =
      let also = mine-lawful countable few exports in
      let over : meta_text meta ++ begins.rest ≡ meta_text mine =
      ap (λ l. l ++ begins.rest) (sym stands) ∙ sym begins.is in
      let none = none_begins meta mine begins.rest lawful also over in
      let text : meta_text meta ≡ meta_text mine =
      sym (append-nil (meta_text meta)) ∙ (ap (λ l. meta_text meta ++ l) (sym none) ∙ over) in
      let same = same-text mine meta also lawful (sym text) in (
        subst (λ m. IsTrue next m ((old ++ happened_all done) ++ Put path part time ∷ [])) same
            (mine-true old path part time path_is (stands ∙ text) alone),
        sym job.stamp_is ∙ ap (λ (m : Meta). m.stamp.0) same,
      )
