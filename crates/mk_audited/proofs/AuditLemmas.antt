-- Where an audit finds nothing, all that is asked of the files that stand is so.
use Rattle.std.proofs.Common.{◌≡◌, ◌∙◌, ℕ, ◌+◌, ◌&&◌, ◌||◌, not, Bool, true, false, List, [], length}
use Rattle.std.proofs.Common.{Option, Some, None, Ok, slice_get, refl, sym, ap, ap₂, subst, arith}
use Rattle.std.proofs.lemmas.Bool.{false≢true, or_parts}
use Rattle.std.specs.List.{AllByRecursion}
use Rattle.std.specs.Option.{option_map_or}
use Rattle.mk_audit.specs.Facts.{facts_of, stale_of}
use Rattle.mk_audit.specs.Laws.{IsOfNode}
use Rattle.mk_audit.specs.Modes.{mode_is_full}
use Rattle.mk_audit.specs.Reasons.{reason_of}
use Rattle.mk_audit.specs.Turns as audit
use Rattle.mk_breaches.proofs.DeclaredLemmas.{nothing_is_breached}
use Rattle.mk_breaches.specs.Breaches.{is_judged, ops}
use Rattle.mk_breaches.specs.Paths as recorded
use Rattle.mk_breaches.specs.Unbreached.{AreOfPlan, IsSettled, NothingIsBreached, recorded_of}
use Rattle.mk_breaches.specs.declared.node.NodeFacts.{NodeFacts}
use Rattle.mk_cli.specs.declared.order.Order.{Order}
use Rattle.mk_clean.specs.Clean.{IsAmong, Plan}
use Rattle.mk_declared.specs.Recorded.{AreDeclaredBy, IsUnaltered}
use Rattle.mk_decision.specs.Ages.{source_ages}
use Rattle.mk_decision.specs.Decisions.{Work, mode_at, newer_of, source_names}
use Rattle.mk_decision.specs.Reasons.{times_by, value_in}
use Rattle.mk_explain.specs.Turns.{IsAnswered}
use Rattle.mk_filemon.specs.Outer.{ops_of}
use Rattle.mk_filemon.specs.declared.record.Rec.{Rec}
use Rattle.mk_headline.proofs.DecideLemmas.{makes-job}
use Rattle.mk_headline.proofs.PlanLemmas.{job-among, job-has}
use Rattle.mk_headline.specs.Plans.{clean_plan, has_job, is_meta_path, makes_file}
use Rattle.mk_headline.specs.Premises.{GoesByMetaMode}
use Rattle.mk_plan.specs.Plans.{node_at}
use Rattle.mk_plan.specs.Tasks.{setting_of}
use Rattle.mk_run.specs.CleanRuns.{by_files}
use Rattle.mk_scopes.specs.declared.scopes.Env.{Env}
use Rattle.mk_trace.specs.Runs.{Tasks}
use Rattle.mk_uptodate.proofs.AuditedLemmas.{audited_files_are_sound}
use Rattle.mk_uptodate.specs.Audited.{AreAudited, HasAuditedTask, IsUpToDateBy, StandsAsRecorded, ops_by}
use Rattle.mk_uptodate.specs.UpToDate.{task_in}
use Rattle.mk_world.specs.Deeds.{Store}
use Rattle.mk_world.specs.History.{FileMap, files_of, state_of}
use Rattle.mk_world.specs.Talks.{Meaning}
use Rattle.mk_world.specs.declared.command.TaskLine.{TaskLine}
use Rattle.mk_world.specs.declared.history.History.{History}
use Rattle.mk_audited.proofs.FoundLemmas.{nodes-of-plan}
use Rattle.mk_audited.proofs.NameLemmas.{no-meta-name}
use Rattle.mk_audited.proofs.NodeLemmas.{IsFull, IsNodeOf, full-is, node-of, not-false, parts-of}
use Rattle.mk_audited.proofs.PlanLemmas.{are-of-plan, meta-paths-are}
use Rattle.mk_audited.proofs.TaskLemmas.{HasTaskOn, asked-paths, has-task-on, task-is}
use Rattle.mk_audited.proofs.TurnLemmas.{HadTurn, WasLookedAt, had-turn, looked-at}
use Rattle.mk_audited.specs.Audits.{CleanAuditsAreAudited, CleanAuditsAreSound, IsCleanAudit, lines_by, lines_on, records_in}

-- the marks of a node that makes a file
no-phony : (job phony : Bool) → (job && not phony) ≡ true → phony ≡ false
no-phony true true is = absurd (false≢true is)
no-phony true false is = refl
no-phony false phony is = absurd (false≢true is)

kept-marks : (makes no_meta no_meta_cmp : Bool) → makes ≡ true → (makes && (no_meta || no_meta_cmp)) ≡ false
    → no_meta_cmp ≡ false
kept-marks true no_meta no_meta_cmp makes is = (or_parts no_meta no_meta_cmp is).1
kept-marks false no_meta no_meta_cmp makes is = absurd (false≢true makes)

judged : (facts : NodeFacts) → facts.job ≡ true → facts.task ≡ false → facts.unrecorded ≡ false → facts.stale ≡ None
    → is_judged facts ≡ true
judged facts job task unrecorded stale = rw (job, task, unrecorded, stale) refl

off-from : (b c : Bool) → (b ≡ true → c ≡ true) → c ≡ false → b ≡ false
off-from true c gives off = absurd (false≢true (sym off ∙ gives refl))
off-from false c gives off = refl

-- what is recorded of jobs, by what is found
same-ops : (nodes : List NodeFacts) (node : ℕ) → recorded_of nodes node ≡ ops_by (records_in nodes) node
same-ops nodes node = by (slice_get nodes node)
  where
    by : (one : Option NodeFacts) → option_map_or ops one []
        ≡ ops_of (option_map_or (λ (it : NodeFacts). it.records) one [])
    by None = refl
    by (Some one) = refl

module _ (meaning : Meaning) (env : Env) (order : Order) (old : History) (its : IsCleanAudit meaning env order old) where
  abbrev work : Work
  work = its.makefiles.work

  abbrev store : Store
  store = files_of old

  abbrev files : FileMap
  files = (state_of old).files

  abbrev lines : Tasks
  lines = lines_on work store

  abbrev plan : Plan
  plan = clean_plan work lines

  abbrev records : ℕ → List Rec
  records = records_in its.nodes

  of-nodes : (length its.nodes ≡ length work.plan) × ((n : ℕ) (facts : NodeFacts)
      → slice_get its.nodes n ≡ Some facts → IsOfNode (node_at work.plan n) facts)
  of-nodes = nodes-of-plan meaning (Some its.before) (Some its.after) work its.nodes its.audited

  of-plan : AreOfPlan plan its.nodes
  of-plan = are-of-plan work lines its.nodes of-nodes.0 of-nodes.1

  unbreached : NothingIsBreached plan its.facts its.nodes
  unbreached = nothing_is_breached plan its.facts its.nodes of-plan its.nothing

  full : IsFull work.mode
  full = full-is work.mode (not-false (mode_is_full work.mode) (sym its.mode ∙ unbreached.mode))

  ops-are : recorded_of its.nodes ≡ ops_by records
  ops-are = λ i. λ node. same-ops its.nodes node i

  -- the audit looked at the files that stood before the run
  files-are : (state_of its.before).files ≡ files
  files-are = λ i. λ path. its.unchanged path i

  -- what was found of a node with commands, and how
  record IsFound (node : ℕ) : Type 0 where
    facts : NodeFacts
    at : slice_get its.nodes node ≡ Some facts
    looked : WasLookedAt files work node facts
    settled : IsSettled plan its.nodes facts
    name : facts.name ≡ (node_at work.plan node).name
    job : facts.job ≡ true

  found : (node : ℕ) → has_job (node_at work.plan node) ≡ true → IsFound node
  found node job =
      let less = (job-has work node (job-among work node job)).0 in
      let audited = its.audited in
      let long = audited.all in
      let answered = subst (λ seen. AllByRecursion (IsAnswered seen) (audit.looks_in audited.turns)) files-are
      audited.looked.answered.1 in
      let place : 0 + node ≡ node = omega arith in
      let turn = subst (λ k. HadTurn files work k (slice_get (audit.facts_in audited.turns) node)) place
      (had-turn files work 0 audited.turns audited.are answered node (omega (arith, less, long))) in
      let at : slice_get its.nodes node ≡ Some turn.facts = ap (λ l. slice_get l node) audited.told ∙ turn.at in
      let of = of-nodes.1 node turn.facts at in
      let job_is : turn.facts.job ≡ true = of.job ∙ job in
      record {
        facts = turn.facts;
        at = at;
        looked = looked-at files work node turn.seen turn.facts job turn.audited turn.answered;
        settled = unbreached.jobs node turn.facts at job_is;
        name = of.name;
        job = job_is;
      }

  -- its task on the files that stand, and its meta file
  record IsSettledNode (node : ℕ) (is : IsFound node) : Type 0 where
    has : HasTaskOn work node store (newer_of work node is.looked.sight.target is.looked.sight.sources)
        is.looked.sight.named is.looked.sight.asked
    meta : IsNodeOf old work node (task_in work lines node) (value_in is.looked.sight.meta)
    lines_are : lines node ≡ has.task.0.lines
    task_is : task_in work lines node ≡ has.task.0
    is_meta : (mode_at work node).meta ≡ true

  settled-node : (node : ℕ) (is : IsFound node)
      → (not (node_at work.plan node).marks.phony && (node_at work.plan node).marks.no_meta_cmp) ≡ false
      → IsSettledNode node is
  settled-node node is count =
      let sight = is.looked.sight in
      let seen = is.looked.seen in
      let parts = parts-of files work node sight is.looked.answered in
      let as_found : is.facts ≡ facts_of work node sight = is.looked.found in
      let newer = newer_of work node sight.target sight.sources in
      let has = has-task-on files work node newer sight.named sight.asked parts.named parts.asked seen.named seen.asked
      (subst (λ (f : NodeFacts). f.task ≡ false) as_found is.settled.task)
      (subst (λ (f : NodeFacts). f.oodate ≡ false) as_found is.settled.compared) in
      let is_meta : (mode_at work node).meta ≡ true = not-false (mode_at work node).meta
      (subst (λ (f : NodeFacts). f.unrecorded ≡ false) as_found is.settled.recorded) in
      let lines_are : lines node ≡ has.task.0.lines = ap lines_by has.on_files in
      let task_is : task_in work lines node ≡ has.task.0 =
      ap (λ l. task_in work (λ n. l) node) lines_are
      ∙ task-is (setting_of work.variables work.lists (by_files store)) work.suffixes work.plan node
      (source_names work node) work.mode work.flags [] has.task has.on_files in
      let stale : stale_of work node (Some has.task.0)
      (record { times = times_by sight.target (source_ages work.plan node sight.sources) sight.meta; value = value_in sight.meta })
      ≡ None =
      subst (λ t. stale_of work node t
      (record { times = times_by sight.target (source_ages work.plan node sight.sources) sight.meta; value = value_in sight.meta })
      ≡ None) has.by_looks (subst (λ (f : NodeFacts). f.stale ≡ None) as_found is.settled.not_stale) in
      record {
        has = has;
        meta = node-of old work node sight (task_in work lines node) full is_meta count refl seen.meta parts
            (subst (λ t. reason_of work node t (value_in sight.meta)
            (times_by sight.target (source_ages work.plan node sight.sources) sight.meta) ≡ None) (sym task_is) stale);
        lines_are = lines_are;
        task_is = task_is;
        is_meta = is_meta;
      }

  -- of a node that makes a file the commands count
  kept : (node : ℕ) → makes_file (node_at work.plan node) ≡ true
      → (node_at work.plan node).marks.no_meta_cmp ≡ false
  kept node makes =
      let it = found node (makes-job (node_at work.plan node) makes) in
      kept-marks (makes_file (node_at work.plan node)) (node_at work.plan node).marks.no_meta
      (node_at work.plan node).marks.no_meta_cmp makes
      (subst (λ (f : NodeFacts). f.unmeta ≡ false) it.looked.found it.settled.kept)

  -- and so they do of a phony one
  counts : (node : ℕ) → has_job (node_at work.plan node) ≡ true
      → (not (node_at work.plan node).marks.phony && (node_at work.plan node).marks.no_meta_cmp) ≡ false
  counts node job = by (node_at work.plan node).marks.phony refl
    where
      by : (phony : Bool) → (node_at work.plan node).marks.phony ≡ phony
          → (not phony && (node_at work.plan node).marks.no_meta_cmp) ≡ false
      by true is = refl
      by false is = kept node (ap₂ (λ has phony. has && not phony) job is)

  settled : (node : ℕ) (job : has_job (node_at work.plan node) ≡ true) → IsSettledNode node (found node job)
  settled node job = settled-node node (found node job) (counts node job)

  -- what is found is recorded of the node
  records-are : (node : ℕ) (job : has_job (node_at work.plan node) ≡ true)
      → (settled node job).meta.it.records ≡ records node
  records-are node job =
      let is = found node job in
      let it = (settled node job).meta.it in
      sym it.found
      ∙ ap (λ (f : NodeFacts). f.records) (sym is.looked.found)
      ∙ ap (λ one. option_map_or (λ (f : NodeFacts). f.records) one []) (sym is.at)

  compared-are : (node : ℕ) (job : has_job (node_at work.plan node) ≡ true)
      → AllByRecursion (λ (line : TaskLine). line.compared ≡ true) (lines node)
  compared-are node job =
      let its_node = settled node job in
      subst (AllByRecursion (λ (line : TaskLine). line.compared ≡ true)) (sym its_node.lines_are) its_node.has.compared

  mode : GoesByMetaMode work lines
  mode = record {
    by_records = λ node makes.
        let job = makes-job (node_at work.plan node) makes in
        record {
          meta = (settled node job).is_meta;
          missing_meta = full.missing_meta;
          missing_filemon = full.missing_filemon;
          nofilemon = full.nofilemon;
          ignore_cmd = full.ignore_cmd;
          count_only = kept node makes;
        };
    compared = λ node makes. compared-are node (makes-job (node_at work.plan node) makes);
    none_ignored = full.ignore_paths;
    no_meta_names = λ node job.
        let is = found node job in
        off-from (is_meta_path (node_at work.plan node).name) (recorded.is_meta_path (node_at work.plan node).name)
        (meta-paths-are (node_at work.plan node).name)
        (subst (λ name. recorded.is_meta_path name ≡ false) is.name
        (no-meta-name its.facts its.nodes node is.facts its.nothing is.at
        (judged is.facts is.job is.settled.task is.settled.recorded is.settled.not_stale)));
  }

  tasks-are : (node : ℕ) → has_job (node_at work.plan node) ≡ true
      → HasAuditedTask work lines store (ops_by records) node
  tasks-are node job =
      let is = found node job in
      let its_node = settled node job in
      let has = its_node.has in
      record {
        asked = has.task.1;
        task = has.on_files ∙ ap (λ t. Ok (t, has.task.1)) (sym its_node.task_is);
        no_newer = has.no_newer;
        answered = has.answered;
        unaltered = λ question among.
            subst (λ ops. IsUnaltered plan ops question.path) ops-are
            (is.settled.asked question.path
            (subst (λ (f : NodeFacts). IsAmong question.path f.asked) (sym is.looked.found)
            (asked-paths has.task.1 is.looked.sight.named has.questions question among)));
      }

  fresh : (node : ℕ) → makes_file (node_at work.plan node) ≡ true → IsUpToDateBy old work lines node (records node)
  fresh node makes =
      let job = makes-job (node_at work.plan node) makes in
      let meta = (settled node job).meta in
      record {
        fresh = record {
          meta = meta.it.meta;
          lawful = meta.it.lawful;
          stands = meta.it.stands;
          records = meta.it.records;
          recorded = meta.it.recorded;
          ages = meta.ages;
          no_reason = meta.fresh
              (no-phony (has_job (node_at work.plan node)) (node_at work.plan node).marks.phony makes);
        };
        records_are = records-are node job;
      }

  phony : (node : ℕ) → has_job (node_at work.plan node) ≡ true → makes_file (node_at work.plan node) ≡ false
      → StandsAsRecorded old work lines node (records node)
  phony node job makes =
      let meta = (settled node job).meta in
      subst (StandsAsRecorded old work lines node) (records-are node job) (record {
        meta = meta.it.meta;
        lawful = meta.it.lawful;
        stands = meta.it.stands;
        target = meta.it.target;
        recorded = meta.it.recorded;
        compared = compared-are node job;
        as_recorded = meta.it.as_recorded;
      })

  are-audited : AreAudited meaning env order old
  are-audited = record {
    made = its.makefiles.made;
    listings = its.makefiles.listings;
    read = its.makefiles.read;
    names_differ = its.makefiles.names_differ;
    work = work;
    planned = its.makefiles.planned;
    work_is = its.makefiles.work_is;
    lines = lines;
    records = records;
    room = its.makefiles.room;
    asks = its.makefiles.asks;
    mode = mode;
    alike = its.makefiles.alike;
    tasks_are = tasks-are;
    fresh = fresh;
    phony = phony;
    declared = subst (AreDeclaredBy plan) ops-are unbreached.declared;
  }

pub clean_audits_are_audited : CleanAuditsAreAudited
unfolding are-audited
clean_audits_are_audited meaning env order old its = record {
  are = are-audited meaning env order old its;
  work_is = refl;
  lines_are = refl;
  records_are = refl;
}

pub clean_audits_are_sound : CleanAuditsAreSound
unfolding are-audited
clean_audits_are_sound meaning env order old start exact its =
    audited_files_are_sound meaning env order old start exact (are-audited meaning env order old its)

-- the build goes by meta mode
pub mode_of : (meaning : Meaning) (env : Env) (order : Order) (old : History) (its : IsCleanAudit meaning env order old)
    → GoesByMetaMode its.makefiles.work (lines_on its.makefiles.work (files_of old))
mode_of meaning env order old its = mode meaning env order old its
