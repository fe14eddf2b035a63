-- How far the job of a node is, by what its children did so far.
use Rattle.std.proofs.Common.{◌≡◌, ◌∙◌, ℕ, ◌+◌, ◌-◌, ◌<◌, ◌==◌, ◌||◌, not, nat_le, List, [], ◌∷◌, ◌++◌, length, map, slice_get, Option, Some, None, IfSome, Bool, true, false, if◌then◌else◌}
use Rattle.std.proofs.Common.{inl, inr, refl, sym, ap, subst, arith, append_assoc, eq-eqb, ne_eqb, leb-true}
use Rattle.std.proofs.lemmas.List.{append-nil}
use Rattle.std.proofs.lemmas.List.Concat.{flat_map-append}
use Rattle.mk_filemon.specs.declared.record.Rec.{Rec}
use Rattle.mk_meta.specs.Jobs.{is_empty, numbered}
use Rattle.mk_meta.specs.TrueHistory.{JobEvent, begun, did, ended, job_event, job_events, meta_path}
use Rattle.mk_plan.specs.Deciding.{is_stopped}
use Rattle.mk_plan.specs.Plans.{node_at}
use Rattle.mk_plan.specs.declared.plan.NodeState.TheVariants.{Undecided, Open}
use Rattle.mk_world.proofs.ChildLemmas.{child_in-last, child_in-stepped}
use Rattle.mk_world.proofs.RecordLemmas.{exact_records_tell}
use Rattle.mk_world.specs.Calls.{EndsAs}
use Rattle.mk_world.specs.History.{child_in, stepped, IsStep}
use Rattle.mk_world.specs.Deeds.{Store}
use Rattle.mk_world.specs.Records.{AreRecords, Tell, op_of}
use Rattle.mk_world.specs.Talks.{Meaning, NextOf, answer}
use Rattle.mk_world.specs.declared.command.Cmd.{Cmd}
use Rattle.mk_world.specs.declared.command.TaskLine.{TaskLine}
use Rattle.mk_world.specs.declared.history.Child.{Child}
use Rattle.mk_world.specs.declared.step.Deed.{Deed}
use Rattle.mk_world.specs.declared.step.Ended.{Ended}
use Rattle.mk_world.specs.declared.step.Next.TheVariants.{Over}
use Rattle.mk_world.specs.declared.step.Op.{Op}
use Rattle.mk_decision.specs.Decisions.{Work}
use Rattle.mk_trace.proofs.BegunLemmas.{may-undecided, Steady}
use Rattle.mk_trace.proofs.ItemLemmas.{build_after_all-append, happened_all-append}
use Rattle.mk_trace.proofs.TrueJobs.{Ran, Behind, Within, behind-none, behind-empty, behind-past, within-begun, within-stepped, behind-ended, ran-whole}
use Rattle.mk_trace.proofs.TrueRuns.{IsShut, ended-open, ended-line, ended-shut, IsDue, closing-due, closing-begins, end-due, end-begins, went-well}
use Rattle.mk_trace.proofs.TrueTasks.{AreCommands, begun-commands}
use Rattle.mk_trace.specs.Builds.{Build, Own, free, begin, IsCommandOf, IsHead, command_of, first_build, build_after, build_after_all, rules_of, opening, with_ticket, with_collected}
use Rattle.mk_trace.specs.Collected.{begun as opens_at, has_meta, more_records, with_end}
use Rattle.mk_trace.specs.declared.collected.Collected.{Collected}
use Rattle.mk_trace.specs.Items.{head, Item, starts, passes, steps, ends, changes, reported, happened, happened_all}
use Rattle.mk_trace.specs.Runs as run
use Rattle.mk_trace.specs.Together.{HasChild, IsNotDue}
use Rattle.mk_trace.specs.TrueBuilds.{IsOpenJob, IsOpenAlong}

module _ (next : NextOf) (work : Work) (tasks : run.Tasks) where
  abbrev pub built : List Item → Build
  built done = build_after_all work tasks (first_build work) done

  -- The job of a node that was opened in a build, and is open still: what its children did goes so far.
  pub record Job (node : ℕ) (done : List Item) (own : Own) (Goes : List JobEvent → List Rec → Type 0)
      : Type 0
    where
      pub before : List Item
      pub during : List Item
      pub path : List ℕ
      pub bytes : List ℕ
      pub stamp : ℕ
      pub later : 0 < stamp
      pub stamp_is : own.collected.owner ≡ stamp
      pub cut : done ≡ before ++ changes node (head path bytes stamp) ∷ during
      pub path_is : path ≡ meta_path (node_at work.plan node).name
      pub along : IsOpenAlong work tasks
          (built (before ++ changes node (head path bytes stamp) ∷ [])) node during
      pub commands : AreCommands (tasks node)
      pub events : List JobEvent
      pub events_are : job_events stamp (happened_all during) ≡ events
      pub records : List Rec
      pub recorded : IfSome own.collected.records (λ r. r ≡ records)
      pub goes : Goes events records

  open-last : (build : Build) (node : ℕ) (during : List Item) (item : Item)
      → IsOpenAlong work tasks build node during
      → IsOpenJob (build_after_all work tasks build during) node
      → IsOpenAlong work tasks build node (during ++ item ∷ [])
  open-last build node [] item along is_open = (is_open, tt)
  open-last build node (one ∷ during) item along is_open =
      (along.0, open-last (build_after work tasks build one) node during item along.1 is_open)

  -- one item more, with what the job's children did in it
  job-more : (node : ℕ) (done : List Item) (own own_then : Own)
      (Goes Then : List JobEvent → List Rec → Type 0) (item : Item) (added : List JobEvent)
      (more : List Rec) → (job : Job node done own Goes) → IsOpenJob (built done) node
      → own_then.collected.owner ≡ own.collected.owner
      → job_events job.stamp (happened item) ≡ added
      → IfSome own_then.collected.records (λ r. r ≡ more) → Then (job.events ++ added) more
      → Job node (done ++ item ∷ []) own_then Then
  job-more node done own own_then Goes Then item added more job is_open same adds recorded goes =
      let opens = changes node (head job.path job.bytes job.stamp) in
      let before = job.before ++ opens ∷ [] in
      let builds : built done ≡ build_after_all work tasks (built before) job.during =
      ap built job.cut ∙ (ap built (sym (append_assoc job.before (opens ∷ []) job.during))
      ∙ build_after_all-append work tasks (first_build work) before job.during) in
      record {
        before = job.before;
        during = job.during ++ item ∷ [];
        path = job.path;
        bytes = job.bytes;
        stamp = job.stamp;
        later = job.later;
        stamp_is = same ∙ job.stamp_is;
        cut = ap (λ l. l ++ item ∷ []) job.cut
            ∙ append_assoc job.before (opens ∷ job.during) (item ∷ []);
        path_is = job.path_is;
        along = open-last (built before) node job.during item job.along
            (subst (λ b. IsOpenJob b node) builds is_open);
        commands = job.commands;
        events = job.events ++ added;
        events_are = ap (job_events job.stamp) (happened_all-append job.during (item ∷ []))
            ∙ (flat_map-append (job_event job.stamp) (happened_all job.during) (happened item ++ [])
            ∙ rw (append-nil (happened item), job.events_are, adds) refl);
        records = more;
        recorded = recorded;
        goes = goes;
      }

  abbrev command : TaskLine → Cmd
  command = command_of work

  -- how far the job of a node in meta mode is
  pub record JobOf (node : ℕ) (done : List Item) (build : Build) (children : List Child) : Type 0 where
    pub opened : build.duty ≡ begin node → (slice_get build.run.nodes node ≡ Some Undecided)
        × Job node done (build.own node) (Behind next command (tasks node) 0)
    pub between : (number : ℕ) → has_meta work node ≡ true → build.run.due ≡ run.line node number
        → (place : ℕ) × (number ≡ place + 1)
        × Job node done (build.own node) (Behind next command (tasks node) place)
    pub inside : (child : Child) → has_meta work node ≡ true → HasChild build.run node
        → child_in children (build.own node).ticket ≡ Some child
        → Job node done (build.own node)
        (Within next command (tasks node) (build.run.started node) child)
    pub over : IsDue build.duty node → IsShut build.run.nodes node
        × Job node done (build.own node) (Ran next command 1 (tasks node))

  -- an item in which a node's job does nothing
  pub record Idle (node : ℕ) (item : Item) (build later : Build) (children others : List Child)
      : Type 0
    where
      pub quiet : (stamp : ℕ) → 0 < stamp → (build.own node).collected.owner ≡ stamp
          → job_events stamp (happened item) ≡ []
      pub same : (later.own node).collected ≡ (build.own node).collected
      pub opened : later.duty ≡ begin node → (build.duty ≡ begin node)
          × (slice_get later.run.nodes node ≡ slice_get build.run.nodes node)
      pub between : (number : ℕ) → later.run.due ≡ run.line node number
          → build.run.due ≡ run.line node number
      pub inside : (child : Child) → HasChild later.run node
          → child_in others (later.own node).ticket ≡ Some child → HasChild build.run node
          × (later.run.started node ≡ build.run.started node)
          × (child_in children (build.own node).ticket ≡ Some child)
      pub over : IsDue later.duty node → IsDue build.duty node
          × (IsShut build.run.nodes node → IsShut later.run.nodes node)

  idle-job : (node : ℕ) (done : List Item) (item : Item) (build later : Build)
      (children others : List Child) (Goes : List JobEvent → List Rec → Type 0) → built done ≡ build
      → Idle node item build later children others → IsOpenJob build node
      → Job node done (build.own node) Goes → Job node (done ++ item ∷ []) (later.own node) Goes
  idle-job node done item build later children others Goes at idle is_open job =
      job-more node done (build.own node) (later.own node) Goes Goes item [] job.records job
      (subst (λ b. IsOpenJob b node) (sym at) is_open) (ap (λ (c : Collected). c.owner) idle.same)
      (idle.quiet job.stamp job.later job.stamp_is)
      (subst (λ (c : Collected). IfSome c.records (λ r. r ≡ job.records)) (sym idle.same) job.recorded)
      (subst (λ e. Goes e job.records) (sym (append-nil job.events)) job.goes)

  line-open : (build : Build) (node number : ℕ) → Steady build.run.nodes build.run.due
      → build.run.due ≡ run.line node number → slice_get build.run.nodes node ≡ Some Open
  line-open build node number steady due = subst (Steady build.run.nodes) due steady

  pub idle-kept : (node : ℕ) (done : List Item) (item : Item) (build later : Build)
      (children others : List Child) → built done ≡ build → Steady build.run.nodes build.run.due
      → Idle node item build later children others → JobOf node done build children
      → JobOf node (done ++ item ∷ []) later others
  idle-kept node done item build later children others at steady idle job = record {
    opened = λ due.
        let was = idle.opened due in
        let before = job.opened was.0 in (
          was.1 ∙ before.0,
          idle-job node done item build later children others _ at idle (inr (inl was.0)) before.1,
        );
    between = λ number meta due.
        let was = idle.between number due in
        let before = job.between number meta was in (
          before.0,
          before.1,
          idle-job node done item build later children others _ at idle
              (inl (line-open build node number steady was)) before.2,
        );
    inside = λ child meta has here.
        let was = idle.inside child has here in
        let before = job.inside child meta was.0 was.2 in
        subst (λ k. Job node (done ++ item ∷ []) (later.own node)
        (Within next command (tasks node) k child)) (sym was.1)
        (idle-job node done item build later children others _ at idle (inl was.0.0) before);
    over = λ due.
        let was = idle.over due in
        let before = job.over was.0 in (
          was.1 before.0,
          idle-job node done item build later children others _ at idle (inr (inr was.0)) before.1,
        );
  }

  -- the node of an item

  -- the job in which a line begins
  record Begins (node number : ℕ) (done : List Item) (build : Build) : Type 0 where
    place : ℕ
    number_is : number ≡ place + 1
    is_open : IsOpenJob build node
    job : Job node done (build.own node) (Behind next command (tasks node) place)

  begins : (node number : ℕ) (done : List Item) (build : Build) (children : List Child) (due : run.Due)
      → build.run.due ≡ due → run.MayStart (rules_of work) tasks build.run node number due
      → Steady build.run.nodes build.run.due
      → build.duty ≡ opening work node number → has_meta work node ≡ true
      → JobOf node done build children → Begins node number done build
  begins node number done build children run.anything due may steady duty meta job =
      let opens : opening work node number ≡ begin node =
      subst (λ k. opening work node k ≡ begin node) (sym may.1) (rw meta refl) in
      record {
        place = 0;
        number_is = may.1;
        is_open = inr (inl (duty ∙ opens));
        job = (job.opened (duty ∙ opens)).1;
      }
  begins node number done build children run.child due may steady duty meta job = absurd may
  begins node number done build children (run.line one line) due may steady duty meta job =
      let here : build.run.due ≡ run.line node number =
      due ∙ (ap (λ k. run.line k line) (sym may.0) ∙ ap (λ k. run.line node k) (sym may.1)) in
      let found = job.between number meta here in
      record {
        place = found.0;
        number_is = found.1;
        is_open = inl (line-open build node number steady here);
        job = found.2;
      }
  begins node number done build children (run.close one last) due may steady duty meta job = absurd may

  command-line : (one : Option TaskLine) (cmd : Cmd) → IsCommandOf work one cmd
      → (line : TaskLine) × (one ≡ Some line) × (is_empty line.text ≡ false) × (cmd ≡ command line)
  command-line None cmd is = absurd is
  command-line (Some line) cmd is = (line, refl, is.0, is.1)

  no-line : (has : Bool) (node number other line : ℕ)
      → (if has then run.anything else run.close node number) ≡ run.line other line → ⊥
  no-line true node number other line is = absurd cc
  no-line false node number other line is = absurd cc

  pub started : (node number ticket owner : ℕ) (cmd : Cmd) (done : List Item) (build : Build)
      (children : List Child) → built done ≡ build → Steady build.run.nodes build.run.due
      → run.MayStart (rules_of work) tasks build.run node number build.run.due
      → build.duty ≡ opening work node number
      → IsCommandOf work (run.line_of (tasks node) number) cmd
      → owner ≡ (build.own node).collected.owner → child_in children ticket ≡ None
      → JobOf node done build children
      → JobOf node (done ++ starts node number ticket owner cmd ∷ [])
      (build_after work tasks build (starts node number ticket owner cmd))
      (children ++ record { ticket = ticket; owner = owner; cmd = cmd; deeds = [] } ∷ [])
  started node number ticket owner cmd done build children at steady may duty is owned none job = record {
    opened = λ due. absurd cc;
    between = λ line meta due.
        absurd (no-line (run.has_child (run.line_of (tasks node) number)) node number node line due);
    inside = λ child meta has here. begins_now child meta here;
    over = λ due. absurd (never due);
  }
    where
      item : Item
      item = starts node number ticket owner cmd

      new : Child
      new = record { ticket = ticket; owner = owner; cmd = cmd; deeds = [] }

      never : IsDue free node → ⊥
      never (inl due) = absurd cc
      never (inr due) = absurd cc

      mine : with_ticket build.own node ticket node
          ≡ record { ticket = ticket; collected = (build.own node).collected }
      mine = rw (eq-eqb node node refl) refl

      begins_now : (child : Child) → has_meta work node ≡ true
          → child_in (children ++ new ∷ []) (with_ticket build.own node ticket node).ticket ≡ Some child
          → Job node (done ++ item ∷ []) (with_ticket build.own node ticket node)
          (Within next command (tasks node)
          (if node == node then number else build.run.started node) child)
      begins_now child meta here =
          let first = begins node number done build children build.run.due refl may steady duty meta job in
          let line = command-line (run.line_of (tasks node) number) cmd is in
          let place : number - 1 ≡ first.place = let n = first.number_is in omega (arith, n) in
          let at_place : slice_get (tasks node) first.place ≡ Some line.0 =
          subst (λ k. slice_get (tasks node) k ≡ Some line.0) place line.1 in
          let found : Some new ≡ Some child =
          sym (child_in-last children new none)
          ∙ (ap (λ (o : Own). child_in (children ++ new ∷ []) o.ticket) (sym mine) ∙ here) in
          let same : new ≡ child = cc in
          let own_then = with_ticket build.own node ticket node in
          let same_owner : own_then.collected.owner ≡ (build.own node).collected.owner =
          ap (λ (o : Own). o.collected.owner) mine in
          let goes = within-begun next command (tasks node) first.place line.0 ticket owner first.job.events
          first.job.records at_place line.2 first.job.goes in
          let counts : (if node == node then number else build.run.started node) ≡ first.place + 1 =
          rw (eq-eqb node node refl) first.number_is in
          subst (λ k. Job node (done ++ item ∷ []) own_then (Within next command (tasks node) k child))
          (sym counts)
          (subst (λ c. Job node (done ++ item ∷ []) own_then
          (Within next command (tasks node) (first.place + 1) c)) same
          (job-more node done (build.own node) own_then _ _ item (begun cmd ∷ []) first.job.records first.job
          (subst (λ b. IsOpenJob b node) (sym at) first.is_open) same_owner
          (rw (eq-eqb owner first.job.stamp (owned ∙ first.job.stamp_is)) refl)
          (subst (λ (o : Own). IfSome o.collected.records (λ r. r ≡ first.job.records)) (sym mine)
          first.job.recorded)
          (subst (λ c. Within next command (tasks node) (first.place + 1)
          (record { ticket = ticket; owner = owner; cmd = c; deeds = [] })
          (first.job.events ++ begun c ∷ []) first.job.records) (sym line.3) goes)))

  -- an empty line begins and ends
  no-child-due : (state : run.State) (n number status : ℕ) (has : Bool)
      → run.MayEnd state n number status (if has then run.anything else run.close n number) → has ≡ false
  no-child-due state n number status true may = absurd may
  no-child-due state n number status false may = refl

  behind-empty_line : (node place : ℕ) (events : List JobEvent) (records : List Rec) (one : Option TaskLine)
      → slice_get (tasks node) place ≡ one → run.has_child one ≡ false
      → Behind next command (tasks node) place events records
      → Behind next command (tasks node) (place + 1) events records
  behind-empty_line node place events records None is none behind =
      behind-past next command (tasks node) place events records is behind
  behind-empty_line node place events records (Some line) is none behind =
      behind-empty next command (tasks node) place line events records is (empty (is_empty line.text) none)
      behind
    where
      empty : (b : Bool) → not b ≡ false → b ≡ true
      empty true given = refl
      empty false given = absurd cc

  job-then : (node : ℕ) (done : List Item) (own : Own) (Goes Then : List JobEvent → List Rec → Type 0)
      → ((events : List JobEvent) (records : List Rec) → Goes events records → Then events records)
      → Job node done own Goes → Job node done own Then
  job-then node done own Goes Then go job = record {
    before = job.before;
    during = job.during;
    path = job.path;
    bytes = job.bytes;
    stamp = job.stamp;
    later = job.later;
    stamp_is = job.stamp_is;
    cut = job.cut;
    path_is = job.path_is;
    along = job.along;
    commands = job.commands;
    events = job.events;
    events_are = job.events_are;
    records = job.records;
    recorded = job.recorded;
    goes = go job.events job.records job.goes;
  }

  -- a job all of whose lines have ended
  job-whole : (node number : ℕ) (done : List Item) (own : Own) → nat_le (length (tasks node)) number ≡ true
      → Job node done own (Behind next command (tasks node) number)
      → Job node done own (Ran next command 1 (tasks node))
  job-whole node number done own over job =
      job-then node done own _ _
      (λ events records behind. ran-whole next command (tasks node) number events records
      (leb-true (length (tasks node)) number over) behind) job

  pub passed : (node number : ℕ) (done : List Item) (build : Build)
      (children : List Child) → built done ≡ build → Steady build.run.nodes build.run.due
      → run.MayAll (rules_of work) tasks build.run (reported (passes node number))
      → build.duty ≡ opening work node number → JobOf node done build children
      → JobOf node (done ++ passes node number ∷ [])
      (build_after work tasks build (passes node number)) children
  passed node number done build children at steady may duty job = record {
    opened = λ due. absurd (closing-begins work node node over due);
    between = λ line meta due.
        let is = ended-line begun_run node number node line false stops due in
        (number, is.1, goes_on meta);
    inside = λ child meta has here.
        absurd ((ended-open begun_run node number node false stops has).0 refl);
    over = λ due.
        let is = closing-due work node node over due in (
          ended-shut begun_run node number false stops refl (rw is.1 refl),
          job-whole node number (done ++ passes node number ∷ []) (build.own node) is.1 (goes_on is.2),
        );
  }
    where
      begun_run : run.State
      begun_run = run.start_line tasks build.run node number

      over : Bool
      over = nat_le (length (tasks node)) number

      stops : Bool
      stops = over || is_stopped (rules_of work) begun_run.nodes

      goes_on : has_meta work node ≡ true → Job node (done ++ passes node number ∷ []) (build.own node)
          (Behind next command (tasks node) number)
      goes_on meta =
          let first = begins node number done build children build.run.due refl may.0 steady duty meta job in
          let place : number - 1 ≡ first.place = let n = first.number_is in omega (arith, n) in
          let none = no-child-due begun_run node number 0
          (run.has_child (run.line_of (tasks node) number)) may.1.0 in
          job-more node done (build.own node) (build.own node) _ _ (passes node number) [] first.job.records
          first.job (subst (λ b. IsOpenJob b node) (sym at) first.is_open) refl refl first.job.recorded
          (subst (λ e. Behind next command (tasks node) number e first.job.records)
          (sym (append-nil first.job.events))
          (subst (λ k. Behind next command (tasks node) k first.job.events first.job.records)
          (sym first.number_is)
          (behind-empty_line node first.place first.job.events first.job.records
          (run.line_of (tasks node) number) (ap (slice_get (tasks node)) (sym place)) none first.job.goes)))

  -- what a child recorded, or, where it did not, what its steps are recorded as
  abbrev ops_told : Option (List Op) → List Deed → List Op
  ops_told None deeds = map op_of deeds
  ops_told (Some ops) deeds = ops

  told-all : (recorded : Option (List Op)) (deeds : List Deed) → AreRecords recorded deeds
      → Tell (ops_told recorded deeds) deeds
  told-all None deeds are = exact_records_tell deeds
  told-all (Some ops) deeds are = are

  -- the child of a line is taken in
  more-recorded : (number : ℕ) (collected : Option (List Rec)) (recorded : Option (List Op))
      (records : List Rec) (deeds : List Deed) → IfSome collected (λ r. r ≡ records)
      → IfSome (more_records number collected recorded)
      (λ r. r ≡ records ++ numbered number (ops_told recorded deeds))
  more-recorded number None recorded records deeds was = tt
  more-recorded number (Some one) None records deeds was = tt
  more-recorded number (Some one) (Some ops) records deeds was = rw was refl

  pub taken : (meaning : Meaning) (node number owner : ℕ) (one : Ended) (child : Child) (done : List Item)
      (build : Build) (children others : List Child) → next ≡ meaning.next → built done ≡ build
      → HasChild build.run node → build.run.started node ≡ number
      → child_in children (build.own node).ticket ≡ Some child
      → owner ≡ (build.own node).collected.owner → EndsAs meaning one child
      → JobOf node done build children
      → JobOf node (done ++ ends node number owner one ∷ [])
      (build_after work tasks build (ends node number owner one)) others
  taken meaning node number owner one child done build children others means at has counts here owned ends_as job =
      record {
        opened = λ due. absurd (end-begins work node node fails over due);
        between = λ line meta due.
            let is = ended-line build.run node number node line fails stops due in
            (number, is.1, goes_on meta is.2);
        inside = λ child meta has here.
            absurd ((ended-open build.run node number node fails stops has).0 refl);
        over = λ due.
            let is = end-due work node node fails over due in (
              ended-shut build.run node number fails stops is.1 (rw is.2 refl),
              job-whole node number (done ++ item ∷ []) own_then is.2 (goes_on is.3 is.1),
            );
      }
    where
      item : Item
      item = ends node number owner one

      fails : Bool
      fails = run.fails (run.line_of (tasks node) number) one.status

      over : Bool
      over = nat_le (length (tasks node)) number

      stops : Bool
      stops = over || is_stopped (rules_of work) build.run.nodes

      collected : Collected
      collected = (build.own node).collected

      own_then : Own
      own_then = with_collected build.own node (with_end collected number one) node

      goes_on : has_meta work node ≡ true → fails ≡ false → Job node (done ++ item ∷ []) own_then
          (Behind next command (tasks node) number)
      goes_on meta well =
          let first = subst (λ k. Job node done (build.own node) (Within next command (tasks node) k child))
          counts (job.inside child meta has here) in
          let real : (collected.owner == 0) ≡ false =
          let less = first.later in let same = first.stamp_is in
          ne_eqb collected.owner 0 (λ none. absurd (omega (arith, less, sym same ∙ none))) in
          let told : List Op = ops_told one.records child.deeds in
          let mine : own_then ≡ record {
            ticket = (build.own node).ticket;
            collected = record {
              owner = collected.owner;
              output = collected.output ++ one.output;
              records = more_records number collected.records one.records;
            };
          } = rw (eq-eqb node node refl, real) refl in
          job-more node done (build.own node) own_then _ _ item (ended ∷ [])
          (first.records ++ numbered number told) first
          (subst (λ b. IsOpenJob b node) (sym at) (inl has.0))
          (ap (λ (o : Own). o.collected.owner) mine)
          (rw (eq-eqb owner first.stamp (owned ∙ first.stamp_is)) refl)
          (subst (λ (o : Own). IfSome o.collected.records
          (λ r. r ≡ first.records ++ numbered number told)) (sym mine)
          (more-recorded number collected.records one.records first.records child.deeds first.recorded))
          (behind-ended next command (tasks node) number child told one.status one.output first.events
          first.records (told-all one.records child.deeds ends_as.records) (subst (λ n. n child.cmd (map answer child.deeds) ≡ Over one.status one.output)
          (sym means) ends_as.over) first.goes
          (went-well (run.line_of (tasks node) number) first.goes.line one.status first.goes.line_is well))

  -- a child does a step
  pub stepped-on : (node ticket owner time : ℕ) (deed : Deed) (store : Store) (child : Child)
      (done : List Item) (build : Build) (children : List Child) → built done ≡ build
      → Steady build.run.nodes build.run.due → HasChild build.run node
      → (build.own node).ticket ≡ ticket → child_in children ticket ≡ Some child
      → owner ≡ (build.own node).collected.owner → IsStep next store owner deed child
      → JobOf node done build children
      → JobOf node (done ++ steps ticket owner deed time ∷ []) build (stepped ticket deed children)
  stepped-on node ticket owner time deed store child done build children at steady has mine here owned step job =
      record {
        opened = λ due.
            let clash : Some Undecided ≡ Some Open = sym (job.opened due).0 ∙ has.0 in absurd cc;
        between = λ number meta due. absurd (subst (IsNotDue node) due has.1 refl);
        inside = λ one meta again found. goes_on one meta found;
        over = λ due. absurd ((job.over due).0.over has.0);
      }
    where
      goes_on : (one : Child) → has_meta work node ≡ true
          → child_in (stepped ticket deed children) (build.own node).ticket ≡ Some one
          → Job node (done ++ steps ticket owner deed time ∷ []) (build.own node)
          (Within next command (tasks node) (build.run.started node) one)
      goes_on one meta found =
          let first = job.inside child meta has (ap (child_in children) mine ∙ here) in
          let now : Some (record child { deeds = child.deeds ++ deed ∷ [] }) ≡ Some one =
          sym (child_in-stepped ticket deed children child here)
          ∙ (ap (child_in (stepped ticket deed children)) (sym mine) ∙ found) in
          let same : record child { deeds = child.deeds ++ deed ∷ [] } ≡ one = cc in
          subst (λ c. Job node (done ++ steps ticket owner deed time ∷ []) (build.own node)
          (Within next command (tasks node) (build.run.started node) c)) same
          (job-more node done (build.own node) (build.own node) _ _ (steps ticket owner deed time)
          (did deed ∷ []) first.records first (subst (λ b. IsOpenJob b node) (sym at) (inl has.0)) refl
          (rw (eq-eqb owner first.stamp (owned ∙ first.stamp_is)) refl) first.recorded
          (within-stepped next command (tasks node) (build.run.started node) child deed step.request
          step.stands first.events first.records step.asked step.done first.goes))

  -- a job is opened
  pub headed : (node time : ℕ) (path bytes : List ℕ) (done : List Item) (build : Build)
      (children : List Child) → 0 < time → IsHead work tasks build node path bytes
      → JobOf node (done ++ changes node (head path bytes time) ∷ [])
      (build_after work tasks build (changes node (head path bytes time))) children
  headed node time path bytes done build children later is = record {
    opened = λ due. (undecided, begun_job);
    between = λ number meta due.
        let clash : run.anything ≡ run.line node number = sym is.may.0 ∙ due in absurd cc;
    inside = λ child meta has here.
        let clash : Some Undecided ≡ Some Open = sym undecided ∙ has.0 in absurd cc;
    over = λ due. absurd (never due);
  }
    where
      undecided : slice_get build.run.nodes node ≡ Some Undecided
      undecided = may-undecided (rules_of work) build.run.nodes node is.may.1

      never : IsDue (begin node) node → ⊥
      never (inl due) = absurd cc
      never (inr due) = absurd cc

      own_then : Own
      own_then = with_collected build.own node (opens_at time) node

      mine : own_then ≡ record { ticket = (build.own node).ticket; collected = opens_at time }
      mine = rw (eq-eqb node node refl) refl

      begun_job : Job node (done ++ changes node (head path bytes time) ∷ []) own_then
          (Behind next command (tasks node) 0)
      begun_job = record {
        before = done;
        during = [];
        path = path;
        bytes = bytes;
        stamp = time;
        later = later;
        stamp_is = ap (λ (o : Own). o.collected.owner) mine;
        cut = refl;
        path_is = is.path_is;
        along = tt;
        commands = begun-commands work node (build.seen node) (tasks node) is.reason;
        events = [];
        events_are = refl;
        records = [];
        recorded = subst (λ (o : Own). IfSome o.collected.records (λ r. r ≡ [])) (sym mine) refl;
        goes = behind-none next command (tasks node);
      }
