-- Meta files stay true, item after item.
use Rattle.std.proofs.Common.{◌≡◌, ◌≢◌, ◌∙◌, ◌⊎◌, ℕ, zero, suc, ◌<◌, ◌≤◌, ◌==◌, ◌||◌, nat_le, List, [], ◌∷◌, ◌++◌, length, map, slice_get, Option, Some, None, Bool, true, false, if◌then◌else◌}
use Rattle.std.proofs.Common.{inl, inr, refl, sym, ap, subst, arith, append_assoc, eq-eqb, ne_eqb}
use Rattle.std.proofs.lemmas.Bool.{cases_eq, cond_both}
use Rattle.std.proofs.lemmas.List.{append-nil}
use Rattle.std.specs.List.{Contains}
use Rattle.mk_values.specs.declared.fault.ExpandFault.{ExpandFault}
use Rattle.mk_meta.specs.Lawful.{IsLawful}
use Rattle.mk_meta.specs.Texts.{meta_text}
use Rattle.mk_meta.specs.TrueHistory.{JobEvent, if_same, LeavesAlone, meta_path, IsTrue, IsTrueHistory}
use Rattle.mk_meta.specs.declared.meta.Meta.{Meta}
use Rattle.mk_plan.specs.Deciding.{is_stopped}
use Rattle.mk_plan.specs.Plans.{node_at}
use Rattle.mk_plan.specs.declared.plan.NodeState.TheVariants.{Undecided, Open, Settled, Failed}
use Rattle.mk_world.proofs.CallLemmas.{after_all-append, MayAll-append, MayAll-parts}
use Rattle.mk_world.proofs.ChildLemmas.{child_in-last, child_in-stepped, child_in-ticket, contains-without, Once}
use Rattle.mk_world.specs.History.{State as Stand, MayAll as MayHappen, after as stand_next, after_all as stand_after, child_in, effects, effected_all, FileMap, IsStep, contents, first_state, state_of, stepped, without_child}
use Rattle.mk_world.specs.Lawful as world_lawful
use Rattle.mk_world.specs.Calls.{EndsAs}
use Rattle.mk_world.specs.Looks.{Seen}
use Rattle.mk_world.specs.Sinks.{Begins}
use Rattle.mk_world.specs.Talks.{Meaning}
use Rattle.mk_world.specs.declared.command.Cmd.{Cmd}
use Rattle.mk_world.specs.declared.command.TaskLine.{TaskLine}
use Rattle.mk_world.specs.declared.history.Child.{Child}
use Rattle.mk_world.specs.declared.history.Happening.{Happening}
use Rattle.mk_world.specs.declared.history.Happening.TheVariants as world
use Rattle.mk_world.specs.declared.history.History.{History}
use Rattle.mk_world.specs.declared.step.Deed.{Deed}
use Rattle.mk_world.specs.declared.step.Ended.{Ended}
use Rattle.mk_decision.specs.Decisions.{Work}
use Rattle.mk_trace.proofs.BegunLemmas.{Steady, steady-all}
use Rattle.mk_trace.proofs.CallLemmas.{on_leaves, on_steps}
use Rattle.mk_trace.proofs.ItemLemmas.{build_after_all-append, happened_all-append, FitsAll-append, Makes-append, state_of-happened}
use Rattle.mk_trace.proofs.TogetherLemmas.{children_belong}
use Rattle.mk_trace.proofs.TrueChildren.{contains-here, contains-mid, contains-more, child_in-contains, once-all, once-found, owner-stepped, step-child, end-child, step-leaves}
use Rattle.mk_trace.proofs.TrueIdle.{free-not, stop-not, idle-change, idle-looks, idle-settled, idle-waits, idle-starts, idle-passes, idle-ends, idle-steps, idle-head}
use Rattle.mk_trace.proofs.TrueRuns.{IsShut, CanAct, shut-not, shut-all, start-acts, ended-open, IsFree, free-ended, taken-due}
use Rattle.mk_trace.proofs.TrueStages.{JobOf, Idle, idle-kept, started, passed, taken, stepped-on, headed}
use Rattle.mk_trace.proofs.TrueTexts.{stamps-rise, stamp-between, no-head, AreTrue, true-same, true-changed}
use Rattle.mk_trace.proofs.TrueWholes.{whole-true}
use Rattle.mk_trace.specs.Builds.{Build, Own, free, close, stop, Makes, IsCommandOf, IsHead, IsWhole, first_build, build_after, build_after_all, rules_of, with_collected, with_ticket}
use Rattle.mk_trace.specs.Calls.{AreLeaveItems, AreStepItems}
use Rattle.mk_trace.specs.Collected.{begun as opens_at, more_records, with_end}
use Rattle.mk_trace.specs.declared.collected.Collected.{Collected}
use Rattle.mk_trace.specs.Items.{Change, gone, head, whole, cut_head, cut_whole, Item, looks, keeps, refuses, starts, passes, waits, steps, ends, changes, leaves, reported, happened, happened_all, path_of, Fits, FitsAll}
use Rattle.mk_trace.specs.Runs as run
use Rattle.mk_trace.specs.Together.{HasChild, IsNotDue, AreTogether}
use Rattle.mk_trace.specs.Calls.{NoneLeft}
use Rattle.mk_trace.specs.TrueBuilds.{IsApart, MetaFilesStayTrue}

none-last : (done : List Item) (item : Item) → NoneLeft done → NoneLeft (item ∷ []) → NoneLeft (done ++ item ∷ [])
none-last [] item none more = more
none-last (looks n seen ∷ done) item none more = none-last done item none more
none-last (keeps n ∷ done) item none more = none-last done item none more
none-last (refuses n number what ∷ done) item none more = none-last done item none more
none-last (starts n number ticket owner cmd ∷ done) item none more = none-last done item none more
none-last (passes n number ∷ done) item none more = none-last done item none more
none-last (waits ∷ done) item none more = none-last done item none more
none-last (steps ticket owner deed time ∷ done) item none more = none-last done item none more
none-last (ends n number owner one ∷ done) item none more = none-last done item none more
none-last (changes n change ∷ done) item none more = none-last done item none more
none-last (leaves ticket owner ∷ done) item none more = absurd none

none-first : (item : Item) (items : List Item) → NoneLeft (item ∷ items) → NoneLeft (item ∷ []) × NoneLeft items
none-first (looks n seen) items none = (tt, none)
none-first (keeps n) items none = (tt, none)
none-first (refuses n number what) items none = (tt, none)
none-first (starts n number ticket owner cmd) items none = (tt, none)
none-first (passes n number) items none = (tt, none)
none-first waits items none = (tt, none)
none-first (steps ticket owner deed time) items none = (tt, none)
none-first (ends n number owner one) items none = (tt, none)
none-first (changes n change) items none = (tt, none)
none-first (leaves ticket owner) items none = absurd none

with_end-owner : (collected : Collected) (number : ℕ) (one : Ended)
    → (with_end collected number one).owner ≡ collected.owner
with_end-owner collected number one =
    cond_both (collected.owner == 0) collected
    (record {
      owner = collected.owner;
      output = collected.output ++ one.output;
      records = more_records number collected.records one.records;
    }) (λ (c : Collected). c.owner ≡ collected.owner) (λ none. refl) (λ real. refl)

started-free : (work : Work) (one : Option TaskLine) (cmd : Cmd) (node number : ℕ) → IsCommandOf work one cmd
    → IsFree (if run.has_child one then run.anything else run.close node number)
started-free work None cmd node number is = absurd is
started-free work (Some line) cmd node number is = rw is.0 tt

module _ (meaning : Meaning) (work : Work) (tasks : run.Tasks) (entry : Stand)
    (idle : entry.children ≡ []) (old : List Happening) where
  -- how a build came to stand so
  record Past (done : List Item) (build : Build) (stand : Stand) : Type 0 where
    at : build_after_all work tasks (first_build work) done ≡ build
    stand_at : stand_after entry (happened_all done) ≡ stand
    makes : Makes work tasks (first_build work) done
    happens : MayHappen meaning entry (happened_all done)
    fits : FitsAll meaning entry done
    none : NoneLeft done

  past-more : (done : List Item) (build : Build) (stand : Stand) (item : Item) → Past done build stand
      → Makes work tasks build (item ∷ []) → MayHappen meaning stand (happened item)
      → Fits meaning stand item → NoneLeft (item ∷ [])
      → Past (done ++ item ∷ []) (build_after work tasks build item) (stand_after stand (happened item))
  past-more done build stand item past makes may fits none = record {
    at = build_after_all-append work tasks (first_build work) done (item ∷ [])
        ∙ ap (λ b. build_after work tasks b item) past.at;
    stand_at = ap (stand_after entry) (happened_all-append done (item ∷ []))
        ∙ (after_all-append entry (happened_all done) (happened item ++ [])
        ∙ rw (append-nil (happened item), past.stand_at) refl);
    makes = Makes-append work tasks (first_build work) done (item ∷ []) past.makes
        (subst (λ b. Makes work tasks b (item ∷ [])) (sym past.at) makes);
    happens = subst (MayHappen meaning entry) (sym (happened_all-append done (item ∷ [])))
        (MayAll-append meaning entry (happened_all done) (happened item ++ []) past.happens
        (subst (λ s. MayHappen meaning s (happened item ++ [])) (sym past.stand_at)
        (subst (MayHappen meaning stand) (sym (append-nil (happened item))) may)));
    fits = FitsAll-append meaning entry done (item ∷ []) past.fits
        (subst (λ s. FitsAll meaning s (item ∷ [])) (sym past.stand_at) (fits, tt));
    none = none-last done item past.none none;
  }

  together : (done : List Item) (build : Build) (stand : Stand) → Past done build stand
      → AreTogether work tasks build.run build.own stand.children
  together done build stand past =
      subst (λ (s : Stand). AreTogether work tasks build.run build.own s.children) past.stand_at
      (subst (λ (b : Build). AreTogether work tasks b.run b.own (stand_after entry (happened_all done)).children)
      past.at (children_belong meaning work tasks done entry idle past.makes past.happens past.fits past.none))

  -- the job of a node, and whose its child is
  record NodeOf (node : ℕ) (done : List Item) (build : Build) (children : List Child) : Type 0 where
    job : JobOf meaning.next work tasks node done build children
    child : (one : Child) → HasChild build.run node → child_in children (build.own node).ticket ≡ Some one
        → one.owner ≡ (build.own node).collected.owner

  -- each job was opened in this build, and no two began at one time
  record Owners (build : Build) (stand : Stand) : Type 0 where
    owned : (node : ℕ) → ((build.own node).collected.owner ≡ 0)
        ⊎ ((entry.stamped < (build.own node).collected.owner) × ((build.own node).collected.owner ≤ stand.stamped))
    differ : (node other : ℕ) → (build.own node).collected.owner ≡ (build.own other).collected.owner
        → (build.own node).collected.owner ≢ 0 → node ≡ other

  -- what began at a stamp is over
  record IsOver (build : Build) (stand : Stand) (stamp : ℕ) : Type 0 where
    later : 0 < stamp
    within : stamp ≤ stand.stamped
    shut : (node : ℕ) → (build.own node).collected.owner ≡ stamp → IsShut build.run.nodes node

  record Good (done : List Item) (build : Build) (stand : Stand) : Type 0 where
    past : Past done build stand
    steady : Steady build.run.nodes build.run.due
    free_due : IsFree build.run.due
    owners : Owners build stand
    nodes : (node : ℕ) → NodeOf node done build stand.children
    truth : AreTrue meaning.next (old ++ happened_all done) stand.files (IsOver build stand)

  node-idle : (node : ℕ) (done : List Item) (build : Build) (stand : Stand) (item : Item) (others : List Child)
      → Good done build stand
      → Idle meaning.next work tasks node item build (build_after work tasks build item) stand.children others
      → NodeOf node (done ++ item ∷ []) (build_after work tasks build item) others
  node-idle node done build stand item others good rests = record {
    job = idle-kept meaning.next work tasks node done item build (build_after work tasks build item)
        stand.children others good.past.at good.steady rests (good.nodes node).job;
    child = λ one has here.
        let was = rests.inside one has here in
        (good.nodes node).child one was.0 was.2
        ∙ sym (ap (λ (c : Collected). c.owner) rests.same);
  }

  -- the owners stay
  owners-kept : (build later : Build) (stand then_stand : Stand)
      → ((node : ℕ) → (later.own node).collected.owner ≡ (build.own node).collected.owner)
      → stand.stamped ≤ then_stand.stamped → Owners build stand → Owners later then_stand
  owners-kept build later stand then_stand same rises owners = record {
    owned = λ node. by node (owners.owned node);
    differ = λ node other is real.
        owners.differ node other (sym (same node) ∙ (is ∙ same other)) (λ none. real (same node ∙ none));
  }
    where
      by : (node : ℕ) → ((build.own node).collected.owner ≡ 0)
          ⊎ ((entry.stamped < (build.own node).collected.owner)
          × ((build.own node).collected.owner ≤ stand.stamped))
          → ((later.own node).collected.owner ≡ 0)
          ⊎ ((entry.stamped < (later.own node).collected.owner)
          × ((later.own node).collected.owner ≤ then_stand.stamped))
      by node (inl none) = inl (same node ∙ none)
      by node (inr within) =
          let is = same node in
          inr (omega (arith, within.0, is), omega (arith, within.1, is, rises))

  over-kept : (build later : Build) (stand then_stand : Stand) (stamp : ℕ)
      → ((node : ℕ) → (later.own node).collected.owner ≡ (build.own node).collected.owner)
      → stand.stamped ≤ then_stand.stamped
      → ((node : ℕ) → IsShut build.run.nodes node → IsShut later.run.nodes node)
      → IsOver build stand stamp → IsOver later then_stand stamp
  over-kept build later stand then_stand stamp same rises shut over = record {
    later = over.later;
    within = let less = over.within in omega (arith, less, rises);
    shut = λ node is. shut node (over.shut node (sym (same node) ∙ is));
  }

  -- the events so far
  events-are : (done : List Item) (item : Item)
      → old ++ happened_all (done ++ item ∷ []) ≡ (old ++ happened_all done) ++ happened item
  events-are done item =
      ap (λ l. old ++ l) (happened_all-append done (item ∷ []))
      ∙ (ap (λ l. old ++ (happened_all done ++ l)) (append-nil (happened item))
      ∙ sym (append_assoc old (happened_all done) (happened item)))

  abbrev TrueThen : List Item → Item → Stand → (ℕ → Type 0) → Type 0
  TrueThen done item stand Over =
      AreTrue meaning.next (old ++ happened_all (done ++ item ∷ []))
      (stand_after stand (happened item)).files Over

  true-none : (done : List Item) (item : Item) (files : FileMap) (Over Then : ℕ → Type 0)
      → happened item ≡ [] → ((stamp : ℕ) → Over stamp → Then stamp)
      → AreTrue meaning.next (old ++ happened_all done) files Over
      → AreTrue meaning.next (old ++ happened_all (done ++ item ∷ [])) files Then
  true-none done item files Over Then none kept are meta lawful stands =
      let was = are meta lawful stands in (
        subst (IsTrue meaning.next meta)
            (sym (events-are done item
            ∙ (ap (λ l. (old ++ happened_all done) ++ l) none ∙ append-nil (old ++ happened_all done)))) was.0,
        kept meta.stamp.0 was.1,
      )

  -- what an item keeps of the jobs that are over
  shut-kept : (build : Build) (item : Item) → Steady build.run.nodes build.run.due
      → run.MayAll (rules_of work) tasks build.run (reported item) → (node : ℕ)
      → IsShut build.run.nodes node → IsShut (build_after work tasks build item).run.nodes node
  shut-kept build item steady may node =
      shut-all (rules_of work) tasks build.run (reported item) node steady may

  -- an item that leaves all owners
  good-more : (done : List Item) (build : Build) (stand : Stand) (item : Item) → Good done build stand
      → Makes work tasks build (item ∷ []) → MayHappen meaning stand (happened item)
      → Fits meaning stand item → NoneLeft (item ∷ []) → IsFree (build_after work tasks build item).run.due
      → ((node : ℕ) → ((build_after work tasks build item).own node).collected.owner
      ≡ (build.own node).collected.owner)
      → ((node : ℕ) → NodeOf node (done ++ item ∷ []) (build_after work tasks build item)
      (stand_after stand (happened item)).children)
      → TrueThen done item stand
      (IsOver (build_after work tasks build item) (stand_after stand (happened item)))
      → Good (done ++ item ∷ []) (build_after work tasks build item) (stand_after stand (happened item))
  good-more done build stand item good makes may fits none free_due same nodes truth = record {
    past = past-more done build stand item good.past makes may fits none;
    steady = steady-all (rules_of work) tasks build.run (reported item) good.steady makes.0;
    free_due = free_due;
    owners = owners-kept build (build_after work tasks build item) stand (stand_after stand (happened item)) same
        (stamps-rise meaning stand (happened item) may) good.owners;
    nodes = nodes;
    truth = truth;
  }

  over-more : (done : List Item) (build : Build) (stand : Stand) (item : Item) → Good done build stand
      → run.MayAll (rules_of work) tasks build.run (reported item) → MayHappen meaning stand (happened item)
      → ((node : ℕ) → ((build_after work tasks build item).own node).collected.owner
      ≡ (build.own node).collected.owner)
      → (stamp : ℕ) → IsOver build stand stamp
      → IsOver (build_after work tasks build item) (stand_after stand (happened item)) stamp
  over-more done build stand item good legal may same stamp over =
      over-kept build (build_after work tasks build item) stand (stand_after stand (happened item)) stamp same
      (stamps-rise meaning stand (happened item) may) (shut-kept build item good.steady legal) over

  -- an owner is that of its node's job alone

  differs : (done : List Item) (build : Build) (stand : Stand) (node n owner : ℕ) → Good done build stand
      → node ≢ n → owner ≡ (build.own n).collected.owner
      → (stamp : ℕ) → 0 < stamp → (build.own node).collected.owner ≡ stamp → owner ≢ stamp
  differs done build stand node n owner good other owned stamp later is same =
      other (good.owners.differ node n (is ∙ (sym same ∙ owned))
      (λ none. let zero_is : stamp ≡ 0 = sym is ∙ none in absurd (omega (arith, later, zero_is))))

  not-over : (build : Build) (stand : Stand) (n owner stamp : ℕ) → owner ≡ (build.own n).collected.owner
      → CanAct build.run.nodes n → IsOver build stand stamp → owner ≢ stamp
  not-over build stand n owner stamp owned acts over same =
      shut-not build.run.nodes n (over.shut n (sym owned ∙ same)) acts

  other-none : (owner stamp : ℕ) (event : JobEvent) → owner ≢ stamp → if_same (owner == stamp) event ≡ []
  other-none owner stamp event other = rw (ne_eqb owner stamp other) refl

  -- item by item

  truth-event : (done : List Item) (item : Item) (stand : Stand) (event : Happening) (Then : ℕ → Type 0)
      → happened item ≡ event ∷ []
      → AreTrue meaning.next ((old ++ happened_all done) ++ event ∷ [])
      (effected_all stand.files (effects event)) Then
      → TrueThen done item stand Then
  truth-event done item stand event Then is given =
      subst (λ e. AreTrue meaning.next e (stand_after stand (happened item)).files Then)
      (sym (events-are done item))
      (subst (λ l. AreTrue meaning.next ((old ++ happened_all done) ++ l) (stand_after stand l).files Then)
      (sym is) given)

  good-looks : (node : ℕ) (seen : Seen) (done : List Item) (build : Build) (stand : Stand)
      → Good done build stand → Makes work tasks build (looks node seen ∷ [])
      → MayHappen meaning stand (happened (looks node seen)) → Fits meaning stand (looks node seen)
      → Good (done ++ looks node seen ∷ []) (build_after work tasks build (looks node seen))
      (stand_after stand (happened (looks node seen)))
  good-looks node seen done build stand good makes may fits =
      let item = looks node seen in
      good-more done build stand item good makes may fits tt good.free_due (λ n. refl)
      (λ n. node-idle n done build stand item stand.children good
      (idle-looks meaning.next work tasks n node seen build stand.children))
      (truth-event done item stand (world.Look (path_of seen)) _ refl
      (true-same meaning.next (old ++ happened_all done) stand.files (IsOver build stand)
      (IsOver (build_after work tasks build item) (stand_after stand (happened item)))
      (world.Look (path_of seen)) (λ target. tt)
      (λ stamp over. (over-more done build stand item good tt may (λ n. refl) stamp over, refl)) good.truth))

  good-keeps : (node : ℕ) (done : List Item) (build : Build) (stand : Stand)
      → Good done build stand → Makes work tasks build (keeps node ∷ [])
      → Good (done ++ keeps node ∷ []) (build_after work tasks build (keeps node)) stand
  good-keeps node done build stand good makes =
      let item = keeps node in
      good-more done build stand item good makes tt tt tt tt (λ n. refl)
      (λ n. node-idle n done build stand item stand.children good
      (idle-settled meaning.next work tasks n node item Settled build _ _ stand.children (λ is. absurd cc)
      (λ stamp. refl) makes.0.0.0 makes.1))
      (true-none done item stand.files (IsOver build stand) _ refl
      (over-more done build stand item good makes.0 tt (λ n. refl)) good.truth)

  good-refuses : (node number : ℕ) (what : ExpandFault) (done : List Item) (build : Build) (stand : Stand)
      → Good done build stand → Makes work tasks build (refuses node number what ∷ [])
      → Good (done ++ refuses node number what ∷ [])
      (build_after work tasks build (refuses node number what)) stand
  good-refuses node number what done build stand good makes =
      let item = refuses node number what in
      good-more done build stand item good makes tt tt tt tt (λ n. refl)
      (λ n. node-idle n done build stand item stand.children good
      (idle-settled meaning.next work tasks n node item Failed build _ _ stand.children (λ is. absurd cc)
      (λ stamp. refl) makes.0.0.0 makes.1))
      (true-none done item stand.files (IsOver build stand) _ refl
      (over-more done build stand item good makes.0 tt (λ n. refl)) good.truth)

  good-waits : (done : List Item) (build : Build) (stand : Stand)
      → Good done build stand → Makes work tasks build (waits ∷ [])
      → Good (done ++ waits ∷ []) (build_after work tasks build waits) stand
  good-waits done build stand good makes =
      good-more done build stand waits good makes tt tt tt tt (λ n. refl)
      (λ n. node-idle n done build stand waits stand.children good
      (idle-waits meaning.next work tasks n build stand.children makes.0.0.0 makes.1))
      (true-none done waits stand.files (IsOver build stand) _ refl
      (over-more done build stand waits good makes.0 tt (λ n. refl)) good.truth)

  ticket-owner : (own : ℕ → Own) (node ticket n : ℕ)
      → (with_ticket own node ticket n).collected.owner ≡ (own n).collected.owner
  ticket-owner own node ticket n = by (n == node)
    where
      by : (b : Bool) → (if b then record { ticket = ticket; collected = (own n).collected } else own n).collected.owner
          ≡ (own n).collected.owner
      by true = refl
      by false = refl

  good-starts : (node number ticket owner : ℕ) (cmd : Cmd) (done : List Item) (build : Build) (stand : Stand)
      → Good done build stand → Makes work tasks build (starts node number ticket owner cmd ∷ [])
      → MayHappen meaning stand (happened (starts node number ticket owner cmd))
      → Good (done ++ starts node number ticket owner cmd ∷ [])
      (build_after work tasks build (starts node number ticket owner cmd))
      (stand_after stand (happened (starts node number ticket owner cmd)))
  good-starts node number ticket owner cmd done build stand good makes may =
      let owners_same = ticket-owner build.own node ticket in
      good-more done build stand item good makes may tt tt
      (started-free work (run.line_of (tasks node) number) cmd node number makes.2.1) owners_same
      (λ n. at n (cases_eq n node))
      (truth-event done item stand event _ refl
      (true-same meaning.next (old ++ happened_all done) stand.files (IsOver build stand)
      (IsOver (build_after work tasks build item) (stand_after stand (happened item))) event (λ target. tt)
      (λ stamp over. (
        over-more done build stand item good makes.0 may owners_same stamp over,
        other-none owner stamp _ (not-over build stand node owner stamp makes.2.2 acts over),
      )) good.truth))
    where
      item : Item
      item = starts node number ticket owner cmd

      event : Happening
      event = world.Start ticket owner cmd

      new : Child
      new = record { ticket = ticket; owner = owner; cmd = cmd; deeds = [] }

      acts : CanAct build.run.nodes node
      acts = start-acts (rules_of work) tasks build.run node number build.run.due good.steady makes.0.0

      mine : NodeOf node (done ++ item ∷ []) (build_after work tasks build item)
          (stand.children ++ new ∷ [])
      mine = record {
        job = started meaning.next work tasks node number ticket owner cmd done build stand.children
            good.past.at good.steady makes.0.0 makes.1 makes.2.1 makes.2.2 may.0.1 (good.nodes node).job;
        child = λ one has here.
            let is : with_ticket build.own node ticket node
            ≡ record { ticket = ticket; collected = (build.own node).collected } =
            rw (eq-eqb node node refl) refl in
            let found : Some new ≡ Some one =
            sym (child_in-last stand.children new may.0.1)
            ∙ (ap (λ (o : Own). child_in (stand.children ++ new ∷ []) o.ticket) (sym is) ∙ here) in
            let same : new ≡ one = cc in
            sym (ap (λ (c : Child). c.owner) same)
            ∙ (makes.2.2 ∙ sym (ap (λ (o : Own). o.collected.owner) is));
      }

      at : (n : ℕ) → (n ≡ node) ⊎ (n ≡ node → ⊥)
          → NodeOf n (done ++ item ∷ []) (build_after work tasks build item) (stand.children ++ new ∷ [])
      at n (inl same) =
          subst (λ k. NodeOf k (done ++ item ∷ []) (build_after work tasks build item)
          (stand.children ++ new ∷ [])) (sym same) mine
      at n (inr other) =
          node-idle n done build stand item (stand.children ++ new ∷ []) good
          (idle-starts meaning.next work tasks n node number ticket owner cmd build stand.children other
          makes.0.0 (together done build stand good.past)
          (differs done build stand n node owner good other makes.2.2))

  good-passes : (node number : ℕ) (done : List Item) (build : Build) (stand : Stand)
      → Good done build stand → Makes work tasks build (passes node number ∷ [])
      → Good (done ++ passes node number ∷ []) (build_after work tasks build (passes node number)) stand
  good-passes node number done build stand good makes =
      good-more done build stand item good makes tt tt tt (free-ended begun_run node number false stops)
      (λ n. refl) (λ n. at n (cases_eq n node))
      (true-none done item stand.files (IsOver build stand) _ refl
      (over-more done build stand item good makes.0 tt (λ n. refl)) good.truth)
    where
      item : Item
      item = passes node number

      begun_run : run.State
      begun_run = run.start_line tasks build.run node number

      stops : Bool
      stops = nat_le (length (tasks node)) number || is_stopped (rules_of work) begun_run.nodes

      mine : NodeOf node (done ++ item ∷ []) (build_after work tasks build item) stand.children
      mine = record {
        job = passed meaning.next work tasks node number done build stand.children
            good.past.at good.steady makes.0 makes.1 (good.nodes node).job;
        child = λ one has here. absurd ((ended-open begun_run node number node false stops has).0 refl);
      }

      at : (n : ℕ) → (n ≡ node) ⊎ (n ≡ node → ⊥)
          → NodeOf n (done ++ item ∷ []) (build_after work tasks build item) stand.children
      at n (inl same) =
          subst (λ k. NodeOf k (done ++ item ∷ []) (build_after work tasks build item) stand.children)
          (sym same) mine
      at n (inr other) =
          node-idle n done build stand item stand.children good
          (idle-passes meaning.next work tasks n node number build stand.children other makes.0.0)

  -- the node of a child
  record ChildOf (build : Build) (children : List Child) (ticket owner : ℕ) : Type 0 where
    node : ℕ
    has : HasChild build.run node
    mine : (build.own node).ticket ≡ ticket
    owned : owner ≡ (build.own node).collected.owner

  child-of : (done : List Item) (build : Build) (stand : Stand) (ticket owner : ℕ) (child : Child)
      → Good done build stand → child_in stand.children ticket ≡ Some child → child.owner ≡ owner
      → ChildOf build stand.children ticket owner
  child-of done build stand ticket owner child good here owned =
      let found = (together done build stand good.past).node child
      (child_in-contains stand.children ticket child here) in
      let mine : (build.own found.0).ticket ≡ ticket = found.2 ∙ child_in-ticket ticket stand.children child here in
      record {
        node = found.0;
        has = found.1;
        mine = mine;
        owned = sym owned
            ∙ (good.nodes found.0).child child found.1 (ap (child_in stand.children) mine ∙ here);
      }

  good-steps : (ticket owner time : ℕ) (deed : Deed) (done : List Item) (build : Build) (stand : Stand)
      → ((target : List ℕ) → LeavesAlone (meta_path target) (effects (world.Step ticket owner deed time)))
      → Good done build stand → Makes work tasks build (steps ticket owner deed time ∷ [])
      → MayHappen meaning stand (happened (steps ticket owner deed time))
      → Good (done ++ steps ticket owner deed time ∷ []) build
      (stand_after stand (happened (steps ticket owner deed time)))
  good-steps ticket owner time deed done build stand leaves_them good makes may =
      good-more done build stand item good makes may tt tt good.free_due (λ n. refl)
      (λ n. at n (cases_eq n whose.node))
      (truth-event done item stand event _ refl
      (true-same meaning.next (old ++ happened_all done) stand.files (IsOver build stand)
      (IsOver build (stand_after stand (happened item))) event leaves_them
      (λ stamp over. (
        over-more done build stand item good tt may (λ n. refl) stamp over,
        other-none owner stamp _
            (not-over build stand whose.node owner stamp whose.owned (inr whose.has.0) over),
      )) good.truth))
    where
      item : Item
      item = steps ticket owner deed time

      event : Happening
      event = world.Step ticket owner deed time

      step : (child : Child) × (child_in stand.children ticket ≡ Some child)
          × IsStep meaning.next (contents stand.files) owner deed child
      step = step-child meaning.next (contents stand.files) owner deed (child_in stand.children ticket) may.0.1

      whose : ChildOf build stand.children ticket owner
      whose = child-of done build stand ticket owner step.0 good step.1 step.2.owned

      mine : NodeOf whose.node (done ++ item ∷ []) build (stepped ticket deed stand.children)
      mine = record {
        job = stepped-on meaning.next work tasks whose.node ticket owner time deed (contents stand.files)
            step.0 done build stand.children good.past.at good.steady whose.has whose.mine step.1 whose.owned
            step.2 (good.nodes whose.node).job;
        child = λ one has here.
            let now : Some (record step.0 { deeds = step.0.deeds ++ deed ∷ [] }) ≡ Some one =
            sym (child_in-stepped ticket deed stand.children step.0 step.1)
            ∙ (ap (child_in (stepped ticket deed stand.children)) (sym whose.mine) ∙ here) in
            let same : record step.0 { deeds = step.0.deeds ++ deed ∷ [] } ≡ one = cc in
            sym (ap (λ (c : Child). c.owner) same) ∙ (step.2.owned ∙ whose.owned);
      }

      at : (n : ℕ) → (n ≡ whose.node) ⊎ (n ≡ whose.node → ⊥)
          → NodeOf n (done ++ item ∷ []) build (stepped ticket deed stand.children)
      at n (inl same) =
          subst (λ k. NodeOf k (done ++ item ∷ []) build (stepped ticket deed stand.children)) (sym same) mine
      at n (inr other) =
          node-idle n done build stand item (stepped ticket deed stand.children) good
          (idle-steps meaning.next work tasks n whose.node ticket owner time deed build stand.children other
          whose.has whose.mine (together done build stand good.past)
          (differs done build stand n whose.node owner good other whose.owned))

  collected-owner : (own : ℕ → Own) (node number n : ℕ) (one : Ended)
      → (with_collected own node (with_end (own node).collected number one) n).collected.owner
      ≡ (own n).collected.owner
  collected-owner own node number n one = elim (cases_eq n node) [
    | inl same ↦
        subst (λ k. (with_collected own node (with_end (own node).collected number one) k).collected.owner
        ≡ (own k).collected.owner) (sym same)
        (rw (eq-eqb node node refl) (with_end-owner (own node).collected number one))
    | inr other ↦ rw (ne_eqb n node other) refl
  ]

  good-ends : (node number owner : ℕ) (one : Ended) (done : List Item) (build : Build) (stand : Stand)
      → Good done build stand → Makes work tasks build (ends node number owner one ∷ [])
      → MayHappen meaning stand (happened (ends node number owner one))
      → Fits meaning stand (ends node number owner one)
      → Good (done ++ ends node number owner one ∷ []) (build_after work tasks build (ends node number owner one))
      (stand_after stand (happened (ends node number owner one)))
  good-ends node number owner one done build stand good makes may fits =
      good-more done build stand item good makes may fits tt (free-ended build.run node number fails stops)
      owners_same (λ n. at n (cases_eq n node))
      (truth-event done item stand event _ refl
      (true-same meaning.next (old ++ happened_all done) stand.files (IsOver build stand)
      (IsOver (build_after work tasks build item) (stand_after stand (happened item))) event (λ target. tt)
      (λ stamp over. (
        over-more done build stand item good makes.0 may owners_same stamp over,
        other-none owner stamp _ (not-over build stand node owner stamp owned (inr has.0) over),
      )) good.truth))
    where
      item : Item
      item = ends node number owner one

      event : Happening
      event = world.End one.ticket.0 owner

      fails : Bool
      fails = run.fails (run.line_of (tasks node) number) one.status

      stops : Bool
      stops = nat_le (length (tasks node)) number || is_stopped (rules_of work) build.run.nodes

      owners_same : (n : ℕ) → ((build_after work tasks build item).own n).collected.owner
          ≡ (build.own n).collected.owner
      owners_same n = collected-owner build.own node number n one

      due : (build.run.due ≡ run.child) × (slice_get build.run.nodes node ≡ Some Open)
          × (build.run.started node ≡ number)
      due = taken-due build.run node number one.status build.run.due good.free_due makes.0.0

      has : HasChild build.run node
      has = (due.1, subst (IsNotDue node) (sym due.0) tt)

      found : (child : Child) × (child_in stand.children one.ticket.0 ≡ Some child)
          × (child.owner ≡ owner) × EndsAs meaning one child
      found = end-child meaning one owner (child_in stand.children one.ticket.0) fits

      here : child_in stand.children (build.own node).ticket ≡ Some found.0
      here = ap (child_in stand.children) makes.2 ∙ found.1

      owned : owner ≡ (build.own node).collected.owner
      owned = sym found.2 ∙ (good.nodes node).child found.0 has here

      mine : NodeOf node (done ++ item ∷ []) (build_after work tasks build item)
          (without_child one.ticket.0 stand.children)
      mine = record {
        job = taken meaning.next work tasks meaning node number owner one found.0 done build stand.children
            (without_child one.ticket.0 stand.children) refl good.past.at has due.2 here owned found.3
            (good.nodes node).job;
        child = λ other_child again there.
            absurd ((ended-open build.run node number node fails stops again).0 refl);
      }

      at : (n : ℕ) → (n ≡ node) ⊎ (n ≡ node → ⊥)
          → NodeOf n (done ++ item ∷ []) (build_after work tasks build item)
          (without_child one.ticket.0 stand.children)
      at n (inl same) =
          subst (λ k. NodeOf k (done ++ item ∷ []) (build_after work tasks build item)
          (without_child one.ticket.0 stand.children)) (sym same) mine
      at n (inr other) =
          node-idle n done build stand item (without_child one.ticket.0 stand.children) good
          (idle-ends meaning.next work tasks n node number owner one build stand.children other due.0 has
          makes.2 (together done build stand good.past)
          (differs done build stand n node owner good other owned))

  -- make changes a file

  good-gone : (node time : ℕ) (path : List ℕ) (done : List Item) (build : Build) (stand : Stand)
      → Good done build stand → Makes work tasks build (changes node (gone path time) ∷ [])
      → MayHappen meaning stand (happened (changes node (gone path time)))
      → Good (done ++ changes node (gone path time) ∷ [])
      (build_after work tasks build (changes node (gone path time)))
      (stand_after stand (happened (changes node (gone path time))))
  good-gone node time path done build stand good makes may =
      let item = changes node (gone path time) in
      good-more done build stand item good makes may tt tt good.free_due (λ n. refl)
      (λ n. node-idle n done build stand item stand.children good
      (idle-change meaning.next work tasks n item build _ _ free stand.children (λ stamp. refl)
      (λ is. absurd cc) (λ due. absurd (free-not n due))))
      (truth-event done item stand (world.Gone path time) _ refl
      (true-changed meaning.next (old ++ happened_all done) stand.files (IsOver build stand)
      (IsOver (build_after work tasks build item) (stand_after stand (happened item)))
      (world.Gone path time) path None time refl
      (λ stamp over. (over-more done build stand item good tt may (λ n. refl) stamp over, refl))
      (λ meta lawful here is. absurd cc) good.truth))

  -- a head is the text of no value, and no part of it is
  head-none : (node : ℕ) (path bytes part : List ℕ) (build : Build) (meta : Meta)
      → IsHead work tasks build node path bytes → Begins part bytes → IsLawful meta
      → Some part ≡ Some (meta_text meta) → ⊥
  head-none node path bytes part build meta is begins lawful stands =
      let same : part ≡ meta_text meta = cc in
      no-head (node_at work.plan node).name meta begins.rest lawful
      (ap (λ l. l ++ begins.rest) (sym same) ∙ (sym begins.is ∙ is.bytes_are))

  good-cut_head : (node time : ℕ) (path part : List ℕ) (done : List Item) (build : Build) (stand : Stand)
      → Good done build stand → Makes work tasks build (changes node (cut_head path part time) ∷ [])
      → MayHappen meaning stand (happened (changes node (cut_head path part time)))
      → Good (done ++ changes node (cut_head path part time) ∷ [])
      (build_after work tasks build (changes node (cut_head path part time)))
      (stand_after stand (happened (changes node (cut_head path part time))))
  good-cut_head node time path part done build stand good makes may =
      let item = changes node (cut_head path part time) in
      good-more done build stand item good makes may tt tt good.free_due (λ n. refl)
      (λ n. node-idle n done build stand item stand.children good
      (idle-change meaning.next work tasks n item build _ _ stop stand.children (λ stamp. refl)
      (λ is. absurd cc) (λ due. absurd (stop-not n due))))
      (truth-event done item stand (world.Stamp path part time) _ refl
      (true-changed meaning.next (old ++ happened_all done) stand.files (IsOver build stand)
      (IsOver (build_after work tasks build item) (stand_after stand (happened item)))
      (world.Stamp path part time) path (Some part) time refl
      (λ stamp over. (over-more done build stand item good tt may (λ n. refl) stamp over, refl))
      (λ meta lawful here is.
      absurd (head-none node path makes.2.0 part build meta makes.2.1 makes.2.2 lawful is)) good.truth))

  -- where the meta file of a job is written, what stands of it is true
  whole-new : (total rest : List Item) (apart : IsApart work tasks total)
      (node time : ℕ) (path bytes part : List ℕ) (item : Item) (done : List Item) (build : Build) (stand : Stand)
      → total ≡ done ++ item ∷ rest → Good done build stand → build.duty ≡ close node
      → IsWhole work tasks build node path bytes → Begins part bytes → (meta : Meta) → IsLawful meta
      → Some part ≡ Some (meta_text meta)
      → IsTrue meaning.next meta ((old ++ happened_all done) ++ world.Put path part time ∷ [])
      × IsOver build stand meta.stamp.0
  whole-new total rest apart node time path bytes part item done build stand cut good due is begins meta lawful stands =
      let over = (good.nodes node).job.over (inr due) in
      let job = over.1 in
      let opens = changes node (head job.path job.bytes job.stamp) in
      let all : total ≡ job.before ++ opens ∷ (job.during ++ item ∷ rest) =
      cut ∙ (ap (λ l. l ++ item ∷ rest) job.cut
      ∙ append_assoc job.before (opens ∷ job.during) (item ∷ rest)) in
      let alone = apart.jobs_apart job.before job.during (item ∷ rest) node job.stamp job.path job.bytes all
      job.along in
      let same : part ≡ meta_text meta = cc in
      let true_then = whole-true meaning.next work tasks node done (build.own node) job old path part time meta
      is.countable is.few is.exports is.path_is
      (record { rest = begins.rest; is = sym is.bytes_are ∙ begins.is }) alone lawful same in (
        true_then.0,
        subst (IsOver build stand) true_then.1 (record {
          later = job.later;
          within = within job.stamp job.later job.stamp_is (good.owners.owned node);
          shut = λ n owned.
              let real : (build.own n).collected.owner ≢ 0 = λ none.
              let less = job.later in let none_is : job.stamp ≡ 0 = sym owned ∙ none in
              absurd (omega (arith, less, none_is)) in
              let whose = good.owners.differ n node (owned ∙ sym job.stamp_is) real in
              subst (λ k. IsShut build.run.nodes k) (sym whose) over.0;
        }),
      )
    where
      within : (stamp : ℕ) → 0 < stamp → (build.own node).collected.owner ≡ stamp
          → ((build.own node).collected.owner ≡ 0)
          ⊎ ((entry.stamped < (build.own node).collected.owner)
          × ((build.own node).collected.owner ≤ stand.stamped))
          → stamp ≤ stand.stamped
      within stamp later owned (inl none) =
          let none_is : stamp ≡ 0 = sym owned ∙ none in absurd (omega (arith, later, none_is))
      within stamp later owned (inr both) = subst (λ k. k ≤ stand.stamped) owned both.1

  good-whole : (total rest : List Item) (apart : IsApart work tasks total)
      (node time : ℕ) (path bytes : List ℕ) (done : List Item) (build : Build) (stand : Stand)
      → total ≡ done ++ changes node (whole path bytes time) ∷ rest → Good done build stand
      → Makes work tasks build (changes node (whole path bytes time) ∷ [])
      → MayHappen meaning stand (happened (changes node (whole path bytes time)))
      → Good (done ++ changes node (whole path bytes time) ∷ [])
      (build_after work tasks build (changes node (whole path bytes time)))
      (stand_after stand (happened (changes node (whole path bytes time))))
  good-whole total rest apart node time path bytes done build stand cut good makes may =
      let item = changes node (whole path bytes time) in
      good-more done build stand item good makes may tt tt good.free_due (λ n. refl)
      (λ n. node-idle n done build stand item stand.children good
      (idle-change meaning.next work tasks n item build _ _ free stand.children (λ stamp. refl)
      (λ is. absurd cc) (λ due. absurd (free-not n due))))
      (truth-event done item stand (world.Put path bytes time) _ refl
      (true-changed meaning.next (old ++ happened_all done) stand.files (IsOver build stand)
      (IsOver (build_after work tasks build item) (stand_after stand (happened item)))
      (world.Put path bytes time) path (Some bytes) time refl
      (λ stamp over. (over-more done build stand item good tt may (λ n. refl) stamp over, refl))
      (λ meta lawful here is.
      let new = whole-new total rest apart node time path bytes bytes item done build stand cut good makes.1
      makes.2.0 (record { rest = []; is = sym (append-nil bytes) }) meta lawful is in
      (new.0, over-more done build stand item good tt may (λ n. refl) meta.stamp.0 new.1)) good.truth))

  good-cut_whole : (total rest : List Item) (apart : IsApart work tasks total)
      (node time : ℕ) (path part : List ℕ) (done : List Item) (build : Build) (stand : Stand)
      → total ≡ done ++ changes node (cut_whole path part time) ∷ rest → Good done build stand
      → Makes work tasks build (changes node (cut_whole path part time) ∷ [])
      → MayHappen meaning stand (happened (changes node (cut_whole path part time)))
      → Good (done ++ changes node (cut_whole path part time) ∷ [])
      (build_after work tasks build (changes node (cut_whole path part time)))
      (stand_after stand (happened (changes node (cut_whole path part time))))
  good-cut_whole total rest apart node time path part done build stand cut good makes may =
      let item = changes node (cut_whole path part time) in
      good-more done build stand item good makes may tt tt good.free_due (λ n. refl)
      (λ n. node-idle n done build stand item stand.children good
      (idle-change meaning.next work tasks n item build _ _ stop stand.children (λ stamp. refl)
      (λ is. absurd cc) (λ due. absurd (stop-not n due))))
      (truth-event done item stand (world.Put path part time) _ refl
      (true-changed meaning.next (old ++ happened_all done) stand.files (IsOver build stand)
      (IsOver (build_after work tasks build item) (stand_after stand (happened item)))
      (world.Put path part time) path (Some part) time refl
      (λ stamp over. (over-more done build stand item good tt may (λ n. refl) stamp over, refl))
      (λ meta lawful here is.
      let new = whole-new total rest apart node time path makes.2.0 part item done build stand cut good
      makes.1 makes.2.1 makes.2.2 meta lawful is in
      (new.0, over-more done build stand item good tt may (λ n. refl) meta.stamp.0 new.1)) good.truth))

  -- a job is opened

  good-head : (node time : ℕ) (path bytes : List ℕ) (done : List Item) (build : Build) (stand : Stand)
      → Good done build stand → Makes work tasks build (changes node (head path bytes time) ∷ [])
      → MayHappen meaning stand (happened (changes node (head path bytes time)))
      → Good (done ++ changes node (head path bytes time) ∷ [])
      (build_after work tasks build (changes node (head path bytes time)))
      (stand_after stand (happened (changes node (head path bytes time))))
  good-head node time path bytes done build stand good makes may = record {
    past = past-more done build stand item good.past makes may tt tt;
    steady = good.steady;
    free_due = good.free_due;
    owners = record { owned = λ n. owned n (cases_eq n node); differ = differ };
    nodes = λ n. at n (cases_eq n node);
    truth = truth-event done item stand event _ refl
        (true-changed meaning.next (old ++ happened_all done) stand.files (IsOver build stand)
        (IsOver build_then stand_then) event path (Some bytes) time refl
        (λ stamp over. (over_then stamp over, refl))
        (λ meta lawful here is. absurd (head-none node path bytes bytes build meta makes.2.0
        (record { rest = []; is = sym (append-nil bytes) }) lawful is)) good.truth);
  }
    where
      item : Item
      item = changes node (head path bytes time)

      event : Happening
      event = world.Stamp path bytes time

      build_then : Build
      build_then = build_after work tasks build item

      stand_then : Stand
      stand_then = stand_after stand (happened item)

      rises : entry.stamped ≤ stand.stamped
      rises = subst (λ (s : Stand). entry.stamped ≤ s.stamped) good.past.stand_at
          (stamps-rise meaning entry (happened_all done) good.past.happens)

      later : stand.stamped < time
      later = may.0.1

      own_here : (n : ℕ) → n ≡ node → (build_then.own n).collected.owner ≡ time
      own_here n same =
          subst (λ k. (with_collected build.own node (opens_at time) k).collected.owner ≡ time) (sym same)
          (rw (eq-eqb node node refl) refl)

      own_other : (n : ℕ) → (n ≡ node → ⊥) → (build_then.own n).collected.owner ≡ (build.own n).collected.owner
      own_other n other = rw (ne_eqb n node other) refl

      owned_other : (n : ℕ) → ((build.own n).collected.owner ≡ (build_then.own n).collected.owner)
          → ((build.own n).collected.owner ≡ 0)
          ⊎ ((entry.stamped < (build.own n).collected.owner) × ((build.own n).collected.owner ≤ stand.stamped))
          → ((build_then.own n).collected.owner ≡ 0)
          ⊎ ((entry.stamped < (build_then.own n).collected.owner)
          × ((build_then.own n).collected.owner ≤ stand_then.stamped))
      owned_other n same (inl none) = inl (sym same ∙ none)
      owned_other n same (inr both) =
          inr (omega (arith, both.0, same), omega (arith, both.1, same, later))

      owned : (n : ℕ) → (n ≡ node) ⊎ (n ≡ node → ⊥)
          → ((build_then.own n).collected.owner ≡ 0)
          ⊎ ((entry.stamped < (build_then.own n).collected.owner)
          × ((build_then.own n).collected.owner ≤ stand_then.stamped))
      owned n (inl same) =
          let is = own_here n same in
          inr (omega (arith, is, later, rises), omega (arith, is))
      owned n (inr other) = owned_other n (sym (own_other n other)) (good.owners.owned n)

      -- no job began so late
      not-now : (n : ℕ) → ((build.own n).collected.owner ≡ 0)
          ⊎ ((entry.stamped < (build.own n).collected.owner) × ((build.own n).collected.owner ≤ stand.stamped))
          → (build.own n).collected.owner ≡ time → ⊥
      not-now n (inl none) is = absurd (omega (arith, none, is, later))
      not-now n (inr both) is = absurd (omega (arith, both.1, is, later))

      differ : (one other : ℕ) → (build_then.own one).collected.owner ≡ (build_then.own other).collected.owner
          → (build_then.own one).collected.owner ≢ 0 → one ≡ other
      differ one other is real = elim (cases_eq one node) [
        | inl first ↦ elim (cases_eq other node) [
          | inl second ↦ first ∙ sym second
          | inr apart_second ↦
              absurd (not-now other (good.owners.owned other)
              (sym (own_other other apart_second) ∙ (sym is ∙ own_here one first)))
        ]
        | inr apart_first ↦ elim (cases_eq other node) [
          | inl second ↦
              absurd (not-now one (good.owners.owned one)
              (sym (own_other one apart_first) ∙ (is ∙ own_here other second)))
          | inr apart_second ↦
              good.owners.differ one other
              (sym (own_other one apart_first) ∙ (is ∙ own_other other apart_second))
              (λ none. real (own_other one apart_first ∙ none))
        ]
      ]

      over_then : (stamp : ℕ) → IsOver build stand stamp → IsOver build_then stand_then stamp
      over_then stamp over = record {
        later = over.later;
        within = let less = over.within in omega (arith, less, later);
        shut = λ n is. elim (cases_eq n node) [
          | inl same ↦
              let less = over.within in let now : time ≡ stamp = sym (own_here n same) ∙ is in
              absurd (omega (arith, less, later, now))
          | inr other ↦ over.shut n (sym (own_other n other) ∙ is)
        ];
      }

      mine : NodeOf node (done ++ item ∷ []) build_then stand.children
      mine =
          let zero_less : 0 < time = let less = later in omega (arith, less) in
          let job = headed meaning.next work tasks node time path bytes done build stand.children zero_less makes.2.0 in
          record {
            job = job;
            child = λ one has here.
                let undecided = (job.opened refl).0 in
                let clash : Some Undecided ≡ Some Open = sym undecided ∙ has.0 in absurd cc;
          }

      at : (n : ℕ) → (n ≡ node) ⊎ (n ≡ node → ⊥) → NodeOf n (done ++ item ∷ []) build_then stand.children
      at n (inl same) = subst (λ k. NodeOf k (done ++ item ∷ []) build_then stand.children) (sym same) mine
      at n (inr other) =
          node-idle n done build stand item stand.children good
          (idle-head meaning.next work tasks n node time path bytes build stand.children other)

  -- a whole build

  module _ (total : List Item) (apart : IsApart work tasks total) where
    step-apart : (ticket owner time : ℕ) (deed : Deed) → Contains total (steps ticket owner deed time)
        → (target : List ℕ) → LeavesAlone (meta_path target) (effects (world.Step ticket owner deed time))
    step-apart ticket owner time deed has target =
        step-leaves time (meta_path target) deed (apart.steps_apart ticket owner time deed target has)

    good-change : (node : ℕ) (change : Change) (rest done : List Item) (build : Build) (stand : Stand)
        → total ≡ done ++ changes node change ∷ rest → Good done build stand
        → Makes work tasks build (changes node change ∷ [])
        → MayHappen meaning stand (happened (changes node change))
        → Good (done ++ changes node change ∷ []) (build_after work tasks build (changes node change))
        (stand_after stand (happened (changes node change)))
    good-change node (gone path time) rest done build stand cut good makes may =
        good-gone node time path done build stand good makes may
    good-change node (head path bytes time) rest done build stand cut good makes may =
        good-head node time path bytes done build stand good makes may
    good-change node (whole path bytes time) rest done build stand cut good makes may =
        good-whole total rest apart node time path bytes done build stand cut good makes may
    good-change node (cut_head path part time) rest done build stand cut good makes may =
        good-cut_head node time path part done build stand good makes may
    good-change node (cut_whole path part time) rest done build stand cut good makes may =
        good-cut_whole total rest apart node time path part done build stand cut good makes may

    good-item : (item : Item) (rest done : List Item) (build : Build) (stand : Stand)
        → total ≡ done ++ item ∷ rest → Good done build stand → Makes work tasks build (item ∷ [])
        → MayHappen meaning stand (happened item) → Fits meaning stand item → NoneLeft (item ∷ [])
        → Good (done ++ item ∷ []) (build_after work tasks build item) (stand_after stand (happened item))
    good-item (looks node seen) rest done build stand cut good makes may fits none =
        good-looks node seen done build stand good makes may fits
    good-item (keeps node) rest done build stand cut good makes may fits none =
        good-keeps node done build stand good makes
    good-item (refuses node number what) rest done build stand cut good makes may fits none =
        good-refuses node number what done build stand good makes
    good-item (starts node number ticket owner cmd) rest done build stand cut good makes may fits none =
        good-starts node number ticket owner cmd done build stand good makes may
    good-item (passes node number) rest done build stand cut good makes may fits none =
        good-passes node number done build stand good makes
    good-item waits rest done build stand cut good makes may fits none =
        good-waits done build stand good makes
    good-item (steps ticket owner deed time) rest done build stand cut good makes may fits none =
        let item = steps ticket owner deed time in
        good-steps ticket owner time deed done build stand
        (step-apart ticket owner time deed
        (subst (λ l. Contains l item) (sym cut)
        (contains-mid done (item ∷ rest) item (contains-here item rest)))) good makes may
    good-item (ends node number owner one) rest done build stand cut good makes may fits none =
        good-ends node number owner one done build stand good makes may fits
    good-item (changes node change) rest done build stand cut good makes may fits none =
        good-change node change rest done build stand cut good makes may
    good-item (leaves ticket owner) rest done build stand cut good makes may fits none = absurd none

    record Reached (done : List Item) : Type 0 where
      build : Build
      stand : Stand
      good : Good done build stand

    reach : (tail items done : List Item) (build : Build) (stand : Stand)
        → total ≡ done ++ (items ++ tail) → Good done build stand → Makes work tasks build items
        → MayHappen meaning stand (happened_all items) → FitsAll meaning stand items → NoneLeft items
        → Reached (done ++ items)
    reach tail [] done build stand cut good makes may fits none =
        subst Reached (sym (append-nil done)) (record { build = build; stand = stand; good = good })
    reach tail (item ∷ items) done build stand cut good makes may fits none =
        let parts = MayAll-parts meaning stand (happened item) (happened_all items) may in
        let lefts = none-first item items none in
        let next = good-item item (items ++ tail) done build stand cut good (makes.0, makes.1, makes.2, tt)
        parts.0 fits.0 lefts.0 in
        subst Reached (append_assoc done (item ∷ []) items)
        (reach tail items (done ++ item ∷ []) (build_after work tasks build item)
        (stand_after stand (happened item)) (cut ∙ sym (append_assoc done (item ∷ []) (items ++ tail))) next
        makes.3 parts.1 fits.1 lefts.1)

    -- when children are given up

    -- no child of the job runs
    abbrev HasQuit : List Child → ℕ → Type 0
    HasQuit children stamp = (one : Child) → Contains children one → one.owner ≡ stamp → ⊥

    quit-over : (done : List Item) (build : Build) (stand : Stand) (stamp : ℕ) → Good done build stand
        → IsOver build stand stamp → HasQuit stand.children stamp
    quit-over done build stand stamp good over one has owned =
        let once = subst (λ (s : Stand). Once s.children) good.past.stand_at
        (once-all meaning entry (happened_all done) good.past.happens (subst Once (sym idle) tt)) in
        let found = (together done build stand good.past).node one has in
        let mine = (good.nodes found.0).child one found.1
        (ap (child_in stand.children) found.2 ∙ once-found stand.children one once has) in
        (over.shut found.0 (sym mine ∙ owned)).over found.1.0

    abbrev StaysTrue : List Item → Type 0
    StaysTrue items =
        (events : List Happening) (stand : Stand)
        → ((item : Item) → Contains items item → Contains total item)
        → MayHappen meaning stand (happened_all items)
        → AreTrue meaning.next events stand.files (HasQuit stand.children)
        → AreTrue meaning.next (events ++ happened_all items)
        (stand_after stand (happened_all items)).files
        (HasQuit (stand_after stand (happened_all items)).children)

    stays-none : StaysTrue []
    stays-none events stand within may truth =
        subst (λ e. AreTrue meaning.next e stand.files (HasQuit stand.children)) (sym (append-nil events)) truth

    stays-event : (item : Item) (items : List Item) (event : Happening) (events : List Happening) (stand : Stand)
        → happened item ≡ event ∷ [] → StaysTrue items
        → ((one : Item) → Contains (item ∷ items) one → Contains total one)
        → MayHappen meaning stand (event ∷ happened_all items)
        → AreTrue meaning.next (events ++ event ∷ []) (stand_next stand event).files
        (HasQuit (stand_next stand event).children)
        → AreTrue meaning.next (events ++ (event ∷ happened_all items))
        (stand_after stand (event ∷ happened_all items)).files
        (HasQuit (stand_after stand (event ∷ happened_all items)).children)
    stays-event item items event events stand is stays within may truth =
        subst (λ e. AreTrue meaning.next e (stand_after stand (event ∷ happened_all items)).files
        (HasQuit (stand_after stand (event ∷ happened_all items)).children))
        (append_assoc events (event ∷ []) (happened_all items))
        (stays (events ++ event ∷ []) (stand_next stand event)
        (λ one has. within one (contains-more item items one has)) may.1 truth)

    stays-leave : (ticket owner : ℕ) (items : List Item) → StaysTrue items
        → StaysTrue (leaves ticket owner ∷ items)
    stays-leave ticket owner items stays events stand within may truth =
        let event = world.Left ticket owner in
        stays-event (leaves ticket owner) items event events stand refl stays within may
        (true-same meaning.next events stand.files (HasQuit stand.children)
        (HasQuit (stand_next stand event).children) event (λ target. tt)
        (λ stamp quit. ((λ one has. quit one (contains-without ticket stand.children one has)), refl)) truth)

    stays-step : (ticket owner : ℕ) (deed : Deed) (time : ℕ) (items : List Item) → StaysTrue items
        → StaysTrue (steps ticket owner deed time ∷ items)
    stays-step ticket owner deed time items stays events stand within may truth =
        let event = world.Step ticket owner deed time in
        let item = steps ticket owner deed time in
        let step = step-child meaning.next (contents stand.files) owner deed
        (child_in stand.children ticket) may.0.1 in
        stays-event item items event events stand refl stays within may
        (true-same meaning.next events stand.files (HasQuit stand.children)
        (HasQuit (stand_next stand event).children) event
        (step-apart ticket owner time deed (within item (contains-here item items)))
        (λ stamp quit. (
          (λ one has is.
              let before = owner-stepped ticket deed stand.children one has in
              quit before.0 before.1 (before.2 ∙ is)),
          other-none owner stamp _
              (λ same. quit step.0 (child_in-contains stand.children ticket step.0 step.1)
              (step.2.owned ∙ same)),
        )) truth)

    stays-last : (left late : List Item) → AreLeaveItems left → AreStepItems late → StaysTrue (left ++ late)
    stays-last left late left_are late_are =
        on_leaves (λ items. StaysTrue (items ++ late))
        (on_steps StaysTrue stays-none stays-step late late_are)
        (λ ticket owner items more. stays-leave ticket owner (items ++ late) more) left left_are

pub makes-first : (work : Work) (tasks : run.Tasks) (build : Build) (items more : List Item)
    → Makes work tasks build (items ++ more) → Makes work tasks build items
makes-first work tasks build [] more makes = tt
makes-first work tasks build (item ∷ items) more makes =
    (makes.0, makes.1, makes.2, makes-first work tasks (build_after work tasks build item) items more makes.3)

pub fits-first : (meaning : Meaning) (stand : Stand) (items more : List Item) → FitsAll meaning stand (items ++ more)
    → FitsAll meaning stand items
fits-first meaning stand [] more fits = tt
fits-first meaning stand (item ∷ items) more fits =
    (fits.0, fits-first meaning (stand_after stand (happened item)) items more fits.1)

none-open : (before : List (List ℕ)) (node : ℕ)
    → slice_get (map (λ one. Undecided) before) node ≡ Some Open → ⊥
none-open [] node is = cc
none-open (one ∷ before) zero is = cc
none-open (one ∷ before) (suc node) is = none-open before node is

-- the beginning of a build
good-first : (meaning : Meaning) (work : Work) (tasks : run.Tasks) (old : History)
    (none : (state_of old).children ≡ []) → world_lawful.IsLawful meaning old → IsTrueHistory meaning.next old
    → Good meaning work tasks (state_of old) none old.events [] (first_build work) (state_of old)
good-first meaning work tasks old none lawful truth = record {
  past = record { at = refl; stand_at = refl; makes = tt; happens = tt; fits = tt; none = tt };
  steady = tt;
  free_due = tt;
  owners = record { owned = λ node. inl refl; differ = λ node other is real. absurd (real refl) };
  nodes = λ node. record {
    job = record {
      opened = λ due. absurd cc;
      between = λ number meta due. absurd cc;
      inside = λ child meta has here. absurd (none-open (rules_of work).before node has.0);
      over = λ due. absurd (free-not node due);
    };
    child = λ one has here. absurd (none-open (rules_of work).before node has.0);
  };
  truth = λ meta is stands.
      let told = truth meta is stands in
      let within = stamp-between meaning (first_state old.base) told.before
      (told.during ++ world.Put (meta_path meta.target) (meta_text meta) told.time ∷ told.since)
      (meta_path meta.target) told.first meta.stamp.0
      (subst (MayHappen meaning (first_state old.base)) told.all lawful.events) in
      let last : meta.stamp.0 ≤ (state_of old).stamped =
      subst (λ events. meta.stamp.0 ≤ (stand_after (first_state old.base) events).stamped) (sym told.all)
      within.1 in
      let first = within.0 in
      let later : 0 < meta.stamp.0 = omega (arith, first) in (
        subst (IsTrue meaning.next meta) (sym (append-nil old.events)) told,
        record {
          later = later;
          within = last;
          shut = λ node zero_is. absurd (omega (arith, later, zero_is));
        },
      );
}

pub meta_files_true : MetaFilesStayTrue
meta_files_true meaning work tasks items old new lawful none truth makes happens last apart =
    λ meta is stands.
    let entry = state_of old in
    let tail = last.left ++ last.late in
    let made = subst (Makes work tasks (first_build work)) last.are makes in
    let may = subst (MayHappen meaning entry)
    (ap happened_all last.are ∙ happened_all-append last.front tail) happens.lawful in
    let parts = MayAll-parts meaning entry (happened_all last.front) (happened_all tail) may in
    let fits = subst (FitsAll meaning entry) last.are happens.fits in
    let first = good-first meaning work tasks old none lawful truth in
    let reached = reach meaning work tasks entry none old.events items apart tail last.front []
    (first_build work) entry last.are first
    (makes-first work tasks (first_build work) last.front tail made) parts.0
    (fits-first meaning entry last.front tail fits) last.none in
    let stand_at = reached.good.past.stand_at in
    let late = stays-last meaning work tasks entry none old.events items apart last.left last.late
    last.left_are last.late_are (old.events ++ happened_all last.front) reached.stand
    (λ item has. subst (λ l. Contains l item) (sym last.are) (contains-mid last.front tail item has))
    (subst (λ s. MayHappen meaning s (happened_all tail)) stand_at parts.1)
    (λ one one_is one_stands.
    let was = reached.good.truth one one_is one_stands in (
      was.0,
      quit-over meaning work tasks entry none old.events items apart last.front reached.build
          reached.stand one.stamp.0 reached.good was.1,
    )) in
    let stand_is : state_of new ≡ stand_after reached.stand (happened_all tail) =
    state_of-happened meaning items old new happens
    ∙ (ap (λ l. stand_after entry (happened_all l)) last.are
    ∙ (ap (stand_after entry) (happened_all-append last.front tail)
    ∙ (after_all-append entry (happened_all last.front) (happened_all tail)
    ∙ ap (λ s. stand_after s (happened_all tail)) stand_at))) in
    let events_are : (old.events ++ happened_all last.front) ++ happened_all tail ≡ new.events =
    append_assoc old.events (happened_all last.front) (happened_all tail)
    ∙ (ap (λ l. old.events ++ l)
    (sym (ap happened_all last.are ∙ happened_all-append last.front tail)) ∙ sym happens.events) in
    subst (IsTrue meaning.next meta) events_are
    (late meta is
    (subst (λ (s : Stand). contents s.files (meta_path meta.target) ≡ Some (meta_text meta)) stand_is stands)).0
