-- Dry runs leave meta files true.
use Rattle.std.proofs.Common.{◌≡◌, ◌≢◌, ◌∙◌, ◌⊎◌, ℕ, ◌==◌, ◌<◌, Bool, true, false, List, [], ◌∷◌, ◌++◌, Option, Some, None, if◌then◌else◌}
use Rattle.std.proofs.Common.{inl, inr, refl, sym, ap, subst, append_assoc, arith, ne_eqb}
use Rattle.std.proofs.lemmas.List.{append-nil}
use Rattle.std.specs.List.{AllByRecursion}
use Rattle.mk_meta.specs.TrueHistory.{IsTrue, IsTrueHistory, JobEvent, LeavesAlone, if_same, job_event, meta_path}
use Rattle.mk_meta.specs.declared.meta.Meta.{Meta}
use Rattle.mk_trace.proofs.AlongLemmas.{OnlyAsked, all-first, cancel-front, questions-children, same-history}
use Rattle.mk_trace.proofs.QuestionLemmas.{questions-keep-truth}
use Rattle.mk_trace.proofs.TrueBuildLemmas.{Longer, parts}
use Rattle.mk_trace.proofs.TrueChildren.{step-leaves}
use Rattle.mk_trace.proofs.TrueTexts.{AreTrue, true-same}
use Rattle.mk_trace.specs.Items.{looks, keeps, refuses, starts, passes, waits, steps, ends, changes, leaves, Happened, happened_all, path_of}
use Rattle.mk_trace.specs.Runs.{Tasks}
use Rattle.mk_trace.specs.TrueBuilds.{IsQuestion, LeavesFiles, longer}
use Rattle.mk_plan.specs.Deciding.{Rules}
use Rattle.mk_world.proofs.CallLemmas.{MayAll-parts, after_all-append}
use Rattle.mk_world.proofs.LawLemmas.{runs_stay_lawful}
use Rattle.mk_world.specs.History.{State, MayAll, MayEnd, MayStep, after, after_all, child_in, contents, effects, first_state, state_of, stepped, without_child}
use Rattle.mk_world.specs.Lawful.{IsLawful}
use Rattle.mk_world.specs.Talks.{Meaning}
use Rattle.mk_world.specs.declared.history.Child.{Child}
use Rattle.mk_world.specs.declared.history.Happening.{Happening}
use Rattle.mk_world.specs.declared.history.Happening.TheVariants as world
use Rattle.mk_world.specs.declared.history.History.{History}
use Rattle.mk_world.specs.declared.step.Deed.{Deed}
use Rattle.mk_dry.specs.Items.{DryItem, does, shows, announces, in_build_all}
use Rattle.mk_dry.specs.Runs.{Dry, Makes, dry_after}
use Rattle.mk_dry.specs.TrueRuns.{DryRunsStayTrue, LeavesMetaFiles, StaysTrue}

-- what a dry run leaves in a history: looks, and children that are those of no job
abbrev IsOfNoJob : Happening → Type 0
IsOfNoJob (world.Look path) = Unit {0}
IsOfNoJob (world.Start ticket owner cmd) = owner ≡ 0
IsOfNoJob (world.Step ticket owner deed time) = owner ≡ 0
IsOfNoJob (world.End ticket owner) = owner ≡ 0
IsOfNoJob (world.Left ticket owner) = Unit {0}
IsOfNoJob (world.Edit path bytes time) = ⊥
IsOfNoJob (world.Stamp path bytes time) = ⊥
IsOfNoJob (world.Put path bytes time) = ⊥
IsOfNoJob (world.Gone path time) = ⊥
IsOfNoJob (world.Ask cmd asked) = ⊥

-- no child has an owner
abbrev AreFree : List Child → Type 0
AreFree = AllByRecursion (λ child. child.owner ≡ 0)

free-found : (children : List Child) (ticket : ℕ) (child : Child) → AreFree children
    → child_in children ticket ≡ Some child → child.owner ≡ 0
free-found [] ticket child free is = cc
free-found (first ∷ children) ticket child free is =
    by (first.ticket == ticket) refl (free-found children ticket child free.1)
  where
    by : (same : Bool) → (first.ticket == ticket) ≡ same
        → (child_in children ticket ≡ Some child → child.owner ≡ 0) → child.owner ≡ 0
    by true here more =
        let one : Some first ≡ Some child = subst (λ b. (if b then Some first else child_in children ticket) ≡ Some child) here is in
        let same : first ≡ child = cc in
        subst (λ (c : Child). c.owner ≡ 0) same free.0
    by false other more =
        more
        (subst (λ b. (if b then Some first else child_in children ticket) ≡ Some child) other is)

free-more : (children : List Child) (one : Child) → AreFree children → one.owner ≡ 0
    → AreFree (children ++ one ∷ [])
free-more [] one free is = (is, tt)
free-more (first ∷ children) one free is = (free.0, free-more children one free.1 is)

free-stepped : (ticket : ℕ) (deed : Deed) (children : List Child) → AreFree children
    → AreFree (stepped ticket deed children)
free-stepped ticket deed [] free = tt
free-stepped ticket deed (child ∷ children) free =
    by (child.ticket == ticket) (free-stepped ticket deed children free.1)
  where
    by : (same : Bool) → AreFree (stepped ticket deed children)
        → AreFree (if same then record child { deeds = child.deeds ++ deed ∷ [] } ∷ children
        else child ∷ stepped ticket deed children)
    by true more = (free.0, free.1)
    by false more = (free.0, more)

free-without : (ticket : ℕ) (children : List Child) → AreFree children → AreFree (without_child ticket children)
free-without ticket [] free = tt
free-without ticket (child ∷ children) free =
    by (child.ticket == ticket) (free-without ticket children free.1)
  where
    by : (same : Bool) → AreFree (without_child ticket children)
        → AreFree (if same then children else child ∷ without_child ticket children)
    by true more = free.1
    by false more = (free.0, more)

-- an event of a dry run, behind which no child has an owner
abbrev GoesFree : State → Happening → Type 0
GoesFree state event = IsOfNoJob event × AreFree (after state event).children

step-free : (meaning : Meaning) (state : State) (ticket owner time : ℕ) (deed : Deed) → AreFree state.children
    → MayAll meaning state (world.Step ticket owner deed time ∷ [])
    → GoesFree state (world.Step ticket owner deed time)
step-free meaning state ticket owner time deed free may = by (child_in state.children ticket) refl
  where
    by : (found : Option Child) → child_in state.children ticket ≡ found
        → GoesFree state (world.Step ticket owner deed time)
    by None is = absurd (subst (MayStep meaning.next (contents state.files) owner deed) is may.0.1)
    by (Some child) is =
        let owned : child.owner ≡ owner =
        (subst (MayStep meaning.next (contents state.files) owner deed) is may.0.1).owned in (
          sym owned ∙ free-found state.children ticket child free is,
          free-stepped ticket deed state.children free,
        )

end-free : (meaning : Meaning) (state : State) (ticket owner : ℕ) → AreFree state.children
    → MayAll meaning state (world.End ticket owner ∷ []) → GoesFree state (world.End ticket owner)
end-free meaning state ticket owner free may = by (child_in state.children ticket) refl
  where
    by : (found : Option Child) → child_in state.children ticket ≡ found
        → GoesFree state (world.End ticket owner)
    by None is = absurd (subst (MayEnd meaning.next owner) is may.0.1)
    by (Some child) is =
        let owned : child.owner ≡ owner = (subst (MayEnd meaning.next owner) is may.0.1).0 in (
          sym owned ∙ free-found state.children ticket child free is,
          free-without ticket state.children free,
        )

first-may : (meaning : Meaning) (state : State) (event : Happening) (more : List Happening)
    → MayAll meaning state (event ∷ more) → MayAll meaning state (event ∷ [])
first-may meaning state event more may = (may.0, tt)

-- the events of a dry run are those of no job
items-free : (meaning : Meaning) (rules : Rules) (tasks : Tasks) (dry : Dry) (state : State)
    (items : List DryItem) → AreFree state.children → Makes rules tasks dry items
    → MayAll meaning state (happened_all (in_build_all items))
    → AllByRecursion IsOfNoJob (happened_all (in_build_all items))
items-free meaning rules tasks dry state [] free makes may = tt
items-free meaning rules tasks dry state (shows node number ∷ items) free makes may =
    items-free meaning rules tasks (dry_after rules tasks dry (shows node number)) state items free makes.2 may
items-free meaning rules tasks dry state (announces node number ∷ items) free makes may =
    items-free meaning rules tasks (dry_after rules tasks dry (announces node number)) state items free makes.2 may
items-free meaning rules tasks dry state (does (looks node seen) ∷ items) free makes may = (
  tt,
  items-free meaning rules tasks (dry_after rules tasks dry (does (looks node seen)))
      (after state (world.Look (path_of seen))) items free makes.2 may.1,
)
items-free meaning rules tasks dry state (does (keeps node) ∷ items) free makes may =
    items-free meaning rules tasks (dry_after rules tasks dry (does (keeps node))) state items free makes.2 may
items-free meaning rules tasks dry state (does (refuses node number what) ∷ items) free makes may =
    items-free meaning rules tasks (dry_after rules tasks dry (does (refuses node number what))) state items free
    makes.2 may
items-free meaning rules tasks dry state (does (starts node number ticket owner cmd) ∷ items) free makes may =
    let none : owner ≡ 0 = makes.1.2 in (
      none,
      items-free meaning rules tasks (dry_after rules tasks dry (does (starts node number ticket owner cmd)))
          (after state (world.Start ticket owner cmd)) items
          (free-more state.children (record { ticket = ticket; owner = owner; cmd = cmd; deeds = [] }) free none)
          makes.2 may.1,
    )
items-free meaning rules tasks dry state (does (passes node number) ∷ items) free makes may =
    absurd makes.1
items-free meaning rules tasks dry state (does waits ∷ items) free makes may =
    items-free meaning rules tasks (dry_after rules tasks dry (does waits)) state items free makes.2 may
items-free meaning rules tasks dry state (does (steps ticket owner deed time) ∷ items) free makes may =
    let goes = step-free meaning state ticket owner time deed free (first-may meaning state (world.Step ticket owner deed time) _ may) in (
      goes.0,
      items-free meaning rules tasks (dry_after rules tasks dry (does (steps ticket owner deed time)))
          (after state (world.Step ticket owner deed time)) items goes.1 makes.2 may.1,
    )
items-free meaning rules tasks dry state (does (ends node number owner ended) ∷ items) free makes may =
    let goes = end-free meaning state ended.ticket.0 owner free (first-may meaning state (world.End ended.ticket.0 owner) _ may) in (
      goes.0,
      items-free meaning rules tasks (dry_after rules tasks dry (does (ends node number owner ended)))
          (after state (world.End ended.ticket.0 owner)) items goes.1 makes.2 may.1,
    )
items-free meaning rules tasks dry state (does (changes node change) ∷ items) free makes may =
    absurd makes.1
items-free meaning rules tasks dry state (does (leaves ticket owner) ∷ items) free makes may = (
  tt,
  items-free meaning rules tasks (dry_after rules tasks dry (does (leaves ticket owner)))
      (after state (world.Left ticket owner)) items (free-without ticket state.children free) makes.2 may.1,
)

-- one such event leaves meta files true

event-leaves : (event : Happening) → IsOfNoJob event → LeavesMetaFiles event
    → (target : List ℕ) → LeavesAlone (meta_path target) (effects event)
event-leaves (world.Look path) is leave target = tt
event-leaves (world.Start ticket owner cmd) is leave target = tt
event-leaves (world.Step ticket owner deed time) is leave target =
    step-leaves time (meta_path target) deed (leave target)
event-leaves (world.End ticket owner) is leave target = tt
event-leaves (world.Left ticket owner) is leave target = tt
event-leaves (world.Edit path bytes time) is leave target = absurd is
event-leaves (world.Stamp path bytes time) is leave target = absurd is
event-leaves (world.Put path bytes time) is leave target = absurd is
event-leaves (world.Gone path time) is leave target = absurd is
event-leaves (world.Ask cmd asked) is leave target = absurd is

not-stamp : (owner stamp : ℕ) (event : JobEvent) → owner ≡ 0 → 0 < stamp
    → if_same (owner == stamp) event ≡ []
not-stamp owner stamp event none later =
    let apart : owner ≢ stamp = omega (arith, none, later) in
    ap (λ same. if_same same event) (ne_eqb owner stamp apart)

event-no_job : (stamp : ℕ) (event : Happening) → 0 < stamp → IsOfNoJob event → job_event stamp event ≡ []
event-no_job stamp (world.Look path) later is = refl
event-no_job stamp (world.Start ticket owner cmd) later is = not-stamp owner stamp _ is later
event-no_job stamp (world.Step ticket owner deed time) later is = not-stamp owner stamp _ is later
event-no_job stamp (world.End ticket owner) later is = not-stamp owner stamp _ is later
event-no_job stamp (world.Left ticket owner) later is = refl
event-no_job stamp (world.Edit path bytes time) later is = absurd is
event-no_job stamp (world.Stamp path bytes time) later is = absurd is
event-no_job stamp (world.Put path bytes time) later is = absurd is
event-no_job stamp (world.Gone path time) later is = absurd is
event-no_job stamp (world.Ask cmd asked) later is = absurd is

-- meta files are true, and their stamps are later than 0
abbrev AreTrueSince : Meaning → History → Type 0
AreTrueSince meaning old = AreTrue meaning.next old.events (state_of old).files (λ stamp. 0 < stamp)

stamp-later : (meaning : Meaning) (old : History) (meta : Meta) → IsLawful meaning old
    → IsTrue meaning.next meta old.events → 0 < meta.stamp.0
stamp-later meaning old meta lawful is =
    let parts = MayAll-parts meaning (first_state old.base) is.before _
    (subst (MayAll meaning (first_state old.base)) is.all lawful.events) in
    let rises : (after_all (first_state old.base) is.before).stamped < meta.stamp.0 = parts.1.0.1 in
    omega (arith, rises)

more-true : (meaning : Meaning) (old : History) (more : List Happening) → AreTrueSince meaning old
    → AllByRecursion IsOfNoJob more → AllByRecursion LeavesMetaFiles more
    → AreTrueSince meaning (longer old more)
more-true meaning old [] are none leave =
    subst (λ events. AreTrueSince meaning (record { base = old.base; events = events }))
    (sym (append-nil old.events)) are
more-true meaning old (event ∷ more) are none leave =
    let state_is : state_of (longer old (event ∷ [])) ≡ after (state_of old) event =
    after_all-append (first_state old.base) old.events (event ∷ []) in
    let one : AreTrueSince meaning (longer old (event ∷ [])) =
    subst (λ (s : State). AreTrue meaning.next (old.events ++ event ∷ []) s.files (λ stamp. 0 < stamp)) (sym state_is)
    (true-same meaning.next old.events (state_of old).files (λ stamp. 0 < stamp) (λ stamp. 0 < stamp) event
    (event-leaves event none.0 leave.0) (λ stamp later. (later, event-no_job stamp event later none.0)) are) in
    subst (λ events. AreTrueSince meaning (record { base = old.base; events = events }))
    (append_assoc old.events (event ∷ []) more)
    (more-true meaning (longer old (event ∷ [])) more one none.1 leave.1)

-- Meta files stay true at every moment of a dry run.
pub dry-runs-stay-true : DryRunsStayTrue
dry-runs-stay-true meaning work tasks items old new makes happened =
    λ lawful idle truth so_far later are leave.
    let free : AreFree (state_of old).children = subst AreFree (sym idle) tt in
    let all = items-free meaning _ tasks _ (state_of old) items free makes happened.lawful in
    let none = all-first IsOfNoJob so_far later (subst (AllByRecursion IsOfNoJob) are all) in
    let since : AreTrueSince meaning old =
    λ meta is stands. (truth meta is stands, stamp-later meaning old meta lawful (truth meta is stands)) in
    λ meta is stands. (more-true meaning old so_far since none leave meta is stands).0

-- And so they do in a dry run that comes behind questions, as far as no command that make asks changes a file.
pub dry-true : (meaning : Meaning) (items : List DryItem) (old planned new : History)
    → OnlyAsked meaning old planned → Happened meaning (in_build_all items) planned new
    → StaysTrue meaning items planned → IsLawful meaning old → (state_of old).children ≡ []
    → IsTrueHistory meaning.next old → (so_far later : List Happening)
    → new.events ≡ old.events ++ (so_far ++ later) → AllByRecursion LeavesFiles so_far
    → ((done : List Happening) → longer old so_far ≡ longer planned done → AllByRecursion LeavesMetaFiles done)
    → IsTrueHistory meaning.next (longer old so_far)
dry-true meaning items old planned new asked happens stays lawful idle truth so_far later events leave apart =
    by (parts so_far later asked.run.events all parted)
  where
    all : List Happening
    all = happened_all (in_build_all items)

    parted : so_far ++ later ≡ asked.run.events ++ all
    parted =
        cancel-front old.events (so_far ++ later) (asked.run.events ++ all)
        (sym events ∙ (happens.events ∙ (ap (λ l. l ++ all) asked.run.longer
        ∙ append_assoc old.events asked.run.events all)))

    planned_idle : (state_of planned).children ≡ []
    planned_idle =
        ap (λ base. (after_all (first_state base) planned.events).children) asked.run.base
        ∙ (ap (λ l. (after_all (first_state old.base) l).children) asked.run.longer
        ∙ (ap (λ (s : State). s.children)
        (after_all-append (first_state old.base) old.events asked.run.events)
        ∙ (questions-children (state_of old) asked.run.events asked.questions ∙ idle)))

    in_run : (between : List Happening) → so_far ≡ asked.run.events ++ between
        → all ≡ between ++ later → IsTrueHistory meaning.next (longer old so_far)
    in_run between is then_is =
        let leave_asked = all-first LeavesFiles asked.run.events between
        (subst (AllByRecursion LeavesFiles) is leave) in
        let planned_is : longer old asked.run.events ≡ planned =
        same-history (longer old asked.run.events) planned (sym asked.run.base) (sym asked.run.longer) in
        let planned_true = subst (IsTrueHistory meaning.next) planned_is
        (questions-keep-truth meaning old asked.run.events asked.questions leave_asked truth) in
        let here : longer old so_far ≡ longer planned between =
        same-history (longer old so_far) (longer planned between) (sym asked.run.base)
        (ap (λ l. old.events ++ l) is
        ∙ (sym (append_assoc old.events asked.run.events between)
        ∙ ap (λ l. l ++ between) (sym asked.run.longer))) in
        subst (IsTrueHistory meaning.next) (sym here)
        (stays (runs_stay_lawful meaning old planned asked.run lawful) planned_idle planned_true between later
        then_is (apart between here))

    by : Longer so_far asked.run.events later all ⊎ Longer asked.run.events so_far all later
        → IsTrueHistory meaning.next (longer old so_far)
    by (inl running) = in_run running.between running.is running.then_is
    by (inr asking) =
        questions-keep-truth meaning old so_far
        (all-first IsQuestion so_far asking.between
        (subst (AllByRecursion IsQuestion) asking.is asked.questions)) leave truth
