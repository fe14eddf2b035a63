-- Whose the children of a build are, and that each job is opened once.
use Rattle.std.proofs.Common.{◌≡◌, ◌≢◌, ◌∙◌, ◌⊎◌, ℕ, ◌<◌, ◌≤◌, ◌==◌, ◌&&◌, ◌||◌, nat_le, List, [], ◌∷◌, ◌++◌, length, slice_get, Some, Bool, true, false, if◌then◌else◌}
use Rattle.std.proofs.Common.{inl, inr, refl, sym, ap, subst, arith, eq-eqb, eqb-true, ne_eqb}
use Rattle.std.proofs.lemmas.Bool.{cases_eq, cond_both}
use Rattle.std.specs.List.{AllByRecursion}
use Rattle.mk_clean.specs.Turns as turn
use Rattle.mk_clean.specs.Turns.{Turn}
use Rattle.mk_decision.specs.Decisions.{Work, IsBegun}
use Rattle.mk_headline.proofs.DecideLemmas.{set-back, ended-back, opening-begins}
use Rattle.mk_headline.proofs.GoodLemmas.{Good, begun-has}
use Rattle.mk_headline.proofs.LateLemmas.{IsLate, without-back}
use Rattle.mk_headline.proofs.PastLemmas.{together}
use Rattle.mk_headline.specs.Plans.{has_job}
use Rattle.mk_headline.specs.Premises.{IsWellMade}
use Rattle.mk_plan.specs.Deciding.{is_stopped}
use Rattle.mk_plan.specs.Plans.{node_at}
use Rattle.mk_plan.specs.declared.plan.NodeState.TheVariants.{Undecided, Open, Settled, Failed}
use Rattle.mk_trace.proofs.BegunLemmas.{may-undecided}
use Rattle.mk_trace.proofs.TrueChildren.{child_in-contains, step-child, end-child}
use Rattle.mk_trace.proofs.TrueIdle.{idle-settled, idle-waits, idle-starts, idle-passes, idle-ends, idle-steps, idle-head}
use Rattle.mk_trace.proofs.TrueRuns.{ended-open, taken-due}
use Rattle.mk_trace.proofs.TrueStages.{Idle}
use Rattle.mk_trace.proofs.TrueTexts.{stamps-rise}
use Rattle.mk_trace.specs.Builds.{Build, Own, free, remove, begin, close, behind_look, MayLook, Makes, build_after, build_after_all, rules_of, with_collected, with_ticket}
use Rattle.mk_trace.specs.Calls.{NoneLeft}
use Rattle.mk_trace.specs.Collected.{begun as opens_at, has_meta, more_records, with_end}
use Rattle.mk_trace.specs.declared.collected.Collected.{Collected}
use Rattle.mk_trace.specs.Items.{gone, head, whole, cut_head, cut_whole, Item, looks, keeps, refuses, starts, passes, waits, steps, ends, changes, leaves, happened, Fits}
use Rattle.mk_trace.specs.Runs as run
use Rattle.mk_trace.specs.Together.{HasChild, IsNotDue}
use Rattle.mk_world.proofs.ChildLemmas.{Once, child_in-last, child_in-other, child_in-stepped, child_in-ticket}
use Rattle.mk_world.specs.Calls.{EndsAs}
use Rattle.mk_world.specs.History.{State as Stand, MayAll as MayHappen, after_all as stand_after, child_in, contents, IsStep, stepped, without_child}
use Rattle.mk_world.specs.Talks.{Meaning}
use Rattle.mk_world.specs.declared.command.Cmd.{Cmd}
use Rattle.mk_world.specs.declared.history.Child.{Child}
use Rattle.mk_world.specs.declared.step.Deed.{Deed}
use Rattle.mk_world.specs.declared.step.Ended.{Ended}

-- when the job of a node began, which owns the job's children
abbrev pub owner_of : Build → ℕ → ℕ
owner_of build node = (build.own node).collected.owner

-- what leaves owners

with_end-owner : (collected : Collected) (number : ℕ) (one : Ended)
    → (with_end collected number one).owner ≡ collected.owner
with_end-owner collected number one =
    cond_both (collected.owner == 0) collected
    (record {
      owner = collected.owner;
      output = collected.output ++ one.output;
      records = more_records number collected.records one.records;
    }) (λ (c : Collected). c.owner ≡ collected.owner) (λ none. refl) (λ real. refl)

ticket-owner : (own : ℕ → Own) (node ticket n : ℕ)
    → (with_ticket own node ticket n).collected.owner ≡ (own n).collected.owner
ticket-owner own node ticket n = by (n == node)
  where
    by : (b : Bool) → (if b then record { ticket = ticket; collected = (own n).collected } else own n).collected.owner
        ≡ (own n).collected.owner
    by true = refl
    by false = refl

collected-owner : (own : ℕ → Own) (node number n : ℕ) (one : Ended)
    → (with_collected own node (with_end (own node).collected number one) n).collected.owner
    ≡ (own n).collected.owner
collected-owner own node number n one = elim (cases_eq n node) [
  | inl same ↦
      subst (λ k. (with_collected own node (with_end (own node).collected number one) k).collected.owner
      ≡ (own k).collected.owner) (sym same)
      (rw (eq-eqb node node refl) (with_end-owner (own node).collected number one))
  | inr other ↦ rw (ne_eqb n node other) refl
]

pub head-owner : (own : ℕ → Own) (node time n : ℕ) → n ≡ node
    → (with_collected own node (opens_at time) n).collected.owner ≡ time
head-owner own node time n same =
    subst (λ k. (with_collected own node (opens_at time) k).collected.owner ≡ time) (sym same)
    (rw (eq-eqb node node refl) refl)

head-other : (own : ℕ → Own) (node time n : ℕ) → (n ≡ node → ⊥)
    → (with_collected own node (opens_at time) n).collected.owner ≡ (own n).collected.owner
head-other own node time n other = rw (ne_eqb n node other) refl

-- a job is opened once

-- no head follows for a node whose job was opened, or that was decided
abbrev pub IsOpened : Build → ℕ → Type 0
IsOpened build node =
    (build.duty ≡ begin node) ⊎ (slice_get build.run.nodes node ≡ Some Undecided → ⊥)

undecided-back : (work : Work) (tasks : run.Tasks) (build : Build) (item : Item) (node : ℕ)
    → slice_get (build_after work tasks build item).run.nodes node ≡ Some Undecided
    → slice_get build.run.nodes node ≡ Some Undecided
undecided-back work tasks build (looks n seen) node is = is
undecided-back work tasks build (keeps n) node is =
    (set-back build.run.nodes n node Settled (λ same. absurd cc) is).1
undecided-back work tasks build (refuses n number what) node is =
    (set-back build.run.nodes n node Failed (λ same. absurd cc) is).1
undecided-back work tasks build (starts n number ticket owner cmd) node is =
    (set-back build.run.nodes n node Open (λ same. absurd cc) is).1
undecided-back work tasks build (passes n number) node is =
    let begun_run = run.start_line tasks build.run n number in
    let stops = nat_le (length (tasks n)) number || is_stopped (rules_of work) begun_run.nodes in
    (set-back build.run.nodes n node Open (λ same. absurd cc)
    (ended-back begun_run n number node false stops is)).1
undecided-back work tasks build waits node is = is
undecided-back work tasks build (steps ticket owner deed time) node is = is
undecided-back work tasks build (ends n number owner ended) node is =
    let fails = run.fails (run.line_of (tasks n) number) ended.status in
    let stops = nat_le (length (tasks n)) number || is_stopped (rules_of work) build.run.nodes in
    ended-back build.run n number node fails stops is
undecided-back work tasks build (changes n change) node is = is
undecided-back work tasks build (leaves ticket owner) node is = is

-- the node whose job was opened begins
begin-on : (work : Work) (tasks : run.Tasks) (build : Build) (item : Item) (node : ℕ)
    → Makes work tasks build (item ∷ []) → build.duty ≡ begin node
    → IsOpened (build_after work tasks build item) node
begin-on work tasks build (looks n seen) node makes is = inl (ap behind_look is)
begin-on work tasks build (keeps n) node makes is =
    let both : free ≡ begin node = sym makes.1 ∙ is in absurd cc
begin-on work tasks build (refuses n number what) node makes is =
    let both : free ≡ begin node = sym makes.1 ∙ is in absurd cc
begin-on work tasks build (starts n number ticket owner cmd) node makes is =
    inr (λ undecided.
    (set-back build.run.nodes n node Open (λ same. absurd cc) undecided).0
    (opening-begins n node ((number == 1) && has_meta work n) (sym makes.1 ∙ is)))
begin-on work tasks build (passes n number) node makes is =
    let begun_run = run.start_line tasks build.run n number in
    let stops = nat_le (length (tasks n)) number || is_stopped (rules_of work) begun_run.nodes in
    inr (λ undecided.
    (set-back build.run.nodes n node Open (λ same. absurd cc)
    (ended-back begun_run n number node false stops undecided)).0
    (opening-begins n node ((number == 1) && has_meta work n) (sym makes.1 ∙ is)))
begin-on work tasks build waits node makes is =
    let both : free ≡ begin node = sym makes.1 ∙ is in absurd cc
begin-on work tasks build (steps ticket owner deed time) node makes is = inl is
begin-on work tasks build (ends n number owner ended) node makes is =
    let both : free ≡ begin node = sym makes.1 ∙ is in absurd cc
begin-on work tasks build (changes n (gone path time)) node makes is =
    let both : remove n ≡ begin node = sym makes.1 ∙ is in absurd cc
begin-on work tasks build (changes n (head path bytes time)) node makes is =
    let both : free ≡ begin node = sym makes.1 ∙ is in absurd cc
begin-on work tasks build (changes n (whole path bytes time)) node makes is =
    let both : close n ≡ begin node = sym makes.1 ∙ is in absurd cc
begin-on work tasks build (changes n (cut_head path part time)) node makes is =
    let both : free ≡ begin node = sym makes.1 ∙ is in absurd cc
begin-on work tasks build (changes n (cut_whole path part time)) node makes is =
    let both : close n ≡ begin node = sym makes.1 ∙ is in absurd cc
begin-on work tasks build (leaves ticket owner) node makes is = inl is

opened-on : (work : Work) (tasks : run.Tasks) (build : Build) (item : Item) (node : ℕ)
    → Makes work tasks build (item ∷ []) → IsOpened build node
    → IsOpened (build_after work tasks build item) node
opened-on work tasks build item node makes (inl is) = begin-on work tasks build item node makes is
opened-on work tasks build item node makes (inr decided) =
    inr (λ undecided. decided (undecided-back work tasks build item node undecided))

-- a head is written for a node that is not decided, and where nothing else is due
head-before : (work : Work) (tasks : run.Tasks) (build : Build) (n time node : ℕ) (path bytes : List ℕ)
    → Makes work tasks build (changes n (head path bytes time) ∷ []) → IsOpened build node → n ≡ node → ⊥
head-before work tasks build n time node path bytes makes (inl is) same =
    let both : free ≡ begin node = sym makes.1 ∙ is in absurd cc
head-before work tasks build n time node path bytes makes (inr decided) same =
    decided (subst (λ k. slice_get build.run.nodes k ≡ Some Undecided) same
    (may-undecided (rules_of work) build.run.nodes n makes.2.0.may.1))

owner-on : (work : Work) (tasks : run.Tasks) (build : Build) (item : Item) (node : ℕ)
    → Makes work tasks build (item ∷ []) → IsOpened build node
    → owner_of (build_after work tasks build item) node ≡ owner_of build node
owner-on work tasks build (looks n seen) node makes opened = refl
owner-on work tasks build (keeps n) node makes opened = refl
owner-on work tasks build (refuses n number what) node makes opened = refl
owner-on work tasks build (starts n number ticket owner cmd) node makes opened =
    ticket-owner build.own n ticket node
owner-on work tasks build (passes n number) node makes opened = refl
owner-on work tasks build waits node makes opened = refl
owner-on work tasks build (steps ticket owner deed time) node makes opened = refl
owner-on work tasks build (ends n number owner ended) node makes opened =
    collected-owner build.own n number node ended
owner-on work tasks build (changes n (gone path time)) node makes opened = refl
owner-on work tasks build (changes n (head path bytes time)) node makes opened =
    head-other build.own n time node
    (λ same. head-before work tasks build n time node path bytes makes opened (sym same))
owner-on work tasks build (changes n (whole path bytes time)) node makes opened = refl
owner-on work tasks build (changes n (cut_head path part time)) node makes opened = refl
owner-on work tasks build (changes n (cut_whole path part time)) node makes opened = refl
owner-on work tasks build (leaves ticket owner) node makes opened = refl

-- So its job owns its children from then on.
pub owner-stays : (work : Work) (tasks : run.Tasks) (items : List Item) (build : Build) (node : ℕ)
    → Makes work tasks build items → IsOpened build node
    → owner_of (build_after_all work tasks build items) node ≡ owner_of build node
owner-stays work tasks [] build node makes opened = refl
owner-stays work tasks (item ∷ items) build node makes opened =
    let one : Makes work tasks build (item ∷ []) = (makes.0, makes.1, makes.2, tt) in
    owner-stays work tasks items (build_after work tasks build item) node makes.3
    (opened-on work tasks build item node one opened)
    ∙ owner-on work tasks build item node one opened

-- behind a head

-- an item in which make changes no file
abbrev pub IsNoChange : Item → Type 0
IsNoChange (looks n seen) = Unit {0}
IsNoChange (keeps n) = Unit {0}
IsNoChange (refuses n number what) = Unit {0}
IsNoChange (starts n number ticket owner cmd) = Unit {0}
IsNoChange (passes n number) = Unit {0}
IsNoChange waits = Unit {0}
IsNoChange (steps ticket owner deed time) = Unit {0}
IsNoChange (ends n number owner ended) = Unit {0}
IsNoChange (changes n change) = ⊥
IsNoChange (leaves ticket owner) = Unit {0}

-- a first line is begun by a node with commands
first-has : (work : Work) (tasks : run.Tasks) (build : Build) (n number : ℕ) (due : run.Due)
    → due ≡ run.anything → run.MayStart (rules_of work) tasks build.run n number due
    → (number ≡ 1 → IsBegun work n (build.seen n) (tasks n)) → has_job (node_at work.plan n) ≡ true
first-has work tasks build n number run.anything is may reason =
    begun-has work n (build.seen n) (tasks n) (reason may.1) may.2
first-has work tasks build n number run.child is may reason = absurd may
first-has work tasks build n number (run.line one next) is may reason = absurd cc
first-has work tasks build n number (run.close one last) is may reason = absurd may

-- Make changes no file behind a head until its node begins, and a node that begins has commands.
pub begins-job : (work : Work) (tasks : run.Tasks) (items : List Item) (build : Build) (node : ℕ)
    → Makes work tasks build items → build.duty ≡ begin node → build.run.due ≡ run.anything
    → (has_job (node_at work.plan node) ≡ true) ⊎ AllByRecursion IsNoChange items
begins-job work tasks [] build node makes is due = inr tt
begins-job work tasks (looks n seen ∷ items) build node makes is due =
    absurd (subst (λ d. MayLook work d n seen) is makes.1)
begins-job work tasks (keeps n ∷ items) build node makes is due =
    let both : free ≡ begin node = sym makes.1 ∙ is in absurd cc
begins-job work tasks (refuses n number what ∷ items) build node makes is due =
    let both : free ≡ begin node = sym makes.1 ∙ is in absurd cc
begins-job work tasks (starts n number ticket owner cmd ∷ items) build node makes is due =
    let same = opening-begins n node ((number == 1) && has_meta work n) (sym makes.1 ∙ is) in
    inl (subst (λ k. has_job (node_at work.plan k) ≡ true) (sym same)
    (first-has work tasks build n number build.run.due due makes.0.0 makes.2.0))
begins-job work tasks (passes n number ∷ items) build node makes is due =
    let same = opening-begins n node ((number == 1) && has_meta work n) (sym makes.1 ∙ is) in
    inl (subst (λ k. has_job (node_at work.plan k) ≡ true) (sym same)
    (first-has work tasks build n number build.run.due due makes.0.0 makes.2))
begins-job work tasks (waits ∷ items) build node makes is due =
    let both : free ≡ begin node = sym makes.1 ∙ is in absurd cc
begins-job work tasks (steps ticket owner deed time ∷ items) build node makes is due =
    passed (begins-job work tasks items (build_after work tasks build (steps ticket owner deed time)) node
    makes.3 is due)
  where
    passed : (has_job (node_at work.plan node) ≡ true) ⊎ AllByRecursion IsNoChange items
        → (has_job (node_at work.plan node) ≡ true)
        ⊎ AllByRecursion IsNoChange (steps ticket owner deed time ∷ items)
    passed (inl has) = inl has
    passed (inr none) = inr (tt, none)
begins-job work tasks (ends n number owner ended ∷ items) build node makes is due =
    let both : free ≡ begin node = sym makes.1 ∙ is in absurd cc
begins-job work tasks (changes n (gone path time) ∷ items) build node makes is due =
    let both : remove n ≡ begin node = sym makes.1 ∙ is in absurd cc
begins-job work tasks (changes n (head path bytes time) ∷ items) build node makes is due =
    let both : free ≡ begin node = sym makes.1 ∙ is in absurd cc
begins-job work tasks (changes n (whole path bytes time) ∷ items) build node makes is due =
    let both : close n ≡ begin node = sym makes.1 ∙ is in absurd cc
begins-job work tasks (changes n (cut_head path part time) ∷ items) build node makes is due =
    let both : free ≡ begin node = sym makes.1 ∙ is in absurd cc
begins-job work tasks (changes n (cut_whole path part time) ∷ items) build node makes is due =
    let both : close n ≡ begin node = sym makes.1 ∙ is in absurd cc
begins-job work tasks (leaves ticket owner ∷ items) build node makes is due =
    passed (begins-job work tasks items (build_after work tasks build (leaves ticket owner)) node makes.3 is due)
  where
    passed : (has_job (node_at work.plan node) ≡ true) ⊎ AllByRecursion IsNoChange items
        → (has_job (node_at work.plan node) ≡ true)
        ⊎ AllByRecursion IsNoChange (leaves ticket owner ∷ items)
    passed (inl has) = inl has
    passed (inr none) = inr (tt, none)

-- no two jobs began at one time
abbrev pub DifferOwners : Build → Type 0
DifferOwners build =
    (node other : ℕ) → owner_of build node ≡ owner_of build other → owner_of build node ≢ 0
    → node ≡ other

module _ (meaning : Meaning) (work : Work) (tasks : run.Tasks) (entry : Stand)
    (idle : entry.children ≡ []) (well : IsWellMade work) where
  abbrev IsGood : List Item → Build → Stand → List Turn → turn.Build → Type 0
  IsGood = Good meaning work tasks entry idle well

  -- a child is its node's job's own
  abbrev pub OwnsChild : ℕ → Build → List Child → Type 0
  OwnsChild node build children =
      (one : Child) → HasChild build.run node → child_in children (build.own node).ticket ≡ Some one
      → one.owner ≡ owner_of build node

  pub record Owned (build : Build) (stand : Stand) : Type 0 where
    pub child : (node : ℕ) → OwnsChild node build stand.children
    pub begun : (node : ℕ) → owner_of build node ≤ stand.stamped
    pub differ : DifferOwners build

  owned-kept : (build later : Build) (stand then_stand : Stand)
      → ((node : ℕ) → owner_of later node ≡ owner_of build node) → stand.stamped ≤ then_stand.stamped
      → ((node : ℕ) → OwnsChild node later then_stand.children) → Owned build stand → Owned later then_stand
  owned-kept build later stand then_stand same rises child owned = record {
    child = child;
    begun = λ node.
        let is = same node in let less = owned.begun node in omega (arith, is, less, rises);
    differ = λ node other is real.
        owned.differ node other (sym (same node) ∙ (is ∙ same other)) (λ none. real (same node ∙ none));
  }

  -- an item of another node
  idle-child : (node : ℕ) (item : Item) (build later : Build) (stand : Stand) (others : List Child)
      → Owned build stand → Idle meaning.next work tasks node item build later stand.children others
      → OwnsChild node later others
  idle-child node item build later stand others owned rests one has here =
      let was = rests.inside one has here in
      owned.child node one was.0 was.2 ∙ sym (ap (λ (c : Collected). c.owner) rests.same)

  differs : (build : Build) (stand : Stand) (node n owner : ℕ) → Owned build stand
      → node ≢ n → owner ≡ owner_of build n
      → (stamp : ℕ) → 0 < stamp → owner_of build node ≡ stamp → owner ≢ stamp
  differs build stand node n owner owned other is_its stamp later is same =
      other (owned.differ node n (is ∙ (sym same ∙ is_its))
      (λ none. let zero_is : stamp ≡ 0 = sym is ∙ none in absurd (omega (arith, later, zero_is))))

  -- of all nodes, this one and the others
  each-child : (n : ℕ) (build : Build) (children : List Child) → OwnsChild n build children
      → ((node : ℕ) → node ≢ n → OwnsChild node build children) → (node : ℕ) → OwnsChild node build children
  each-child n build children mine others node = elim (cases_eq node n) [
    | inl same ↦ subst (λ k. OwnsChild k build children) (sym same) mine
    | inr other ↦ others node other
  ]

  owned-starts : (done : List Item) (build : Build) (stand : Stand) (turns : List Turn) (clean : turn.Build)
      (n number ticket owner : ℕ) (cmd : Cmd) → IsGood done build stand turns clean → Owned build stand
      → Makes work tasks build (starts n number ticket owner cmd ∷ [])
      → MayHappen meaning stand (happened (starts n number ticket owner cmd))
      → Owned (build_after work tasks build (starts n number ticket owner cmd))
      (stand_after stand (happened (starts n number ticket owner cmd)))
  owned-starts done build stand turns clean n number ticket owner cmd good owned makes may =
      owned-kept build later stand (stand_after stand (happened item)) (ticket-owner build.own n ticket)
      (stamps-rise meaning stand (happened item) may)
      (each-child n later (stand.children ++ new ∷ []) mine
      (λ node other.
      idle-child node item build later stand (stand.children ++ new ∷ []) owned
      (idle-starts meaning.next work tasks node n number ticket owner cmd build stand.children other makes.0.0
      (together meaning work tasks entry idle done build stand good.past)
      (differs build stand node n owner owned other makes.2.2)))) owned
    where
      item : Item
      item = starts n number ticket owner cmd

      later : Build
      later = build_after work tasks build item

      new : Child
      new = record { ticket = ticket; owner = owner; cmd = cmd; deeds = [] }

      mine : OwnsChild n later (stand.children ++ new ∷ [])
      mine one has here =
          let is : with_ticket build.own n ticket n
          ≡ record { ticket = ticket; collected = (build.own n).collected } =
          rw (eq-eqb n n refl) refl in
          let found : Some new ≡ Some one =
          sym (child_in-last stand.children new may.0.1)
          ∙ (ap (λ (o : Own). child_in (stand.children ++ new ∷ []) o.ticket) (sym is) ∙ here) in
          let same : new ≡ one = cc in
          sym (ap (λ (c : Child). c.owner) same)
          ∙ (makes.2.2 ∙ sym (ap (λ (o : Own). o.collected.owner) is))

  owned-passes : (build : Build) (stand : Stand) (n number : ℕ) → Owned build stand
      → Makes work tasks build (passes n number ∷ [])
      → Owned (build_after work tasks build (passes n number)) stand
  owned-passes build stand n number owned makes =
      owned-kept build later stand stand (λ node. refl) (omega arith)
      (each-child n later stand.children
      (λ one has here. absurd ((ended-open begun_run n number n false stops has).0 refl))
      (λ node other.
      idle-child node (passes n number) build later stand stand.children owned
      (idle-passes meaning.next work tasks node n number build stand.children other makes.0.0))) owned
    where
      later : Build
      later = build_after work tasks build (passes n number)

      begun_run : run.State
      begun_run = run.start_line tasks build.run n number

      stops : Bool
      stops = nat_le (length (tasks n)) number || is_stopped (rules_of work) begun_run.nodes

  -- the node of a child
  pub record ChildOf (build : Build) (ticket owner : ℕ) : Type 0 where
    pub node : ℕ
    pub has : HasChild build.run node
    pub mine : (build.own node).ticket ≡ ticket
    pub owned : owner ≡ owner_of build node

  child-of : (done : List Item) (build : Build) (stand : Stand) (turns : List Turn) (clean : turn.Build)
      (ticket owner : ℕ) (child : Child) → IsGood done build stand turns clean → Owned build stand
      → child_in stand.children ticket ≡ Some child → child.owner ≡ owner → ChildOf build ticket owner
  child-of done build stand turns clean ticket owner child good owned here is_its =
      let found = (together meaning work tasks entry idle done build stand good.past).node child
      (child_in-contains stand.children ticket child here) in
      let mine : (build.own found.0).ticket ≡ ticket =
      found.2 ∙ child_in-ticket ticket stand.children child here in
      record {
        node = found.0;
        has = found.1;
        mine = mine;
        owned = sym is_its ∙ owned.child found.0 child found.1 (ap (child_in stand.children) mine ∙ here);
      }

  owned-steps : (done : List Item) (build : Build) (stand : Stand) (turns : List Turn) (clean : turn.Build)
      (ticket owner time : ℕ) (deed : Deed) → IsGood done build stand turns clean → Owned build stand
      → MayHappen meaning stand (happened (steps ticket owner deed time))
      → Owned build (stand_after stand (happened (steps ticket owner deed time)))
  owned-steps done build stand turns clean ticket owner time deed good owned may =
      owned-kept build build stand (stand_after stand (happened item)) (λ node. refl)
      (stamps-rise meaning stand (happened item) may)
      (each-child whose.node build (stepped ticket deed stand.children) mine
      (λ node other.
      idle-child node item build build stand (stepped ticket deed stand.children) owned
      (idle-steps meaning.next work tasks node whose.node ticket owner time deed build stand.children other
      whose.has whose.mine (together meaning work tasks entry idle done build stand good.past)
      (differs build stand node whose.node owner owned other whose.owned)))) owned
    where
      item : Item
      item = steps ticket owner deed time

      step : (child : Child) × (child_in stand.children ticket ≡ Some child)
          × IsStep meaning.next (contents stand.files) owner deed child
      step = step-child meaning.next (contents stand.files) owner deed (child_in stand.children ticket) may.0.1

      whose : ChildOf build ticket owner
      whose = child-of done build stand turns clean ticket owner step.0 good owned step.1 step.2.owned

      mine : OwnsChild whose.node build (stepped ticket deed stand.children)
      mine one has here =
          let now : Some (record step.0 { deeds = step.0.deeds ++ deed ∷ [] }) ≡ Some one =
          sym (child_in-stepped ticket deed stand.children step.0 step.1)
          ∙ (ap (child_in (stepped ticket deed stand.children)) (sym whose.mine) ∙ here) in
          let same : record step.0 { deeds = step.0.deeds ++ deed ∷ [] } ≡ one = cc in
          sym (ap (λ (c : Child). c.owner) same) ∙ (step.2.owned ∙ whose.owned)

  owned-ends : (done : List Item) (build : Build) (stand : Stand) (turns : List Turn) (clean : turn.Build)
      (n number owner : ℕ) (ended : Ended) → IsGood done build stand turns clean → Owned build stand
      → Makes work tasks build (ends n number owner ended ∷ [])
      → MayHappen meaning stand (happened (ends n number owner ended))
      → Fits meaning stand (ends n number owner ended)
      → Owned (build_after work tasks build (ends n number owner ended))
      (stand_after stand (happened (ends n number owner ended)))
  owned-ends done build stand turns clean n number owner ended good owned makes may fits =
      owned-kept build later stand (stand_after stand (happened item))
      (λ node. collected-owner build.own n number node ended) (stamps-rise meaning stand (happened item) may)
      (each-child n later (without_child ended.ticket.0 stand.children)
      (λ one again here. absurd ((ended-open build.run n number n fails stops again).0 refl))
      (λ node other.
      idle-child node item build later stand (without_child ended.ticket.0 stand.children) owned
      (idle-ends meaning.next work tasks node n number owner ended build stand.children other due.0 has makes.2
      (together meaning work tasks entry idle done build stand good.past)
      (differs build stand node n owner owned other is_its)))) owned
    where
      item : Item
      item = ends n number owner ended

      later : Build
      later = build_after work tasks build item

      fails : Bool
      fails = run.fails (run.line_of (tasks n) number) ended.status

      stops : Bool
      stops = nat_le (length (tasks n)) number || is_stopped (rules_of work) build.run.nodes

      due : (build.run.due ≡ run.child) × (slice_get build.run.nodes n ≡ Some Open)
          × (build.run.started n ≡ number)
      due = taken-due build.run n number ended.status build.run.due good.free_due makes.0.0

      has : HasChild build.run n
      has = (due.1, subst (IsNotDue n) (sym due.0) tt)

      found : (child : Child) × (child_in stand.children ended.ticket.0 ≡ Some child)
          × (child.owner ≡ owner) × EndsAs meaning ended child
      found = end-child meaning ended owner (child_in stand.children ended.ticket.0) fits

      is_its : owner ≡ owner_of build n
      is_its = sym found.2 ∙ owned.child n found.0 has (ap (child_in stand.children) makes.2 ∙ found.1)

  -- a job is opened
  owned-head : (build : Build) (stand : Stand) (n time : ℕ) (path bytes : List ℕ) → Owned build stand
      → Makes work tasks build (changes n (head path bytes time) ∷ [])
      → MayHappen meaning stand (happened (changes n (head path bytes time)))
      → Owned (build_after work tasks build (changes n (head path bytes time)))
      (stand_after stand (happened (changes n (head path bytes time))))
  owned-head build stand n time path bytes owned makes may = record {
    child = each-child n then_build stand.children mine
        (λ node other.
        idle-child node item build then_build stand stand.children owned
        (idle-head meaning.next work tasks node n time path bytes build stand.children other));
    begun = λ node. elim (cases_eq node n) [
      | inl same ↦ let is = head-owner build.own n time node same in omega (arith, is)
      | inr other ↦
          let is = head-other build.own n time node other in
          let less = owned.begun node in omega (arith, is, less, later)
    ];
    differ = differ;
  }
    where
      item : Item
      item = changes n (head path bytes time)

      then_build : Build
      then_build = build_after work tasks build item

      later : stand.stamped < time
      later = may.0.1

      mine : OwnsChild n then_build stand.children
      mine one has here =
          let undecided = may-undecided (rules_of work) build.run.nodes n makes.2.0.may.1 in
          let clash : Some Undecided ≡ Some Open = sym undecided ∙ has.0 in absurd cc

      -- no job began so late
      not-now : (node : ℕ) → owner_of build node ≡ time → ⊥
      not-now node is = let less = owned.begun node in absurd (omega (arith, less, is, later))

      differ : DifferOwners then_build
      differ one other is real = elim (cases_eq one n) [
        | inl first ↦ elim (cases_eq other n) [
          | inl second ↦ first ∙ sym second
          | inr second ↦
              absurd (not-now other
              (sym (head-other build.own n time other second) ∙ (sym is ∙ head-owner build.own n time one first)))
        ]
        | inr first ↦ elim (cases_eq other n) [
          | inl second ↦
              absurd (not-now one
              (sym (head-other build.own n time one first) ∙ (is ∙ head-owner build.own n time other second)))
          | inr second ↦
              owned.differ one other
              (sym (head-other build.own n time one first) ∙ (is ∙ head-other build.own n time other second))
              (λ none. real (head-other build.own n time one first ∙ none))
        ]
      ]

  pub owned-next : (done : List Item) (build : Build) (stand : Stand) (turns : List Turn) (clean : turn.Build)
      (item : Item) → IsGood done build stand turns clean → Owned build stand
      → Makes work tasks build (item ∷ []) → MayHappen meaning stand (happened item)
      → Fits meaning stand item → NoneLeft (item ∷ [])
      → Owned (build_after work tasks build item) (stand_after stand (happened item))
  owned-next done build stand turns clean (looks n seen) good owned makes may fits none =
      owned-kept build (build_after work tasks build (looks n seen)) stand
      (stand_after stand (happened (looks n seen))) (λ node. refl)
      (stamps-rise meaning stand (happened (looks n seen)) may) owned.child owned
  owned-next done build stand turns clean (keeps n) good owned makes may fits none =
      owned-kept build (build_after work tasks build (keeps n)) stand stand (λ node. refl) (omega arith)
      (λ node.
      idle-child node (keeps n) build (build_after work tasks build (keeps n)) stand stand.children owned
      (idle-settled meaning.next work tasks node n (keeps n) Settled build _ _ stand.children
      (λ is. absurd cc) (λ stamp. refl) makes.0.0.0 makes.1)) owned
  owned-next done build stand turns clean (refuses n number what) good owned makes may fits none =
      let item = refuses n number what in
      owned-kept build (build_after work tasks build item) stand stand (λ node. refl) (omega arith)
      (λ node.
      idle-child node item build (build_after work tasks build item) stand stand.children owned
      (idle-settled meaning.next work tasks node n item Failed build _ _ stand.children
      (λ is. absurd cc) (λ stamp. refl) makes.0.0.0 makes.1)) owned
  owned-next done build stand turns clean (starts n number ticket owner cmd) good owned makes may fits none =
      owned-starts done build stand turns clean n number ticket owner cmd good owned makes may
  owned-next done build stand turns clean (passes n number) good owned makes may fits none =
      owned-passes build stand n number owned makes
  owned-next done build stand turns clean waits good owned makes may fits none =
      owned-kept build (build_after work tasks build waits) stand stand (λ node. refl) (omega arith)
      (λ node.
      idle-child node waits build (build_after work tasks build waits) stand stand.children owned
      (idle-waits meaning.next work tasks node build stand.children makes.0.0.0 makes.1)) owned
  owned-next done build stand turns clean (steps ticket owner deed time) good owned makes may fits none =
      owned-steps done build stand turns clean ticket owner time deed good owned may
  owned-next done build stand turns clean (ends n number owner ended) good owned makes may fits none =
      owned-ends done build stand turns clean n number owner ended good owned makes may fits
  owned-next done build stand turns clean (changes n (gone path time)) good owned makes may fits none =
      owned-kept build (build_after work tasks build (changes n (gone path time))) stand
      (stand_after stand (happened (changes n (gone path time)))) (λ node. refl)
      (stamps-rise meaning stand (happened (changes n (gone path time))) may) owned.child owned
  owned-next done build stand turns clean (changes n (head path bytes time)) good owned makes may fits none =
      owned-head build stand n time path bytes owned makes may
  owned-next done build stand turns clean (changes n (whole path bytes time)) good owned makes may fits none =
      owned-kept build (build_after work tasks build (changes n (whole path bytes time))) stand
      (stand_after stand (happened (changes n (whole path bytes time)))) (λ node. refl)
      (stamps-rise meaning stand (happened (changes n (whole path bytes time))) may) owned.child owned
  owned-next done build stand turns clean (changes n (cut_head path part time)) good owned makes may fits none =
      owned-kept build (build_after work tasks build (changes n (cut_head path part time))) stand
      (stand_after stand (happened (changes n (cut_head path part time)))) (λ node. refl)
      (stamps-rise meaning stand (happened (changes n (cut_head path part time))) may) owned.child owned
  owned-next done build stand turns clean (changes n (cut_whole path part time)) good owned makes may fits none =
      owned-kept build (build_after work tasks build (changes n (cut_whole path part time))) stand
      (stand_after stand (happened (changes n (cut_whole path part time)))) (λ node. refl)
      (stamps-rise meaning stand (happened (changes n (cut_whole path part time))) may) owned.child owned
  owned-next done build stand turns clean (leaves ticket owner) good owned makes may fits none = absurd none

  -- the child of a step
  pub step-owned : (build : Build) (stand : Stand) (ticket owner time : ℕ) (deed : Deed) (node : ℕ)
      → OwnsChild node build stand.children → MayHappen meaning stand (happened (steps ticket owner deed time))
      → HasChild build.run node → (build.own node).ticket ≡ ticket → owner ≡ owner_of build node
  step-owned build stand ticket owner time deed node owns may has mine =
      let step = step-child meaning.next (contents stand.files) owner deed (child_in stand.children ticket)
      may.0.1 in
      sym step.2.owned ∙ owns step.0 has (ap (child_in stand.children) mine ∙ step.1)

  -- the children that still run where others were given up
  pub late-owns : (build : Build) (stand : Stand) (item : Item) → IsLate item → Once stand.children
      → MayHappen meaning stand (happened item) → (node : ℕ) → OwnsChild node build stand.children
      → OwnsChild node (build_after work tasks build item) (stand_after stand (happened item)).children
  late-owns build stand (steps ticket owner deed time) is once may node owns one has here =
      by (ticket == (build.own node).ticket) refl
    where
      step : (child : Child) × (child_in stand.children ticket ≡ Some child)
          × IsStep meaning.next (contents stand.files) owner deed child
      step = step-child meaning.next (contents stand.files) owner deed (child_in stand.children ticket) may.0.1

      by : (mine : Bool) → (ticket == (build.own node).ticket) ≡ mine → one.owner ≡ owner_of build node
      by true same =
          let ticket_is = eqb-true ticket (build.own node).ticket same in
          let now : Some (record step.0 { deeds = step.0.deeds ++ deed ∷ [] }) ≡ Some one =
          sym (child_in-stepped ticket deed stand.children step.0 step.1)
          ∙ (ap (child_in (stepped ticket deed stand.children)) ticket_is ∙ here) in
          let whole : record step.0 { deeds = step.0.deeds ++ deed ∷ [] } ≡ one = cc in
          sym (ap (λ (c : Child). c.owner) whole)
          ∙ owns step.0 has (ap (child_in stand.children) (sym ticket_is) ∙ step.1)
      by false other =
          owns one has
          (sym (child_in-other ticket (build.own node).ticket deed stand.children other) ∙ here)
  late-owns build stand (leaves ticket owner) is once may node owns one has here =
      owns one has (without-back ticket (build.own node).ticket stand.children one once here)
  late-owns build stand (looks n seen) is once may node owns one has here = absurd is
  late-owns build stand (keeps n) is once may node owns one has here = absurd is
  late-owns build stand (refuses n number what) is once may node owns one has here = absurd is
  late-owns build stand (starts n number ticket owner cmd) is once may node owns one has here = absurd is
  late-owns build stand (passes n number) is once may node owns one has here = absurd is
  late-owns build stand waits is once may node owns one has here = absurd is
  late-owns build stand (ends n number owner ended) is once may node owns one has here = absurd is
  late-owns build stand (changes n change) is once may node owns one has here = absurd is

  -- what owns nothing at the beginning
  pub owned-first : (build : Build) → ((node : ℕ) → owner_of build node ≡ 0)
      → ((node : ℕ) → HasChild build.run node → ⊥) → Owned build entry
  owned-first build nothing none = record {
    child = λ node one has here. absurd (none node has);
    begun = λ node. let is = nothing node in omega (arith, is);
    differ = λ node other is real. absurd (real (nothing node));
  }
