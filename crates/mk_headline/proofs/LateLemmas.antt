-- The end of a build, where children are given up, and those that still run do steps at most.
use Rattle.std.proofs.Common.{◌≡◌, ◌∙◌, ℕ, List, [], ◌∷◌, ◌++◌, slice_get, Some, false}
use Rattle.std.proofs.Common.{refl, sym, ap, subst, append_assoc}
use Rattle.std.proofs.lemmas.List.{append-nil}
use Rattle.std.specs.List.{AllByRecursion}
use Rattle.mk_clean.specs.Clean.{Plan}
use Rattle.mk_clean.specs.Turns as turn
use Rattle.mk_clean.specs.Turns.{Turn, after_turns, MayTurns}
use Rattle.mk_decision.specs.Decisions.{Work}
use Rattle.mk_headline.proofs.KeepLemmas.{fits-parts}
use Rattle.mk_headline.proofs.StageLemmas.{AreOfNodes, FitsNode, fits-quiet, may-append, after-append}
use Rattle.mk_headline.proofs.TurnLemmas.{Turning, stepped-on}
use Rattle.mk_headline.specs.Laws.{IsBuildOfTurns}
use Rattle.mk_headline.specs.Plans.{clean_plan}
use Rattle.mk_headline.specs.Turned.{AreTurned}
use Rattle.mk_plan.specs.Deciding.{is_stopped}
use Rattle.mk_trace.proofs.AlongLemmas.{all-append}
use Rattle.mk_trace.proofs.CallLemmas.{on_leaves, on_steps}
use Rattle.mk_trace.proofs.ItemLemmas.{build_after_all-append, happened_all-append, state_of-happened}
use Rattle.mk_trace.proofs.TogetherLemmas.{children_belong}
use Rattle.mk_trace.proofs.TrueChildren.{child_in-contains, once-all, once-found}
use Rattle.mk_trace.proofs.TrueLemmas.{makes-first}
use Rattle.mk_trace.specs.Builds.{Build, Makes, build_after, build_after_all, first_build, rules_of}
use Rattle.mk_trace.specs.Calls.{AreLeaveItems, AreStepItems, GivesUpLast, NoneLeft}
use Rattle.mk_trace.specs.Items.{Item, looks, keeps, refuses, starts, passes, waits, steps, ends, changes, leaves, happened, happened_all, FitsAll, Happened}
use Rattle.mk_trace.specs.Runs as run
use Rattle.mk_trace.specs.Together.{AreTogether}
use Rattle.mk_world.proofs.CallLemmas.{after_all-append, MayAll-parts}
use Rattle.mk_world.proofs.ChildLemmas.{Once, child_in-ticket, contains-step, contains-without, once-step, once-without}
use Rattle.mk_world.specs.History.{State as Stand, MayAll as MayHappen, after_all as stand_after, child_in, contents, state_of, without_child}
use Rattle.mk_world.specs.Talks.{Meaning}
use Rattle.mk_world.specs.declared.history.Child.{Child}
use Rattle.mk_world.specs.declared.history.History.{History}

-- a step of a child, or a child that is given up
abbrev pub IsLate : Item → Type 0
IsLate (steps ticket owner deed time) = Unit {0}
IsLate (leaves ticket owner) = Unit {0}
IsLate (looks node seen) = ⊥
IsLate (keeps node) = ⊥
IsLate (refuses node number what) = ⊥
IsLate (starts node number ticket owner cmd) = ⊥
IsLate (passes node number) = ⊥
IsLate waits = ⊥
IsLate (ends node number owner ended) = ⊥
IsLate (changes node change) = ⊥

late-leaves : (items : List Item) → AreLeaveItems items → AllByRecursion IsLate items
late-leaves = on_leaves (λ items. AllByRecursion IsLate items) tt (λ ticket owner items more. (tt, more))

late-steps : (items : List Item) → AreStepItems items → AllByRecursion IsLate items
late-steps = on_steps (λ items. AllByRecursion IsLate items) tt
    (λ ticket owner deed time items more. (tt, more))

-- such an item leaves a build as it is
pub late-same : (work : Work) (tasks : run.Tasks) (build : Build) (item : Item) → IsLate item
    → build_after work tasks build item ≡ build
late-same work tasks build (steps ticket owner deed time) is = refl
late-same work tasks build (leaves ticket owner) is = refl
late-same work tasks build (looks node seen) is = absurd is
late-same work tasks build (keeps node) is = absurd is
late-same work tasks build (refuses node number what) is = absurd is
late-same work tasks build (starts node number ticket owner cmd) is = absurd is
late-same work tasks build (passes node number) is = absurd is
late-same work tasks build waits is = absurd is
late-same work tasks build (ends node number owner ended) is = absurd is
late-same work tasks build (changes node change) is = absurd is

pub late-all-same : (work : Work) (tasks : run.Tasks) (build : Build) (items : List Item)
    → AllByRecursion IsLate items → build_after_all work tasks build items ≡ build
late-all-same work tasks build [] are = refl
late-all-same work tasks build (item ∷ items) are =
    ap (λ b. build_after_all work tasks b items) (late-same work tasks build item are.0)
    ∙ late-all-same work tasks build items are.1

-- and may be made whatever the tasks are
pub late-makes : (work : Work) (tasks : run.Tasks) (build : Build) (items : List Item)
    → AllByRecursion IsLate items → Makes work tasks build items
late-makes work tasks build [] are = tt
late-makes work tasks build (steps ticket owner deed time ∷ items) are =
    (tt, tt, tt, late-makes work tasks build items are.1)
late-makes work tasks build (leaves ticket owner ∷ items) are =
    (tt, tt, tt, late-makes work tasks build items are.1)
late-makes work tasks build (looks node seen ∷ items) are = absurd are.0
late-makes work tasks build (keeps node ∷ items) are = absurd are.0
late-makes work tasks build (refuses node number what ∷ items) are = absurd are.0
late-makes work tasks build (starts node number ticket owner cmd ∷ items) are = absurd are.0
late-makes work tasks build (passes node number ∷ items) are = absurd are.0
late-makes work tasks build (waits ∷ items) are = absurd are.0
late-makes work tasks build (ends node number owner ended ∷ items) are = absurd are.0
late-makes work tasks build (changes node change ∷ items) are = absurd are.0

-- where no child is given up
pub none-given : (items : List Item) → NoneLeft items → GivesUpLast items
none-given items none = record {
  front = items;
  left = [];
  late = [];
  are = sym (append-nil items);
  none = none;
  left_are = tt;
  late_are = tt;
}

-- what happened before children are given up, and from then on
pub record Parts (meaning : Meaning) (work : Work) (tasks : run.Tasks) (entry : Stand) (front tail : List Item)
    : Type 0
  where
    pub makes : Makes work tasks (first_build work) front
    pub happens : MayHappen meaning entry (happened_all front)
    pub fits : FitsAll meaning entry front
    pub late : AllByRecursion IsLate tail
    pub then_happens : MayHappen meaning (stand_after entry (happened_all front)) (happened_all tail)

pub last-parts : (meaning : Meaning) (work : Work) (tasks : run.Tasks) (entry : Stand) (items : List Item)
    (last : GivesUpLast items) → Makes work tasks (first_build work) items
    → MayHappen meaning entry (happened_all items) → FitsAll meaning entry items
    → Parts meaning work tasks entry last.front (last.left ++ last.late)
last-parts meaning work tasks entry items last makes may fits =
    let tail = last.left ++ last.late in
    let happens = MayAll-parts meaning entry (happened_all last.front) (happened_all tail)
    (subst (MayHappen meaning entry) (ap happened_all last.are ∙ happened_all-append last.front tail) may) in
    record {
      makes = makes-first work tasks (first_build work) last.front tail
          (subst (Makes work tasks (first_build work)) last.are makes);
      happens = happens.0;
      fits = (fits-parts meaning entry last.front tail (subst (FitsAll meaning entry) last.are fits)).0;
      late = all-append IsLate last.left last.late (late-leaves last.left last.left_are)
          (late-steps last.late last.late_are);
      then_happens = happens.1;
    }

-- a child that still runs did so before
pub without-back : (ticket other : ℕ) (children : List Child) (child : Child) → Once children
    → child_in (without_child ticket children) other ≡ Some child → child_in children other ≡ Some child
without-back ticket other children child once is =
    let left = without_child ticket children in
    subst (λ k. child_in children k ≡ Some child) (child_in-ticket other left child is)
    (once-found children child once
    (contains-without ticket children child (child_in-contains left other child is)))

module _ (meaning : Meaning) (work : Work) (tasks : run.Tasks) where
  abbrev plan : Plan
  plan = clean_plan work tasks

  -- the turns of the items to come
  pub record Turned (build : Build) (stand : Stand) (clean : turn.Build) (items : List Item) : Type 0 where
    pub turns : List Turn
    pub are : AreTurned work tasks build items turns
    pub may : MayTurns meaning plan clean turns
    pub files : (after_turns plan clean turns).files ≡ contents (stand_after stand (happened_all items)).files
    pub nodes : (node : ℕ) → FitsNode meaning work tasks (build_after_all work tasks build items).run
        (build_after_all work tasks build items).own (stand_after stand (happened_all items)).children node
        ((after_turns plan clean turns).stage node)

  pub turned-more : (build : Build) (stand : Stand) (clean : turn.Build) (item : Item) (items : List Item)
      (now : Turning meaning work tasks build stand clean item)
      → Turned (build_after work tasks build item) (stand_after stand (happened item))
      (after_turns plan clean now.now) items → Turned build stand clean (item ∷ items)
  turned-more build stand clean item items now rest = record {
    turns = now.now ++ rest.turns;
    are = (now.now, rest.turns, refl, now.turned, rest.are);
    may = may-append meaning work tasks clean now.now rest.turns now.may rest.may;
    files = ap (λ (c : turn.Build). c.files) behind
        ∙ (rest.files ∙ ap (λ (s : Stand). contents s.files) (sym stands));
    nodes = λ node.
        subst (FitsNode meaning work tasks last.run last.own
        (stand_after stand (happened_all (item ∷ items))).children node)
        (sym (ap (λ (c : turn.Build). c.stage node) behind))
        (subst (λ (s : Stand). FitsNode meaning work tasks last.run last.own s.children node
        ((after_turns plan (after_turns plan clean now.now) rest.turns).stage node)) (sym stands) (rest.nodes node));
  }
    where
      last : Build
      last = build_after_all work tasks build (item ∷ items)

      behind : after_turns plan clean (now.now ++ rest.turns)
          ≡ after_turns plan (after_turns plan clean now.now) rest.turns
      behind = after-append meaning work tasks clean now.now rest.turns

      stands : stand_after stand (happened_all (item ∷ items))
          ≡ stand_after (stand_after stand (happened item)) (happened_all items)
      stands = after_all-append stand (happened item) (happened_all items)

  -- how nodes, turns and children stand from then on
  pub record Late (build : Build) (stand : Stand) (clean : turn.Build) : Type 0 where
    pub files : contents stand.files ≡ clean.files
    pub nodes : (node : ℕ) → FitsNode meaning work tasks build.run build.own stand.children node
        (clean.stage node)
    pub of_nodes : AreOfNodes build.run build.own stand.children
    pub once : Once stand.children

  left-turn : (build : Build) (stand : Stand) (clean : turn.Build) (ticket owner : ℕ)
      → Late build stand clean → Turning meaning work tasks build stand clean (leaves ticket owner)
  left-turn build stand clean ticket owner late = record {
    now = [];
    turned = refl;
    may = tt;
    files = late.files;
    nodes = λ node.
        fits-quiet meaning work tasks build.run build.run build.own build.own stand.children
        (without_child ticket stand.children) node (clean.stage node) (clean.stage node) refl
        (record {
          undecided = λ is. is;
          going = λ is. is;
          decided = λ is. is;
          running = λ child has here.
              (has, refl, without-back ticket (build.own node).ticket stand.children child late.once here);
          due = λ number is. is;
        }) (late.nodes node);
    looks = λ none. refl;
  }

  pub late-turn : (build : Build) (stand : Stand) (clean : turn.Build) (item : Item) → IsLate item
      → Late build stand clean → MayHappen meaning stand (happened item)
      → Turning meaning work tasks build stand clean item
  late-turn build stand clean (steps ticket owner deed time) is late may =
      stepped-on meaning work tasks build stand clean ticket owner time deed late.files late.nodes late.of_nodes
      may
  late-turn build stand clean (leaves ticket owner) is late may = left-turn build stand clean ticket owner late
  late-turn build stand clean (looks node seen) is late may = absurd is
  late-turn build stand clean (keeps node) is late may = absurd is
  late-turn build stand clean (refuses node number what) is late may = absurd is
  late-turn build stand clean (starts node number ticket owner cmd) is late may = absurd is
  late-turn build stand clean (passes node number) is late may = absurd is
  late-turn build stand clean waits is late may = absurd is
  late-turn build stand clean (ends node number owner ended) is late may = absurd is
  late-turn build stand clean (changes node change) is late may = absurd is

  -- the children that still run
  late-children : (build : Build) (stand : Stand) (clean : turn.Build) (item : Item) → IsLate item
      → Late build stand clean
      → AreOfNodes (build_after work tasks build item).run (build_after work tasks build item).own
      (stand_after stand (happened item)).children × Once (stand_after stand (happened item)).children
  late-children build stand clean (steps ticket owner deed time) is late = (
    record {
      node = λ one has.
          let before = contains-step ticket deed stand.children one has in
          let found = late.of_nodes.node before.0 before.1 in (found.0, found.1, found.2 ∙ before.2);
      apart = late.of_nodes.apart;
    },
    once-step ticket deed stand.children late.once,
  )
  late-children build stand clean (leaves ticket owner) is late = (
    record {
      node = λ one has. late.of_nodes.node one (contains-without ticket stand.children one has);
      apart = late.of_nodes.apart;
    },
    once-without ticket stand.children late.once,
  )
  late-children build stand clean (looks node seen) is late = absurd is
  late-children build stand clean (keeps node) is late = absurd is
  late-children build stand clean (refuses node number what) is late = absurd is
  late-children build stand clean (starts node number ticket owner cmd) is late = absurd is
  late-children build stand clean (passes node number) is late = absurd is
  late-children build stand clean waits is late = absurd is
  late-children build stand clean (ends node number owner ended) is late = absurd is
  late-children build stand clean (changes node change) is late = absurd is

  pub late-next : (build : Build) (stand : Stand) (clean : turn.Build) (item : Item) → IsLate item
      → Late build stand clean → (now : Turning meaning work tasks build stand clean item)
      → Late (build_after work tasks build item) (stand_after stand (happened item)) (after_turns plan clean now.now)
  late-next build stand clean item is late now =
      let children = late-children build stand clean item is late in
      record { files = now.files; nodes = now.nodes; of_nodes = children.0; once = children.1 }

  late-turned : (items : List Item) (build : Build) (stand : Stand) (clean : turn.Build)
      → AllByRecursion IsLate items → Late build stand clean → MayHappen meaning stand (happened_all items)
      → Turned build stand clean items
  late-turned [] build stand clean are late may =
      record { turns = []; are = refl; may = tt; files = sym late.files; nodes = late.nodes }
  late-turned (item ∷ items) build stand clean are late may =
      let parts = MayAll-parts meaning stand (happened item) (happened_all items) may in
      let now = late-turn build stand clean item are.0 late parts.0 in
      turned-more build stand clean item items now
      (late-turned items (build_after work tasks build item) (stand_after stand (happened item))
      (after_turns plan clean now.now) are.1 (late-next build stand clean item are.0 late now) parts.1)

  are-append : (build : Build) (first second : List Item) (turns more : List Turn)
      → AreTurned work tasks build first turns
      → AreTurned work tasks (build_after_all work tasks build first) second more
      → AreTurned work tasks build (first ++ second) (turns ++ more)
  are-append build [] second turns more are then_are =
      subst (λ l. AreTurned work tasks build second (l ++ more)) (sym are) then_are
  are-append build (item ∷ first) second turns more (now, later, is, turned, rest) then_are = (
    now,
    later ++ more,
    ap (λ l. l ++ more) is ∙ append_assoc now later more,
    turned,
    are-append (build_after work tasks build item) first second later more rest then_are,
  )

  -- behind the items before it, with their turns
  pub late-first : (entry : Stand) → entry.children ≡ [] → (front tail : List Item)
      → Parts meaning work tasks entry front tail
      → AreTogether work tasks (build_after_all work tasks (first_build work) front).run
      (build_after_all work tasks (first_build work) front).own (stand_after entry (happened_all front)).children
      → (clean : turn.Build) → contents (stand_after entry (happened_all front)).files ≡ clean.files
      → ((node : ℕ) → FitsNode meaning work tasks (build_after_all work tasks (first_build work) front).run
      (build_after_all work tasks (first_build work) front).own (stand_after entry (happened_all front)).children
      node (clean.stage node))
      → Late (build_after_all work tasks (first_build work) front) (stand_after entry (happened_all front)) clean
  late-first entry idle front tail parts together clean files nodes = record {
    files = files;
    nodes = nodes;
    of_nodes = record { node = together.node; apart = together.apart };
    once = once-all meaning entry (happened_all front) parts.happens (subst Once (sym idle) tt);
  }

-- a whole build, with the turns of its items before children are given up
pub turned-last : (meaning : Meaning) (work : Work) (tasks : run.Tasks) (items : List Item) (old new : History)
    → (state_of old).children ≡ [] → Makes work tasks (first_build work) items
    → Happened meaning items old new → (last : GivesUpLast items)
    → Turned meaning work tasks (first_build work) (state_of old)
    (turn.first_build (contents (state_of old).files)) last.front
    → IsBuildOfTurns meaning work tasks items old new
turned-last meaning work tasks items old new idle makes happens last first = record {
  turns = first.turns ++ second.turns;
  are = subst (λ l. AreTurned work tasks (first_build work) l (first.turns ++ second.turns)) (sym last.are)
      (are-append meaning work tasks (first_build work) last.front tail first.turns second.turns first.are
      second.are);
  may = may-append meaning work tasks begins first.turns second.turns first.may second.may;
  files = ap (λ (c : turn.Build). c.files) behind
      ∙ (second.files ∙ ap (λ (s : Stand). contents s.files) (sym stands));
  settled_are = λ going node given.
      ap (λ (c : turn.Build). c.stage node) behind
      ∙ (second.nodes node).decided
      (subst (λ (b : Build). is_stopped (rules_of work) b.run.nodes ≡ false) built going)
      (ap (λ (b : Build). slice_get b.run.nodes node) (sym built) ∙ given);
}
  where
    plan : Plan
    plan = clean_plan work tasks

    entry : Stand
    entry = state_of old

    begins : turn.Build
    begins = turn.first_build (contents entry.files)

    tail : List Item
    tail = last.left ++ last.late

    parts : Parts meaning work tasks entry last.front tail
    parts = last-parts meaning work tasks entry items last makes happens.lawful happens.fits

    reached : Stand
    reached = stand_after entry (happened_all last.front)

    front_built : Build
    front_built = build_after_all work tasks (first_build work) last.front

    second : Turned meaning work tasks front_built reached (after_turns plan begins first.turns) tail
    second =
        late-turned meaning work tasks tail front_built reached (after_turns plan begins first.turns) parts.late
        (late-first meaning work tasks entry idle last.front tail parts
        (children_belong meaning work tasks last.front entry idle parts.makes parts.happens parts.fits last.none)
        (after_turns plan begins first.turns) (sym first.files) first.nodes) parts.then_happens

    behind : after_turns plan begins (first.turns ++ second.turns)
        ≡ after_turns plan (after_turns plan begins first.turns) second.turns
    behind = after-append meaning work tasks begins first.turns second.turns

    stands : state_of new ≡ stand_after reached (happened_all tail)
    stands =
        state_of-happened meaning items old new happens
        ∙ (ap (λ l. stand_after entry (happened_all l)) last.are
        ∙ (ap (stand_after entry) (happened_all-append last.front tail)
        ∙ after_all-append entry (happened_all last.front) (happened_all tail)))

    built : build_after_all work tasks (first_build work) items
        ≡ build_after_all work tasks front_built tail
    built =
        ap (build_after_all work tasks (first_build work)) last.are
        ∙ build_after_all-append work tasks (first_build work) last.front tail
