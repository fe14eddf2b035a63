-- Jobs of a build keep apart.
use Rattle.std.proofs.Common.{◌≡◌, ◌≢◌, ◌∙◌, ◌⊎◌, ℕ, zero, suc, ◌<◌, ◌==◌, flat_map, List, [], ◌∷◌, ◌++◌, length, map, slice_get, Some, Bool, true, false}
use Rattle.std.proofs.Common.{inl, inr, ⊎_elim, refl, sym, ap, subst, arith, append_assoc, eq-eqb, eqb-true}
use Rattle.std.proofs.lemmas.Bool.{cases_Bool, false≢true, or_cases}
use Rattle.std.proofs.lemmas.List.Concat.{flat_map-append}
use Rattle.std.proofs.lemmas.List.Folds.{list_any-append}
use Rattle.std.specs.List.{AllByRecursion, Contains, list_any}
use Rattle.std.specs.Str.{bytes_eq}
use Rattle.mk_clean.specs.Clean.{CleanJob, Plan, Changes, IsAmong, clean_build, cleared, is_changed}
use Rattle.mk_clean.specs.Declared.{IsOwn, IsPrivate}
use Rattle.mk_clean.specs.Turns as turn
use Rattle.mk_clean.specs.Turns.{MayTurns, Turn, after_turns}
use Rattle.mk_decision.specs.Decisions.{Work}
use Rattle.mk_headline.proofs.DecideLemmas.{CleanStep, DueDone, EachDeciding, clean-step, contains-any, deciding-first, within-plan}
use Rattle.mk_headline.proofs.FullLemmas.{full-step}
use Rattle.mk_headline.proofs.GoodLemmas.{Good, good-first, good-next, of-together}
use Rattle.mk_headline.proofs.LateLemmas.{IsLate, Late, last-parts, late-all-same, late-next, late-turn}
use Rattle.mk_headline.proofs.OwnerLemmas.{DifferOwners, IsNoChange, Owned, OwnsChild, begins-job, head-owner, late-owns, owned-first as owned-none, owned-next, owner-stays, owner_of, step-owned}
use Rattle.mk_headline.proofs.PastLemmas.{none-first, together}
use Rattle.mk_headline.proofs.PlanLemmas.{clean-node, job-has, meta_path-is, names-differ, node-is}
use Rattle.mk_headline.proofs.StageLemmas.{after-append, may-append}
use Rattle.mk_headline.proofs.TurnLemmas.{Turning}
use Rattle.mk_headline.specs.Laws.{BuildsKeepApart, BuildsStayTrue, IsReadyBuild}
use Rattle.mk_headline.specs.Plans.{clean_plan, has_job, is_meta_path}
use Rattle.mk_meta.specs.TrueHistory.{JobEvent, begun as begun_event, did, ended as ended_event, LeavesAlone, Alone, changed_paths, if_same, job_event, job_events, meta_path}
use Rattle.mk_plan.specs.Plans.{node_at}
use Rattle.mk_plan.specs.declared.plan.NodeState.TheVariants.{Undecided, Open, Failed}
use Rattle.mk_trace.proofs.AlongLemmas.{all-first}
use Rattle.mk_trace.proofs.BegunLemmas.{may-undecided}
use Rattle.mk_trace.proofs.ItemLemmas.{build_after_all-append}
use Rattle.mk_trace.proofs.TrueChildren.{once-all, step-leaves}
use Rattle.mk_trace.proofs.TrueIdle.{free-not}
use Rattle.mk_trace.proofs.TrueLemmas.{meta_files_true}
use Rattle.mk_trace.specs.Builds.{Build, Duty, Makes, remove, begin, date, close, build_after, build_after_all, first_build, rules_of}
use Rattle.mk_trace.specs.Calls.{NoneLeft}
use Rattle.mk_trace.specs.Items.{Change, gone, head, whole, cut_head, cut_whole, changed, Item, looks, keeps, refuses, starts, passes, waits, steps, ends, changes, leaves, happened, happened_all, FitsAll}
use Rattle.mk_trace.specs.Runs as run
use Rattle.mk_trace.specs.Together.{HasChild}
use Rattle.mk_trace.specs.TrueBuilds.{IsApart, IsOpenAlong, IsOpenJob, deed_of, deeds_in}
use Rattle.mk_world.proofs.CallLemmas.{MayAll-parts}
use Rattle.mk_world.proofs.ChildLemmas.{Once}
use Rattle.mk_world.specs.History.{State as Stand, MayAll as MayHappen, after_all as stand_after, contents, effects, state_of}
use Rattle.mk_world.specs.Talks.{Meaning}
use Rattle.mk_world.specs.Deeds.{Spot, changes as changes_of}
use Rattle.mk_world.specs.declared.history.Happening.{Happening}
use Rattle.mk_world.specs.declared.history.Happening.TheVariants as world
use Rattle.mk_world.specs.declared.history.History.{History}
use Rattle.mk_world.specs.declared.step.Deed.{Deed}

-- lists

makes-last : (work : Work) (tasks : run.Tasks) (build : Build) (items more : List Item)
    → Makes work tasks build (items ++ more)
    → Makes work tasks (build_after_all work tasks build items) more
makes-last work tasks build [] more makes = makes
makes-last work tasks build (item ∷ items) more makes =
    makes-last work tasks (build_after work tasks build item) items more makes.3

-- the paths that a step changes
abbrev paths_in : Deed → List (List ℕ)
paths_in deed = map (λ (spot : Spot). spot.path) (changes_of deed)

-- what a list of steps changes, one part of it does
changed-split : (first second : List Deed) (path : List ℕ) → is_changed (first ++ second) path ≡ true
    → (is_changed first path ≡ true) ⊎ (is_changed second path ≡ true)
changed-split first second path is =
    or_cases (is_changed first path) (is_changed second path)
    (sym (ap (list_any (λ one. bytes_eq one path)) (flat_map-append paths_in first second)
    ∙ list_any-append (λ one. bytes_eq one path) (changed_paths first) (changed_paths second)) ∙ is)

-- what the steps behind an event change, which a job does, or does not
own-event : {P : Type 0} (own : Bool) (event : JobEvent) (more : List JobEvent) (path : List ℕ)
    → is_changed (flat_map deed_of (if_same own event ++ more)) path ≡ true
    → (own ≡ true → is_changed (deed_of event) path ≡ true → P)
    → (is_changed (flat_map deed_of more) path ≡ true → P) → P
own-event true event more path is first later =
    ⊎_elim (first refl) later (changed-split (deed_of event) (flat_map deed_of more) path is)
own-event false event more path is first later = later is

module _ (meaning : Meaning) (work : Work) (tasks : run.Tasks) (old : History)
    (ready : IsReadyBuild meaning work tasks old) where
  abbrev plan : Plan
  plan = clean_plan work tasks

  abbrev entry : Stand
  entry = state_of old

  abbrev all : List CleanJob
  all = clean_build meaning plan (contents entry.files)

  abbrev name : ℕ → List ℕ
  name n = (node_at work.plan n).name

  abbrev IsGood : List Item → Build → Stand → List Turn → turn.Build → Type 0
  IsGood = Good meaning work tasks entry ready.idle ready.well_made

  abbrev Extra : List Item → Build → Stand → turn.Build → Type 0
  Extra done build stand clean =
      EachDeciding meaning work tasks entry ready.idle ready.well_made ready.declared ready.mode.no_meta_names
      done build stand clean
      × DueDone meaning work tasks entry ready.idle ready.well_made ready.declared ready.mode.no_meta_names build

  -- what the jobs of the clean build change

  -- the job of a node changes a path
  record Touches (node : ℕ) (path : List ℕ) : Type 0 where
    one : CleanJob
    among : IsAmong one all
    node_is : one.node ≡ node
    is : Changes one path

  touch-within : (node : ℕ) (path : List ℕ) → Touches node path → node < length work.plan
  touch-within node path touches =
      subst (λ k. k < length work.plan) touches.node_is
      (job-has work touches.one.node
      (clean-node meaning plan plan.order (cleared plan (contents entry.files)) touches.one touches.among)).0

  -- no job changes the path of another node
  name-apart : (node other : ℕ) → node < length work.plan → other ≢ node → Touches other (name node) → ⊥
  name-apart node other within apart touches =
      by (ready.declared.changes touches.one touches.among (name node) touches.is)
    where
      by : IsOwn plan touches.one (name node) ⊎ IsPrivate plan all touches.one (name node) → ⊥
      by (inl own) =
          apart (names-differ work ready.well_made other node (touch-within other (name node) touches) within
          (sym (ap name touches.node_is) ∙ own.name))
      by (inr private) = false≢true (sym private.no_node ∙ node-is work tasks node within)

  -- no two jobs change one path
  touch-apart : (node other : ℕ) (path : List ℕ) → other ≢ node → Touches node path → Touches other path → ⊥
  touch-apart node other path apart mine touches =
      by (ready.declared.changes mine.one mine.among path mine.is)
    where
      by : IsOwn plan mine.one path ⊎ IsPrivate plan all mine.one path → ⊥
      by (inl own) =
          name-apart node other (touch-within node path mine) apart
          (subst (Touches other) (sym own.name ∙ ap name mine.node_is) touches)
      by (inr private) =
          false≢true
          (sym (private.alone touches.one touches.among
          (λ same. apart (sym touches.node_is ∙ (same ∙ mine.node_is)))) ∙ touches.is)

  meta-apart : (node : ℕ) (path : List ℕ) → is_meta_path path ≡ true → Touches node path → ⊥
  meta-apart node path meta touches =
      false≢true (sym (ready.declared.no_meta touches.one touches.among path meta) ∙ touches.is)

  -- what the items of a build are, by the owners of its jobs at its end

  -- a step is one of the clean build, and its owner's
  record StepOf (last : Build) (owner : ℕ) (deed : Deed) : Type 0 where
    node : ℕ
    owned : owner ≡ owner_of last node
    touches : (path : List ℕ) → is_changed (deed ∷ []) path ≡ true → Touches node path

  -- a target is removed of a node that is not open
  record GoneOf (build : Build) (node : ℕ) (path : List ℕ) : Type 0 where
    within : node < length work.plan
    path_is : path ≡ name node
    shut : slice_get build.run.nodes node ≡ Some Failed
    due : build.duty ≡ remove node

  record HeadOf (last : Build) (node time : ℕ) (path : List ℕ) : Type 0 where
    within : node < length work.plan
    later : 0 < time
    owned : owner_of last node ≡ time
    meta : is_meta_path path ≡ true

  abbrev IsOwnChange : Build → Build → ℕ → Change → Type 0
  IsOwnChange last build node (gone path time) = GoneOf build node path
  IsOwnChange last build node (head path bytes time) = HeadOf last node time path
  IsOwnChange last build node (whole path bytes time) = is_meta_path path ≡ true
  IsOwnChange last build node (cut_head path part time) = is_meta_path path ≡ true
  IsOwnChange last build node (cut_whole path part time) = is_meta_path path ≡ true

  abbrev IsOwned : Build → Build → Item → Type 0
  IsOwned last build (looks node seen) = Unit {0}
  IsOwned last build (keeps node) = Unit {0}
  IsOwned last build (refuses node number what) = Unit {0}
  IsOwned last build (starts node number ticket owner cmd) = Unit {0}
  IsOwned last build (passes node number) = Unit {0}
  IsOwned last build waits = Unit {0}
  IsOwned last build (steps ticket owner deed time) = StepOf last owner deed
  IsOwned last build (ends node number owner ended) = Unit {0}
  IsOwned last build (changes node change) = IsOwnChange last build node change
  IsOwned last build (leaves ticket owner) = Unit {0}

  -- each item, at its moment
  abbrev AllOwned : Build → Build → List Item → Type 0
  AllOwned last build [] = Unit {0}
  AllOwned last build (item ∷ items) =
      IsOwned last build item × AllOwned last (build_after work tasks build item) items

  owned-first : (last build : Build) (items more : List Item) → AllOwned last build (items ++ more)
      → AllOwned last build items
  owned-first last build [] more each = tt
  owned-first last build (item ∷ items) more each =
      (each.0, owned-first last (build_after work tasks build item) items more each.1)

  owned-last : (last build : Build) (items more : List Item) → AllOwned last build (items ++ more)
      → AllOwned last (build_after_all work tasks build items) more
  owned-last last build [] more each = each
  owned-last last build (item ∷ items) more each =
      owned-last last (build_after work tasks build item) items more each.1

  owned-at : (last build : Build) (items : List Item) (one : Item) → AllOwned last build items
      → Contains items one → (at : Build) × IsOwned last at one
  owned-at last build [] one each has = let less = has.1 in absurd (omega (arith, less))
  owned-at last build (first ∷ items) one each (zero, less, is) = (build, subst (IsOwned last build) is each.0)
  owned-at last build (first ∷ items) one each (suc place, less, is) =
      owned-at last (build_after work tasks build first) items one each.1 (place, omega (arith, less), is)

  step-of : (last build : Build) (stand : Stand) (turns : List Turn) (clean : turn.Build)
      (ticket owner time : ℕ) (deed : Deed) → MayTurns meaning plan (turn.first_build (contents entry.files)) turns
      → after_turns plan (turn.first_build (contents entry.files)) turns ≡ clean
      → ((node : ℕ) → OwnsChild meaning work tasks entry ready.idle ready.well_made node build stand.children)
      → ((node : ℕ) → HasChild build.run node → owner_of last node ≡ owner_of build node)
      → MayHappen meaning stand (happened (steps ticket owner deed time))
      → Turning meaning work tasks build stand clean (steps ticket owner deed time) → StepOf last owner deed
  step-of last build stand turns clean ticket owner time deed may_turns at owns stays may now = record {
    node = node;
    owned = step-owned meaning work tasks entry ready.idle ready.well_made build stand ticket owner time deed node
        (owns node) may now.turned.1 now.turned.2
        ∙ sym (stays node now.turned.1);
    touches = λ path is.
        record { one = step.one; among = step.among; node_is = step.node_is; is = step.changes_it path is };
  }
    where
      node : ℕ
      node = now.turned.0

      step : CleanStep meaning work tasks entry ready.idle ready.well_made ready.declared
          ready.mode.no_meta_names node deed
      step = clean-step meaning work tasks entry ready.idle ready.well_made ready.declared
          ready.mode.no_meta_names build stand turns clean ticket owner time deed may_turns at now

  head-of : (done items : List Item) (build : Build) (stand : Stand) (turns : List Turn) (clean : turn.Build)
      (node time : ℕ) (path bytes : List ℕ) → IsGood done build stand turns clean
      → Makes work tasks build (changes node (head path bytes time) ∷ items)
      → MayHappen meaning stand (happened (changes node (head path bytes time)))
      → HeadOf (build_after_all work tasks build (changes node (head path bytes time) ∷ items)) node time path
  head-of done items build stand turns clean node time path bytes good makes may = record {
    within = within-plan meaning work tasks entry ready.idle ready.well_made ready.declared
        ready.mode.no_meta_names done build stand good.past node
        (may-undecided (rules_of work) build.run.nodes node makes.2.0.may.1);
    later = let less = may.0.0.0 in omega (arith, less);
    owned = owner-stays work tasks items (build_after work tasks build (changes node (head path bytes time)))
        node makes.3 (inl refl)
        ∙ head-owner build.own node time node refl;
    meta = ap is_meta_path makes.2.0.path_is ∙ meta_path-is (name node);
  }

  item-owned : (done items : List Item) (build : Build) (stand : Stand) (turns : List Turn)
      (clean : turn.Build) (item : Item) → IsGood done build stand turns clean
      → Owned meaning work tasks entry ready.idle ready.well_made build stand
      → Makes work tasks build (item ∷ items) → MayHappen meaning stand (happened item)
      → Turning meaning work tasks build stand clean item
      → IsOwned (build_after_all work tasks build (item ∷ items)) build item
  item-owned done items build stand turns clean (looks n seen) good owned makes may now = tt
  item-owned done items build stand turns clean (keeps n) good owned makes may now = tt
  item-owned done items build stand turns clean (refuses n number what) good owned makes may now = tt
  item-owned done items build stand turns clean (starts n number ticket owner cmd) good owned makes may now = tt
  item-owned done items build stand turns clean (passes n number) good owned makes may now = tt
  item-owned done items build stand turns clean waits good owned makes may now = tt
  item-owned done items build stand turns clean (steps ticket owner deed time) good owned makes may now =
      step-of (build_after_all work tasks build (steps ticket owner deed time ∷ items)) build stand turns clean
      ticket owner time deed good.may good.at owned.child
      (λ node has.
      owner-stays work tasks (steps ticket owner deed time ∷ items) build node makes
      (inr (λ undecided. let both : Some Open ≡ Some Undecided = sym has.0 ∙ undecided in absurd cc))) may now
  item-owned done items build stand turns clean (ends n number owner ended) good owned makes may now = tt
  item-owned done items build stand turns clean (changes n (gone path time)) good owned makes may now =
      let removing = good.removing n makes.1 in
      record {
        within = within-plan meaning work tasks entry ready.idle ready.well_made ready.declared
            ready.mode.no_meta_names done build stand good.past n removing.shut;
        path_is = makes.2;
        shut = removing.shut;
        due = makes.1;
      }
  item-owned done items build stand turns clean (changes n (head path bytes time)) good owned makes may now =
      head-of done items build stand turns clean n time path bytes good makes may
  item-owned done items build stand turns clean (changes n (whole path bytes time)) good owned makes may now =
      ap is_meta_path makes.2.0.path_is ∙ meta_path-is (name n)
  item-owned done items build stand turns clean (changes n (cut_head path part time)) good owned makes may now =
      ap is_meta_path makes.2.1.path_is ∙ meta_path-is (name n)
  item-owned done items build stand turns clean (changes n (cut_whole path part time)) good owned makes may now =
      ap is_meta_path makes.2.1.path_is ∙ meta_path-is (name n)
  item-owned done items build stand turns clean (leaves ticket owner) good owned makes may now = tt

  record EachOwned (last build : Build) (items : List Item) : Type 0 where
    each : AllOwned last build items
    differ : DifferOwners last

  -- where children are given up
  late-owned : (items : List Item) (build : Build) (stand : Stand) (turns : List Turn) (clean : turn.Build)
      → AllByRecursion IsLate items → Late meaning work tasks build stand clean
      → MayTurns meaning plan (turn.first_build (contents entry.files)) turns
      → after_turns plan (turn.first_build (contents entry.files)) turns ≡ clean
      → ((node : ℕ) → OwnsChild meaning work tasks entry ready.idle ready.well_made node build stand.children)
      → MayHappen meaning stand (happened_all items)
      → AllOwned (build_after_all work tasks build items) build items
  late-owned [] build stand turns clean are late may_turns at owns may = tt
  late-owned (item ∷ items) build stand turns clean are late may_turns at owns may =
      let parts = MayAll-parts meaning stand (happened item) (happened_all items) may in
      let now = late-turn meaning work tasks build stand clean item are.0 late parts.0 in (
        late-item item are.0 parts.0 now,
        late-owned items (build_after work tasks build item) (stand_after stand (happened item))
            (turns ++ now.now) (after_turns plan clean now.now) are.1
            (late-next meaning work tasks build stand clean item are.0 late now)
            (may-append meaning work tasks (turn.first_build (contents entry.files)) turns now.now may_turns
            (subst (λ c. MayTurns meaning plan c now.now) (sym at) now.may))
            (after-append meaning work tasks (turn.first_build (contents entry.files)) turns now.now
            ∙ ap (λ c. after_turns plan c now.now) at)
            (λ node.
            late-owns meaning work tasks entry ready.idle ready.well_made build stand item are.0 late.once parts.0
            node (owns node))
            parts.1,
      )
    where
      last : Build
      last = build_after_all work tasks build (item ∷ items)

      stays : (node : ℕ) → owner_of last node ≡ owner_of build node
      stays node = ap (λ b. owner_of b node) (late-all-same work tasks build (item ∷ items) are)

      late-item : (one : Item) → IsLate one → MayHappen meaning stand (happened one)
          → Turning meaning work tasks build stand clean one → IsOwned last build one
      late-item (steps ticket owner deed time) is happens now =
          step-of last build stand turns clean ticket owner time deed may_turns at owns (λ node has. stays node)
          happens now
      late-item (leaves ticket owner) is happens now = tt
      late-item (looks n seen) is happens now = absurd is
      late-item (keeps n) is happens now = absurd is
      late-item (refuses n number what) is happens now = absurd is
      late-item (starts n number ticket owner cmd) is happens now = absurd is
      late-item (passes n number) is happens now = absurd is
      late-item waits is happens now = absurd is
      late-item (ends n number owner ended) is happens now = absurd is
      late-item (changes n change) is happens now = absurd is

  each-owned : (total tail items done : List Item) (build : Build) (stand : Stand) (turns : List Turn)
      (clean : turn.Build) → total ≡ done ++ items → IsGood done build stand turns clean
      → Extra done build stand clean → Owned meaning work tasks entry ready.idle ready.well_made build stand
      → Makes work tasks build (items ++ tail) → MayHappen meaning stand (happened_all (items ++ tail))
      → FitsAll meaning stand items → NoneLeft items → AllByRecursion IsLate tail
      → EachOwned (build_after_all work tasks build (items ++ tail)) build (items ++ tail)
  each-owned total tail [] done build stand turns clean is good extra owned makes may fits none late =
      record {
        each = late-owned tail build stand turns clean late
            (record {
              files = good.files;
              nodes = good.nodes;
              of_nodes = of-together meaning work tasks entry ready.idle ready.well_made
                  (together meaning work tasks entry ready.idle done build stand good.past);
              once = subst (λ (s : Stand). Once s.children) good.past.stand_at
                  (once-all meaning entry (happened_all done) good.past.happens (subst Once (sym ready.idle) tt));
            }) good.may good.at owned.child may;
        differ = subst DifferOwners (sym (late-all-same work tasks build tail late)) owned.differ;
      }
  each-owned total tail (item ∷ items) done build stand turns clean is good extra owned makes may fits none late =
      let parts = MayAll-parts meaning stand (happened item) (happened_all (items ++ tail)) may in
      let nones = none-first item items none in
      let one : Makes work tasks build (item ∷ []) = (makes.0, makes.1, makes.2, tt) in
      let next = full-step meaning work tasks old ready.lawful ready.idle ready.truth ready.well_made ready.mode
      ready.declared total done items build stand turns clean item is good extra one parts.0 fits.0 nones.0 in
      let good_then = good-next meaning work tasks entry ready.idle ready.well_made done build stand turns clean
      item good one parts.0 fits.0 nones.0 next.0 in
      let owned_then = owned-next meaning work tasks entry ready.idle ready.well_made done build stand turns
      clean item good owned one parts.0 fits.0 nones.0 in
      let rest = each-owned total tail items (done ++ item ∷ []) (build_after work tasks build item)
      (stand_after stand (happened item)) (turns ++ next.0.now) (after_turns plan clean next.0.now)
      (is ∙ sym (append_assoc done (item ∷ []) items)) good_then next.1 owned_then makes.3 parts.1 fits.1
      nones.1 late in
      record {
        each = (
          item-owned done (items ++ tail) build stand turns clean item good owned makes parts.0 next.0,
          rest.each,
        );
        differ = rest.differ;
      }

  -- a job is alone

  module _ (last : Build) (differ : DifferOwners last) (node stamp : ℕ) (owned : owner_of last node ≡ stamp)
      (later : 0 < stamp) where
    same-node : (other : ℕ) → owner_of last other ≡ stamp → other ≡ node
    same-node other is =
        differ other node (is ∙ sym owned)
        (λ none. let zero_is : stamp ≡ 0 = sym is ∙ none in absurd (omega (arith, later, zero_is)))

    -- what the job's own children change, its job in the clean build does
    own-touches : (items : List Item) (build : Build) (path : List ℕ) → AllOwned last build items
        → is_changed (deeds_in stamp items) path ≡ true → Touches node path
    own-touches [] build path each is = absurd (false≢true is)
    own-touches (looks n seen ∷ items) build path each is = own-touches items _ path each.1 is
    own-touches (keeps n ∷ items) build path each is = own-touches items _ path each.1 is
    own-touches (refuses n number what ∷ items) build path each is = own-touches items _ path each.1 is
    own-touches (starts n number ticket owner cmd ∷ items) build path each is =
        own-event (owner == stamp) (begun_event cmd) (job_events stamp (happened_all items)) path is
        (λ own none. absurd (false≢true none)) (own-touches items _ path each.1)
    own-touches (passes n number ∷ items) build path each is = own-touches items _ path each.1 is
    own-touches (waits ∷ items) build path each is = own-touches items _ path each.1 is
    own-touches (steps ticket owner deed time ∷ items) build path each is =
        own-event (owner == stamp) (did deed) (job_events stamp (happened_all items)) path is
        (λ own here.
        subst (λ k. Touches k path)
        (same-node each.0.node (sym each.0.owned ∙ eqb-true owner stamp own)) (each.0.touches path here))
        (own-touches items _ path each.1)
    own-touches (ends n number owner ended ∷ items) build path each is =
        own-event (owner == stamp) ended_event (job_events stamp (happened_all items)) path is
        (λ own none. absurd (false≢true none)) (own-touches items _ path each.1)
    own-touches (changes n (gone given time) ∷ items) build path each is = own-touches items _ path each.1 is
    own-touches (changes n (head given bytes time) ∷ items) build path each is = own-touches items _ path each.1 is
    own-touches (changes n (whole given bytes time) ∷ items) build path each is = own-touches items _ path each.1 is
    own-touches (changes n (cut_head given part time) ∷ items) build path each is = own-touches items _ path each.1 is
    own-touches (changes n (cut_whole given part time) ∷ items) build path each is = own-touches items _ path each.1 is
    own-touches (leaves ticket owner ∷ items) build path each is = own-touches items _ path each.1 is

    -- the node's target, or what its own children change
    abbrev IsMine : List ℕ → Type 0
    IsMine path = (path ≡ name node) ⊎ Touches node path

    mine-of : (build : Build) (items : List Item) → AllOwned last build items → (path : List ℕ)
        → Contains (name node ∷ changed_paths (deeds_in stamp items)) path → IsMine path
    mine-of build items each path (zero, less, is) = inl (sym is)
    mine-of build items each path (suc place, less, is) =
        inr (own-touches items build path each
        (contains-any (changed_paths (deeds_in stamp items)) path (place, omega (arith, less), is)))

    module _ (within : node < length work.plan) (paths : List (List ℕ))
        (mine : (path : List ℕ) → Contains paths path → IsMine path) where
      abbrev IsAlone : Happening → Type 0
      IsAlone event =
          ((deed : Deed) × (job_event stamp event ≡ did deed ∷ []))
          ⊎ ((path : List ℕ) → Contains paths path → LeavesAlone path (effects event))

      alone-step : (ticket owner time : ℕ) (deed : Deed) → StepOf last owner deed
          → IsAlone (world.Step ticket owner deed time)
      alone-step ticket owner time deed step = by (cases_Bool (owner == stamp))
        where
          apart : (owner == stamp) ≡ false → step.node ≢ node
          apart other same =
              false≢true (sym other ∙ eq-eqb owner stamp (step.owned ∙ (ap (owner_of last) same ∙ owned)))

          clash : (owner == stamp) ≡ false → (path : List ℕ) → IsMine path → Touches step.node path → ⊥
          clash other path (inl is) touches =
              name-apart node step.node within (apart other) (subst (Touches step.node) is touches)
          clash other path (inr own) touches = touch-apart node step.node path (apart other) own touches

          by : ((owner == stamp) ≡ true) ⊎ ((owner == stamp) ≡ false) → IsAlone (world.Step ticket owner deed time)
          by (inl same) = inl (deed, rw same refl)
          by (inr other) =
              inr (λ path has.
              step-leaves time path deed
              (λ changes_it.
              clash other path (mine path has)
              (step.touches path (contains-any (changed_paths (deed ∷ [])) path changes_it))))

      -- make changes a meta file
      meta-elsewhere : (given path : List ℕ) → has_job (node_at work.plan node) ≡ true
          → is_meta_path given ≡ true → Contains paths path → given ≡ path → ⊥
      meta-elsewhere given path has meta among same = by (mine path among)
        where
          path_meta : is_meta_path path ≡ true
          path_meta = subst (λ l. is_meta_path l ≡ true) same meta

          by : IsMine path → ⊥
          by (inl is) =
              false≢true (sym (ready.mode.no_meta_names node has) ∙ (ap is_meta_path (sym is) ∙ path_meta))
          by (inr own) = meta-apart node path path_meta own

      -- or it removes the target of another node
      gone-elsewhere : (build : Build) (n : ℕ) (given path : List ℕ) → IsOpenJob build node
          → GoneOf build n given → Contains paths path → given ≡ path → ⊥
      gone-elsewhere build n given path is_open is among same = by (mine path among)
        where
          due-clash : {duty : Duty} → build.duty ≡ duty → duty ≡ remove n
          due-clash {duty} due = sym due ∙ is.due

          other : n ≢ node
          other here = shut is_open
            where
              shut : IsOpenJob build node → ⊥
              shut (inl opens) =
                  let both : Some Open ≡ Some Failed =
                  sym opens ∙ (ap (slice_get build.run.nodes) (sym here) ∙ is.shut) in absurd cc
              shut (inr (inl due)) = let both : begin node ≡ remove n = due-clash due in absurd cc
              shut (inr (inr (inl due))) = let both : date node ≡ remove n = due-clash due in absurd cc
              shut (inr (inr (inr due))) = let both : close node ≡ remove n = due-clash due in absurd cc

          by : IsMine path → ⊥
          by (inl at) =
              other (names-differ work ready.well_made n node is.within within (sym is.path_is ∙ (same ∙ at)))
          by (inr own) =
              name-apart n node is.within (λ here. other (sym here))
              (subst (Touches node) (sym same ∙ is.path_is) own)

      alone-change : (build : Build) (n : ℕ) (change : Change) → IsOpenJob build node
          → has_job (node_at work.plan node) ≡ true
          → IsOwnChange last build n change → IsAlone (changed change)
      alone-change build n (gone given time) is_open has is =
          inr (λ path among. (gone-elsewhere build n given path is_open is among, tt))
      alone-change build n (head given bytes time) is_open has is =
          inr (λ path among. (meta-elsewhere given path has is.meta among, tt))
      alone-change build n (whole given bytes time) is_open has is =
          inr (λ path among. (meta-elsewhere given path has is among, tt))
      alone-change build n (cut_head given part time) is_open has is =
          inr (λ path among. (meta-elsewhere given path has is among, tt))
      alone-change build n (cut_whole given part time) is_open has is =
          inr (λ path among. (meta-elsewhere given path has is among, tt))

      abbrev MayChangeMeta : List Item → Type 0
      MayChangeMeta items = (has_job (node_at work.plan node) ≡ true) ⊎ AllByRecursion IsNoChange items

      rest-may : (item : Item) (items : List Item) → MayChangeMeta (item ∷ items) → MayChangeMeta items
      rest-may item items (inl has) = inl has
      rest-may item items (inr none) = inr none.1

      alone-all : (items : List Item) (build : Build) → AllOwned last build items
          → IsOpenAlong work tasks build node items → MayChangeMeta items
          → AllByRecursion IsAlone (happened_all items)
      alone-all [] build each along may = tt
      alone-all (looks n seen ∷ items) build each along may =
          (inr (λ path among. tt), alone-all items _ each.1 along.1 (rest-may (looks n seen) items may))
      alone-all (keeps n ∷ items) build each along may = alone-all items _ each.1 along.1 (rest-may (keeps n) items may)
      alone-all (refuses n number what ∷ items) build each along may =
          alone-all items _ each.1 along.1 (rest-may (refuses n number what) items may)
      alone-all (starts n number ticket owner cmd ∷ items) build each along may = (
        inr (λ path among. tt),
        alone-all items _ each.1 along.1 (rest-may (starts n number ticket owner cmd) items may),
      )
      alone-all (passes n number ∷ items) build each along may =
          alone-all items _ each.1 along.1 (rest-may (passes n number) items may)
      alone-all (waits ∷ items) build each along may = alone-all items _ each.1 along.1 (rest-may waits items may)
      alone-all (steps ticket owner deed time ∷ items) build each along may = (
        alone-step ticket owner time deed each.0,
        alone-all items _ each.1 along.1 (rest-may (steps ticket owner deed time) items may),
      )
      alone-all (ends n number owner ended ∷ items) build each along may = (
        inr (λ path among. tt),
        alone-all items _ each.1 along.1 (rest-may (ends n number owner ended) items may),
      )
      alone-all (changes n change ∷ items) build each along (inl has) =
          (alone-change build n change along.0 has each.0, alone-all items _ each.1 along.1 (inl has))
      alone-all (changes n change ∷ items) build each along (inr none) = absurd none.0
      alone-all (leaves ticket owner ∷ items) build each along may =
          (inr (λ path among. tt), alone-all items _ each.1 along.1 (rest-may (leaves ticket owner) items may))

  -- the whole build

  job-alone : (before during after : List Item) (node stamp : ℕ) (path bytes : List ℕ) (last : Build)
      → Makes work tasks (first_build work)
      (before ++ changes node (head path bytes stamp) ∷ (during ++ after))
      → EachOwned last (first_build work) (before ++ changes node (head path bytes stamp) ∷ (during ++ after))
      → IsOpenAlong work tasks
      (build_after_all work tasks (first_build work) (before ++ changes node (head path bytes stamp) ∷ [])) node during
      → Alone stamp (name node ∷ changed_paths (deeds_in stamp during)) (happened_all during)
  job-alone before during after node stamp path bytes last makes each along =
      alone-all last each.differ node stamp opened.owned opened.later opened.within
      (name node ∷ changed_paths (deeds_in stamp during))
      (mine-of last each.differ node stamp opened.owned opened.later opened_build during owned) during opened_build
      owned (subst (λ b. IsOpenAlong work tasks b node during)
      (build_after_all-append work tasks (first_build work) before (opens ∷ [])) along) may
    where
      opens : Item
      opens = changes node (head path bytes stamp)

      built : Build
      built = build_after_all work tasks (first_build work) before

      opened_build : Build
      opened_build = build_after work tasks built opens

      parts : AllOwned last built (opens ∷ (during ++ after))
      parts = owned-last last (first_build work) before (opens ∷ (during ++ after)) each.each

      opened : HeadOf last node stamp path
      opened = parts.0

      owned : AllOwned last opened_build during
      owned = owned-first last opened_build during after parts.1

      late : Makes work tasks built (opens ∷ (during ++ after))
      late = makes-last work tasks (first_build work) before (opens ∷ (during ++ after)) makes

      may : (has_job (node_at work.plan node) ≡ true) ⊎ AllByRecursion IsNoChange during
      may = by (begins-job work tasks (during ++ after) opened_build node late.3 refl late.2.0.may.0)
        where
          by : (has_job (node_at work.plan node) ≡ true) ⊎ AllByRecursion IsNoChange (during ++ after)
              → (has_job (node_at work.plan node) ≡ true) ⊎ AllByRecursion IsNoChange during
          by (inl has) = inl has
          by (inr none) = inr (all-first IsNoChange during after none)

  apart-by : (items : List Item) → Makes work tasks (first_build work) items
      → EachOwned (build_after_all work tasks (first_build work) items) (first_build work) items
      → IsApart work tasks items
  apart-by items makes each = record {
    steps_apart = λ ticket owner time deed target has changes_it.
        let step = (owned-at last (first_build work) items (steps ticket owner deed time) each.each has).1 in
        meta-apart step.node (meta_path target) (meta_path-is target)
        (step.touches (meta_path target)
        (contains-any (changed_paths (deed ∷ [])) (meta_path target) changes_it));
    jobs_apart = λ before during after node stamp path bytes are along.
        job-alone before during after node stamp path bytes last
        (subst (Makes work tasks (first_build work)) are makes)
        (subst (EachOwned last (first_build work)) are each) along;
  }
    where
      last : Build
      last = build_after_all work tasks (first_build work) items

none-has : (before : List (List ℕ)) (node : ℕ)
    → slice_get (map (λ one. Undecided) before) node ≡ Some Open → ⊥
none-has [] node is = absurd cc
none-has (one ∷ before) zero is = absurd cc
none-has (one ∷ before) (suc node) is = none-has before node is

pub keep_apart : BuildsKeepApart
keep_apart meaning work tasks items old new ready makes happens last =
    let entry = state_of old in
    let tail = last.left ++ last.late in
    let parts = last-parts meaning work tasks entry items last makes happens.lawful happens.fits in
    apart-by meaning work tasks old ready items makes
    (subst (λ l. EachOwned meaning work tasks old ready (build_after_all work tasks (first_build work) l)
    (first_build work) l) (sym last.are)
    (each-owned meaning work tasks old ready last.front tail last.front [] (first_build work) entry []
    (turn.first_build (contents entry.files)) refl (good-first meaning work tasks entry ready.idle ready.well_made) (
      deciding-first meaning work tasks entry ready.idle ready.well_made ready.declared ready.mode.no_meta_names,
      λ m due. absurd (free-not m due),
    )
    (owned-none meaning work tasks entry ready.idle ready.well_made (first_build work) (λ node. refl)
    (λ node has. none-has (rules_of work).before node has.0))
    (subst (Makes work tasks (first_build work)) last.are makes)
    (subst (λ l. MayHappen meaning entry (happened_all l)) last.are happens.lawful) parts.fits last.none parts.late))

-- so meta files stay true
pub stay_true : BuildsStayTrue
stay_true meaning work tasks items old new ready makes happens last =
    meta_files_true meaning work tasks items old new ready.lawful ready.idle ready.truth makes happens last
    (keep_apart meaning work tasks items old new ready makes happens last)
