-- Item by item, a build has the tasks of its sound clean build.
use Rattle.std.proofs.Common.{◌≡◌, ◌≢◌, ◌⊎◌, ◌∙◌, ℕ, ◌<◌, ◌==◌, Bool, true, false, not, List, [], ◌∷◌, ◌++◌, length, slice_get, Option, Some, None, is_some, if◌then◌else◌}
use Rattle.std.proofs.Common.{inl, inr, refl, sym, ap, subst, set, arith}
use Rattle.std.proofs.lemmas.Bool.{false≢true}
use Rattle.std.specs.List.{AllByRecursion}
use Rattle.std.specs.Option.{option_map}
use Rattle.mk_clean.proofs.BesideLemmas.{at_first, turns_keep}
use Rattle.mk_clean.specs.Clean.{IsAmong, Plan, clean_build}
use Rattle.mk_clean.specs.Declared.{IsDeclared}
use Rattle.mk_clean.specs.Turns as turn
use Rattle.mk_decision.specs.Decisions.{IsBegun, IsKept, Work}
use Rattle.mk_headline.proofs.ApartLemmas.{keep_apart}
use Rattle.mk_headline.proofs.FullLemmas.{full_turns}
use Rattle.mk_headline.proofs.GoodLemmas.{begun-has}
use Rattle.mk_headline.proofs.LateLemmas.{IsLate, last-parts, late-all-same, late-makes, none-given}
use Rattle.mk_headline.proofs.PastLemmas.{Past, none-first, past-more}
use Rattle.mk_headline.proofs.PlanLemmas.{are-well-made, job-has}
use Rattle.mk_headline.specs.Laws.{IsBuildOfTurns}
use Rattle.mk_headline.specs.Plans.{clean_plan, has_job, jobs_from}
use Rattle.mk_headline.specs.Premises.{IsWellMade}
use Rattle.mk_meta.specs.TrueHistory.{IsTrueHistory}
use Rattle.mk_plan.specs.Lists.{is_nil}
use Rattle.mk_plan.specs.Plans.{node_at}
use Rattle.mk_plan.specs.declared.plan.NodeState.{NodeState}
use Rattle.mk_plan.specs.declared.plan.NodeState.TheVariants.{Failed, Open, Settled}
use Rattle.mk_run.proofs.CleanRunLemmas.{same-jobs}
use Rattle.mk_run.specs.CleanRuns.{bare, clean_jobs_of}
use Rattle.mk_sound.proofs.AgreeLemmas.{Agree, build-agrees, goes_by, make-agrees, node_of, run-agrees}
use Rattle.mk_sound.proofs.KnownLemmas.{Known, known-first, known-next}
use Rattle.mk_sound.proofs.SourceLemmas.{IsStill, SawRight, task-lines}
use Rattle.mk_sound.specs.Sound.{BuildsHaveCleanTasks, IsSound}
use Rattle.mk_trace.proofs.BegunLemmas.{Steady, end-open, steady-all}
use Rattle.mk_trace.proofs.ItemLemmas.{state_of-happened}
use Rattle.mk_trace.proofs.TrueLemmas.{meta_files_true}
use Rattle.mk_trace.proofs.TrueRuns.{slice-same}
use Rattle.mk_trace.specs.Builds.{Build, HasReason, Makes, MayChange, MayFollow, MayMake, build_after, build_after_all, due_change, first_build, free, begin, date, close, rules_of}
use Rattle.mk_trace.specs.Calls.{GivesUpLast, NoneLeft}
use Rattle.mk_trace.specs.Items.{Change, gone, head, whole, cut_head, cut_whole, Fits, FitsAll, Happened, IsSeenIn, Item, looks, keeps, refuses, starts, passes, waits, steps, ends, changes, leaves, happened, happened_all, reported}
use Rattle.mk_trace.specs.Runs as run
use Rattle.mk_trace.specs.TrueBuilds.{IsOpenJob, behind}
use Rattle.mk_values.specs.declared.fault.ExpandFault.{ExpandFault}
use Rattle.mk_world.proofs.CallLemmas.{MayAll-parts}
use Rattle.mk_world.specs.Calls.{when_of}
use Rattle.mk_world.specs.Deeds.{Store}
use Rattle.mk_world.specs.History.{FileMap, Filed, State as Stand, MayAll as MayHappen, after_all as stand_after, contents, files_of, state_of}
use Rattle.mk_world.specs.Lawful.{IsLawful}
use Rattle.mk_world.specs.Looks.{Seen, dated, is_missing, read}
use Rattle.mk_world.specs.Talks.{Meaning}
use Rattle.mk_world.specs.declared.history.History.{History}

among-parts : {A : Type 0} (items : List A) (last one : A) → IsAmong one (items ++ last ∷ [])
    → IsAmong one items ⊎ (one ≡ last)
among-parts [] last one (inl is) = inr is
among-parts [] last one (inr among) = absurd among
among-parts (item ∷ items) last one (inl is) = inl (inl is)
among-parts (item ∷ items) last one (inr among) = by (among-parts items last one among)
  where
    by : IsAmong one items ⊎ (one ≡ last) → IsAmong one (item ∷ items) ⊎ (one ≡ last)
    by (inl there) = inl (inr there)
    by (inr is) = inr is

-- a time tells whether a file is there
when-is : (files : FileMap) (path : List ℕ) → not (is_missing (when_of (files path))) ≡ is_some (contents files path)
when-is files path = by (files path)
  where
    by : (file : Option Filed)
        → not (is_missing (when_of file)) ≡ is_some (option_map (λ (one : Filed). one.bytes) file)
    by None = refl
    by (Some file) = refl

commands-has : (commands : List (List ℕ)) → 0 < length commands → not (is_nil commands) ≡ true
commands-has [] some = absurd (omega (arith, some))
commands-has (one ∷ commands) some = refl

none-has : (commands : List (List ℕ)) → commands ≡ [] → not (is_nil commands) ≡ true → ⊥
none-has [] is has = absurd (false≢true has)
none-has (one ∷ commands) is has = cc

module _ (meaning : Meaning) (work : Work) (lines tasks : run.Tasks) (old : History)
    (lawful : IsLawful meaning old) (idle : (state_of old).children ≡ [])
    (truth : IsTrueHistory meaning.next old) (well : IsWellMade work)
    (sound : IsSound meaning work lines (files_of old))
  where
    abbrev entry : Stand
    entry = state_of old

    abbrev store : Store
    store = files_of old

    abbrev plan : Plan
    plan = clean_plan work lines

    abbrev IsPast : List Item → Build → Stand → Type 0
    IsPast = Past meaning work lines entry idle

    abbrev Right : Seen → Type 0
    Right = SawRight meaning work lines store sound

    -- the jobs of the clean build are those of the plan with these lines
    jobs-are : clean_jobs_of meaning work (bare work.plan store) ≡ clean_build meaning plan store
    jobs-are =
        (same-jobs meaning work work lines (jobs_from 0 work.plan) (bare work.plan store)
        (λ n among. (job-has work n among).1)
        (λ one among. let its = sound.tasks_are one among in (its.asked, its.task))).0

    declared : IsDeclared plan (clean_build meaning plan store)
    declared = subst (IsDeclared plan) jobs-are sound.declared

    -- sources are as they were at the beginning

    happens : (done : List Item) (build : Build) (stand : Stand) → IsPast done build stand
        → Happened meaning done old (behind old done)
    happens done build stand past = record { base = refl; events = refl; lawful = past.happens; fits = past.fits }

    turned : (done : List Item) (build : Build) (stand : Stand) → IsPast done build stand
        → IsBuildOfTurns meaning work lines done old (behind old done)
    turned done build stand past =
        full_turns meaning work lines done old (behind old done) lawful idle truth well sound.mode declared past.makes
        (happens done build stand past) (none-given done past.none)

    still-is : (done : List Item) (build : Build) (stand : Stand) → IsPast done build stand
        → (path : List ℕ) → IsStill meaning work lines store sound path → contents stand.files path ≡ store path
    still-is done build stand past path still =
        let built = turned done build stand past in
        let beside = turns_keep meaning plan store declared (are-well-made meaning work lines store well)
        (turn.first_build store) built.turns
        (at_first meaning plan store declared (are-well-made meaning work lines store well)) built.may in
        let now : files_of (behind old done) ≡ contents stand.files =
        ap (λ (s : Stand). contents s.files)
        (state_of-happened meaning done old (behind old done) (happens done build stand past) ∙ past.stand_at) in
        ap (λ (files : Store). files path) (sym now)
        ∙ (ap (λ (files : Store). files path) (sym built.files)
        ∙ beside.sources path
        (λ one among. still.alone one (subst (IsAmong one) (sym jobs-are) among)) still.no_made still.no_meta)

    -- looks saw that

    abbrev SeenRight : Build → Type 0
    SeenRight build = (node : ℕ) (look : Seen) → IsAmong look (build.seen node) → Right look

    look-right : (done : List Item) (build : Build) (stand : Stand) → IsPast done build stand
        → (look : Seen) → IsSeenIn stand look → Right look
    look-right done build stand past (dated one) is = λ still.
        ap (λ when. not (is_missing when)) is
        ∙ (when-is stand.files one.path
        ∙ ap (λ (bytes : Option (List ℕ)). is_some bytes) (still-is done build stand past one.path still))
    look-right done build stand past (read path bytes) is = tt

    seen-more : (build : Build) (node : ℕ) (new : Seen) → SeenRight build → Right new → (own : Bool) (look : Seen)
        → IsAmong look (if own then build.seen node ++ new ∷ [] else build.seen node) → Right look
    seen-more build node new right fresh true look among = by (among-parts (build.seen node) new look among)
      where
        by : IsAmong look (build.seen node) ⊎ (look ≡ new) → Right look
        by (inl there) = right node look there
        by (inr is) = subst Right (sym is) fresh
    seen-more build node new right fresh false look among = right node look among

    seen-next : (done : List Item) (build : Build) (stand : Stand) (item : Item) → IsPast done build stand
        → Fits meaning stand item → SeenRight build
        → SeenRight (build_after work tasks build item)
    seen-next done build stand (looks n seen) past fits right = λ node look among.
        seen-more build node seen right (look-right done build stand past seen fits) (node == n) look among
    seen-next done build stand (keeps n) past fits right = right
    seen-next done build stand (refuses n number what) past fits right = right
    seen-next done build stand (starts n number ticket owner cmd) past fits right = right
    seen-next done build stand (passes n number) past fits right = right
    seen-next done build stand waits past fits right = right
    seen-next done build stand (steps ticket owner deed time) past fits right = right
    seen-next done build stand (ends n number owner ended) past fits right = right
    seen-next done build stand (changes n change) past fits right = right
    seen-next done build stand (leaves ticket owner) past fits right = right

    -- the lines of a node that is decided

    begun-lines : (build : Build) (node : ℕ) → SeenRight build → IsBegun work node (build.seen node) (tasks node)
        → 0 < length (tasks node) → tasks node ≡ lines node
    begun-lines build node right begun some =
        begun.3 ∙ task-lines meaning work lines store sound node
        (begun-has work node (build.seen node) (tasks node) begun some) (build.seen node) begun.0 (Some begun.1) begun.2
        (right node)

    kept-lines : (build : Build) (node : ℕ) → SeenRight build → IsKept work node (build.seen node) (tasks node)
        → has_job (node_at work.plan node) ≡ true → tasks node ≡ lines node
    kept-lines build node right (inl none) has = absurd (none-has (node_at work.plan node).commands none.0 has)
    kept-lines build node right (inr (some, task, judged, is)) has =
        is ∙ task-lines meaning work lines store sound node has (build.seen node) task None judged (right node)

    kept-too : (build : Build) (node : ℕ) → SeenRight build → IsKept work node (build.seen node) (tasks node)
        → IsKept work node (build.seen node) (lines node)
    kept-too build node right (inl none) = inl none
    kept-too build node right (inr (some, task, judged, is)) =
        inr (
          some,
          task,
          judged,
          sym (task-lines meaning work lines store sound node
              (commands-has (node_at work.plan node).commands some) (build.seen node) task None judged (right node)),
        )

    start-lines : (build : Build) (node number : ℕ) (due : run.Due) → Known work lines tasks build → SeenRight build
        → Steady build.run.nodes due → run.MayStart (rules_of work) tasks build.run node number due
        → HasReason work tasks build node number → tasks node ≡ lines node
    start-lines build node number run.anything known right steady may reason =
        begun-lines build node right (reason may.1) may.2
    start-lines build node number run.child known right steady may reason = absurd may
    start-lines build node number (run.line one next) known right steady may reason =
        known.in_hand node (inl (subst (λ n. slice_get build.run.nodes n ≡ Some Open) (sym may.0) steady))
    start-lines build node number (run.close one last) known right steady may reason = absurd may

    change-lines : (build : Build) (node : ℕ) (change : Change) → Known work lines tasks build → SeenRight build
        → build.duty ≡ due_change node change → MayChange work tasks build node change
        → (other : ℕ) → goes_by (changes node change) ≡ Some other → tasks node ≡ lines node
    change-lines build node (gone path time) known right duty may other is = absurd cc
    change-lines build node (head path bytes time) known right duty may other is =
        begun-lines build node right may.0.reason may.0.some
    change-lines build node (whole path bytes time) known right duty may other is =
        known.in_hand node (inr (inr (inr duty)))
    change-lines build node (cut_head path part time) known right duty may other is =
        begun-lines build node right may.1.reason may.1.some
    change-lines build node (cut_whole path part time) known right duty may other is =
        known.in_hand node (inr (inr (inr duty)))

    change-of : (node other : ℕ) (change : Change) → goes_by (changes node change) ≡ Some other → node ≡ other
    change-of node other (gone path time) is = absurd cc
    change-of node other (head path bytes time) is = cc
    change-of node other (whole path bytes time) is = cc
    change-of node other (cut_head path part time) is = cc
    change-of node other (cut_whole path part time) is = cc

    -- An item is one of the build with these lines, and what is known goes on.
    record Step (build : Build) (item : Item) : Type 0 where
      agree : Agree tasks lines item
      kept : (node : ℕ) → item ≡ keeps node → IsKept work node (build.seen node) (lines node)
      known : Known work lines tasks (build_after work tasks build item)

    -- an item that goes by the lines of this node
    by-lines : (build : Build) (item : Item) (node : ℕ) → Known work lines tasks build
        → ((other : ℕ) → goes_by item ≡ Some other → node ≡ other)
        → ((other : ℕ) → node_of item ≡ Some other → goes_by item ≡ Some other)
        → ((other : ℕ) → item ≢ keeps other)
        → ((other : ℕ) → goes_by item ≡ Some other → tasks node ≡ lines node) → Step build item
    by-lines build item node known same of no_keep own = record {
      agree = agree;
      kept = λ other is. absurd (no_keep other is);
      known = known-next work lines tasks build item known (λ other is is_open. agree other (of other is))
          (λ other is has settled. agree other (of other is));
    }
      where
        agree : Agree tasks lines item
        agree other is = subst (λ n. tasks n ≡ lines n) (same other is) (own other is)

    -- an item that goes by no lines, and decides nothing
    by-none : (build : Build) (item : Item) → Known work lines tasks build → goes_by item ≡ None → node_of item ≡ None
        → ((other : ℕ) → item ≢ keeps other) → Step build item
    by-none build item known goes of no_keep = record {
      agree = λ other is. let clash : None ≡ Some other = sym goes ∙ is in absurd cc;
      kept = λ other is. absurd (no_keep other is);
      known = known-next work lines tasks build item known
          (λ other is is_open. let clash : None ≡ Some other = sym of ∙ is in absurd cc)
          (λ other is has settled. let clash : None ≡ Some other = sym of ∙ is in absurd cc);
    }

    keep-step : (build : Build) (node : ℕ) → Known work lines tasks build → SeenRight build → build.duty ≡ free
        → IsKept work node (build.seen node) (tasks node) → Step build (keeps node)
    keep-step build node known right duty kept = record {
      agree = λ other is. absurd cc;
      kept = λ other is. subst (λ n. IsKept work n (build.seen n) (lines n)) (same-keep other is)
          (kept-too build node right kept);
      known = known-next work lines tasks build (keeps node) known opens
          (λ other is has settled.
          subst (λ n. tasks n ≡ lines n) (same-some other is)
          (kept-lines build node right kept
          (subst (λ n. has_job (node_at work.plan n) ≡ true) (sym (same-some other is)) has)));
    }
      where
        same-keep : (other : ℕ) → ◌≡◌ {A = Item} (keeps node) (keeps other) → node ≡ other
        same-keep other is = cc

        same-some : (other : ℕ) → ◌≡◌ {A = Option ℕ} (Some node) (Some other) → node ≡ other
        same-some other is = cc

        opens : (other : ℕ) → node_of (keeps node) ≡ Some other
            → IsOpenJob (build_after work tasks build (keeps node)) other → tasks other ≡ lines other
        opens other is (inl is_open) =
            let clash : Settled ≡ Open = slice-same build.run.nodes node Settled Open
            (subst (λ n. slice_get (set build.run.nodes node Settled) n ≡ Some Open) (sym (same-some other is)) is_open)
            in absurd cc
        opens other is (inr (inl due)) = let clash : free ≡ begin other = sym duty ∙ due in absurd cc
        opens other is (inr (inr (inl due))) = let clash : free ≡ date other = sym duty ∙ due in absurd cc
        opens other is (inr (inr (inr due))) = let clash : free ≡ close other = sym duty ∙ due in absurd cc

    -- a node that is refused has no lines
    refuse-step : (build : Build) (node number : ℕ) (what : ExpandFault) → Known work lines tasks build
        → build.duty ≡ free → Step build (refuses node number what)
    refuse-step build node number what known duty = record {
      agree = λ other is. absurd cc;
      kept = λ other is. absurd cc;
      known = known-next work lines tasks build (refuses node number what) known opens dones;
    }
      where
        same-some : (other : ℕ) → ◌≡◌ {A = Option ℕ} (Some node) (Some other) → node ≡ other
        same-some other is = cc

        at : {stands : NodeState} (other : ℕ) → node_of (refuses node number what) ≡ Some other
            → slice_get (set build.run.nodes node Failed) other ≡ Some stands → Failed ≡ stands
        at {stands} other is there =
            slice-same build.run.nodes node Failed stands
            (subst (λ n. slice_get (set build.run.nodes node Failed) n ≡ Some stands) (sym (same-some other is)) there)

        opens : (other : ℕ) → node_of (refuses node number what) ≡ Some other
            → IsOpenJob (build_after work tasks build (refuses node number what)) other → tasks other ≡ lines other
        opens other is (inl is_open) = let clash : Failed ≡ Open = at other is is_open in absurd cc
        opens other is (inr (inl due)) = let clash : free ≡ begin other = sym duty ∙ due in absurd cc
        opens other is (inr (inr (inl due))) = let clash : free ≡ date other = sym duty ∙ due in absurd cc
        opens other is (inr (inr (inr due))) = let clash : free ≡ close other = sym duty ∙ due in absurd cc

        dones : (other : ℕ) → node_of (refuses node number what) ≡ Some other
            → has_job (node_at work.plan other) ≡ true
            → slice_get (build_after work tasks build (refuses node number what)).run.nodes other ≡ Some Settled
            → tasks other ≡ lines other
        dones other is has settled = let clash : Failed ≡ Settled = at other is settled in absurd cc

    step : (build : Build) (item : Item) → Known work lines tasks build → SeenRight build
        → Steady build.run.nodes build.run.due → run.MayAll (rules_of work) tasks build.run (reported item)
        → MayFollow work build.duty item → MayMake work tasks build item
        → NoneLeft (item ∷ []) → Step build item
    step build (looks n seen) known right steady may follow make none =
        by-none build (looks n seen) known refl refl (λ other is. cc)
    step build (keeps n) known right steady may follow make none = keep-step build n known right follow make
    step build (refuses n number what) known right steady may follow make none =
        refuse-step build n number what known follow
    step build (starts n number ticket owner cmd) known right steady may follow make none =
        by-lines build (starts n number ticket owner cmd) n known (λ other is. cc) (λ other is. is) (λ other is. cc)
        (λ other is. start-lines build n number build.run.due known right steady may.0 make.0)
    step build (passes n number) known right steady may follow make none =
        by-lines build (passes n number) n known (λ other is. cc) (λ other is. is) (λ other is. cc)
        (λ other is. start-lines build n number build.run.due known right steady may.0 make)
    step build waits known right steady may follow make none =
        by-none build waits known refl refl (λ other is. cc)
    step build (steps ticket owner deed time) known right steady may follow make none =
        by-none build (steps ticket owner deed time) known refl refl (λ other is. cc)
    step build (ends n number owner ended) known right steady may follow make none =
        by-lines build (ends n number owner ended) n known (λ other is. cc) (λ other is. is) (λ other is. cc)
        (λ other is. known.in_hand n (inl (end-open build.run n number ended.status build.run.due steady may.0)))
    step build (changes n change) known right steady may follow make none =
        by-lines build (changes n change) n known (λ other is. change-of n other change is) (λ other is. is)
        (λ other is. cc) (change-lines build n change known right follow make)
    step build (leaves ticket owner) known right steady may follow make none = absurd none

    -- the items to come are those of the build with these lines, and what is known behind them
    pub record Walked (build : Build) (todo : List Item) : Type 0 where
      pub makes : Makes work lines build todo
      pub known : Known work lines tasks (build_after_all work tasks build todo)

    walk : (tail done todo : List Item) (build : Build) (stand : Stand) → IsPast done build stand
        → Known work lines tasks build → SeenRight build → Steady build.run.nodes build.run.due
        → Makes work tasks build (todo ++ tail) → MayHappen meaning stand (happened_all todo)
        → FitsAll meaning stand todo → NoneLeft todo → AllByRecursion IsLate tail → Walked build (todo ++ tail)
    walk tail done [] build stand past known right steady makes may fits none late = record {
      makes = late-makes work lines build tail late;
      known = subst (Known work lines tasks) (sym (late-all-same work tasks build tail late)) known;
    }
    walk tail done (item ∷ todo) build stand past known right steady makes may fits none late =
        let rest = walk tail (done ++ item ∷ []) todo (build_after work tasks build item)
        (stand_after stand (happened item))
        (subst (λ b. IsPast (done ++ item ∷ []) b (stand_after stand (happened item))) same
        (past-more meaning work lines entry idle done build stand item past one_makes parts.0 fits.0 apart.0))
        here.known
        (seen-next done build stand item past fits.0 right)
        (steady-all (rules_of work) tasks build.run (reported item) steady makes.0) makes.3 parts.1 fits.1 apart.1
        late in
        record {
          makes = (
            one_makes.0,
            one_makes.1,
            one_makes.2,
            subst (λ b. Makes work lines b (todo ++ tail)) (sym same) rest.makes,
          );
          known = rest.known;
        }
      where
        apart : NoneLeft (item ∷ []) × NoneLeft todo
        apart = none-first item todo none

        parts : MayHappen meaning stand (happened item)
            × MayHappen meaning (stand_after stand (happened item)) (happened_all todo)
        parts = MayAll-parts meaning stand (happened item) (happened_all todo) may

        here : Step build item
        here = step build item known right steady makes.0 makes.1 makes.2 apart.0

        same : build_after work lines build item ≡ build_after work tasks build item
        same = build-agrees work tasks lines build item here.agree

        one_makes : Makes work lines build (item ∷ [])
        one_makes = (
          run-agrees work tasks lines build item here.agree makes.0,
          makes.1,
          make-agrees work tasks lines build item here.agree here.kept makes.2,
          tt,
        )

    pub walked : (items : List Item) (new : History) → Makes work tasks (first_build work) items
        → Happened meaning items old new → GivesUpLast items → Walked (first_build work) items
    walked items new makes happens last =
        let tail = last.left ++ last.late in
        let parts = last-parts meaning work tasks entry items last makes happens.lawful happens.fits in
        subst (Walked (first_build work)) (sym last.are)
        (walk tail [] last.front (first_build work) entry
        (record { at = refl; stand_at = refl; makes = tt; happens = tt; fits = tt; none = tt })
        (known-first work lines tasks) (λ node look among. absurd among) tt
        (subst (Makes work tasks (first_build work)) last.are makes) parts.happens parts.fits last.none parts.late)

    -- so meta files stay true
    pub truth-behind : (items : List Item) (new : History) → Makes work tasks (first_build work) items
        → Happened meaning items old new → GivesUpLast items → IsTrueHistory meaning.next new
    truth-behind items new makes happens last =
        let makes_lines = (walked items new makes happens last).makes in
        meta_files_true meaning work lines items old new lawful idle truth makes_lines happens last
        (keep_apart meaning work lines items old new
        (record {
          lawful = lawful;
          idle = idle;
          truth = truth;
          well_made = well;
          mode = sound.mode;
          declared = declared;
        }) makes_lines happens last)

    -- and sources stand as they did
    pub source-behind : (items : List Item) (new : History) → Makes work tasks (first_build work) items
        → Happened meaning items old new → GivesUpLast items
        → (path : List ℕ) → IsStill meaning work lines store sound path → files_of new path ≡ store path
    source-behind items new makes happens last path still =
        let built = full_turns meaning work lines items old new lawful idle truth well sound.mode declared
        (walked items new makes happens last).makes happens last in
        let beside = turns_keep meaning plan store declared (are-well-made meaning work lines store well)
        (turn.first_build store) built.turns
        (at_first meaning plan store declared (are-well-made meaning work lines store well)) built.may in
        ap (λ (files : Store). files path) (sym built.files)
        ∙ beside.sources path
        (λ one among. still.alone one (subst (IsAmong one) (sym jobs-are) among)) still.no_made still.no_meta

pub have_clean_tasks : BuildsHaveCleanTasks
have_clean_tasks meaning work lines tasks items old new lawful idle truth well sound makes happens last =
    (walked meaning work lines tasks old lawful idle truth well sound items new makes happens last).known.done
