-- Builds in meta mode are builds of turns.
use Rattle.std.proofs.Common.{◌≡◌, ◌∙◌, ◌⊎◌, ℕ, not, List, [], ◌∷◌, ◌++◌, None, Bool, true, false}
use Rattle.std.proofs.Common.{inl, inr, refl, sym, ap, subst, append_assoc}
use Rattle.mk_clean.specs.Clean.{Plan, clean_build}
use Rattle.mk_clean.specs.Declared.{IsDeclared}
use Rattle.mk_clean.specs.Turns as turn
use Rattle.mk_clean.specs.Turns.{Turn, MayKeep, after_turns}
use Rattle.mk_decision.specs.Decisions.{Work, IsJudged, IsKept}
use Rattle.mk_headline.proofs.DecideLemmas.{DueDone, due-on, Deciding, EachDeciding, NotRead, ReadAt, decided-on, deciding-first, look-next, since}
use Rattle.mk_headline.proofs.FirstLemmas.{none-keep}
use Rattle.mk_headline.proofs.GoodLemmas.{Good, good-first, item-turns, sources-ready, waits-ready}
use Rattle.mk_headline.proofs.KeepLemmas.{Looked, judged-keeps, unread-never, always-never, fits-parts}
use Rattle.mk_headline.proofs.LookLemmas.{first_look, SawWhen, AllSeen}
use Rattle.mk_headline.proofs.LateLemmas.{Turned, last-parts, turned-last}
use Rattle.mk_headline.proofs.LoopLemmas.{Steps, turned-all}
use Rattle.mk_headline.proofs.TurnLemmas.{Turning, kept}
use Rattle.mk_headline.specs.Laws.{BuildsAreTurns}
use Rattle.mk_headline.specs.Plans.{clean_plan, has_job, makes_file}
use Rattle.mk_headline.specs.Premises.{IsWellMade, GoesByMetaMode}
use Rattle.mk_meta.specs.TrueHistory.{IsTrueHistory, meta_path}
use Rattle.mk_plan.specs.Lists.{is_nil}
use Rattle.mk_plan.specs.Plans.{node_at}
use Rattle.mk_trace.proofs.BegunLemmas.{may-undecided}
use Rattle.mk_trace.proofs.ItemLemmas.{happened_all-append}
use Rattle.mk_trace.proofs.TrueIdle.{free-not}
use Rattle.mk_trace.specs.Builds.{Build, free, begin, stop, Makes, first_build, build_after, rules_of}
use Rattle.mk_trace.specs.Calls.{NoneLeft}
use Rattle.mk_trace.specs.Items.{Item, looks, keeps, refuses, starts, passes, waits, steps, ends, changes, leaves, path_of, happened, happened_all, FitsAll}
use Rattle.mk_trace.specs.Runs as run
use Rattle.mk_world.proofs.CallLemmas.{after_all-append, MayAll-append}
use Rattle.mk_world.specs.Calls.{when_of}
use Rattle.mk_world.specs.History.{State as Stand, MayAll as MayHappen, after_all as stand_after, contents, first_state, state_of}
use Rattle.mk_world.specs.Lawful.{IsLawful}
use Rattle.mk_world.specs.Looks.{Seen}
use Rattle.mk_world.specs.Talks.{Meaning}
use Rattle.mk_world.specs.declared.command.Task.{Task}
use Rattle.mk_world.specs.declared.history.History.{History}

module _ (meaning : Meaning) (work : Work) (tasks : run.Tasks) (old : History)
    (lawful : IsLawful meaning old) (idle : (state_of old).children ≡ [])
    (truth : IsTrueHistory meaning.next old) (well : IsWellMade work) (mode : GoesByMetaMode work tasks)
    (declared : IsDeclared (clean_plan work tasks)
    (clean_build meaning (clean_plan work tasks) (contents (state_of old).files)))
    (whole : List Item) where
  abbrev plan : Plan
  plan = clean_plan work tasks

  abbrev entry : Stand
  entry = state_of old

  abbrev IsGood : List Item → Build → Stand → List Turn → turn.Build → Type 0
  IsGood = Good meaning work tasks entry idle well

  abbrev Each : List Item → Build → Stand → turn.Build → Type 0
  Each done build stand clean =
      EachDeciding meaning work tasks entry idle well declared mode.no_meta_names done build stand clean

  abbrev Due : Build → Type 0
  Due build = DueDone meaning work tasks entry idle well declared mode.no_meta_names build

  abbrev Extra : List Item → Build → Stand → turn.Build → Type 0
  Extra done build stand clean = Each done build stand clean × Due build

  -- what stays of the nodes that are not decided, behind an item with these turns
  extra-on : (done : List Item) (build : Build) (stand : Stand) (turns : List Turn) (clean : turn.Build)
      (item : Item) → IsGood done build stand turns clean → Extra done build stand clean
      → Makes work tasks build (item ∷ []) → NoneLeft (item ∷ [])
      → ((n : ℕ) (seen : Seen) → item ≡ looks n seen → ⊥)
      → (now : Turning meaning work tasks build stand clean item)
      → Extra (done ++ item ∷ []) (build_after work tasks build item) (stand_after stand (happened item))
      (after_turns plan clean now.now)
  extra-on done build stand turns clean item good extra makes none other now = (
    decided-on meaning work tasks entry idle well declared mode.no_meta_names done build stand turns clean item
        good extra.0 extra.1 makes none other now,
    due-on meaning work tasks entry idle well declared mode.no_meta_names done build stand turns clean item good
        extra.1 makes none,
  )

  -- a node that the test keeps
  judged-may : (done : List Item) (build : Build) (stand : Stand) (turns : List Turn)
      (clean : turn.Build) (n : ℕ) → IsGood done build stand turns clean
      → (task : Task) → IsJudged work n (build.seen n) task None → tasks n ≡ task.lines
      → has_job (node_at work.plan n) ≡ true
      → Deciding meaning work tasks entry idle well declared mode.no_meta_names n done build stand clean
      → MayKeep meaning plan clean n
  judged-may done build stand turns clean n good task judged lines_are has deciding =
      by deciding.phase
    where
      makes : makes_file (node_at work.plan n) ≡ true
      makes = rw (has, always-never work n (build.seen n) task judged) refl

      by : NotRead meaning work tasks entry idle well declared mode.no_meta_names n build clean
          ⊎ ReadAt meaning work tasks entry idle well declared mode.no_meta_names n done build clean
          → MayKeep meaning plan clean n
      by (inl not_read) =
          absurd (unread-never work n (build.seen n) task (mode.by_records n makes) not_read.dated_all judged)
      by (inr at) =
          judged-keeps meaning work tasks old.base old.events (happened_all at.front) n clean at.late
          (build.seen n) at.first at.path at.bytes task known judged
        where
          front_is : stand_after (first_state old.base) (old.events ++ happened_all at.front)
              ≡ stand_after entry (happened_all at.front)
          front_is = after_all-append (first_state old.base) old.events (happened_all at.front)

          stand_is : stand
              ≡ stand_after (stand_after (first_state old.base) (old.events ++ happened_all at.front))
              (happened_all at.late)
          stand_is =
              since meaning work tasks entry idle well declared mode.no_meta_names at.front at.late done build
              stand good.past at.cut
              ∙ ap (λ s. stand_after s (happened_all at.late)) (sym front_is)

          happens : MayHappen meaning entry (happened_all at.front ++ happened_all at.late)
          happens = subst (MayHappen meaning entry)
              (ap happened_all at.cut ∙ happened_all-append at.front at.late) good.past.happens

          fits : FitsAll meaning entry at.front
              × FitsAll meaning (stand_after entry (happened_all at.front)) at.late
          fits = fits-parts meaning entry at.front at.late
              (subst (FitsAll meaning entry) at.cut good.past.fits)

          known : Looked meaning work tasks old.base old.events (happened_all at.front) n clean at.late
              (build.seen n) at.first at.path at.bytes task
          known = record {
            lawful = subst (MayHappen meaning (first_state old.base))
                (sym (append_assoc old.events (happened_all at.front) (happened_all at.late)))
                (MayAll-append meaning (first_state old.base) old.events
                (happened_all at.front ++ happened_all at.late) lawful.events happens);
            of = at.of;
            fits = subst (λ s. FitsAll meaning s at.late) (sym front_is) fits.1;
            leave = at.leave;
            told = truth;
            stays = ap (λ (s : Stand). s.files (meta_path (node_at work.plan n).name)) front_is ∙ at.stays;
            looks_are = λ other.
                at.looks_are other ∙ ap (λ s. first_look s at.late other) (sym front_is);
            files = sym good.files ∙ ap (λ (s : Stand). contents s.files) stand_is;
            first_dated = at.first_dated;
            seen_is = at.seen_is;
            text = at.text ∙ ap (λ (s : Stand). contents s.files at.path) (sym front_is);
            target = subst (λ (s : Stand). AllSeen
                (λ seen. path_of seen ≡ (node_at work.plan n).name
                → SawWhen (when_of (s.files (node_at work.plan n).name)) seen) (build.seen n)) stand_is
                (deciding.target has);
            lines_are = lines_are;
            has = has;
            goes = mode.by_records n makes;
            compared = mode.compared n makes;
            none_ignored = mode.none_ignored;
          }

  kept-may : (done : List Item) (build : Build) (stand : Stand) (turns : List Turn)
      (clean : turn.Build) (n : ℕ) → IsGood done build stand turns clean
      → Each done build stand clean → run.MayDecide (rules_of work) build.run n → build.duty ≡ free
      → IsKept work n (build.seen n) (tasks n) → MayKeep meaning plan clean n
  kept-may done build stand turns clean n good each may duty (inl nil) =
      let none : has_job (node_at work.plan n) ≡ false = ap (λ l. not (is_nil l)) nil.0 in
      none-keep meaning work tasks clean n none
  kept-may done build stand turns clean n good each may duty (inr judged) =
      by (has_job (node_at work.plan n)) refl
    where
      by : (has : Bool) → has_job (node_at work.plan n) ≡ has → MayKeep meaning plan clean n
      by false none = none-keep meaning work tasks clean n none
      by true has =
          judged-may done build stand turns clean n good judged.1 judged.2 judged.3 has
          (each n (may-undecided (rules_of work) build.run.nodes n may.1)
          (λ given. let both : free ≡ begin n = sym duty ∙ given in absurd cc)
          (λ given. let both : free ≡ stop = sym duty ∙ given in absurd cc))

  abbrev NextTurns : List Item → Build → Stand → turn.Build → Item → Type 0
  NextTurns done build stand clean item =
      (now : Turning meaning work tasks build stand clean item)
      × Extra (done ++ item ∷ []) (build_after work tasks build item) (stand_after stand (happened item))
      (after_turns plan clean now.now)

  pub full-step : Steps meaning work tasks entry idle well whole Extra
  full-step done rest build stand turns clean (looks n seen) is good extra makes may fits none =
      let next = look-next meaning work tasks entry idle well declared mode.no_meta_names done build stand
      turns clean n seen good extra.0 makes fits in (
        next.0,
        (
          next.1,
          due-on meaning work tasks entry idle well declared mode.no_meta_names done build stand turns clean
              (looks n seen) good extra.1 makes none,
        ),
      )
  full-step done rest build stand turns clean (keeps n) is good extra makes may fits none =
      let now = kept meaning work tasks build stand clean n good.files good.nodes makes.0.0.0
      (may-undecided (rules_of work) build.run.nodes n makes.0.0.1)
      (waits-ready meaning work tasks entry idle well done build stand turns clean good n makes.0.0)
      (sources-ready meaning work tasks entry idle well done build stand turns clean good n makes.0.0)
      (kept-may done build stand turns clean n good extra.0 makes.0.0 makes.1 makes.2) in (
        now,
        extra-on done build stand turns clean (keeps n) good extra makes none
            (λ m seen same. absurd cc) now,
      )
  full-step done rest build stand turns clean (refuses n number what) is good extra makes may fits none =
      let now = item-turns meaning work tasks entry idle well done build stand turns clean
      (refuses n number what) good makes may fits none tt in (
        now,
        extra-on done build stand turns clean (refuses n number what) good extra makes none
            (λ m seen same. absurd cc) now,
      )
  full-step done rest build stand turns clean (starts n number ticket owner cmd) is good extra makes may fits none =
      let now = item-turns meaning work tasks entry idle well done build stand turns clean
      (starts n number ticket owner cmd) good makes may fits none tt in (
        now,
        extra-on done build stand turns clean (starts n number ticket owner cmd) good extra makes none
            (λ m seen same. absurd cc) now,
      )
  full-step done rest build stand turns clean (passes n number) is good extra makes may fits none =
      let now = item-turns meaning work tasks entry idle well done build stand turns clean
      (passes n number) good makes may fits none tt in (
        now,
        extra-on done build stand turns clean (passes n number) good extra makes none
            (λ m seen same. absurd cc) now,
      )
  full-step done rest build stand turns clean waits is good extra makes may fits none =
      let now = item-turns meaning work tasks entry idle well done build stand turns clean
      waits good makes may fits none tt in (
        now,
        extra-on done build stand turns clean waits good extra makes none
            (λ m seen same. absurd cc) now,
      )
  full-step done rest build stand turns clean (steps ticket owner deed time) is good extra makes may fits none =
      let now = item-turns meaning work tasks entry idle well done build stand turns clean
      (steps ticket owner deed time) good makes may fits none tt in (
        now,
        extra-on done build stand turns clean (steps ticket owner deed time) good extra makes none
            (λ m seen same. absurd cc) now,
      )
  full-step done rest build stand turns clean (ends n number owner ended) is good extra makes may fits none =
      let now = item-turns meaning work tasks entry idle well done build stand turns clean
      (ends n number owner ended) good makes may fits none tt in (
        now,
        extra-on done build stand turns clean (ends n number owner ended) good extra makes none
            (λ m seen same. absurd cc) now,
      )
  full-step done rest build stand turns clean (changes n change) is good extra makes may fits none =
      let now = item-turns meaning work tasks entry idle well done build stand turns clean
      (changes n change) good makes may fits none tt in (
        now,
        extra-on done build stand turns clean (changes n change) good extra makes none
            (λ m seen same. absurd cc) now,
      )
  full-step done rest build stand turns clean (leaves ticket owner) is good extra makes may fits none =
      absurd none

-- the turns of a build before children are given up
pub front-turns : (meaning : Meaning) (work : Work) (tasks : run.Tasks) (old : History)
    (lawful : IsLawful meaning old) (idle : (state_of old).children ≡ [])
    (truth : IsTrueHistory meaning.next old) (well : IsWellMade work) (mode : GoesByMetaMode work tasks)
    (declared : IsDeclared (clean_plan work tasks)
    (clean_build meaning (clean_plan work tasks) (contents (state_of old).files)))
    (items : List Item) → Makes work tasks (first_build work) items
    → MayHappen meaning (state_of old) (happened_all items) → FitsAll meaning (state_of old) items → NoneLeft items
    → Turned meaning work tasks (first_build work) (state_of old) (turn.first_build (contents (state_of old).files)) items
front-turns meaning work tasks old lawful idle truth well mode declared items makes may fits none =
    let entry = state_of old in
    turned-all meaning work tasks entry idle well items
    (λ done build stand clean. EachDeciding meaning work tasks entry idle well declared mode.no_meta_names
    done build stand clean
    × DueDone meaning work tasks entry idle well declared mode.no_meta_names build)
    (full-step meaning work tasks old lawful idle truth well mode declared items) items []
    (first_build work) entry [] (turn.first_build (contents entry.files)) refl
    (good-first meaning work tasks entry idle well) (
      deciding-first meaning work tasks entry idle well declared mode.no_meta_names,
      λ m due. absurd (free-not m due),
    ) makes may fits none

pub full_turns : BuildsAreTurns
full_turns meaning work tasks items old new lawful idle truth well mode declared makes happens last =
    let parts = last-parts meaning work tasks (state_of old) items last makes happens.lawful happens.fits in
    turned-last meaning work tasks items old new idle makes happens last
    (front-turns meaning work tasks old lawful idle truth well mode declared last.front parts.makes parts.happens
    parts.fits last.none)
