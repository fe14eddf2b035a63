-- A node that is up to date stands.
use Rattle.std.proofs.Common.{◌≡◌, ◌∙◌, ℕ, zero, suc, List, [], ◌∷◌, ◌++◌, map, Some, true}
use Rattle.std.proofs.Common.{inl, inr, refl, sym, ap, subst, arith}
use Rattle.std.specs.List.{AllZip, Contains}
use Rattle.mk_clean.proofs.CleanLemmas.{among_first, among_last}
use Rattle.mk_clean.proofs.TestedLemmas.{no_reason_may_keep}
use Rattle.mk_clean.proofs.WalkLemmas.{left_alone}
use Rattle.mk_clean.specs.Clean.{IsAmong, Plan}
use Rattle.mk_clean.specs.Kept.{seen_at}
use Rattle.mk_clean.specs.Tested.{HasTask, WentBy}
use Rattle.mk_clean.specs.Turns as turn
use Rattle.mk_clean.specs.Turns.{MayKeep}
use Rattle.mk_decision.specs.Decisions.{Work, mode_at}
use Rattle.mk_declared.specs.Present.{Stands}
use Rattle.mk_filemon.proofs.PathLemmas.{bytes_eq-same}
use Rattle.mk_headline.proofs.DecideLemmas.{makes-job}
use Rattle.mk_headline.specs.Plans.{clean_plan, lines_of, makes_file}
use Rattle.mk_headline.specs.Premises.{GoesByMetaMode}
use Rattle.mk_meta.specs.Jobs.{working}
use Rattle.mk_meta.specs.Texts.{meta_text}
use Rattle.mk_meta.specs.TrueHistory.{IsTrue, NoneChanges, meta_path}
use Rattle.mk_meta.specs.declared.meta.Meta.{Meta}
use Rattle.mk_oodate.proofs.FreshLemmas.{no_reason_is_fresh}
use Rattle.mk_oodate.specs.Fresh.{GoesByRecords, Looks, Saw}
use Rattle.mk_oodate.specs.Lists.{left_paths, missed_paths, read_paths}
use Rattle.mk_oodate.specs.declared.reason.NodeMode.{NodeMode}
use Rattle.mk_oodate.specs.declared.reason.Times.{Times}
use Rattle.mk_plan.specs.Plans.{node_at}
use Rattle.mk_sound.specs.Files.{IsTrueStart}
use Rattle.mk_trace.specs.Runs.{Tasks}
use Rattle.mk_uptodate.specs.UpToDate.{IsUpToDate, UpToDateNodesStand, task_in, time_in, times_in, unforced}
use Rattle.mk_world.proofs.CallLemmas.{after_all-append}
use Rattle.mk_world.specs.Calls.{when_of}
use Rattle.mk_world.specs.Deeds.{Store}
use Rattle.mk_world.specs.History.{State as Stand, MayAll, after, after_all, contents, effects, files_of, first_state, state_of}
use Rattle.mk_world.specs.Talks.{Meaning, NextOf}
use Rattle.mk_world.specs.declared.history.File.{File}
use Rattle.mk_world.specs.declared.history.Happening.{Happening}
use Rattle.mk_world.specs.declared.history.Happening.TheVariants.{Stamp, Put}
use Rattle.mk_world.specs.declared.history.History.{History}
use Rattle.mk_world.specs.declared.time.When.{When}

-- looks at some paths, by the times of all

abbrev look : (List ℕ → When) → List ℕ → List ℕ × When
look time path = (path, time path)

looked-saw : (time : List ℕ → When) (paths : List (List ℕ)) (path : List ℕ) (seen : When)
    → Contains (map (look time) paths) (path, seen) → seen ≡ time path
looked-saw time [] path seen has = let less = has.1 in absurd (omega (arith, less))
looked-saw time (first ∷ paths) path seen (zero, less, is) =
    ap (λ (one : List ℕ × When). one.1) (sym is) ∙ ap (λ (one : List ℕ × When). time one.0) is
looked-saw time (first ∷ paths) path seen (suc place, less, is) =
    looked-saw time paths path seen (place, omega (arith, less), is)

has-look : (time : List ℕ → When) (paths : List (List ℕ)) (path : List ℕ) → IsAmong path paths
    → Contains (map (look time) paths) (look time path)
has-look time [] path among = absurd among
has-look time (first ∷ paths) path (inl is) = (0, omega arith, ap (look time) (sym is))
has-look time (first ∷ paths) path (inr among) =
    let rest = has-look time paths path among in
    let less = rest.1 in (suc rest.0, omega (arith, less), rest.2)

zip-saw : (time : List ℕ → When) (looks : Looks) (paths : List (List ℕ))
    → ((path : List ℕ) → IsAmong path paths → Saw looks path (time path))
    → AllZip (Saw looks) paths (map time paths)
zip-saw time looks [] has = tt
zip-saw time looks (path ∷ paths) has =
    (has path (inl refl), zip-saw time looks paths (λ one among. has one (inr among)))

-- a path that nothing changes, and so a meta file that tells what happened, stands as it was written

unchanged : (path : List ℕ) (state : Stand) (events : List Happening) → NoneChanges path events
    → (after_all state events).files path ≡ state.files path
unchanged path state [] none = refl
unchanged path state (event ∷ events) none =
    unchanged path (after state event) events none.1 ∙ left_alone path state.files (effects event) none.0

meta-stands : (next : NextOf) (base : List File) (meta : Meta) (events : List Happening)
    → (is : IsTrue next meta events)
    → (after_all (first_state base) events).files (meta_path meta.target)
    ≡ Some (record { bytes = meta_text meta; time = is.time })
meta-stands next base meta events is =
    let path = meta_path meta.target in
    let opened = after (after_all (first_state base) is.before) (Stamp path is.first meta.stamp.0) in
    let written = after (after_all opened is.during) (Put path (meta_text meta) is.time) in
    let states : after_all (first_state base) events ≡ after_all written is.since =
    ap (after_all (first_state base)) is.all
    ∙ (after_all-append (first_state base) is.before _
    ∙ after_all-append opened is.during (Put path (meta_text meta) is.time ∷ is.since)) in
    let here : written.files path ≡ Some (record { bytes = meta_text meta; time = is.time }) =
    rw (bytes_eq-same path) refl in
    ap (λ (s : Stand). s.files path) states ∙ (unchanged path written is.since is.unchanged ∙ here)

-- a build that goes by records does so whatever is marked to be made always
pub goes-unforced : (mode : NodeMode) → GoesByRecords mode → GoesByRecords (unforced mode)
goes-unforced mode goes = record {
  meta = goes.meta;
  missing_meta = goes.missing_meta;
  missing_filemon = goes.missing_filemon;
  nofilemon = goes.nofilemon;
  ignore_cmd = goes.ignore_cmd;
  count_only = goes.count_only;
}

module _ (meaning : Meaning) (old : History) (work : Work) (lines : Tasks) (node : ℕ) (start : IsTrueStart meaning old)
    (mode : GoesByMetaMode work lines) (makes : makes_file (node_at work.plan node) ≡ true)
    (its : IsUpToDate old work lines node)
  where
    abbrev plan : Plan
    plan = clean_plan work lines

    abbrev name : List ℕ
    name = (node_at work.plan node).name

    abbrev meta : Meta
    meta = its.meta

    abbrev times : Times
    times = times_in old name its.ages its.records

    goes : GoesByRecords (unforced (mode_at work node))
    goes = goes-unforced (mode_at work node) (mode.by_records node makes)

    target_is : meta.target ≡ name
    target_is = (no_reason_is_fresh meta (task_in work lines node) (unforced (mode_at work node)) times goes its.no_reason).target

    is_true : IsTrue meaning.next meta old.events
    is_true = start.truth meta its.lawful (ap (λ path. files_of old (meta_path path)) target_is ∙ its.stands)

    abbrev later : List ℕ → List Happening
    later path = is_true.since

    -- all that has happened is what had happened at the moment of each path
    now : (path : List ℕ) → seen_at old.base is_true later path ≡ (state_of old).files path
    now path = ap (λ events. (after_all (first_state old.base) events).files path) (sym is_true.all)

    abbrev reads : List (List ℕ)
    reads = read_paths [] its.records

    abbrev misses : List (List ℕ)
    misses = missed_paths [] its.records

    abbrev left : List (List ℕ)
    left = left_paths [] its.records

    abbrev looks : Looks
    looks = map (look (time_in old)) (reads ++ (misses ++ left))

    abbrev store : Store
    store = files_of old

    abbrev build : turn.Build
    build = turn.first_build store

    went_by : WentBy is_true meaning old.base times (turn.seen_by build node)
    went_by = record {
      later = later;
      lawful = λ path. subst (MayAll meaning (first_state old.base)) is_true.all start.lawful.events;
      looks = looks;
      saw = λ path seen has.
          looked-saw (time_in old) (reads ++ (misses ++ left)) path seen has ∙ ap when_of (sym (now path));
      records = its.records;
      recorded = its.recorded;
      times_are = record {
        reads = zip-saw (time_in old) looks reads
            (λ path among. has-look (time_in old) (reads ++ (misses ++ left)) path
            (among_first reads (misses ++ left) path among));
        misses = zip-saw (time_in old) looks misses
            (λ path among. has-look (time_in old) (reads ++ (misses ++ left)) path
            (among_last reads (misses ++ left) path (among_first misses left path among)));
        left = zip-saw (time_in old) looks left
            (λ path among. has-look (time_in old) (reads ++ (misses ++ left)) path
            (among_last reads (misses ++ left) path (among_last misses left path among)));
      };
      target = ap (time_in old) (sym target_is) ∙ ap when_of (sym (now meta.target));
      meta_file = ap (λ path. time_in old (meta_path path)) (sym target_is)
          ∙ ap when_of (meta-stands meaning.next old.base meta old.events is_true);
      files_are = λ path.
          ap (λ events. contents (after_all (first_state old.base) events).files path) is_true.all;
    }

    has_task : HasTask plan node (task_in work lines node)
    has_task = record {
      name = refl;
      lines = its_lines;
      command = λ line. refl;
      compared = mode.compared node makes;
    }
      where
        its_lines : lines_of work lines node ≡ working (lines node)
        its_lines = rw (makes-job (node_at work.plan node) makes) refl

    pub may_keep : MayKeep meaning plan build node
    may_keep = no_reason_may_keep meaning old.base meta old.events is_true plan build node (task_in work lines node)
        (unforced (mode_at work node)) times has_task goes went_by its.no_reason

    pub up_to_date_stands : Stands meaning plan store node
    up_to_date_stands = record { well = may_keep.well; left = may_keep.stands }

pub up_to_date_nodes_stand : UpToDateNodesStand
up_to_date_nodes_stand = up_to_date_stands
