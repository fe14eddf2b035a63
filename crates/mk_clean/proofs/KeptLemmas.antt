-- A target that is kept stands as its job would leave it.
use Rattle.std.proofs.Common.{◌≡◌, ◌∙◌, ◌⊎◌, ℕ, zero, suc, ◌+◌, ◌<◌, ◌==◌, ◌||◌, List, [], ◌∷◌, ◌++◌, map, not, Option, Some, None, IfSome, Bool, true, false, cond, inl, inr, refl, sym, ap, subst, arith, le_refl, eq-eqb}
use Rattle.std.proofs.lemmas.Bool.{false≢true}
use Rattle.std.proofs.lemmas.List.{map-append}
use Rattle.std.specs.List.{AllZip, Contains}
use Rattle.std.specs.Option.{option_map}
use Rattle.mk_clean.proofs.JobLemmas.{JobTalks, job_told}
use Rattle.mk_clean.proofs.WalkLemmas.{files_after, files-after_all, RightAll, lawful_right, FromAll, lawful_from, older, Covers, CoversSpots, Found, FoundAt, own_deeds, walk}
use Rattle.mk_clean.specs.Jobs.{goes_on, job}
use Rattle.mk_clean.specs.Kept.{until, seen_at, AreLooksAt, KeptTargetsStand}
use Rattle.mk_filemon.proofs.LookLemmas.{tell_looks}
use Rattle.mk_filemon.specs.Outer.{counted, ops_of, outer_found, outer_missed}
use Rattle.mk_filemon.specs.Steps.{IsToldBy}
use Rattle.mk_filemon.specs.declared.record.Rec.{Rec}
use Rattle.mk_meta.specs.Jobs.{command_in, is_empty, numbered, records_from, working}
use Rattle.mk_meta.specs.Texts.{meta_text}
use Rattle.mk_meta.specs.TrueHistory.{JobEvent, did, ended, job_events, one_by_one, deeds_of_job, changed_paths, AreOfJob, WentWell, meta_path, IsTrue}
use Rattle.mk_meta.specs.declared.meta.Meta.{Meta}
use Rattle.mk_oodate.specs.Fresh.{IsOlderThan, Looks, PathsAreFresh, EachSaw, Saw}
use Rattle.mk_world.proofs.RecordLemmas.{exact_records_tell, records_are_joined}
use Rattle.mk_world.specs.Calls.{when_of}
use Rattle.mk_world.specs.Deeds.{Spot, changes, saw, Meets}
use Rattle.mk_world.specs.History.{Filed, FileMap, State, effects, effected_all, contents, after, after_all, first_state, MayAll}
use Rattle.mk_world.specs.Outer.{Over, nothing_over, over_deed, over_deeds}
use Rattle.mk_world.specs.Records.{EachLook, LookAt, Tell}
use Rattle.mk_world.specs.Talks.{Doing, Meaning, NextOf}
use Rattle.mk_world.specs.declared.command.TaskLine.{TaskLine}
use Rattle.mk_world.specs.declared.history.File.{File}
use Rattle.mk_world.specs.declared.history.Happening.{Happening}
use Rattle.mk_world.specs.declared.history.Happening.TheVariants.{Stamp, Put}
use Rattle.mk_world.specs.declared.step.Deed.{Deed}
use Rattle.mk_world.specs.declared.step.Op.{Op}
use Rattle.mk_world.specs.declared.time.When.{When}
use Rattle.mk_world.specs.declared.time.When.TheVariants as when
use Rattle.mk_world.specs.declared.time.Time.{Time}

-- the lines that a true meta file tells of are a job

pub went_on : (next : NextOf) (meta : Meta) (line : TaskLine) (doing : Doing) → WentWell next meta line doing
    → goes_on line doing ≡ true
went_on next meta line doing went = by went.well
  where
    by : (doing.status ≡ 0) ⊎ (line.ignore ≡ true) → (line.ignore || (doing.status == 0)) ≡ true
    by (inl zero_is) = rw (eq-eqb doing.status 0 zero_is) (or_true line.ignore)
      where
        or_true : (b : Bool) → (b || true) ≡ true
        or_true true = refl
        or_true false = refl
    by (inr ignored) = rw ignored refl

talked : (next : NextOf) (meta : Meta) (lines : List TaskLine) (doings : List Doing)
    → AllZip (WentWell next meta) lines doings → JobTalks next (command_in meta) lines doings
talked next meta [] [] well = tt
talked next meta [] (x ∷ xs) well = absurd well
talked next meta (line ∷ lines) [] well = absurd well
talked next meta (line ∷ lines) (x ∷ xs) well = (
  well.0.talks,
  (λ goes. talked next meta lines xs well.1),
  (λ fails. absurd (false≢true (sym fails ∙ went_on next meta line x well.0))),
)

-- the steps of a job among its events are those of its lines

own-dids : (deeds : List Deed) (events : List JobEvent)
    → own_deeds (map did deeds ++ events) ≡ deeds ++ own_deeds events
own-dids [] events = refl
own-dids (deed ∷ deeds) events = ap (λ l. deed ∷ l) (own-dids deeds events)

own-run : (next : NextOf) (meta : Meta) (lines : List TaskLine) (doings : List Doing)
    → AllZip (WentWell next meta) lines doings
    → own_deeds (one_by_one (map (command_in meta) lines) doings) ≡ deeds_of_job doings
own-run next meta [] [] well = refl
own-run next meta [] (x ∷ xs) well = absurd well
own-run next meta (line ∷ lines) [] well = absurd well
own-run next meta (line ∷ lines) (x ∷ xs) well =
    own-dids x.deeds (ended ∷ one_by_one (map (command_in meta) lines) xs)
    ∙ ap (λ l. x.deeds ++ l) (own-run next meta lines xs well.1)

-- the records of a job tell of its steps

abbrev EachTells : List (List Op) → List Doing → Type 0
EachTells = AllZip (λ (ops : List Op) (doing : Doing). Tell ops doing.deeds)

pub ops-numbered : (number : ℕ) (ops : List Op) → map (λ (one : Rec). one.op) (numbered number ops) ≡ ops
ops-numbered number [] = refl
ops-numbered number (one ∷ ops) = ap (λ l. one ∷ l) (ops-numbered number ops)

records-next : (next : NextOf) (meta : Meta) (number : ℕ) (line : TaskLine) (lines : List TaskLine)
    → ((children : List (List Op)) (doings : List Doing) → EachTells children doings
    → AllZip (WentWell next meta) (working lines) doings
    → Tell (ops_of (records_from (number + 1) lines children)) (deeds_of_job doings))
    → (empty : Bool) → is_empty line.text ≡ empty → (children : List (List Op)) (doings : List Doing)
    → EachTells children doings
    → AllZip (WentWell next meta) (cond (not empty) (line ∷ working lines) (working lines)) doings
    → Tell (ops_of (records_from number (line ∷ lines) children)) (deeds_of_job doings)
records-next next meta number line lines rest empty is [] (x ∷ xs) tell well = absurd tell
records-next next meta number line lines rest empty is (ops ∷ children) [] tell well = absurd tell
records-next next meta number line lines rest empty is [] [] tell well = exact_records_tell []
records-next next meta number line lines rest true is (ops ∷ children) (x ∷ xs) tell well =
    rw is (rest (ops ∷ children) (x ∷ xs) tell well)
records-next next meta number line lines rest false is (ops ∷ children) (x ∷ xs) tell well =
    let more = records_from (number + 1) lines children in
    let split : ops_of (numbered number ops ++ more) ≡ ops ++ ops_of more =
    map-append (λ (one : Rec). one.op) (numbered number ops) more
    ∙ ap (λ l. l ++ ops_of more) (ops-numbered number ops) in
    rw (is, split) (records_are_joined ops (ops_of more) x.deeds (deeds_of_job xs) tell.0
    (rest children xs tell.1 well.1))

records-tell : (next : NextOf) (meta : Meta) (number : ℕ) (lines : List TaskLine)
    (children : List (List Op)) (doings : List Doing) → EachTells children doings
    → AllZip (WentWell next meta) (working lines) doings
    → Tell (ops_of (records_from number lines children)) (deeds_of_job doings)
records-tell next meta number [] children [] tell well = exact_records_tell []
records-tell next meta number [] children (x ∷ xs) tell well = absurd well
records-tell next meta number (line ∷ lines) children doings tell well =
    records-next next meta number line lines
    (λ more given. records-tell next meta (number + 1) lines more given) (is_empty line.text) refl
    children doings tell well

-- what the test saw of the recorded paths is what the job's steps go by

pub counted-all : (paths : List (List ℕ)) → counted [] paths ≡ paths
counted-all [] = refl
counted-all (path ∷ paths) = ap (λ l. path ∷ l) (counted-all paths)

each-told : (one other : List ℕ → Option (List ℕ) → Type 0)
    → ((path : List ℕ) (bytes : Option (List ℕ)) → one path bytes → other path bytes)
    → (over : Over) (deeds : List Deed) → EachLook one over deeds → EachLook other over deeds
each-told one other gives over [] looks = tt
each-told one other gives over (deed ∷ deeds) looks =
    (at (saw deed) looks.0, each-told one other gives (over_deed over deed) deeds looks.1)
  where
    at : (spot : Option Spot) → LookAt one over spot → LookAt other over spot
    at None look = tt
    at (Some spot) look = λ free. gives spot.path spot.bytes (look free)

pub older-stood : (stamp : Time) (stood : Option Filed) (bytes : List ℕ) (time : When)
    → time ≡ when_of stood → IsOlderThan stamp time → FoundAt stood stamp.0 (Some bytes)
older-stood stamp None bytes time is less = subst (IsOlderThan stamp) is less
older-stood stamp (Some file) bytes time is less = subst (IsOlderThan stamp) is less

pub missing-stood : (stamp : ℕ) (stood : Option Filed) (time : When) → time ≡ when_of stood
    → time ≡ when.Missing → FoundAt stood stamp None
missing-stood stamp None time is missing = tt
missing-stood stamp (Some file) time is missing =
    let clash : when_of (Some file) ≡ when.Missing = sym is ∙ missing in absurd cc

found-told : (seen : FileMap) (stamp : Time) (looks : Looks) (records : List Rec)
    → AreLooksAt seen looks → PathsAreFresh looks [] stamp records
    → (path : List ℕ) (bytes : Option (List ℕ)) → IsToldBy (ops_of records) path bytes
    → Found seen stamp.0 path bytes
found-told seen stamp looks records saws fresh path (Some bytes) told =
    let all = subst (EachSaw looks (IsOlderThan stamp)) (counted-all (outer_found (ops_of records)))
    fresh.reads in
    let here = subst (λ p. (time : When) × Saw looks p time × IsOlderThan stamp time) told.2
    (all told.0 path told.1) in
    older-stood stamp (seen path) bytes here.0 (saws path here.0 here.1) here.2
found-told seen stamp looks records saws fresh path None told =
    let all = subst (EachSaw looks (λ time. time ≡ when.Missing))
    (counted-all (outer_missed (ops_of records))) fresh.misses in
    let here = subst (λ p. (time : When) × Saw looks p time × (time ≡ when.Missing)) told.2
    (all told.0 path told.1) in
    missing-stood stamp.0 (seen path) here.0 (saws path here.0 here.1) here.2

-- lists of events

files_after-append : (files : FileMap) (first second : List Happening)
    → files_after files (first ++ second) ≡ files_after (files_after files first) second
files_after-append files [] second = refl
files_after-append files (event ∷ first) second =
    files_after-append (effected_all files (effects event)) first second

lawful_then : (meaning : Meaning) (state : State) (first second : List Happening)
    → MayAll meaning state (first ++ second) → MayAll meaning (after_all state first) second
lawful_then meaning state [] second may = may
lawful_then meaning state (event ∷ first) second may =
    lawful_then meaning (after state event) first second may.1

right_front : (first second : List Happening) (files : FileMap) → RightAll files (first ++ second)
    → RightAll files first
right_front [] second files right = tt
right_front (event ∷ first) second files right =
    (right.0, right_front first second (effected_all files (effects event)) right.1)

-- the paths of a job

contains-append : (paths more : List (List ℕ)) (path : List ℕ) → Contains more path
    → Contains (paths ++ more) path
contains-append [] more path has = has
contains-append (first ∷ paths) more path has =
    let rest = contains-append paths more path has in (suc rest.0, omega (arith, rest.1), rest.2)

covers-spots : (all : List (List ℕ)) (spots : List Spot)
    → ((path : List ℕ) → Contains (map (λ (spot : Spot). spot.path) spots) path → Contains all path)
    → CoversSpots all spots
covers-spots all [] within = tt
covers-spots all (spot ∷ spots) within = (
  within spot.path (0, omega arith, refl),
  covers-spots all spots (λ path has. within path (suc has.0, omega (arith, has.1), has.2)),
)

contains-front : (paths more : List (List ℕ)) (path : List ℕ) → Contains paths path
    → Contains (paths ++ more) path
contains-front [] more path has = absurd (omega (arith, has.1))
contains-front (first ∷ paths) more path (zero, less, is) = (0, omega arith, is)
contains-front (first ∷ paths) more path (suc k, less, is) =
    let rest = contains-front paths more path (k, omega (arith, less), is) in
    (suc rest.0, omega (arith, rest.1), rest.2)

covers-all : (all : List (List ℕ)) (deeds : List Deed)
    → ((path : List ℕ) → Contains (changed_paths deeds) path → Contains all path) → Covers all deeds
covers-all all [] within = tt
covers-all all (deed ∷ deeds) within =
    let own = map (λ (spot : Spot). spot.path) (changes deed) in (
      covers-spots all (changes deed)
          (λ path has. within path (contains-front own (changed_paths deeds) path has)),
      covers-all all deeds (λ path has. within path (contains-append own (changed_paths deeds) path has)),
    )

none-over : (stands : Option (List ℕ)) → None ≡ Some stands → ⊥
none-over stands is = cc

older-some : (stood : Option Filed) (time : Time) → IsOlderThan time (when_of stood)
    → (file : Filed) × (stood ≡ Some file) × (file.time < time.0)
older-some None time less = absurd less
older-some (Some file) time less = (file, refl, less)

module _ (meaning : Meaning) (base : List File) (meta : Meta) (events : List Happening) (is : IsTrue meaning.next meta events) where
  abbrev start : State
  start = first_state base

  abbrev head_event : Happening
  head_event = Stamp (meta_path meta.target) is.first meta.stamp.0

  abbrev put_part : List Happening → List Happening
  put_part rest = Put (meta_path meta.target) (meta_text meta) is.time ∷ rest

  abbrev stamped : State
  stamped = after (after_all start is.before) head_event

  -- the files, by events
  now-is : (rest : List Happening)
      → (after_all start (until is rest)).files ≡ files_after stamped.files (is.during ++ put_part rest)
  now-is rest =
      files-after_all start (until is rest)
      ∙ (files_after-append start.files is.before (head_event ∷ (is.during ++ put_part rest))
      ∙ ap (λ files. files_after (effected_all files (effects head_event)) (is.during ++ put_part rest))
      (sym (files-after_all start is.before)))

  parts : (rest : List Happening) → MayAll meaning start (until is rest)
      → MayAll meaning stamped (is.during ++ put_part rest)
  parts rest may = (lawful_then meaning start is.before (head_event ∷ (is.during ++ put_part rest)) may).1

  after-stamp : (rest : List Happening) → MayAll meaning start (until is rest)
      → FromAll meta.stamp.0 (is.during ++ put_part rest)
  after-stamp rest may =
      lawful_from meaning meta.stamp.0 stamped (is.during ++ put_part rest) (le_refl meta.stamp.0)
      (parts rest may)

  right-mid : (rest : List Happening) → MayAll meaning start (until is rest)
      → RightAll stamped.files is.during
  right-mid rest may =
      right_front is.during (put_part rest) stamped.files
      (lawful_right meaning stamped (is.during ++ put_part rest) (parts rest may))

  after-put : (rest : List Happening) → MayAll meaning start (until is rest)
      → FromAll is.time (put_part rest)
  after-put rest may =
      let behind = lawful_then meaning stamped is.during (put_part rest) (parts rest may) in (
        (le_refl is.time, tt),
        lawful_from meaning is.time
            (after (after_all stamped is.during) (Put (meta_path meta.target) (meta_text meta) is.time)) rest
            (le_refl is.time) behind.1,
      )

  now-put : (rest : List Happening)
      → (after_all start (until is rest)).files
      ≡ files_after (files_after stamped.files is.during) (put_part rest)
  now-put rest = now-is rest ∙ files_after-append stamped.files is.during (put_part rest)

  -- the job's own steps
  abbrev mine : List Deed
  mine = own_deeds (job_events meta.stamp.0 is.during)

  mine-are : mine ≡ deeds_of_job is.doings
  mine-are =
      ap own_deeds is.commands ∙ own-run meaning.next meta (working meta.lines) is.doings is.well

  -- what the looks saw at each path that the records tell of is as the job found it
  abbrev FoundAll : (List ℕ → List Happening) → List Rec → Type 0
  FoundAll later records =
      (path : List ℕ) (bytes : Option (List ℕ)) → IsToldBy (ops_of records) path bytes
      → Found (seen_at base is later) meta.stamp.0 path bytes

  walked : (later : List ℕ → List Happening) (records : List Rec)
      → ((path : List ℕ) → MayAll meaning start (until is (later path)))
      → meta.records ≡ Some records → FoundAll later records
      → Meets (contents (seen_at base is later)) mine
      × ((path : List ℕ) (stands : Option (List ℕ)) → over_deeds nothing_over mine path ≡ Some stands
      → contents (files_after stamped.files is.during) path ≡ stands)
  walked later records may recorded found =
      let seen = seen_at base is later in
      let deeds = deeds_of_job is.doings in
      let paths = meta.target ∷ changed_paths deeds in
      let told : AreOfJob meta.lines is.doings records =
      subst (λ r. IfSome r (AreOfJob meta.lines is.doings)) recorded is.records in
      let tell : Tell (ops_of records) deeds =
      subst (λ r. Tell (ops_of r) deeds) (sym told.all)
      (records-tell meaning.next meta 1 meta.lines told.children is.doings told.tell is.well) in
      let looked : EachLook (Found seen meta.stamp.0) nothing_over deeds =
      each-told (IsToldBy (ops_of records)) (Found seen meta.stamp.0) found nothing_over deeds
      (tell_looks (ops_of records) deeds tell) in
      walk meta.stamp.0 paths seen stamped.files is.during (λ path. put_part (later path))
      (λ path. ap (λ files. files path) (sym (now-is (later path))))
      (λ path. after-stamp (later path) (may path)) (right-mid (later meta.target) (may meta.target))
      is.alone nothing_over (λ path stands one. absurd (none-over stands one))
      (λ path stands one. absurd (none-over stands one))
      (subst (Covers paths) (sym mine-are)
      (covers-all paths deeds (λ path has. (suc has.0, omega (arith, has.1), has.2))))
      (subst (EachLook (Found seen meta.stamp.0) nothing_over) (sym mine-are) looked)

  pub repeats : (later : List ℕ → List Happening) (records : List Rec)
      → ((path : List ℕ) → MayAll meaning start (until is (later path)))
      → meta.records ≡ Some records → FoundAll later records
      → job meaning (command_in meta) (working meta.lines) (contents (seen_at base is later)) ≡ is.doings
  repeats later records may recorded found =
      let seen = contents (seen_at base is later) in
      job_told meaning (command_in meta) (working meta.lines) seen is.doings
      (talked meaning.next meta (working meta.lines) is.doings is.well)
      (subst (Meets seen) mine-are (walked later records may recorded found).0)

  pub present : (later : List ℕ → List Happening) (records : List Rec)
      → ((path : List ℕ) → MayAll meaning start (until is (later path)))
      → meta.records ≡ Some records
      → IsOlderThan (record { 0 = is.time }) (when_of (seen_at base is later meta.target))
      → FoundAll later records
      → (job meaning (command_in meta) (working meta.lines) (contents (seen_at base is later)) ≡ is.doings)
      × ((stands : Option (List ℕ))
      → over_deeds nothing_over (deeds_of_job is.doings) meta.target ≡ Some stands
      → contents (seen_at base is later) meta.target ≡ stands)
  present later records may recorded untouched found =
      let file = older-some (seen_at base is later meta.target) (record { 0 = is.time }) untouched in
      let stood : files_after stamped.files is.during meta.target ≡ Some file.0 =
      older meta.target file.0 is.time file.2 (files_after stamped.files is.during)
      (put_part (later meta.target)) (after-put (later meta.target) (may meta.target))
      (ap (λ files. files meta.target) (sym (now-put (later meta.target))) ∙ file.1) in (
        repeats later records may recorded found,
        λ stands left.
            ap (option_map (λ (one : Filed). one.bytes)) (file.1 ∙ sym stood)
            ∙ (walked later records may recorded found).1 meta.target stands
            (subst (λ l. over_deeds nothing_over l meta.target ≡ Some stands) (sym mine-are) left),
      )

pub kept_stands : KeptTargetsStand
kept_stands meaning base meta events is later looks records may saws recorded untouched fresh =
    present meaning base meta events is later records may recorded untouched
    (found-told (seen_at base is later) meta.stamp looks records saws fresh)
