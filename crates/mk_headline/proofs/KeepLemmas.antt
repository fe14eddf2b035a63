-- A node that is kept by the test may be kept.
use Rattle.std.proofs.Common.{◌≡◌, ◌∙◌, ◌⊎◌, ℕ, zero, suc, ◌&&◌, ◌||◌, not, List, [], ◌∷◌, ◌++◌, map, Option, Some, None, Bool, true, false, if◌then◌else◌}
use Rattle.std.proofs.Common.{inl, inr, refl, sym, ap, subst, arith, append_assoc}
use Rattle.std.proofs.lemmas.List.{append-nil, map-append}
use Rattle.std.proofs.lemmas.List.Elements.{recursion_from_All}
use Rattle.std.specs.List.{AllByRecursion, Contains}
use Rattle.std.specs.Option.{option_map, option_or}
use Rattle.std.specs.Prelude.{Result, Ok, Err, unwrap_or}
use Rattle.std.specs.Str.{bytes_eq}
use Rattle.mk_bytes.specs.Agrees.{◌>>=◌}
use Rattle.mk_clean.proofs.KeptLemmas.{present}
use Rattle.mk_clean.proofs.TestedLemmas.{before_older, fresh_may_keep}
use Rattle.mk_clean.proofs.WalkLemmas.{left_alone, FoundAt, Found}
use Rattle.mk_clean.specs.Clean.{Plan}
use Rattle.mk_clean.specs.Kept.{until, seen_at}
use Rattle.mk_clean.specs.Tested.{HasTask}
use Rattle.mk_clean.specs.Turns as turn
use Rattle.mk_clean.specs.Turns.{MayKeep}
use Rattle.mk_decision.specs.Ages.{source_ages}
use Rattle.mk_decision.specs.Decisions.{Work, IsJudged, mode_at, newer_of, setting_by}
use Rattle.mk_decision.specs.Decisions as decide
use Rattle.mk_decision.specs.Metas.{AreOf, IsValueOf, MetaSight, paths_in, times_in, path_looks, meta_looks, records_in}
use Rattle.mk_decision.specs.Reasons.{IsMetaSight, by_file, reason, records_asked, times_by}
use Rattle.mk_decision.specs.Sights.{look_at, looks_of, seen_of}
use Rattle.mk_decision.specs.declared.sight.Sighting.{Sighting}
use Rattle.mk_values.specs.declared.facts.Asked.{Asked}
use Rattle.mk_filemon.proofs.PathLemmas.{bytes_eq-same}
use Rattle.mk_filemon.specs.Outer.{counted, ops_of, outer_found, outer_missed}
use Rattle.mk_filemon.specs.Steps.{IsToldBy}
use Rattle.mk_filemon.specs.declared.record.Rec.{Rec}
use Rattle.mk_headline.specs.Plans.{clean_plan, has_job, lines_of}
use Rattle.mk_trace.proofs.ItemLemmas.{happened_all-append}
use Rattle.mk_trace.specs.Runs as run
use Rattle.std.proofs.lemmas.Slice.Eq.{bytes_eq-Decides}
use Rattle.std.specs.Prelude.{is_some}
use Rattle.mk_headline.proofs.LookLemmas.{AllSeen, all-more, all-parts, IsDated, SawWhen, AllOf, seen_in, is_looked, until_look, from_look, until-splits, first_look, seen-is, until-none, HasPath, looked-has, FirstLook, first-seen, AllLeave, all-saw}
use Rattle.mk_meta.specs.Jobs.{working}
use Rattle.mk_meta.specs.Lawful.{IsLawful}
use Rattle.mk_meta.specs.Texts.{meta_text}
use Rattle.mk_meta.specs.TrueHistory.{IsTrue, NoneChanges, meta_path}
use Rattle.mk_meta.specs.declared.meta.Meta.{Meta}
use Rattle.mk_oodate.proofs.FreshLemmas.{no_reason_is_fresh}
use Rattle.mk_oodate.specs.Fresh.{GoesByRecords, IsBefore, IsFresh, IsOlderThan}
use Rattle.mk_oodate.specs.Stale.{at_first, by_contents, by_meta, by_records, given, is_newer, is_older, is_same, stale}
use Rattle.mk_oodate.specs.declared.reason.Age.{Age}
use Rattle.mk_oodate.specs.declared.reason.NodeMode.{NodeMode}
use Rattle.mk_oodate.specs.declared.reason.Times.{Times}
use Rattle.mk_oodate.specs.declared.reason.Why.{Why}
use Rattle.mk_oodate.specs.declared.reason.Why.TheVariants as why
use Rattle.mk_plan.specs.Plans.{node_at}
use Rattle.mk_plan.specs.Tasks.{lines_from, locals_of, manner_of, task_with}
use Rattle.mk_plan.specs.declared.plan.PlanNode.{PlanNode}
use Rattle.mk_trace.specs.Items.{Item, happened, happened_all, path_of, IsSeenIn, FitsAll}
use Rattle.mk_world.proofs.CallLemmas.{after_all-append, MayAll-parts}
use Rattle.mk_world.specs.Calls.{when_of}
use Rattle.mk_world.specs.Deeds.{Store}
use Rattle.mk_world.specs.History.{State as Stand, Filed, MayAll, after, after_all, contents, effects, first_state}
use Rattle.mk_world.specs.Looks.{Dated, Seen, dated, is_missing, read}
use Rattle.mk_world.specs.Outer.{or_stood}
use Rattle.mk_world.specs.Talks.{Meaning, NextOf}
use Rattle.mk_world.specs.declared.command.Task.{Task}
use Rattle.mk_world.specs.declared.command.TaskLine.{TaskLine}
use Rattle.mk_world.specs.declared.history.File.{File}
use Rattle.mk_world.specs.declared.history.Happening.{Happening}
use Rattle.mk_world.specs.declared.history.Happening.TheVariants.{Stamp, Put}
use Rattle.mk_world.specs.declared.time.Time.{Time}
use Rattle.mk_world.specs.declared.time.When.{When}
use Rattle.mk_world.specs.declared.time.When.TheVariants as when

-- reasons

or-keeps : (first second third : Option Why) → (second ≡ None → third ≡ None)
    → option_or first second ≡ None → option_or first third ≡ None
or-keeps None second third keeps is = keeps is
or-keeps (Some one) second third keeps is = absurd cc

or-second : (first second : Option Why) → option_or first second ≡ None → second ≡ None
or-second None second is = is
or-second (Some one) second is = absurd cc

or-first : (first second : Option Why) → option_or first second ≡ None → first ≡ None
or-first None second is = refl
or-first (Some one) second is = absurd cc

then-keeps : (b : Bool) (second third other : Option Why) → (second ≡ None → third ≡ None)
    → (if b then second else other) ≡ None → (if b then third else other) ≡ None
then-keeps true second third other keeps is = keeps is
then-keeps false second third other keeps is = is

else-keeps : (b : Bool) (second third other : Option Why) → (second ≡ None → third ≡ None)
    → (if b then other else second) ≡ None → (if b then other else third) ≡ None
else-keeps true second third other keeps is = is
else-keeps false second third other keeps is = keeps is

abbrev bare : Times → Times
bare times = record times { reads = []; misses = []; left = [] }

records-bare : (mode : NodeMode) (times : Times) (stamp : Time) (records : Option (List Rec))
    → by_records mode times stamp records ≡ None → by_records mode (bare times) stamp records ≡ None
records-bare mode times stamp None is = is
records-bare mode times stamp (Some records) is = refl

meta-bare : (value : Option Meta) (task : Task) (mode : NodeMode) (times : Times)
    → by_meta value task mode times ≡ None → by_meta value task mode (bare times) ≡ None
meta-bare None task mode times is = is
meta-bare (Some meta) task mode times is =
    then-keeps (bytes_eq meta.target task.target) (by_contents task mode times meta)
    (by_contents task mode (bare times) meta) (given mode.missing_meta why.NoMeta)
    (or-keeps (given (not (is_older times.target times.meta)) why.Touched) _ _
    (or-keeps (given (not mode.ignore_cmd && not (is_same mode.count_only task meta)) why.Command) _ _
    (else-keeps mode.nofilemon _ _ None (records-bare mode times meta.stamp meta.records)))) is

-- without the paths of records there is no reason where there is none with them
stale-bare : (value : Option Meta) (task : Task) (mode : NodeMode) (times : Times)
    → stale value task mode times ≡ None → stale value task mode (bare times) ≡ None
stale-bare value task mode times is =
    or-keeps (given mode.always why.Always) _ _
    (or-keeps _ _ _
    (or-keeps _ _ _ (then-keeps mode.meta _ _ None (meta-bare value task mode times)))) is

-- by records, there is a reason where there is no meta file
no-meta : (task : Task) (mode : NodeMode) (times : Times) → GoesByRecords mode
    → stale None task mode times ≡ None → ⊥
no-meta task mode times goes is =
    let last = or-second (at_first (is_newer times.target) (λ x. why.Newer x) times.sources) _
    (or-second (given (is_missing times.target) why.Missing) _
    (or-second (given mode.always why.Always) _ is)) in
    none mode.meta mode.missing_meta goes.meta goes.missing_meta last
  where
    none : (meta missing : Bool) → meta ≡ true → missing ≡ true
        → (if meta then given missing why.NoMeta else None) ≡ None → ⊥
    none true true first second here = absurd cc
    none true false first second here = absurd cc
    none false missing first second here = absurd cc

not-given : (holds : Bool) (one : Why) → given holds one ≡ None → holds ≡ false
not-given true one is = absurd cc
not-given false one is = refl

records-count : (nofilemon same : Bool) (all : Option (List Rec)) (records : List Rec) → nofilemon ≡ false
    → same ≡ true → all ≡ Some records
    → (if not nofilemon && same then unwrap_or all [] else []) ≡ records
records-count false true all records counts same_target is = ap (λ l. unwrap_or l []) is
records-count false false all records counts same_target is = absurd cc
records-count true same all records counts same_target is = absurd cc

-- lists of looks

dated-map : (dates : List Dated) → AllSeen IsDated (map dated dates)
dated-map [] = tt
dated-map (one ∷ dates) = (tt, dated-map dates)

dated-sights : (nodes : List PlanNode) (sights : List Sighting) → AllSeen IsDated (looks_of nodes sights)
dated-sights nodes [] = tt
dated-sights nodes (one ∷ sights) =
    all-more IsDated (look_at nodes one) (looks_of nodes sights)
    (by (node_at nodes one.place).marks.phony) (dated-sights nodes sights)
  where
    by : (b : Bool) → AllSeen IsDated
        (if b then [] else dated (record { path = (node_at nodes one.place).name; when = one.when }) ∷ [])
    by true = tt
    by false = (tt, tt)

-- what stands behind the first look at bytes
record SameSplit (path other : List ℕ) (bytes also : Option (List ℕ)) (rest more : List Seen) : Type 0 where
  paths : path ≡ other
  texts : bytes ≡ also
  rests : rest ≡ more

split-same : (first second : List Seen) (path other : List ℕ) (bytes also : Option (List ℕ))
    (rest more : List Seen) → AllSeen IsDated first → AllSeen IsDated second
    → first ++ read path bytes ∷ rest ≡ second ++ read other also ∷ more
    → SameSplit path other bytes also rest more
split-same [] [] path other bytes also rest more first_dated second_dated is =
    record { paths = cc; texts = cc; rests = cc }
split-same [] (dated one ∷ second) path other bytes also rest more first_dated second_dated is = absurd cc
split-same [] (read p b ∷ second) path other bytes also rest more first_dated second_dated is =
    absurd second_dated.0
split-same (dated one ∷ first) [] path other bytes also rest more first_dated second_dated is = absurd cc
split-same (read p b ∷ first) [] path other bytes also rest more first_dated second_dated is =
    absurd first_dated.0
split-same (one ∷ first) (two ∷ second) path other bytes also rest more first_dated second_dated is =
    let tails : first ++ read path bytes ∷ rest ≡ second ++ read other also ∷ more = cc in
    split-same first second path other bytes also rest more first_dated.1 second_dated.1 tails

-- a look that saw a time of this kind
abbrev DatedAs : (When → Type 0) → Seen → Type 0
DatedAs P (dated one) = P one.when
DatedAs P (read path bytes) = ⊥

abbrev AtPath : List ℕ → (When → Type 0) → Seen → Type 0
AtPath path P seen = path_of seen ≡ path → DatedAs P seen

kinds-map : (path : List ℕ) (P : When → Type 0) (dates : List Dated)
    → AllByRecursion P (times_in dates) → AllSeen (AtPath path P) (map dated dates)
kinds-map path P [] all = tt
kinds-map path P (one ∷ dates) all = ((λ same. all.0), kinds-map path P dates all.1)

-- the look at a path among these
record DatedAt (P : When → Type 0) (path : List ℕ) (dates : List Dated) : Type 0 where
  when : When
  holds : P when
  has : HasPath path (map dated dates)
  saw : (other : When) → AllSeen (λ s. path_of s ≡ path → SawWhen other s) (map dated dates) → when ≡ other

dated-at : (P : When → Type 0) (path : List ℕ) (dates : List Dated) → AllByRecursion P (times_in dates)
    → Contains (paths_in dates) path → DatedAt P path dates
dated-at P path [] all has = absurd (omega (arith, has.1))
dated-at P path (one ∷ dates) all (zero, less, is) =
    record { when = one.when; holds = all.0; has = inl is; saw = λ other saws. saws.0 is }
dated-at P path (one ∷ dates) all (suc k, less, is) =
    let rest = dated-at P path dates all.1 (k, omega (arith, less), is) in
    record { when = rest.when; holds = rest.holds; has = inr rest.has; saw = λ other saws. rest.saw other saws.1 }

has-more : (path : List ℕ) (first second : List Seen) → HasPath path second → HasPath path (first ++ second)
has-more path [] second has = has
has-more path (one ∷ first) second has = inr (has-more path first second has)

counted-none : (paths : List (List ℕ)) → counted [] paths ≡ paths
counted-none [] = refl
counted-none (path ∷ paths) = ap (λ l. path ∷ l) (counted-none paths)

-- files

found-some : (stood : Option Filed) (stamp : Time) (bytes : List ℕ) (time : When) → time ≡ when_of stood
    → IsOlderThan stamp time → FoundAt stood stamp.0 (Some bytes)
found-some None stamp bytes time is less = subst (IsOlderThan stamp) is less
found-some (Some file) stamp bytes time is less = subst (IsOlderThan stamp) is less

found-none : (stood : Option Filed) (stamp : Time) (time : When) → time ≡ when_of stood
    → (time ≡ when.Missing) ⊎ IsOlderThan stamp time → FoundAt stood stamp.0 None
found-none None stamp time is kind = tt
found-none (Some file) stamp time is (inl missing) =
    let both : when_of (Some file) ≡ when.Missing = sym is ∙ missing in absurd cc
found-none (Some file) stamp time is (inr less) = subst (IsOlderThan stamp) is less

unchanged : (path : List ℕ) (state : Stand) (events : List Happening) → NoneChanges path events
    → (after_all state events).files path ≡ state.files path
unchanged path state [] none = refl
unchanged path state (event ∷ events) none =
    unchanged path (after state event) events none.1 ∙ left_alone path state.files (effects event) none.0

-- the meta file stands as it was written
meta-stands : (next : NextOf) (base : List File) (meta : Meta) (events : List Happening)
    → (is : IsTrue next meta events)
    → (after_all (first_state base) events).files (meta_path meta.target)
    ≡ Some (record { bytes = meta_text meta; time = is.time })
meta-stands next base meta events is =
    let mp = meta_path meta.target in
    let opened = after (after_all (first_state base) is.before) (Stamp mp is.first meta.stamp.0) in
    let written = after (after_all opened is.during) (Put mp (meta_text meta) is.time) in
    let states : after_all (first_state base) events ≡ after_all written is.since =
    ap (after_all (first_state base)) is.all
    ∙ (after_all-append (first_state base) is.before _
    ∙ after_all-append opened is.during (Put mp (meta_text meta) is.time ∷ is.since)) in
    let here : written.files mp ≡ Some (record { bytes = meta_text meta; time = is.time }) =
    rw (bytes_eq-same mp) refl in
    ap (λ (s : Stand). s.files mp) states ∙ (unchanged mp written is.since is.unchanged ∙ here)

-- what has happened, and what happened then
until-more : (next : NextOf) (meta : Meta) (events more : List Happening) → (is : IsTrue next meta events)
    → until is (is.since ++ more) ≡ events ++ more
until-more next meta events more is =
    sym (ap (λ l. l ++ more) is.all
    ∙ (append_assoc is.before _ more
    ∙ ap (λ l. is.before ++ Stamp (meta_path meta.target) is.first meta.stamp.0 ∷ l)
    (append_assoc is.during (Put (meta_path meta.target) (meta_text meta) is.time ∷ is.since) more)))

pub fits-parts : (meaning : Meaning) (stand : Stand) (items more : List Item)
    → FitsAll meaning stand (items ++ more)
    → FitsAll meaning stand items × FitsAll meaning (after_all stand (happened_all items)) more
fits-parts meaning stand [] more fits = (tt, fits)
fits-parts meaning stand (item ∷ items) more fits =
    let rest = fits-parts meaning (after_all stand (happened item)) items more fits.1 in (
      (fits.0, rest.0),
      subst (λ s. FitsAll meaning s more) (sym (after_all-append stand (happened item) (happened_all items)))
          rest.1,
    )

-- tasks

bound : {A B E : Type 0} (given_one : Result A E) (next : A → Result B E) (last : B)
    → (given_one >>= next) ≡ Ok last → (first : A) × (given_one ≡ Ok first) × (next first ≡ Ok last)
bound (Ok first) next last is = (first, refl, is)
bound (Err fault) next last is = absurd cc

same-ok : {A E : Type 0} (one other : A) → ◌≡◌ {A = Result A E} (Ok one) (Ok other) → one ≡ other
same-ok one other is = cc

task-is : (work : Work) (node : ℕ) (target : When) (sources : List Sighting) (asked : List Dated) (task : Task)
    → decide.HasTask work node target sources asked task
    → (lines : List TaskLine) × (task ≡ task_with work.variables work.mode.exports (node_at work.plan node).name lines)
task-is work node target sources asked task has =
    let all = bound
    (lines_from (setting_by work asked)
    (locals_of work.suffixes work.plan node (newer_of work node target sources))
    (manner_of work.mode work.flags (node_at work.plan node).marks) [] 1 []
    (node_at work.plan node).commands)
    (λ (made : List TaskLine × List Asked).
    Ok (task_with work.variables work.mode.exports (node_at work.plan node).name made.0, made.1)) _ has in
    (all.0.0, sym (ap (λ (made : Task × List Asked). made.0) (same-ok _ _ all.2)))

weaken-all : (P Q : When → Type 0) (times : List When) → ((time : When) → P time → Q time)
    → AllByRecursion P times → AllByRecursion Q times
weaken-all P Q [] gives all = tt
weaken-all P Q (time ∷ times) gives all = (gives time all.0, weaken-all P Q times gives all.1)

zip-seen : (path : List ℕ) (time : When) (seen : List Seen) → AllSeen IsDated seen
    → AllSeen (λ s. path_of s ≡ path → SawWhen time s) seen → AllSeen (AtPath path (λ one. one ≡ time)) seen
zip-seen path time [] dated_all saws = tt
zip-seen path time (dated one ∷ seen) dated_all saws =
    ((λ same. saws.0 same), zip-seen path time seen dated_all.1 saws.1)
zip-seen path time (read other bytes ∷ seen) dated_all saws = absurd dated_all.0

-- the time that a first look saw
first-when : (stand : Stand) (path : List ℕ) (P : When → Type 0) → FirstLook (AtPath path P) path stand
    → (time : When) × P time × (time ≡ when_of (stand.files path))
first-when stand path P first = by first.seen first.kind first.at first.saw
  where
    by : (s : Seen) → AtPath path P s → path_of s ≡ path → IsSeenIn stand s
        → (time : When) × P time × (time ≡ when_of (stand.files path))
    by (dated one) kind at saw = (one.when, kind at, saw ∙ ap (λ q. when_of (stand.files q)) at)
    by (read other bytes) kind at saw = absurd (kind at)

never-phony : (phony exec remake : Bool) → (phony || exec || remake) ≡ false → phony ≡ false
never-phony false exec remake is = refl
never-phony true exec remake is = absurd cc

module _ (meaning : Meaning) (work : Work) (tasks : run.Tasks) (base : List File)
    (past mid : List Happening) (n : ℕ) (clean : turn.Build) (late : List Item) (seen first : List Seen) (path : List ℕ)
    (bytes : Option (List ℕ)) (task : Task) where
  abbrev plan : Plan
  plan = clean_plan work tasks

  abbrev name : List ℕ
  name = (node_at work.plan n).name

  abbrev mp : List ℕ
  mp = meta_path name

  -- what had happened when the meta file was looked at, and what before the build
  abbrev events : List Happening
  events = past ++ mid

  abbrev before : Stand
  before = after_all (first_state base) past

  abbrev front : Stand
  front = after_all (first_state base) events

  abbrev last : Stand
  last = after_all front (happened_all late)

  -- how things stood at the first look at a path
  abbrev moment : List ℕ → Stand
  moment other = after_all front (happened_all (until_look other late))

  -- what is known of the looks for a node
  pub record Looked : Type 0 where
    pub lawful : MayAll meaning (first_state base) (events ++ happened_all late)
    pub of : AllOf n late
    pub fits : FitsAll meaning front late
    pub leave : AllLeave mp late
    pub told : (meta : Meta) → IsLawful meta
        → contents before.files (meta_path meta.target) ≡ Some (meta_text meta)
        → IsTrue meaning.next meta past
    -- the meta file was not changed in the build
    pub stays : front.files mp ≡ before.files mp
    pub looks_are : (other : List ℕ) → clean.looks n other ≡ first_look front late other
    pub files : clean.files ≡ contents last.files
    pub first_dated : AllSeen IsDated first
    pub seen_is : seen ≡ first ++ read path bytes ∷ seen_in late
    pub text : bytes ≡ contents front.files path
    pub target : AllSeen (λ s. path_of s ≡ name → SawWhen (when_of (last.files name)) s) seen
    pub lines_are : tasks n ≡ task.lines
    pub has : has_job (node_at work.plan n) ≡ true
    pub goes : GoesByRecords (mode_at work n)
    pub compared : AllByRecursion (λ (line : TaskLine). line.compared ≡ true) (tasks n)
    pub none_ignored : work.mode.ignore_paths ≡ []

  module _ (given : Looked) (judged : IsJudged work n seen task None) where
    abbrev mode : NodeMode
    mode = mode_at work n

    abbrev ages : List Age
    ages = source_ages work.plan n judged.sight.sources

    abbrev told_target : When
    told_target = judged.sight.target

    task_made : (lines : List TaskLine) × (task ≡ task_with work.variables work.mode.exports name lines)
    task_made = task-is work n told_target judged.sight.sources judged.sight.asked task judged.has

    has_task : HasTask plan n task
    has_task = record {
      name = sym (ap (λ (t : Task). t.target) task_made.1);
      lines = lines;
      command = λ line.
          ap (λ (t : Task). record { text = line.text; cwd = t.cwd; exports = t.exports })
          (sym task_made.1);
      compared = subst (AllByRecursion (λ (line : TaskLine). line.compared ≡ true)) given.lines_are
          given.compared;
    }
      where
        lines : lines_of work tasks n ≡ working task.lines
        lines = rw given.has (ap working given.lines_are)

    -- the look at the node's own file is one of the first
    target_saw : (why_none : mode.always ≡ false) → told_target ≡ when_of (last.files name)
    target_saw why_none =
        let marks = (node_at work.plan n).marks in
        let phony = never-phony marks.phony marks.exec marks.remake why_none in
        let all = (all-parts _ judged.first _ (subst (AllSeen _) judged.are given.target)).0 in
        let own = (all-parts _ (seen_of work.plan n told_target judged.sight.sources) _
        (subst (AllSeen _) judged.sight.are all)).0 in
        let look : look_at work.plan (record { place = n; when = told_target })
        ≡ dated (record { path = name; when = told_target }) ∷ [] = rw phony refl in
        (subst (AllSeen (λ s. path_of s ≡ name → SawWhen (when_of (last.files name)) s)) look
        (all-parts _ (look_at work.plan (record { place = n; when = told_target })) _ own).0).0 refl

    judged_dated : AllSeen IsDated judged.first
    judged_dated =
        subst (AllSeen IsDated) (sym judged.sight.are)
        (all-more IsDated (seen_of work.plan n told_target judged.sight.sources)
        (map dated judged.sight.asked)
        (dated-sights work.plan (record { place = n; when = told_target } ∷ judged.sight.sources))
        (dated-map judged.sight.asked))

    -- by the meta file that was looked at
    module _ (ms : MetaSight) (meta : Meta) (text_read : List ℕ)
        (bytes_are : ms.bytes ≡ Some text_read) (value_is : ms.value ≡ Some meta)
        (lawful_meta : IsLawful meta) (text_is : text_read ≡ meta_text meta)
        (are : seen ≡ judged.first ++ meta_looks mp (Some ms))
        (opened : AreOf work.mode.ignore_paths (records_asked mode task told_target ages ms) ms.paths)
        (reasoned : reason mode task told_target ages (Some ms) ≡ None) where
      abbrev times : Times
      times = times_by told_target ages (Some ms)

      none : stale (Some meta) task mode times ≡ None
      none = subst (λ v. stale v task mode times ≡ None) value_is reasoned

      fresh : IsFresh meta task times
      fresh = no_reason_is_fresh meta task mode times given.goes none

      abbrev mp_look : Seen
      mp_look = dated (record { path = mp; when = ms.when })

      split : SameSplit mp path ms.bytes bytes (mp_look ∷ path_looks ms.paths) (seen_in late)
      split = split-same judged.first first mp path ms.bytes bytes (mp_look ∷ path_looks ms.paths)
          (seen_in late) judged_dated given.first_dated (sym are ∙ given.seen_is)

      rest_is : seen_in late ≡ mp_look ∷ path_looks ms.paths
      rest_is = sym split.rests

      target_is : meta.target ≡ name
      target_is = fresh.target ∙ ap (λ (t : Task). t.target) task_made.1

      at_mp : meta_path meta.target ≡ mp
      at_mp = ap meta_path target_is

      is_true : IsTrue meaning.next meta past
      is_true =
          given.told meta lawful_meta
          (ap (contents before.files) at_mp
          ∙ (ap (option_map (λ (file : Filed). file.bytes)) (sym given.stays)
          ∙ (ap (contents front.files) split.paths
          ∙ (sym given.text ∙ (sym split.texts ∙ (bytes_are ∙ ap Some text_is))))))

      -- the meta file stands all the while
      abbrev mp_when : When
      mp_when = when_of (front.files mp)

      saws : AllSeen (λ s. path_of s ≡ mp → SawWhen mp_when s) (mp_look ∷ path_looks ms.paths)
      saws = subst (AllSeen (λ s. path_of s ≡ mp → SawWhen mp_when s)) rest_is
          (all-saw meaning n mp front late given.fits given.of given.leave)

      when_is : ms.when ≡ mp_when
      when_is = saws.0 refl

      meta_when : ms.when ≡ when.At (record { 0 = is_true.time })
      meta_when =
          when_is
          ∙ ap when_of (given.stays
          ∙ (ap before.files (sym at_mp) ∙ meta-stands meaning.next base meta past is_true))

      abbrev later : List ℕ → List Happening
      later other = is_true.since ++ (mid ++ happened_all (until_look other late))

      until_is : (other : List ℕ)
          → until is_true (later other) ≡ events ++ happened_all (until_look other late)
      until_is other =
          until-more meaning.next meta past (mid ++ happened_all (until_look other late)) is_true
          ∙ sym (append_assoc past mid (happened_all (until_look other late)))

      state_is : (other : List ℕ)
          → after_all (first_state base) (until is_true (later other)) ≡ moment other
      state_is other =
          ap (after_all (first_state base)) (until_is other)
          ∙ after_all-append (first_state base) events (happened_all (until_look other late))

      lawful_at : (other : List ℕ) → MayAll meaning (first_state base) (until is_true (later other))
      lawful_at other =
          let here = happened_all (until_look other late) in
          let there = happened_all (from_look other late) in
          let whole : events ++ happened_all late ≡ (events ++ here) ++ there =
          ap (λ l. events ++ happened_all l) (until-splits other late)
          ∙ (ap (λ l. events ++ l) (happened_all-append (until_look other late) (from_look other late))
          ∙ sym (append_assoc events here there)) in
          subst (MayAll meaning (first_state base))
          (sym (until_is other))
          (MayAll-parts meaning (first_state base) (events ++ here) there
          (subst (MayAll meaning (first_state base)) whole given.lawful)).0

      -- the target
      target_then : when_of ((moment name).files name) ≡ when_of (last.files name)
      target_then = by (is_looked name late) refl
        where
          dated_all : AllSeen IsDated (seen_in late)
          dated_all = subst (AllSeen IsDated) (sym rest_is)
              (tt, dated-map (ms.paths.reads ++ (ms.paths.misses ++ ms.paths.left)))

          saw_all : AllSeen (λ s. path_of s ≡ name → SawWhen (when_of (last.files name)) s) (seen_in late)
          saw_all = (all-parts _ first (read path bytes ∷ seen_in late)
              (subst (AllSeen (λ s. path_of s ≡ name → SawWhen (when_of (last.files name)) s)) given.seen_is
              given.target)).1.1

          by : (looked : Bool) → is_looked name late ≡ looked
              → when_of ((moment name).files name) ≡ when_of (last.files name)
          by false is =
              ap (λ l. when_of ((after_all front (happened_all l)).files name)) (until-none name late is)
          by true is =
              let found = first-when (moment name) name (λ one. one ≡ when_of (last.files name))
              (first-seen meaning n (AtPath name (λ one. one ≡ when_of (last.files name))) name front late
              (seen_in late) [] (sym (append-nil (seen_in late))) given.fits given.of
              (zip-seen name (when_of (last.files name)) (seen_in late) dated_all saw_all)
              (looked-has name late is)) in
              sym found.2 ∙ found.1

      untouched : IsOlderThan (record { 0 = is_true.time }) (when_of (seen_at base is_true later meta.target))
      untouched =
          let always = not-given mode.always why.Always (or-first _ _ none) in
          let same : told_target ≡ when_of (seen_at base is_true later meta.target) =
          target_saw always
          ∙ (sym target_then
          ∙ (ap (λ p. when_of ((moment p).files p)) (sym target_is)
          ∙ ap (λ (s : Stand). when_of (s.files meta.target)) (sym (state_is meta.target)))) in
          subst (IsOlderThan (record { 0 = is_true.time })) same
          (before_older told_target (record { 0 = is_true.time })
          (subst (IsBefore told_target) meta_when fresh.untouched))

      -- the paths of the records
      abbrev records : List Rec
      records = fresh.recorded.0

      asked_are : records_asked mode task told_target ages ms ≡ records
      asked_are =
          let bare_none : by_file mode task told_target ages ms ≡ None =
          stale-bare ms.value task mode times reasoned in
          let same : bytes_eq meta.target task.target ≡ true =
          (bytes_eq-Decides meta.target task.target).1 fresh.target in
          ap (λ o. if is_some o then [] else records_in mode task ms.value) bare_none
          ∙ (ap (records_in mode task) value_is
          ∙ records-count mode.nofilemon (bytes_eq meta.target task.target) meta.records records
          given.goes.nofilemon same fresh.recorded.1)

      paths_are : AreOf [] records ms.paths
      paths_are =
          subst (λ l. AreOf [] l ms.paths) asked_are
          (subst (λ l. AreOf l (records_asked mode task told_target ages ms) ms.paths) given.none_ignored opened)

      path_saws : AllSeen (λ s. path_of s ≡ mp → SawWhen mp_when s) (map dated ms.paths.reads)
          × AllSeen (λ s. path_of s ≡ mp → SawWhen mp_when s) (map dated ms.paths.misses)
      path_saws =
          let K : Seen → Type 0 = λ s. path_of s ≡ mp → SawWhen mp_when s in
          let split_reads = all-parts K (map dated ms.paths.reads)
          (map dated (ms.paths.misses ++ ms.paths.left))
          (subst (AllSeen K) (map-append dated ms.paths.reads (ms.paths.misses ++ ms.paths.left)) saws.1) in
          let split_misses = all-parts K (map dated ms.paths.misses) (map dated ms.paths.left)
          (subst (AllSeen K) (map-append dated ms.paths.misses ms.paths.left) split_reads.1) in
          (split_reads.0, split_misses.0)

      found_at : (other : List ℕ) (bytes_found : Option (List ℕ))
          → FoundAt ((moment other).files other) meta.stamp.0 bytes_found
          → Found (seen_at base is_true later) meta.stamp.0 other bytes_found
      found_at other bytes_found is =
          subst (λ (s : Stand). FoundAt (s.files other) meta.stamp.0 bytes_found) (sym (state_is other)) is

      found : (other : List ℕ) (bytes_found : Option (List ℕ)) → IsToldBy (ops_of records) other bytes_found
          → Found (seen_at base is_true later) meta.stamp.0 other bytes_found
      found other (Some b) told =
          let P : When → Type 0 = IsOlderThan meta.stamp in
          let olds = recursion_from_All P (times_in ms.paths.reads) fresh.reads in
          let at_one = dated-at P other ms.paths.reads olds
          (subst (λ l. Contains l other)
          (sym (paths_are.reads ∙ counted-none (outer_found (ops_of records)))) told) in
          let mp_kind : AtPath other P mp_look = λ same.
          subst P
          (at_one.saw mp_when (subst (λ q. AllSeen (λ s. path_of s ≡ q → SawWhen mp_when s)
          (map dated ms.paths.reads)) same path_saws.0) ∙ sym when_is) at_one.holds in
          let one = first-when (moment other) other P
          (first-seen meaning n (AtPath other P) other front late (mp_look ∷ map dated ms.paths.reads)
          (map dated (ms.paths.misses ++ ms.paths.left))
          (rest_is ∙ ap (λ l. mp_look ∷ l) (map-append dated ms.paths.reads (ms.paths.misses ++ ms.paths.left)))
          given.fits given.of (mp_kind, kinds-map other P ms.paths.reads olds) (inr at_one.has)) in
          found_at other (Some b) (found-some ((moment other).files other) meta.stamp b one.0 one.2 one.1)
      found other None told =
          let P : When → Type 0 = λ time. (time ≡ when.Missing) ⊎ IsOlderThan meta.stamp time in
          let olds = weaken-all (IsOlderThan meta.stamp) P (times_in ms.paths.reads) (λ time less. inr less)
          (recursion_from_All (IsOlderThan meta.stamp) (times_in ms.paths.reads) fresh.reads) in
          let gone = recursion_from_All (λ time. time ≡ when.Missing) (times_in ms.paths.misses) fresh.misses in
          let at_one = dated-at (λ time. time ≡ when.Missing) other ms.paths.misses gone
          (subst (λ l. Contains l other)
          (sym (paths_are.misses ∙ counted-none (outer_missed (ops_of records)))) told) in
          let mp_kind : AtPath other P mp_look = λ same.
          inl (when_is
          ∙ (sym (at_one.saw mp_when (subst (λ q. AllSeen (λ s. path_of s ≡ q → SawWhen mp_when s)
          (map dated ms.paths.misses)) same path_saws.1)) ∙ at_one.holds)) in
          let kinds = all-more (AtPath other P) (map dated ms.paths.reads) (map dated ms.paths.misses)
          (kinds-map other P ms.paths.reads olds)
          (kinds-map other P ms.paths.misses
          (weaken-all (λ time. time ≡ when.Missing) P (times_in ms.paths.misses) (λ time is. inl is) gone)) in
          let rest_split : path_looks ms.paths
          ≡ (map dated ms.paths.reads ++ map dated ms.paths.misses) ++ map dated ms.paths.left =
          map-append dated ms.paths.reads (ms.paths.misses ++ ms.paths.left)
          ∙ (ap (λ l. map dated ms.paths.reads ++ l) (map-append dated ms.paths.misses ms.paths.left)
          ∙ sym (append_assoc (map dated ms.paths.reads) (map dated ms.paths.misses) (map dated ms.paths.left))) in
          let one = first-when (moment other) other P
          (first-seen meaning n (AtPath other P) other front late
          (mp_look ∷ (map dated ms.paths.reads ++ map dated ms.paths.misses)) (map dated ms.paths.left)
          (rest_is ∙ ap (λ l. mp_look ∷ l) rest_split) given.fits given.of (mp_kind, kinds)
          (inr (has-more other (map dated ms.paths.reads) (map dated ms.paths.misses) at_one.has))) in
          found_at other None (found-none ((moment other).files other) meta.stamp one.0 one.2 one.1)

      pub keeps-by-file : MayKeep meaning plan clean n
      keeps-by-file =
          let holds = present meaning base meta past is_true later records lawful_at fresh.recorded.1
          untouched found in
          fresh_may_keep meaning base meta past is_true plan clean n task times has_task fresh later
          (λ other.
          ap (λ (s : Stand). contents s.files other) (state_is other)
          ∙ (sym (seen-is front late other)
          ∙ (ap (λ o. or_stood o (contents last.files other)) (sym (given.looks_are other))
          ∙ ap (λ (f : Store). or_stood (clean.looks n other) (f other)) (sym given.files))))
          holds.0 holds.1

    by-value : (ms : MetaSight) (text : Option (List ℕ)) (value : Option Meta) → ms.bytes ≡ text
        → ms.value ≡ value → IsValueOf text value → seen ≡ judged.first ++ meta_looks mp (Some ms)
        → AreOf work.mode.ignore_paths (records_asked mode task told_target ages ms) ms.paths
        → reason mode task told_target ages (Some ms) ≡ None → MayKeep meaning plan clean n
    by-value ms text None bytes_are value_is of are opened reasoned =
        absurd (no-meta task mode (times_by told_target ages (Some ms)) given.goes
        (subst (λ v. stale v task mode (times_by told_target ages (Some ms)) ≡ None) value_is reasoned))
    by-value ms None (Some meta) bytes_are value_is of are opened reasoned =
        let none : Some meta ≡ None = of in absurd cc
    by-value ms (Some text) (Some meta) bytes_are value_is of are opened reasoned =
        keeps-by-file ms meta text bytes_are value_is of.0 of.1 are opened reasoned

    by-sight : (sight : Option MetaSight) → seen ≡ judged.first ++ meta_looks mp sight
        → IsMetaSight work.mode.ignore_paths mode task told_target ages sight
        → reason mode task told_target ages sight ≡ None → MayKeep meaning plan clean n
    by-sight None are opened reasoned =
        absurd (no-meta task mode (times_by told_target ages None) given.goes reasoned)
    by-sight (Some ms) are opened reasoned = by-value ms ms.bytes ms.value refl refl opened.1 are opened.2 reasoned

    pub judged-keeps : MayKeep meaning plan clean n
    judged-keeps = by-sight judged.meta judged.are judged.opened (sym judged.reason)

-- without a look at a meta file there is a reason
pub unread-never : (work : Work) (n : ℕ) (seen : List Seen) (task : Task) → GoesByRecords (mode_at work n)
    → AllSeen IsDated seen → IsJudged work n seen task None → ⊥
unread-never work n seen task goes dated_all judged =
    by judged.meta judged.are (sym judged.reason)
  where
    by : (sight : Option MetaSight)
        → seen ≡ judged.first ++ meta_looks (meta_path (node_at work.plan n).name) sight
        → reason (mode_at work n) task judged.sight.target
        (source_ages work.plan n judged.sight.sources) sight ≡ None → ⊥
    by None are reasoned =
        no-meta task (mode_at work n)
        (times_by judged.sight.target (source_ages work.plan n judged.sight.sources) None) goes reasoned
    by (Some ms) are reasoned =
        (all-parts IsDated judged.first _ (subst (AllSeen IsDated) are dated_all)).1.0

-- a node that is always made is not kept
pub always-never : (work : Work) (n : ℕ) (seen : List Seen) (task : Task) → IsJudged work n seen task None
    → (node_at work.plan n).marks.phony ≡ false
always-never work n seen task judged =
    let marks = (node_at work.plan n).marks in
    never-phony marks.phony marks.exec marks.remake
    (not-given (mode_at work n).always why.Always (or-first _ _ (sym judged.reason)))
