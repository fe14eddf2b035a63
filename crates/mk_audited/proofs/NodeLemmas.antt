-- What is found of a node that is settled is so of its meta file and of the files that stand.
use Rattle.std.proofs.Common.{◌≡◌, ◌∙◌, ℕ, ◌||◌, ◌&&◌, not, Bool, true, false, List, [], ◌∷◌, ◌++◌, map}
use Rattle.std.proofs.Common.{Option, Some, None, refl, sym, ap, ap₂, subst, unwrap_or, if◌then◌else◌}
use Rattle.std.proofs.lemmas.Bool.{false≢true, or_parts}
use Rattle.std.specs.List.{All, AllByRecursion}
use Rattle.std.specs.Option.{option_or}
use Rattle.std.specs.Str.{bytes_eq}
use Rattle.mk_audit.specs.Looks.{IsMetaSeen, NodeSight, counted, looks_of, records_of}
use Rattle.mk_audit.specs.Modes.{mode_is_full}
use Rattle.mk_audit.specs.Reasons.{own_times, reason_of, strict}
use Rattle.mk_clean.specs.Repeated.{IsAsRecorded}
use Rattle.mk_decision.specs.Ages.{source_ages}
use Rattle.mk_decision.specs.Decisions.{Work, mode_at}
use Rattle.mk_decision.specs.Metas.{AreOf, IsValueOf, MetaSight, PathTimes, meta_looks, paths_in, times_in as whens_in}
use Rattle.mk_decision.specs.Reasons.{times_by, value_in}
use Rattle.mk_decision.specs.Sights.{look_at, seen_of}
use Rattle.mk_decision.specs.Sights as sights
use Rattle.mk_explain.specs.Turns.{IsAnswered}
use Rattle.mk_filemon.proofs.PathLemmas.{bytes_eq-same}
use Rattle.mk_filemon.specs.declared.record.Rec.{Rec}
use Rattle.mk_graph.specs.declared.mode.Mode.{Mode}
use Rattle.mk_meta.specs.Lawful.{IsLawful}
use Rattle.mk_meta.specs.Texts.{meta_text}
use Rattle.mk_meta.specs.TrueHistory.{meta_path}
use Rattle.mk_meta.specs.declared.meta.Meta.{Meta}
use Rattle.mk_oodate.proofs.FreshLemmas.{no_reason_is_fresh}
use Rattle.mk_oodate.specs.Fresh.{GoesByRecords, IsFresh, IsOlderThan}
use Rattle.mk_oodate.specs.Lists.{left_paths, missed_paths, read_paths}
use Rattle.mk_oodate.specs.Stale.{at_first, given, is_newer, stale}
use Rattle.mk_oodate.specs.declared.reason.Age.{Age}
use Rattle.mk_oodate.specs.declared.reason.NodeMode.{NodeMode}
use Rattle.mk_oodate.specs.declared.reason.Times.{Times}
use Rattle.mk_oodate.specs.declared.reason.Why.{Why}
use Rattle.mk_oodate.specs.declared.reason.Why.TheVariants as why
use Rattle.mk_plan.specs.Lists.{is_nil}
use Rattle.mk_plan.specs.Plans.{node_at}
use Rattle.mk_same.proofs.JudgedLemmas.{all-parts}
use Rattle.mk_uptodate.proofs.AuditedLemmas.{all-made}
use Rattle.mk_uptodate.specs.UpToDate.{time_in, times_in, unforced}
use Rattle.mk_world.specs.Calls.{when_of}
use Rattle.mk_world.specs.History.{FileMap, files_of, state_of}
use Rattle.mk_world.specs.Looks.{Dated, dated, is_missing}
use Rattle.mk_world.specs.declared.command.Task.{Task}
use Rattle.mk_world.specs.declared.history.History.{History}
use Rattle.mk_world.specs.declared.time.When.{When}
use Rattle.mk_world.specs.declared.time.When.TheVariants as when

-- modes

and-parts : (one other : Bool) → (one && other) ≡ true → (one ≡ true) × (other ≡ true)
and-parts true other is = (refl, is)
and-parts false other is = absurd (false≢true is)

not-true : (b : Bool) → not b ≡ true → b ≡ false
not-true true is = absurd (false≢true is)
not-true false is = refl

pub not-false : (b : Bool) → not b ≡ false → b ≡ true
not-false true is = refl
not-false false is = absurd (false≢true (sym is))

nil : {A : Type 0} (items : List A) → is_nil items ≡ true → items ≡ []
nil [] is = refl
nil (item ∷ items) is = absurd (false≢true is)

pub record IsFull (mode : Mode) : Type 0 where
  pub missing_meta : mode.missing_meta ≡ true
  pub missing_filemon : mode.missing_filemon ≡ true
  pub nofilemon : mode.nofilemon ≡ false
  pub ignore_cmd : mode.ignore_cmd ≡ false
  pub ignore_paths : mode.ignore_paths ≡ []

pub full-is : (mode : Mode) → mode_is_full mode ≡ true → IsFull mode
full-is mode is =
    let first = and-parts ((mode.meta && mode.curdir_ok) && (mode.missing_meta && mode.missing_filemon))
    (not (mode.nofilemon || mode.ignore_cmd) && is_nil mode.ignore_paths) is in
    let kept = and-parts (mode.meta && mode.curdir_ok) (mode.missing_meta && mode.missing_filemon) first.0 in
    let missing = and-parts mode.missing_meta mode.missing_filemon kept.1 in
    let counts = and-parts (not (mode.nofilemon || mode.ignore_cmd)) (is_nil mode.ignore_paths) first.1 in
    let off = or_parts mode.nofilemon mode.ignore_cmd (not-true (mode.nofilemon || mode.ignore_cmd) counts.0) in
    record {
      missing_meta = missing.0;
      missing_filemon = missing.1;
      nofilemon = off.0;
      ignore_cmd = off.1;
      ignore_paths = nil mode.ignore_paths counts.1;
    }

-- a strict mode goes by records
strict-goes : (phony : Bool) (mode : NodeMode) → mode.meta ≡ true → mode.ignore_cmd ≡ false
    → (not phony && mode.count_only) ≡ false → GoesByRecords (strict phony mode)
strict-goes phony mode meta ignore count = record {
  meta = meta;
  missing_meta = refl;
  missing_filemon = refl;
  nofilemon = refl;
  ignore_cmd = ignore;
  count_only = count;
}

-- where a meta file with records must be there and counts, only the mark to be always made is left out
strict-unforced : (mode : NodeMode) → mode.missing_meta ≡ true → mode.missing_filemon ≡ true
    → mode.nofilemon ≡ false → strict false mode ≡ unforced mode
strict-unforced mode meta filemon counts =
    ap (λ b. record mode { always = false; missing_meta = b; missing_filemon = true; nofilemon = false }) (sym meta)
    ∙ ap (λ b. record mode { always = false; missing_filemon = b; nofilemon = false }) (sym filemon)
    ∙ ap (λ b. record mode { always = false; nofilemon = b }) (sym counts)

-- times

neither : (one other : Option Why) → option_or one other ≡ None → (one ≡ None) × (other ≡ None)
neither None other none = (refl, none)
neither (Some reason) other none = absurd cc

-- without a meta file there is a reason
some-meta : (value : Option Meta) (task : Task) (phony : Bool) (mode : NodeMode) (times : Times)
    → mode.meta ≡ true → stale value task (strict phony mode) times ≡ None → (meta : Meta) × (value ≡ Some meta)
some-meta (Some meta) task phony mode times is none = (meta, refl)
some-meta None task phony mode times is none =
    let rest = neither (given (is_missing times.target) why.Missing)
    (option_or (at_first (is_newer times.target) why.Newer times.sources)
    (if mode.meta then Some why.NoMeta else None)) none in
    let last = neither (at_first (is_newer times.target) why.Newer times.sources)
    (if mode.meta then Some why.NoMeta else None) rest.1 in
    let some : ◌≡◌ {A = Option Why} (Some why.NoMeta) None =
    subst (λ b. (if b then Some why.NoMeta else None) ≡ None) is last.1 in
    absurd cc

own-reads : (phony : Bool) (times : Times) → (own_times phony times).reads ≡ times.reads
own-reads true times = refl
own-reads false times = refl

own-misses : (phony : Bool) (times : Times) → (own_times phony times).misses ≡ times.misses
own-misses true times = refl
own-misses false times = refl

-- looks tell the times of the files that stand
dates-told : (files : FileMap) (dates : List Dated) → AllByRecursion (IsAnswered files) (map dated dates)
    → whens_in dates ≡ map (λ path. when_of (files path)) (paths_in dates)
dates-told files [] answered = refl
dates-told files (one ∷ dates) answered = ap₂ (λ w l. w ∷ l) answered.0 (dates-told files dates answered.1)

map-append : {A B : Type 0} (f : A → B) (one other : List A) → map f (one ++ other) ≡ map f one ++ map f other
map-append f [] other = refl
map-append f (x ∷ one) other = ap (λ l. f x ∷ l) (map-append f one other)

-- the times by what was seen of paths
told-times : (files : FileMap) (paths : PathTimes) (records : List Rec) → AreOf [] records paths
    → AllByRecursion (IsAnswered files) (map dated (paths.reads ++ (paths.misses ++ paths.left)))
    → (whens_in paths.reads ≡ map (λ path. when_of (files path)) (read_paths [] records))
    × (whens_in paths.misses ≡ map (λ path. when_of (files path)) (missed_paths [] records))
    × (whens_in paths.left ≡ map (λ path. when_of (files path)) (left_paths [] records))
told-times files paths records are answered =
    let whole = all-parts (IsAnswered files) (map dated paths.reads) (map dated (paths.misses ++ paths.left))
    (subst (AllByRecursion (IsAnswered files)) (map-append dated paths.reads (paths.misses ++ paths.left)) answered) in
    let rest = all-parts (IsAnswered files) (map dated paths.misses) (map dated paths.left)
    (subst (AllByRecursion (IsAnswered files)) (map-append dated paths.misses paths.left) whole.1) in (
      dates-told files paths.reads whole.0 ∙ ap (map (λ path. when_of (files path))) are.reads,
      dates-told files paths.misses rest.0 ∙ ap (map (λ path. when_of (files path))) are.misses,
      dates-told files paths.left rest.1 ∙ ap (map (λ path. when_of (files path))) are.left,
    )

-- the looks at a node, part by part
pub record Parts (files : FileMap) (work : Work) (node : ℕ) (sight : NodeSight) : Type 0 where
  pub target : AllByRecursion (IsAnswered files) (look_at work.plan (record { place = node; when = sight.target }))
  pub named : AllByRecursion (IsAnswered files) (map dated sight.named)
  pub asked : AllByRecursion (IsAnswered files) (map dated sight.asked)
  pub meta : AllByRecursion (IsAnswered files) (meta_looks (meta_path (node_at work.plan node).name) sight.meta)

pub parts-of : (files : FileMap) (work : Work) (node : ℕ) (sight : NodeSight)
    → AllByRecursion (IsAnswered files) (looks_of work node sight) → Parts files work node sight
parts-of files work node sight answered =
    let metas = meta_looks (meta_path (node_at work.plan node).name) sight.meta in
    let whole = all-parts (IsAnswered files) (seen_of work.plan node sight.target sight.sources)
    ((map dated sight.named ++ map dated sight.asked) ++ metas) answered in
    let times = all-parts (IsAnswered files) (look_at work.plan (record { place = node; when = sight.target }))
    (sights.looks_of work.plan sight.sources) whole.0 in
    let rest = all-parts (IsAnswered files) (map dated sight.named ++ map dated sight.asked) metas whole.1 in
    let asks = all-parts (IsAnswered files) (map dated sight.named) (map dated sight.asked) rest.0 in
    record { target = times.0; named = asks.0; asked = asks.1; meta = rest.1 }

-- The meta file of a node of which no reason is found: it stands, is of the node, and its job is as it is recorded.
pub record IsMetaOf (old : History) (work : Work) (node : ℕ) (task : Task) (value : Option Meta) : Type 0 where
  pub meta : Meta
  pub lawful : IsLawful meta
  pub stands : files_of old (meta_path (node_at work.plan node).name) ≡ Some (meta_text meta)
  pub target : meta.target ≡ (node_at work.plan node).name
  pub records : List Rec
  pub recorded : meta.records ≡ Some records
  pub as_recorded : IsAsRecorded meta records task (time_in old)
  pub found : records_of (node_at work.plan node).name value ≡ records

module _ (old : History) (work : Work) (node : ℕ) (target : When) (ages : List Age) (task : Task)
    (full : IsFull work.mode) (is_meta : (mode_at work node).meta ≡ true)
    (count : (not (node_at work.plan node).marks.phony && (mode_at work node).count_only) ≡ false) (named : task.target ≡ (node_at work.plan node).name)
  where
    abbrev files : FileMap
    files = (state_of old).files

    abbrev name : List ℕ
    name = (node_at work.plan node).name

    abbrev mode : NodeMode
    mode = mode_at work node

    abbrev phony : Bool
    phony = (node_at work.plan node).marks.phony

    abbrev times : MetaSight → Times
    times sight = times_by target ages (Some sight)

    is-fresh : (sight : MetaSight) (meta : Meta) → sight.value ≡ Some meta
        → reason_of work node task sight.value (times sight) ≡ None
        → IsFresh meta task (own_times phony (times sight))
    is-fresh sight meta value none =
        no_reason_is_fresh meta task (strict phony mode) (own_times phony (times sight))
        (strict-goes phony mode is_meta full.ignore_cmd count)
        (subst (λ v. stale v task (strict phony mode) (own_times phony (times sight)) ≡ None) value none)

    -- the records that are found are those of the meta file
    records-are : (meta : Meta) (value : Option Meta) (records : List Rec) → value ≡ Some meta
        → meta.target ≡ name → meta.records ≡ Some records → records_of name value ≡ records
    records-are meta value records is target recorded =
        let same : bytes_eq meta.target name ≡ true = ap (λ n. bytes_eq n name) target ∙ bytes_eq-same name in
        ap (records_of name) is
        ∙ (ap (λ b. if b then unwrap_or meta.records [] else []) same ∙ ap (λ r. unwrap_or r []) recorded)

    text-stands : (sight : MetaSight) (meta : Meta) → sight.value ≡ Some meta → IsValueOf sight.bytes sight.value
        → sight.bytes ≡ files_of old (meta_path name)
        → IsLawful meta × (files_of old (meta_path name) ≡ Some (meta_text meta))
    text-stands sight meta value is read =
        by sight.bytes (subst (IsValueOf sight.bytes) value is) read
      where
        by : (bytes : Option (List ℕ)) → IsValueOf bytes (Some meta) → bytes ≡ files_of old (meta_path name)
            → IsLawful meta × (files_of old (meta_path name) ≡ Some (meta_text meta))
        by None none read = absurd cc
        by (Some text) some read = (some.0, sym read ∙ ap (λ (t : List ℕ). Some t) some.1)

    paths-are : (sight : MetaSight) (records : List Rec) → records_of name sight.value ≡ records
        → AreOf work.mode.ignore_paths (counted work.mode (records_of name sight.value)) sight.paths
        → AreOf [] records sight.paths
    paths-are sight records found are =
        subst (λ words. AreOf words records sight.paths) full.ignore_paths
        (subst (λ r. AreOf work.mode.ignore_paths r sight.paths)
        (ap (λ b. if b then [] else records_of name sight.value) full.nofilemon ∙ found) are)

    -- what is so of the meta file that was seen
    record IsSeenMeta (sight : MetaSight) : Type 0 where
      it : IsMetaOf old work node task sight.value
      value : sight.value ≡ Some it.meta
      told : (whens_in sight.paths.reads ≡ map (time_in old) (read_paths [] it.records))
          × (whens_in sight.paths.misses ≡ map (time_in old) (missed_paths [] it.records))
          × (whens_in sight.paths.left ≡ map (time_in old) (left_paths [] it.records))

    seen-meta : (sight : MetaSight) → IsValueOf sight.bytes sight.value
        → AreOf work.mode.ignore_paths (counted work.mode (records_of name sight.value)) sight.paths
        → AllByRecursion (IsAnswered files) (meta_looks (meta_path name) (Some sight))
        → reason_of work node task sight.value (times sight) ≡ None → IsSeenMeta sight
    seen-meta sight is are answered none =
        let some = some-meta sight.value task phony mode (own_times phony (times sight)) is_meta none in
        let meta = some.0 in
        let fresh = is-fresh sight meta some.1 none in
        let records = fresh.recorded.0 in
        let found = records-are meta sight.value records some.1 (fresh.target ∙ named) fresh.recorded.1 in
        let stands = text-stands sight meta some.1 is answered.0 in
        let told = told-times files sight.paths records (paths-are sight records found are) answered.1.1 in
        record {
          it = record {
            meta = meta;
            lawful = stands.0;
            stands = stands.1;
            target = fresh.target ∙ named;
            records = records;
            recorded = fresh.recorded.1;
            as_recorded = record {
              exports = fresh.exports;
              directory = fresh.directory;
              lines = fresh.lines;
              reads = all-made (IsOlderThan meta.stamp) (time_in old) (read_paths [] records)
                  (subst (All (IsOlderThan meta.stamp)) (own-reads phony (times sight) ∙ told.0) fresh.reads);
              misses = all-made (λ (time : When). time ≡ when.Missing) (time_in old) (missed_paths [] records)
                  (subst (All (λ (time : When). time ≡ when.Missing)) (own-misses phony (times sight) ∙ told.1)
                  fresh.misses);
            };
            found = found;
          };
          value = some.1;
          told = told;
        }

    -- for a node that is no phony one the test gives no reason by the times of the files that stand
    plain-target : phony ≡ false
        → AllByRecursion (IsAnswered files) (look_at work.plan (record { place = node; when = target }))
        → target ≡ time_in old name
    plain-target plain answered =
        (subst (λ b. AllByRecursion (IsAnswered files)
        (if b then [] else dated (record { path = name; when = target }) ∷ [])) plain answered).0

    no-reason : (sight : MetaSight) (it : IsSeenMeta sight) → phony ≡ false → target ≡ time_in old name
        → sight.when ≡ time_in old (meta_path name)
        → reason_of work node task sight.value (times sight) ≡ None
        → stale (Some it.it.meta) task (unforced mode) (times_in old name ages it.it.records) ≡ None
    no-reason sight it plain own filed none =
        let same : times sight ≡ times_in old name ages it.it.records =
        ap (λ w. record (times sight) { target = w }) own
        ∙ ap (λ w. record (times sight) { target = time_in old name; meta = w }) filed
        ∙ ap (λ l. record (times sight)
        { target = time_in old name; meta = time_in old (meta_path name); reads = l }) it.told.0
        ∙ ap (λ l. record (times_in old name ages it.it.records)
        { misses = l; left = whens_in sight.paths.left }) it.told.1
        ∙ ap (λ l. record (times_in old name ages it.it.records) { left = l }) it.told.2 in
        subst (λ t. stale (Some it.it.meta) task (unforced mode) t ≡ None) same
        (subst (λ m. stale (Some it.it.meta) task m (times sight) ≡ None)
        (strict-unforced mode full.missing_meta full.missing_filemon full.nofilemon)
        (subst (λ b. stale (Some it.it.meta) task (strict b mode) (own_times b (times sight)) ≡ None) plain
        (subst (λ v. stale v task (strict phony mode) (own_times phony (times sight)) ≡ None) it.value none)))

-- What an audit finds of a node that is settled, by its task on the files that stand.
pub record IsNodeOf (old : History) (work : Work) (node : ℕ) (task : Task) (value : Option Meta) : Type 0 where
  pub it : IsMetaOf old work node task value
  pub ages : List Age
  pub fresh : (node_at work.plan node).marks.phony ≡ false
      → stale (Some it.meta) task (unforced (mode_at work node))
      (times_in old (node_at work.plan node).name ages it.records) ≡ None

pub node-of : (old : History) (work : Work) (node : ℕ) (sight : NodeSight) (task : Task) → IsFull work.mode
    → (mode_at work node).meta ≡ true
    → (not (node_at work.plan node).marks.phony && (mode_at work node).count_only) ≡ false
    → task.target ≡ (node_at work.plan node).name → IsMetaSeen work node sight.meta
    → Parts (state_of old).files work node sight
    → reason_of work node task (value_in sight.meta)
    (times_by sight.target (source_ages work.plan node sight.sources) sight.meta) ≡ None
    → IsNodeOf old work node task (value_in sight.meta)
node-of old work node sight task full is_meta count named seen parts none =
    by sight.meta seen parts.meta none
  where
    by : (meta : Option MetaSight) → IsMetaSeen work node meta
        → AllByRecursion (IsAnswered (state_of old).files) (meta_looks (meta_path (node_at work.plan node).name) meta)
        → reason_of work node task (value_in meta) (times_by sight.target (source_ages work.plan node sight.sources) meta) ≡ None
        → IsNodeOf old work node task (value_in meta)
    by None seen answered none = absurd (false≢true (sym seen ∙ is_meta))
    by (Some meta) seen answered none =
        let its = seen-meta old work node sight.target (source_ages work.plan node sight.sources) task full is_meta count named meta seen.1 seen.2 answered
        none in
        record {
          it = its.it;
          ages = source_ages work.plan node sight.sources;
          fresh = λ plain.
              no-reason old work node sight.target (source_ages work.plan node sight.sources) task full is_meta count named meta its plain
              (plain-target old work node sight.target (source_ages work.plan node sight.sources) task full is_meta count named plain parts.target)
              answered.1.0 none;
        }
