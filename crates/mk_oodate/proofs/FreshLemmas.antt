-- What the test's answer that there is no reason gives.
use Rattle.std.proofs.Common.{◌≡◌, ◌≢◌, ℕ, Bool, true, false, not, ◌&&◌, ◌||◌, cond}
use Rattle.std.proofs.Common.{List, [], ◌∷◌, length, nat_lt, position, Option, Some, None}
use Rattle.std.proofs.Common.{if◌then◌else◌, refl, arith}
use Rattle.std.proofs.lemmas.Bool.Decides.{nat_tests}
use Rattle.std.proofs.lemmas.List.Elements.{All-from_recursion, recursion_from_All}
use Rattle.std.specs.List.{All, AllZip, AllByRecursion, position_or_len}
use Rattle.std.specs.Cmp.Lexicographic.{bytes_decides}
use Rattle.std.specs.Option.{option_map, option_or}
use Rattle.std.specs.Str.{bytes_eq}
use Rattle.mk_bytes.specs.declared.pair.Pair.{Pair}
use Rattle.mk_filemon.specs.declared.record.Rec.{Rec}
use Rattle.mk_meta.specs.declared.meta.Meta.{Meta}
use Rattle.mk_world.specs.Looks.{is_missing}
use Rattle.mk_world.specs.declared.command.Task.{Task}
use Rattle.mk_world.specs.declared.command.TaskLine.{TaskLine}
use Rattle.mk_world.specs.declared.time.Time.{Time}
use Rattle.mk_world.specs.declared.time.When.{When}
use Rattle.mk_world.specs.declared.time.When.TheVariants as when
use Rattle.mk_oodate.specs.declared.reason.NodeMode.{NodeMode}
use Rattle.mk_oodate.specs.declared.reason.Times.{Times}
use Rattle.mk_oodate.specs.declared.reason.Why.{Why}
use Rattle.mk_oodate.specs.declared.reason.Why.TheVariants as why
use Rattle.mk_oodate.specs.Stale as spec
use Rattle.mk_oodate.specs.Lists.{read_paths, missed_paths, left_paths}
use Rattle.mk_oodate.specs.Fresh.{GoesByRecords, IsBefore, IsOlderThan, AreTheSame, IsFresh}
use Rattle.mk_oodate.specs.Fresh.{NoReasonIsFresh, Looks, Saw, EachSaw, FreshAtPaths}

cases : {P : Type 0} (t : Bool) → (t ≡ true → P) → (t ≡ false → P) → P
cases true here there = here refl
cases false here there = there refl

both-true : (one other : Bool) → (one && other) ≡ true → (one ≡ true) × (other ≡ true)
both-true true other is = (refl, is)
both-true false other is = absurd cc

same_bytes : (one other : List ℕ) → bytes_eq one other ≡ true → one ≡ other
same_bytes one other is = (bytes_decides one other).0 is

-- neither of two reasons is given
neither : (one other : Option Why) → option_or one other ≡ None → (one ≡ None) × (other ≡ None)
neither None other none = (refl, none)
neither (Some reason) other none = absurd cc

not-given : (holds : Bool) (reason : Why) → spec.given holds reason ≡ None → holds ≡ false
not-given true reason none = absurd cc
not-given false reason none = refl

-- no place is given
no-place : (reason : ℕ → Why) (place : Option ℕ) → option_map reason place ≡ None → place ≡ None
no-place reason None none = refl
no-place reason (Some at) none = absurd cc

found-nowhere : (found : Bool) (at : ℕ) → cond found (Some at) None ≡ None → found ≡ false
found-nowhere true at none = absurd cc
found-nowhere false at none = refl

past-more : {A : Type 0} (test : A → Bool) (item : A) (items : List A) → test item ≡ false
    → nat_lt (position_or_len test (item ∷ items)) (length (item ∷ items)) ≡ false
    → nat_lt (position_or_len test items) (length items) ≡ false
past-more test item items is past = let here = rw is at past in grind (arith, nat_tests)

past-none : {A : Type 0} (test : A → Bool) (item : A) (items : List A) → test item ≡ true
    → nat_lt (position_or_len test (item ∷ items)) (length (item ∷ items)) ≡ false → ⊥
past-none test item items is past = let here = rw is at past in grind (arith, nat_tests)

none-pass : {A : Type 0} (test : A → Bool) (items : List A)
    → nat_lt (position_or_len test items) (length items) ≡ false
    → AllByRecursion (λ item. test item ≡ false) items
none-pass test [] past = tt
none-pass test (item ∷ items) past =
    cases (test item)
    (λ is. absurd (past-none test item items is past))
    (λ is. (is, none-pass test items (past-more test item items is past)))

none-first : {A : Type 0} (test : A → Bool) (reason : ℕ → Why) (items : List A)
    → spec.at_first test reason items ≡ None → AllByRecursion (λ item. test item ≡ false) items
none-first test reason items none =
    none-pass test items
    (found-nowhere (nat_lt (position_or_len test items) (length items)) (position_or_len test items)
    (no-place reason (position test items) none))

every : {A : Type 0} (P Q : A → Type 0) (items : List A) → ((item : A) → P item → Q item)
    → AllByRecursion P items → AllByRecursion Q items
every P Q [] gives all = tt
every P Q (item ∷ items) gives all = (gives item all.0, every P Q items gives all.1)

older : (stamp : Time) (time : When) → spec.is_changed stamp time ≡ false → IsOlderThan stamp time
older stamp when.Missing is = absurd cc
older stamp when.Unknown is = absurd cc
older stamp (when.At time) is = grind (arith, nat_tests)

missing : (time : When) → not (is_missing time) ≡ false → time ≡ when.Missing
missing when.Missing is = refl
missing (when.At time) is = absurd cc
missing when.Unknown is = absurd cc

standing : (time : When) → is_missing time ≡ false → time ≢ when.Missing
standing when.Missing is = absurd cc
standing (when.At time) is = λ same. absurd cc
standing when.Unknown is = λ same. absurd cc

before : (one other : When) → not (spec.is_older one other) ≡ false → IsBefore one other
before (when.At one) (when.At other) is = grind (arith, nat_tests)
before (when.At one) when.Unknown is = tt
before (when.At one) when.Missing is = absurd cc
before when.Missing other is = absurd cc
before when.Unknown other is = absurd cc

not-false : (t : Bool) → not t ≡ false → t ≡ true
not-false true is = refl
not-false false is = absurd cc

same_flag-same : (one other : Bool) → spec.same_flag one other ≡ true → one ≡ other
same_flag-same true true is = refl
same_flag-same true false is = absurd cc
same_flag-same false true is = absurd cc
same_flag-same false false is = refl

abbrev pair-of : List ℕ → List ℕ → Pair
pair-of name value = record { name = name; value = value }

paired : (name other-name value other-value : List ℕ) → name ≡ other-name → value ≡ other-value
    → pair-of name value ≡ pair-of other-name other-value
paired name other-name value other-value same also = cc

same_pair : (one other : Pair) → spec.same_export one other ≡ true → one ≡ other
same_pair one other is =
    let parts = both-true (bytes_eq one.name other.name) (bytes_eq one.value other.value) is in
    paired one.name other.name one.value other.value (same_bytes one.name other.name parts.0)
    (same_bytes one.value other.value parts.1)

same_pairs : (pairs others : List Pair) → spec.same_exports pairs others ≡ true → pairs ≡ others
same_pairs [] [] is = refl
same_pairs [] (other ∷ others) is = absurd cc
same_pairs (one ∷ pairs) [] is = absurd cc
same_pairs (one ∷ pairs) (other ∷ others) is =
    let parts = both-true (spec.same_export one other) (spec.same_exports pairs others) is in
    let first : one ≡ other = same_pair one other parts.0 in
    let rest : pairs ≡ others = same_pairs pairs others parts.1 in
    cc

compared-line : (line other : TaskLine) (compared : Bool) → compared ≡ line.compared
    → (not compared || (bytes_eq line.text other.text && spec.same_flag line.ignore other.ignore))
    ≡ true
    → line.compared ≡ true → (line.text ≡ other.text) × (line.ignore ≡ other.ignore)
compared-line line other true at is counts =
    let parts =
    both-true (bytes_eq line.text other.text) (spec.same_flag line.ignore other.ignore) is in (
      same_bytes line.text other.text parts.0,
      same_flag-same line.ignore other.ignore parts.1,
    )
compared-line line other false at is counts = absurd cc

same_lines-same : (lines others : List TaskLine) → spec.same_lines lines others ≡ true
    → AreTheSame lines others
same_lines-same [] [] is = tt
same_lines-same [] (other ∷ others) is = absurd cc
same_lines-same (line ∷ lines) [] is = absurd cc
same_lines-same (line ∷ lines) (other ∷ others) is =
    let parts = both-true (spec.same_line line other) (spec.same_lines lines others) is in (
      compared-line line other line.compared refl parts.0,
      same_lines-same lines others parts.1,
    )

-- what the commands and records give
pub record OfRecords (stamp : Time) (records : Option (List Rec)) (times : Times) : Type 0 where
  pub recorded : (found : List Rec) × (records ≡ Some found)
  pub reads : All (IsOlderThan stamp) times.reads
  pub misses : All (λ time. time ≡ when.Missing) times.misses
  pub left : All (λ time. time ≢ when.Missing) times.left

by_records-fresh : (mode : NodeMode) (times : Times) (stamp : Time) (records : Option (List Rec))
    → mode.missing_filemon ≡ true → spec.by_records mode times stamp records ≡ None
    → OfRecords stamp records times
by_records-fresh mode times stamp None must none =
    let no = not-given mode.missing_filemon why.NoRecords none in absurd cc
by_records-fresh mode times stamp (Some records) must none =
    let reads = spec.at_first (spec.is_changed stamp) why.Read times.reads in
    let misses = spec.at_first (λ time. not (is_missing time)) why.Appeared times.misses in
    let left = spec.at_first is_missing why.Left times.left in
    let first = neither reads (option_or misses left) none in
    let second = neither misses left first.1 in
    record {
      recorded = (records, refl);
      reads = All-from_recursion (IsOlderThan stamp) times.reads
          (every (λ time. spec.is_changed stamp time ≡ false) (IsOlderThan stamp) times.reads
          (older stamp) (none-first (spec.is_changed stamp) why.Read times.reads first.0));
      misses = All-from_recursion (λ time. time ≡ when.Missing) times.misses
          (every (λ time. not (is_missing time) ≡ false) (λ time. time ≡ when.Missing)
          times.misses missing
          (none-first (λ time. not (is_missing time)) why.Appeared times.misses second.0));
      left = All-from_recursion (λ time. time ≢ when.Missing) times.left
          (every (λ time. is_missing time ≡ false) (λ time. time ≢ when.Missing) times.left
          standing (none-first is_missing why.Left times.left second.1));
    }

contents-fresh : (task : Task) (mode : NodeMode) (times : Times) (meta : Meta) → GoesByRecords mode
    → times.target ≢ when.Missing → meta.target ≡ task.target
    → spec.by_contents task mode times meta ≡ None → IsFresh meta task times
contents-fresh task mode times meta goes stands target none =
    let touched = spec.given (not (spec.is_older times.target times.meta)) why.Touched in
    let same = spec.is_same mode.count_only task meta in
    let command = spec.given (not mode.ignore_cmd && not same) why.Command in
    let records = if mode.nofilemon then None
    else spec.by_records mode times meta.stamp meta.records in
    let first = neither touched (option_or command records) none in
    let second = neither command records first.1 in
    let differs : (not mode.ignore_cmd && not same) ≡ false =
    not-given (not mode.ignore_cmd && not same) why.Command second.0 in
    let counts : not same ≡ false = rw goes.ignore_cmd at differs in
    let is : spec.is_same mode.count_only task meta ≡ true = not-false same counts in
    let whole : spec.is_same false task meta ≡ true = rw goes.count_only at is in
    let parts = both-true (spec.same_exports task.exports meta.exports)
    (spec.same_commands false task meta) whole in
    let commands = both-true (bytes_eq task.cwd meta.cwd)
    (spec.same_lines task.lines meta.lines) parts.1 in
    let by : spec.by_records mode times meta.stamp meta.records ≡ None =
    rw goes.nofilemon at second.1 in
    let of = by_records-fresh mode times meta.stamp meta.records goes.missing_filemon by in
    record {
      standing = stands;
      target = target;
      untouched = before times.target times.meta
          (not-given (not (spec.is_older times.target times.meta)) why.Touched first.0);
      exports = same_pairs task.exports meta.exports parts.0;
      directory = same_bytes task.cwd meta.cwd commands.0;
      lines = same_lines-same task.lines meta.lines commands.1;
      recorded = of.recorded;
      reads = of.reads;
      misses = of.misses;
      left = of.left;
    }

meta-fresh : (task : Task) (mode : NodeMode) (times : Times) (meta : Meta) → GoesByRecords mode
    → times.target ≢ when.Missing → spec.by_meta (Some meta) task mode times ≡ None
    → IsFresh meta task times
meta-fresh task mode times meta goes stands none =
    cases (bytes_eq meta.target task.target)
    (λ is. let by : spec.by_contents task mode times meta ≡ None = rw is at none in
    contents-fresh task mode times meta goes stands
    (same_bytes meta.target task.target is) by)
    (λ apart. let by : spec.given mode.missing_meta why.NoMeta ≡ None = rw apart at none in
    let must = goes.missing_meta in
    let no = not-given mode.missing_meta why.NoMeta by in absurd cc)

pub no_reason_is_fresh : NoReasonIsFresh
no_reason_is_fresh meta task mode times goes none =
    let always = spec.given mode.always why.Always in
    let gone = spec.given (is_missing times.target) why.Missing in
    let newer = spec.at_first (spec.is_newer times.target) why.Newer times.sources in
    let rest = if mode.meta then spec.by_meta (Some meta) task mode times else None in
    let first = neither always (option_or gone (option_or newer rest)) none in
    let second = neither gone (option_or newer rest) first.1 in
    let third = neither newer rest second.1 in
    let by : spec.by_meta (Some meta) task mode times ≡ None = rw goes.meta at third.1 in
    meta-fresh task mode times meta goes
    (standing times.target (not-given (is_missing times.target) why.Missing second.0)) by

-- times of one kind, each of which a look saw at its path
seen-of : (look : List ℕ → When → Type 0) (kind : When → Type 0) (paths : List (List ℕ))
    (times : List When) → AllZip look paths times → AllByRecursion kind times
    → AllByRecursion (λ path. (time : When) × look path time × kind time) paths
seen-of look kind [] times looks all = tt
seen-of look kind (path ∷ paths) [] looks all = absurd looks
seen-of look kind (path ∷ paths) (time ∷ times) looks all =
    ((time, looks.0, all.0), seen-of look kind paths times looks.1 all.1)

each-saw : (looks : Looks) (kind : When → Type 0) (paths : List (List ℕ)) (times : List When)
    → AllZip (Saw looks) paths times → All kind times → EachSaw looks kind paths
each-saw looks kind paths times seen all =
    All-from_recursion (λ path. (time : When) × Saw looks path time × kind time) paths
    (seen-of (Saw looks) kind paths times seen (recursion_from_All kind times all))

pub fresh_at_paths : FreshAtPaths
fresh_at_paths looks ignored records meta task times seen fresh = record {
  reads = each-saw looks (IsOlderThan meta.stamp) (read_paths ignored records) times.reads
      seen.reads fresh.reads;
  misses = each-saw looks (λ time. time ≡ when.Missing) (missed_paths ignored records)
      times.misses seen.misses fresh.misses;
  left = each-saw looks (λ time. time ≢ when.Missing) (left_paths ignored records) times.left
      seen.left fresh.left;
}
