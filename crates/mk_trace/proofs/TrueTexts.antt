-- True meta files when something more happens.
use Rattle.std.proofs.Common.{◌≡◌, ◌∙◌, ◌⊎◌, ℕ, ◌<◌, ◌≤◌, Bool, true, false, List, [], ◌∷◌, ◌++◌, codes, Option, Some, None, if◌then◌else◌}
use Rattle.std.proofs.Common.{inl, inr, refl, sym, ap, subst, arith, append_assoc, le_of_lt}
use Rattle.std.proofs.lemmas.Bool.{false_from_ne_true}
use Rattle.std.proofs.lemmas.List.Concat.{flat_map-append}
use Rattle.std.proofs.lemmas.Slice.Eq.{bytes_eq-Decides}
use Rattle.std.specs.List.{AllByRecursion}
use Rattle.std.specs.Option.{option_map}
use Rattle.std.specs.Str.{bytes_eq}
use Rattle.mk_meta.proofs.MetaLemmas.{meta_in-again, none_begins}
use Rattle.mk_meta.specs.Lawful.{IsLawful}
use Rattle.mk_meta.specs.Reading.{meta_in}
use Rattle.mk_meta.specs.Texts.{head, front, middle, records_lines, meta_text}
use Rattle.mk_meta.specs.TrueHistory.{job_event, LeavesAlone, meta_path, IsTrue}
use Rattle.mk_meta.specs.declared.meta.Meta.{Meta}
use Rattle.mk_world.specs.History.{Effect, FileMap, Filed, State, effects, effected, effected_all, filed, contents, MayAll, MayNow, after, after_all}
use Rattle.mk_world.specs.Talks.{Meaning, NextOf}
use Rattle.mk_world.specs.declared.history.Happening.{Happening}
use Rattle.mk_world.specs.declared.history.Happening.TheVariants.{Edit, Look, Stamp, Put, Gone, Ask, Start, Step, End, Left}

-- texts

pub same-text : (one other : Meta) → IsLawful one → IsLawful other → meta_text one ≡ meta_text other
    → one ≡ other
same-text one other is also same =
    let again : Some one ≡ Some other =
    sym (meta_in-again one is) ∙ (ap meta_in same ∙ meta_in-again other also) in
    cc

-- a value of this target
plain : List ℕ → Meta
plain target = record {
  stamp = record { 0 = 0 };
  exports = [];
  lines = [];
  cwd = [];
  target = target;
  output = [];
  records = None;
}

plain-lawful : (target : List ℕ) → IsLawful (plain target)
unfolding plain
plain-lawful target = record {
  stamp = omega arith;
  output = omega arith;
  lines = tt;
  names = tt;
  sorted = refl;
  records = tt;
}

-- no text of a value begins the head of a meta file
pub no-head : (target : List ℕ) (meta : Meta) (rest : List ℕ) → IsLawful meta
    → meta_text meta ++ rest ≡ head target → ⊥
unfolding plain
no-head target meta rest is same =
    let one = plain target in
    let tail = front one ++ (middle one ++ (records_lines one.records ++ codes "# end 3\n")) in
    let all : meta_text meta ++ (rest ++ tail) ≡ meta_text one =
    sym (append_assoc (meta_text meta) rest tail)
    ∙ (ap (λ l. l ++ tail) same
    ∙ sym (regroup (head target) (front one) (middle one) (records_lines one.records) (codes "# end 3\n"))) in
    none-empty rest (none_begins meta one (rest ++ tail) is (plain-lawful target) all)
  where
    regroup : (a b c d e : List ℕ) → a ++ b ++ c ++ d ++ e ≡ a ++ (b ++ (c ++ (d ++ e)))
    regroup a b c d e = simp append_assoc

    none-empty : (rest : List ℕ) → rest ++ (front (plain target)
        ++ (middle (plain target) ++ (records_lines None ++ codes "# end 3\n"))) ≡ [] → ⊥
    none-empty [] is = absurd cc
    none-empty (byte ∷ rest) is = absurd cc

-- files

pub left-alone : (path : List ℕ) (files : FileMap) (all : List Effect) → LeavesAlone path all
    → effected_all files all path ≡ files path
left-alone path files [] alone = refl
left-alone path files (effect ∷ more) alone =
    left-alone path (effected files effect) more alone.1
    ∙ ap (λ b. if b then filed effect.bytes effect.time else files path)
    (false_from_ne_true (bytes_eq effect.path path)
    (λ is. alone.0 ((bytes_eq-Decides effect.path path).0 is)))

bytes-filed : (here : Bool) (path other : List ℕ) (bytes : Option (List ℕ)) (time : ℕ) (stood : Option Filed)
    (text : List ℕ) → (here ≡ true → other ≡ path) → (here ≡ false → other ≡ path → ⊥)
    → option_map (λ (file : Filed). file.bytes) (if here then filed bytes time else stood) ≡ Some text
    → ((other ≡ path) × (bytes ≡ Some text))
    ⊎ ((other ≡ path → ⊥) × (option_map (λ (file : Filed). file.bytes) stood ≡ Some text))
bytes-filed true path other None time stood text same apart is = absurd cc
bytes-filed true path other (Some bytes) time stood text same apart is = inl (same refl, is)
bytes-filed false path other bytes time stood text same apart is = inr (apart refl, is)

-- what stands at a path behind a change
pub stands-behind : (files : FileMap) (path other text : List ℕ) (bytes : Option (List ℕ)) (time : ℕ)
    → contents (effected files (record { path = other; bytes = bytes; time = time })) path ≡ Some text
    → ((other ≡ path) × (bytes ≡ Some text))
    ⊎ ((other ≡ path → ⊥) × (contents files path ≡ Some text))
stands-behind files path other text bytes time is =
    bytes-filed (bytes_eq other path) path other bytes time (files path) text
    (bytes_eq-Decides other path).0
    (λ differs same. absurd (true-false (sym ((bytes_eq-Decides other path).1 same) ∙ differs))) is
  where
    true-false : true ≡ false → ⊥
    true-false is = absurd cc

-- stamps rise

stamp-rises : (meaning : Meaning) (state : State) (event : Happening) → MayNow meaning state event
    → state.stamped ≤ (after state event).stamped
stamp-rises meaning state (Stamp path bytes time) may = le_of_lt may
stamp-rises meaning state (Edit path bytes time) may = omega arith
stamp-rises meaning state (Look path) may = omega arith
stamp-rises meaning state (Put path bytes time) may = omega arith
stamp-rises meaning state (Gone path time) may = omega arith
stamp-rises meaning state (Ask cmd steps) may = omega arith
stamp-rises meaning state (Start ticket owner cmd) may = omega arith
stamp-rises meaning state (Step ticket owner deed time) may = omega arith
stamp-rises meaning state (End ticket owner) may = omega arith
stamp-rises meaning state (Left ticket owner) may = omega arith

pub stamps-rise : (meaning : Meaning) (state : State) (events : List Happening)
    → MayAll meaning state events → state.stamped ≤ (after_all state events).stamped
stamps-rise meaning state [] may = omega arith
stamps-rise meaning state (event ∷ events) may =
    let first = stamp-rises meaning state event may.0.1 in
    let rest = stamps-rise meaning (after state event) events may.1 in
    omega (arith, first, rest)

-- a stamp is later than those before it, and no later than the last behind it
pub stamp-between : (meaning : Meaning) (state : State) (before after_it : List Happening)
    (path bytes : List ℕ) (time : ℕ) → MayAll meaning state (before ++ Stamp path bytes time ∷ after_it)
    → (state.stamped < time)
    × (time ≤ (after_all state (before ++ Stamp path bytes time ∷ after_it)).stamped)
stamp-between meaning state [] after_it path bytes time may =
    (may.0.1, stamps-rise meaning (after state (Stamp path bytes time)) after_it may.1)
stamp-between meaning state (event ∷ before) after_it path bytes time may =
    let first = stamp-rises meaning state event may.0.1 in
    let rest = stamp-between meaning (after state event) before after_it path bytes time may.1 in
    (omega (arith, first, rest.0), rest.1)

-- true meta files

pub all-last : {A : Type 0} (P : A → Type 0) (items : List A) (last : A) → AllByRecursion P items → P last
    → AllByRecursion P (items ++ last ∷ [])
all-last P [] last all is = (is, tt)
all-last P (item ∷ items) last all is = (all.0, all-last P items last all.1 is)

-- something happens that neither changes the file nor is its job's
pub true-more : (next : NextOf) (meta : Meta) (events : List Happening) (event : Happening)
    → LeavesAlone (meta_path meta.target) (effects event) → job_event meta.stamp.0 event ≡ []
    → IsTrue next meta events → IsTrue next meta (events ++ event ∷ [])
true-more next meta events event leaves none is = record {
  before = is.before;
  first = is.first;
  during = is.during;
  time = is.time;
  since = is.since ++ event ∷ [];
  doings = is.doings;
  all =
      let tail = Put (meta_path meta.target) (meta_text meta) is.time ∷ is.since in
      ap (λ l. l ++ event ∷ []) is.all
      ∙ (append_assoc is.before (Stamp (meta_path meta.target) is.first meta.stamp.0 ∷ (is.during ++ tail))
      (event ∷ [])
      ∙ ap (λ l. is.before ++ Stamp (meta_path meta.target) is.first meta.stamp.0 ∷ l)
      (append_assoc is.during tail (event ∷ [])));
  unchanged = all-last (λ e. LeavesAlone (meta_path meta.target) (effects e)) is.since event is.unchanged leaves;
  commands = is.commands;
  well = is.well;
  over = flat_map-append (job_event meta.stamp.0) is.since (event ∷ [])
      ∙ rw (is.over, none) refl;
  records = is.records;
  alone = is.alone;
}

-- Each meta file that stands is true, and its job is over.
abbrev pub AreTrue : NextOf → List Happening → FileMap → (ℕ → Type 0) → Type 0
AreTrue next events files IsOver =
    (meta : Meta) → IsLawful meta → contents files (meta_path meta.target) ≡ Some (meta_text meta)
    → IsTrue next meta events × IsOver meta.stamp.0

-- what changes no meta file
pub true-same : (next : NextOf) (events : List Happening) (files : FileMap) (IsOver IsOverThen : ℕ → Type 0)
    (event : Happening) → ((target : List ℕ) → LeavesAlone (meta_path target) (effects event))
    → ((stamp : ℕ) → IsOver stamp → IsOverThen stamp × (job_event stamp event ≡ []))
    → AreTrue next events files IsOver
    → AreTrue next (events ++ event ∷ []) (effected_all files (effects event)) IsOverThen
true-same next events files IsOver IsOverThen event leaves kept are meta lawful stands =
    let path = meta_path meta.target in
    let before : contents files path ≡ Some (meta_text meta) =
    ap (option_map (λ (file : Filed). file.bytes)) (sym (left-alone path files (effects event) (leaves meta.target)))
    ∙ stands in
    let was = are meta lawful before in
    let then_is = kept meta.stamp.0 was.1 in
    (true-more next meta events event (leaves meta.target) then_is.1 was.0, then_is.0)

-- what changes one path, at which each meta file that stands then is true
pub true-changed : (next : NextOf) (events : List Happening) (files : FileMap) (IsOver IsOverThen : ℕ → Type 0)
    (event : Happening) (path : List ℕ) (bytes : Option (List ℕ)) (time : ℕ)
    → effects event ≡ record { path = path; bytes = bytes; time = time } ∷ []
    → ((stamp : ℕ) → IsOver stamp → IsOverThen stamp × (job_event stamp event ≡ []))
    → ((meta : Meta) → IsLawful meta → path ≡ meta_path meta.target → bytes ≡ Some (meta_text meta)
    → IsTrue next meta (events ++ event ∷ []) × IsOverThen meta.stamp.0)
    → AreTrue next events files IsOver
    → AreTrue next (events ++ event ∷ []) (effected_all files (effects event)) IsOverThen
true-changed next events files IsOver IsOverThen event path bytes time one kept new are meta lawful stands =
    by (stands-behind files (meta_path meta.target) path (meta_text meta) bytes time
    (subst (λ (all : List Effect). contents (effected_all files all) (meta_path meta.target) ≡ Some (meta_text meta))
    one stands))
  where
    by : ((path ≡ meta_path meta.target) × (bytes ≡ Some (meta_text meta)))
        ⊎ ((path ≡ meta_path meta.target → ⊥)
        × (contents files (meta_path meta.target) ≡ Some (meta_text meta)))
        → IsTrue next meta (events ++ event ∷ []) × IsOverThen meta.stamp.0
    by (inl here) = new meta lawful here.0 here.1
    by (inr elsewhere) =
        let was = are meta lawful elsewhere.1 in
        let then_is = kept meta.stamp.0 was.1 in (
          true-more next meta events event
              (subst (LeavesAlone (meta_path meta.target)) (sym one) (elsewhere.0, tt)) then_is.1 was.0,
          then_is.0,
        )
