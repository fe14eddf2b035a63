-- What the clean build leaves.
use Rattle.std.proofs.Common.{◌≡◌, ◌⊎◌, inl, inr, ℕ, List, [], ◌∷◌, ◌++◌, map, Option, Some, None, Bool, true, false, if◌then◌else◌, ◌||◌, refl, sym, ◌∙◌, ap, ap₂, subst}
use Rattle.std.proofs.lemmas.Bool.{false≢true}
use Rattle.std.specs.List.{list_any}
use Rattle.std.specs.Str.{bytes_eq}
use Rattle.mk_clean.proofs.JobLemmas.{job_agree}
use Rattle.mk_clean.specs.Clean.{CleanBuildsForget, Plan, CleanJob, Lines, cleared, deeds_of, doings_by, after_by, jobs_by, files_by, lines_in, is_changed, LeavesIt, IsAmong, StandsBefore}
use Rattle.mk_clean.specs.Jobs.{job}
use Rattle.mk_meta.specs.TrueHistory.{changed_paths, deeds_of_job}
use Rattle.mk_world.proofs.OuterLemmas.{on-over_deeds}
use Rattle.mk_world.specs.Deeds.{Store, Spot, changes, put, put_all, after_deeds}
use Rattle.mk_world.specs.Outer.{Over, outer, nothing_over, over_spot, over_spots, over_deed, over_deeds, or_stood, AgreeOn}
use Rattle.mk_world.specs.Talks.{Doing, Meaning}
use Rattle.mk_world.specs.declared.command.Cmd.{Cmd}
use Rattle.mk_world.specs.declared.command.TaskLine.{TaskLine}
use Rattle.mk_world.specs.declared.step.Deed.{Deed}

-- a change that was made stands behind the steps
pub after_over : (store : Store) (deeds : List Deed) (path : List ℕ) (bytes : Option (List ℕ))
    → over_deeds nothing_over deeds path ≡ Some bytes → after_deeds store deeds path ≡ bytes
after_over store deeds path bytes is =
    sym (ap (λ files. files path) (on-over_deeds nothing_over store deeds))
    ∙ ap (λ over. or_stood over (store path)) is

pub after_none : (store : Store) (deeds : List Deed) (path : List ℕ)
    → over_deeds nothing_over deeds path ≡ None → after_deeds store deeds path ≡ store path
after_none store deeds path is =
    sym (ap (λ files. files path) (on-over_deeds nothing_over store deeds))
    ∙ ap (λ over. or_stood over (store path)) is

or_false : (first second : Bool) → (first || second) ≡ false → (first ≡ false) × (second ≡ false)
or_false true second is = absurd (false≢true (sym is))
or_false false second is = (refl, is)

abbrev has : List (List ℕ) → List ℕ → Bool
has paths path = list_any (λ one. bytes_eq one path) paths

abbrev paths_of : List Spot → List (List ℕ)
paths_of spots = map (λ spot. spot.path) spots

-- no spot is at this path
abbrev pub AreElsewhere : List ℕ → List Spot → Type 0
AreElsewhere path [] = Unit {0}
AreElsewhere path (spot ∷ spots) = (bytes_eq spot.path path ≡ false) × AreElsewhere path spots

elsewhere_of : (path : List ℕ) (spots : List Spot) (paths : List (List ℕ))
    → has (paths_of spots ++ paths) path ≡ false → AreElsewhere path spots × (has paths path ≡ false)
elsewhere_of path [] paths is = (tt, is)
elsewhere_of path (spot ∷ spots) paths is =
    let both = or_false (bytes_eq spot.path path) (has (paths_of spots ++ paths) path) is in
    let rest = elsewhere_of path spots paths both.1 in
    ((both.0, rest.0), rest.1)

over_elsewhere : (over : Over) (path : List ℕ) (spots : List Spot) → AreElsewhere path spots
    → over_spots over spots path ≡ over path
over_elsewhere over path [] away = refl
over_elsewhere over path (spot ∷ spots) away =
    over_elsewhere (over_spot over spot) path spots away.1
    ∙ ap (λ here. if here then Some spot.bytes else over path) away.0

pub put_elsewhere : (store : Store) (path : List ℕ) (spots : List Spot) → AreElsewhere path spots
    → put_all store spots path ≡ store path
put_elsewhere store path [] away = refl
put_elsewhere store path (spot ∷ spots) away =
    put_elsewhere (put store spot) path spots away.1
    ∙ ap (λ here. if here then spot.bytes else store path) away.0

over_unchanged : (over : Over) (path : List ℕ) (deeds : List Deed) → is_changed deeds path ≡ false
    → over_deeds over deeds path ≡ over path
over_unchanged over path [] is = refl
over_unchanged over path (deed ∷ deeds) is =
    let rest = elsewhere_of path (changes deed) (changed_paths deeds) is in
    over_unchanged (over_deed over deed) path deeds rest.1
    ∙ over_elsewhere over path (changes deed) rest.0

pub unchanged : (store : Store) (deeds : List Deed) (path : List ℕ) → is_changed deeds path ≡ false
    → after_deeds store deeds path ≡ store path
unchanged store deeds path is = after_none store deeds path (over_unchanged nothing_over path deeds is)

some_or_none : (bytes : Option (List ℕ)) (over : Option (Option (List ℕ))) → over ≡ Some bytes
    → over ≡ None → ⊥
some_or_none bytes over some none = cc

pub bool_two : (b : Bool) → (b ≡ true) ⊎ (b ≡ false)
bool_two true = inl refl
bool_two false = inr refl

-- what stands over a path was changed
pub over_changed : (path : List ℕ) (bytes : Option (List ℕ)) (deeds : List Deed)
    → over_deeds nothing_over deeds path ≡ Some bytes → is_changed deeds path ≡ true
over_changed path bytes deeds is = by (bool_two (is_changed deeds path))
  where
    by : (is_changed deeds path ≡ true) ⊎ (is_changed deeds path ≡ false)
        → is_changed deeds path ≡ true
    by (inl is_so) = is_so
    by (inr not_so) =
        absurd (some_or_none bytes (over_deeds nothing_over deeds path) is
        (over_unchanged nothing_over path deeds not_so))

or_two : (first second third : Bool) → (second ≡ true → third ≡ true) → (first || second) ≡ true
    → (first || third) ≡ true
or_two true second third next is = refl
or_two false second third next is = next is

or_more : (first second : Bool) → second ≡ true → (first || second) ≡ true
or_more true second is = refl
or_more false second is = is

has_first : (paths : List (List ℕ)) (path : List ℕ) (more others : List (List ℕ))
    → (has more path ≡ true → has others path ≡ true) → has (paths ++ more) path ≡ true
    → has (paths ++ others) path ≡ true
has_first [] path more others next is = next is
has_first (one ∷ paths) path more others next is =
    or_two (bytes_eq one path) (has (paths ++ more) path) (has (paths ++ others) path)
    (has_first paths path more others next) is

pub changed_first : (path : List ℕ) (deeds more : List Deed) → is_changed deeds path ≡ true
    → is_changed (deeds ++ more) path ≡ true
changed_first path [] more is = absurd (false≢true is)
changed_first path (deed ∷ deeds) more is =
    has_first (paths_of (changes deed)) path (changed_paths deeds) (changed_paths (deeds ++ more))
    (changed_first path deeds more) is

has_last : (paths more : List (List ℕ)) (path : List ℕ) → has more path ≡ true
    → has (paths ++ more) path ≡ true
has_last [] more path is = is
has_last (one ∷ paths) more path is =
    or_more (bytes_eq one path) (has (paths ++ more) path) (has_last paths more path is)

pub changed_last : (path : List ℕ) (deeds more : List Deed) → is_changed more path ≡ true
    → is_changed (deeds ++ more) path ≡ true
changed_last path [] more is = is
changed_last path (deed ∷ deeds) more is =
    has_last (paths_of (changes deed)) (changed_paths (deeds ++ more)) path
    (changed_last path deeds more is)

-- the changes of a step are elsewhere where it does not change a path
pub step_elsewhere : (path : List ℕ) (deed : Deed) → is_changed (deed ∷ []) path ≡ false
    → AreElsewhere path (changes deed)
step_elsewhere path deed is = (elsewhere_of path (changes deed) [] is).0

module _ (meaning : Meaning) (command : TaskLine → Cmd) (lines : Lines) where
  pub doings_in_clean : (nodes : List ℕ) (store : Store) (one : CleanJob)
      → IsAmong one (jobs_by meaning command lines nodes store)
      → one.doings ≡ doings_by meaning command lines one.node one.before
  doings_in_clean [] store one among = absurd among
  doings_in_clean (node ∷ nodes) store one (inl is) =
      subst (λ (job : CleanJob). job.doings ≡ doings_by meaning command lines job.node job.before) (sym is) refl
  doings_in_clean (node ∷ nodes) store one (inr among) =
      doings_in_clean nodes (after_by meaning command lines node store) one among

  -- a path that no job changes stands as at the beginning
  pub untouched : (path : List ℕ) (nodes : List ℕ) (store : Store)
      → ((one : CleanJob) → IsAmong one (jobs_by meaning command lines nodes store) → LeavesIt one path)
      → (files_by meaning command lines nodes store path ≡ store path)
      × ((one : CleanJob) → IsAmong one (jobs_by meaning command lines nodes store)
      → one.before path ≡ store path)
  untouched path [] store leave = (refl, λ one among. absurd among)
  untouched path (node ∷ nodes) store leave =
      let same : after_by meaning command lines node store path ≡ store path =
      unchanged store (deeds_of_job (doings_by meaning command lines node store)) path (leave _ (inl refl)) in
      let rest = untouched path nodes (after_by meaning command lines node store)
      (λ one among. leave one (inr among)) in
      (rest.0 ∙ same, λ one among. first one among same rest.1)
    where
      first : (one : CleanJob) → IsAmong one (jobs_by meaning command lines (node ∷ nodes) store)
          → after_by meaning command lines node store path ≡ store path
          → ((other : CleanJob)
          → IsAmong other (jobs_by meaning command lines nodes (after_by meaning command lines node store))
          → other.before path ≡ after_by meaning command lines node store path)
          → one.before path ≡ store path
      first one (inl is) same rest = ap (λ (job : CleanJob). job.before path) is
      first one (inr among) same rest = rest one among ∙ same

  -- what a job left and no later one changes stands before all later ones
  pub left_by : (path : List ℕ) (bytes : Option (List ℕ)) (maker : CleanJob)
      → over_deeds nothing_over (deeds_of maker) path ≡ Some bytes → (nodes : List ℕ) (store : Store)
      → ((later : CleanJob) → StandsBefore maker later (jobs_by meaning command lines nodes store)
      → LeavesIt later path)
      → (one : CleanJob) → StandsBefore maker one (jobs_by meaning command lines nodes store)
      → one.before path ≡ bytes
  left_by path bytes maker is [] store leave one before = absurd before
  left_by path bytes maker is (node ∷ nodes) store leave one (inr before) =
      left_by path bytes maker is nodes (after_by meaning command lines node store)
      (λ later stands. leave later (inr stands)) one before
  left_by path bytes maker is (node ∷ nodes) store leave one (inl first) =
      (untouched path nodes (after_by meaning command lines node store)
      (λ later among. leave later (inl (first.0, among)))).1 one first.1
      ∙ after_over store (deeds_of_job (doings_by meaning command lines node store)) path bytes
      (subst (λ job. over_deeds nothing_over (deeds_of job) path ≡ Some bytes) first.0 is)

  -- and at the end
  pub left_at_end : (path : List ℕ) (bytes : Option (List ℕ)) (maker : CleanJob)
      → over_deeds nothing_over (deeds_of maker) path ≡ Some bytes → (nodes : List ℕ) (store : Store)
      → ((later : CleanJob) → StandsBefore maker later (jobs_by meaning command lines nodes store)
      → LeavesIt later path)
      → IsAmong maker (jobs_by meaning command lines nodes store)
      → files_by meaning command lines nodes store path ≡ bytes
  left_at_end path bytes maker is [] store leave among = absurd among
  left_at_end path bytes maker is (node ∷ nodes) store leave (inr among) =
      left_at_end path bytes maker is nodes (after_by meaning command lines node store)
      (λ later stands. leave later (inr stands)) among
  left_at_end path bytes maker is (node ∷ nodes) store leave (inl first) =
      (untouched path nodes (after_by meaning command lines node store)
      (λ later among. leave later (inl (first, among)))).0
      ∙ after_over store (deeds_of_job (doings_by meaning command lines node store)) path bytes
      (subst (λ job. over_deeds nothing_over (deeds_of job) path ≡ Some bytes) first is)

  -- each node in the order has a job
  pub job_of_node : (node : ℕ) (nodes : List ℕ) (store : Store) → IsAmong node nodes
      → (one : CleanJob) × IsAmong one (jobs_by meaning command lines nodes store) × (one.node ≡ node)
  job_of_node node [] store among = absurd among
  job_of_node node (first ∷ nodes) store (inl is) = (_, inl refl, sym is)
  job_of_node node (first ∷ nodes) store (inr among) =
      let rest = job_of_node node nodes (after_by meaning command lines first store) among in
      (rest.0, inr rest.1, rest.2)

  -- and each job is that of one
  pub node_of_job : (nodes : List ℕ) (store : Store) (one : CleanJob)
      → IsAmong one (jobs_by meaning command lines nodes store) → IsAmong one.node nodes
  node_of_job [] store one among = absurd among
  node_of_job (node ∷ nodes) store one (inl same) = inl (ap (λ (it : CleanJob). it.node) same)
  node_of_job (node ∷ nodes) store one (inr among) =
      inr (node_of_job nodes (after_by meaning command lines node store) one among)

pub before_among : (one other : CleanJob) (all : List CleanJob) → StandsBefore one other all
    → IsAmong one all × IsAmong other all
before_among one other [] before = absurd before
before_among one other (first ∷ more) (inl both) = (inl both.0, inr both.1)
before_among one other (first ∷ more) (inr before) =
    let rest = before_among one other more before in (inr rest.0, inr rest.1)

pub agree_on : (first second : Store) (paths : List (List ℕ))
    → ((path : List ℕ) → IsAmong path paths → first path ≡ second path) → AgreeOn first second paths
agree_on first second [] same = tt
agree_on first second (path ∷ paths) same =
    (same path (inl refl), agree_on first second paths (λ one among. same one (inr among)))

-- parts of lists

pub among_last : {A : Type 0} (first second : List A) (one : A) → IsAmong one second
    → IsAmong one (first ++ second)
among_last [] second one among = among
among_last (item ∷ first) second one among = inr (among_last first second one among)

pub among_first : {A : Type 0} (first second : List A) (one : A) → IsAmong one first
    → IsAmong one (first ++ second)
among_first [] second one among = absurd among
among_first (item ∷ first) second one (inl is) = inl is
among_first (item ∷ first) second one (inr among) = inr (among_first first second one among)

-- what stands at made files and meta files

abbrev AreSame : Store → Store → Type 0
AreSame first second = (path : List ℕ) → first path ≡ second path

after_same : (first second : Store) (deeds : List Deed) → AreSame first second
    → AreSame (after_deeds first deeds) (after_deeds second deeds)
after_same first second deeds same path =
    sym (ap (λ files. files path) (on-over_deeds nothing_over first deeds))
    ∙ (ap (or_stood (over_deeds nothing_over deeds path)) (same path)
    ∙ ap (λ files. files path) (on-over_deeds nothing_over second deeds))

abbrev Done : List CleanJob → List (List Doing)
Done jobs = map (λ (one : CleanJob). one.doings) jobs

-- the lines of a plan do the same on files that are the same
jobs_same : (meaning : Meaning) (plan : Plan) (nodes : List ℕ) (first second : Store) → AreSame first second
    → (Done (jobs_by meaning plan.command (lines_in plan) nodes first)
    ≡ Done (jobs_by meaning plan.command (lines_in plan) nodes second))
    × AreSame (files_by meaning plan.command (lines_in plan) nodes first)
    (files_by meaning plan.command (lines_in plan) nodes second)
jobs_same meaning plan [] first second same = (refl, same)
jobs_same meaning plan (node ∷ nodes) first second same =
    let one = job meaning plan.command (plan.node node).lines first in
    let other = job meaning plan.command (plan.node node).lines second in
    let is : other ≡ one =
    job_agree meaning plan.command (plan.node node).lines first second
    (agree_on first second (outer nothing_over (deeds_of_job one)) (λ path among. same path)) in
    let left : AreSame (after_deeds first (deeds_of_job one)) (after_deeds second (deeds_of_job other)) =
    λ path.
    after_same first second (deeds_of_job one) same path
    ∙ ap (λ doings. after_deeds second (deeds_of_job doings) path) (sym is) in
    let rest = jobs_same meaning plan nodes (after_deeds first (deeds_of_job one))
    (after_deeds second (deeds_of_job other)) left in
    (ap₂ (λ doings more. doings ∷ more) (sym is) rest.0, rest.1)

pub builds_forget : CleanBuildsForget
builds_forget meaning plan store other same =
    jobs_same meaning plan plan.order (cleared plan store) (cleared plan other)
    (λ path. by path (plan.is_made path) (plan.is_meta path) refl refl)
  where
    by : (path : List ℕ) (made meta : Bool) → plan.is_made path ≡ made → plan.is_meta path ≡ meta
        → (if made || meta then None else store path) ≡ (if made || meta then None else other path)
    by path true meta is_made is_meta = refl
    by path false true is_made is_meta = refl
    by path false false is_made is_meta = same path is_made is_meta
