-- Where no breach is told, nothing is breached.
use Rattle.std.proofs.Common.{◌≡◌, ◌≢◌, ◌⊎◌, inl, inr, ℕ, zero, suc, ◌+◌, ◌<◌, ◌==◌, ◌&&◌, ◌||◌, Bool, true, false, not, cond}
use Rattle.std.proofs.Common.{List, [], ◌∷◌, ◌++◌, length, map, filter, flat_map, Option, Some, None, is_none, refl, sym, ap, ◌∙◌, subst, ⊎_elim, arith}
use Rattle.std.proofs.Common.{if◌then◌else◌, add-one}
use Rattle.std.proofs.lemmas.Bool.{false≢true, and_parts, or_cases, or_left, or_parts, or_right, not-true, not-false, eqb-true, eq-eqb, cases_lt}
use Rattle.std.proofs.lemmas.List.Folds.{list_any-append}
use Rattle.std.proofs.lemmas.Map.Views.{Contains-from_any}
use Rattle.std.proofs.lemmas.Option.{slice_get_within}
use Rattle.std.specs.List.{Contains, list_any, slice_get}
use Rattle.std.specs.Option.{option_map_or}
use Rattle.std.specs.Prelude.{nat_eq}
use Rattle.std.specs.Str.{bytes_eq}
use Rattle.mk_bytes.specs.Texts.{is_among as is_one}
use Rattle.mk_clean.specs.Clean.{DependsOn, IsAmong, Plan}
use Rattle.mk_clean.specs.Clean.DependsOn.{source, through}
use Rattle.mk_declared.specs.Recorded.{AreDeclaredBy, IsAlteredAlone, IsMadeFor, IsUnaltered, is_altered}
use Rattle.mk_filemon.proofs.EscapeLemmas.{cases}
use Rattle.mk_filemon.proofs.PathLemmas.{among, among-once, bytes_eq-same, bytes_eq-sym, same_bytes}
use Rattle.mk_filemon.specs.Outer.{all_touches, is_found, is_missed, left_written, named, once, outer_reads}
use Rattle.mk_world.specs.declared.step.Op.{Op}
use Rattle.mk_world.specs.declared.step.Op.TheVariants.{Read, Miss, Write, Delete, Move}
use Rattle.mk_breaches.proofs.BreachLemmas.{none-past}
use Rattle.mk_breaches.specs.Breaches.{breaches, breaches_from, breaches_of, changes, exists, is_apart, is_changed, is_hidden, is_judged, is_made, is_node, is_own, is_shared, is_unwritten, maker_from, maker_of, ops, others_name, plan_breaches, reads_changed, reads_made, record_breaches, sources_at, stale_breaches, state_breaches, task_breaches, told_where}
use Rattle.mk_breaches.specs.Unbreached.{AreOfPlan, IsJob, IsSettled, NoBreachIsTold, NothingIsBreached, recorded_of}
use Rattle.mk_breaches.specs.Paths.{changed_by, changed_paths, has, is_meta_path, is_named, meta_paths, paths_of}
use Rattle.mk_breaches.specs.Reaches.{Sources, depends}
use Rattle.mk_breaches.specs.declared.breach.Breach.{Breach}
use Rattle.mk_breaches.specs.declared.breach.Breach.TheVariants.{Mode, Asks, Differs, Unmeta, Task, Oodate, Exists}
use Rattle.mk_breaches.specs.declared.breach.Breach.TheVariants.{Unrecorded, Stale, ReadsMade, ReadsChanged, Changes, Unwritten, Meta}
use Rattle.mk_breaches.specs.declared.node.NodeFacts.{NodeFacts}
use Rattle.mk_breaches.specs.declared.node.PlanFacts.{PlanFacts}
use Rattle.mk_oodate.specs.declared.reason.Why.{Why}

abbrev Paths : Type 0
Paths = List (List ℕ)

-- lists without anything

first-none : {A : Type 0} (one other : List A) → one ++ other ≡ [] → one ≡ []
first-none [] other none = refl
first-none (x ∷ one) other none = absurd cc

second-none : {A : Type 0} (one other : List A) → one ++ other ≡ [] → other ≡ []
second-none [] other none = none
second-none (x ∷ one) other none = absurd cc

map-none : {A B : Type 0} (f : A → B) (all : List A) → map f all ≡ [] → all ≡ []
map-none f [] none = refl
map-none f (x ∷ all) none = absurd cc

-- what a filter leaves out fails its test
filter-none : (test : List ℕ → Bool) (paths : Paths) (path : List ℕ) → filter test paths ≡ []
    → among paths path ≡ true → test path ≡ false
filter-none test [] path none there = absurd (false≢true there)
filter-none test (first ∷ paths) path none there =
    cases (test first)
    (λ is. let more : first ∷ filter test paths ≡ [] = rw is at none in absurd cc)
    (λ off. let rest : filter test paths ≡ [] = rw off at none in
    cases (bytes_eq path first)
    (λ here. subst (λ one. test one ≡ false) (sym (same_bytes path first here)) off)
    (λ apart. let later : among paths path ≡ true = rw apart at there in
    filter-none test paths path rest later))

filter-among : (test : List ℕ → Bool) (paths : Paths) (path : List ℕ) → among (filter test paths) path ≡ true
    → among paths path ≡ true
filter-among test [] path there = there
filter-among test (first ∷ paths) path there =
    cases (bytes_eq path first)
    (λ here. rw here refl)
    (λ apart. rw apart (cases (test first)
    (λ is. let more : (if bytes_eq path first then true else among (filter test paths) path) ≡ true =
    rw is at there in
    let rest : among (filter test paths) path ≡ true = rw apart at more in
    filter-among test paths path rest)
    (λ off. let rest : among (filter test paths) path ≡ true = rw off at there in
    filter-among test paths path rest)))

is-in : (paths : Paths) (path : List ℕ) → IsAmong path paths → among paths path ≡ true
is-in [] path there = absurd there
is-in (first ∷ paths) path (inl is) =
    let same : bytes_eq path first ≡ true = ap (bytes_eq path) (sym is) ∙ bytes_eq-same path in
    rw same refl
is-in (first ∷ paths) path (inr there) = later (bytes_eq path first) (is-in paths path there)
  where
    later : (t : Bool) → among paths path ≡ true → (if t then true else among paths path) ≡ true
    later true rest = refl
    later false rest = rest

has-among : (paths : Paths) (path : List ℕ) → has paths path ≡ among paths path
has-among [] path = refl
has-among (first ∷ paths) path = by (bytes_eq first path) (bytes_eq-sym first path) (has-among paths path)
  where
    by : (b : Bool) → b ≡ bytes_eq path first → has paths path ≡ among paths path
        → (b || has paths path) ≡ (if bytes_eq path first then true else among paths path)
    by true is rest = rw (← is) refl
    by false is rest = rw (← is) rest

-- what records name and change

flat-has : (f : Op → Paths) (all : List Op) (path : List ℕ)
    → list_any (λ op. has (f op) path) all ≡ has (flat_map f all) path
flat-has f [] path = refl
flat-has f (op ∷ all) path =
    ap (λ b. has (f op) path || b) (flat-has f all path)
    ∙ sym (list_any-append (λ one. bytes_eq one path) (f op) (flat_map f all))

named-in : (all : List Op) (path : List ℕ) → is_named all path ≡ true
    → among (flat_map paths_of all) path ≡ true
named-in all path is = sym (has-among (flat_map paths_of all) path) ∙ sym (flat-has paths_of all path) ∙ is

or-false : (a : Bool) → (a || false) ≡ a
or-false true = refl
or-false false = refl

touched-named : (all : List Op) (path : List ℕ)
    → has (map (λ touched. touched.0) (all_touches all)) path ≡ is_named all path
touched-named [] path = refl
touched-named (Read at ∷ all) path =
    ap (λ b. bytes_eq at path || b) (touched-named all path)
    ∙ ap (λ b. b || is_named all path) (sym (or-false (bytes_eq at path)))
touched-named (Miss at ∷ all) path =
    ap (λ b. bytes_eq at path || b) (touched-named all path)
    ∙ ap (λ b. b || is_named all path) (sym (or-false (bytes_eq at path)))
touched-named (Write at ∷ all) path =
    ap (λ b. bytes_eq at path || b) (touched-named all path)
    ∙ ap (λ b. b || is_named all path) (sym (or-false (bytes_eq at path)))
touched-named (Delete at ∷ all) path =
    ap (λ b. bytes_eq at path || b) (touched-named all path)
    ∙ ap (λ b. b || is_named all path) (sym (or-false (bytes_eq at path)))
touched-named (Move from to ∷ all) path =
    ap (λ b. bytes_eq from path || (bytes_eq from path || (bytes_eq to path || b))) (touched-named all path)
    ∙ twice (bytes_eq from path) (bytes_eq to path) (is_named all path)
  where
    twice : (a b c : Bool) → (a || (a || (b || c))) ≡ ((a || (b || false)) || c)
    twice true b c = refl
    twice false true c = refl
    twice false false c = refl

-- an outer read is named
read-named : (all : List Op) (path : List ℕ) → IsAmong path (outer_reads all) → is_named all path ≡ true
read-named all path read =
    let touched = map (λ touched. touched.0) (all_touches all) in
    let one : among (named (all_touches all)) path ≡ true =
    filter-among (λ p. is_found (all_touches all) p || is_missed (all_touches all) p)
    (named (all_touches all)) path (is-in (outer_reads all) path read) in
    let two : among touched path ≡ true = sym (among-once touched path) ∙ one in
    sym (touched-named all path) ∙ has-among touched path ∙ two

altered-has : (all : List Op) (path : List ℕ) → is_altered all path ≡ has (flat_map changed_by all) path
altered-has [] path = refl
altered-has (Read at ∷ all) path = altered-has all path
altered-has (Miss at ∷ all) path = altered-has all path
altered-has (Write at ∷ all) path = ap (λ b. bytes_eq at path || b) (altered-has all path)
altered-has (Delete at ∷ all) path = ap (λ b. bytes_eq at path || b) (altered-has all path)
altered-has (Move from to ∷ all) path =
    apart (bytes_eq from path) (bytes_eq to path) (is_altered all path)
    ∙ ap (λ b. bytes_eq from path || (bytes_eq to path || b)) (altered-has all path)
  where
    apart : (a b c : Bool) → ((a || b) || c) ≡ (a || (b || c))
    apart true b c = refl
    apart false b c = refl

altered-in : (all : List Op) (path : List ℕ) → is_altered all path ≡ true
    → among (changed_paths all) path ≡ true
altered-in all path is =
    among-once (flat_map changed_by all) path
    ∙ sym (has-among (flat_map changed_by all) path) ∙ sym (altered-has all path) ∙ is

-- what is not named is not changed
unnamed : (all : List Op) (path : List ℕ) → is_named all path ≡ false → is_altered all path ≡ false
unnamed [] path off = refl
unnamed (op ∷ all) path off =
    let parts = or_parts (has (paths_of op) path) (is_named all path) off in
    by op parts.0 (unnamed all path parts.1)
  where
    by : (op : Op) → has (paths_of op) path ≡ false → is_altered all path ≡ false
        → is_altered (op ∷ all) path ≡ false
    by (Read at) none rest = rest
    by (Miss at) none rest = rest
    by (Write at) none rest = let is : bytes_eq at path ≡ false = sym (or-false (bytes_eq at path)) ∙ none in rw is rest
    by (Delete at) none rest = let is : bytes_eq at path ≡ false = sym (or-false (bytes_eq at path)) ∙ none in rw is rest
    by (Move from to) none rest =
        let parts = or_parts (bytes_eq from path) (bytes_eq to path || false) none in
        let is : bytes_eq to path ≡ false = sym (or-false (bytes_eq to path)) ∙ parts.1 in
        rw (parts.0, is) rest

among-append : (one other : Paths) (path : List ℕ) → among one path ≡ true → among (one ++ other) path ≡ true
among-append [] other path there = absurd (false≢true there)
among-append (first ∷ one) other path there =
    cases (bytes_eq path first)
    (λ here. rw here refl)
    (λ apart. let rest : among one path ≡ true = rw apart at there in
    rw apart (among-append one other path rest))

-- where no meta path is told, no path that records name is one
no-meta : (all : List Op) (name path : List ℕ) → meta_paths all name ≡ [] → is_named all path ≡ true
    → is_meta_path path ≡ false
no-meta all name path none is =
    let paths = flat_map paths_of all ++ name ∷ [] in
    filter-none is_meta_path (once paths) path none
    (among-once paths path ∙ among-append (flat_map paths_of all) (name ∷ []) path (named-in all path is))

-- nodes at places

off-at : {A : Type 0} (test : A → Bool) (all : List A) (n : ℕ) (one : A) → list_any test all ≡ false
    → slice_get all n ≡ Some one → test one ≡ false
off-at test [] n one off at = absurd cc
off-at test (first ∷ all) zero one off at =
    let same : first ≡ one = cc in
    subst (λ x. test x ≡ false) same (or_parts (test first) (list_any test all) off).0
off-at test (first ∷ all) (suc n) one off at =
    off-at test all n one (or_parts (test first) (list_any test all) off).1 at

breaches-at : (all : List NodeFacts) (first : ℕ) (nodes : List NodeFacts) (n : ℕ) (node : NodeFacts)
    → breaches_from all first nodes ≡ [] → slice_get nodes n ≡ Some node → breaches_of all (first + n) node ≡ []
breaches-at all first [] n node none at = absurd cc
breaches-at all first (one ∷ nodes) zero node none at =
    let same : one ≡ node = cc in
    let place : first ≡ first + 0 = omega arith in
    subst (λ x. breaches_of all (first + 0) x ≡ []) same
    (subst (λ k. breaches_of all k one ≡ []) place
    (first-none (breaches_of all first one) (breaches_from all (first + 1) nodes) none))
breaches-at all first (one ∷ nodes) (suc n) node none at =
    let place : (first + 1) + n ≡ first + suc n = omega arith in
    subst (λ k. breaches_of all k node ≡ []) place
    (breaches-at all (first + 1) nodes n node
    (second-none (breaches_of all first one) (breaches_from all (first + 1) nodes) none) at)

others-at : (first q : ℕ) (nodes : List NodeFacts) (path : List ℕ) (n : ℕ) (node : NodeFacts)
    → others_name first q nodes path ≡ false → slice_get nodes n ≡ Some node → (first + n ≡ q → ⊥)
    → is_named (ops node) path ≡ false
others-at first q [] path n node off at apart = absurd cc
others-at first q (one ∷ nodes) path zero node off at apart =
    let same : one ≡ node = cc in
    let place : first ≡ first + 0 = omega arith in
    let parts = or_parts (not (first == q) && is_named (ops one) path) (others_name (first + 1) q nodes path) off in
    subst (λ x. is_named (ops x) path ≡ false) same
    (by (first == q) refl (is_named (ops one) path) (λ is. apart (sym place ∙ is)) parts.0)
  where
    by : (b : Bool) → (first == q) ≡ b → (c : Bool) → (first ≡ q → ⊥) → (not b && c) ≡ false → c ≡ false
    by true is c apart none = absurd (apart (eqb-true first q is))
    by false is c apart none = none
others-at first q (one ∷ nodes) path (suc n) node off at apart =
    let place : first + suc n ≡ (first + 1) + n = omega arith in
    let parts = or_parts (not (first == q) && is_named (ops one) path) (others_name (first + 1) q nodes path) off in
    others-at (first + 1) q nodes path n node parts.1 at (λ is. apart (place ∙ is))

-- the maker of a path, and the node that it is
pub record MakerAt (first : ℕ) (nodes : List NodeFacts) (path : List ℕ) (maker : ℕ) : Type 0 where
  pub place : ℕ
  pub node : NodeFacts
  pub is : first + place ≡ maker
  pub at : slice_get nodes place ≡ Some node
  pub own : is_own node path ≡ true

maker-at : (first : ℕ) (nodes : List NodeFacts) (path : List ℕ) (maker : ℕ)
    → maker_from first nodes path ≡ Some maker → MakerAt first nodes path maker
maker-at first [] path maker is = absurd cc
maker-at first (node ∷ nodes) path maker is =
    cases (is_own node path)
    (λ own. let here : Some first ≡ Some maker = rw own at is in
    let same : first ≡ maker = cc in
    let place : first + 0 ≡ maker = omega arith in
    record { place = 0; node = node; is = place; at = refl; own = own })
    (λ other. let rest : maker_from (first + 1) nodes path ≡ Some maker = rw other at is in
    let found = maker-at (first + 1) nodes path maker rest in
    let sum : (first + 1) + found.place ≡ maker = found.is in
    let place : first + suc found.place ≡ maker = omega arith in
    record { place = suc found.place; node = found.node; is = place; at = found.at; own = found.own })

no-maker : (first : ℕ) (nodes : List NodeFacts) (path : List ℕ) → maker_from first nodes path ≡ None
    → is_made nodes path ≡ false
no-maker first [] path none = refl
no-maker first (node ∷ nodes) path none =
    cases (is_own node path)
    (λ own. let some : Some first ≡ None = rw own at none in absurd cc)
    (λ other. let rest : maker_from (first + 1) nodes path ≡ None = rw other at none in
    rw other (no-maker (first + 1) nodes path rest))

-- dependence

depends-first : (plan : Plan) (node between other : ℕ) → IsAmong between (plan.node node).sources
    → DependsOn plan between other → DependsOn plan node other
depends-first plan node between _ there (source other is) = through between other (source between there) is
depends-first plan node between _ there (through last other before is) =
    through last other (depends-first plan node between last there before) is

-- a node depends on what its sources are or depend on
depends-on : (plan : Plan) (node other : ℕ) (test : ℕ → Bool) (sources : List ℕ)
    → ((one : ℕ) → IsAmong one sources → IsAmong one (plan.node node).sources)
    → ((one : ℕ) → test one ≡ true → DependsOn plan one other)
    → list_any (λ one. (other == one) || test one) sources ≡ true → DependsOn plan node other
depends-on plan node other test [] all again some = absurd (false≢true some)
depends-on plan node other test (one ∷ sources) all again some =
    by (or_cases ((other == one) || test one) (list_any (λ n. (other == n) || test n) sources) some)
    (λ later. depends-on plan node other test sources (λ n there. all n (inr there)) again later)
  where
    at : ((other == one) ≡ true) ⊎ (test one ≡ true) → DependsOn plan node other
    at (inl here) =
        source other (subst (λ n. IsAmong n (plan.node node).sources) (sym (eqb-true other one here))
        (all one (inl refl)))
    at (inr later) = depends-first plan node one other (all one (inl refl)) (again one later)

    by : (((other == one) || test one) ≡ true) ⊎ (list_any (λ n. (other == n) || test n) sources ≡ true)
        → (list_any (λ n. (other == n) || test n) sources ≡ true → DependsOn plan node other)
        → DependsOn plan node other
    by (inl here) later = at (or_cases (other == one) (test one) here)
    by (inr rest) later = later rest

-- the parts of what the records of a node breach, where they breach nothing
record IsClear (nodes : List NodeFacts) (n : ℕ) (node : NodeFacts) : Type 0 where
  made : reads_made nodes n node ≡ []
  changed : reads_changed nodes node ≡ []
  shared : changes nodes n node ≡ []
  written : is_unwritten node ≡ false
  metas : meta_paths (ops node) node.name ≡ []

not-told : (is : Bool) (one : Breach) → told_where is one ≡ [] → is ≡ false
not-told true one none = absurd cc
not-told false one none = refl

clear : (nodes : List NodeFacts) (n : ℕ) (node : NodeFacts) → record_breaches nodes n node ≡ []
    → IsClear nodes n node
clear nodes n node none =
    let made = map (ReadsMade n) (reads_made nodes n node) in
    let changed = map (ReadsChanged n) (reads_changed nodes node) in
    let shared = map (Changes n) (changes nodes n node) in
    let left = told_where (is_unwritten node) (Unwritten n) in
    let metas = map (Meta n) (meta_paths (ops node) node.name) in
    let rest = second-none made (changed ++ (shared ++ (left ++ metas))) none in
    let more = second-none changed (shared ++ (left ++ metas)) rest in
    let last = second-none shared (left ++ metas) more in
    record {
      made = map-none (ReadsMade n) _ (first-none made (changed ++ (shared ++ (left ++ metas))) none);
      changed = map-none (ReadsChanged n) _ (first-none changed (shared ++ (left ++ metas)) rest);
      shared = map-none (Changes n) _ (first-none shared (left ++ metas) more);
      written = not-told (is_unwritten node) (Unwritten n) (first-none left metas last);
      metas = map-none (Meta n) _ (second-none left metas last);
    }

-- the parts of what a node with a job breaches, where it breaches nothing
record IsStill (nodes : List NodeFacts) (n : ℕ) (node : NodeFacts) : Type 0 where
  unmeta : node.unmeta ≡ false
  task : node.task ≡ false
  oodate : node.oodate ≡ false
  asked : exists nodes node ≡ []
  unrecorded : node.unrecorded ≡ false
  stale : node.stale ≡ None
  records : record_breaches nodes n node ≡ []

not-stale : (n : ℕ) (stale : Option Why) → stale_breaches n stale ≡ [] → stale ≡ None
not-stale n None none = refl
not-stale n (Some why) none = absurd cc

not-first : (is : Bool) (one : Breach) (rest : List Breach) → (if is then one ∷ [] else rest) ≡ []
    → (is ≡ false) × (rest ≡ [])
not-first true one rest none = absurd cc
not-first false one rest none = (refl, none)

still : (nodes : List NodeFacts) (n : ℕ) (node : NodeFacts) → node.job ≡ true → breaches_of nodes n node ≡ []
    → IsStill nodes n node
still nodes n node job none =
    let unmeta = told_where node.unmeta (Unmeta n) in
    let oodate = told_where node.oodate (Oodate n) in
    let asked = map (Exists n) (exists nodes node) in
    let found = if node.job then unmeta ++ task_breaches nodes n node else [] in
    let by_records = if is_judged node then record_breaches nodes n node else [] in
    let first : found ≡ [] = first-none found by_records none in
    let second : by_records ≡ [] = second-none found by_records none in
    let all : unmeta ++ task_breaches nodes n node ≡ [] = rw job at first in
    let task = not-first node.task (Task n) (oodate ++ (asked ++ state_breaches n node))
    (second-none unmeta (task_breaches nodes n node) all) in
    let more : asked ++ state_breaches n node ≡ [] = second-none oodate (asked ++ state_breaches n node) task.1 in
    let state = not-first node.unrecorded (Unrecorded n) (stale_breaches n node.stale)
    (second-none asked (state_breaches n node) more) in
    let stale = not-stale n node.stale state.1 in
    let told : record_breaches nodes n node ≡ [] = rw (job, task.0, state.0, stale) at second in
    record {
      unmeta = not-told node.unmeta (Unmeta n) (first-none unmeta (task_breaches nodes n node) all);
      task = task.0;
      oodate = not-told node.oodate (Oodate n) (first-none oodate (asked ++ state_breaches n node) task.1);
      asked = map-none (Exists n) _ (first-none asked (state_breaches n node) more);
      unrecorded = state.0;
      stale = stale;
      records = told;
    }

module _ (plan : Plan) (facts : PlanFacts) (nodes : List NodeFacts) (of : AreOfPlan plan nodes)
    (none : breaches facts nodes ≡ [])
  where
    source-of : (node one : ℕ) → IsAmong one (sources_at nodes node) → IsAmong one (plan.node node).sources
    source-of node one there =
        ⊎_elim
        (λ within. subst (IsAmong one) (sym (of.sources node within)) there)
        (λ past. absurd (subst (IsAmong one) (none-past nodes node past) there))
        (cases_lt node (length nodes))

    depends-over : (most node other : ℕ) → depends (sources_at nodes) most node other ≡ true
        → DependsOn plan node other
    depends-over zero node other is = absurd (false≢true is)
    depends-over (suc most) node other is =
        depends-on plan node other (λ one. depends (sources_at nodes) most one other) (sources_at nodes node)
        (source-of node) (λ one. depends-over most one other) is

    still-at : (n : ℕ) (node : NodeFacts) → slice_get nodes n ≡ Some node → node.job ≡ true → IsStill nodes n node
    still-at n node at job =
        let place : 0 + n ≡ n = omega arith in
        let rest = second-none (plan_breaches facts) (breaches_from nodes 0 nodes) none in
        still nodes n node job
        (subst (λ k. breaches_of nodes k node ≡ []) place (breaches-at nodes 0 nodes n node rest at))

    clear-at : (n : ℕ) (it : IsJob plan nodes n) → IsClear nodes n it.node
    clear-at n it = clear nodes n it.node (still-at n it.node it.at it.job).records

    recorded-is : (n : ℕ) (it : IsJob plan nodes n) → recorded_of nodes n ≡ ops it.node
    recorded-is n it = ap (λ found. option_map_or ops found []) it.at

    -- no path that the job of a node names is a meta path
    not-meta : (n : ℕ) (it : IsJob plan nodes n) (path : List ℕ) → is_named (ops it.node) path ≡ true
        → plan.is_meta path ≡ false
    not-meta n it path is =
        let off = no-meta (ops it.node) it.node.name path (clear-at n it).metas is in
        by (plan.is_meta path) (of.is_meta path) off
      where
        by : (b : Bool) → (b ≡ true → is_meta_path path ≡ true) → is_meta_path path ≡ false → b ≡ false
        by true some off = absurd (false≢true (sym off ∙ some refl))
        by false some off = refl

    made-for : (n maker : ℕ) (path : List ℕ) → maker_of nodes path ≡ Some maker
        → depends (sources_at nodes) (length nodes) n maker ≡ true → IsMadeFor plan n path
    made-for n maker path is over =
        let found = maker-at 0 nodes path maker is in
        let place : found.place ≡ maker = sym (same found.place) ∙ found.is in
        let at : slice_get nodes maker ≡ Some found.node = ap (slice_get nodes) (sym place) ∙ found.at in
        let own = and_parts found.node.made (bytes_eq found.node.name path) found.own in
        let there = of.makers maker found.node at own.0 in
        let it = of.jobs maker there in
        let node : it.node ≡ found.node = some-same (sym it.at ∙ at) in
        record {
          maker = maker;
          among = there;
          made = it.made ∙ ap (λ (one : NodeFacts). one.made) node ∙ own.0;
          name = it.name ∙ ap (λ (one : NodeFacts). one.name) node ∙ same_bytes found.node.name path own.1;
          depends = depends-over (length nodes) n maker over;
        }
      where
        same : (k : ℕ) → 0 + k ≡ k
        same k = omega arith

        some-same : {one other : NodeFacts} → Some one ≡ Some other → one ≡ other
        some-same is = cc

    unaltered : (path : List ℕ) → is_changed nodes path ≡ false → is_made nodes path ≡ false
        → plan.is_meta path ≡ false → IsUnaltered plan (recorded_of nodes) path
    unaltered path off no_made no_meta = record {
      alone = λ other there.
          let it = of.jobs other there in
          ap (λ all. is_altered all path) (recorded-is other it)
          ∙ off-at (λ node. is_altered (ops node) path) nodes other it.node off it.at;
      no_made = of.is_made path ∙ no_made;
      no_meta = no_meta;
    }

    reads : (n : ℕ) → IsAmong n plan.order → (path : List ℕ) → IsAmong path (outer_reads (recorded_of nodes n))
        → IsUnaltered plan (recorded_of nodes) path ⊎ IsMadeFor plan n path
    reads n among path read =
        let it = of.jobs n among in
        let here : IsAmong path (outer_reads (ops it.node)) =
        subst (λ all. IsAmong path (outer_reads all)) (recorded-is n it) read in
        let there = is-in (outer_reads (ops it.node)) path here in
        let apart = filter-none (λ p. is_apart nodes n (maker_of nodes p)) (outer_reads (ops it.node)) path
        (clear-at n it).made there in
        let still = filter-none (λ p. is_none (maker_of nodes p) && is_changed nodes p) (outer_reads (ops it.node)) path
        (clear-at n it).changed there in
        by (maker_of nodes path) refl apart still (not-meta n it path (read-named (ops it.node) path here))
      where
        by : (maker : Option ℕ) → maker_of nodes path ≡ maker → is_apart nodes n maker ≡ false
            → (is_none maker && is_changed nodes path) ≡ false → plan.is_meta path ≡ false
            → IsUnaltered plan (recorded_of nodes) path ⊎ IsMadeFor plan n path
        by None is apart still meta = inl (unaltered path still (no-maker 0 nodes path is) meta)
        by (Some maker) is apart still meta = inr (made-for n maker path is (not-false _ apart))

    changed-alone : (n : ℕ) → (path : List ℕ) → is_shared nodes n path ≡ false
        → IsAlteredAlone plan (recorded_of nodes) n path
    changed-alone n path off =
        let parts = or_parts (is_node nodes path) (others_name 0 n nodes path) off in
        record {
          no_node = of.is_node path ∙ parts.0;
          alone = λ other there apart.
              let it = of.jobs other there in
              let place : 0 + other ≡ other = omega arith in
              ap (λ all. is_altered all path) (recorded-is other it)
              ∙ unnamed (ops it.node) path
              (others-at 0 n nodes path other it.node parts.1 it.at (λ is. apart (sym place ∙ is)));
        }

    changes-are : (n : ℕ) → IsAmong n plan.order → (path : List ℕ) → is_altered (recorded_of nodes n) path ≡ true
        → (((plan.node n).made ≡ true) × ((plan.node n).name ≡ path))
        ⊎ IsAlteredAlone plan (recorded_of nodes) n path
    changes-are n among path altered =
        let it = of.jobs n among in
        let here : is_altered (ops it.node) path ≡ true =
        ap (λ all. is_altered all path) (sym (recorded-is n it)) ∙ altered in
        let off = filter-none (λ p. not (is_own it.node p) && is_shared nodes n p) (changed_paths (ops it.node)) path
        (clear-at n it).shared (altered-in (ops it.node) path here) in
        by it (is_own it.node path) refl (is_shared nodes n path) refl off
      where
        by : (it : IsJob plan nodes n) → (own : Bool) → is_own it.node path ≡ own
            → (shared : Bool) → is_shared nodes n path ≡ shared → (not own && shared) ≡ false
            → (((plan.node n).made ≡ true) × ((plan.node n).name ≡ path))
            ⊎ IsAlteredAlone plan (recorded_of nodes) n path
        by it true is shared also off =
            let parts = and_parts it.node.made (bytes_eq it.node.name path) is in
            inl (it.made ∙ parts.0, it.name ∙ same_bytes it.node.name path parts.1)
        by it false is shared also off = inr (changed-alone n path (also ∙ off))

    leaves : (n : ℕ) → IsAmong n plan.order → (plan.node n).made ≡ true
        → Contains (left_written (recorded_of nodes n)) (plan.node n).name
    leaves n among made =
        let it = of.jobs n among in
        let left : is_one (left_written (ops it.node)) it.node.name ≡ true =
        by it.node.made (sym it.made ∙ made) (is_one (left_written (ops it.node)) it.node.name)
        (clear-at n it).written in
        subst (λ all. Contains (left_written all) (plan.node n).name) (sym (recorded-is n it))
        (subst (Contains (left_written (ops it.node))) (sym it.name)
        (Contains-from_any same_bytes it.node.name (left_written (ops it.node)) left))
      where
        by : (made : Bool) → made ≡ true → (left : Bool) → (made && not left) ≡ false → left ≡ true
        by true is left off = not-false left off
        by false is left off = absurd (false≢true is)

    no-meta-changed : (n : ℕ) → IsAmong n plan.order → (path : List ℕ) → plan.is_meta path ≡ true
        → is_altered (recorded_of nodes n) path ≡ false
    no-meta-changed n among path meta =
        let it = of.jobs n among in
        ap (λ all. is_altered all path) (recorded-is n it)
        ∙ unnamed (ops it.node) path
        (by (is_named (ops it.node) path) refl (not-meta n it path))
      where
        by : (b : Bool) → {named : Bool} → named ≡ b → (named ≡ true → plan.is_meta path ≡ false) → named ≡ false
        by true is off = absurd (false≢true (sym (off is) ∙ meta))
        by false is off = is

    declared-by : AreDeclaredBy plan (recorded_of nodes)
    declared-by = record { reads = reads; changes = changes-are; leaves = leaves; no_meta = no-meta-changed }

    asked-unaltered : (node : NodeFacts) → exists nodes node ≡ [] → (path : List ℕ) → IsAmong path node.asked
        → IsUnaltered plan (recorded_of nodes) path
    asked-unaltered node off path there =
        let one : among (once node.asked) path ≡ true = among-once node.asked path ∙ is-in node.asked path there in
        let test = filter-none (λ p. is_hidden nodes p || is_changed nodes p) (once node.asked) path off one in
        let parts = or_parts (is_hidden nodes path) (is_changed nodes path) test in
        let hidden = or_parts (is_made nodes path) (is_meta_path path) parts.0 in
        unaltered path parts.1 hidden.0 (by (plan.is_meta path) (of.is_meta path) hidden.1)
      where
        by : (b : Bool) → (b ≡ true → is_meta_path path ≡ true) → is_meta_path path ≡ false → b ≡ false
        by true some off = absurd (false≢true (sym off ∙ some refl))
        by false some off = refl

    settled : (n : ℕ) (node : NodeFacts) → slice_get nodes n ≡ Some node → node.job ≡ true → IsSettled plan nodes node
    settled n node at job =
        let it = still-at n node at job in
        record {
          kept = it.unmeta;
          task = it.task;
          compared = it.oodate;
          asked = asked-unaltered node it.asked;
          recorded = it.unrecorded;
          not_stale = it.stale;
        }

    unbreached : NothingIsBreached plan facts nodes
    unbreached =
        let mode = told_where facts.mode Mode in
        let asks = told_where facts.asks Asks in
        let differs = told_where (not facts.asks && facts.differs) Differs in
        let whole : mode ++ (asks ++ differs) ≡ [] =
        first-none (plan_breaches facts) (breaches_from nodes 0 nodes) none in
        let rest : asks ++ differs ≡ [] = second-none mode (asks ++ differs) whole in
        let no_asks = not-told facts.asks Asks (first-none asks differs rest) in
        let last : (not facts.asks && facts.differs) ≡ false =
        not-told (not facts.asks && facts.differs) Differs (second-none asks differs rest) in
        record {
          mode = not-told facts.mode Mode (first-none mode (asks ++ differs) whole);
          asks = no_asks;
          same = rw no_asks at last;
          jobs = settled;
          declared = declared-by;
        }

pub nothing_is_breached : NoBreachIsTold
nothing_is_breached = unbreached
