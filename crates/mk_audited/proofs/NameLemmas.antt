-- Where nothing is breached, a node with a job has the name of no meta file.
use Rattle.std.proofs.Common.{◌≡◌, ◌∙◌, ℕ, zero, suc, ◌+◌, Bool, true, false, List, [], ◌∷◌, ◌++◌, map, filter, flat_map}
use Rattle.std.proofs.Common.{Some, slice_get, refl, sym, subst, arith, if◌then◌else◌}
use Rattle.std.proofs.lemmas.Bool.{false≢true}
use Rattle.std.specs.Str.{bytes_eq}
use Rattle.mk_breaches.specs.Breaches.{breaches, breaches_from, breaches_of, changes, is_judged, is_unwritten, ops, plan_breaches, reads_changed, reads_made, record_breaches, task_breaches, told_where}
use Rattle.mk_breaches.specs.Paths.{is_meta_path, meta_paths, paths_of}
use Rattle.mk_breaches.specs.declared.breach.Breach.TheVariants.{ReadsMade, ReadsChanged, Changes, Unmeta, Unwritten, Meta}
use Rattle.mk_breaches.specs.declared.node.NodeFacts.{NodeFacts}
use Rattle.mk_breaches.specs.declared.node.PlanFacts.{PlanFacts}
use Rattle.mk_filemon.proofs.PathLemmas.{among, among-once, bytes_eq-same, same_bytes}
use Rattle.mk_filemon.specs.Outer.{once}

second-none : {A : Type 0} (one other : List A) → one ++ other ≡ [] → other ≡ []
second-none [] other none = none
second-none (x ∷ one) other none = absurd cc

first-none : {A : Type 0} (one other : List A) → one ++ other ≡ [] → one ≡ []
first-none [] other none = refl
first-none (x ∷ one) other none = absurd cc

map-none : {A B : Type 0} (f : A → B) (all : List A) → map f all ≡ [] → all ≡ []
map-none f [] none = refl
map-none f (x ∷ all) none = absurd cc

cases : {P : Type 0} (t : Bool) → (t ≡ true → P) → (t ≡ false → P) → P
cases true here there = here refl
cases false here there = there refl

-- what a filter leaves out fails its test
filter-none : (test : List ℕ → Bool) (paths : List (List ℕ)) (path : List ℕ) → filter test paths ≡ []
    → among paths path ≡ true → test path ≡ false
filter-none test [] path none there = absurd (false≢true there)
filter-none test (first ∷ paths) path none there =
    cases (test first)
    (λ is. let more : first ∷ filter test paths ≡ [] = rw is at none in absurd cc)
    (λ off. let rest : filter test paths ≡ [] = rw off at none in
    cases (bytes_eq path first)
    (λ here. subst (λ one. test one ≡ false) (sym (same_bytes path first here)) off)
    (λ apart. let later : among paths path ≡ true = rw apart at there in
    filter-none test paths path rest later))

among-end : (paths : List (List ℕ)) (path : List ℕ) → among (paths ++ path ∷ []) path ≡ true
among-end [] path = rw (bytes_eq-same path) refl
among-end (first ∷ paths) path =
    cases (bytes_eq path first) (λ here. rw here refl) (λ apart. rw apart (among-end paths path))

breaches-at : (all : List NodeFacts) (first : ℕ) (nodes : List NodeFacts) (n : ℕ) (node : NodeFacts)
    → breaches_from all first nodes ≡ [] → slice_get nodes n ≡ Some node → breaches_of all (first + n) node ≡ []
breaches-at all first [] n node none at = absurd cc
breaches-at all first (one ∷ nodes) zero node none at =
    let same : one ≡ node = cc in
    let place : first ≡ first + 0 = omega arith in
    subst (λ k. breaches_of all k node ≡ []) place
    (subst (λ it. breaches_of all first it ≡ []) same
    (first-none (breaches_of all first one) (breaches_from all (first + 1) nodes) none))
breaches-at all first (one ∷ nodes) (suc n) node none at =
    let place : first + 1 + n ≡ first + suc n = omega arith in
    subst (λ k. breaches_of all k node ≡ []) place
    (breaches-at all (first + 1) nodes n node
    (second-none (breaches_of all first one) (breaches_from all (first + 1) nodes) none) at)

pub no-meta-name : (facts : PlanFacts) (nodes : List NodeFacts) (n : ℕ) (node : NodeFacts)
    → breaches facts nodes ≡ [] → slice_get nodes n ≡ Some node → is_judged node ≡ true
    → is_meta_path node.name ≡ false
no-meta-name facts nodes n node none at judged =
    let place : 0 + n ≡ n = omega arith in
    let here = subst (λ k. breaches_of nodes k node ≡ []) place
    (breaches-at nodes 0 nodes n node
    (second-none (plan_breaches facts) (breaches_from nodes 0 nodes) none) at) in
    let found = if node.job then told_where node.unmeta (Unmeta n) ++ task_breaches nodes n node else [] in
    let by_records = if is_judged node then record_breaches nodes n node else [] in
    let last : by_records ≡ [] = second-none found by_records here in
    let told : record_breaches nodes n node ≡ [] =
    subst (λ b. (if b then record_breaches nodes n node else []) ≡ []) judged last in
    let made = map (ReadsMade n) (reads_made nodes n node) in
    let changed = map (ReadsChanged n) (reads_changed nodes node) in
    let shared = map (Changes n) (changes nodes n node) in
    let left = told_where (is_unwritten node) (Unwritten n) in
    let metas = map (Meta n) (meta_paths (ops node) node.name) in
    let rest = second-none made (changed ++ (shared ++ (left ++ metas))) told in
    let more = second-none changed (shared ++ (left ++ metas)) rest in
    let ends = second-none shared (left ++ metas) more in
    let none_there = map-none (Meta n) (meta_paths (ops node) node.name) (second-none left metas ends) in
    let paths = flat_map paths_of (ops node) ++ node.name ∷ [] in
    filter-none is_meta_path (once paths) node.name none_there
    (among-once paths node.name ∙ among-end (flat_map paths_of (ops node)) node.name)
