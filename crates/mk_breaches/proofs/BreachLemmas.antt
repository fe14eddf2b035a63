-- What the table and the walks tell is what the breaches are.
use Rattle.std.proofs.Common.{◌≡◌, ℕ, zero, suc, ◌+◌, ◌<◌, ◌≤◌, ◌==◌, ◌&&◌, ◌||◌, Bool, true, false, not, List, [], ◌∷◌, length}
use Rattle.std.proofs.Common.{Option, Some, None, is_none, filter, refl, sym, ap, ◌∙◌, subst, arith, if◌then◌else◌}
use Rattle.std.proofs.lemmas.Bool.{false≢true, or_left, or_parts}
use Rattle.std.proofs.lemmas.Option.{slice_get_past}
use Rattle.std.specs.List.{list_any, slice_get}
use Rattle.std.specs.Prelude.{nat_eq}
use Rattle.mk_filemon.proofs.EscapeLemmas.{cases}
use Rattle.mk_breaches.specs.Breaches.{is_apart, is_changed, is_hidden, is_made, is_node, is_own, is_shared, maker_from, maker_of, sources_at}
use Rattle.mk_breaches.specs.Paths.{is_meta_path}
use Rattle.mk_breaches.specs.Reaches.{depends}
use Rattle.mk_breaches.specs.Rows.{Rows, by_other, noted_from, no_row}
use Rattle.mk_breaches.specs.Walks.{is_distant, is_unmet}
use Rattle.mk_breaches.specs.declared.node.NodeFacts.{NodeFacts}
use Rattle.mk_breaches.specs.declared.table.Row.{Row}
use Rattle.mk_breaches.proofs.RowLemmas.{tells-all}

-- filters by tests that tell the same
pub filter-same : {A : Type 0} (one other : A → Bool) (all : List A) → ((x : A) → one x ≡ other x)
    → filter one all ≡ filter other all
filter-same one other [] same = refl
filter-same one other (x ∷ all) same =
    rw (same x) (cases (other x)
    (λ is. rw is (ap (λ rest. x ∷ rest) (filter-same one other all same)))
    (λ off. rw off (filter-same one other all same)))

-- no source is further than the end of the nodes
pub none-past : (nodes : List NodeFacts) (n : ℕ) → length nodes ≤ n → sources_at nodes n ≡ []
none-past nodes n past = rw (slice_get_past nodes n past) refl

maker-below : (first : ℕ) (nodes : List NodeFacts) (path : List ℕ) (maker : ℕ)
    → maker_from first nodes path ≡ Some maker → maker < first + length nodes
maker-below first [] path maker is = absurd cc
maker-below first (node ∷ nodes) path maker is =
    cases (is_own node path)
    (λ own. let here : Some first ≡ Some maker = rw own at is in
    let same : first ≡ maker = cc in omega arith)
    (λ other. let rest : maker_from (first + 1) nodes path ≡ Some maker = rw other at is in
    let under : maker < (first + 1) + length nodes = maker-below (first + 1) nodes path maker rest in
    omega arith)

-- a path has a maker where it is that of a made file
some-maker : (first : ℕ) (nodes : List NodeFacts) (path : List ℕ)
    → not (is_none (maker_from first nodes path)) ≡ is_made nodes path
some-maker first [] path = refl
some-maker first (node ∷ nodes) path =
    cases (is_own node path)
    (λ own. rw own refl)
    (λ other. rw other (some-maker (first + 1) nodes path))

maker-within : (nodes : List NodeFacts) (path : List ℕ) (maker : ℕ) → maker_of nodes path ≡ Some maker
    → maker < length nodes
maker-within nodes path maker is =
    let under : maker < 0 + length nodes = maker-below 0 nodes path maker is in omega arith

module _ (rows : Rows) (nodes : List NodeFacts) (is : rows ≡ noted_from 0 (λ other. no_row) nodes) where
  maker-is : (path : List ℕ) → (rows path).maker ≡ maker_of nodes path
  maker-is path = (tells-all rows nodes path is).maker

  -- reads that are changed
  pub changed-reads : (reads : List (List ℕ))
      → filter (λ path. is_none (rows path).maker && (rows path).changed) reads
      ≡ filter (λ path. is_none (maker_of nodes path) && is_changed nodes path) reads
  changed-reads reads = filter-same _ _ reads (λ path.
      ap (λ maker. is_none maker && (rows path).changed) (maker-is path)
      ∙ ap (λ b. is_none (maker_of nodes path) && b) (tells-all rows nodes path is).changed)

  -- paths that are hidden or changed
  pub unsettled-asked : (asked : List (List ℕ))
      → filter (λ path. (not (is_none (rows path).maker) || is_meta_path path) || (rows path).changed) asked
      ≡ filter (λ path. is_hidden nodes path || is_changed nodes path) asked
  unsettled-asked asked = filter-same _ _ asked (λ path.
      ap (λ maker. (not (is_none maker) || is_meta_path path) || (rows path).changed) (maker-is path)
      ∙ ap (λ made. (made || is_meta_path path) || (rows path).changed) (some-maker 0 nodes path)
      ∙ ap (λ b. is_hidden nodes path || b) (tells-all rows nodes path is).changed)

  -- changes of paths that are shared
  pub shared-changes : (n : ℕ) (node : NodeFacts) (changed : List (List ℕ))
      → filter (λ path. not (is_own node path) && ((rows path).node || by_other n (rows path).naming)) changed
      ≡ filter (λ path. not (is_own node path) && is_shared nodes n path) changed
  shared-changes n node changed = filter-same _ _ changed (λ path.
      ap (λ b. not (is_own node path) && (b || by_other n (rows path).naming)) (tells-all rows nodes path is).node
      ∙ ap (λ b. not (is_own node path) && (is_node nodes path || b)) ((tells-all rows nodes path is).naming n))

  unmet-is : (n : ℕ) (met : List ℕ) → ((other : ℕ) → other < length nodes
      → list_any (nat_eq other) met ≡ depends (sources_at nodes) (length nodes) n other)
      → (path : List ℕ) (maker : Option ℕ) → maker ≡ maker_of nodes path
      → is_unmet met maker ≡ is_apart nodes n maker
  unmet-is n met all path None at = refl
  unmet-is n met all path (Some maker) at =
      ap not (all maker (maker-within nodes path maker (sym at)))

  -- reads of made files that are not met
  pub unmet-reads : (n : ℕ) (met : List ℕ) → ((other : ℕ) → other < length nodes
      → list_any (nat_eq other) met ≡ depends (sources_at nodes) (length nodes) n other)
      → (reads : List (List ℕ))
      → filter (λ path. is_unmet met (rows path).maker) reads
      ≡ filter (λ path. is_apart nodes n (maker_of nodes path)) reads
  unmet-reads n met all reads = filter-same _ _ reads (λ path.
      ap (is_unmet met) (maker-is path) ∙ unmet-is n met all path (maker_of nodes path) refl)

  near-is : (n : ℕ) (path : List ℕ) (maker : Option ℕ) → maker ≡ maker_of nodes path
      → is_distant (sources_at nodes n) maker ≡ false → is_apart nodes n maker ≡ false
  near-is n path None at none = refl
  near-is n path (Some maker) at none =
      let some : list_any (nat_eq maker) (sources_at nodes n) ≡ true = not-off _ none in
      ap not (source-reached (length nodes) (maker-within nodes path maker (sym at)) some)
    where
      not-off : (b : Bool) → not b ≡ false → b ≡ true
      not-off true off = refl
      not-off false off = absurd (false≢true (sym off))

      weaker : (sources : List ℕ) (most : ℕ) → list_any (nat_eq maker) sources ≡ true
          → list_any (λ source. (maker == source) || depends (sources_at nodes) most source maker) sources ≡ true
      weaker [] most has = absurd (false≢true has)
      weaker (source ∷ more) most has =
          cases (nat_eq maker source)
          (λ here. rw here refl)
          (λ off. let rest : list_any (nat_eq maker) more ≡ true = rw off at has in
          rw off (later (depends (sources_at nodes) most source maker) (weaker more most rest)))
        where
          later : (b : Bool) {rest : Bool} → rest ≡ true → (b || rest) ≡ true
          later true is = refl
          later false is = is

      source-reached : (most : ℕ) → maker < most → list_any (nat_eq maker) (sources_at nodes n) ≡ true
          → depends (sources_at nodes) most n maker ≡ true
      source-reached zero under has = absurd (omega arith)
      source-reached (suc most) under has = weaker (sources_at nodes n) most has

  -- where no maker is further than a source, no read is of a made file on which the node does not depend
  pub near-reads : (n : ℕ) (reads : List (List ℕ))
      → list_any (λ path. is_distant (sources_at nodes n) (rows path).maker) reads ≡ false
      → filter (λ path. is_apart nodes n (maker_of nodes path)) reads ≡ []
  near-reads n [] none = refl
  near-reads n (path ∷ reads) none =
      let parts = or_parts (is_distant (sources_at nodes n) (rows path).maker)
      (list_any (λ other. is_distant (sources_at nodes n) (rows other).maker) reads) none in
      let here : is_distant (sources_at nodes n) (maker_of nodes path) ≡ false =
      ap (is_distant (sources_at nodes n)) (sym (maker-is path)) ∙ parts.0 in
      let off : is_apart nodes n (maker_of nodes path) ≡ false =
      near-is n path (maker_of nodes path) refl here in
      rw off (near-reads n reads parts.1)
