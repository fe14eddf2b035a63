-- What the table of paths tells of a path.
use Rattle.std.proofs.Common.{◌≡◌, ℕ, ◌+◌, ◌==◌, ◌&&◌, ◌||◌, Bool, true, false, not, cond, List, [], ◌∷◌, Option, Some, None}
use Rattle.std.proofs.Common.{refl, sym, ap, ◌∙◌, subst, if◌then◌else◌, eqb-true, arith}
use Rattle.std.proofs.lemmas.Bool.Decides.{nat_tests}
use Rattle.std.specs.Borrow.{Bor}
use Rattle.std.specs.List.{list_any}
use Rattle.std.specs.Map.{lookup}
use Rattle.std.specs.Option.{unwrap_or}
use Rattle.std.specs.Str.{bytes_eq}
use Rattle.indexmap.specs.IndexMap.{insert_entry}
use Rattle.mk_declared.specs.Recorded.{is_altered}
use Rattle.mk_filemon.proofs.EscapeLemmas.{cases}
use Rattle.mk_filemon.proofs.PathLemmas.{bytes_eq-sym, same_bytes}
use Rattle.mk_filemon.specs.Outer.{ops_of}
use Rattle.mk_world.specs.Records.{alters}
use Rattle.mk_world.specs.declared.step.Op.{Op}
use Rattle.mk_world.specs.declared.step.Op.TheVariants.{Read, Miss, Write, Delete, Move}
use Rattle.mk_breaches.specs.Breaches.{is_changed, is_node, is_own, maker_from, ops, others_name}
use Rattle.mk_breaches.specs.Held.{rows_in}
use Rattle.mk_breaches.specs.Paths.{has, is_named, paths_of}
use Rattle.mk_breaches.specs.Rows.{Rows, by_other, made_too, named_row, named_too, no_row, node_row, noted_from, noted_node, noted_op, noted_ops, noted_path, with_row}
use Rattle.mk_breaches.specs.declared.node.NodeFacts.{NodeFacts}
use Rattle.mk_breaches.specs.declared.table.Naming.{Naming}
use Rattle.mk_breaches.specs.declared.table.Naming.TheVariants.{Nowhere, Once, Often}
use Rattle.mk_breaches.specs.declared.table.Row.{Row}
use Rattle.mk_breaches.specs.declared.table.Table.{Table}

abbrev Entries : Type 0
Entries = List (Bor (List ℕ) × Row)

abbrev are_same : Bor (List ℕ) → Bor (List ℕ) → Bool
are_same one other = bytes_eq one.now other.now

-- whether a key has these bytes
abbrev is_at : List ℕ → Bor (List ℕ) → Bool
is_at path key = bytes_eq path key.now

looked-up : (entries : Entries) (key : Bor (List ℕ)) (row : Row) (other : List ℕ)
    → lookup (is_at other) (insert_entry are_same entries key row)
    ≡ cond (bytes_eq key.now other) (Some row) (lookup (is_at other) entries)
looked-up [] key row other = ap (λ b. cond b (Some row) None) (bytes_eq-sym other key.now)
looked-up (e ∷ es) key row other =
    cases (bytes_eq key.now e.0.now)
    (λ is. rw (is, same_bytes key.now e.0.now is, bytes_eq-sym other e.0.now) (again (bytes_eq e.0.now other)))
    (λ apart. rw apart (cases (bytes_eq other e.0.now)
    (λ here. let none : bytes_eq key.now other ≡ false = rw (same_bytes other e.0.now here) apart in
    rw (here, none) refl)
    (λ off. rw off (looked-up es key row other))))
  where
    again : (b : Bool) → cond b (Some row) (lookup (is_at other) es)
        ≡ cond b (Some row) (cond b (Some e.1) (lookup (is_at other) es))
    again true = refl
    again false = refl

unwrap_or-cond : (here : Bool) (row : Row) (rest : Option Row)
    → unwrap_or (cond here (Some row) rest) no_row ≡ cond here row (unwrap_or rest no_row)
unwrap_or-cond true row rest = refl
unwrap_or-cond false row rest = refl

-- a table in which one path has another row
pub rows_in-set : (old new : Table) (key : Bor (List ℕ)) (row : Row)
    → new.rows.entries ≡ insert_entry are_same old.rows.entries key row
    → rows_in new ≡ with_row (rows_in old) key.now row
rows_in-set old new key row is = λ i other.
    (ap (λ entries. unwrap_or (lookup (is_at other) entries) no_row) is
    ∙ ap (λ found. unwrap_or found no_row) (looked-up old.rows.entries key row other)
    ∙ unwrap_or-cond (bytes_eq key.now other) row (lookup (is_at other) old.rows.entries)) i

by_other-too : (q n : ℕ) (naming : Naming)
    → by_other q (named_too n naming) ≡ (by_other q naming || not (n == q))
by_other-too q n Nowhere = refl
by_other-too q n Often = refl
by_other-too q n (Once other) =
    cases (other == n)
    (λ is. rw is (rw (eqb-true other n is) (same (not (n == q)))))
    (λ apart. rw apart (cases (other == q)
    (λ here. let off : (n == q) ≡ false = rw (← eqb-true other q here) (turned n other apart) in
    rw (here, off) refl)
    (λ off. rw off refl)))
  where
    same : (b : Bool) → b ≡ (b || b)
    same true = refl
    same false = refl

    turned : (a b : ℕ) → (b == a) ≡ false → (a == b) ≡ false
    turned a b off = grind (arith, nat_tests)

-- a row after records of one node, which name the path or do not, and say or do not say that it was changed
pub record After (n : ℕ) (named changed : Bool) (old new : Row) : Type 0 where
  pub node : new.node ≡ old.node
  pub maker : new.maker ≡ old.maker
  pub changed_is : new.changed ≡ (old.changed || changed)
  pub naming : (q : ℕ) → by_other q new.naming ≡ (by_other q old.naming || (named && not (n == q)))

or-false : (a : Bool) → a ≡ (a || false)
or-false true = refl
or-false false = refl

or-apart : (a b c : Bool) → ((a || b) || c) ≡ (a || (b || c))
or-apart true b c = refl
or-apart false b c = refl

and-apart : (a b c d : Bool) → ((a || (b && d)) || (c && d)) ≡ (a || ((b || c) && d))
and-apart true b c d = refl
and-apart false true c true = refl
and-apart false true true false = refl
and-apart false true false false = refl
and-apart false false c d = refl

after-none : (n : ℕ) (row : Row) → After n false false row row
after-none n row = record {
  node = refl;
  maker = refl;
  changed_is = or-false row.changed;
  naming = λ q. or-false (by_other q row.naming);
}

after-both : (n : ℕ) (some more one other : Bool) (old mid new : Row) → After n some one old mid
    → After n more other mid new → After n (some || more) (one || other) old new
after-both n some more one other old mid new first second = record {
  node = second.node ∙ first.node;
  maker = second.maker ∙ first.maker;
  changed_is = second.changed_is ∙ ap (λ b. b || other) first.changed_is ∙ or-apart old.changed one other;
  naming = λ q. second.naming q ∙ ap (λ b. b || (more && not (n == q))) (first.naming q)
      ∙ and-apart (by_other q old.naming) some more (not (n == q));
}

after-named : (n : ℕ) (changed : Bool) (row : Row) → After n true changed row (named_row n changed row)
after-named n changed row = record {
  node = refl;
  maker = refl;
  changed_is = refl;
  naming = λ q. by_other-too q n row.naming;
}

after-path : (n : ℕ) (changed : Bool) (rows : Rows) (at path : List ℕ)
    → After n (bytes_eq at path) (bytes_eq at path && changed) (rows path) (noted_path n changed rows at path)
after-path n changed rows at path =
    cases (bytes_eq at path)
    (λ is. rw is (rw (same_bytes at path is) (after-named n changed (rows path))))
    (λ apart. rw apart (after-none n (rows path)))

after-as : (n : ℕ) (some named one changed : Bool) (old new : Row) → some ≡ named → one ≡ changed
    → After n some one old new → After n named changed old new
after-as n some named one changed old new is also after = rw (← is, ← also) after

and-true : (a : Bool) → (a && true) ≡ a
and-true true = refl
and-true false = refl

and-false : (a : Bool) → (a && false) ≡ false
and-false true = refl
and-false false = refl

after-op : (n : ℕ) (rows : Rows) (op : Op) (path : List ℕ)
    → After n (has (paths_of op) path) (alters path op) (rows path) (noted_op n rows op path)
after-op n rows (Read at) path =
    after-as n _ _ _ _ _ _ (or-false (bytes_eq at path)) (and-false (bytes_eq at path))
    (after-path n false rows at path)
after-op n rows (Miss at) path =
    after-as n _ _ _ _ _ _ (or-false (bytes_eq at path)) (and-false (bytes_eq at path))
    (after-path n false rows at path)
after-op n rows (Write at) path =
    after-as n _ _ _ _ _ _ (or-false (bytes_eq at path)) (and-true (bytes_eq at path))
    (after-path n true rows at path)
after-op n rows (Delete at) path =
    after-as n _ _ _ _ _ _ (or-false (bytes_eq at path)) (and-true (bytes_eq at path))
    (after-path n true rows at path)
after-op n rows (Move from to) path =
    let mid = noted_path n true rows from in
    after-as n _ _ _ _ _ _ (ap (λ b. bytes_eq from path || b) (or-false (bytes_eq to path)))
    (ap (λ b. b || (bytes_eq to path && true)) (and-true (bytes_eq from path))
    ∙ ap (λ b. bytes_eq from path || b) (and-true (bytes_eq to path)))
    (after-both n (bytes_eq from path) (bytes_eq to path) (bytes_eq from path && true) (bytes_eq to path && true)
    (rows path) (mid path) (noted_path n true mid to path)
    (after-path n true rows from path) (after-path n true mid to path))

after-ops : (n : ℕ) (rows : Rows) (all : List Op) (path : List ℕ)
    → After n (is_named all path) (is_altered all path) (rows path) (noted_ops n rows all path)
after-ops n rows [] path = after-none n (rows path)
after-ops n rows (op ∷ more) path =
    after-both n (has (paths_of op) path) (is_named more path) (alters path op) (is_altered more path)
    (rows path) (noted_op n rows op path) (noted_ops n (noted_op n rows op) more path)
    (after-op n rows op path) (after-ops n (noted_op n rows op) more path)

abbrev or_else : Option ℕ → Option ℕ → Option ℕ
or_else None other = other
or_else (Some one) other = Some one

or_else-none : (one : Option ℕ) → or_else one None ≡ one
or_else-none None = refl
or_else-none (Some one) = refl

-- a row after nodes of which the first has this number
pub record Tells (first : ℕ) (nodes : List NodeFacts) (path : List ℕ) (old new : Row) : Type 0 where
  pub node : new.node ≡ (old.node || is_node nodes path)
  pub maker : new.maker ≡ or_else old.maker (maker_from first nodes path)
  pub changed : new.changed ≡ (old.changed || is_changed nodes path)
  pub naming : (q : ℕ) → by_other q new.naming ≡ (by_other q old.naming || others_name first q nodes path)

-- the row of a path behind the name of a node
abbrev named_at : ℕ → NodeFacts → Rows → Rows
named_at n node rows = with_row rows node.name (node_row n node.made (rows node.name))

-- a row behind a name that is that of the path or not, and is or is not its own made file
record AtName (n : ℕ) (same own : Bool) (old new : Row) : Type 0 where
  node_is : new.node ≡ (old.node || same)
  maker : new.maker ≡ or_else old.maker (if own then Some n else None)
  changed : new.changed ≡ old.changed
  naming : new.naming ≡ old.naming

or-true : (a : Bool) → true ≡ (a || true)
or-true true = refl
or-true false = refl

made-else : (n : ℕ) (made : Bool) (maker : Option ℕ)
    → made_too n made maker ≡ or_else maker (if made then Some n else None)
made-else n made (Some maker) = refl
made-else n true None = refl
made-else n false None = refl

at-name : (n : ℕ) (made : Bool) (name : List ℕ) (rows : Rows) (path : List ℕ)
    → AtName n (bytes_eq name path) (made && bytes_eq name path) (rows path)
    (with_row rows name (node_row n made (rows name)) path)
at-name n made name rows path =
    cases (bytes_eq name path)
    (λ is. rw (is, and-true made, same_bytes name path is) (record {
      node_is = or-true (rows path).node;
      maker = made-else n made (rows path).maker;
      changed = refl;
      naming = refl;
    }))
    (λ apart. rw (apart, and-false made) (record {
      node_is = or-false (rows path).node;
      maker = sym (or_else-none (rows path).maker);
      changed = refl;
      naming = refl;
    }))

maker-next : (old : Option ℕ) (own : Bool) (n : ℕ) (later : Option ℕ)
    → or_else (or_else old (if own then Some n else None)) later
    ≡ or_else old (if own then Some n else later)
maker-next (Some one) own n later = refl
maker-next None true n later = refl
maker-next None false n later = refl

naming-next : (old : Bool) (named other rest : Bool)
    → ((old || (named && other)) || rest) ≡ (old || ((other && named) || rest))
naming-next true named other rest = refl
naming-next false true true rest = refl
naming-next false true false rest = refl
naming-next false false true rest = refl
naming-next false false false rest = refl

tells-from : (first : ℕ) (rows : Rows) (nodes : List NodeFacts) (path : List ℕ)
    → Tells first nodes path (rows path) (noted_from first rows nodes path)
tells-from first rows [] path = record {
  node = or-false (rows path).node;
  maker = sym (or_else-none (rows path).maker);
  changed = or-false (rows path).changed;
  naming = λ q. or-false (by_other q (rows path).naming);
}
tells-from first rows (node ∷ nodes) path =
    let name = at-name first node.made node.name rows path in
    let by = after-ops first (named_at first node rows) (ops_of node.records) path in
    let rest = tells-from (first + 1) (noted_node first rows node) nodes path in
    record {
      node = rest.node ∙ ap (λ b. b || is_node nodes path) (by.node ∙ name.node_is)
          ∙ or-apart (rows path).node (bytes_eq node.name path) (is_node nodes path);
      maker = rest.maker ∙ ap (λ one. or_else one (maker_from (first + 1) nodes path)) (by.maker ∙ name.maker)
          ∙ maker-next (rows path).maker (is_own node path) first (maker_from (first + 1) nodes path);
      changed = rest.changed
          ∙ ap (λ b. b || is_changed nodes path)
          (by.changed_is ∙ ap (λ b. b || is_altered (ops node) path) name.changed)
          ∙ or-apart (rows path).changed (is_altered (ops node) path) (is_changed nodes path);
      naming = λ q. rest.naming q
          ∙ ap (λ b. b || others_name (first + 1) q nodes path)
          (by.naming q ∙ ap (λ one. by_other q one || (is_named (ops node) path && not (first == q))) name.naming)
          ∙ naming-next (by_other q (rows path).naming) (is_named (ops node) path) (not (first == q))
          (others_name (first + 1) q nodes path);
    }

-- what the table of all nodes tells of a path
pub tells-all : (rows : Rows) (nodes : List NodeFacts) (path : List ℕ) → rows ≡ noted_from 0 (λ other. no_row) nodes
    → Tells 0 nodes path no_row (rows path)
tells-all rows nodes path is =
    subst (λ (table : Rows). Tells 0 nodes path no_row (table path)) (sym is)
    (tells-from 0 (λ other. no_row) nodes path)
