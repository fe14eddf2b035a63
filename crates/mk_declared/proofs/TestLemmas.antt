-- What the test of declared jobs tells.
use Rattle.std.proofs.Common.{◌≡◌, ◌≢◌, ◌⊎◌, inl, inr, ℕ, zero, suc, ◌==◌, ◌&&◌, ◌||◌, Bool, true, false, not, List, [], ◌∷◌, Option, Some, None, refl, sym, ◌∙◌, subst, eqb-true}
use Rattle.std.proofs.lemmas.Bool.{false≢true}
use Rattle.std.specs.List.{list_all, list_any}
use Rattle.std.specs.Str.{bytes_eq}
use Rattle.mk_filemon.proofs.PathLemmas.{same_bytes}
use Rattle.mk_clean.specs.Clean.{AllWell, Changes, CleanJob, DependsOn, IsAmong, IsWell, LeavesIt, Plan, deeds_of, is_changed}
use Rattle.mk_clean.specs.Clean.DependsOn.{source, through}
use Rattle.mk_clean.specs.Declared.{IsMadeBefore, IsOwn, IsPrivate, IsSource, LeavesFile}
use Rattle.mk_meta.specs.TrueHistory.{changed_paths}
use Rattle.mk_world.specs.Outer.{nothing_over, outer, over_deeds}
use Rattle.mk_world.specs.Talks.{Doing}
use Rattle.mk_world.specs.declared.command.TaskLine.{TaskLine}
use Rattle.mk_declared.specs.Testing.{TestedJobsAreDeclared, all_well, depends, is_declared_job, is_left, is_made_before, is_own, is_private, is_source, leaves_its_file}

both : (first second : Bool) → (first && second) ≡ true → (first ≡ true) × (second ≡ true)
both true second is = (refl, is)
both false second is = absurd (false≢true is)

either : (first second : Bool) → (first || second) ≡ true → (first ≡ true) ⊎ (second ≡ true)
either true second is = inl refl
either false second is = inr is

is-not : (one : Bool) → not one ≡ true → one ≡ false
is-not true is = absurd (false≢true is)
is-not false is = refl

-- what all of a list pass, each passes
each : {A : Type 0} (test : A → Bool) (all : List A) (one : A) → list_all test all ≡ true → IsAmong one all
    → test one ≡ true
each test [] one pass among = absurd among
each test (first ∷ more) one pass (inl is) =
    subst (λ it. test it ≡ true) (sym is) (both (test first) (list_all test more) pass).0
each test (first ∷ more) one pass (inr among) =
    each test more one (both (test first) (list_all test more) pass).1 among

-- one of a list passes
record OneOf {A : Type 0} (test : A → Bool) (all : List A) : Type 0 where
  one : A
  among : IsAmong one all
  passes : test one ≡ true

later-one : {A : Type 0} {test : A → Bool} {all : List A} (first : A) → OneOf test all → OneOf test (first ∷ all)
later-one first found = record { one = found.one; among = inr found.among; passes = found.passes }

first-or-later : {A : Type 0} (test : A → Bool) (first : A) (more : List A)
    → (list_any test more ≡ true → OneOf test more) → (test first ≡ true) ⊎ (list_any test more ≡ true)
    → OneOf test (first ∷ more)
first-or-later test first more later (inl is) = record { one = first; among = inl refl; passes = is }
first-or-later test first more later (inr rest) = later-one first (later rest)

some-one : {A : Type 0} (test : A → Bool) (all : List A) → list_any test all ≡ true → OneOf test all
some-one test [] pass = absurd (false≢true pass)
some-one test (first ∷ more) pass =
    first-or-later test first more (some-one test more) (either (test first) (list_any test more) pass)

neither : (first second : Bool) → (first || second) ≡ false → (first ≡ false) × (second ≡ false)
neither true second is = absurd (false≢true (sym is))
neither false second is = (refl, is)

-- none of a list passes
none-passes : {A : Type 0} (test : A → Bool) (all : List A) (one : A) → list_any test all ≡ false → IsAmong one all
    → test one ≡ false
none-passes test [] one none among = absurd among
none-passes test (first ∷ more) one none (inl is) =
    subst (λ it. test it ≡ false) (sym is) (neither (test first) (list_any test more) none).0
none-passes test (first ∷ more) one none (inr among) =
    none-passes test more one (neither (test first) (list_any test more) none).1 among

-- dependence, from its first source on
depends-first : (plan : Plan) (node between other : ℕ) → IsAmong between (plan.node node).sources
    → DependsOn plan between other → DependsOn plan node other
depends-first plan node between _ among (source other is) = through between other (source between among) is
depends-first plan node between _ among (through last other before is) =
    through last other (depends-first plan node between last among before) is

-- where the one source that passes is the node itself, or depends on it
depends-by : (plan : Plan) (most node other : ℕ)
    → ((source : ℕ) → depends plan most source other ≡ true → DependsOn plan source other)
    → (found : OneOf (λ source. (other == source) || depends plan most source other) (plan.node node).sources)
    → ((other == found.one) ≡ true) ⊎ (depends plan most found.one other ≡ true) → DependsOn plan node other
depends-by plan most node other later found (inl same) = source other
    (subst (λ it. IsAmong it (plan.node node).sources) (sym (eqb-true other found.one same)) found.among)
depends-by plan most node other later found (inr is) =
    depends-first plan node found.one other found.among (later found.one is)

depends-on : (plan : Plan) (most node other : ℕ) → depends plan most node other ≡ true → DependsOn plan node other
depends-on plan zero node other is = absurd (false≢true is)
depends-on plan (suc most) node other is =
    let found = some-one (λ source. (other == source) || depends plan most source other) (plan.node node).sources is in
    depends-by plan most node other (λ source. depends-on plan most source other) found
    (either (other == found.one) (depends plan most found.one other) found.passes)

-- and a path that passes is a source
pub source-of : (plan : Plan) (all : List CleanJob) (path : List ℕ) → is_source plan all path ≡ true
    → IsSource plan all path
source-of plan all path is =
    let parts = both _ (not (plan.is_made path) && not (plan.is_meta path)) is in
    let rest = both (not (plan.is_made path)) (not (plan.is_meta path)) parts.1 in record {
      alone = λ one among.
          none-passes (λ (one : CleanJob). is_changed (deeds_of one) path) all one (is-not _ parts.0) among;
      no_made = is-not (plan.is_made path) rest.0;
      no_meta = is-not (plan.is_meta path) rest.1;
    }

made-before : (plan : Plan) (most : ℕ) (all : List CleanJob) (one : CleanJob) (path : List ℕ)
    → is_made_before plan most all one path ≡ true → IsMadeBefore plan all one path
made-before plan most all one path is =
    let found = some-one (λ (maker : CleanJob). (plan.node maker.node).made
    && (bytes_eq (plan.node maker.node).name path && depends plan most one.node maker.node)) all is in
    let parts = both (plan.node found.one.node).made
    (bytes_eq (plan.node found.one.node).name path && depends plan most one.node found.one.node) found.passes in
    let rest = both (bytes_eq (plan.node found.one.node).name path) (depends plan most one.node found.one.node)
    parts.1 in record {
      maker = found.one;
      among = found.among;
      made = parts.0;
      name = same_bytes (plan.node found.one.node).name path rest.0;
      depends = depends-on plan most one.node found.one.node rest.1;
    }

own-of : (plan : Plan) (one : CleanJob) (path : List ℕ) → is_own plan one path ≡ true → IsOwn plan one path
own-of plan one path is =
    let parts = both (plan.node one.node).made (bytes_eq (plan.node one.node).name path) is in
    record { made = parts.0; name = same_bytes (plan.node one.node).name path parts.1 }

private-of : (plan : Plan) (all : List CleanJob) (one : CleanJob) (path : List ℕ)
    → is_private plan all one path ≡ true → IsPrivate plan all one path
private-of plan all one path is =
    let parts = both (not (plan.is_node path)) _ is in record {
      no_node = is-not (plan.is_node path) parts.0;
      alone = λ other among apart.
          leaves other apart (each (λ (other : CleanJob). (other.node == one.node)
          || not (is_changed (deeds_of other) path)) all other parts.1 among);
    }
  where
    leaves : (other : CleanJob) → other.node ≢ one.node
        → ((other.node == one.node) || not (is_changed (deeds_of other) path)) ≡ true → LeavesIt other path
    leaves other apart pass = by (either (other.node == one.node) (not (is_changed (deeds_of other) path)) pass)
      where
        by : ((other.node == one.node) ≡ true) ⊎ (not (is_changed (deeds_of other) path) ≡ true)
            → LeavesIt other path
        by (inl same) = absurd (apart (eqb-true other.node one.node same))
        by (inr left) = is-not (is_changed (deeds_of other) path) left

well-of : (lines : List TaskLine) (doings : List Doing) → AllWell lines doings → all_well lines doings ≡ true
well-of [] doings well = refl
well-of (line ∷ lines) [] well = absurd well
well-of (line ∷ lines) (doing ∷ doings) well = rw (well.0) (well-of lines doings well.1)

left-of : (stands : Option (Option (List ℕ))) → is_left stands ≡ true → (bytes : List ℕ) × (stands ≡ Some (Some bytes))
left-of None is = absurd (false≢true is)
left-of (Some None) is = absurd (false≢true is)
left-of (Some (Some bytes)) is = (bytes, refl)

file-of : (plan : Plan) (one : CleanJob) → leaves_its_file plan one ≡ true → IsWell plan one
    → (plan.node one.node).made ≡ true → LeavesFile plan one
file-of plan one is well made =
    by (either (not (plan.node one.node).made) _ is)
  where
    left : is_left (over_deeds nothing_over (deeds_of one) (plan.node one.node).name) ≡ true → LeavesFile plan one
    left stands = let found = left-of _ stands in record { bytes = found.0; is = found.1 }

    by : (not (plan.node one.node).made ≡ true)
        ⊎ ((is_left (over_deeds nothing_over (deeds_of one) (plan.node one.node).name)
        || not (all_well (plan.node one.node).lines one.doings)) ≡ true)
        → LeavesFile plan one
    by (inl none) = absurd (false≢true (sym (is-not (plan.node one.node).made none) ∙ made))
    by (inr rest) = on (either (is_left (over_deeds nothing_over (deeds_of one) (plan.node one.node).name)) _ rest)
      where
        on : (is_left (over_deeds nothing_over (deeds_of one) (plan.node one.node).name) ≡ true)
            ⊎ (not (all_well (plan.node one.node).lines one.doings) ≡ true)
            → LeavesFile plan one
        on (inl stands) = left stands
        on (inr bad) = absurd (false≢true
            (sym (is-not (all_well (plan.node one.node).lines one.doings) bad)
            ∙ well-of (plan.node one.node).lines one.doings well))

-- a path that is changed stands among the changed ones
changed-one : (plan : Plan) (one : CleanJob) (path : List ℕ) → Changes one path
    → IsAmong path (changed_paths (deeds_of one))
changed-one plan one path is =
    let found = some-one (λ it. bytes_eq it path) (changed_paths (deeds_of one)) is in
    subst (λ it. IsAmong it (changed_paths (deeds_of one))) (same_bytes found.one path found.passes) found.among

pub tested-declared : TestedJobsAreDeclared
tested-declared plan most all pass = record {
  reads = λ one among path taken.
      read one path (each (λ path. is_source plan all path || is_made_before plan most all one path)
      (outer nothing_over (deeds_of one)) path (parts one among).0 taken);
  changes = λ one among path changes. change one path (ours one among path changes).1;
  leaves = λ one among. file-of plan one (parts one among).2;
  no_meta = λ one among path meta. untouched one among path meta (is_changed (deeds_of one) path) refl;
}
  where
    parts : (one : CleanJob) → IsAmong one all
        → (list_all (λ path. is_source plan all path || is_made_before plan most all one path)
        (outer nothing_over (deeds_of one)) ≡ true)
        × (list_all (λ path. not (plan.is_meta path) && (is_own plan one path || is_private plan all one path))
        (changed_paths (deeds_of one)) ≡ true)
        × (leaves_its_file plan one ≡ true)
    parts one among =
        let split = both _ _ (each (is_declared_job plan most all) all one pass among) in
        let rest = both _ _ split.1 in
        (split.0, rest.0, rest.1)

    read : (one : CleanJob) (path : List ℕ)
        → (is_source plan all path || is_made_before plan most all one path) ≡ true
        → IsSource plan all path ⊎ IsMadeBefore plan all one path
    read one path is = by (either (is_source plan all path) (is_made_before plan most all one path) is)
      where
        by : (is_source plan all path ≡ true) ⊎ (is_made_before plan most all one path ≡ true)
            → IsSource plan all path ⊎ IsMadeBefore plan all one path
        by (inl it) = inl (source-of plan all path it)
        by (inr it) = inr (made-before plan most all one path it)

    ours : (one : CleanJob) → IsAmong one all → (path : List ℕ) → Changes one path
        → (not (plan.is_meta path) ≡ true) × ((is_own plan one path || is_private plan all one path) ≡ true)
    ours one among path changes = both (not (plan.is_meta path)) (is_own plan one path || is_private plan all one path)
        (each (λ path. not (plan.is_meta path) && (is_own plan one path || is_private plan all one path))
        (changed_paths (deeds_of one)) path (parts one among).1 (changed-one plan one path changes))

    change : (one : CleanJob) (path : List ℕ) → (is_own plan one path || is_private plan all one path) ≡ true
        → IsOwn plan one path ⊎ IsPrivate plan all one path
    change one path is = by (either (is_own plan one path) (is_private plan all one path) is)
      where
        by : (is_own plan one path ≡ true) ⊎ (is_private plan all one path ≡ true)
            → IsOwn plan one path ⊎ IsPrivate plan all one path
        by (inl it) = inl (own-of plan one path it)
        by (inr it) = inr (private-of plan all one path it)

    untouched : (one : CleanJob) → IsAmong one all → (path : List ℕ) → plan.is_meta path ≡ true → (b : Bool)
        → is_changed (deeds_of one) path ≡ b → LeavesIt one path
    untouched one among path meta true is =
        absurd (false≢true (sym (is-not (plan.is_meta path) (ours one among path is).0) ∙ meta))
    untouched one among path meta false is = is
