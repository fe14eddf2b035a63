-- What a walk over sources has met, and how far it has come.
use Rattle.std.proofs.Common.{◌≡◌, ◌⊎◌, inl, inr, ℕ, zero, suc, ◌+◌, ◌<◌, ◌≤◌, ◌-◌, ◌==◌, ◌||◌, Bool, true, false, cond}
use Rattle.std.proofs.Common.{List, [], ◌∷◌, ◌++◌, length, Option, Some, None, refl, sym, ap, ap₂, ◌∙◌, subst, ⊎_elim, if◌then◌else◌, arith, append_assoc, get_or, length-append}
use Rattle.std.proofs.lemmas.Bool.{false≢true, or_cases, or_left, or_right, ltb-true, lt-ltb, eqb-true, eq-eqb, cases_lt}
use Rattle.std.proofs.lemmas.Option.{slice_get-get_or}
use Rattle.std.proofs.lemmas.List.{append-nil}
use Rattle.std.proofs.lemmas.List.Folds.{list_any-append}
use Rattle.std.proofs.lemmas.Map.Keys.{IsDistinct-push}
use Rattle.std.proofs.lemmas.Map.Steps.{length-le_from_distinct_below}
use Rattle.std.specs.Cmp.{nat_eq_equiv}
use Rattle.std.specs.List.{IsDistinct, list_any, slice_get}
use Rattle.std.specs.Prelude.{nat_eq, nat_lt}
use Rattle.indexmap.specs.IndexSet.{insert_key}
use Rattle.mk_filemon.proofs.EscapeLemmas.{cases}
use Rattle.mk_breaches.specs.Reaches.{Sources, depends}
use Rattle.mk_breaches.specs.Walks.{met_too}

-- a number is one of these
abbrev pub Has : List ℕ → ℕ → Type 0
Has numbers n = list_any (nat_eq n) numbers ≡ true

pub record OneOf (test : ℕ → Bool) (numbers : List ℕ) : Type 0 where
  pub one : ℕ
  pub has : Has numbers one
  pub passes : test one ≡ true

has-first : (n : ℕ) (more : List ℕ) → Has (n ∷ more) n
has-first n more = or_left (nat_eq n n) (list_any (nat_eq n) more) (eq-eqb n n refl)

has-later : (n first : ℕ) (more : List ℕ) → Has more n → Has (first ∷ more) n
has-later n first more is = or_right (nat_eq n first) (list_any (nat_eq n) more) is

some-one : (test : ℕ → Bool) (numbers : List ℕ) → list_any test numbers ≡ true → OneOf test numbers
some-one test [] is = absurd (false≢true is)
some-one test (n ∷ more) is = by (or_cases (test n) (list_any test more) is) (some-one test more)
  where
    by : (test n ≡ true) ⊎ (list_any test more ≡ true) → (list_any test more ≡ true → OneOf test more)
        → OneOf test (n ∷ more)
    by (inl here) later = record { one = n; has = has-first n more; passes = here }
    by (inr rest) later =
        let found = later rest in
        record { one = found.one; has = has-later found.one n more found.has; passes = found.passes }

any-of : (test : ℕ → Bool) (numbers : List ℕ) (n : ℕ) → Has numbers n → test n ≡ true → list_any test numbers ≡ true
any-of test [] n has is = absurd (false≢true has)
any-of test (first ∷ more) n has is =
    by (or_cases (nat_eq n first) (list_any (nat_eq n) more) has) (λ rest. any-of test more n rest is)
  where
    by : (nat_eq n first ≡ true) ⊎ (Has more n) → (Has more n → list_any test more ≡ true)
        → list_any test (first ∷ more) ≡ true
    by (inl here) later =
        or_left (test first) (list_any test more) (subst (λ m. test m ≡ true) (eqb-true n first here) is)
    by (inr rest) later = or_right (test first) (list_any test more) (later rest)

-- one more is allowed for
one-more : (sources : Sources) (most node other : ℕ) → depends sources most node other ≡ true
    → depends sources (suc most) node other ≡ true
one-more sources zero node other is = absurd (false≢true is)
one-more sources (suc most) node other is =
    let found = some-one (λ source. (other == source) || depends sources most source other) (sources node) is in
    any-of (λ source. (other == source) || depends sources (suc most) source other) (sources node) found.one found.has
    (by found.one (or_cases (other == found.one) (depends sources most found.one other) found.passes)
    (λ later. one-more sources most found.one other later))
  where
    by : (source : ℕ) → ((other == source) ≡ true) ⊎ (depends sources most source other ≡ true)
        → (depends sources most source other ≡ true → depends sources (suc most) source other ≡ true)
        → ((other == source) || depends sources (suc most) source other) ≡ true
    by source (inl here) later = or_left (other == source) (depends sources (suc most) source other) here
    by source (inr rest) later = or_right (other == source) (depends sources (suc most) source other) (later rest)

more-by : (sources : Sources) (more most node other : ℕ) → depends sources most node other ≡ true
    → depends sources (more + most) node other ≡ true
more-by sources zero most node other is =
    let same : most ≡ 0 + most = omega arith in
    subst (λ m. depends sources m node other ≡ true) same is
more-by sources (suc more) most node other is =
    let same : suc (more + most) ≡ suc more + most = omega arith in
    subst (λ m. depends sources m node other ≡ true) same
    (one-more sources (more + most) node other (more-by sources more most node other is))

-- a source of a node on which one depends
and-source : (sources : Sources) (most node between other : ℕ) → depends sources most node between ≡ true
    → Has (sources between) other → depends sources (suc most) node other ≡ true
and-source sources zero node between other is has = absurd (false≢true is)
and-source sources (suc most) node between other is has =
    let found = some-one (λ source. (between == source) || depends sources most source between) (sources node) is in
    any-of (λ source. (other == source) || depends sources (suc most) source other) (sources node) found.one found.has
    (or_right (other == found.one) (depends sources (suc most) found.one other)
    (by found.one (or_cases (between == found.one) (depends sources most found.one between) found.passes)
    (λ rest. and-source sources most found.one between other rest has)))
  where
    by : (source : ℕ) → ((between == source) ≡ true) ⊎ (depends sources most source between ≡ true)
        → (depends sources most source between ≡ true → depends sources (suc most) source other ≡ true)
        → depends sources (suc most) source other ≡ true
    by source (inl here) later =
        let at : Has (sources source) other =
        subst (λ n. Has (sources n) other) (eqb-true between source here) has in
        any-of (λ one. (other == one) || depends sources most one other) (sources source) other at
        (or_left (other == other) (depends sources most other other) (eq-eqb other other refl))
    by source (inr rest) later = later rest

-- A set of numbers that were met: no two are equal, each is below a count, and on each the node depends, over as many
-- sources as there are numbers.
pub record Met (sources : Sources) (count node : ℕ) (met : List ℕ) : Type 0 where
  pub distinct : IsDistinct nat_eq met
  pub below : (n : ℕ) → Has met n → n < count
  pub deep : (n : ℕ) → Has met n → depends sources (length met) node n ≡ true

-- on each of these numbers the node depends, over one source more than were met
abbrev pub Near : Sources → ℕ → ℕ → List ℕ → Type 0
Near sources node most numbers =
    (n : ℕ) → Has numbers n → (more : ℕ) → depends sources (suc (more + most)) node n ≡ true

-- what was met is there still, with others behind it, and each of these numbers is met
pub record Grown (count : ℕ) (met new numbers : List ℕ) : Type 0 where
  pub added : List ℕ
  pub is : new ≡ met ++ added
  pub taken : (n : ℕ) → Has numbers n → n < count → Has new n

has-push : (met : List ℕ) (n q : ℕ) → Has (met ++ n ∷ []) q → (Has met q) ⊎ (q ≡ n)
has-push met n q is =
    by (or_cases (list_any (nat_eq q) met) (list_any (nat_eq q) (n ∷ []))
    (sym (list_any-append (nat_eq q) met (n ∷ [])) ∙ is))
  where
    last : (nat_eq q n ≡ true) ⊎ (false ≡ true) → q ≡ n
    last (inl here) = eqb-true q n here
    last (inr none) = absurd (false≢true none)

    by : (Has met q) ⊎ (list_any (nat_eq q) (n ∷ []) ≡ true) → (Has met q) ⊎ (q ≡ n)
    by (inl old) = inl old
    by (inr new) = inr (last (or_cases (nat_eq q n) false new))

pub has-append : (met added : List ℕ) (q : ℕ) → Has met q → Has (met ++ added) q
has-append met added q is =
    list_any-append (nat_eq q) met added ∙ or_left (list_any (nat_eq q) met) (list_any (nat_eq q) added) is

length-push : (met : List ℕ) (n : ℕ) → length (met ++ n ∷ []) ≡ suc (length met)
length-push [] n = refl
length-push (first ∷ met) n = ap suc (length-push met n)

met-push : (sources : Sources) (count node : ℕ) (met : List ℕ) (n : ℕ) → Met sources count node met
    → list_any (nat_eq n) met ≡ false → n < count → depends sources (suc (length met)) node n ≡ true
    → Met sources count node (met ++ n ∷ [])
met-push sources count node met n old fresh within deep = record {
  distinct = IsDistinct-push nat_eq_equiv met n old.distinct fresh;
  below = λ q has. under q (has-push met n q has);
  deep = λ q has. rw length-push (deep-at q (has-push met n q has));
}
  where
    under : (q : ℕ) → (Has met q) ⊎ (q ≡ n) → q < count
    under q (inl there) = old.below q there
    under q (inr is) = subst (λ m. m < count) (sym is) within

    deep-at : (q : ℕ) → (Has met q) ⊎ (q ≡ n) → depends sources (suc (length met)) node q ≡ true
    deep-at q (inl there) = one-more sources (length met) node q (old.deep q there)
    deep-at q (inr is) = subst (λ m. depends sources (suc (length met)) node m ≡ true) (sym is) deep

-- what a further number makes of what was met
abbrev step : ℕ → List ℕ → ℕ → List ℕ
step count met n = if nat_lt n count then insert_key nat_eq met n else met

pub record Stepped (sources : Sources) (count node : ℕ) (met new : List ℕ) (n : ℕ) : Type 0 where
  pub is_met : Met sources count node new
  pub added : List ℕ
  pub is : new ≡ met ++ added
  pub taken : n < count → Has new n

stepped : (sources : Sources) (count node : ℕ) (met : List ℕ) (n : ℕ) → Met sources count node met
    → depends sources (suc (length met)) node n ≡ true → Stepped sources count node met (step count met n) n
stepped sources count node met n old deep =
    cases (nat_lt n count)
    (λ within. rw within (cases (list_any (nat_eq n) met)
    (λ there. rw there (record {
      is_met = old;
      added = [];
      is = sym (append-nil met);
      taken = λ _. there;
    }))
    (λ fresh. rw fresh (record {
      is_met = met-push sources count node met n old fresh (ltb-true n count within) deep;
      added = n ∷ [];
      is = refl;
      taken = λ _. list_any-append (nat_eq n) met (n ∷ [])
          ∙ or_right (list_any (nat_eq n) met) (list_any (nat_eq n) (n ∷ [])) (has-first n []);
    }))))
    (λ past. rw past (record {
      is_met = old;
      added = [];
      is = sym (append-nil met);
      taken = λ under. absurd (false≢true (sym past ∙ lt-ltb n count under));
    }))

pub record Walked (sources : Sources) (count node : ℕ) (met new numbers : List ℕ) : Type 0 where
  pub is_met : Met sources count node new
  pub grown : Grown count met new numbers

longer : (met added : List ℕ) → length (met ++ added) ≡ length added + length met
longer met added = omega (arith, length-append met added)

-- numbers on which the node depends are met
pub met-more : (sources : Sources) (count node : ℕ) (met numbers : List ℕ) → Met sources count node met
    → Near sources node (length met) numbers
    → Walked sources count node met (met_too count met numbers) numbers
met-more sources count node met [] old near = record {
  is_met = old;
  grown = record { added = []; is = sym (append-nil met); taken = λ n has. absurd (false≢true has) };
}
met-more sources count node met (n ∷ more) old near =
    let none : 0 + length met ≡ length met = omega arith in
    let first = stepped sources count node met n old
    (subst (λ m. depends sources (suc m) node n ≡ true) none (near n (has-first n more) 0)) in
    let next = step count met n in
    let rest = met-more sources count node next more first.is_met
    (λ q has fuel. subst (λ m. depends sources (suc m) node q ≡ true)
    (sum fuel first.added ∙ ap (λ l. fuel + length l) (sym first.is))
    (near q (has-later q n more has) (fuel + length first.added))) in
    record {
      is_met = rest.is_met;
      grown = record {
        added = first.added ++ rest.grown.added;
        is = rest.grown.is ∙ ap (λ l. l ++ rest.grown.added) first.is
            ∙ append_assoc met first.added rest.grown.added;
        taken = λ q has within. all q within next (met_too count next more)
            rest.grown.added (or_cases (nat_eq q n) (list_any (nat_eq q) more) has) first.taken rest.grown.is
            rest.grown.taken;
      };
    }
  where
    sum : (fuel : ℕ) (added : List ℕ) → (fuel + length added) + length met ≡ fuel + length (met ++ added)
    sum fuel added = omega (arith, longer met added)

    all : (q : ℕ) → q < count → (next new added : List ℕ) → (nat_eq q n ≡ true) ⊎ (Has more q)
        → (n < count → Has next n) → new ≡ next ++ added
        → ((m : ℕ) → Has more m → m < count → Has new m) → Has new q
    all q within next new added (inl here) taken is later =
        let same = eqb-true q n here in
        subst (λ l. Has l q) (sym is) (has-append next added q
        (subst (λ m. Has next m) (sym same) (taken (subst (λ m. m < count) same within))))
    all q within next new added (inr rest) taken is later = later q rest within

-- A walk from a node: the sources of the node are met, and those of each node that was met up to some place.
pub record Walk (sources : Sources) (count node : ℕ) (met : List ℕ) (next : ℕ) : Type 0 where
  pub is_met : Met sources count node met
  pub done : List ℕ
  pub rest : List ℕ
  pub parts : met ≡ done ++ rest
  pub far : length done ≡ next
  pub first : (q : ℕ) → Has (sources node) q → q < count → Has met q
  pub closed : (m q : ℕ) → Has done m → Has (sources m) q → q < count → Has met q

nothing-met : (sources : Sources) (count node : ℕ) → Met sources count node []
unfolding IsDistinct
nothing-met sources count node = record {
  distinct = tt;
  below = λ n has. absurd (false≢true has);
  deep = λ n has. absurd (false≢true has);
}

own-near : (sources : Sources) (node : ℕ) → Near sources node 0 (sources node)
own-near sources node n has more =
    any-of (λ source. (n == source) || depends sources (more + 0) source n) (sources node) n has
    (or_left (n == n) (depends sources (more + 0) n n) (eq-eqb n n refl))

-- a walk begins
pub walk-begins : (sources : Sources) (count node : ℕ) (met : List ℕ)
    → met ≡ met_too count [] (sources node) → Walk sources count node met 0
walk-begins sources count node met is =
    let begun = met-more sources count node [] (sources node) (nothing-met sources count node)
    (own-near sources node) in
    subst (λ l. Walk sources count node l 0) (sym is) (record {
      is_met = begun.is_met;
      done = [];
      rest = met_too count [] (sources node);
      parts = refl;
      far = refl;
      first = begun.grown.taken;
      closed = λ m q has. absurd (false≢true has);
    })

next-part : (done rest : List ℕ) (one : ℕ) → slice_get (done ++ rest) (length done) ≡ Some one
    → (more : List ℕ) × (rest ≡ one ∷ more)
next-part [] [] one is = absurd cc
next-part [] (n ∷ more) one is = (more, cc)
next-part (d ∷ done) rest one is = next-part done rest one (sym (shifted done rest d) ∙ is)
  where
    shifted : (done rest : List ℕ) (d : ℕ)
        → slice_get ((d ∷ done) ++ rest) (suc (length done)) ≡ slice_get (done ++ rest) (length done)
    shifted done rest d = refl

source-near : (sources : Sources) (node between most : ℕ) → depends sources most node between ≡ true
    → Near sources node most (sources between)
source-near sources node between most is n has more =
    let turned : more + suc most ≡ suc (more + most) = omega arith in
    subst (λ m. depends sources m node n ≡ true) turned
    (more-by sources more (suc most) node n (and-source sources most node between n is has))

-- it goes on over the next node that was met
pub walk-goes : (sources : Sources) (count node next one : ℕ) (met new : List ℕ)
    → Walk sources count node met next → slice_get met next ≡ Some one
    → new ≡ met_too count met (sources one) → Walk sources count node new (suc next)
walk-goes sources count node next one met new walk at is =
    let place : slice_get (walk.done ++ walk.rest) (length walk.done) ≡ Some one =
    ap₂ (λ (l : List ℕ) (n : ℕ). slice_get l n) (sym walk.parts) walk.far ∙ at in
    let part = next-part walk.done walk.rest one place in
    let parts : met ≡ walk.done ++ one ∷ part.0 = walk.parts ∙ ap (λ l. walk.done ++ l) part.1 in
    let here : Has met one = subst (λ l. Has l one) (sym parts)
    (list_any-append (nat_eq one) walk.done (one ∷ part.0)
    ∙ or_right (list_any (nat_eq one) walk.done) (list_any (nat_eq one) (one ∷ part.0))
    (has-first one part.0)) in
    let gone = met-more sources count node met (sources one) walk.is_met
    (source-near sources node one (length met) (walk.is_met.deep one here)) in
    let behind : (q : ℕ) → Has met q → Has (met_too count met (sources one)) q = λ q has.
    subst (λ l. Has l q) (sym gone.grown.is) (has-append met gone.grown.added q has) in
    subst (λ l. Walk sources count node l (suc next)) (sym is) (record {
      is_met = gone.is_met;
      done = walk.done ++ one ∷ [];
      rest = part.0 ++ gone.grown.added;
      parts = gone.grown.is ∙ ap (λ l. l ++ gone.grown.added) parts
          ∙ regrouped walk.done one part.0 gone.grown.added;
      far = length-push walk.done one ∙ ap suc walk.far;
      first = λ q has within. behind q (walk.first q has within);
      closed = λ m q done has within.
          all m q walk.done met (met_too count met (sources one)) (has-push walk.done one m done) has within
          behind walk.closed gone.grown.taken;
    })
  where
    regrouped : (done : List ℕ) (one : ℕ) (rest added : List ℕ)
        → (done ++ one ∷ rest) ++ added ≡ (done ++ one ∷ []) ++ (rest ++ added)
    regrouped done one rest added =
        append_assoc done (one ∷ rest) added ∙ sym (append_assoc done (one ∷ []) (rest ++ added))

    all : (m q : ℕ) (done old new : List ℕ) → (Has done m) ⊎ (m ≡ one) → Has (sources m) q → q < count
        → ((n : ℕ) → Has old n → Has new n)
        → ((k n : ℕ) → Has done k → Has (sources k) n → n < count → Has old n)
        → ((n : ℕ) → Has (sources one) n → n < count → Has new n) → Has new q
    all m q done old new (inl there) has within behind closed taken = behind q (closed m q there has within)
    all m q done old new (inr is) has within behind closed taken =
        taken q (subst (λ k. Has (sources k) q) is has) within

-- where all that was met is gone over, it is all on which the node depends
module _ (sources : Sources) (count : ℕ) (none : (n : ℕ) → count ≤ n → sources n ≡ []) (met : List ℕ)
    (closed : (m q : ℕ) → Has met m → Has (sources m) q → q < count → Has met q)
  where
    reaches : (most node q : ℕ) → ((s : ℕ) → Has (sources node) s → s < count → Has met s)
        → depends sources most node q ≡ true → q < count → Has met q
    reaches zero node q first is within = absurd (false≢true is)
    reaches (suc most) node q first is within =
        let found = some-one (λ source. (q == source) || depends sources most source q) (sources node) is in
        by found.one found.has (or_cases (q == found.one) (depends sources most found.one q) found.passes)
        (λ under rest. reaches most found.one q
        (λ s here. closed found.one s (first found.one found.has under) here) rest within)
      where
        beyond : (k source : ℕ) → sources source ≡ [] → depends sources k source q ≡ true → Has met q
        beyond zero source empty is = absurd (false≢true is)
        beyond (suc k) source empty is =
            let nothing : false ≡ true = rw empty at is in absurd (false≢true nothing)

        by : (source : ℕ) → Has (sources node) source
            → ((q == source) ≡ true) ⊎ (depends sources most source q ≡ true)
            → (source < count → depends sources most source q ≡ true → Has met q) → Has met q
        by source has (inl here) later =
            first q (subst (λ n. Has (sources node) n) (sym (eqb-true q source here)) has) within
        by source has (inr rest) later =
            ⊎_elim
            (λ under. later under rest)
            (λ past. beyond most source (none source past) rest)
            (cases_lt source count)

both-ways : (a b : Bool) → (a ≡ true → b ≡ true) → (b ≡ true → a ≡ true) → a ≡ b
both-ways true b there back = sym (there refl)
both-ways false true there back = back refl
both-ways false false there back = refl

no-rest : (done rest : List ℕ) → length (done ++ rest) ≤ length done → rest ≡ []
no-rest done [] short = refl
no-rest done (n ∷ rest) short = absurd (omega (arith, length-append done (n ∷ rest)))

-- at its end a walk has met all on which the node depends
pub walk-ends : (sources : Sources) (count node next : ℕ) (met : List ℕ)
    → ((n : ℕ) → count ≤ n → sources n ≡ []) → Walk sources count node met next → length met ≤ next
    → (other : ℕ) → other < count → list_any (nat_eq other) met ≡ depends sources count node other
walk-ends sources count node next met none walk over other within =
    let short : length met ≤ count =
    length-le_from_distinct_below met count walk.is_met.distinct walk.is_met.below in
    let room : (length walk.done) ≡ next = walk.far in
    let at : length (walk.done ++ walk.rest) ≤ length walk.done =
    subst (λ l. length l ≤ length walk.done) walk.parts (subst (λ n. length met ≤ n) (sym room) over) in
    let all : met ≡ walk.done = walk.parts ∙ ap (λ l. walk.done ++ l) (no-rest walk.done walk.rest at)
    ∙ append-nil walk.done in
    both-ways (list_any (nat_eq other) met) (depends sources count node other)
    (λ has. deep-enough count (length met) short (walk.is_met.deep other has))
    (λ is. reaches sources count none met
    (λ m q has. walk.closed m q (subst (λ l. Has l m) all has)) count node other walk.first is within)
  where
    deep-enough : (most few : ℕ) → few ≤ most → depends sources few node other ≡ true
        → depends sources most node other ≡ true
    deep-enough most few under is =
        let sum : (most - few) + few ≡ most = omega arith in
        subst (λ m. depends sources m node other ≡ true) sum (more-by sources (most - few) few node other is)

pub walk-runs_out : (sources : Sources) (count node : ℕ) (met : List ℕ)
    → ((n : ℕ) → count ≤ n → sources n ≡ []) → Walk sources count node met count
    → (other : ℕ) → other < count → list_any (nat_eq other) met ≡ depends sources count node other
walk-runs_out sources count node met none walk =
    walk-ends sources count node count met none walk
    (length-le_from_distinct_below met count walk.is_met.distinct walk.is_met.below)

-- behind the last of what was met there is none
pub past-end : (met : List ℕ) (i : ℕ) → None ≡ slice_get met i → length met ≤ i
past-end met i is =
    ⊎_elim
    (λ under. let there : slice_get met i ≡ Some (get_or met i 0) = slice_get-get_or met i 0 under in
    let off : None ≡ Some (get_or met i 0) = is ∙ there in absurd cc)
    (λ past. past)
    (cases_lt i (length met))
