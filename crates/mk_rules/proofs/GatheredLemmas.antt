-- A set of the known suffixes, where one is added.
use Rattle.std.proofs.Common.{◌≡◌, ℕ, zero, suc, ◌+◌, ◌<◌, length, take, get_or, arith, ◌||◌, Bool, true, false, not, true≢false, List, [], ◌∷◌, ◌++◌, Vec, Global, refl, sym, ap, ◌∙◌}
use Rattle.std.specs.List.{list_any}
use Rattle.std.specs.Str.{bytes_eq}
use Rattle.std.proofs.lemmas.List.Folds.{list_any-append}
use Rattle.std.proofs.lemmas.Slice.Eq.{bytes_eq-Decides}
use Rattle.indexmap.specs.IndexSet.{insert_key}
use Rattle.mk_rules.specs.Lines.{is_known}
use Rattle.mk_rules.specs.Gathered.{Holds}

or_false : (b : Bool) → (b || false) ≡ b
or_false true = refl
or_false false = refl

-- a key that is there already
again : (known : List (List ℕ)) (name bytes : List ℕ) (same : Bool) → bytes_eq name bytes ≡ same
    → is_known known bytes ≡ true → is_known known name ≡ (is_known known name || (same || false))
again known name bytes true is there =
    let equal = (bytes_eq-Decides name bytes).0 is in
    let first = ap (is_known known) equal ∙ there in
    rw first refl
again known name bytes false is there = sym (or_false (is_known known name))

inserted : (keys : List (Vec ℕ Global)) (known : List (List ℕ)) (key : Vec ℕ Global) (there : Bool)
    → list_any (λ other. bytes_eq key.items other.items) keys ≡ there
    → Holds keys known
    → Holds (insert_key (λ one other. bytes_eq one.items other.items) keys key)
    (known ++ key.items ∷ [])
inserted keys known key true is holds = λ name.
    let last = list_any-append (λ one. bytes_eq name one) known (key.items ∷ []) in
    let found = sym (holds key.items) ∙ is in
    rw (is, last) (holds name ∙ again known name key.items (bytes_eq name key.items) refl found)
inserted keys known key false is holds = λ name.
    let last = list_any-append (λ one. bytes_eq name one) known (key.items ∷ []) in
    let more = list_any-append (λ (other : Vec ℕ Global). bytes_eq name other.items) keys (key ∷ []) in
    rw (is, more, last) (ap (λ found. found || (bytes_eq name key.items || false)) (holds name))

-- a suffix behind those that are known
pub Holds-more : (keys new : List (Vec ℕ Global)) (known : List (List ℕ)) (key : Vec ℕ Global)
    (bytes : List ℕ) → Holds keys known → key.items ≡ bytes
    → new ≡ insert_key (λ one other. bytes_eq one.items other.items) keys key
    → Holds new (known ++ bytes ∷ [])
Holds-more keys new known key bytes holds is inserts =
    rw (inserts, ← is)
    (inserted keys known key (list_any (λ other. bytes_eq key.items other.items) keys) refl holds)

-- and one that is known
pub Holds-same : (keys new : List (Vec ℕ Global)) (known : List (List ℕ)) (key : Vec ℕ Global)
    → Holds keys known → list_any (λ other. bytes_eq key.items other.items) keys ≡ true
    → new ≡ insert_key (λ one other. bytes_eq one.items other.items) keys key
    → Holds new known
Holds-same keys new known key holds there inserts = rw (inserts, there) holds

-- what was not new was there
pub was_there : (there new : Bool) → new ≡ not there → new ≡ false → there ≡ true
was_there true new is none = refl
was_there false new is none = absurd (true≢false (sym is ∙ none))

-- one more of a list
pub take_one : (texts : List (List ℕ)) (i : ℕ) (text : List ℕ)
    → i < length texts → text ≡ get_or texts i text → take (i + 1) texts ≡ take i texts ++ text ∷ []
take_one [] i text within is = absurd (omega (arith, within))
take_one (first ∷ texts) zero text within is =
    ap (λ t. t ∷ []) (sym is)
take_one (first ∷ texts) (suc i) text within is =
    let next : suc i + 1 ≡ suc (i + 1) = omega arith in
    rw next (ap (λ more. first ∷ more) (take_one texts i text (omega (arith, within)) is))
