-- The names that a directory holds.
use Rattle.std.proofs.Common.{◌≡◌, ℕ, Bool, true, false, ◌||◌, List, [], ◌∷◌, Option, Some, None, refl, sym, ap, ◌∙◌, Vec, Global, Ordering, Less, Equal, Greater}
use Rattle.std.proofs.lemmas.Cmp.{nat_list_cmp_total}
use Rattle.std.proofs.lemmas.Map.Lookups.{exact_bytes, btree_set_from_contains}
use Rattle.std.proofs.lemmas.Map.Text.{is_eq-slice_cmp}
use Rattle.std.specs.BTreeSet.{BTreeSet, insert_key}
use Rattle.std.specs.Cmp.Lexicographic.{slice_cmp}
use Rattle.std.specs.List.Sorted.{IsStrictlySortedBy}
use Rattle.std.specs.List.{AllByRecursion}
use Rattle.std.specs.Ordering.{is_eq, match_ordering, nat_cmp}
use Rattle.std.specs.Prelude.{◌↔◌, IsTrue}
use Rattle.std.specs.Str.{bytes_eq}
use Rattle.mk_bytes.specs.Texts.{is_among}
use Rattle.mk_world.specs.Deeds.{Store}
use Rattle.mk_world.specs.Listings.{AreInOrder, AreNamesBelow, Lists, OneListing, StandsBelow, texts_of}

-- the order of keys
abbrev by_items : Vec ℕ Global → Vec ℕ Global → Ordering
by_items one other = slice_cmp nat_cmp one.items other.items

twice : (a b : Bool) → (a || b) ≡ (a || (a || b))
twice true b = refl
twice false b = refl

turned : (a b c : Bool) → (a || (b || c)) ≡ (b || (a || c))
turned true true c = refl
turned true false c = refl
turned false b c = refl

-- what a set holds with one more key
is_among-more : (keys : List (Vec ℕ Global)) (key : Vec ℕ Global) (other : List ℕ)
    → is_among (texts_of (insert_key by_items keys key)) other
    ≡ (bytes_eq other key.items || is_among (texts_of keys) other)
is_among-more [] key other = refl
is_among-more (first ∷ keys) key other =
    by (by_items key first) refl (is_among-more keys key other)
  where
    by : (o : Ordering) → by_items key first ≡ o
        → is_among (texts_of (insert_key by_items keys key)) other
        ≡ (bytes_eq other key.items || is_among (texts_of keys) other)
        → is_among (texts_of (match_ordering o (key ∷ first ∷ keys) (first ∷ keys)
        (first ∷ insert_key by_items keys key))) other
        ≡ (bytes_eq other key.items || is_among (texts_of (first ∷ keys)) other)
    by Less is more = refl
    by Equal is more =
        twice (bytes_eq other first.items) (is_among (texts_of keys) other)
        ∙ ap (λ bytes. bytes_eq other bytes || is_among (texts_of (first ∷ keys)) other)
        (sym (exact_bytes key.items first.items is))
    by Greater is more =
        ap (λ b. bytes_eq other first.items || b) more
        ∙ turned (bytes_eq other first.items) (bytes_eq other key.items)
        (is_among (texts_of keys) other)

pub among-more : (keys new : List (Vec ℕ Global)) (key : Vec ℕ Global) (names : List (List ℕ))
    (name : List ℕ) → texts_of keys ≡ names → key.items ≡ name
    → new ≡ insert_key by_items keys key → (other : List ℕ)
    → is_among (texts_of new) other ≡ (bytes_eq other name || is_among names other)
among-more keys new key names name are holds is other =
    ap (λ l. is_among (texts_of l) other) is ∙ is_among-more keys key other
    ∙ ap (λ l. bytes_eq other key.items || is_among l other) are
    ∙ ap (λ bytes. bytes_eq other bytes || is_among names other) holds

all-before : (key : Vec ℕ Global) (keys : List (Vec ℕ Global))
    → AllByRecursion (λ one. by_items key one ≡ Less) keys
    → AllByRecursion (λ one. slice_cmp nat_cmp key.items one ≡ Less) (texts_of keys)
all-before key [] before = tt
all-before key (one ∷ keys) before = (before.0, all-before key keys before.1)

-- the keys of a set stand for names in order
pub in-order : (keys : List (Vec ℕ Global)) → IsStrictlySortedBy by_items keys
    → AreInOrder (texts_of keys)
unfolding IsStrictlySortedBy
in-order [] ordered = tt
in-order (key ∷ keys) ordered = (all-before key keys ordered.0, in-order keys ordered.1)

-- names in order are told by what is among them
abbrev set_of : List (List ℕ) → BTreeSet (List ℕ)
set_of names = record { keys = names }

same-tests : (names : List (List ℕ)) (name : List ℕ)
    → Rattle.std.specs.BTreeSet.contains (slice_cmp nat_cmp) (set_of names) name
    ≡ is_among names name
same-tests [] name = refl
same-tests (one ∷ names) name =
    ap (λ b. b || Rattle.std.specs.BTreeSet.contains (slice_cmp nat_cmp) (set_of names) name)
    (is_eq-slice_cmp name one)
    ∙ ap (λ b. bytes_eq name one || b) (same-tests names name)

pub same-names : (first second : List (List ℕ)) → AreInOrder first → AreInOrder second
    → ((name : List ℕ) → is_among first name ≡ is_among second name) → first ≡ second
same-names first second ordered then_ordered same =
    btree_set_from_contains nat_list_cmp_total (set_of first) (set_of second) ordered then_ordered
    (λ name. same-tests first name ∙ same name ∙ sym (same-tests second name)) exact_bytes

same-truths : (a b : Bool) → (a ≡ true → b ≡ true) → (b ≡ true → a ≡ true) → a ≡ b
same-truths true b there back = sym (there refl)
same-truths false true there back = back refl
same-truths false false there back = refl

pub one-list : (store : Store) (dir : List ℕ) (first second : List (List ℕ))
    → AreNamesBelow store dir first → AreNamesBelow store dir second → first ≡ second
one-list store dir first second names more =
    same-names first second names.ordered more.ordered (λ name.
    same-truths (is_among first name) (is_among second name)
    (λ is. (more.are name).1 ((names.are name).0 is))
    (λ is. (names.are name).1 ((more.are name).0 is)))

pub one-listing : OneListing
one-listing store dir None None first second = refl
one-listing store dir None (Some names) first second =
    absurd (first.0 (second.0 (one-list store dir names [] second.1 first.1)))
one-listing store dir (Some names) None first second =
    absurd (second.0 (first.0 (one-list store dir names [] first.1 second.1)))
one-listing store dir (Some names) (Some more) first second =
    ap Some (one-list store dir more names second.1 first.1)
