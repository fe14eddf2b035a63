-- Nodes among others, and paths that have each node once.
use Rattle.std.proofs.Common.{◌≡◌, ℕ, zero, suc, ◌<◌, ◌≤◌, inl, inr, Bool, true, false}
use Rattle.std.proofs.Common.{nat_eq, ◌||◌, List, [], ◌∷◌, ◌++◌, length, refl, sym, ap, ◌∙◌}
use Rattle.std.proofs.Common.{eq-eqb}
use Rattle.std.proofs.lemmas.Bool.{or_cases, or_left, or_right, eqb-true, false≢true}
use Rattle.std.proofs.lemmas.List.Folds.{list_any-append}
use Rattle.std.proofs.lemmas.Map.Keys.{IsDistinct-push}
use Rattle.std.proofs.lemmas.Map.Steps.{length-le_from_distinct_below}
use Rattle.std.specs.Cmp.{nat_eq_equiv}
use Rattle.std.specs.List.{IsDistinct}
use Rattle.mk_graph.specs.Numbers.{AreBelow, EachBelow}
use Rattle.mk_graph.specs.Orders.{AreAmong}
use Rattle.mk_graph.specs.Walks.{is_among, preds_of}

-- a node is among those that begin with it
pub head_among : (n : ℕ) (more : List ℕ) → is_among (n ∷ more) n ≡ true
head_among n more = or_left (nat_eq n n) (is_among more n) (eq-eqb n n refl)

-- and those of the rest are among all
pub tail_among : (n m : ℕ) (more : List ℕ) → is_among more m ≡ true → is_among (n ∷ more) m ≡ true
tail_among n m more among = or_right (nat_eq m n) (is_among more m) among

-- they stay among more
AreAmong-keeps : (done later nodes : List ℕ)
    → ((m : ℕ) → is_among done m ≡ true → is_among later m ≡ true) → AreAmong done nodes
    → AreAmong later nodes
AreAmong-keeps done later [] keeps among = tt
AreAmong-keeps done later (n ∷ more) keeps among =
    (keeps n among.0, AreAmong-keeps done later more keeps among.1)

-- so is each one of them
pub AreAmong-at : (done nodes : List ℕ) (n : ℕ) → AreAmong done nodes → is_among nodes n ≡ true
    → is_among done n ≡ true
AreAmong-at done [] n all among = absurd (false≢true among)
AreAmong-at done (one ∷ more) n all among =
    elim (or_cases (nat_eq n one) (is_among more n) among) [
      | inl same ↦ let is = eqb-true n one same in rw is all.0
      | inr later ↦ AreAmong-at done more n all.1 later
    ]

-- a test beside one that fails
pub or-false : (b : Bool) → (b || false) ≡ b
or-false true = refl
or-false false = refl

-- the nodes of a path with one more
pub is_among-append : (path : List ℕ) (n q : ℕ)
    → is_among (path ++ n ∷ []) q ≡ (is_among path q || nat_eq q n)
is_among-append path n q =
    list_any-append (nat_eq q) path (n ∷ [])
    ∙ ap (λ b. is_among path q || b) (or-false (nat_eq q n))

-- a path has each node once, and nodes alone
pub record IsPath (bound : ℕ) (path : List ℕ) : Type 0 where
  pub distinct : IsDistinct nat_eq path
  pub below : (q : ℕ) → is_among path q ≡ true → q < bound

-- the empty path is one
pub IsPath-none : (bound : ℕ) → IsPath bound []
unfolding IsDistinct
IsPath-none bound = record { distinct = tt; below = λ q among. absurd (false≢true among) }

-- a path goes on by a node that is not on it
pub IsPath-append : (bound : ℕ) (path : List ℕ) (n : ℕ) → IsPath bound path
    → is_among path n ≡ false → n < bound → IsPath bound (path ++ n ∷ [])
IsPath-append bound path n whole off within = record {
  distinct = IsDistinct-push nat_eq_equiv path n whole.distinct off;
  below = λ q among.
      elim (or_cases (is_among path q) (nat_eq q n) (sym (is_among-append path n q) ∙ among)) [
        | inl old ↦ whole.below q old
        | inr new ↦ let is = eqb-true q n new in rw is within
      ];
}

-- so no path is longer than there are nodes
pub path_length : (bound : ℕ) (path : List ℕ) → IsPath bound path → length path ≤ bound
path_length bound path whole =
    length-le_from_distinct_below path bound whole.distinct whole.below

-- predecessors are below a bound where all are
pub preds-below : (bound : ℕ) (preds : List (List ℕ)) (n : ℕ) → EachBelow bound preds
    → AreBelow bound (preds_of preds n)
preds-below bound [] n below = tt
preds-below bound (nodes ∷ more) zero below = below.0
preds-below bound (nodes ∷ more) (suc n) below = preds-below bound more n below.1
