-- The first chain from each suffix.
use Rattle.std.proofs.Common.{◌≡◌, ◌∙◌, ℕ, Bool, true, false, inl, inr, List, [], ◌∷◌, ◌++◌}
use Rattle.std.proofs.Common.{refl, sym, ap, subst, append_assoc}
use Rattle.std.proofs.lemmas.Bool.{cases_Bool, or_parts, or_from, false≢true}
use Rattle.std.proofs.lemmas.List.{append-nil}
use Rattle.std.proofs.lemmas.List.Folds.{list_any-append}
use Rattle.std.specs.List.{find, list_any, AllByRecursion}
use Rattle.mk_depline.specs.Names.{is_among}
use Rattle.mk_suffix.specs.Chains.{Suffixes, first_of}
use Rattle.mk_suffix.specs.Search.{firsts, fresh}
use Rattle.mk_suffix.proofs.AmongLemmas.{Covers, among-head, among-tail, among-split}
use Rattle.mk_suffix.proofs.AmongLemmas.{among-before, among-behind}

pub fresh-append : (names : List (List ℕ)) (chains more : List Suffixes)
    → fresh names (chains ++ more)
    ≡ fresh names chains ++ fresh (names ++ firsts (fresh names chains)) more
fresh-append names [] more = ap (λ l. fresh l more) (sym (append-nil names))
fresh-append names (chain ∷ chains) more =
    elim (cases_Bool (is_among names (first_of chain))) [
      | inl old ↦ rw old (fresh-append names chains more)
      | inr new ↦
          let later = names ++ first_of chain ∷ [] in
          rw new (ap (λ l. chain ∷ l) (fresh-append later chains more
          ∙ ap (λ l. fresh later chains ++ fresh l more)
          (append_assoc names (first_of chain ∷ []) (firsts (fresh later chains)))))
    ]

-- where all were reached before, none is new
pub fresh-none : (names : List (List ℕ)) (chains : List Suffixes)
    → Covers names (firsts chains) → fresh names chains ≡ []
fresh-none names [] covers = refl
fresh-none names (chain ∷ chains) covers =
    rw (covers (first_of chain) (among-head (first_of chain) (firsts chains)))
    (fresh-none names chains (λ x among. covers x (among-tail x (first_of chain) (firsts chains)
    among)))

-- what was reached and is new is all
pub fresh-covers : (names : List (List ℕ)) (chains : List Suffixes)
    → Covers (names ++ firsts (fresh names chains)) (firsts chains)
fresh-covers names [] x among = absurd (false≢true among)
fresh-covers names (chain ∷ chains) x among =
    elim (cases_Bool (is_among names (first_of chain))) [
      | inl old ↦
          rw old (elim (among-split x (first_of chain) (firsts chains) among) [
            | inl same ↦
                among-before names (firsts (fresh names chains)) x
                (subst (λ y. is_among names y ≡ true) (sym same) old)
            | inr later ↦ fresh-covers names chains x later
          ])
      | inr new ↦
          let grown = names ++ first_of chain ∷ [] in
          let rest = firsts (fresh grown chains) in
          rw new (elim (among-split x (first_of chain) (firsts chains) among) [
            | inl same ↦
                among-behind names (first_of chain ∷ rest) x
                (subst (λ y. is_among (first_of chain ∷ rest) y ≡ true) (sym same)
                (among-head (first_of chain) rest))
            | inr later ↦
                subst (λ l. is_among l x ≡ true) (append_assoc names (first_of chain ∷ []) rest)
                (fresh-covers grown chains x later)
          ])
    ]

-- what holds of all holds of the first ones
pub fresh-all : (P : Suffixes → Type 0) (names : List (List ℕ)) (chains : List Suffixes)
    → AllByRecursion P chains → AllByRecursion P (fresh names chains)
fresh-all P names [] all = tt
fresh-all P names (chain ∷ chains) all =
    elim (cases_Bool (is_among names (first_of chain))) [
      | inl old ↦ rw old (fresh-all P names chains all.1)
      | inr new ↦ rw new (all.0, fresh-all P (names ++ first_of chain ∷ []) chains all.1)
    ]

none-among : (q : List ℕ → Bool) (names : List (List ℕ)) (x : List ℕ)
    → list_any q names ≡ false → is_among names x ≡ true → q x ≡ false
none-among q [] x none among = absurd (false≢true among)
none-among q (one ∷ more) x none among =
    let parts = or_parts (q one) (list_any q more) none in
    elim (among-split x one more among) [
      | inl same ↦ ap q same ∙ parts.0
      | inr later ↦ none-among q more x parts.1 later
    ]

-- A test of first suffixes finds the same among the first ones, where none that was reached passes.
pub fresh-find : (q : List ℕ → Bool) (names : List (List ℕ)) (chains : List Suffixes)
    → list_any q names ≡ false
    → find (λ chain. q (first_of chain)) (fresh names chains)
    ≡ find (λ chain. q (first_of chain)) chains
fresh-find q names [] none = refl
fresh-find q names (chain ∷ chains) none =
    elim (cases_Bool (is_among names (first_of chain))) [
      | inl old ↦
          rw (old, none-among q names (first_of chain) none old) (fresh-find q names chains none)
      | inr new ↦
          elim (cases_Bool (q (first_of chain))) [
            | inl passes ↦ rw (new, passes) refl
            | inr fails ↦
                rw (new, fails) (fresh-find q (names ++ first_of chain ∷ []) chains
                (list_any-append q names (first_of chain ∷ [])
                ∙ or_from (list_any q names) (list_any q (first_of chain ∷ [])) none
                (or_from (q (first_of chain)) false fails refl)))
          ]
    ]
