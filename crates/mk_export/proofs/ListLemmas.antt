-- Variables with their values, by the names that they have.
use Rattle.std.proofs.Common.{◌≡◌, ℕ, true, ◌&&◌, List, [], ◌∷◌, refl, sym, ap, subst, ◌∙◌}
use Rattle.std.specs.List.{AllByRecursion}
use Rattle.mk_bytes.specs.declared.pair.Pair.{Pair}
use Rattle.mk_export.specs.Lists.{AreExports}
use Rattle.mk_export.specs.Names.{AreNames, names_of, unvalued}
use Rattle.mk_meta.specs.Lawful.{are_sorted, is_before, is_export_name}

are-named : (pairs : List Pair)
    → AllByRecursion (λ pair. is_export_name pair.name ≡ true) (unvalued (names_of pairs))
    → AllByRecursion (λ pair. is_export_name pair.name ≡ true) pairs
are-named [] named = tt
are-named (pair ∷ pairs) named = (named.0, are-named pairs named.1)

same-order : (pairs : List Pair) → are_sorted (unvalued (names_of pairs)) ≡ are_sorted pairs
same-order [] = refl
same-order (pair ∷ []) = refl
same-order (pair ∷ next ∷ pairs) =
    ap (λ all. is_before pair (next ∷ pairs) && all) (same-order (next ∷ pairs))

-- Variables with the names that exported ones have are exported ones.
pub named-exports : (pairs : List Pair) (names : List (List ℕ)) → names_of pairs ≡ names
    → AreNames names → AreExports pairs
named-exports pairs names same are =
    let own : AreNames (names_of pairs) = subst AreNames (sym same) are in
    record { names = are-named pairs own.names; sorted = sym (same-order pairs) ∙ own.sorted }
