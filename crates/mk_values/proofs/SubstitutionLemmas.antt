-- The anchor at the end of what is old.
use Rattle.std.proofs.Common.{◌≡◌, true, false, List, [], ◌∷◌, ◌++◌}
use Rattle.std.proofs.Common.{refl, sym, ap, ◌∙◌}
use Rattle.std.specs.List.{IsLastAndRest}
use Rattle.mk_ast.specs.Tree.{part}
use Rattle.mk_ast.specs.View.{part_view, tree_view}
use Rattle.mk_ast.specs.declared.tree.Part.{Part}
use Rattle.mk_values.specs.Substitutions.{at_end, without_end, is_lone}

at_end-append : (before : List Part) (last : Part)
    → at_end (tree_view (before ++ last ∷ [])) ≡ is_lone (part_view last)
unfolding at_end
at_end-append [] last = refl
at_end-append (p ∷ []) last = refl
at_end-append (p ∷ q ∷ before) last = at_end-append (q ∷ before) last

without_end-append : (before : List Part) (last : Part)
    → is_lone (part_view last) ≡ true
    → without_end (tree_view (before ++ last ∷ [])) ≡ tree_view before
unfolding without_end
without_end-append [] last lone = rw lone refl
without_end-append (p ∷ []) last lone = rw lone refl
without_end-append (p ∷ q ∷ before) last lone =
    ap (λ tree. part (part_view p) tree) (without_end-append (q ∷ before) last lone)

without_end-kept : (before : List Part) (last : Part)
    → is_lone (part_view last) ≡ false
    → without_end (tree_view (before ++ last ∷ [])) ≡ tree_view (before ++ last ∷ [])
unfolding without_end
without_end-kept [] last other = rw other refl
without_end-kept (p ∷ []) last other = rw other refl
without_end-kept (p ∷ q ∷ before) last other =
    ap (λ tree. part (part_view p) tree) (without_end-kept (q ∷ before) last other)

pub at_end_last : (parts before : List Part) (last : Part)
    → IsLastAndRest parts last before
    → at_end (tree_view parts) ≡ is_lone (part_view last)
at_end_last parts before last is = ap (λ (all : List Part). at_end (tree_view all)) is.0
    ∙ at_end-append before last

pub without_end_lone : (parts before : List Part) (last : Part)
    → IsLastAndRest parts last before
    → is_lone (part_view last) ≡ true
    → without_end (tree_view parts) ≡ tree_view before
without_end_lone parts before last is lone =
    ap (λ (all : List Part). without_end (tree_view all)) is.0
    ∙ without_end-append before last lone

pub without_end_other : (parts before : List Part) (last : Part)
    → IsLastAndRest parts last before
    → is_lone (part_view last) ≡ false
    → without_end (tree_view parts) ≡ tree_view parts
without_end_other parts before last is other =
    ap (λ (all : List Part). without_end (tree_view all)) is.0
    ∙ without_end-kept before last other
    ∙ ap (λ (all : List Part). tree_view all) (sym is.0)
