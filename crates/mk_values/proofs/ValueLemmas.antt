-- One step of an evaluation.
use Rattle.std.proofs.Common.{◌≡◌, ℕ, zero, suc, ◌+◌, ◌-◌, ◌<◌, ◌≤◌, inl, inr, true, false, List, [], ◌∷◌}
use Rattle.std.proofs.Common.{Err, length, drop, get_or, refl, sym, ap, ◌∙◌, arith}
use Rattle.std.proofs.Common.{nat_lt}
use Rattle.std.proofs.lemmas.Bool.Decides.{nat_tests}
use Rattle.std.proofs.lemmas.List.{drop_more, at_drop_all}
use Rattle.mk_ast.specs.Tree.{Tree, end, part, plain}
use Rattle.mk_ast.specs.Tree as tree
use Rattle.mk_ast.specs.View.{part_view, tree_view}
use Rattle.mk_ast.specs.declared.tree.Part.{Part}
use Rattle.mk_values.specs.Evaluators.{Finder, Progress, ◌>>=◌, gives, progress_with, tried}
use Rattle.mk_values.specs.Limits.{MayOpen, MayNotOpen, appended}
use Rattle.mk_values.specs.Names.{Context}
use Rattle.mk_values.specs.Parts.{part_appended, joined, tree_value}
use Rattle.mk_values.specs.Substitutions.{old_in_part, old_in_tree, at_start, without_start}
use Rattle.mk_values.specs.Substitutions.{without_end, without_anchors}
use Rattle.mk_values.specs.Value.{found, found_at}
use Rattle.mk_values.specs.declared.fault.ExpandFault.{ExpandFault}

pub joined-part : (find : Finder) (c : Context) (p : Progress) (text : List ℕ)
    (parts : List Part) (i : ℕ) (one : Part)
    → i < length parts → one ≡ get_or parts i one
    → joined find c p text (tree_view (drop i parts))
    ≡ (part_appended find c p text (part_view one)
    >>= λ more. joined find c more.1 more.0 (tree_view (drop (i + 1) parts)))
unfolding joined
joined-part find c p text parts i one less is =
    ap (λ (rest : List Part). joined find c p text (tree_view rest)) (drop_more parts i one less)
    ∙ ap (λ (q : Part). joined find c p text (tree_view (q ∷ drop (i + 1) parts))) (sym is)

pub joined-end : (find : Finder) (c : Context) (p : Progress) (text : List ℕ)
    (parts : List Part) (i : ℕ)
    → length parts ≤ i → joined find c p text (tree_view (drop i parts)) ≡ gives text p
unfolding joined
joined-end find c p text parts i past =
    at_drop_all (λ (rest : List Part). joined find c p text (tree_view rest)) parts i past

-- what is new in `:S`, part by part
pub joined-new : (find : Finder) (c : Context) (p : Progress) (text old : List ℕ)
    (parts : List Part) (i : ℕ) (one : Part)
    → i < length parts → one ≡ get_or parts i one
    → joined find c p text (old_in_tree old (tree_view (drop i parts)))
    ≡ (part_appended find c p text (old_in_part old (part_view one))
    >>= λ more. joined find c more.1 more.0 (old_in_tree old (tree_view (drop (i + 1) parts))))
unfolding joined old_in_tree
joined-new find c p text old parts i one less is =
    ap (λ (rest : List Part). joined find c p text (old_in_tree old (tree_view rest)))
    (drop_more parts i one less)
    ∙ ap (λ (q : Part).
    joined find c p text (old_in_tree old (tree_view (q ∷ drop (i + 1) parts)))) (sym is)

pub joined-new-end : (find : Finder) (c : Context) (p : Progress) (text old : List ℕ)
    (parts : List Part) (i : ℕ)
    → length parts ≤ i
    → joined find c p text (old_in_tree old (tree_view (drop i parts))) ≡ gives text p
unfolding joined old_in_tree
joined-new-end find c p text old parts i past =
    at_drop_all (λ (rest : List Part). joined find c p text (old_in_tree old (tree_view rest)))
    parts i past

-- what is old in `:S`, with an anchor at its beginning and without one
pub old_text_start : (find : Finder) (c : Context) (p : Progress) (from before tree : Tree)
    (bytes : List ℕ)
    → before ≡ without_end from → without_start before ≡ part (plain bytes) tree
    → tree_value find c p (without_anchors from)
    ≡ (tried (appended [] bytes) p >>= λ text. joined find c text.1 text.0 tree)
unfolding joined
old_text_start find c p from before tree bytes ends starts = rw (← ends, starts) refl

without_start-none : (tree : Tree) → at_start tree ≡ false → without_start tree ≡ tree
without_start-none end none = refl
without_start-none (part p tree) none = rw none refl

pub old_text_none : (find : Finder) (c : Context) (p : Progress) (from before : Tree)
    → before ≡ without_end from → at_start before ≡ false
    → tree_value find c p (without_anchors from) ≡ joined find c p [] before
old_text_none find c p from before ends none = rw (← ends, without_start-none before none) refl

-- a reference that may not be opened
pub found-not : (room : ℕ) (p : Progress) (c : Context) (one : tree.Part) (fault : ExpandFault)
    → MayNotOpen room p.references fault → found_at room c p one ≡ tried (Err fault) p
unfolding found_at
found-not zero p c one fault (inl deep) = rw deep.1 refl
found-not (suc room) p c one fault (inl deep) = absurd (omega (arith, deep.0))
found-not zero p c one fault (inr many) = absurd (omega (arith, many.0))
found-not (suc room) p c one fault (inr many) =
    rw many.2 (grind (arith, nat_tests, many.1))

-- a reference that is opened
pub found-may : (room after : ℕ) (p : Progress) (c : Context) (one : tree.Part)
    → MayOpen room p.references × (after ≡ p.references + 1)
    → found_at room c p one
    ≡ found (found_at (room - 1)) c (progress_with p.noted after p.asked) one
unfolding found_at
found-may zero after p c one may = absurd (omega (arith, may.0.0))
found-may (suc room) after p c one may =
    let few : nat_lt p.references 1048576 ≡ true = grind (arith, nat_tests, may.0.1) in
    let one_less : suc room - 1 ≡ room = omega arith in
    rw (few, one_less, may.1) refl
