use Rattle.std.proofs.Common.{◌≡◌, ◌-◌, ◌<◌, ◌≤◌, [], ◌∷◌, length, drop, slice_index, Ok, refl, sym}
use Rattle.std.proofs.Common.{ap, ◌∙◌, inr, arith, length-drop}
use Rattle.std.proofs.lemmas.Bool.Decides.{nat_tests}
use Rattle.std.proofs.lemmas.Result.{err_from_is_err_and}
use Rattle.mk_bytes.specs.Agrees.{AgreesErr, ◌>>=◌}
use Rattle.mk_bytes.proofs.AgreesLemmas.{AgreesErr-bind}
use Rattle.mk_ast.specs.Tree.{part, end, mod_then, no_mods, tree_append, mods_append}
use Rattle.mk_ast.specs.Modifiers.{modifier_at}
use Rattle.mk_ast.specs.References.{ref_at, mods_at}
use Rattle.mk_ast.specs.Text.{part_at, text_at}
use Rattle.mk_ast.specs.View.{part_view, tree_view, mod_view, mods_view}
use Rattle.mk_ast.specs.declared.fault.AstFault.TheVariants.{NoMemory as no_memory}
use Rattle.mk_ast.proofs.Turns.{after_parts, after_mods, after_parts-more, after_mods-more}
use Rattle.mk_ast.proofs.Turns.{tree_append-end, mods_append-none, text_at-over, text_at-more}
use Rattle.mk_ast.proofs.Turns.{mods_at-unclosed, mods_at-closed, mods_at-more, ref_at-more}
use Rattle.mk_ast.proofs.Turns.{argument_at-made, new_at-more, subst_at-more}
use Rattle.mk_ast.proofs.Views.{view-Named, view-Ref, view-Subst, view-Select, view-Choose, view-Suffix}
use Rattle.mk_ast.proofs.Views.{tree_view-append, mods_view-append}
use Rattle.mk_ast.proofs.+read.Goals as goal

pub read::mods_at-returns-then-rest-ne58-clause-gives
    : goal.read::mods_at-returns-then-rest-ne58-clause-gives
read::mods_at-returns-then-rest-ne58-clause-gives t c =
    let i = c.mods.invariant in
    let s = c.mods.rest.now in
    let refs = ref_at c.args.level.total c.args.level.depth in
    let some : 0 < length s = grind (arith, nat_tests) in
    let closed =
    mods_at-closed refs c.args.level.total c.args.opened c.args.round i.0 s some i.1
    c.if-rest-ne58.true in
    i.2 ∙ ap (after_mods (mods_view c.mods.mods)) closed
    ∙ rw (mods_append-none (mods_view c.mods.mods), c.skip-behind.ensures) refl

pub read::mods_at-returns-in_err-one-clause-gives
    : goal.read::mods_at-returns-in_err-one-clause-gives
read::mods_at-returns-in_err-one-clause-gives t c =
    let is = err_from_is_err_and c.from_residual-in_err-one.result
    c.from_residual-in_err-one.ensures.1 in
    let i = c.mods.invariant in
    let s = c.mods.rest.now in
    let fault = c.in_err-one.field-0.0 in
    let refs = ref_at c.args.level.total c.args.level.depth in
    let some : 0 < length s = grind (arith, nat_tests) in
    let more = mods_at-more refs c.args.level.total c.args.opened c.args.round i.0 s some i.1
    c.if-rest-ne58.false in
    let one : AgreesErr no_memory fault
    (modifier_at refs c.args.level.total c.args.opened c.args.round (drop 1 s)) =
    rw (← c.skip-behind.ensures) c.in_err-one.ensures.gives in
    rw (is.1, is.2, i.2, more)
    (AgreesErr-bind no_memory fault _ _ (AgreesErr-bind no_memory fault _ _ one))

pub read::mods_at-mods-preserved : goal.read::mods_at-mods-preserved
read::mods_at-mods-preserved t c =
    let i = c.mods.invariant in
    let s = c.mods.rest.now in
    let m = c.in_ok-one.one in
    let left = c.in_ok-one.left.now in
    let mods = c.mods.mods in
    let refs = ref_at c.args.level.total c.args.level.depth in
    let next = mods_at refs c.args.level.total c.args.opened c.args.round (i.0 - 1) left in
    let some : 0 < length s = grind (arith, nat_tests) in
    let one : modifier_at refs c.args.level.total c.args.opened c.args.round (drop 1 s)
    ≡ Ok (mod_view m, left) = rw (← c.skip-behind.ensures) c.in_ok-one.ensures.gives in
    let more = mods_at-more refs c.args.level.total c.args.opened c.args.round i.0 s some i.1
    c.if-rest-ne58.false in
    let turn : mods_at refs c.args.level.total c.args.opened c.args.round i.0 s
    ≡ (next >>= λ ms. Ok (mod_then (mod_view m) ms.0, ms.1)) = rw (more, one) refl in
    let pushed : mods_view c.push.new.self
    ≡ mods_append (mods_view mods) (mod_then (mod_view m) no_mods) =
    rw c.in_ok-push.ensures.ok (mods_view-append mods (m ∷ [])) in
    let shorter = c.in_ok-one.ensures.shorter in
    let behind : length left ≤ length (drop 1 s) = rw (← c.skip-behind.ensures) shorter in (
      i.0 - 1,
      omega (arith, i.1, behind, length-drop 1 s),
      i.2 ∙ ap (after_mods (mods_view mods)) turn
          ∙ after_mods-more (mods_view mods) (mod_view m) next
          ∙ ap (λ v. after_mods v next) (sym pushed),
      omega (arith, i.3, behind, length-drop 1 s),
    )

pub read::mods_at-returns-clause-gives : goal.read::mods_at-returns-clause-gives
read::mods_at-returns-clause-gives t c =
    let i = c.mods.invariant in
    let s = c.mods.rest.now in
    let none : length s ≡ 0 = grind (arith, nat_tests) in
    let unclosed =
    mods_at-unclosed
    (ref_at c.args.level.total c.args.level.depth) c.args.level.total c.args.opened c.args.round
    i.0 s none in
    inr (i.2 ∙ ap (after_mods (mods_view c.mods.mods)) unclosed)

pub read::ref_at-returns-then-level-eq0-clause-gives
    : goal.read::ref_at-returns-then-level-eq0-clause-gives
unfolding ref_at
read::ref_at-returns-then-level-eq0-clause-gives t c = rw c.if-level-eq0.true (inr refl)

pub read::ref_at-returns-in_err-mods-clause-gives
    : goal.read::ref_at-returns-in_err-mods-clause-gives
read::ref_at-returns-in_err-mods-clause-gives t c =
    let is = err_from_is_err_and c.from_residual-in_err-mods.result
    c.from_residual-in_err-mods.ensures.1 in
    let fault = c.in_err-mods.field-0.0 in
    rw (
      is.1,
      is.2,
      ref_at-more c.args.level.total c.args.level.depth c.args.round c.args.text.now
          c.if-level-eq0.false,
      c.in-Some.ensures.plain (ref_at c.args.level.total (c.args.level.depth - 1)),
      ← c.split_at.ensures.back,
    )
    (AgreesErr-bind no_memory fault _ _
    (AgreesErr-bind no_memory fault _ _ c.in_err-mods.ensures.gives))

pub read::ref_at-returns-in-Some-clause-gives : goal.read::ref_at-returns-in-Some-clause-gives
read::ref_at-returns-in-Some-clause-gives t c =
    rw (
      ref_at-more c.args.level.total c.args.level.depth c.args.round c.args.text.now
          c.if-level-eq0.false,
      c.in-Some.ensures.plain (ref_at c.args.level.total (c.args.level.depth - 1)),
      ← c.split_at.ensures.back,
      c.in_ok-mods.ensures.gives,
      view-Named c.args.round c.in_ok-name.name c.in_ok-mods.mods,
      c.in_ok-name.ensures,
      c.split_at.ensures.front,
    ) refl

pub read::ref_at-returns-in_err-name-2-clause-gives
    : goal.read::ref_at-returns-in_err-name-2-clause-gives
read::ref_at-returns-in_err-name-2-clause-gives t c =
    let is = err_from_is_err_and c.from_residual-in_err-name-2.result
    c.from_residual-in_err-name-2.ensures.1 in
    let fault = c.in_err-name-2.field-0.0 in
    rw (
      is.1,
      is.2,
      ref_at-more c.args.level.total c.args.level.depth c.args.round c.args.text.now
          c.if-level-eq0.false,
    )
    (AgreesErr-bind no_memory fault _ _
    (AgreesErr-bind no_memory fault _ _ c.in_err-name-2.ensures.gives))

pub read::ref_at-returns-in_err-mods-2-clause-gives
    : goal.read::ref_at-returns-in_err-mods-2-clause-gives
read::ref_at-returns-in_err-mods-2-clause-gives t c =
    let is = err_from_is_err_and c.from_residual-in_err-mods-2.result
    c.from_residual-in_err-mods-2.ensures.1 in
    let fault = c.in_err-mods-2.field-0.0 in
    rw (
      is.1,
      is.2,
      ref_at-more c.args.level.total c.args.level.depth c.args.round c.args.text.now
          c.if-level-eq0.false,
      c.in_ok-name-2.ensures.gives,
    )
    (AgreesErr-bind no_memory fault _ _
    (AgreesErr-bind no_memory fault _ _ c.in_err-mods-2.ensures.gives))

pub read::ref_at-returns-clause-gives : goal.read::ref_at-returns-clause-gives
read::ref_at-returns-clause-gives t c =
    rw (
      ref_at-more c.args.level.total c.args.level.depth c.args.round c.args.text.now
          c.if-level-eq0.false,
      c.in_ok-name-2.ensures.gives,
      c.in_ok-mods-2.ensures.gives,
      view-Ref c.args.round c.in_ok-name-2.name c.in_ok-mods-2.mods,
    ) refl

pub read::text_at-returns-in_err-part-clause-gives
    : goal.read::text_at-returns-in_err-part-clause-gives
read::text_at-returns-in_err-part-clause-gives t c =
    let is = err_from_is_err_and c.from_residual-in_err-part.result
    c.from_residual-in_err-part.ensures.1 in
    let i = c.parts.invariant in
    let s = c.parts.rest.now in
    let fault = c.in_err-part.field-0.0 in
    let refs = ref_at c.args.level.total c.args.level.depth in
    let more = text_at-more refs c.parts.place i.0 s i.1
    (sym c.is_over.ensures.same ∙ c.parts-test.true) in
    let one : AgreesErr no_memory fault (part_at refs c.parts.place (slice_index s 0) (drop 1 s)) =
    c.in_err-part.ensures.gives in
    rw (is.1, is.2, i.2, more)
    (AgreesErr-bind no_memory fault _ _ (AgreesErr-bind no_memory fault _ _ one))

pub read::text_at-parts-preserved : goal.read::text_at-parts-preserved
read::text_at-parts-preserved t c =
    let i = c.parts.invariant in
    let s = c.parts.rest.now in
    let p = c.in_ok-part.part in
    let left = c.in_ok-part.left.now in
    let parts = c.parts.tree in
    let refs = ref_at c.args.level.total c.args.level.depth in
    let next = text_at refs c.in_ok-part.next (i.0 - 1) left in
    let one : part_at refs c.parts.place (slice_index s 0) (drop 1 s)
    ≡ Ok (part_view p, c.in_ok-part.next, left) = c.in_ok-part.ensures.gives in
    let more = text_at-more refs c.parts.place i.0 s i.1
    (sym c.is_over.ensures.same ∙ c.parts-test.true) in
    let turn : text_at refs c.parts.place i.0 s ≡ (next >>= λ t. Ok (part (part_view p) t.0, t.1)) =
    rw (more, one) refl in
    let pushed : tree_view c.push.new.self
    ≡ tree_append (tree_view parts) (part (part_view p) end) =
    rw c.in_ok-push.ensures.ok (tree_view-append parts (p ∷ [])) in
    let shorter = c.in_ok-part.ensures.shorter in
    let nests = c.in_ok-part.ensures.nesting in (
      i.0 - 1,
      omega (arith, i.1, shorter),
      i.2 ∙ ap (after_parts (tree_view parts)) turn
          ∙ after_parts-more (tree_view parts) (part_view p) next
          ∙ ap (λ v. after_parts v next) (sym pushed),
      omega (arith, i.3, shorter),
      omega (arith, i.4, nests),
    )

pub read::text_at-returns-clause-gives : goal.read::text_at-returns-clause-gives
read::text_at-returns-clause-gives t c =
    let i = c.parts.invariant in
    let s = c.parts.rest.now in
    let over = text_at-over (ref_at c.args.level.total c.args.level.depth) c.parts.place i.0 s i.1
    (sym c.is_over.ensures.same ∙ c.parts-test.false) in
    i.2 ∙ ap (after_parts (tree_view c.parts.tree)) over ∙ ap (λ t. Ok (t, s)) (tree_append-end _)

pub modifier::argument_at-returns-in_err-tree-clause-gives
    : goal.modifier::argument_at-returns-in_err-tree-clause-gives
modifier::argument_at-returns-in_err-tree-clause-gives t c =
    let is = err_from_is_err_and c.from_residual.result c.from_residual.ensures.1 in
    let fault = c.in_err-tree.field-0.0 in
    let given = c.argument_place-place.ensures in
    let one = rw (given.place, c.skip.ensures, given.len) at c.in_err-tree.ensures.gives in
    rw (
      is.1,
      is.2,
      argument_at-made (ref_at c.args.level.total c.args.level.depth) c.args.round c.args.argument
          c.args.text.now,
    )
    (AgreesErr-bind no_memory fault _ _ one)

pub modifier::argument_at-returns-clause-gives : goal.modifier::argument_at-returns-clause-gives
modifier::argument_at-returns-clause-gives t c =
    let given = c.argument_place-place.ensures in
    let one = rw (given.place, c.skip.ensures, given.len) at c.in_ok-tree.ensures.gives in
    rw (
      argument_at-made (ref_at c.args.level.total c.args.level.depth) c.args.round c.args.argument
          c.args.text.now,
      one,
      c.with_argument.ensures,
    ) refl

pub modifier::closed_at-returns-in_err-tree-clause-gives
    : goal.modifier::closed_at-returns-in_err-tree-clause-gives
modifier::closed_at-returns-in_err-tree-clause-gives t c =
    let is = err_from_is_err_and c.from_residual.result c.from_residual.ensures.1 in
    rw (is.1, is.2) (AgreesErr-bind no_memory c.in_err-tree.field-0.0 _ _ c.in_err-tree.ensures.gives)

pub modifier::select_at-returns-in_err-places-clause-gives
    : goal.modifier::select_at-returns-in_err-places-clause-gives
modifier::select_at-returns-in_err-places-clause-gives t c =
    let is = err_from_is_err_and c.from_residual.result c.from_residual.ensures.1 in
    rw (is.1, is.2) (AgreesErr-bind no_memory c.in_err-places.field-0.0 _ _ c.in_err-places.ensures.gives)

pub modifier::choose_at-returns-in_err-first-clause-gives
    : goal.modifier::choose_at-returns-in_err-first-clause-gives
modifier::choose_at-returns-in_err-first-clause-gives t c =
    let is = err_from_is_err_and c.from_residual.result c.from_residual.ensures.1 in
    rw (is.1, is.2) (AgreesErr-bind no_memory c.in_err-first.field-0.0 _ _ c.in_err-first.ensures.gives)

pub modifier::choose_at-returns-in_err-second-clause-gives
    : goal.modifier::choose_at-returns-in_err-second-clause-gives
modifier::choose_at-returns-in_err-second-clause-gives t c =
    let is = err_from_is_err_and c.from_residual-in_err-second.result c.from_residual-in_err-second.ensures.1 in
    rw (is.1, is.2, c.in_ok-first.ensures.gives) (AgreesErr-bind no_memory c.in_err-second.field-0.0 _ _ c.in_err-second.ensures.gives)

pub modifier::suffix_at-returns-in_err-old-clause-gives
    : goal.modifier::suffix_at-returns-in_err-old-clause-gives
modifier::suffix_at-returns-in_err-old-clause-gives t c =
    let is = err_from_is_err_and c.from_residual.result c.from_residual.ensures.1 in
    rw (is.1, is.2) (AgreesErr-bind no_memory c.in_err-old.field-0.0 _ _ c.in_err-old.ensures.gives)

pub modifier::select_at-returns-clause-gives : goal.modifier::select_at-returns-clause-gives
modifier::select_at-returns-clause-gives t c =
    let ends = sym c.is_end.ensures ∙ c.if-not-is_end.false in
    rw (c.in_ok-places.ensures.gives, ends, view-Select c.in_ok-places.places) refl

pub modifier::choose_at-returns-clause-gives : goal.modifier::choose_at-returns-clause-gives
modifier::choose_at-returns-clause-gives t c =
    let ends = sym c.is_end.ensures ∙ c.if-not-is_end.false in
    rw (
      c.in_ok-first.ensures.gives,
      c.in_ok-second.ensures.gives,
      ends,
      view-Choose c.in_ok-first.first c.in_ok-second.second,
    ) refl

pub modifier::subst_at-returns-in_err-from-clause-gives
    : goal.modifier::subst_at-returns-in_err-from-clause-gives
modifier::subst_at-returns-in_err-from-clause-gives t c =
    let is = err_from_is_err_and c.from_residual.result c.from_residual.ensures.1 in
    let goes = sym c.ends_modifier.ensures ∙ c.if-ends_modifier.false in
    let some : 0 < length c.args.text.now = grind (arith, nat_tests) in
    let more = subst_at-more (ref_at c.args.level.total c.args.level.depth) c.args.start c.args.round
    c.args.text.now some goes in
    rw (is.1, is.2, more)
    (AgreesErr-bind no_memory c.in_err-from.field-0.0 _ _ (rw c.skip.ensures at c.in_err-from.ensures.gives))

pub modifier::subst_at-returns-in_err-to-clause-gives
    : goal.modifier::subst_at-returns-in_err-to-clause-gives
modifier::subst_at-returns-in_err-to-clause-gives t c =
    let is = err_from_is_err_and c.from_residual-in_err-to.result c.from_residual-in_err-to.ensures.1 in
    let goes = sym c.ends_modifier.ensures ∙ c.if-ends_modifier.false in
    let some : 0 < length c.args.text.now = grind (arith, nat_tests) in
    let more = subst_at-more (ref_at c.args.level.total c.args.level.depth) c.args.start c.args.round
    c.args.text.now some goes in
    rw (is.1, is.2, more, ← c.skip.ensures, c.in_ok-from.ensures.gives)
    (AgreesErr-bind no_memory c.in_err-to.field-0.0 _ _ c.in_err-to.ensures.gives)

pub modifier::subst_at-returns-in_err-flags-clause-gives
    : goal.modifier::subst_at-returns-in_err-flags-clause-gives
modifier::subst_at-returns-in_err-flags-clause-gives t c =
    let is = err_from_is_err_and c.from_residual-in_err-flags.result c.from_residual-in_err-flags.ensures.1 in
    let goes = sym c.ends_modifier.ensures ∙ c.if-ends_modifier.false in
    let some : 0 < length c.args.text.now = grind (arith, nat_tests) in
    let more = subst_at-more (ref_at c.args.level.total c.args.level.depth) c.args.start c.args.round
    c.args.text.now some goes in
    rw (is.1, is.2, more, ← c.skip.ensures, c.in_ok-from.ensures.gives, c.in_ok-to.ensures.gives)
    (AgreesErr-bind no_memory c.in_err-flags.field-0.0 _ _ c.in_err-flags.ensures.gives)

pub modifier::subst_at-returns-clause-gives : goal.modifier::subst_at-returns-clause-gives
modifier::subst_at-returns-clause-gives t c =
    let goes = sym c.ends_modifier.ensures ∙ c.if-ends_modifier.false in
    let some : 0 < length c.args.text.now = grind (arith, nat_tests) in
    let more = subst_at-more (ref_at c.args.level.total c.args.level.depth) c.args.start c.args.round
    c.args.text.now some goes in
    rw (
      more,
      ← c.skip.ensures,
      c.in_ok-from.ensures.gives,
      c.in_ok-to.ensures.gives,
      c.in_ok-flags.ensures.gives,
      view-Subst (slice_index c.args.text.now 0) c.in_ok-from.from c.in_ok-to.to c.in_ok-flags.flags,
    ) refl

pub modifier::suffix_at-returns-in_err-new-clause-gives
    : goal.modifier::suffix_at-returns-in_err-new-clause-gives
modifier::suffix_at-returns-in_err-new-clause-gives t c =
    let is = err_from_is_err_and c.from_residual-in_err-new.result
    c.from_residual-in_err-new.ensures.1 in
    let rest = c.in_ok-old.rest.now in
    let some : 0 < length rest = grind (arith, nat_tests) in
    let more = new_at-more (ref_at c.args.level.total c.args.level.depth)
    (c.args.level.total - length c.args.text.now) c.args.opened c.args.round
    (tree_view c.in_ok-old.old) rest some c.if-rest-ne61.false in
    rw (is.1, is.2, c.in_ok-old.ensures.gives, more)
    (AgreesErr-bind no_memory c.in_err-new.field-0.0 _ _ (rw c.skip.ensures at c.in_err-new.ensures.gives))

pub modifier::suffix_at-returns-clause-gives : goal.modifier::suffix_at-returns-clause-gives
modifier::suffix_at-returns-clause-gives t c =
    let rest = c.in_ok-old.rest.now in
    let some : 0 < length rest = grind (arith, nat_tests) in
    let more = new_at-more (ref_at c.args.level.total c.args.level.depth)
    (c.args.level.total - length c.args.text.now) c.args.opened c.args.round
    (tree_view c.in_ok-old.old) rest some c.if-rest-ne61.false in
    rw (
      c.in_ok-old.ensures.gives,
      more,
      ← c.skip.ensures,
      c.in_ok-new.ensures.gives,
      view-Suffix c.in_ok-old.old c.in_ok-new.new,
    ) refl

pub modifier::each_at-returns-in_err-body-clause-gives
    : goal.modifier::each_at-returns-in_err-body-clause-gives
modifier::each_at-returns-in_err-body-clause-gives t c =
    let is = err_from_is_err_and c.from_residual-in_err-body.result
    c.from_residual-in_err-body.ensures.1 in
    rw (is.1, is.2, ← c.in-Some.ensures.same)
    (AgreesErr-bind no_memory c.in_err-body.field-0.0 _ _ (rw c.skip.ensures at c.in_err-body.ensures.gives))
