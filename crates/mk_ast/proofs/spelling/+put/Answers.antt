use Rattle.std.proofs.Common.{◌≡◌, [], ◌∷◌, ◌++◌, append_assoc}
use Rattle.mk_bytes.specs.Bytes.{colon}
use Rattle.mk_ast.specs.Spell.{spell_mod}
use Rattle.mk_ast.specs.View.{mod_view}
use Rattle.mk_ast.proofs.SpelledLists.{parts_text-turn, parts_text-done, mods_text-turn}
use Rattle.mk_ast.proofs.SpelledLists.{mods_text-done}
use Rattle.mk_ast.proofs.Spells.{spell-Named, spell-Ref, spell-Subst, spell-Choose, spell-Suffix}
use Rattle.mk_ast.proofs.spelling.+put.Goals as goal

pub put_mod-returns-in_ok-push-in-Subst-2 : goal.put_mod-returns-in_ok-push-in-Subst-2
put_mod-returns-in_ok-push-in-Subst-2 t c =
    rw (
      c.in-Subst.is,
      spell-Subst c.in-Subst.delim c.in-Subst.from c.in-Subst.to c.in-Subst.flags,
      c.in_ok-push-in-Subst-2.ensures.ok,
      c.bytes.ensures.value,
      c.in_ok-put_closed-in-Subst-2.ensures,
      c.in_ok-put_closed-in-Subst.ensures,
      c.in_ok-push-in-Subst.ensures.ok,
    ) (simp append_assoc)

pub put_select-returns : goal.put_select-returns
put_select-returns t c =
    rw (c.in_ok-put_closed.ensures, c.in_ok-push.ensures.ok) (simp append_assoc)

pub put_mod-returns-in_ok-put_after-in-Choose-2 : goal.put_mod-returns-in_ok-put_after-in-Choose-2
put_mod-returns-in_ok-put_after-in-Choose-2 t c =
    rw (
      c.in-Choose.is,
      spell-Choose c.in-Choose.first c.in-Choose.second,
      c.in_ok-put_after-in-Choose-2.ensures,
      c.in_ok-put_after-in-Choose.ensures,
    ) (simp append_assoc)

pub put_each-returns : goal.put_each-returns
put_each-returns t c =
    rw (
      c.in_ok-put_closed.ensures,
      c.in_ok-push.ensures.ok,
      c.in_ok-put_both.ensures,
    ) (simp append_assoc)

pub put_mod-returns-in_ok-put_tree-in-Suffix : goal.put_mod-returns-in_ok-put_tree-in-Suffix
put_mod-returns-in_ok-put_tree-in-Suffix t c =
    rw (
      c.in-Suffix.is,
      spell-Suffix c.in-Suffix.old c.in-Suffix.new,
      c.in_ok-put_tree-in-Suffix.ensures,
      c.in_ok-put_closed-in-Suffix.ensures,
    ) (simp append_assoc)

pub put_mods-loop-one-preserved : goal.put_mods-loop-one-preserved
put_mods-loop-one-preserved t c =
    let out = c.loop-one.out in
    let text = spell_mod (mod_view c.one-item.result) in
    let written : c.put_mod.new.out ≡ out ++ colon ∷ text =
    rw (c.in_ok-put_mod.ensures, c.in_ok-push.ensures.ok) (append_assoc out (colon ∷ []) text) in
    rw written
    (mods_text-turn _ out c.as_slice-one-items.result.now c.loop-one.one-index c.one-item.result
    c.loop-one-test.true c.one-item.is c.loop-one.invariant)

pub put_mods-returns : goal.put_mods-returns
put_mods-returns t c =
    rw (← c.as_slice-one-items.ensures.value)
    (mods_text-done _ c.loop-one.out c.as_slice-one-items.result.now c.loop-one.one-index
    c.loop-one-test.false c.loop-one.invariant)

pub put_part-returns-in_ok-push-in-Ref-2 : goal.put_part-returns-in_ok-push-in-Ref-2
put_part-returns-in_ok-push-in-Ref-2 t c =
    rw (
      c.in-Ref.is,
      spell-Ref c.in-Ref.round c.in-Ref.name c.in-Ref.mods,
      c.in_ok-push-in-Ref-2.ensures.ok,
      c.in_ok-put_mods-in-Ref.ensures,
      c.in_ok-put_tree-in-Ref.ensures,
      c.in_ok-push-in-Ref.ensures.ok,
      c.opener-in-Ref.ensures,
      c.closer-in-Ref.ensures,
    ) (simp append_assoc)

pub put_part-returns-in_ok-push-in-Named-3 : goal.put_part-returns-in_ok-push-in-Named-3
put_part-returns-in_ok-push-in-Named-3 t c =
    rw (
      c.in-Named.is,
      spell-Named c.in-Named.round c.in-Named.name c.in-Named.mods,
      c.in_ok-push-in-Named-3.ensures.ok,
      c.in_ok-put_mods-in-Named.ensures,
      c.in_ok-push-in-Named-2.ensures.ok,
      c.bytes-in-Named.ensures.value,
      c.in_ok-push-in-Named.ensures.ok,
      c.opener.ensures,
      c.closer.ensures,
    ) (simp append_assoc)

pub put_tree-loop-part-preserved : goal.put_tree-loop-part-preserved
put_tree-loop-part-preserved t c =
    rw c.in_ok-put_part.ensures
    (parts_text-turn _ c.loop-part.out c.as_slice-part-items.result.now c.loop-part.part-index
    c.part-item.result c.loop-part-test.true c.part-item.is c.loop-part.invariant)

pub put_tree-returns : goal.put_tree-returns
put_tree-returns t c =
    rw (← c.as_slice-part-items.ensures.value)
    (parts_text-done _ c.loop-part.out c.as_slice-part-items.result.now c.loop-part.part-index
    c.loop-part-test.false c.loop-part.invariant)
