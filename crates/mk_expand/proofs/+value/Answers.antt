use Rattle.std.proofs.Common.{◌≡◌, ℕ, List, ◌+◌, ◌-◌, ◌<◌, ◌≤◌, length, take, false, [], ◌∷◌, ◌++◌, Ok, refl, sym, ap, ◌∙◌, inl, inr, rules, arith}
use Rattle.std.proofs.lemmas.Grind.{common_steps}
use Rattle.std.proofs.lemmas.Result.{err_from_is_err_and}
use Rattle.mk_ast.proofs.Views as trees
use Rattle.mk_ast.proofs.Views.{view-Plain, view-Escaped, view-Double, view-Lone, view-Short}
use Rattle.mk_ast.proofs.Views.{view-Named, view-Ref}
use Rattle.mk_ast.proofs.Views.{view-Keep, view-Without, view-Subst, view-Select, view-Suffix}
use Rattle.mk_ast.proofs.Views.{view-IfUndefined, view-IfDefined, view-NameOf, view-Choose, view-Each}
use Rattle.mk_ast.specs.Tree.{range_to}
use Rattle.mk_ast.specs.View.{mod_view, mods_view, part_view, tree_view}
use Rattle.mk_ast.specs.declared.tree.ModTree.{the_lemmas as mod_lemmas}
use Rattle.mk_bytes.specs.declared.pair.Pair.{Pair}
use Rattle.mk_bytes.proofs.RefusalLemmas.{holds, refused, refused_if}
use Rattle.mk_cond.proofs.WalkLemmas.{behind_all-push, weight-push}
use Rattle.mk_cond.specs.View.{cond_view, side_view}
use Rattle.mk_cond.specs.Walk.{behind_all, step_size, way, weight}
use Rattle.std.proofs.lemmas.Bool.{not-true}
use Rattle.std.proofs.lemmas.List.{length-take-le}
use Rattle.mk_pieces.proofs.PieceLemmas.{Begins-refl, Begins-trans, length-begins}
use Rattle.mk_pieces.specs.Pieces.{Begins}
use Rattle.mk_values.specs.Calls.{at, here}
use Rattle.mk_values.specs.Value.{found_at}
use Rattle.mk_values.specs.View.{chain_view}
use Rattle.mk_values.specs.declared.chain.Found.{Found}
use Rattle.mk_values.proofs.ChainLemmas.{all_modified-mod, all_modified-end, each_behind-word}
use Rattle.mk_values.proofs.ChainLemmas.{each_behind-end, modified-words, modified-given}
use Rattle.mk_values.proofs.ChainLemmas.{chained-default}
use Rattle.mk_values.proofs.FactLemmas.{earlier, never_fails, ok_never, Asks-none, Asks-err, Asks-ok, Asks-then}
use Rattle.mk_values.proofs.FactLemmas.{Keeps-then, Extends-then, fault_of_all, gives_at, outside}
use Rattle.mk_values.proofs.FaultLemmas.{never-appended, never-raw_above, err_never, fault_never}
use Rattle.mk_values.proofs.FaultLemmas.{never-of_cond, never-of_mod, never-opened}
use Rattle.mk_values.proofs.RefusalLemmas.{never-of_tree, refused_as}
use Rattle.mk_values.proofs.RefusalLemmas.{Asks-refused, Asks-never, Keeps-behind, Keeps-noted}
use Rattle.mk_values.proofs.RefusalLemmas.{Keeps-same}
use Rattle.mk_values.specs.Evaluators.{Counted, gives, noting, progress_with}
use Rattle.mk_values.proofs.LentLemmas.{gives-lent, gives-not}
use Rattle.mk_values.proofs.NameLemmas.{raw_of-above, raw_of-fault}
use Rattle.mk_values.specs.Limits.{max_text}
use Rattle.mk_values.proofs.PlainLemmas.{opened_value-plain, reference-long}
use Rattle.mk_values.proofs.PlainLemmas.{side_value-plain, text_value-plain, tree_value-plain}
use Rattle.mk_values.proofs.PlainLemmas.{variable-plain, variable-fault}
use Rattle.mk_values.proofs.ValueLemmas.{joined-part, joined-end, joined-new, joined-new-end}
use Rattle.mk_values.proofs.ValueLemmas.{found-not, found-may, old_text_start}
use Rattle.mk_values.proofs.WalkLemmas.{done, walked, walked-done, walked-fault, walked-on, walked-whole}
use Rattle.mk_expand.proofs.+value.Goals as goal

pub evaluation::joined-loop-part-init : goal.evaluation::joined-loop-part-init
evaluation::joined-loop-part-init g t c =
    record {
      value = λ answers by. refl;
      run = record { open_names = refl; bound = refl; region = refl };
      facts = Asks-none (g.met.F.Facts.stays _) _ _ _ (Ok tt) (ok_never tt);
    }

pub evaluation::joined-returns-in_err-append_part-clause-value : goal.evaluation::joined-returns-in_err-append_part-clause-value
evaluation::joined-returns-in_err-append_part-clause-value g t c =
    let p = err_from_is_err_and c.from_residual.result c.from_residual.ensures.1 in
    let l = c.loop-part in
    rw (p.1, p.2) (λ answers by.
    let before = earlier _ _ answers c.in_err-append_part.ensures.facts.asked by in
    let step = joined-part (found_at c.args.room) (here c.args.names.now.scopes.now c.args.names.now.locals.now
    (g.F.Facts.lists l.facts) l.run c.args.keep answers)
    (at l.run (g.F.Facts.asked l.facts)) l.text c.args.parts.now l.part-index c.part-item.result
    c.loop-part-test.true c.part-item.is in
    rw (← l.invariant.value answers before, step)
    (fault_of_all c.in_err-append_part.field-0.0 _ _ (c.in_err-append_part.ensures.value answers by)))

pub evaluation::joined-returns-in_err-append_part-clause-facts : goal.evaluation::joined-returns-in_err-append_part-clause-facts
evaluation::joined-returns-in_err-append_part-clause-facts g t c =
    let p = err_from_is_err_and c.from_residual.result c.from_residual.ensures.1 in
    rw (p.1, p.2)
    (Asks-then (g.met.F.Facts.goes_on _ _ _) c.loop-part.invariant.facts (Asks-err c.in_err-append_part.ensures.facts))

pub evaluation::joined-loop-part-preserved : goal.evaluation::joined-loop-part-preserved
evaluation::joined-loop-part-preserved g t c =
    let l = c.loop-part in
    record {
      value = λ answers by.
          let before = earlier _ _ answers c.in_ok-append_part.ensures.facts.asked by in
          let step = joined-part (found_at c.args.room) (here c.args.names.now.scopes.now c.args.names.now.locals.now
          (g.F.Facts.lists l.facts) l.run c.args.keep answers)
          (at l.run (g.F.Facts.asked l.facts)) l.text c.args.parts.now l.part-index c.part-item.result
          c.loop-part-test.true c.part-item.is in
          rw (
            ← l.invariant.value answers before,
            step,
            c.in_ok-append_part.ensures.value answers by,
            c.in_ok-append_part.ensures.run.open_names,
            c.in_ok-append_part.ensures.run.bound,
            c.in_ok-append_part.ensures.facts.lists,
          ) refl;
      run = Keeps-then _ _ _ l.invariant.run c.in_ok-append_part.ensures.run;
      facts = Asks-then (g.met.F.Facts.goes_on _ _ _) l.invariant.facts (Asks-ok tt c.in_ok-append_part.ensures.facts);
    }

pub evaluation::joined-returns-clause-value : goal.evaluation::joined-returns-clause-value
evaluation::joined-returns-clause-value g t c =
    let l = c.loop-part in
    λ answers by.
    let done = joined-end (found_at c.args.room) (here c.args.names.now.scopes.now c.args.names.now.locals.now
    (g.F.Facts.lists l.facts) l.run c.args.keep answers)
    (at l.run (g.F.Facts.asked l.facts)) l.text c.args.parts.now l.part-index c.loop-part-test.false in
    (sym (l.invariant.value answers by) ∙ ap (λ one. one.answer) done)

pub evaluation::joined-returns-clause-facts : goal.evaluation::joined-returns-clause-facts
evaluation::joined-returns-clause-facts g t c =
    Asks-ok _ c.loop-part.invariant.facts

pub words::new_text-loop-part-init : goal.words::new_text-loop-part-init
words::new_text-loop-part-init g t c =
    record {
      value = λ answers by. rw c.new-text.ensures refl;
      run = record { open_names = refl; bound = refl; region = refl };
      facts = Asks-none (g.met.F.Facts.stays _) _ _ _ (Ok tt) (ok_never tt);
    }

pub words::new_text-returns-in_err-append_new-clause-value : goal.words::new_text-returns-in_err-append_new-clause-value
words::new_text-returns-in_err-append_new-clause-value g t c =
    let p = err_from_is_err_and c.from_residual.result c.from_residual.ensures.1 in
    let l = c.loop-part in
    rw (p.1, p.2) (λ answers by.
    let before = earlier _ _ answers c.in_err-append_new.ensures.facts.asked by in
    let step = joined-new (found_at c.args.room) (here c.args.names.now.scopes.now c.args.names.now.locals.now
    (g.F.Facts.lists l.facts) l.run false answers)
    (at l.run (g.F.Facts.asked l.facts)) l.text c.args.old.now c.as_slice-part-items.result.now l.part-index c.part-item.result
    c.loop-part-test.true c.part-item.is in
    rw (← c.as_slice-part-items.ensures.value, ← l.invariant.value answers before, step)
    (fault_of_all c.in_err-append_new.field-0.0 _ _ (c.in_err-append_new.ensures.value answers by)))

pub words::new_text-returns-in_err-append_new-clause-facts : goal.words::new_text-returns-in_err-append_new-clause-facts
words::new_text-returns-in_err-append_new-clause-facts g t c =
    let p = err_from_is_err_and c.from_residual.result c.from_residual.ensures.1 in
    rw (p.1, p.2)
    (Asks-then (g.met.F.Facts.goes_on _ _ _) c.loop-part.invariant.facts (Asks-err c.in_err-append_new.ensures.facts))

pub words::new_text-loop-part-preserved : goal.words::new_text-loop-part-preserved
words::new_text-loop-part-preserved g t c =
    let l = c.loop-part in
    record {
      value = λ answers by.
          let before = earlier _ _ answers c.in_ok-append_new.ensures.facts.asked by in
          let step = joined-new (found_at c.args.room) (here c.args.names.now.scopes.now c.args.names.now.locals.now
          (g.F.Facts.lists l.facts) l.run false answers)
          (at l.run (g.F.Facts.asked l.facts)) l.text c.args.old.now c.as_slice-part-items.result.now l.part-index c.part-item.result
          c.loop-part-test.true c.part-item.is in
          rw (
            ← l.invariant.value answers before,
            step,
            c.in_ok-append_new.ensures.value answers by,
            c.in_ok-append_new.ensures.run.open_names,
            c.in_ok-append_new.ensures.run.bound,
            c.in_ok-append_new.ensures.facts.lists,
          ) refl;
      run = Keeps-then _ _ _ l.invariant.run c.in_ok-append_new.ensures.run;
      facts = Asks-then (g.met.F.Facts.goes_on _ _ _) l.invariant.facts (Asks-ok tt c.in_ok-append_new.ensures.facts);
    }

pub words::new_text-returns-clause-value : goal.words::new_text-returns-clause-value
words::new_text-returns-clause-value g t c =
    let l = c.loop-part in
    λ answers by.
    let done = joined-new-end (found_at c.args.room) (here c.args.names.now.scopes.now c.args.names.now.locals.now
    (g.F.Facts.lists l.facts) l.run false answers)
    (at l.run (g.F.Facts.asked l.facts)) l.text c.args.old.now c.as_slice-part-items.result.now l.part-index c.loop-part-test.false in
    rw (← c.as_slice-part-items.ensures.value) (sym (l.invariant.value answers by) ∙ ap (λ one. one.answer) done)

pub words::new_text-returns-clause-facts : goal.words::new_text-returns-clause-facts
words::new_text-returns-clause-facts g t c =
    Asks-ok _ c.loop-part.invariant.facts

take_begun : (len : ℕ) (old new : List ℕ) → len ≤ length old → Begins old new
    → take len new ≡ take len old
take_begun len old new within begins =
    let longer = length-begins old new begins in
    let cut : take len (take (length old) new) ≡ take len new = grind (arith, common_steps) in
    sym cut ∙ ap (take len) begins

take_anew : (len : ℕ) (old new : List ℕ) → len ≤ length old → Begins (take len old) new
    → take len new ≡ take len old
take_anew len old new within begins = rw (length-take-le len old within) at begins

take_within : (len : ℕ) (old new : List ℕ) → take len new ≡ take len old → len ≤ length old
    → len ≤ length new
take_within len old new same within =
    let long : length (take len new) ≡ length (take len old) = ap length same in
    grind (arith, common_steps, long)

pub modifiers::all_modified-loop-one-init : goal.modifiers::all_modified-loop-one-init
modifiers::all_modified-loop-one-init g t c =
    record {
      value = λ answers by. refl;
      open_names = refl;
      bound = refl;
      begins = refl;
      room = c.requires.within;
      facts = Asks-none (g.met.F.Facts.stays _) _ _ _ (Ok tt) (ok_never tt);
      within = c.requires.items;
    }

pub modifiers::all_modified-returns-in_err-more-clause-value : goal.modifiers::all_modified-returns-in_err-more-clause-value
modifiers::all_modified-returns-in_err-more-clause-value g t c =
    let p = err_from_is_err_and c.from_residual.result c.from_residual.ensures.1 in
    let l = c.loop-one in
    rw (p.1, p.2) (λ answers by.
    let before = earlier _ _ answers c.in_err-more.ensures.facts.asked by in
    let step = all_modified-mod (found_at c.args.room) (here c.args.names.now.scopes.now c.args.names.now.locals.now
    (g.F.Facts.lists l.facts) l.run false answers)
    (at l.run (g.F.Facts.asked l.facts)) c.args.name.now (chain_view l.run.region.bytes l.chain) c.as_slice-one-items.result.now l.one-index c.one-item.result
    c.loop-one-test.true c.one-item.is in
    rw (← c.as_slice-one-items.ensures.value, ← l.invariant.value answers before, step)
    (fault_of_all c.in_err-more.field-0.0 _ _ (c.in_err-more.ensures.value answers by)))

pub modifiers::all_modified-returns-in_err-more-clause-facts : goal.modifiers::all_modified-returns-in_err-more-clause-facts
modifiers::all_modified-returns-in_err-more-clause-facts g t c =
    let p = err_from_is_err_and c.from_residual.result c.from_residual.ensures.1 in
    rw (p.1, p.2)
    (Asks-then (g.met.F.Facts.goes_on _ _ _) c.loop-one.invariant.facts (Asks-err c.in_err-more.ensures.facts))

pub modifiers::all_modified-loop-one-preserved : goal.modifiers::all_modified-loop-one-preserved
modifiers::all_modified-loop-one-preserved g t c =
    let l = c.loop-one in
    let more = c.in_ok-more.ensures in
    let whole = take_begun c.args.len l.run.region.bytes c.modified.new.run.region.bytes l.invariant.room more.run.begins in
    let placed = take_anew c.args.len c.modified.new.run.region.bytes c.compacted.new.region.bytes
    (take_within c.args.len _ _ whole l.invariant.room) c.in_ok-chain.ensures.begins in
    let begins = placed ∙ whole ∙ l.invariant.begins in
    record {
      value = λ answers by.
          let before = earlier _ _ answers more.facts.asked by in
          let step = all_modified-mod (found_at c.args.room) (here c.args.names.now.scopes.now c.args.names.now.locals.now
          (g.F.Facts.lists l.facts) l.run false answers)
          (at l.run (g.F.Facts.asked l.facts)) c.args.name.now (chain_view l.run.region.bytes l.chain) c.as_slice-one-items.result.now l.one-index c.one-item.result
          c.loop-one-test.true c.one-item.is in
          rw (
            ← l.invariant.value answers before,
            step,
            more.value answers by,
            c.in_ok-chain.ensures.value,
            more.run.open_names,
            more.run.bound,
            more.facts.lists,
          ) refl;
      open_names = more.run.open_names ∙ l.invariant.open_names;
      bound = more.run.bound ∙ l.invariant.bound;
      begins = begins;
      room = take_within c.args.len _ _ begins c.requires.within;
      facts = Asks-then (g.met.F.Facts.goes_on _ _ _) l.invariant.facts (Asks-ok tt more.facts);
      within = c.in_ok-chain.ensures.within;
    }

pub modifiers::all_modified-returns-clause-value : goal.modifiers::all_modified-returns-clause-value
modifiers::all_modified-returns-clause-value g t c =
    let l = c.loop-one in
    λ answers by.
    let done = all_modified-end (found_at c.args.room) (here c.args.names.now.scopes.now c.args.names.now.locals.now
    (g.F.Facts.lists l.facts) l.run false answers)
    (at l.run (g.F.Facts.asked l.facts)) c.args.name.now (chain_view l.run.region.bytes l.chain) c.as_slice-one-items.result.now l.one-index c.loop-one-test.false in
    rw (← c.as_slice-one-items.ensures.value) (sym (l.invariant.value answers by) ∙ ap (λ one. one.answer) done)

pub modifiers::all_modified-returns-clause-facts : goal.modifiers::all_modified-returns-clause-facts
modifiers::all_modified-returns-clause-facts g t c =
    Asks-ok _ c.loop-one.invariant.facts

pub modifiers::each_behind-loop-word-init : goal.modifiers::each_behind-loop-word-init
modifiers::each_behind-loop-word-init g t c =
    record {
      value = λ answers by. refl;
      name = ap (λ (one : Pair). one.name) c.in_ok-binding.ensures;
      run = record { open_names = refl; bound = refl; region = refl };
      facts = Asks-none (g.met.F.Facts.stays _) _ _ _ (Ok tt) (ok_never tt);
    }

pub modifiers::each_behind-returns-in_err-result-clause-value : goal.modifiers::each_behind-returns-in_err-result-clause-value
modifiers::each_behind-returns-in_err-result-clause-value g t c =
    let p = err_from_is_err_and c.from_residual-in_err-result.result c.from_residual-in_err-result.ensures.1 in
    let l = c.loop-word in
    rw (p.1, p.2) (λ answers by.
    let before = earlier _ _ answers c.in_err-result.ensures.facts.asked by in
    let step = each_behind-word (found_at c.args.room) (here c.args.names.now.scopes.now c.args.names.now.locals.now
    (g.F.Facts.lists l.facts) l.run false answers)
    (at l.run (g.F.Facts.asked l.facts)) c.args.variable.now
    (tree_view c.args.body.now) l.results c.args.run.now.region.bytes c.args.words.now l.word-index
    (record { start = 0; end = 0 }) c.loop-word-test.true in
    let word = rw (
      c.in_ok-stand_for.ensures,
      l.invariant.name,
      c.shown.ensures.value,
      l.invariant.run.region,
    ) at (c.in_err-result.ensures.value answers by) in
    rw (← l.invariant.value answers before, step) (fault_of_all c.in_err-result.field-0.0 _ _ word))

pub modifiers::each_behind-returns-in_err-result-clause-facts : goal.modifiers::each_behind-returns-in_err-result-clause-facts
modifiers::each_behind-returns-in_err-result-clause-facts g t c =
    let p = err_from_is_err_and c.from_residual-in_err-result.result c.from_residual-in_err-result.ensures.1 in
    rw (p.1, p.2)
    (Asks-then (g.met.F.Facts.goes_on _ _ _) c.loop-word.invariant.facts (Asks-err c.in_err-result.ensures.facts))

pub modifiers::each_behind-returns-in_err-add-clause-value : goal.modifiers::each_behind-returns-in_err-add-clause-value
modifiers::each_behind-returns-in_err-add-clause-value g t c =
    let l = c.loop-word in
    λ answers by.
    let before = earlier _ _ answers c.in_ok-result.ensures.facts.asked by in
    let step = each_behind-word (found_at c.args.room) (here c.args.names.now.scopes.now c.args.names.now.locals.now
    (g.F.Facts.lists l.facts) l.run false answers)
    (at l.run (g.F.Facts.asked l.facts)) c.args.variable.now
    (tree_view c.args.body.now) l.results c.args.run.now.region.bytes c.args.words.now l.word-index
    (record { start = 0; end = 0 }) c.loop-word-test.true in
    let inv = l.invariant.value answers before in
    let word = c.in_ok-result.ensures.value answers by in
    search rules

pub modifiers::each_behind-loop-word-preserved : goal.modifiers::each_behind-loop-word-preserved
modifiers::each_behind-loop-word-preserved g t c =
    let l = c.loop-word in
    record {
      value = λ answers by.
          let before = earlier _ _ answers c.in_ok-result.ensures.facts.asked by in
          let step = each_behind-word (found_at c.args.room) (here c.args.names.now.scopes.now c.args.names.now.locals.now
          (g.F.Facts.lists l.facts) l.run false answers)
          (at l.run (g.F.Facts.asked l.facts)) c.args.variable.now
          (tree_view c.args.body.now) l.results c.args.run.now.region.bytes c.args.words.now l.word-index
          (record { start = 0; end = 0 }) c.loop-word-test.true in
          let word = rw (
            c.in_ok-stand_for.ensures,
            l.invariant.name,
            c.shown.ensures.value,
            l.invariant.run.region,
          ) at (c.in_ok-result.ensures.value answers by) in
          rw (
            ← l.invariant.value answers before,
            step,
            word,
            c.in_ok-add.ensures,
            c.in_ok-result.ensures.run.open_names,
            c.in_ok-result.ensures.run.bound,
            c.in_ok-result.ensures.facts.lists,
          ) refl;
      name = ap (λ (one : Pair). one.name) (c.in_ok-result.ensures.binding ∙ c.in_ok-stand_for.ensures)
          ∙ l.invariant.name;
      run = Keeps-then _ _ _ l.invariant.run c.in_ok-result.ensures.run;
      facts = Asks-then (g.met.F.Facts.goes_on _ _ _) l.invariant.facts (Asks-ok tt c.in_ok-result.ensures.facts);
    }

pub modifiers::each_behind-returns-clause-value : goal.modifiers::each_behind-returns-clause-value
modifiers::each_behind-returns-clause-value g t c =
    let l = c.loop-word in
    λ answers by.
    let done = each_behind-end (found_at c.args.room) (here c.args.names.now.scopes.now c.args.names.now.locals.now
    (g.F.Facts.lists l.facts) l.run false answers)
    (at l.run (g.F.Facts.asked l.facts)) c.args.variable.now (tree_view c.args.body.now) l.results c.args.run.now.region.bytes c.args.words.now l.word-index
    c.loop-word-test.false in
    sym (l.invariant.value answers by) ∙ ap (λ one. one.answer) done

pub modifiers::each_behind-returns-clause-facts : goal.modifiers::each_behind-returns-clause-facts
modifiers::each_behind-returns-clause-facts g t c =
    Asks-ok _ c.loop-word.invariant.facts

pub evaluation::text_value-returns-then-not-has_dollar-clause-value : goal.evaluation::text_value-returns-then-not-has_dollar-clause-value
evaluation::text_value-returns-then-not-has_dollar-clause-value g t c =
    let none = sym c.has_dollar.ensures ∙ c.if-not-has_dollar.true in
    λ answers by.
    let here = here c.args.names.now.scopes.now c.args.names.now.locals.now
    (g.F.Facts.lists c.args.facts.now) c.args.run.now c.args.keep answers in
    let p = at c.args.run.now (g.F.Facts.asked c.args.facts.now) in
    rw (ap (λ one. one.answer) (text_value-plain (found_at c.args.room) here p c.args.text.now none))
    (gives_at (λ value. value) p c.plain_value.result _ c.plain_value.ensures)

pub evaluation::text_value-returns-then-not-has_dollar-clause-facts : goal.evaluation::text_value-returns-then-not-has_dollar-clause-facts
evaluation::text_value-returns-then-not-has_dollar-clause-facts g t c =
    Asks-none (g.met.F.Facts.stays _) _ _ _ c.plain_value.result
    (never_fails _ _ _ c.plain_value.ensures (never-appended [] c.args.text.now))

pub evaluation::found-returns-in_err-open_reference-clause-value : goal.evaluation::found-returns-in_err-open_reference-clause-value
evaluation::found-returns-in_err-open_reference-clause-value g t c =
    let p = err_from_is_err_and c.from_residual.result c.from_residual.ensures.1 in
    rw (p.1, p.2, c.in_err-open_reference.ensures.refused) (λ answers by.
    inr (ap (λ one. one.answer) (found-not c.args.room _ _ _ _
    c.in_err-open_reference.ensures.err)))

pub evaluation::found-returns-clause-value : goal.evaluation::found-returns-clause-value
evaluation::found-returns-clause-value g t c =
    λ answers by.
    let p = at c.args.run.now (g.F.Facts.asked c.args.facts.now) in
    rw (found-may c.args.room c.open_reference.new.references p _ _
    c.in_ok-open_reference.ensures.ok) (c.found_inside.ensures.value answers by)

pub evaluation::append_reference-returns-in_err-open_reference-clause-value : goal.evaluation::append_reference-returns-in_err-open_reference-clause-value
evaluation::append_reference-returns-in_err-open_reference-clause-value g t c =
    let p = err_from_is_err_and c.from_residual.result c.from_residual.ensures.1 in
    rw (p.1, p.2, c.in_err-open_reference.ensures.refused) (λ answers by.
    let here = here c.args.names.now.scopes.now c.args.names.now.locals.now
    (g.F.Facts.lists c.args.facts.now) c.args.run.now c.args.keep answers in
    let p = at c.args.run.now (g.F.Facts.asked c.args.facts.now) in
    let none = found-not c.args.room p here
    (part_view c.args.part.now) _ c.in_err-open_reference.ensures.err in
    inr (gives-not (found_at c.args.room) here p c.args.text.now (part_view c.args.part.now) _ none))

pub evaluation::append_reference-returns-in-Some-clause-value : goal.evaluation::append_reference-returns-in-Some-clause-value
evaluation::append_reference-returns-in-Some-clause-value g t c =
    λ answers by.
    let here = here c.args.names.now.scopes.now c.args.names.now.locals.now
    (g.F.Facts.lists c.args.facts.now) c.args.run.now c.args.keep answers in
    let asked = g.F.Facts.asked c.args.facts.now in
    let p = at c.args.run.now asked in
    let q = progress_with c.args.run.now.noted c.open_reference.new.references asked in
    let one = part_view c.args.part.now in
    let may = found-may c.args.room c.open_reference.new.references p here one
    c.in_ok-open_reference.ensures.ok in
    let lent = c.in-Some.ensures (found_at (c.args.room - 1)) here q (sym c.as_slice.ensures.value)
    (sym c.as_slice-2.ensures.value) in
    rw c.in_ok-note.ensures
    (gives-lent (found_at c.args.room) here p (noting c.in-Some.name.now q) c.args.text.now one
    c.in-Some.word.now (λ done. c.append.new.text) c.append.result
    (ap (λ (found : Counted Found). found.answer) may ∙ lent) c.append.ensures)

pub words::suffix-returns-in_err-new-clause-value : goal.words::suffix-returns-in_err-new-clause-value
words::suffix-returns-in_err-new-clause-value g t c =
    λ answers by.
    let before = earlier _ _ answers c.in_err-new.ensures.facts.asked by in
    let first = c.in_ok-old.ensures.value answers before in
    let second = c.in_err-new.ensures.value answers by in
    search rules

pub words::suffix-returns-clause-value : goal.words::suffix-returns-clause-value
words::suffix-returns-clause-value g t c =
    λ answers by.
    let before = earlier _ _ answers c.in_ok-new.ensures.facts.asked by in
    let first = c.in_ok-old.ensures.value answers before in
    let second = c.in_ok-new.ensures.value answers by in
    search rules

pub words::substitution-returns-in_err-new-clause-value : goal.words::substitution-returns-in_err-new-clause-value
words::substitution-returns-in_err-new-clause-value g t c =
    λ answers by.
    let before = earlier _ _ answers c.in_err-new.ensures.facts.asked by in
    let first = c.in_ok-old.ensures.value answers before in
    let second = c.in_err-new.ensures.value answers by in
    search rules

pub words::substitution-returns-clause-value : goal.words::substitution-returns-clause-value
words::substitution-returns-clause-value g t c =
    λ answers by.
    let before = earlier _ _ answers c.in_ok-new.ensures.facts.asked by in
    let first = c.in_ok-old.ensures.value answers before in
    let second = c.in_ok-new.ensures.value answers by in
    search rules

pub conditions::both_truth-returns-in_err-second-clause-value : goal.conditions::both_truth-returns-in_err-second-clause-value
conditions::both_truth-returns-in_err-second-clause-value g t c =
    λ answers by.
    let before = earlier _ _ answers c.in_err-second.ensures.facts.asked by in
    let first = c.in_ok-first.ensures.value answers before in
    let second = c.in_err-second.ensures.value answers by in
    search rules

pub conditions::both_truth-returns-clause-value : goal.conditions::both_truth-returns-clause-value
conditions::both_truth-returns-clause-value g t c =
    λ answers by.
    let before = earlier _ _ answers c.in_ok-second.ensures.facts.asked by in
    let first = c.in_ok-first.ensures.value answers before in
    let second = c.in_ok-second.ensures.value answers by in
    search rules

pub modifiers::chosen-returns-then-branch-clause-value : goal.modifiers::chosen-returns-then-branch-clause-value
modifiers::chosen-returns-then-branch-clause-value g t c =
    λ answers by.
    let before = earlier _ _ answers c.tree_value.ensures.facts.asked by in
    let first = c.in_ok-truth_of.ensures.value answers before in
    let second = c.tree_value.ensures.value answers by in
    search rules

pub modifiers::chosen-returns-clause-value : goal.modifiers::chosen-returns-clause-value
modifiers::chosen-returns-clause-value g t c =
    λ answers by.
    let before = earlier _ _ answers c.tree_value-2.ensures.facts.asked by in
    let first = c.in_ok-truth_of.ensures.value answers before in
    let second = c.tree_value-2.ensures.value answers by in
    search rules

pub modifiers::chosen-returns-then-branch-clause-facts : goal.modifiers::chosen-returns-then-branch-clause-facts
modifiers::chosen-returns-then-branch-clause-facts g t c =
    Asks-then (g.met.F.Facts.goes_on _ _ _) c.in_ok-truth_of.ensures.facts c.tree_value.ensures.facts

pub modifiers::chosen-returns-clause-facts : goal.modifiers::chosen-returns-clause-facts
modifiers::chosen-returns-clause-facts g t c =
    Asks-then (g.met.F.Facts.goes_on _ _ _) c.in_ok-truth_of.ensures.facts c.tree_value-2.ensures.facts

pub evaluation::variable-returns-then-not-has_dollar-clause-value : goal.evaluation::variable-returns-then-not-has_dollar-clause-value
evaluation::variable-returns-then-not-has_dollar-clause-value g t c =
    let raw = c.in-Some.raw in
    let plain = rw c.bytes.ensures.value at (sym c.has_dollar.ensures ∙ c.if-not-has_dollar.true) in
    let among = rw c.as_slice.ensures.value at (sym c.is_among.ensures ∙ c.if-is_among.false) in
    λ answers by.
    let here = here c.args.names.now.scopes.now c.args.names.now.locals.now
    (g.F.Facts.lists c.args.facts.now) c.args.run.now c.args.keep answers in
    let p = at c.args.run.now (g.F.Facts.asked c.args.facts.now) in
    let name = c.args.name.now in
    let above = rw (c.as_slice-2.ensures.value, c.in-Some.is) at c.in_ok-raw.ensures in
    let raw_is = raw_of-above c.args.names.now.scopes.now c.args.names.now.locals.now
    c.args.run.now.bound.items name raw above in
    rw (
      c.in_ok-note.ensures,
      ap (λ one. one.answer)
          (variable-plain (found_at c.args.room) here p name raw among raw_is plain),
    )
    (gives_at (λ found. found) (noting name p) c.plain_found.result _ c.plain_found.ensures)

pub evaluation::variable-returns-in_err-raw-clause-value : goal.evaluation::variable-returns-in_err-raw-clause-value
evaluation::variable-returns-in_err-raw-clause-value g t c =
    let p = err_from_is_err_and c.from_residual-in_err-raw.result c.from_residual-in_err-raw.ensures.1 in
    let among = rw c.as_slice.ensures.value at (sym c.is_among.ensures ∙ c.if-is_among.false) in
    rw (p.1, p.2, c.in_ok-note.ensures) (λ answers by.
    let here = here c.args.names.now.scopes.now c.args.names.now.locals.now
    (g.F.Facts.lists c.args.facts.now) c.args.run.now c.args.keep answers in
    variable-fault (found_at c.args.room) here (at c.args.run.now (g.F.Facts.asked c.args.facts.now))
    c.args.name.now _ among
    (raw_of-fault c.args.names.now.scopes.now c.args.names.now.locals.now c.args.run.now.bound.items
    c.args.name.now _ (rw c.as_slice-2.ensures.value at c.in_err-raw.ensures)))

pub evaluation::variable-returns-in_err-raw-clause-facts : goal.evaluation::variable-returns-in_err-raw-clause-facts
evaluation::variable-returns-in_err-raw-clause-facts g t c =
    let p = err_from_is_err_and c.from_residual-in_err-raw.result c.from_residual-in_err-raw.ensures.1 in
    rw (p.1, p.2)
    (Asks-none (g.met.F.Facts.stays _) _ _ _ _ (err_never _ (fault_never _ _ c.in_err-raw.ensures
    (never-raw_above c.args.names.now.locals.now c.as_slice-2.result.now c.args.name.now))))

pub words::modifier-returns-in_err-tree_value-in-Keep-clause-value : goal.words::modifier-returns-in_err-tree_value-in-Keep-clause-value
words::modifier-returns-in_err-tree_value-in-Keep-clause-value g t c =
    let p = err_from_is_err_and c.from_residual.result c.from_residual.ensures.1 in
    rw (p.1, p.2, c.in-Keep.is, view-Keep c.in-Keep.pattern) (λ answers by.
    fault_of_all c.in_err-tree_value-in-Keep.field-0.0 _ _ (c.in_err-tree_value-in-Keep.ensures.value answers by))

pub words::modifier-returns-in_err-tree_value-in-Without-clause-value : goal.words::modifier-returns-in_err-tree_value-in-Without-clause-value
words::modifier-returns-in_err-tree_value-in-Without-clause-value g t c =
    let p = err_from_is_err_and c.from_residual-in_err-tree_value-in-Without.result c.from_residual-in_err-tree_value-in-Without.ensures.1 in
    rw (p.1, p.2, c.in-Without.is, view-Without c.in-Without.pattern) (λ answers by.
    fault_of_all c.in_err-tree_value-in-Without.field-0.0 _ _ (c.in_err-tree_value-in-Without.ensures.value answers by))

pub words::modifier-returns-in_err-tree_value-in-Select-clause-value : goal.words::modifier-returns-in_err-tree_value-in-Select-clause-value
words::modifier-returns-in_err-tree_value-in-Select-clause-value g t c =
    let p = err_from_is_err_and c.from_residual-in_err-tree_value-in-Select.result c.from_residual-in_err-tree_value-in-Select.ensures.1 in
    rw (p.1, p.2, c.in-Select.is, view-Select c.in-Select.places) (λ answers by.
    fault_of_all c.in_err-tree_value-in-Select.field-0.0 _ _ (c.in_err-tree_value-in-Select.ensures.value answers by))

pub words::modifier-returns-in_ok-range-in-Range-Some-clause-value : goal.words::modifier-returns-in_ok-range-in-Range-Some-clause-value
words::modifier-returns-in_ok-range-in-Range-Some-clause-value g t c =
    let is : mod_view c.args.one.now ≡ range_to (tree_view c.in-Range-Some.number) =
    search (rules, mod_lemmas, trees.views) in
    rw is c.in_ok-range-in-Range-Some.ensures.value

pub modifiers::modified-returns-in-Choose-clause-value : goal.modifiers::modified-returns-in-Choose-clause-value
modifiers::modified-returns-in-Choose-clause-value g t c =
    rw (c.in-Choose.is, view-Choose c.in-Choose.yes c.in-Choose.no) c.choose.ensures.value

pub modifiers::given_modified-returns-in_default : goal.modifiers::given_modified-returns-in_default
modifiers::given_modified-returns-in_default g t c =
    record {
      value = λ answers by.
          let here = here c.args.names.now.scopes.now c.args.names.now.locals.now
          (g.F.Facts.lists c.args.facts.now) c.args.run.now false answers in
          let p = at c.args.run.now (g.F.Facts.asked c.args.facts.now) in
          rw (modified-words (found_at c.args.room) here p c.args.name.now
          (chain_view c.args.run.now.region.bytes c.args.chain) c.args.one.now c.in_default.not-IfUndefined
          c.in_default.not-IfDefined c.in_default.not-NameOf)
          (c.word_modified.ensures.value answers by);
      run = c.word_modified.ensures.run;
      facts = c.word_modified.ensures.facts;
      within = c.word_modified.ensures.within;
    }

pub modifiers::modified-returns-in_default : goal.modifiers::modified-returns-in_default
modifiers::modified-returns-in_default g t c =
    record {
      value = λ answers by.
          let here = here c.args.names.now.scopes.now c.args.names.now.locals.now
          (g.F.Facts.lists c.args.facts.now) c.args.run.now false answers in
          let p = at c.args.run.now (g.F.Facts.asked c.args.facts.now) in
          rw (modified-given (found_at c.args.room) here p c.args.name.now
          (chain_view c.args.run.now.region.bytes c.args.chain) c.args.one.now c.in_default.not-Choose
          c.in_default.not-Each)
          (c.given_modified.ensures.value answers by);
      run = c.given_modified.ensures.run;
      facts = c.given_modified.ensures.facts;
      within = c.given_modified.ensures.within;
    }

pub words::old_text-returns-in_err-append-in-Some-clause-value : goal.words::old_text-returns-in_err-append-in-Some-clause-value
words::old_text-returns-in_err-append-in-Some-clause-value g t c =
    let p = err_from_is_err_and c.from_residual.result c.from_residual.ensures.1 in
    let ends = rw c.as_slice.ensures.value at c.without_end-parts.ensures in
    rw (p.1, p.2) (λ answers by.
    let here = here c.args.names.now.scopes.now c.args.names.now.locals.now
    (g.F.Facts.lists c.args.facts.now) c.args.run.now false answers in
    let goes = old_text_start (found_at c.args.room) here
    (at c.args.run.now (g.F.Facts.asked c.args.facts.now))
    (tree_view c.args.from.now) (tree_view c.without_end-parts.result.now)
    (tree_view c.in-Some.rest.now) c.in-Some.bytes.now ends c.in-Some.ensures.1 in
    let fault = rw c.new-text.ensures at c.in_err-append-in-Some.ensures in
    rw goes (fault_of_all c.in_err-append-in-Some.field-0.0 _ _ (outside _ _ _ fault)))

pub words::old_text-returns-in_ok-append-in-Some-clause-value : goal.words::old_text-returns-in_ok-append-in-Some-clause-value
words::old_text-returns-in_ok-append-in-Some-clause-value g t c =
    let ends = rw c.as_slice.ensures.value at c.without_end-parts.ensures in
    λ answers by.
    let here = here c.args.names.now.scopes.now c.args.names.now.locals.now
    (g.F.Facts.lists c.args.facts.now) c.args.run.now false answers in
    let goes = old_text_start (found_at c.args.room) here
    (at c.args.run.now (g.F.Facts.asked c.args.facts.now))
    (tree_view c.args.from.now) (tree_view c.without_end-parts.result.now)
    (tree_view c.in-Some.rest.now) c.in-Some.bytes.now ends c.in-Some.ensures.1 in
    let start = rw c.new-text.ensures at c.in_ok-append-in-Some.ensures in
    rw (goes, start) (c.joined.ensures.value answers by)

pub modifiers::chained-returns-clause-value : goal.modifiers::chained-returns-clause-value
modifiers::chained-returns-clause-value g t c =
    let text = c.in-Some.text in
    let mods = rw c.as_slice.ensures.value at c.in-Some.ensures in
    λ answers by.
    rw (
      mods,
      ap (λ one. one.answer) (chained-default (found_at c.args.room)
          (here c.args.names.now.scopes.now c.args.names.now.locals.now
          (g.F.Facts.lists c.args.facts.now) c.args.run.now false answers)
          (at c.args.run.now (g.F.Facts.asked c.args.facts.now)) c.args.name.now c.args.found
          (tree_view text.now) (not-true c.args.found.defined c.if-not-found.true)),
    )
    (c.default_found.ensures.value answers by)

pub conditions::both_truth-returns-in_err-compare-clause-value : goal.conditions::both_truth-returns-in_err-compare-clause-value
conditions::both_truth-returns-in_err-compare-clause-value g t c =
    let text = rw c.as_slice.ensures.value at c.in-Some.ensures.text in
    λ answers by.
    let here = here c.args.names.now.scopes.now c.args.names.now.locals.now
    (g.F.Facts.lists c.args.facts.now) c.args.run.now false answers in
    let p = at c.side_value.new.run (g.F.Facts.asked c.side_value.new.facts) in
    let first = c.in_ok-first.ensures.value answers by in
    let second = side_value-plain (found_at c.args.room) here p (side_view c.args.right.now) c.in-Some.second.now
    text c.in-Some.ensures.short in
    search rules

pub conditions::both_truth-returns-in-Some-clause-value : goal.conditions::both_truth-returns-in-Some-clause-value
conditions::both_truth-returns-in-Some-clause-value g t c =
    let text = rw c.as_slice.ensures.value at c.in-Some.ensures.text in
    λ answers by.
    let here = here c.args.names.now.scopes.now c.args.names.now.locals.now
    (g.F.Facts.lists c.args.facts.now) c.args.run.now false answers in
    let p = at c.side_value.new.run (g.F.Facts.asked c.side_value.new.facts) in
    let first = c.in_ok-first.ensures.value answers by in
    let second = side_value-plain (found_at c.args.room) here p (side_view c.args.right.now) c.in-Some.second.now
    text c.in-Some.ensures.short in
    search rules

pub conditions::both_truth-returns-in_err-compare-2-clause-value : goal.conditions::both_truth-returns-in_err-compare-2-clause-value
conditions::both_truth-returns-in_err-compare-2-clause-value g t c =
    λ answers by.
    let before = earlier _ _ answers c.in_ok-second.ensures.facts.asked by in
    let first = c.in_ok-first.ensures.value answers before in
    let second = c.in_ok-second.ensures.value answers by in
    search rules

pub conditions::test_truth-returns-in-Some-clause-value : goal.conditions::test_truth-returns-in-Some-clause-value
conditions::test_truth-returns-in-Some-clause-value g t c =
    let text = rw c.as_slice.ensures.value at c.in-Some.ensures.text in
    λ answers by.
    let here = here c.args.names.now.scopes.now c.args.names.now.locals.now
    (g.F.Facts.lists c.args.facts.now) c.args.run.now false answers in
    let p = at c.args.run.now (g.F.Facts.asked c.args.facts.now) in
    rw (
      text,
      tree_value-plain (found_at c.args.room) here p c.in-Some.value.now c.in-Some.ensures.short,
    ) (c.answer_of.ensures.value answers by)

pub conditions::test_truth-returns-clause-value : goal.conditions::test_truth-returns-clause-value
conditions::test_truth-returns-clause-value g t c =
    λ answers by.
    let before = earlier _ _ answers c.answer_of-2.ensures.facts.asked by in
    let first = c.in_ok-value.ensures.value answers before in
    let second = c.answer_of-2.ensures.value answers by in
    search rules

pub evaluation::known_value-returns-then-not-has_dollar-clause-value : goal.evaluation::known_value-returns-then-not-has_dollar-clause-value
evaluation::known_value-returns-then-not-has_dollar-clause-value g t c =
    let plain = rw c.bytes.ensures.value at (sym c.has_dollar.ensures ∙ c.if-not-has_dollar.true) in
    λ answers by.
    let here = here c.args.names.now.scopes.now c.args.names.now.locals.now
    (g.F.Facts.lists c.args.facts.now) c.args.run.now c.args.keep answers in
    let p = at c.args.run.now (g.F.Facts.asked c.args.facts.now) in
    let found = rw c.in_ok-copy.ensures at c.plain_found.ensures in
    rw (ap (λ one. one.answer)
    (opened_value-plain (found_at c.args.room) here p c.args.name.now c.args.raw.now plain))
    (gives_at (λ found. found) p c.plain_found.result _ found)

pub evaluation::named-returns-in_err-found-clause-value : goal.evaluation::named-returns-in_err-found-clause-value
evaluation::named-returns-in_err-found-clause-value g t c =
    let p = err_from_is_err_and c.from_residual.result c.from_residual.ensures.1 in
    rw (p.1, p.2) (λ answers by.
    fault_of_all c.in_err-found.field-0.0 _ _ (c.in_err-found.ensures.value answers by))

pub evaluation::named-returns-clause-value : goal.evaluation::named-returns-clause-value
evaluation::named-returns-clause-value g t c =
    λ answers by.
    let before = earlier _ _ answers c.chained.ensures.facts.asked by in
    let found = c.in_ok-found.ensures.value answers before in
    let behind = rw (
      c.in_ok-found.ensures.run.open_names,
      c.in_ok-found.ensures.run.bound,
      c.in_ok-found.ensures.facts.lists,
    ) at (c.chained.ensures.value answers by) in
    rw found behind

pub evaluation::plain_reference-returns-then-name-gt-MAX_TEXT-clause-value : goal.evaluation::plain_reference-returns-then-name-gt-MAX_TEXT-clause-value
evaluation::plain_reference-returns-then-name-gt-MAX_TEXT-clause-value g t c =
    λ answers by.
    let here = here c.args.names.now.scopes.now c.args.names.now.locals.now
    (g.F.Facts.lists c.args.facts.now) c.args.run.now c.args.keep answers in
    let p = at c.args.run.now (g.F.Facts.asked c.args.facts.now) in
    inr (reference-long (found_at c.args.room) here p c.args.name.now (mods_view c.args.mods.now)
    c.if-name-gt-MAX_TEXT.true)

pub evaluation::plain_reference-returns-then-name-gt-MAX_TEXT-clause-facts : goal.evaluation::plain_reference-returns-then-name-gt-MAX_TEXT-clause-facts
evaluation::plain_reference-returns-then-name-gt-MAX_TEXT-clause-facts g t c =
    Asks-none (g.met.F.Facts.stays _) _ _ _ _ (err_never _ (λ is. cc))

pub evaluation::plain_reference-returns-clause-value : goal.evaluation::plain_reference-returns-clause-value
evaluation::plain_reference-returns-clause-value g t c =
    λ answers by.
    let here = here c.args.names.now.scopes.now c.args.names.now.locals.now
    (g.F.Facts.lists c.args.facts.now) c.args.run.now false answers in
    let p = at c.args.run.now (g.F.Facts.asked c.args.facts.now) in
    let short : length c.args.name.now ≤ max_text = omega (arith, c.if-name-gt-MAX_TEXT.false) in
    rw (tree_value-plain (found_at c.args.room) here p c.args.name.now short)
    (c.named.ensures.value answers by)

pub evaluation::plain_reference-returns-clause-run : goal.evaluation::plain_reference-returns-clause-run
evaluation::plain_reference-returns-clause-run g t c =
    c.named.ensures.run

pub evaluation::plain_reference-returns-clause-facts : goal.evaluation::plain_reference-returns-clause-facts
evaluation::plain_reference-returns-clause-facts g t c =
    c.named.ensures.facts

pub evaluation::reference-returns-in-Some-clause-value : goal.evaluation::reference-returns-in-Some-clause-value
evaluation::reference-returns-in-Some-clause-value g t c =
    let text = rw c.as_slice.ensures.value at c.in-Some.ensures.text in
    λ answers by.
    let here = here c.args.names.now.scopes.now c.args.names.now.locals.now
    (g.F.Facts.lists c.args.facts.now) c.args.run.now false answers in
    let p = at c.args.run.now (g.F.Facts.asked c.args.facts.now) in
    rw (
      text,
      tree_value-plain (found_at c.args.room) here p c.in-Some.name.now c.in-Some.ensures.short,
    ) (c.named.ensures.value answers by)

pub evaluation::reference-returns-clause-value : goal.evaluation::reference-returns-clause-value
evaluation::reference-returns-clause-value g t c =
    λ answers by.
    let before = earlier _ _ answers c.named-2.ensures.facts.asked by in
    let first = c.in_ok-name.ensures.value answers before in
    let behind = rw (
      c.in_ok-name.ensures.run.open_names,
      c.in_ok-name.ensures.run.bound,
      c.in_ok-name.ensures.facts.lists,
      c.bytes.ensures.value,
    ) at (c.named-2.ensures.value answers by) in
    rw first behind

pub conditions::truth_of-returns-in_err-truth-in-AtLeaf-clause-value : goal.conditions::truth_of-returns-in_err-truth-in-AtLeaf-clause-value
conditions::truth_of-returns-in_err-truth-in-AtLeaf-clause-value g t c =
    let l = c.steps in
    let first = c.in_err-truth-in-AtLeaf in
    let p = err_from_is_err_and c.from_residual-in_err-truth-in-AtLeaf.result
    c.from_residual-in_err-truth-in-AtLeaf.ensures.1 in
    rw (p.1, p.2) (λ answers by.
    let before = earlier _ _ answers first.ensures.facts.asked by in
    rw (← l.invariant.value answers before, c.in-AtLeaf.is)
    (walked-fault _ _ _ _ c.in-AtLeaf.leaf _ first.field-0.0 (first.ensures.value answers by)))

pub conditions::truth_of-steps-smaller : goal.conditions::truth_of-steps-smaller
conditions::truth_of-steps-smaller g t c =
    let l = c.steps in
    let next = c.in_ok-step-in-Some in
    let less : weight c.left_behind.new.outer.items + step_size next.step
    < weight l.outer.items + step_size l.step =
    rw (c.in-AtLeaf.is, c.in-Some.ensures.items, weight-push c.pop.new.self.items c.in-Some.one)
    (omega (arith, next.ensures.less)) in
    less

pub conditions::truth_of-steps-init : goal.conditions::truth_of-steps-init
conditions::truth_of-steps-init g t c =
    record {
      value = λ answers by. rw c.new-outer.ensures.items (walked-whole _ _ _ (cond_view c.args.cond.now));
      run = Keeps-same c.args.run.now;
      facts = Asks-none (g.met.F.Facts.stays _) _ _ _ (Ok tt) (ok_never tt);
    }

pub conditions::truth_of-steps-preserved : goal.conditions::truth_of-steps-preserved
conditions::truth_of-steps-preserved g t c =
    let l = c.steps in
    let leaf = c.in_ok-truth-in-AtLeaf.ensures in
    let truth = c.in_ok-truth-in-AtLeaf.truth in
    let outer = c.pop.new.self.items in
    let ways = behind_all (outer ++ c.in-Some.one ∷ []) done in
    let find = found_at c.args.room in
    record {
      value = λ answers by.
          let before = earlier _ _ answers leaf.facts.asked by in
          let old = here c.args.names.now.scopes.now c.args.names.now.locals.now
          (g.F.Facts.lists l.facts) l.run false answers in
          let next = here c.args.names.now.scopes.now c.args.names.now.locals.now
          (g.F.Facts.lists c.leaf_truth.new.facts) c.leaf_truth.new.run false answers in
          let p = at c.leaf_truth.new.run (g.F.Facts.asked c.leaf_truth.new.facts) in
          let same : next ≡ old = rw (leaf.run.open_names, leaf.run.bound, leaf.facts.lists) refl in
          let on = walked-on find old (at l.run (g.F.Facts.asked l.facts)) p c.in-AtLeaf.leaf ways truth
          (leaf.value answers by) in
          let met = rw (c.in-AtLeaf.is, c.in-Some.ensures.items) at (l.invariant.value answers before) in
          ap (λ one. (walked find next p one).answer)
          (c.in_ok-step-in-Some.ensures.same done
          ∙ ap (way truth) (sym (behind_all-push outer c.in-Some.one done)))
          ∙ ap (λ one. (walked find one p (way truth ways)).answer) same
          ∙ sym on
          ∙ met;
      run = Keeps-then _ _ _ l.invariant.run leaf.run;
      facts = Asks-then (g.met.F.Facts.goes_on _ _ _) l.invariant.facts (Asks-ok tt leaf.facts);
    }

pub conditions::truth_of-returns-in-None-clause-value : goal.conditions::truth_of-returns-in-None-clause-value
conditions::truth_of-returns-in-None-clause-value g t c =
    let l = c.steps in
    let leaf = c.in_ok-truth-in-AtLeaf.ensures in
    let none : l.outer.items ≡ [] = grind (arith, common_steps) in
    λ answers by.
    let before = earlier _ _ answers leaf.facts.asked by in
    rw (← l.invariant.value answers before, c.in-AtLeaf.is, none)
    (walked-on _ _ _ _ c.in-AtLeaf.leaf done c.in_ok-truth-in-AtLeaf.truth (leaf.value answers by)
    ∙ walked-done _ _ c.in_ok-truth-in-AtLeaf.truth _)

pub conditions::alone_truth-returns-in_err-value-clause-run : goal.conditions::alone_truth-returns-in_err-value-clause-run
conditions::alone_truth-returns-in_err-value-clause-run g t c =
    refused _ _ c.from_residual.result c.from_residual.ensures.1

pub conditions::alone_truth-returns-in_err-value-clause-facts : goal.conditions::alone_truth-returns-in_err-value-clause-facts
conditions::alone_truth-returns-in_err-value-clause-facts g t c =
    Asks-refused _ c.from_residual.ensures.1 (Asks-err c.in_err-value.ensures.facts)

pub conditions::alone_truth-returns-in_err-value-clause-value : goal.conditions::alone_truth-returns-in_err-value-clause-value
conditions::alone_truth-returns-in_err-value-clause-value g t c =
    λ answers by. refused_as _ c.from_residual.result c.from_residual.ensures.1 (fault_of_all _ _ _ (c.in_err-value.ensures.value answers by))

pub conditions::alone_truth-returns-clause-run : goal.conditions::alone_truth-returns-clause-run
conditions::alone_truth-returns-clause-run g t c =
    c.in_ok-value.ensures.run

pub conditions::alone_truth-returns-clause-facts : goal.conditions::alone_truth-returns-clause-facts
conditions::alone_truth-returns-clause-facts g t c =
    Asks-ok _ c.in_ok-value.ensures.facts

pub conditions::both_truth-returns-in_err-first-clause-run : goal.conditions::both_truth-returns-in_err-first-clause-run
conditions::both_truth-returns-in_err-first-clause-run g t c =
    refused _ _ c.from_residual.result c.from_residual.ensures.1

pub conditions::both_truth-returns-in_err-first-clause-facts : goal.conditions::both_truth-returns-in_err-first-clause-facts
conditions::both_truth-returns-in_err-first-clause-facts g t c =
    Asks-refused _ c.from_residual.ensures.1 (Asks-err c.in_err-first.ensures.facts)

pub conditions::both_truth-returns-in_err-first-clause-value : goal.conditions::both_truth-returns-in_err-first-clause-value
conditions::both_truth-returns-in_err-first-clause-value g t c =
    λ answers by. refused_as _ c.from_residual.result c.from_residual.ensures.1 (fault_of_all _ _ _ (c.in_err-first.ensures.value answers by))

pub conditions::both_truth-returns-in_err-compare-clause-run : goal.conditions::both_truth-returns-in_err-compare-clause-run
conditions::both_truth-returns-in_err-compare-clause-run g t c =
    refused _ _ c.from_residual-in_err-compare.result c.from_residual-in_err-compare.ensures.1

pub conditions::both_truth-returns-in_err-compare-clause-facts : goal.conditions::both_truth-returns-in_err-compare-clause-facts
conditions::both_truth-returns-in_err-compare-clause-facts g t c =
    Asks-refused _ c.from_residual-in_err-compare.ensures.1 (Asks-never _ (err_never _ (λ is. cc)) c.in_ok-first.ensures.facts)

pub conditions::both_truth-returns-in-Some-clause-run : goal.conditions::both_truth-returns-in-Some-clause-run
conditions::both_truth-returns-in-Some-clause-run g t c =
    c.in_ok-first.ensures.run

pub conditions::both_truth-returns-in-Some-clause-facts : goal.conditions::both_truth-returns-in-Some-clause-facts
conditions::both_truth-returns-in-Some-clause-facts g t c =
    Asks-ok _ c.in_ok-first.ensures.facts

pub conditions::both_truth-returns-in_err-second-clause-run : goal.conditions::both_truth-returns-in_err-second-clause-run
conditions::both_truth-returns-in_err-second-clause-run g t c =
    refused _ _ c.from_residual-in_err-second.result c.from_residual-in_err-second.ensures.1

pub conditions::both_truth-returns-in_err-second-clause-facts : goal.conditions::both_truth-returns-in_err-second-clause-facts
conditions::both_truth-returns-in_err-second-clause-facts g t c =
    Asks-refused _ c.from_residual-in_err-second.ensures.1 (Asks-then (g.met.F.Facts.goes_on _ _ _) c.in_ok-first.ensures.facts (Asks-err c.in_err-second.ensures.facts))

pub conditions::both_truth-returns-in_err-compare-2-clause-run : goal.conditions::both_truth-returns-in_err-compare-2-clause-run
conditions::both_truth-returns-in_err-compare-2-clause-run g t c =
    refused _ _ c.from_residual-in_err-compare-2.result c.from_residual-in_err-compare-2.ensures.1

pub conditions::both_truth-returns-in_err-compare-2-clause-facts : goal.conditions::both_truth-returns-in_err-compare-2-clause-facts
conditions::both_truth-returns-in_err-compare-2-clause-facts g t c =
    Asks-refused _ c.from_residual-in_err-compare-2.ensures.1 (Asks-never _ (err_never _ (λ is. cc)) (Asks-then (g.met.F.Facts.goes_on _ _ _) c.in_ok-first.ensures.facts c.in_ok-second.ensures.facts))

pub conditions::both_truth-returns-clause-run : goal.conditions::both_truth-returns-clause-run
conditions::both_truth-returns-clause-run g t c =
    Keeps-then _ _ _ c.in_ok-first.ensures.run c.in_ok-second.ensures.run

pub conditions::both_truth-returns-clause-facts : goal.conditions::both_truth-returns-clause-facts
conditions::both_truth-returns-clause-facts g t c =
    Asks-ok _ (Asks-then (g.met.F.Facts.goes_on _ _ _) c.in_ok-first.ensures.facts c.in_ok-second.ensures.facts)

pub conditions::leaf_truth-returns-in-Alone-clause-run : goal.conditions::leaf_truth-returns-in-Alone-clause-run
conditions::leaf_truth-returns-in-Alone-clause-run g t c =
    c.alone_truth.ensures.run

pub conditions::leaf_truth-returns-in-Alone-clause-facts : goal.conditions::leaf_truth-returns-in-Alone-clause-facts
conditions::leaf_truth-returns-in-Alone-clause-facts g t c =
    c.alone_truth.ensures.facts

pub conditions::leaf_truth-returns-in-Alone-clause-value : goal.conditions::leaf_truth-returns-in-Alone-clause-value
conditions::leaf_truth-returns-in-Alone-clause-value g t c =
    rw c.in-Alone.is c.alone_truth.ensures.value

pub conditions::leaf_truth-returns-in-Both-clause-run : goal.conditions::leaf_truth-returns-in-Both-clause-run
conditions::leaf_truth-returns-in-Both-clause-run g t c =
    c.both_truth.ensures.run

pub conditions::leaf_truth-returns-in-Both-clause-facts : goal.conditions::leaf_truth-returns-in-Both-clause-facts
conditions::leaf_truth-returns-in-Both-clause-facts g t c =
    c.both_truth.ensures.facts

pub conditions::leaf_truth-returns-in-Both-clause-value : goal.conditions::leaf_truth-returns-in-Both-clause-value
conditions::leaf_truth-returns-in-Both-clause-value g t c =
    rw c.in-Both.is c.both_truth.ensures.value

pub conditions::leaf_truth-returns-in-Test-clause-run : goal.conditions::leaf_truth-returns-in-Test-clause-run
conditions::leaf_truth-returns-in-Test-clause-run g t c =
    c.test_truth.ensures.run

pub conditions::leaf_truth-returns-in-Test-clause-facts : goal.conditions::leaf_truth-returns-in-Test-clause-facts
conditions::leaf_truth-returns-in-Test-clause-facts g t c =
    c.test_truth.ensures.facts

pub conditions::leaf_truth-returns-in-Test-clause-value : goal.conditions::leaf_truth-returns-in-Test-clause-value
conditions::leaf_truth-returns-in-Test-clause-value g t c =
    rw c.in-Test.is c.test_truth.ensures.value

pub conditions::leaf_truth-returns-in-Known-clause-run : goal.conditions::leaf_truth-returns-in-Known-clause-run
conditions::leaf_truth-returns-in-Known-clause-run g t c =
    Keeps-same c.args.run.now

pub conditions::leaf_truth-returns-in-Known-clause-facts : goal.conditions::leaf_truth-returns-in-Known-clause-facts
conditions::leaf_truth-returns-in-Known-clause-facts g t c =
    Asks-none (g.met.F.Facts.stays _) _ _ _ _ (ok_never _)

pub conditions::leaf_truth-returns-in-Known-clause-value : goal.conditions::leaf_truth-returns-in-Known-clause-value
conditions::leaf_truth-returns-in-Known-clause-value g t c =
    rw c.in-Known.is (λ answers by. refl)

pub conditions::side_value-returns-then-side-clause-run : goal.conditions::side_value-returns-then-side-clause-run
conditions::side_value-returns-then-side-clause-run g t c =
    c.tree_value.ensures.run

pub conditions::side_value-returns-then-side-clause-facts : goal.conditions::side_value-returns-then-side-clause-facts
conditions::side_value-returns-then-side-clause-facts g t c =
    c.tree_value.ensures.facts

pub conditions::side_value-returns-in-None-clause-run : goal.conditions::side_value-returns-in-None-clause-run
conditions::side_value-returns-in-None-clause-run g t c =
    c.tree_value-in-None.ensures.run

pub conditions::side_value-returns-in-None-clause-facts : goal.conditions::side_value-returns-in-None-clause-facts
conditions::side_value-returns-in-None-clause-facts g t c =
    c.tree_value-in-None.ensures.facts

pub conditions::side_value-returns-in_err-found-in-Some-clause-run : goal.conditions::side_value-returns-in_err-found-in-Some-clause-run
conditions::side_value-returns-in_err-found-in-Some-clause-run g t c =
    refused _ _ c.from_residual.result c.from_residual.ensures.1

pub conditions::side_value-returns-in_err-found-in-Some-clause-facts : goal.conditions::side_value-returns-in_err-found-in-Some-clause-facts
conditions::side_value-returns-in_err-found-in-Some-clause-facts g t c =
    Asks-refused _ c.from_residual.ensures.1 (Asks-err c.in_err-found-in-Some.ensures.facts)

pub conditions::side_value-returns-in_ok-found-in-Some-clause-run : goal.conditions::side_value-returns-in_ok-found-in-Some-clause-run
conditions::side_value-returns-in_ok-found-in-Some-clause-run g t c =
    holds _ c.in_ok-found-in-Some.ensures.run

pub conditions::test_truth-returns-in-Some-clause-run : goal.conditions::test_truth-returns-in-Some-clause-run
conditions::test_truth-returns-in-Some-clause-run g t c =
    c.answer_of.ensures.run

pub conditions::test_truth-returns-in-Some-clause-facts : goal.conditions::test_truth-returns-in-Some-clause-facts
conditions::test_truth-returns-in-Some-clause-facts g t c =
    c.answer_of.ensures.facts

pub conditions::test_truth-returns-in_err-value-clause-run : goal.conditions::test_truth-returns-in_err-value-clause-run
conditions::test_truth-returns-in_err-value-clause-run g t c =
    refused _ _ c.from_residual.result c.from_residual.ensures.1

pub conditions::test_truth-returns-in_err-value-clause-facts : goal.conditions::test_truth-returns-in_err-value-clause-facts
conditions::test_truth-returns-in_err-value-clause-facts g t c =
    Asks-refused _ c.from_residual.ensures.1 (Asks-err c.in_err-value.ensures.facts)

pub conditions::test_truth-returns-in_err-value-clause-value : goal.conditions::test_truth-returns-in_err-value-clause-value
conditions::test_truth-returns-in_err-value-clause-value g t c =
    λ answers by. refused_as _ c.from_residual.result c.from_residual.ensures.1 (fault_of_all _ _ _ (c.in_err-value.ensures.value answers by))

pub conditions::test_truth-returns-clause-run : goal.conditions::test_truth-returns-clause-run
conditions::test_truth-returns-clause-run g t c =
    Keeps-behind _ _ _ _ c.in_ok-value.ensures.run c.answer_of-2.ensures.run

pub conditions::test_truth-returns-clause-facts : goal.conditions::test_truth-returns-clause-facts
conditions::test_truth-returns-clause-facts g t c =
    Asks-then (g.met.F.Facts.goes_on _ _ _) c.in_ok-value.ensures.facts c.answer_of-2.ensures.facts

pub conditions::truth_of-returns-in_err-step-in-Inside-clause-run : goal.conditions::truth_of-returns-in_err-step-in-Inside-clause-run
conditions::truth_of-returns-in_err-step-in-Inside-clause-run g t c =
    refused _ _ c.from_residual.result c.from_residual.ensures.1

pub conditions::truth_of-returns-in_err-step-in-Inside-clause-facts : goal.conditions::truth_of-returns-in_err-step-in-Inside-clause-facts
conditions::truth_of-returns-in_err-step-in-Inside-clause-facts g t c =
    Asks-refused _ c.from_residual.ensures.1 (Asks-never _ (err_never _ (λ is. cc)) c.steps.invariant.facts)

pub conditions::truth_of-returns-in_err-step-in-Inside-clause-value : goal.conditions::truth_of-returns-in_err-step-in-Inside-clause-value
conditions::truth_of-returns-in_err-step-in-Inside-clause-value g t c =
    λ answers by. refused_as _ c.from_residual.result c.from_residual.ensures.1 (inl (inl refl))

pub conditions::truth_of-returns-in_err-truth-in-AtLeaf-clause-run : goal.conditions::truth_of-returns-in_err-truth-in-AtLeaf-clause-run
conditions::truth_of-returns-in_err-truth-in-AtLeaf-clause-run g t c =
    refused _ _ c.from_residual-in_err-truth-in-AtLeaf.result c.from_residual-in_err-truth-in-AtLeaf.ensures.1

pub conditions::truth_of-returns-in_err-truth-in-AtLeaf-clause-facts : goal.conditions::truth_of-returns-in_err-truth-in-AtLeaf-clause-facts
conditions::truth_of-returns-in_err-truth-in-AtLeaf-clause-facts g t c =
    Asks-refused _ c.from_residual-in_err-truth-in-AtLeaf.ensures.1 (Asks-then (g.met.F.Facts.goes_on _ _ _) c.steps.invariant.facts (Asks-err c.in_err-truth-in-AtLeaf.ensures.facts))

pub conditions::truth_of-returns-in_err-step-in-Some-clause-run : goal.conditions::truth_of-returns-in_err-step-in-Some-clause-run
conditions::truth_of-returns-in_err-step-in-Some-clause-run g t c =
    refused _ _ c.from_residual-in_err-step-in-Some.result c.from_residual-in_err-step-in-Some.ensures.1

pub conditions::truth_of-returns-in_err-step-in-Some-clause-facts : goal.conditions::truth_of-returns-in_err-step-in-Some-clause-facts
conditions::truth_of-returns-in_err-step-in-Some-clause-facts g t c =
    Asks-refused _ c.from_residual-in_err-step-in-Some.ensures.1 (Asks-never _ (err_never _ (λ is. cc)) (Asks-then (g.met.F.Facts.goes_on _ _ _) c.steps.invariant.facts c.in_ok-truth-in-AtLeaf.ensures.facts))

pub conditions::truth_of-returns-in_err-step-in-Some-clause-value : goal.conditions::truth_of-returns-in_err-step-in-Some-clause-value
conditions::truth_of-returns-in_err-step-in-Some-clause-value g t c =
    λ answers by. refused_as _ c.from_residual-in_err-step-in-Some.result c.from_residual-in_err-step-in-Some.ensures.1 (inl (inl refl))

pub conditions::truth_of-returns-in-None-clause-run : goal.conditions::truth_of-returns-in-None-clause-run
conditions::truth_of-returns-in-None-clause-run g t c =
    Keeps-then _ _ _ c.steps.invariant.run c.in_ok-truth-in-AtLeaf.ensures.run

pub conditions::truth_of-returns-in-None-clause-facts : goal.conditions::truth_of-returns-in-None-clause-facts
conditions::truth_of-returns-in-None-clause-facts g t c =
    Asks-ok _ (Asks-then (g.met.F.Facts.goes_on _ _ _) c.steps.invariant.facts c.in_ok-truth-in-AtLeaf.ensures.facts)

pub evaluation::text_value-returns-in_err-tree-clause-run : goal.evaluation::text_value-returns-in_err-tree-clause-run
evaluation::text_value-returns-in_err-tree-clause-run g t c =
    refused _ _ c.from_residual.result c.from_residual.ensures.1

pub evaluation::text_value-returns-in_err-tree-clause-facts : goal.evaluation::text_value-returns-in_err-tree-clause-facts
evaluation::text_value-returns-in_err-tree-clause-facts g t c =
    Asks-refused _ c.from_residual.ensures.1 (Asks-none (g.met.F.Facts.stays _) _ _ _ _ (err_never _ (never-of_tree _)))

pub evaluation::text_value-returns-clause-run : goal.evaluation::text_value-returns-clause-run
evaluation::text_value-returns-clause-run g t c =
    c.tree_value.ensures.run

pub evaluation::text_value-returns-clause-facts : goal.evaluation::text_value-returns-clause-facts
evaluation::text_value-returns-clause-facts g t c =
    c.tree_value.ensures.facts

pub evaluation::text_value-returns-then-not-has_dollar-clause-run : goal.evaluation::text_value-returns-then-not-has_dollar-clause-run
evaluation::text_value-returns-then-not-has_dollar-clause-run g t c =
    holds _ (Keeps-same c.args.run.now)

pub evaluation::tree_value-returns-clause-run : goal.evaluation::tree_value-returns-clause-run
evaluation::tree_value-returns-clause-run g t c =
    c.joined.ensures.run

pub evaluation::tree_value-returns-clause-facts : goal.evaluation::tree_value-returns-clause-facts
evaluation::tree_value-returns-clause-facts g t c =
    c.joined.ensures.facts

pub evaluation::joined-returns-in_err-append_part-clause-run : goal.evaluation::joined-returns-in_err-append_part-clause-run
evaluation::joined-returns-in_err-append_part-clause-run g t c =
    refused _ _ c.from_residual.result c.from_residual.ensures.1

pub evaluation::joined-returns-clause-run : goal.evaluation::joined-returns-clause-run
evaluation::joined-returns-clause-run g t c =
    c.loop-part.invariant.run

pub evaluation::append_part-returns-in-Short-clause-run : goal.evaluation::append_part-returns-in-Short-clause-run
evaluation::append_part-returns-in-Short-clause-run g t c =
    c.append_reference.ensures.run

pub evaluation::append_part-returns-in-Short-clause-facts : goal.evaluation::append_part-returns-in-Short-clause-facts
evaluation::append_part-returns-in-Short-clause-facts g t c =
    c.append_reference.ensures.facts

pub evaluation::append_part-returns-in-Named-clause-run : goal.evaluation::append_part-returns-in-Named-clause-run
evaluation::append_part-returns-in-Named-clause-run g t c =
    c.append_reference-in-Named.ensures.run

pub evaluation::append_part-returns-in-Named-clause-facts : goal.evaluation::append_part-returns-in-Named-clause-facts
evaluation::append_part-returns-in-Named-clause-facts g t c =
    c.append_reference-in-Named.ensures.facts

pub evaluation::append_part-returns-in-Ref-clause-run : goal.evaluation::append_part-returns-in-Ref-clause-run
evaluation::append_part-returns-in-Ref-clause-run g t c =
    c.append_reference-in-Ref.ensures.run

pub evaluation::append_part-returns-in-Ref-clause-facts : goal.evaluation::append_part-returns-in-Ref-clause-facts
evaluation::append_part-returns-in-Ref-clause-facts g t c =
    c.append_reference-in-Ref.ensures.facts

pub evaluation::append_part-returns-in-Plain-clause-run : goal.evaluation::append_part-returns-in-Plain-clause-run
evaluation::append_part-returns-in-Plain-clause-run g t c =
    holds _ (Keeps-same c.args.run.now)

pub evaluation::append_part-returns-in-Plain-clause-facts : goal.evaluation::append_part-returns-in-Plain-clause-facts
evaluation::append_part-returns-in-Plain-clause-facts g t c =
    Asks-none (g.met.F.Facts.stays _) _ _ _ c.append.result (never_fails _ _ _ c.append.ensures (never-appended _ _))

pub evaluation::append_part-returns-in-Escaped-clause-run : goal.evaluation::append_part-returns-in-Escaped-clause-run
evaluation::append_part-returns-in-Escaped-clause-run g t c =
    holds _ (Keeps-same c.args.run.now)

pub evaluation::append_part-returns-in-Double-clause-run : goal.evaluation::append_part-returns-in-Double-clause-run
evaluation::append_part-returns-in-Double-clause-run g t c =
    holds _ (Keeps-same c.args.run.now)

pub evaluation::append_part-returns-in-Double-clause-facts : goal.evaluation::append_part-returns-in-Double-clause-facts
evaluation::append_part-returns-in-Double-clause-facts g t c =
    Asks-none (g.met.F.Facts.stays _) _ _ _ c.append-in-Double.result (never_fails _ _ _ c.append-in-Double.ensures (never-appended _ _))

pub evaluation::append_part-returns-in-Lone-clause-run : goal.evaluation::append_part-returns-in-Lone-clause-run
evaluation::append_part-returns-in-Lone-clause-run g t c =
    holds _ (Keeps-same c.args.run.now)

pub evaluation::append_reference-returns-in_err-open_reference-clause-run : goal.evaluation::append_reference-returns-in_err-open_reference-clause-run
evaluation::append_reference-returns-in_err-open_reference-clause-run g t c =
    refused _ _ c.from_residual.result c.from_residual.ensures.1

pub evaluation::append_reference-returns-in_err-open_reference-clause-facts : goal.evaluation::append_reference-returns-in_err-open_reference-clause-facts
evaluation::append_reference-returns-in_err-open_reference-clause-facts g t c =
    Asks-refused _ c.from_residual.ensures.1 (Asks-none (g.met.F.Facts.stays _) _ _ _ _ (err_never _ (never-opened _ _ _ c.in_err-open_reference.ensures.err)))

pub evaluation::append_reference-returns-in_err-note-clause-run : goal.evaluation::append_reference-returns-in_err-note-clause-run
evaluation::append_reference-returns-in_err-note-clause-run g t c =
    refused _ _ c.from_residual-in_err-note.result c.from_residual-in_err-note.ensures.1

pub evaluation::append_reference-returns-in_err-note-clause-facts : goal.evaluation::append_reference-returns-in_err-note-clause-facts
evaluation::append_reference-returns-in_err-note-clause-facts g t c =
    Asks-refused _ c.from_residual-in_err-note.ensures.1 (Asks-none (g.met.F.Facts.stays _) _ _ _ _ (err_never _ (λ is. cc)))

pub evaluation::append_reference-returns-in_err-note-clause-value : goal.evaluation::append_reference-returns-in_err-note-clause-value
evaluation::append_reference-returns-in_err-note-clause-value g t c =
    λ answers by. refused_as _ c.from_residual-in_err-note.result c.from_residual-in_err-note.ensures.1 (inl (inl refl))

pub evaluation::append_reference-returns-in-Some-clause-facts : goal.evaluation::append_reference-returns-in-Some-clause-facts
evaluation::append_reference-returns-in-Some-clause-facts g t c =
    Asks-none (g.met.F.Facts.stays _) _ _ _ c.append.result (never_fails _ _ _ c.append.ensures (never-appended _ _))

pub evaluation::append_reference-returns-in_err-found-clause-run : goal.evaluation::append_reference-returns-in_err-found-clause-run
evaluation::append_reference-returns-in_err-found-clause-run g t c =
    refused _ _ c.from_residual-in_err-found.result c.from_residual-in_err-found.ensures.1

pub evaluation::append_reference-returns-in_err-found-clause-facts : goal.evaluation::append_reference-returns-in_err-found-clause-facts
evaluation::append_reference-returns-in_err-found-clause-facts g t c =
    Asks-refused _ c.from_residual-in_err-found.ensures.1 (Asks-err c.in_err-found.ensures.facts)

pub evaluation::append_reference-returns-clause-run : goal.evaluation::append_reference-returns-clause-run
evaluation::append_reference-returns-clause-run g t c =
    holds _ c.in_ok-found.ensures.run

pub evaluation::append_reference-returns-clause-facts : goal.evaluation::append_reference-returns-clause-facts
evaluation::append_reference-returns-clause-facts g t c =
    Asks-never c.append_found.result (never_fails _ _ _ c.append_found.ensures (never-appended _ _)) c.in_ok-found.ensures.facts

pub evaluation::found-returns-in_err-open_reference-clause-run : goal.evaluation::found-returns-in_err-open_reference-clause-run
evaluation::found-returns-in_err-open_reference-clause-run g t c =
    refused _ _ c.from_residual.result c.from_residual.ensures.1

pub evaluation::found-returns-in_err-open_reference-clause-facts : goal.evaluation::found-returns-in_err-open_reference-clause-facts
evaluation::found-returns-in_err-open_reference-clause-facts g t c =
    Asks-refused _ c.from_residual.ensures.1 (Asks-none (g.met.F.Facts.stays _) _ _ _ _ (err_never _ (never-opened _ _ _ c.in_err-open_reference.ensures.err)))

pub evaluation::found-returns-clause-facts : goal.evaluation::found-returns-clause-facts
evaluation::found-returns-clause-facts g t c =
    c.found_inside.ensures.facts

pub evaluation::found_inside-returns-in-Short-clause-run : goal.evaluation::found_inside-returns-in-Short-clause-run
evaluation::found_inside-returns-in-Short-clause-run g t c =
    c.variable.ensures.run

pub evaluation::found_inside-returns-in-Short-clause-facts : goal.evaluation::found_inside-returns-in-Short-clause-facts
evaluation::found_inside-returns-in-Short-clause-facts g t c =
    c.variable.ensures.facts

pub evaluation::found_inside-returns-in-Named-clause-run : goal.evaluation::found_inside-returns-in-Named-clause-run
evaluation::found_inside-returns-in-Named-clause-run g t c =
    c.plain_reference.ensures.run

pub evaluation::found_inside-returns-in-Named-clause-facts : goal.evaluation::found_inside-returns-in-Named-clause-facts
evaluation::found_inside-returns-in-Named-clause-facts g t c =
    c.plain_reference.ensures.facts

pub evaluation::found_inside-returns-in-Ref-clause-run : goal.evaluation::found_inside-returns-in-Ref-clause-run
evaluation::found_inside-returns-in-Ref-clause-run g t c =
    c.reference.ensures.run

pub evaluation::found_inside-returns-in-Ref-clause-facts : goal.evaluation::found_inside-returns-in-Ref-clause-facts
evaluation::found_inside-returns-in-Ref-clause-facts g t c =
    c.reference.ensures.facts

pub evaluation::reference-returns-in-Some-clause-run : goal.evaluation::reference-returns-in-Some-clause-run
evaluation::reference-returns-in-Some-clause-run g t c =
    c.named.ensures.run

pub evaluation::reference-returns-in-Some-clause-facts : goal.evaluation::reference-returns-in-Some-clause-facts
evaluation::reference-returns-in-Some-clause-facts g t c =
    c.named.ensures.facts

pub evaluation::reference-returns-in_err-name-clause-run : goal.evaluation::reference-returns-in_err-name-clause-run
evaluation::reference-returns-in_err-name-clause-run g t c =
    refused _ _ c.from_residual.result c.from_residual.ensures.1

pub evaluation::reference-returns-in_err-name-clause-facts : goal.evaluation::reference-returns-in_err-name-clause-facts
evaluation::reference-returns-in_err-name-clause-facts g t c =
    Asks-refused _ c.from_residual.ensures.1 (Asks-err c.in_err-name.ensures.facts)

pub evaluation::reference-returns-in_err-name-clause-value : goal.evaluation::reference-returns-in_err-name-clause-value
evaluation::reference-returns-in_err-name-clause-value g t c =
    λ answers by. refused_as _ c.from_residual.result c.from_residual.ensures.1 (fault_of_all _ _ _ (c.in_err-name.ensures.value answers by))

pub evaluation::reference-returns-clause-run : goal.evaluation::reference-returns-clause-run
evaluation::reference-returns-clause-run g t c =
    Keeps-behind _ _ _ _ c.in_ok-name.ensures.run c.named-2.ensures.run

pub evaluation::reference-returns-clause-facts : goal.evaluation::reference-returns-clause-facts
evaluation::reference-returns-clause-facts g t c =
    Asks-then (g.met.F.Facts.goes_on _ _ _) c.in_ok-name.ensures.facts c.named-2.ensures.facts

pub evaluation::named-returns-in_err-found-clause-run : goal.evaluation::named-returns-in_err-found-clause-run
evaluation::named-returns-in_err-found-clause-run g t c =
    refused _ _ c.from_residual.result c.from_residual.ensures.1

pub evaluation::named-returns-in_err-found-clause-facts : goal.evaluation::named-returns-in_err-found-clause-facts
evaluation::named-returns-in_err-found-clause-facts g t c =
    Asks-refused _ c.from_residual.ensures.1 (Asks-err c.in_err-found.ensures.facts)

pub evaluation::named-returns-clause-run : goal.evaluation::named-returns-clause-run
evaluation::named-returns-clause-run g t c =
    Keeps-behind _ _ _ _ c.in_ok-found.ensures.run c.chained.ensures.run

pub evaluation::named-returns-clause-facts : goal.evaluation::named-returns-clause-facts
evaluation::named-returns-clause-facts g t c =
    Asks-then (g.met.F.Facts.goes_on _ _ _) c.in_ok-found.ensures.facts c.chained.ensures.facts

pub evaluation::variable-returns-in_err-note-clause-run : goal.evaluation::variable-returns-in_err-note-clause-run
evaluation::variable-returns-in_err-note-clause-run g t c =
    refused _ _ c.from_residual.result c.from_residual.ensures.1

pub evaluation::variable-returns-in_err-note-clause-facts : goal.evaluation::variable-returns-in_err-note-clause-facts
evaluation::variable-returns-in_err-note-clause-facts g t c =
    Asks-refused _ c.from_residual.ensures.1 (Asks-none (g.met.F.Facts.stays _) _ _ _ _ (err_never _ (λ is. cc)))

pub evaluation::variable-returns-in_err-note-clause-value : goal.evaluation::variable-returns-in_err-note-clause-value
evaluation::variable-returns-in_err-note-clause-value g t c =
    λ answers by. refused_as _ c.from_residual.result c.from_residual.ensures.1 (inl (inl refl))

pub evaluation::variable-returns-in_err-from_bytes-clause-run : goal.evaluation::variable-returns-in_err-from_bytes-clause-run
evaluation::variable-returns-in_err-from_bytes-clause-run g t c =
    refused _ _ c.from_residual-in_err-from_bytes.result c.from_residual-in_err-from_bytes.ensures.1

pub evaluation::variable-returns-in_err-from_bytes-clause-facts : goal.evaluation::variable-returns-in_err-from_bytes-clause-facts
evaluation::variable-returns-in_err-from_bytes-clause-facts g t c =
    Asks-refused _ c.from_residual-in_err-from_bytes.ensures.1 (Asks-none (g.met.F.Facts.stays _) _ _ _ _ (err_never _ (λ is. cc)))

pub evaluation::variable-returns-in_err-from_bytes-clause-value : goal.evaluation::variable-returns-in_err-from_bytes-clause-value
evaluation::variable-returns-in_err-from_bytes-clause-value g t c =
    λ answers by. refused_as _ c.from_residual-in_err-from_bytes.result c.from_residual-in_err-from_bytes.ensures.1 (inl (inl refl))

pub evaluation::variable-returns-then-is_among-clause-run : goal.evaluation::variable-returns-then-is_among-clause-run
evaluation::variable-returns-then-is_among-clause-run g t c =
    tt

pub evaluation::variable-returns-then-is_among-clause-facts : goal.evaluation::variable-returns-then-is_among-clause-facts
evaluation::variable-returns-then-is_among-clause-facts g t c =
    Asks-none (g.met.F.Facts.stays _) _ _ _ _ (err_never _ (λ is. cc))

pub evaluation::variable-returns-in_err-raw-clause-run : goal.evaluation::variable-returns-in_err-raw-clause-run
evaluation::variable-returns-in_err-raw-clause-run g t c =
    refused _ _ c.from_residual-in_err-raw.result c.from_residual-in_err-raw.ensures.1

pub evaluation::variable-returns-then-not-has_dollar-clause-run : goal.evaluation::variable-returns-then-not-has_dollar-clause-run
evaluation::variable-returns-then-not-has_dollar-clause-run g t c =
    holds _ (Keeps-noted c.args.run.now c.note.new.noted)

pub evaluation::variable-returns-in-Some-clause-run : goal.evaluation::variable-returns-in-Some-clause-run
evaluation::variable-returns-in-Some-clause-run g t c =
    Keeps-behind _ _ _ _ (Keeps-noted c.args.run.now c.note.new.noted) c.opened_value.ensures.run

pub evaluation::variable-returns-in-Some-clause-facts : goal.evaluation::variable-returns-in-Some-clause-facts
evaluation::variable-returns-in-Some-clause-facts g t c =
    c.opened_value.ensures.facts

pub evaluation::variable-returns-in-Some-known-clause-run : goal.evaluation::variable-returns-in-Some-known-clause-run
evaluation::variable-returns-in-Some-known-clause-run g t c =
    Keeps-behind _ _ _ _ (Keeps-noted c.args.run.now c.note.new.noted) c.known_value.ensures.run

pub evaluation::variable-returns-in-Some-known-clause-facts : goal.evaluation::variable-returns-in-Some-known-clause-facts
evaluation::variable-returns-in-Some-known-clause-facts g t c =
    c.known_value.ensures.facts

pub evaluation::variable-returns-in-None-clause-run : goal.evaluation::variable-returns-in-None-clause-run
evaluation::variable-returns-in-None-clause-run g t c =
    Keeps-noted c.args.run.now c.note.new.noted

pub evaluation::variable-returns-in-None-clause-facts : goal.evaluation::variable-returns-in-None-clause-facts
evaluation::variable-returns-in-None-clause-facts g t c =
    Asks-none (g.met.F.Facts.stays _) _ _ _ _ (ok_never _)

pub evaluation::known_value-returns-in_err-copy-clause-run : goal.evaluation::known_value-returns-in_err-copy-clause-run
evaluation::known_value-returns-in_err-copy-clause-run g t c =
    refused _ _ c.from_residual.result c.from_residual.ensures.1

pub evaluation::known_value-returns-in_err-copy-clause-facts : goal.evaluation::known_value-returns-in_err-copy-clause-facts
evaluation::known_value-returns-in_err-copy-clause-facts g t c =
    Asks-refused _ c.from_residual.ensures.1 (Asks-none (g.met.F.Facts.stays _) _ _ _ _ (err_never _ (λ is. cc)))

pub evaluation::known_value-returns-in_err-copy-clause-value : goal.evaluation::known_value-returns-in_err-copy-clause-value
evaluation::known_value-returns-in_err-copy-clause-value g t c =
    λ answers by. refused_as _ c.from_residual.result c.from_residual.ensures.1 (inl (inl refl))

pub evaluation::known_value-returns-then-not-has_dollar-clause-run : goal.evaluation::known_value-returns-then-not-has_dollar-clause-run
evaluation::known_value-returns-then-not-has_dollar-clause-run g t c =
    holds _ (Keeps-same c.args.run.now)

pub evaluation::known_value-returns-clause-run : goal.evaluation::known_value-returns-clause-run
evaluation::known_value-returns-clause-run g t c =
    c.opened_value.ensures.run

pub evaluation::known_value-returns-clause-facts : goal.evaluation::known_value-returns-clause-facts
evaluation::known_value-returns-clause-facts g t c =
    c.opened_value.ensures.facts

pub evaluation::opened_value-returns-in_err-from_bytes-clause-run : goal.evaluation::opened_value-returns-in_err-from_bytes-clause-run
evaluation::opened_value-returns-in_err-from_bytes-clause-run g t c =
    refused _ _ c.from_residual.result c.from_residual.ensures.1

pub evaluation::opened_value-returns-in_err-from_bytes-clause-facts : goal.evaluation::opened_value-returns-in_err-from_bytes-clause-facts
evaluation::opened_value-returns-in_err-from_bytes-clause-facts g t c =
    Asks-refused _ c.from_residual.ensures.1 (Asks-none (g.met.F.Facts.stays _) _ _ _ _ (err_never _ (λ is. cc)))

pub evaluation::opened_value-returns-in_err-from_bytes-clause-value : goal.evaluation::opened_value-returns-in_err-from_bytes-clause-value
evaluation::opened_value-returns-in_err-from_bytes-clause-value g t c =
    λ answers by. refused_as _ c.from_residual.result c.from_residual.ensures.1 (inl (inl refl))

pub evaluation::opened_value-returns-in_err-push-clause-run : goal.evaluation::opened_value-returns-in_err-push-clause-run
evaluation::opened_value-returns-in_err-push-clause-run g t c =
    refused _ _ c.from_residual-in_err-push.result c.from_residual-in_err-push.ensures.1

pub evaluation::opened_value-returns-in_err-push-clause-facts : goal.evaluation::opened_value-returns-in_err-push-clause-facts
evaluation::opened_value-returns-in_err-push-clause-facts g t c =
    Asks-refused _ c.from_residual-in_err-push.ensures.1 (Asks-none (g.met.F.Facts.stays _) _ _ _ _ (err_never _ (λ is. cc)))

pub evaluation::opened_value-returns-in_err-push-clause-value : goal.evaluation::opened_value-returns-in_err-push-clause-value
evaluation::opened_value-returns-in_err-push-clause-value g t c =
    λ answers by. refused_as _ c.from_residual-in_err-push.result c.from_residual-in_err-push.ensures.1 (inl (inl refl))

pub evaluation::opened_value-returns-in_err-value-clause-run : goal.evaluation::opened_value-returns-in_err-value-clause-run
evaluation::opened_value-returns-in_err-value-clause-run g t c =
    refused _ _ c.from_residual-in_err-value.result c.from_residual-in_err-value.ensures.1

pub evaluation::opened_value-returns-in_err-value-clause-facts : goal.evaluation::opened_value-returns-in_err-value-clause-facts
evaluation::opened_value-returns-in_err-value-clause-facts g t c =
    Asks-refused _ c.from_residual-in_err-value.ensures.1 (Asks-err c.in_err-value.ensures.facts)

pub evaluation::opened_value-returns-clause-facts : goal.evaluation::opened_value-returns-clause-facts
evaluation::opened_value-returns-clause-facts g t c =
    Asks-ok _ c.in_ok-value.ensures.facts

pub words::modifier-returns-in_err-tree_value-in-Keep-clause-run : goal.words::modifier-returns-in_err-tree_value-in-Keep-clause-run
words::modifier-returns-in_err-tree_value-in-Keep-clause-run g t c =
    refused _ _ c.from_residual.result c.from_residual.ensures.1

pub words::modifier-returns-in_err-tree_value-in-Keep-clause-facts : goal.words::modifier-returns-in_err-tree_value-in-Keep-clause-facts
words::modifier-returns-in_err-tree_value-in-Keep-clause-facts g t c =
    Asks-refused _ c.from_residual.ensures.1 (Asks-err c.in_err-tree_value-in-Keep.ensures.facts)

pub words::modifier-returns-in_ok-tree_value-in-Keep-clause-run : goal.words::modifier-returns-in_ok-tree_value-in-Keep-clause-run
words::modifier-returns-in_ok-tree_value-in-Keep-clause-run g t c =
    c.in_ok-tree_value-in-Keep.ensures.run

pub words::modifier-returns-in_ok-tree_value-in-Keep-clause-facts : goal.words::modifier-returns-in_ok-tree_value-in-Keep-clause-facts
words::modifier-returns-in_ok-tree_value-in-Keep-clause-facts g t c =
    Asks-ok _ c.in_ok-tree_value-in-Keep.ensures.facts

pub words::modifier-returns-in_err-tree_value-in-Without-clause-run : goal.words::modifier-returns-in_err-tree_value-in-Without-clause-run
words::modifier-returns-in_err-tree_value-in-Without-clause-run g t c =
    refused _ _ c.from_residual-in_err-tree_value-in-Without.result c.from_residual-in_err-tree_value-in-Without.ensures.1

pub words::modifier-returns-in_err-tree_value-in-Without-clause-facts : goal.words::modifier-returns-in_err-tree_value-in-Without-clause-facts
words::modifier-returns-in_err-tree_value-in-Without-clause-facts g t c =
    Asks-refused _ c.from_residual-in_err-tree_value-in-Without.ensures.1 (Asks-err c.in_err-tree_value-in-Without.ensures.facts)

pub words::modifier-returns-in_ok-tree_value-in-Without-clause-run : goal.words::modifier-returns-in_ok-tree_value-in-Without-clause-run
words::modifier-returns-in_ok-tree_value-in-Without-clause-run g t c =
    c.in_ok-tree_value-in-Without.ensures.run

pub words::modifier-returns-in_ok-tree_value-in-Without-clause-facts : goal.words::modifier-returns-in_ok-tree_value-in-Without-clause-facts
words::modifier-returns-in_ok-tree_value-in-Without-clause-facts g t c =
    Asks-ok _ c.in_ok-tree_value-in-Without.ensures.facts

pub words::modifier-returns-in_err-tree_value-in-Select-clause-run : goal.words::modifier-returns-in_err-tree_value-in-Select-clause-run
words::modifier-returns-in_err-tree_value-in-Select-clause-run g t c =
    refused _ _ c.from_residual-in_err-tree_value-in-Select.result c.from_residual-in_err-tree_value-in-Select.ensures.1

pub words::modifier-returns-in_err-tree_value-in-Select-clause-facts : goal.words::modifier-returns-in_err-tree_value-in-Select-clause-facts
words::modifier-returns-in_err-tree_value-in-Select-clause-facts g t c =
    Asks-refused _ c.from_residual-in_err-tree_value-in-Select.ensures.1 (Asks-err c.in_err-tree_value-in-Select.ensures.facts)

pub words::modifier-returns-in_ok-tree_value-in-Select-clause-run : goal.words::modifier-returns-in_ok-tree_value-in-Select-clause-run
words::modifier-returns-in_ok-tree_value-in-Select-clause-run g t c =
    c.in_ok-tree_value-in-Select.ensures.run

pub words::modifier-returns-in_ok-tree_value-in-Select-clause-facts : goal.words::modifier-returns-in_ok-tree_value-in-Select-clause-facts
words::modifier-returns-in_ok-tree_value-in-Select-clause-facts g t c =
    Asks-ok _ c.in_ok-tree_value-in-Select.ensures.facts

pub words::modifier-returns-in_err-substitution-in-Subst-clause-run : goal.words::modifier-returns-in_err-substitution-in-Subst-clause-run
words::modifier-returns-in_err-substitution-in-Subst-clause-run g t c =
    refused _ _ c.from_residual-in_err-substitution-in-Subst.result c.from_residual-in_err-substitution-in-Subst.ensures.1

pub words::modifier-returns-in_err-substitution-in-Subst-clause-facts : goal.words::modifier-returns-in_err-substitution-in-Subst-clause-facts
words::modifier-returns-in_err-substitution-in-Subst-clause-facts g t c =
    Asks-refused _ c.from_residual-in_err-substitution-in-Subst.ensures.1 (Asks-err c.in_err-substitution-in-Subst.ensures.facts)

pub words::modifier-returns-in_ok-substitution-in-Subst-clause-run : goal.words::modifier-returns-in_ok-substitution-in-Subst-clause-run
words::modifier-returns-in_ok-substitution-in-Subst-clause-run g t c =
    c.in_ok-substitution-in-Subst.ensures.run

pub words::modifier-returns-in_ok-substitution-in-Subst-clause-facts : goal.words::modifier-returns-in_ok-substitution-in-Subst-clause-facts
words::modifier-returns-in_ok-substitution-in-Subst-clause-facts g t c =
    Asks-ok _ c.in_ok-substitution-in-Subst.ensures.facts

pub words::modifier-returns-in_err-range-in-Range-Some-clause-run : goal.words::modifier-returns-in_err-range-in-Range-Some-clause-run
words::modifier-returns-in_err-range-in-Range-Some-clause-run g t c =
    refused _ _ c.from_residual-in_err-range-in-Range-Some.result c.from_residual-in_err-range-in-Range-Some.ensures.1

pub words::modifier-returns-in_err-range-in-Range-Some-clause-facts : goal.words::modifier-returns-in_err-range-in-Range-Some-clause-facts
words::modifier-returns-in_err-range-in-Range-Some-clause-facts g t c =
    Asks-refused _ c.from_residual-in_err-range-in-Range-Some.ensures.1 (Asks-err c.in_err-range-in-Range-Some.ensures.facts)

pub words::modifier-returns-in_ok-range-in-Range-Some-clause-run : goal.words::modifier-returns-in_ok-range-in-Range-Some-clause-run
words::modifier-returns-in_ok-range-in-Range-Some-clause-run g t c =
    c.in_ok-range-in-Range-Some.ensures.run

pub words::modifier-returns-in_ok-range-in-Range-Some-clause-facts : goal.words::modifier-returns-in_ok-range-in-Range-Some-clause-facts
words::modifier-returns-in_ok-range-in-Range-Some-clause-facts g t c =
    Asks-ok _ c.in_ok-range-in-Range-Some.ensures.facts

pub words::modifier-returns-in_err-suffix-in-Suffix-clause-run : goal.words::modifier-returns-in_err-suffix-in-Suffix-clause-run
words::modifier-returns-in_err-suffix-in-Suffix-clause-run g t c =
    refused _ _ c.from_residual-in_err-suffix-in-Suffix.result c.from_residual-in_err-suffix-in-Suffix.ensures.1

pub words::modifier-returns-in_err-suffix-in-Suffix-clause-facts : goal.words::modifier-returns-in_err-suffix-in-Suffix-clause-facts
words::modifier-returns-in_err-suffix-in-Suffix-clause-facts g t c =
    Asks-refused _ c.from_residual-in_err-suffix-in-Suffix.ensures.1 (Asks-err c.in_err-suffix-in-Suffix.ensures.facts)

pub words::modifier-returns-in_ok-suffix-in-Suffix-clause-run : goal.words::modifier-returns-in_ok-suffix-in-Suffix-clause-run
words::modifier-returns-in_ok-suffix-in-Suffix-clause-run g t c =
    c.in_ok-suffix-in-Suffix.ensures.run

pub words::modifier-returns-in_ok-suffix-in-Suffix-clause-facts : goal.words::modifier-returns-in_ok-suffix-in-Suffix-clause-facts
words::modifier-returns-in_ok-suffix-in-Suffix-clause-facts g t c =
    Asks-ok _ c.in_ok-suffix-in-Suffix.ensures.facts

pub words::modifier-returns-in_err-textless-in_default-clause-run : goal.words::modifier-returns-in_err-textless-in_default-clause-run
words::modifier-returns-in_err-textless-in_default-clause-run g t c =
    refused _ _ c.from_residual-in_err-textless-in_default.result c.from_residual-in_err-textless-in_default.ensures.1

pub words::modifier-returns-in_err-textless-in_default-clause-facts : goal.words::modifier-returns-in_err-textless-in_default-clause-facts
words::modifier-returns-in_err-textless-in_default-clause-facts g t c =
    Asks-refused _ c.from_residual-in_err-textless-in_default.ensures.1 (Asks-none (g.met.F.Facts.stays _) _ _ _ _ (err_never _ (λ is. cc)))

pub words::modifier-returns-in_err-textless-in_default-clause-value : goal.words::modifier-returns-in_err-textless-in_default-clause-value
words::modifier-returns-in_err-textless-in_default-clause-value g t c =
    λ answers by. refused_as _ c.from_residual-in_err-textless-in_default.result c.from_residual-in_err-textless-in_default.ensures.1 (inl (inl refl))

pub words::modifier-returns-in_ok-textless-in_default-clause-run : goal.words::modifier-returns-in_ok-textless-in_default-clause-run
words::modifier-returns-in_ok-textless-in_default-clause-run g t c =
    Keeps-same c.args.run.now

pub words::modifier-returns-in_ok-textless-in_default-clause-facts : goal.words::modifier-returns-in_ok-textless-in_default-clause-facts
words::modifier-returns-in_ok-textless-in_default-clause-facts g t c =
    Asks-none (g.met.F.Facts.stays _) _ _ _ _ (ok_never _)

pub words::substitution-returns-in_err-old-clause-run : goal.words::substitution-returns-in_err-old-clause-run
words::substitution-returns-in_err-old-clause-run g t c =
    refused _ _ c.from_residual.result c.from_residual.ensures.1

pub words::substitution-returns-in_err-old-clause-facts : goal.words::substitution-returns-in_err-old-clause-facts
words::substitution-returns-in_err-old-clause-facts g t c =
    Asks-refused _ c.from_residual.ensures.1 (Asks-err c.in_err-old.ensures.facts)

pub words::substitution-returns-in_err-new-clause-run : goal.words::substitution-returns-in_err-new-clause-run
words::substitution-returns-in_err-new-clause-run g t c =
    refused _ _ c.from_residual-in_err-new.result c.from_residual-in_err-new.ensures.1

pub words::substitution-returns-in_err-new-clause-facts : goal.words::substitution-returns-in_err-new-clause-facts
words::substitution-returns-in_err-new-clause-facts g t c =
    Asks-refused _ c.from_residual-in_err-new.ensures.1 (Asks-then (g.met.F.Facts.goes_on _ _ _) c.in_ok-old.ensures.facts (Asks-err c.in_err-new.ensures.facts))

pub words::substitution-returns-clause-run : goal.words::substitution-returns-clause-run
words::substitution-returns-clause-run g t c =
    Keeps-then _ _ _ c.in_ok-old.ensures.run c.in_ok-new.ensures.run

pub words::substitution-returns-clause-facts : goal.words::substitution-returns-clause-facts
words::substitution-returns-clause-facts g t c =
    Asks-ok _ (Asks-then (g.met.F.Facts.goes_on _ _ _) c.in_ok-old.ensures.facts c.in_ok-new.ensures.facts)

pub words::suffix-returns-in_err-old-clause-run : goal.words::suffix-returns-in_err-old-clause-run
words::suffix-returns-in_err-old-clause-run g t c =
    refused _ _ c.from_residual.result c.from_residual.ensures.1

pub words::suffix-returns-in_err-old-clause-facts : goal.words::suffix-returns-in_err-old-clause-facts
words::suffix-returns-in_err-old-clause-facts g t c =
    Asks-refused _ c.from_residual.ensures.1 (Asks-err c.in_err-old.ensures.facts)

pub words::suffix-returns-in_err-new-clause-run : goal.words::suffix-returns-in_err-new-clause-run
words::suffix-returns-in_err-new-clause-run g t c =
    refused _ _ c.from_residual-in_err-new.result c.from_residual-in_err-new.ensures.1

pub words::suffix-returns-in_err-new-clause-facts : goal.words::suffix-returns-in_err-new-clause-facts
words::suffix-returns-in_err-new-clause-facts g t c =
    Asks-refused _ c.from_residual-in_err-new.ensures.1 (Asks-then (g.met.F.Facts.goes_on _ _ _) c.in_ok-old.ensures.facts (Asks-err c.in_err-new.ensures.facts))

pub words::suffix-returns-clause-run : goal.words::suffix-returns-clause-run
words::suffix-returns-clause-run g t c =
    Keeps-then _ _ _ c.in_ok-old.ensures.run c.in_ok-new.ensures.run

pub words::suffix-returns-clause-facts : goal.words::suffix-returns-clause-facts
words::suffix-returns-clause-facts g t c =
    Asks-ok _ (Asks-then (g.met.F.Facts.goes_on _ _ _) c.in_ok-old.ensures.facts c.in_ok-new.ensures.facts)

pub words::range-returns-in_err-text-clause-run : goal.words::range-returns-in_err-text-clause-run
words::range-returns-in_err-text-clause-run g t c =
    refused _ _ c.from_residual.result c.from_residual.ensures.1

pub words::range-returns-in_err-text-clause-facts : goal.words::range-returns-in_err-text-clause-facts
words::range-returns-in_err-text-clause-facts g t c =
    Asks-refused _ c.from_residual.ensures.1 (Asks-err c.in_err-text.ensures.facts)

pub words::range-returns-in_err-text-clause-value : goal.words::range-returns-in_err-text-clause-value
words::range-returns-in_err-text-clause-value g t c =
    λ answers by. refused_as _ c.from_residual.result c.from_residual.ensures.1 (fault_of_all _ _ _ (c.in_err-text.ensures.value answers by))

pub words::range-returns-clause-run : goal.words::range-returns-clause-run
words::range-returns-clause-run g t c =
    c.in_ok-text.ensures.run

pub words::range-returns-clause-facts : goal.words::range-returns-clause-facts
words::range-returns-clause-facts g t c =
    Asks-ok _ c.in_ok-text.ensures.facts

pub words::old_text-returns-in_err-append-in-Some-clause-run : goal.words::old_text-returns-in_err-append-in-Some-clause-run
words::old_text-returns-in_err-append-in-Some-clause-run g t c =
    refused _ _ c.from_residual.result c.from_residual.ensures.1

pub words::old_text-returns-in_err-append-in-Some-clause-facts : goal.words::old_text-returns-in_err-append-in-Some-clause-facts
words::old_text-returns-in_err-append-in-Some-clause-facts g t c =
    Asks-refused _ c.from_residual.ensures.1 (Asks-none (g.met.F.Facts.stays _) _ _ _ _ (err_never _ (fault_never _ _ c.in_err-append-in-Some.ensures (never-appended _ _))))

pub words::old_text-returns-in_ok-append-in-Some-clause-run : goal.words::old_text-returns-in_ok-append-in-Some-clause-run
words::old_text-returns-in_ok-append-in-Some-clause-run g t c =
    c.joined.ensures.run

pub words::old_text-returns-in_ok-append-in-Some-clause-facts : goal.words::old_text-returns-in_ok-append-in-Some-clause-facts
words::old_text-returns-in_ok-append-in-Some-clause-facts g t c =
    c.joined.ensures.facts

pub words::old_text-returns-in-None-clause-run : goal.words::old_text-returns-in-None-clause-run
words::old_text-returns-in-None-clause-run g t c =
    c.joined-in-None.ensures.run

pub words::old_text-returns-in-None-clause-facts : goal.words::old_text-returns-in-None-clause-facts
words::old_text-returns-in-None-clause-facts g t c =
    c.joined-in-None.ensures.facts

pub words::new_text-returns-in_err-append_new-clause-run : goal.words::new_text-returns-in_err-append_new-clause-run
words::new_text-returns-in_err-append_new-clause-run g t c =
    refused _ _ c.from_residual.result c.from_residual.ensures.1

pub words::new_text-returns-clause-run : goal.words::new_text-returns-clause-run
words::new_text-returns-clause-run g t c =
    c.loop-part.invariant.run

pub words::append_new-returns-in-Plain-clause-run : goal.words::append_new-returns-in-Plain-clause-run
words::append_new-returns-in-Plain-clause-run g t c =
    holds _ (Keeps-same c.args.run.now)

pub words::append_new-returns-in-Plain-clause-facts : goal.words::append_new-returns-in-Plain-clause-facts
words::append_new-returns-in-Plain-clause-facts g t c =
    Asks-none (g.met.F.Facts.stays _) _ _ _ c.append_with_old.result (never_fails _ _ _ c.append_with_old.ensures (never-appended _ _))

pub modifiers::default_found-returns-in_err-value-clause-run : goal.modifiers::default_found-returns-in_err-value-clause-run
modifiers::default_found-returns-in_err-value-clause-run g t c =
    refused _ _ c.from_residual.result c.from_residual.ensures.1

pub modifiers::default_found-returns-in_err-value-clause-facts : goal.modifiers::default_found-returns-in_err-value-clause-facts
modifiers::default_found-returns-in_err-value-clause-facts g t c =
    Asks-refused _ c.from_residual.ensures.1 (Asks-err c.in_err-value.ensures.facts)

pub modifiers::default_found-returns-in_err-value-clause-value : goal.modifiers::default_found-returns-in_err-value-clause-value
modifiers::default_found-returns-in_err-value-clause-value g t c =
    λ answers by. refused_as _ c.from_residual.result c.from_residual.ensures.1 (fault_of_all _ _ _ (c.in_err-value.ensures.value answers by))

pub modifiers::default_found-returns-clause-run : goal.modifiers::default_found-returns-clause-run
modifiers::default_found-returns-clause-run g t c =
    c.in_ok-value.ensures.run

pub modifiers::default_found-returns-clause-facts : goal.modifiers::default_found-returns-clause-facts
modifiers::default_found-returns-clause-facts g t c =
    Asks-ok _ c.in_ok-value.ensures.facts

pub modifiers::chained-returns-then-is_empty-clause-run : goal.modifiers::chained-returns-then-is_empty-clause-run
modifiers::chained-returns-then-is_empty-clause-run g t c =
    Keeps-same c.args.run.now

pub modifiers::chained-returns-then-is_empty-clause-facts : goal.modifiers::chained-returns-then-is_empty-clause-facts
modifiers::chained-returns-then-is_empty-clause-facts g t c =
    Asks-none (g.met.F.Facts.stays _) _ _ _ _ (ok_never _)

pub modifiers::chained-returns-clause-run : goal.modifiers::chained-returns-clause-run
modifiers::chained-returns-clause-run g t c =
    c.default_found.ensures.run

pub modifiers::chained-returns-clause-facts : goal.modifiers::chained-returns-clause-facts
modifiers::chained-returns-clause-facts g t c =
    c.default_found.ensures.facts

pub modifiers::chained-returns-in_err-start-clause-run : goal.modifiers::chained-returns-in_err-start-clause-run
modifiers::chained-returns-in_err-start-clause-run g t c =
    refused _ _ c.from_residual.result c.from_residual.ensures.1

pub modifiers::chained-returns-in_err-start-clause-facts : goal.modifiers::chained-returns-in_err-start-clause-facts
modifiers::chained-returns-in_err-start-clause-facts g t c =
    Asks-refused _ c.from_residual.ensures.1 (Asks-none (g.met.F.Facts.stays _) _ _ _ _ (err_never _ (λ is. cc)))

pub modifiers::chained-returns-in_err-start-clause-value : goal.modifiers::chained-returns-in_err-start-clause-value
modifiers::chained-returns-in_err-start-clause-value g t c =
    λ answers by. refused_as _ c.from_residual.result c.from_residual.ensures.1 (inl (inl refl))

pub modifiers::chained-returns-in_err-chain-clause-run : goal.modifiers::chained-returns-in_err-chain-clause-run
modifiers::chained-returns-in_err-chain-clause-run g t c =
    refused _ _ c.from_residual-in_err-chain.result c.from_residual-in_err-chain.ensures.1

pub modifiers::chained-returns-in_err-chain-clause-facts : goal.modifiers::chained-returns-in_err-chain-clause-facts
modifiers::chained-returns-in_err-chain-clause-facts g t c =
    Asks-refused _ c.from_residual-in_err-chain.ensures.1 (Asks-err c.in_err-chain.ensures.facts)

pub modifiers::chained-returns-in_err-value-clause-run : goal.modifiers::chained-returns-in_err-value-clause-run
modifiers::chained-returns-in_err-value-clause-run g t c =
    refused _ _ c.from_residual-in_err-value.result c.from_residual-in_err-value.ensures.1

pub modifiers::chained-returns-in_err-value-clause-facts : goal.modifiers::chained-returns-in_err-value-clause-facts
modifiers::chained-returns-in_err-value-clause-facts g t c =
    Asks-refused _ c.from_residual-in_err-value.ensures.1 (Asks-never _ (err_never _ (λ is. cc)) c.in_ok-chain.ensures.facts)

pub modifiers::chained-returns-in_err-value-clause-value : goal.modifiers::chained-returns-in_err-value-clause-value
modifiers::chained-returns-in_err-value-clause-value g t c =
    λ answers by. refused_as _ c.from_residual-in_err-value.result c.from_residual-in_err-value.ensures.1 (inl (inl refl))

pub modifiers::chained-returns-2-clause-facts : goal.modifiers::chained-returns-2-clause-facts
modifiers::chained-returns-2-clause-facts g t c =
    Asks-ok _ c.in_ok-chain.ensures.facts

pub modifiers::all_modified-returns-in_err-more-clause-open_names : goal.modifiers::all_modified-returns-in_err-more-clause-open_names
modifiers::all_modified-returns-in_err-more-clause-open_names g t c =
    refused _ _ c.from_residual.result c.from_residual.ensures.1

pub modifiers::all_modified-returns-in_err-more-clause-bound : goal.modifiers::all_modified-returns-in_err-more-clause-bound
modifiers::all_modified-returns-in_err-more-clause-bound g t c =
    refused _ _ c.from_residual.result c.from_residual.ensures.1

pub modifiers::all_modified-returns-in_err-more-clause-begins : goal.modifiers::all_modified-returns-in_err-more-clause-begins
modifiers::all_modified-returns-in_err-more-clause-begins g t c =
    refused _ _ c.from_residual.result c.from_residual.ensures.1

pub modifiers::all_modified-returns-in_err-chain-clause-open_names : goal.modifiers::all_modified-returns-in_err-chain-clause-open_names
modifiers::all_modified-returns-in_err-chain-clause-open_names g t c =
    refused _ _ c.from_residual-in_err-chain.result c.from_residual-in_err-chain.ensures.1

pub modifiers::all_modified-returns-in_err-chain-clause-bound : goal.modifiers::all_modified-returns-in_err-chain-clause-bound
modifiers::all_modified-returns-in_err-chain-clause-bound g t c =
    refused _ _ c.from_residual-in_err-chain.result c.from_residual-in_err-chain.ensures.1

pub modifiers::all_modified-returns-in_err-chain-clause-begins : goal.modifiers::all_modified-returns-in_err-chain-clause-begins
modifiers::all_modified-returns-in_err-chain-clause-begins g t c =
    refused _ _ c.from_residual-in_err-chain.result c.from_residual-in_err-chain.ensures.1

pub modifiers::all_modified-returns-in_err-chain-clause-facts : goal.modifiers::all_modified-returns-in_err-chain-clause-facts
modifiers::all_modified-returns-in_err-chain-clause-facts g t c =
    Asks-refused _ c.from_residual-in_err-chain.ensures.1 (Asks-never _ (err_never _ (λ is. cc)) (Asks-then (g.met.F.Facts.goes_on _ _ _) c.loop-one.invariant.facts c.in_ok-more.ensures.facts))

pub modifiers::all_modified-returns-in_err-chain-clause-value : goal.modifiers::all_modified-returns-in_err-chain-clause-value
modifiers::all_modified-returns-in_err-chain-clause-value g t c =
    λ answers by. refused_as _ c.from_residual-in_err-chain.result c.from_residual-in_err-chain.ensures.1 (inl (inl refl))

pub modifiers::all_modified-returns-clause-open_names : goal.modifiers::all_modified-returns-clause-open_names
modifiers::all_modified-returns-clause-open_names g t c =
    c.loop-one.invariant.open_names

pub modifiers::all_modified-returns-clause-bound : goal.modifiers::all_modified-returns-clause-bound
modifiers::all_modified-returns-clause-bound g t c =
    c.loop-one.invariant.bound

pub modifiers::all_modified-returns-clause-begins : goal.modifiers::all_modified-returns-clause-begins
modifiers::all_modified-returns-clause-begins g t c =
    c.loop-one.invariant.begins

pub modifiers::modified-returns-in-Choose-clause-run : goal.modifiers::modified-returns-in-Choose-clause-run
modifiers::modified-returns-in-Choose-clause-run g t c =
    c.choose.ensures.run

pub modifiers::modified-returns-in-Choose-clause-facts : goal.modifiers::modified-returns-in-Choose-clause-facts
modifiers::modified-returns-in-Choose-clause-facts g t c =
    c.choose.ensures.facts

pub modifiers::modified-returns-in-Choose-clause-within : goal.modifiers::modified-returns-in-Choose-clause-within
modifiers::modified-returns-in-Choose-clause-within g t c =
    c.choose.ensures.within

pub modifiers::modified-returns-in-Each-clause-run : goal.modifiers::modified-returns-in-Each-clause-run
modifiers::modified-returns-in-Each-clause-run g t c =
    c.each.ensures.run

pub modifiers::modified-returns-in-Each-clause-facts : goal.modifiers::modified-returns-in-Each-clause-facts
modifiers::modified-returns-in-Each-clause-facts g t c =
    c.each.ensures.facts

pub modifiers::modified-returns-in-Each-clause-within : goal.modifiers::modified-returns-in-Each-clause-within
modifiers::modified-returns-in-Each-clause-within g t c =
    c.each.ensures.within

pub modifiers::given_modified-returns-in-IfDefined-clause-run : goal.modifiers::given_modified-returns-in-IfDefined-clause-run
modifiers::given_modified-returns-in-IfDefined-clause-run g t c =
    c.if_defined.ensures.run

pub modifiers::given_modified-returns-in-IfDefined-clause-facts : goal.modifiers::given_modified-returns-in-IfDefined-clause-facts
modifiers::given_modified-returns-in-IfDefined-clause-facts g t c =
    c.if_defined.ensures.facts

pub modifiers::given_modified-returns-in-IfDefined-clause-within : goal.modifiers::given_modified-returns-in-IfDefined-clause-within
modifiers::given_modified-returns-in-IfDefined-clause-within g t c =
    c.if_defined.ensures.within

pub modifiers::given_modified-returns-in-IfUndefined-clause-run : goal.modifiers::given_modified-returns-in-IfUndefined-clause-run
modifiers::given_modified-returns-in-IfUndefined-clause-run g t c =
    c.if_undefined.ensures.run

pub modifiers::given_modified-returns-in-IfUndefined-clause-facts : goal.modifiers::given_modified-returns-in-IfUndefined-clause-facts
modifiers::given_modified-returns-in-IfUndefined-clause-facts g t c =
    c.if_undefined.ensures.facts

pub modifiers::given_modified-returns-in-IfUndefined-clause-within : goal.modifiers::given_modified-returns-in-IfUndefined-clause-within
modifiers::given_modified-returns-in-IfUndefined-clause-within g t c =
    c.if_undefined.ensures.within

pub modifiers::given_modified-returns-in_err-text-in-NameOf-clause-run : goal.modifiers::given_modified-returns-in_err-text-in-NameOf-clause-run
modifiers::given_modified-returns-in_err-text-in-NameOf-clause-run g t c =
    refused _ _ c.from_residual.result c.from_residual.ensures.1

pub modifiers::given_modified-returns-in_err-text-in-NameOf-clause-within : goal.modifiers::given_modified-returns-in_err-text-in-NameOf-clause-within
modifiers::given_modified-returns-in_err-text-in-NameOf-clause-within g t c =
    refused_if _ _ c.from_residual.result c.from_residual.ensures.1

pub modifiers::given_modified-returns-in_err-text-in-NameOf-clause-facts : goal.modifiers::given_modified-returns-in_err-text-in-NameOf-clause-facts
modifiers::given_modified-returns-in_err-text-in-NameOf-clause-facts g t c =
    Asks-refused _ c.from_residual.ensures.1 (Asks-none (g.met.F.Facts.stays _) _ _ _ _ (err_never _ (λ is. cc)))

pub modifiers::given_modified-returns-in_err-text-in-NameOf-clause-value : goal.modifiers::given_modified-returns-in_err-text-in-NameOf-clause-value
modifiers::given_modified-returns-in_err-text-in-NameOf-clause-value g t c =
    λ answers by. refused_as _ c.from_residual.result c.from_residual.ensures.1 (inl (inl refl))

pub modifiers::given_modified-returns-in_err-given-in-NameOf-clause-run : goal.modifiers::given_modified-returns-in_err-given-in-NameOf-clause-run
modifiers::given_modified-returns-in_err-given-in-NameOf-clause-run g t c =
    refused _ _ c.from_residual-in_err-given-in-NameOf.result c.from_residual-in_err-given-in-NameOf.ensures.1

pub modifiers::given_modified-returns-in_err-given-in-NameOf-clause-within : goal.modifiers::given_modified-returns-in_err-given-in-NameOf-clause-within
modifiers::given_modified-returns-in_err-given-in-NameOf-clause-within g t c =
    refused_if _ _ c.from_residual-in_err-given-in-NameOf.result c.from_residual-in_err-given-in-NameOf.ensures.1

pub modifiers::given_modified-returns-in_err-given-in-NameOf-clause-facts : goal.modifiers::given_modified-returns-in_err-given-in-NameOf-clause-facts
modifiers::given_modified-returns-in_err-given-in-NameOf-clause-facts g t c =
    Asks-refused _ c.from_residual-in_err-given-in-NameOf.ensures.1 (Asks-none (g.met.F.Facts.stays _) _ _ _ _ (err_never _ (λ is. cc)))

pub modifiers::given_modified-returns-in_err-given-in-NameOf-clause-value : goal.modifiers::given_modified-returns-in_err-given-in-NameOf-clause-value
modifiers::given_modified-returns-in_err-given-in-NameOf-clause-value g t c =
    λ answers by. refused_as _ c.from_residual-in_err-given-in-NameOf.result c.from_residual-in_err-given-in-NameOf.ensures.1 (inl (inl refl))

pub modifiers::given_modified-returns-in_ok-given-in-NameOf-clause-facts : goal.modifiers::given_modified-returns-in_ok-given-in-NameOf-clause-facts
modifiers::given_modified-returns-in_ok-given-in-NameOf-clause-facts g t c =
    Asks-none (g.met.F.Facts.stays _) _ _ _ _ (ok_never _)

pub modifiers::given_modified-returns-in_ok-given-in-NameOf-clause-within : goal.modifiers::given_modified-returns-in_ok-given-in-NameOf-clause-within
modifiers::given_modified-returns-in_ok-given-in-NameOf-clause-within g t c =
    c.in_ok-given-in-NameOf.ensures.within

pub modifiers::given_modified-returns-in_ok-given-in-NameOf-clause-run : goal.modifiers::given_modified-returns-in_ok-given-in-NameOf-clause-run
modifiers::given_modified-returns-in_ok-given-in-NameOf-clause-run g t c =
    record { open_names = refl; bound = refl; begins = c.in_ok-given-in-NameOf.ensures.begins }

pub modifiers::choose-returns-in_err-text-clause-run : goal.modifiers::choose-returns-in_err-text-clause-run
modifiers::choose-returns-in_err-text-clause-run g t c =
    refused _ _ c.from_residual.result c.from_residual.ensures.1

pub modifiers::choose-returns-in_err-text-clause-within : goal.modifiers::choose-returns-in_err-text-clause-within
modifiers::choose-returns-in_err-text-clause-within g t c =
    refused_if _ _ c.from_residual.result c.from_residual.ensures.1

pub modifiers::choose-returns-in_err-text-clause-facts : goal.modifiers::choose-returns-in_err-text-clause-facts
modifiers::choose-returns-in_err-text-clause-facts g t c =
    Asks-refused _ c.from_residual.ensures.1 (Asks-err c.in_err-text.ensures.facts)

pub modifiers::choose-returns-in_err-text-clause-value : goal.modifiers::choose-returns-in_err-text-clause-value
modifiers::choose-returns-in_err-text-clause-value g t c =
    λ answers by. refused_as _ c.from_residual.result c.from_residual.ensures.1 (fault_of_all _ _ _ (c.in_err-text.ensures.value answers by))

pub modifiers::choose-returns-in_err-given-clause-run : goal.modifiers::choose-returns-in_err-given-clause-run
modifiers::choose-returns-in_err-given-clause-run g t c =
    refused _ _ c.from_residual-in_err-given.result c.from_residual-in_err-given.ensures.1

pub modifiers::choose-returns-in_err-given-clause-within : goal.modifiers::choose-returns-in_err-given-clause-within
modifiers::choose-returns-in_err-given-clause-within g t c =
    refused_if _ _ c.from_residual-in_err-given.result c.from_residual-in_err-given.ensures.1

pub modifiers::choose-returns-in_err-given-clause-facts : goal.modifiers::choose-returns-in_err-given-clause-facts
modifiers::choose-returns-in_err-given-clause-facts g t c =
    Asks-refused _ c.from_residual-in_err-given.ensures.1 (Asks-never _ (err_never _ (λ is. cc)) c.in_ok-text.ensures.facts)

pub modifiers::choose-returns-in_err-given-clause-value : goal.modifiers::choose-returns-in_err-given-clause-value
modifiers::choose-returns-in_err-given-clause-value g t c =
    λ answers by. refused_as _ c.from_residual-in_err-given.result c.from_residual-in_err-given.ensures.1 (inl (inl refl))

pub modifiers::choose-returns-clause-facts : goal.modifiers::choose-returns-clause-facts
modifiers::choose-returns-clause-facts g t c =
    Asks-ok _ c.in_ok-text.ensures.facts

pub modifiers::choose-returns-clause-within : goal.modifiers::choose-returns-clause-within
modifiers::choose-returns-clause-within g t c =
    c.in_ok-given.ensures.within

pub modifiers::if_undefined-returns-then-chain-clause-run : goal.modifiers::if_undefined-returns-then-chain-clause-run
modifiers::if_undefined-returns-then-chain-clause-run g t c =
    record { open_names = refl; bound = refl; begins = Begins-refl _ }

pub modifiers::if_undefined-returns-then-chain-clause-facts : goal.modifiers::if_undefined-returns-then-chain-clause-facts
modifiers::if_undefined-returns-then-chain-clause-facts g t c =
    Asks-none (g.met.F.Facts.stays _) _ _ _ _ (ok_never _)

pub modifiers::if_undefined-returns-then-chain-clause-within : goal.modifiers::if_undefined-returns-then-chain-clause-within
modifiers::if_undefined-returns-then-chain-clause-within g t c =
    c.requires

pub modifiers::if_undefined-returns-in_err-text-clause-run : goal.modifiers::if_undefined-returns-in_err-text-clause-run
modifiers::if_undefined-returns-in_err-text-clause-run g t c =
    refused _ _ c.from_residual.result c.from_residual.ensures.1

pub modifiers::if_undefined-returns-in_err-text-clause-within : goal.modifiers::if_undefined-returns-in_err-text-clause-within
modifiers::if_undefined-returns-in_err-text-clause-within g t c =
    refused_if _ _ c.from_residual.result c.from_residual.ensures.1

pub modifiers::if_undefined-returns-in_err-text-clause-facts : goal.modifiers::if_undefined-returns-in_err-text-clause-facts
modifiers::if_undefined-returns-in_err-text-clause-facts g t c =
    Asks-refused _ c.from_residual.ensures.1 (Asks-err c.in_err-text.ensures.facts)

pub modifiers::if_undefined-returns-in_err-given-clause-run : goal.modifiers::if_undefined-returns-in_err-given-clause-run
modifiers::if_undefined-returns-in_err-given-clause-run g t c =
    refused _ _ c.from_residual-in_err-given.result c.from_residual-in_err-given.ensures.1

pub modifiers::if_undefined-returns-in_err-given-clause-within : goal.modifiers::if_undefined-returns-in_err-given-clause-within
modifiers::if_undefined-returns-in_err-given-clause-within g t c =
    refused_if _ _ c.from_residual-in_err-given.result c.from_residual-in_err-given.ensures.1

pub modifiers::if_undefined-returns-in_err-given-clause-facts : goal.modifiers::if_undefined-returns-in_err-given-clause-facts
modifiers::if_undefined-returns-in_err-given-clause-facts g t c =
    Asks-refused _ c.from_residual-in_err-given.ensures.1 (Asks-never _ (err_never _ (λ is. cc)) c.in_ok-text.ensures.facts)

pub modifiers::if_undefined-returns-in_err-given-clause-value : goal.modifiers::if_undefined-returns-in_err-given-clause-value
modifiers::if_undefined-returns-in_err-given-clause-value g t c =
    λ answers by. refused_as _ c.from_residual-in_err-given.result c.from_residual-in_err-given.ensures.1 (inl (inl refl))

pub modifiers::if_undefined-returns-clause-facts : goal.modifiers::if_undefined-returns-clause-facts
modifiers::if_undefined-returns-clause-facts g t c =
    Asks-ok _ c.in_ok-text.ensures.facts

pub modifiers::if_undefined-returns-clause-within : goal.modifiers::if_undefined-returns-clause-within
modifiers::if_undefined-returns-clause-within g t c =
    c.in_ok-given.ensures.within

pub modifiers::if_defined-returns-in_err-given-clause-run : goal.modifiers::if_defined-returns-in_err-given-clause-run
modifiers::if_defined-returns-in_err-given-clause-run g t c =
    refused _ _ c.from_residual.result c.from_residual.ensures.1

pub modifiers::if_defined-returns-in_err-given-clause-within : goal.modifiers::if_defined-returns-in_err-given-clause-within
modifiers::if_defined-returns-in_err-given-clause-within g t c =
    refused_if _ _ c.from_residual.result c.from_residual.ensures.1

pub modifiers::if_defined-returns-in_err-given-clause-facts : goal.modifiers::if_defined-returns-in_err-given-clause-facts
modifiers::if_defined-returns-in_err-given-clause-facts g t c =
    Asks-refused _ c.from_residual.ensures.1 (Asks-none (g.met.F.Facts.stays _) _ _ _ _ (err_never _ (λ is. cc)))

pub modifiers::if_defined-returns-in_err-given-clause-value : goal.modifiers::if_defined-returns-in_err-given-clause-value
modifiers::if_defined-returns-in_err-given-clause-value g t c =
    λ answers by. refused_as _ c.from_residual.result c.from_residual.ensures.1 (inl (inl refl))

pub modifiers::if_defined-returns-then-not-chain-clause-facts : goal.modifiers::if_defined-returns-then-not-chain-clause-facts
modifiers::if_defined-returns-then-not-chain-clause-facts g t c =
    Asks-none (g.met.F.Facts.stays _) _ _ _ _ (ok_never _)

pub modifiers::if_defined-returns-then-not-chain-clause-within : goal.modifiers::if_defined-returns-then-not-chain-clause-within
modifiers::if_defined-returns-then-not-chain-clause-within g t c =
    c.in_ok-given.ensures.within

pub modifiers::if_defined-returns-then-not-chain-clause-run : goal.modifiers::if_defined-returns-then-not-chain-clause-run
modifiers::if_defined-returns-then-not-chain-clause-run g t c =
    record { open_names = refl; bound = refl; begins = c.in_ok-given.ensures.begins }

pub modifiers::if_defined-returns-in_err-text-clause-run : goal.modifiers::if_defined-returns-in_err-text-clause-run
modifiers::if_defined-returns-in_err-text-clause-run g t c =
    refused _ _ c.from_residual-in_err-text.result c.from_residual-in_err-text.ensures.1

pub modifiers::if_defined-returns-in_err-text-clause-within : goal.modifiers::if_defined-returns-in_err-text-clause-within
modifiers::if_defined-returns-in_err-text-clause-within g t c =
    refused_if _ _ c.from_residual-in_err-text.result c.from_residual-in_err-text.ensures.1

pub modifiers::if_defined-returns-in_err-text-clause-facts : goal.modifiers::if_defined-returns-in_err-text-clause-facts
modifiers::if_defined-returns-in_err-text-clause-facts g t c =
    Asks-refused _ c.from_residual-in_err-text.ensures.1 (Asks-err c.in_err-text.ensures.facts)

pub modifiers::if_defined-returns-in_err-given-2-clause-run : goal.modifiers::if_defined-returns-in_err-given-2-clause-run
modifiers::if_defined-returns-in_err-given-2-clause-run g t c =
    refused _ _ c.from_residual-in_err-given-2.result c.from_residual-in_err-given-2.ensures.1

pub modifiers::if_defined-returns-in_err-given-2-clause-within : goal.modifiers::if_defined-returns-in_err-given-2-clause-within
modifiers::if_defined-returns-in_err-given-2-clause-within g t c =
    refused_if _ _ c.from_residual-in_err-given-2.result c.from_residual-in_err-given-2.ensures.1

pub modifiers::if_defined-returns-in_err-given-2-clause-facts : goal.modifiers::if_defined-returns-in_err-given-2-clause-facts
modifiers::if_defined-returns-in_err-given-2-clause-facts g t c =
    Asks-refused _ c.from_residual-in_err-given-2.ensures.1 (Asks-never _ (err_never _ (λ is. cc)) c.in_ok-text.ensures.facts)

pub modifiers::if_defined-returns-in_err-given-2-clause-value : goal.modifiers::if_defined-returns-in_err-given-2-clause-value
modifiers::if_defined-returns-in_err-given-2-clause-value g t c =
    λ answers by. refused_as _ c.from_residual-in_err-given-2.result c.from_residual-in_err-given-2.ensures.1 (inl (inl refl))

pub modifiers::if_defined-returns-clause-facts : goal.modifiers::if_defined-returns-clause-facts
modifiers::if_defined-returns-clause-facts g t c =
    Asks-ok _ c.in_ok-text.ensures.facts

pub modifiers::if_defined-returns-clause-within : goal.modifiers::if_defined-returns-clause-within
modifiers::if_defined-returns-clause-within g t c =
    c.in_ok-given-2.ensures.within

pub modifiers::chosen-returns-in_err-cond-clause-run : goal.modifiers::chosen-returns-in_err-cond-clause-run
modifiers::chosen-returns-in_err-cond-clause-run g t c =
    refused _ _ c.from_residual.result c.from_residual.ensures.1

pub modifiers::chosen-returns-in_err-cond-clause-facts : goal.modifiers::chosen-returns-in_err-cond-clause-facts
modifiers::chosen-returns-in_err-cond-clause-facts g t c =
    Asks-refused _ c.from_residual.ensures.1 (Asks-none (g.met.F.Facts.stays _) _ _ _ _ (err_never _ (never-of_cond _)))

pub modifiers::chosen-returns-in_err-truth_of-clause-run : goal.modifiers::chosen-returns-in_err-truth_of-clause-run
modifiers::chosen-returns-in_err-truth_of-clause-run g t c =
    refused _ _ c.from_residual-in_err-truth_of.result c.from_residual-in_err-truth_of.ensures.1

pub modifiers::chosen-returns-in_err-truth_of-clause-facts : goal.modifiers::chosen-returns-in_err-truth_of-clause-facts
modifiers::chosen-returns-in_err-truth_of-clause-facts g t c =
    Asks-refused _ c.from_residual-in_err-truth_of.ensures.1 (Asks-err c.in_err-truth_of.ensures.facts)

pub modifiers::chosen-returns-then-branch-clause-run : goal.modifiers::chosen-returns-then-branch-clause-run
modifiers::chosen-returns-then-branch-clause-run g t c =
    Keeps-behind _ _ _ _ c.in_ok-truth_of.ensures.run c.tree_value.ensures.run

pub modifiers::chosen-returns-clause-run : goal.modifiers::chosen-returns-clause-run
modifiers::chosen-returns-clause-run g t c =
    Keeps-behind _ _ _ _ c.in_ok-truth_of.ensures.run c.tree_value-2.ensures.run

pub modifiers::each-returns-in_err-results-clause-run : goal.modifiers::each-returns-in_err-results-clause-run
modifiers::each-returns-in_err-results-clause-run g t c =
    refused _ _ c.from_residual.result c.from_residual.ensures.1

pub modifiers::each-returns-in_err-results-clause-within : goal.modifiers::each-returns-in_err-results-clause-within
modifiers::each-returns-in_err-results-clause-within g t c =
    refused_if _ _ c.from_residual.result c.from_residual.ensures.1

pub modifiers::each-returns-in_err-results-clause-facts : goal.modifiers::each-returns-in_err-results-clause-facts
modifiers::each-returns-in_err-results-clause-facts g t c =
    Asks-refused _ c.from_residual.ensures.1 (Asks-err c.in_err-results.ensures.facts)

pub modifiers::each-returns-in_err-with_results-clause-run : goal.modifiers::each-returns-in_err-with_results-clause-run
modifiers::each-returns-in_err-with_results-clause-run g t c =
    refused _ _ c.from_residual-in_err-with_results.result c.from_residual-in_err-with_results.ensures.1

pub modifiers::each-returns-in_err-with_results-clause-within : goal.modifiers::each-returns-in_err-with_results-clause-within
modifiers::each-returns-in_err-with_results-clause-within g t c =
    refused_if _ _ c.from_residual-in_err-with_results.result c.from_residual-in_err-with_results.ensures.1

pub modifiers::each-returns-in_err-with_results-clause-facts : goal.modifiers::each-returns-in_err-with_results-clause-facts
modifiers::each-returns-in_err-with_results-clause-facts g t c =
    Asks-refused _ c.from_residual-in_err-with_results.ensures.1 (Asks-never _ (err_never _ (λ is. cc)) c.in_ok-results.ensures.facts)

pub modifiers::each-returns-in_err-with_results-clause-value : goal.modifiers::each-returns-in_err-with_results-clause-value
modifiers::each-returns-in_err-with_results-clause-value g t c =
    λ answers by. refused_as _ c.from_residual-in_err-with_results.result c.from_residual-in_err-with_results.ensures.1 (inl (inl refl))

pub modifiers::each-returns-clause-facts : goal.modifiers::each-returns-clause-facts
modifiers::each-returns-clause-facts g t c =
    Asks-ok _ c.in_ok-results.ensures.facts

pub modifiers::each-returns-clause-within : goal.modifiers::each-returns-clause-within
modifiers::each-returns-clause-within g t c =
    c.in_ok-with_results.ensures.within

pub modifiers::all_results-returns-in_err-words-clause-run : goal.modifiers::all_results-returns-in_err-words-clause-run
modifiers::all_results-returns-in_err-words-clause-run g t c =
    refused _ _ c.from_residual.result c.from_residual.ensures.1

pub modifiers::all_results-returns-in_err-words-clause-facts : goal.modifiers::all_results-returns-in_err-words-clause-facts
modifiers::all_results-returns-in_err-words-clause-facts g t c =
    Asks-refused _ c.from_residual.ensures.1 (Asks-none (g.met.F.Facts.stays _) _ _ _ _ (err_never _ (λ is. cc)))

pub modifiers::all_results-returns-in_err-words-clause-value : goal.modifiers::all_results-returns-in_err-words-clause-value
modifiers::all_results-returns-in_err-words-clause-value g t c =
    λ answers by. refused_as _ c.from_residual.result c.from_residual.ensures.1 (inl (inl refl))

pub modifiers::all_results-returns-in_err-none-clause-run : goal.modifiers::all_results-returns-in_err-none-clause-run
modifiers::all_results-returns-in_err-none-clause-run g t c =
    refused _ _ c.from_residual-in_err-none.result c.from_residual-in_err-none.ensures.1

pub modifiers::all_results-returns-in_err-none-clause-facts : goal.modifiers::all_results-returns-in_err-none-clause-facts
modifiers::all_results-returns-in_err-none-clause-facts g t c =
    Asks-refused _ c.from_residual-in_err-none.ensures.1 (Asks-none (g.met.F.Facts.stays _) _ _ _ _ (err_never _ (λ is. cc)))

pub modifiers::all_results-returns-in_err-none-clause-value : goal.modifiers::all_results-returns-in_err-none-clause-value
modifiers::all_results-returns-in_err-none-clause-value g t c =
    λ answers by. refused_as _ c.from_residual-in_err-none.result c.from_residual-in_err-none.ensures.1 (inl (inl refl))

pub modifiers::all_results-returns-clause-facts : goal.modifiers::all_results-returns-clause-facts
modifiers::all_results-returns-clause-facts g t c =
    c.each_behind.ensures.facts

pub modifiers::each_behind-returns-in_err-binding-clause-run : goal.modifiers::each_behind-returns-in_err-binding-clause-run
modifiers::each_behind-returns-in_err-binding-clause-run g t c =
    refused _ _ c.from_residual.result c.from_residual.ensures.1

pub modifiers::each_behind-returns-in_err-binding-clause-facts : goal.modifiers::each_behind-returns-in_err-binding-clause-facts
modifiers::each_behind-returns-in_err-binding-clause-facts g t c =
    Asks-refused _ c.from_residual.ensures.1 (Asks-none (g.met.F.Facts.stays _) _ _ _ _ (err_never _ (λ is. cc)))

pub modifiers::each_behind-returns-in_err-binding-clause-value : goal.modifiers::each_behind-returns-in_err-binding-clause-value
modifiers::each_behind-returns-in_err-binding-clause-value g t c =
    λ answers by. refused_as _ c.from_residual.result c.from_residual.ensures.1 (inl (inl refl))

pub modifiers::each_behind-returns-in_err-stand_for-clause-run : goal.modifiers::each_behind-returns-in_err-stand_for-clause-run
modifiers::each_behind-returns-in_err-stand_for-clause-run g t c =
    refused _ _ c.from_residual-in_err-stand_for.result c.from_residual-in_err-stand_for.ensures.1

pub modifiers::each_behind-returns-in_err-stand_for-clause-facts : goal.modifiers::each_behind-returns-in_err-stand_for-clause-facts
modifiers::each_behind-returns-in_err-stand_for-clause-facts g t c =
    Asks-refused _ c.from_residual-in_err-stand_for.ensures.1 (Asks-never _ (err_never _ (λ is. cc)) c.loop-word.invariant.facts)

pub modifiers::each_behind-returns-in_err-stand_for-clause-value : goal.modifiers::each_behind-returns-in_err-stand_for-clause-value
modifiers::each_behind-returns-in_err-stand_for-clause-value g t c =
    λ answers by. refused_as _ c.from_residual-in_err-stand_for.result c.from_residual-in_err-stand_for.ensures.1 (inl (inl refl))

pub modifiers::each_behind-returns-in_err-result-clause-run : goal.modifiers::each_behind-returns-in_err-result-clause-run
modifiers::each_behind-returns-in_err-result-clause-run g t c =
    refused _ _ c.from_residual-in_err-result.result c.from_residual-in_err-result.ensures.1

pub modifiers::each_behind-returns-in_err-add-clause-run : goal.modifiers::each_behind-returns-in_err-add-clause-run
modifiers::each_behind-returns-in_err-add-clause-run g t c =
    refused _ _ c.from_residual-in_err-add.result c.from_residual-in_err-add.ensures.1

pub modifiers::each_behind-returns-in_err-add-clause-facts : goal.modifiers::each_behind-returns-in_err-add-clause-facts
modifiers::each_behind-returns-in_err-add-clause-facts g t c =
    Asks-refused _ c.from_residual-in_err-add.ensures.1 (Asks-never _ (err_never _ (never-of_mod _)) (Asks-then (g.met.F.Facts.goes_on _ _ _) c.loop-word.invariant.facts c.in_ok-result.ensures.facts))

pub modifiers::each_behind-returns-clause-run : goal.modifiers::each_behind-returns-clause-run
modifiers::each_behind-returns-clause-run g t c =
    c.loop-word.invariant.run

pub modifiers::word_result-returns-in_err-bind-clause-run : goal.modifiers::word_result-returns-in_err-bind-clause-run
modifiers::word_result-returns-in_err-bind-clause-run g t c =
    refused _ _ c.from_residual.result c.from_residual.ensures.1

pub modifiers::word_result-returns-in_err-bind-clause-binding : goal.modifiers::word_result-returns-in_err-bind-clause-binding
modifiers::word_result-returns-in_err-bind-clause-binding g t c =
    refused_if _ _ c.from_residual.result c.from_residual.ensures.1

pub modifiers::word_result-returns-in_err-bind-clause-facts : goal.modifiers::word_result-returns-in_err-bind-clause-facts
modifiers::word_result-returns-in_err-bind-clause-facts g t c =
    Asks-refused _ c.from_residual.ensures.1 (Asks-none (g.met.F.Facts.stays _) _ _ _ _ (err_never _ (λ is. cc)))

pub modifiers::word_result-returns-in_err-bind-clause-value : goal.modifiers::word_result-returns-in_err-bind-clause-value
modifiers::word_result-returns-in_err-bind-clause-value g t c =
    λ answers by. refused_as _ c.from_residual.result c.from_residual.ensures.1 (inl (inl refl))

pub modifiers::word_result-returns-in_err-result-clause-run : goal.modifiers::word_result-returns-in_err-result-clause-run
modifiers::word_result-returns-in_err-result-clause-run g t c =
    refused _ _ c.from_residual-in_err-result.result c.from_residual-in_err-result.ensures.1

pub modifiers::word_result-returns-in_err-result-clause-binding : goal.modifiers::word_result-returns-in_err-result-clause-binding
modifiers::word_result-returns-in_err-result-clause-binding g t c =
    refused_if _ _ c.from_residual-in_err-result.result c.from_residual-in_err-result.ensures.1

pub modifiers::word_result-returns-in_err-result-clause-facts : goal.modifiers::word_result-returns-in_err-result-clause-facts
modifiers::word_result-returns-in_err-result-clause-facts g t c =
    Asks-refused _ c.from_residual-in_err-result.ensures.1 (Asks-err c.in_err-result.ensures.facts)

pub modifiers::word_result-returns-clause-facts : goal.modifiers::word_result-returns-clause-facts
modifiers::word_result-returns-clause-facts g t c =
    Asks-ok _ c.in_ok-result.ensures.facts

pub modifiers::word_modified-returns-in_err-modifier-clause-run : goal.modifiers::word_modified-returns-in_err-modifier-clause-run
modifiers::word_modified-returns-in_err-modifier-clause-run g t c =
    refused _ _ c.from_residual.result c.from_residual.ensures.1

pub modifiers::word_modified-returns-in_err-modifier-clause-within : goal.modifiers::word_modified-returns-in_err-modifier-clause-within
modifiers::word_modified-returns-in_err-modifier-clause-within g t c =
    refused_if _ _ c.from_residual.result c.from_residual.ensures.1

pub modifiers::word_modified-returns-in_err-modifier-clause-facts : goal.modifiers::word_modified-returns-in_err-modifier-clause-facts
modifiers::word_modified-returns-in_err-modifier-clause-facts g t c =
    Asks-refused _ c.from_residual.ensures.1 (Asks-err c.in_err-modifier.ensures.facts)

pub modifiers::word_modified-returns-in_err-apply-in-Some-clause-run : goal.modifiers::word_modified-returns-in_err-apply-in-Some-clause-run
modifiers::word_modified-returns-in_err-apply-in-Some-clause-run g t c =
    refused _ _ c.from_residual-in_err-apply-in-Some.result c.from_residual-in_err-apply-in-Some.ensures.1

pub modifiers::word_modified-returns-in_err-apply-in-Some-clause-within : goal.modifiers::word_modified-returns-in_err-apply-in-Some-clause-within
modifiers::word_modified-returns-in_err-apply-in-Some-clause-within g t c =
    refused_if _ _ c.from_residual-in_err-apply-in-Some.result c.from_residual-in_err-apply-in-Some.ensures.1

pub modifiers::word_modified-returns-in_err-apply-in-Some-clause-facts : goal.modifiers::word_modified-returns-in_err-apply-in-Some-clause-facts
modifiers::word_modified-returns-in_err-apply-in-Some-clause-facts g t c =
    Asks-refused _ c.from_residual-in_err-apply-in-Some.ensures.1 (Asks-never _ (err_never _ (never-of_mod _)) c.in_ok-modifier.ensures.facts)

pub modifiers::word_modified-returns-in_ok-apply-in-Some-clause-facts : goal.modifiers::word_modified-returns-in_ok-apply-in-Some-clause-facts
modifiers::word_modified-returns-in_ok-apply-in-Some-clause-facts g t c =
    Asks-ok _ c.in_ok-modifier.ensures.facts

pub modifiers::word_modified-returns-in_ok-apply-in-Some-clause-within : goal.modifiers::word_modified-returns-in_ok-apply-in-Some-clause-within
modifiers::word_modified-returns-in_ok-apply-in-Some-clause-within g t c =
    c.in_ok-apply-in-Some.ensures.within

pub modifiers::word_modified-returns-in-None-clause-facts : goal.modifiers::word_modified-returns-in-None-clause-facts
modifiers::word_modified-returns-in-None-clause-facts g t c =
    Asks-ok _ c.in_ok-modifier.ensures.facts

pub evaluation::append_part-returns-in-Named-clause-value : goal.evaluation::append_part-returns-in-Named-clause-value
evaluation::append_part-returns-in-Named-clause-value g t c =
    rw (c.in-Named.is, view-Named) (rw (c.in-Named.is, view-Named) at c.append_reference-in-Named.ensures.value)

pub evaluation::append_part-returns-in-Ref-clause-value : goal.evaluation::append_part-returns-in-Ref-clause-value
evaluation::append_part-returns-in-Ref-clause-value g t c =
    rw (c.in-Ref.is, view-Ref) (rw (c.in-Ref.is, view-Ref) at c.append_reference-in-Ref.ensures.value)

pub evaluation::append_part-returns-in-Short-clause-value : goal.evaluation::append_part-returns-in-Short-clause-value
evaluation::append_part-returns-in-Short-clause-value g t c =
    rw (c.in-Short.is, view-Short) (rw (c.in-Short.is, view-Short) at c.append_reference.ensures.value)

pub evaluation::append_part-returns-in-Plain-clause-value : goal.evaluation::append_part-returns-in-Plain-clause-value
evaluation::append_part-returns-in-Plain-clause-value g t c =
    rw (c.in-Plain.is, view-Plain) (λ answers by.
    gives_at (λ done. c.append.new.text) _ c.append.result _ (rw c.bytes.ensures.value at c.append.ensures))

pub evaluation::append_part-returns-in-Lone-clause-value : goal.evaluation::append_part-returns-in-Lone-clause-value
evaluation::append_part-returns-in-Lone-clause-value g t c =
    rw (c.in-Lone.is, view-Lone) (λ answers by.
    gives_at (λ done. c.append-in-Lone.new.text) _ c.append-in-Lone.result _ c.append-in-Lone.ensures)

pub evaluation::append_part-returns-in-Escaped-clause-value : goal.evaluation::append_part-returns-in-Escaped-clause-value
evaluation::append_part-returns-in-Escaped-clause-value g t c =
    rw (c.in-Escaped.is, view-Escaped) (λ answers by.
    gives_at (λ done. c.append-in-Escaped.new.text) _ c.append-in-Escaped.result _ c.append-in-Escaped.ensures)

pub evaluation::append_part-returns-in-Double-clause-value : goal.evaluation::append_part-returns-in-Double-clause-value
evaluation::append_part-returns-in-Double-clause-value g t c =
    rw (c.in-Double.is, view-Double) (λ answers by.
    gives_at (λ done. c.append-in-Double.new.text) _ c.append-in-Double.result _ (rw c.double.ensures at c.append-in-Double.ensures))

pub evaluation::found_inside-returns-in-Short-clause-value : goal.evaluation::found_inside-returns-in-Short-clause-value
evaluation::found_inside-returns-in-Short-clause-value g t c =
    rw (c.in-Short.is, view-Short) c.variable.ensures.value

pub evaluation::found_inside-returns-in-Named-clause-value : goal.evaluation::found_inside-returns-in-Named-clause-value
evaluation::found_inside-returns-in-Named-clause-value g t c =
    rw (c.in-Named.is, view-Named) (rw c.bytes.ensures.value at c.plain_reference.ensures.value)

pub evaluation::found_inside-returns-in-Ref-clause-value : goal.evaluation::found_inside-returns-in-Ref-clause-value
evaluation::found_inside-returns-in-Ref-clause-value g t c =
    rw (c.in-Ref.is, view-Ref) c.reference.ensures.value

pub words::append_new-returns-in-Plain-clause-value : goal.words::append_new-returns-in-Plain-clause-value
words::append_new-returns-in-Plain-clause-value g t c =
    rw (c.in-Plain.is, view-Plain) (λ answers by.
    gives_at (λ done. c.append_with_old.new.text) _ c.append_with_old.result _ (rw c.bytes.ensures.value at c.append_with_old.ensures))

pub words::modifier-returns-in_err-substitution-in-Subst-clause-value : goal.words::modifier-returns-in_err-substitution-in-Subst-clause-value
words::modifier-returns-in_err-substitution-in-Subst-clause-value g t c =
    rw (c.in-Subst.is, view-Subst) (λ answers by.
    let fault = rw c.bytes.ensures.value at (c.in_err-substitution-in-Subst.ensures.value answers by) in
    refused_as _ c.from_residual-in_err-substitution-in-Subst.result c.from_residual-in_err-substitution-in-Subst.ensures.1
    (fault))

pub words::modifier-returns-in_err-suffix-in-Suffix-clause-value : goal.words::modifier-returns-in_err-suffix-in-Suffix-clause-value
words::modifier-returns-in_err-suffix-in-Suffix-clause-value g t c =
    rw (c.in-Suffix.is, view-Suffix) (λ answers by.
    refused_as _ c.from_residual-in_err-suffix-in-Suffix.result c.from_residual-in_err-suffix-in-Suffix.ensures.1
    (c.in_err-suffix-in-Suffix.ensures.value answers by))

pub words::modifier-returns-in_err-range-in-Range-Some-clause-value : goal.words::modifier-returns-in_err-range-in-Range-Some-clause-value
words::modifier-returns-in_err-range-in-Range-Some-clause-value g t c =
    let is : mod_view c.args.one.now ≡ range_to (tree_view c.in-Range-Some.number) =
    search (rules, mod_lemmas, trees.views) in
    rw is (λ answers by.
    refused_as _ c.from_residual-in_err-range-in-Range-Some.result c.from_residual-in_err-range-in-Range-Some.ensures.1
    (c.in_err-range-in-Range-Some.ensures.value answers by))

pub words::modifier-returns-in_ok-suffix-in-Suffix-clause-value : goal.words::modifier-returns-in_ok-suffix-in-Suffix-clause-value
words::modifier-returns-in_ok-suffix-in-Suffix-clause-value g t c =
    rw (c.in-Suffix.is, view-Suffix) c.in_ok-suffix-in-Suffix.ensures.value

pub words::modifier-returns-in_ok-substitution-in-Subst-clause-value : goal.words::modifier-returns-in_ok-substitution-in-Subst-clause-value
words::modifier-returns-in_ok-substitution-in-Subst-clause-value g t c =
    rw (c.in-Subst.is, view-Subst)
    (rw c.bytes.ensures.value at c.in_ok-substitution-in-Subst.ensures.value)

pub words::modifier-returns-in_ok-tree_value-in-Keep-clause-value : goal.words::modifier-returns-in_ok-tree_value-in-Keep-clause-value
words::modifier-returns-in_ok-tree_value-in-Keep-clause-value g t c =
    rw (c.in-Keep.is, view-Keep c.in-Keep.pattern) (λ answers by.
    rw (c.in_ok-tree_value-in-Keep.ensures.value answers by) refl)

pub words::modifier-returns-in_ok-tree_value-in-Without-clause-value : goal.words::modifier-returns-in_ok-tree_value-in-Without-clause-value
words::modifier-returns-in_ok-tree_value-in-Without-clause-value g t c =
    rw (c.in-Without.is, view-Without c.in-Without.pattern) (λ answers by.
    rw (c.in_ok-tree_value-in-Without.ensures.value answers by) refl)

pub words::modifier-returns-in_ok-tree_value-in-Select-clause-value : goal.words::modifier-returns-in_ok-tree_value-in-Select-clause-value
words::modifier-returns-in_ok-tree_value-in-Select-clause-value g t c =
    rw (c.in-Select.is, view-Select c.in-Select.places) (λ answers by.
    rw (c.in_ok-tree_value-in-Select.ensures.value answers by) refl)

pub modifiers::given_modified-returns-in-IfDefined-clause-value : goal.modifiers::given_modified-returns-in-IfDefined-clause-value
modifiers::given_modified-returns-in-IfDefined-clause-value g t c =
    rw (c.in-IfDefined.is, view-IfDefined) c.if_defined.ensures.value

pub modifiers::given_modified-returns-in-IfUndefined-clause-value : goal.modifiers::given_modified-returns-in-IfUndefined-clause-value
modifiers::given_modified-returns-in-IfUndefined-clause-value g t c =
    rw (c.in-IfUndefined.is, view-IfUndefined) c.if_undefined.ensures.value

pub modifiers::given_modified-returns-in_ok-given-in-NameOf-clause-value : goal.modifiers::given_modified-returns-in_ok-given-in-NameOf-clause-value
modifiers::given_modified-returns-in_ok-given-in-NameOf-clause-value g t c =
    rw (c.in-NameOf.is, view-NameOf) (λ answers by.
    rw (c.in_ok-given-in-NameOf.ensures.value, c.in_ok-text-in-NameOf.ensures) refl)

pub modifiers::modified-returns-in-Each-clause-value : goal.modifiers::modified-returns-in-Each-clause-value
modifiers::modified-returns-in-Each-clause-value g t c =
    rw (c.in-Each.is, view-Each) (rw c.bytes.ensures.value at c.each.ensures.value)

pub modifiers::if_defined-returns-in_err-text-clause-value : goal.modifiers::if_defined-returns-in_err-text-clause-value
modifiers::if_defined-returns-in_err-text-clause-value g t c =
    λ answers by. refused_as _ c.from_residual-in_err-text.result c.from_residual-in_err-text.ensures.1
    (rw c.if-not-chain.false (fault_of_all _ _ _ (c.in_err-text.ensures.value answers by)))

pub modifiers::if_undefined-returns-in_err-text-clause-value : goal.modifiers::if_undefined-returns-in_err-text-clause-value
modifiers::if_undefined-returns-in_err-text-clause-value g t c =
    λ answers by. refused_as _ c.from_residual.result c.from_residual.ensures.1
    (rw c.if-chain.false (fault_of_all _ _ _ (c.in_err-text.ensures.value answers by)))

pub modifiers::word_modified-returns-in_err-modifier-clause-value : goal.modifiers::word_modified-returns-in_err-modifier-clause-value
modifiers::word_modified-returns-in_err-modifier-clause-value g t c =
    λ answers by. refused_as _ c.from_residual.result c.from_residual.ensures.1
    (fault_of_all _ _ _ (c.in_err-modifier.ensures.value answers by))

pub modifiers::word_modified-returns-in-None-clause-run : goal.modifiers::word_modified-returns-in-None-clause-run
modifiers::word_modified-returns-in-None-clause-run g t c =
    let run = c.in_ok-modifier.ensures.run in
    record {
      open_names = run.open_names;
      bound = run.bound;
      begins = rw run.region (Begins-refl _);
    }

pub modifiers::each-returns-clause-run : goal.modifiers::each-returns-clause-run
modifiers::each-returns-clause-run g t c =
    let run = c.in_ok-results.ensures.run in
    record {
      open_names = run.open_names;
      bound = run.bound;
      begins = Begins-trans _ _ _ run.begins c.in_ok-with_results.ensures.begins;
    }

pub words::substitution-returns-in_err-old-clause-value : goal.words::substitution-returns-in_err-old-clause-value
words::substitution-returns-in_err-old-clause-value g t c =
    λ answers by. refused_as _ c.from_residual.result c.from_residual.ensures.1
    (fault_of_all _ _ _ (c.in_err-old.ensures.value answers by))

pub words::suffix-returns-in_err-old-clause-value : goal.words::suffix-returns-in_err-old-clause-value
words::suffix-returns-in_err-old-clause-value g t c =
    λ answers by. refused_as _ c.from_residual.result c.from_residual.ensures.1
    (fault_of_all _ _ _ (c.in_err-old.ensures.value answers by))

pub modifiers::each-returns-in_err-results-clause-value : goal.modifiers::each-returns-in_err-results-clause-value
modifiers::each-returns-in_err-results-clause-value g t c =
    λ answers by. refused_as _ c.from_residual.result c.from_residual.ensures.1
    (fault_of_all _ _ _ (c.in_err-results.ensures.value answers by))
