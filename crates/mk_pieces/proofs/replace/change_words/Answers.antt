use Rattle.std.proofs.Common.{◌≡◌, ◌+◌, ◌≤◌, ◌++◌, ◌∷◌, ◌&&◌, not, [], Err, is_some, length, drop, get_or, sym, ap, ◌∙◌, arith, inl, refl}
use Rattle.std.proofs.lemmas.List.{append_assoc, append-nil, drop_all}
use Rattle.std.proofs.lemmas.Result.{err_from_is_err_and}
use Rattle.mk_pool.specs.declared.region.Piece.{Piece}
use Rattle.mk_pieces.specs.Change.{changed_word}
use Rattle.mk_pieces.specs.Limits.{total}
use Rattle.mk_pieces.specs.Pieces.{bytes_of, texts_of}
use Rattle.mk_pieces.specs.Substitution.{word_changed, words_changed}
use Rattle.mk_pieces.specs.declared.fault.ModFault.TheVariants.{TooLong as too_long}
use Rattle.mk_pieces.proofs.LimitLemmas.{fault_is}
use Rattle.mk_pieces.proofs.PieceLemmas.{Begins-under, length-begins, texts_of-begins, texts_of-push, furthest-push, furthest-at, Begins-refl}
use Rattle.mk_pieces.proofs.PieceLemmas.{texts_of-more}
use Rattle.mk_pieces.proofs.ReplaceLemmas.{rest_changed, rest_changed-more, rest_changed-none, still_ready}
use Rattle.mk_bytes.proofs.RefusalLemmas.{refused_if}
use Rattle.mk_pieces.proofs.RefusalLemmas.{early_as}
use Rattle.mk_pieces.proofs.replace.change_words.Goals as goal

pub changed_piece-requires-clause-word : goal.changed_piece-requires-clause-word
changed_piece-requires-clause-word c =
    let inside = furthest-at c.args.words.now c.loop-word.word-index (record { start = 0; end = 0 })
    c.loop-word-test.true
    in
    omega (arith, inside, c.requires)

pub returns-in_err-piece-clause-long : goal.returns-in_err-piece-clause-long
returns-in_err-piece-clause-long c is =
    let old = c.args.region.now.bytes in
    let nowhere : Piece = record { start = 0; end = 0 } in
    let words = c.args.words.now in
    let place = c.loop-word.word-index in
    let ready = c.loop-word.ready in
    let word = bytes_of old (get_or words place nowhere) in
    let change = changed_word c.args.change in
    let refused = c.from_residual-in_err-piece in
    let p = err_from_is_err_and refused.result refused.ensures.1 in
    let fault = fault_is refused.result p.0 c.in_err-piece.field-0.0 too_long p.1 p.2 is in
    let long = c.in_err-piece.ensures.long (ap (λ f. Err f) fault) in
    let more = ap (rest_changed ready c.args.once change)
    (texts_of-more old words place nowhere c.loop-word-test.true)
    ∙ rest_changed-more ready c.args.once change word (texts_of old (drop (place + 1) words))
    in
    let room : length c.loop-word.out.items + total (word_changed ready change word
    ∷ rest_changed (ready && not (c.args.once && is_some (change word))) c.args.once change
    (texts_of old (drop (place + 1) words)))
    ≤ total (words_changed c.args.once change (texts_of old words))
    = rw more at c.loop-word.invariant.room in
    omega (arith, long, room)

pub loop-word-preserved : goal.loop-word-preserved
loop-word-preserved c =
    let old = c.args.region.now.bytes in
    let here = old ++ c.loop-word.out.items in
    let new = old ++ c.changed_piece.new.out.items in
    let nowhere : Piece = record { start = 0; end = 0 } in
    let words = c.args.words.now in
    let place = c.loop-word.word-index in
    let ready = c.loop-word.ready in
    let word = bytes_of old (get_or words place nowhere) in
    let change = changed_word c.args.change in
    let before = c.loop-word.invariant in
    let pieces = c.loop-word.pieces.items in
    let begins = Begins-under old c.loop-word.out.items c.changed_piece.new.out.items
    c.in_ok-piece.ensures.begins in
    let longer = length-begins here new begins in
    let kept = texts_of-begins here new pieces begins before.within in
    let more = ap (rest_changed ready c.args.once change)
    (texts_of-more old words place nowhere c.loop-word-test.true)
    ∙ rest_changed-more ready c.args.once change word (texts_of old (drop (place + 1) words))
    in
    let shown = c.in_ok-piece.ensures.shown in
    let changed = c.in_ok-piece.ensures.changed in
    let still = still_ready ready c.args.once (is_some (change word)) in
    let room : length c.loop-word.out.items + total (word_changed ready change word
    ∷ rest_changed (ready && not (c.args.once && is_some (change word))) c.args.once change
    (texts_of old (drop (place + 1) words)))
    ≤ total (words_changed c.args.once change (texts_of old words))
    = rw more at before.room in
    record {
      within = rw c.in_ok-push.ensures.items
          (furthest-push (length new) pieces c.in_ok-piece.piece (omega (arith, longer, before.within))
          c.in_ok-piece.ensures.within);
      words = rw (
        c.in_ok-push.ensures.items,
        texts_of-push,
        kept,
        shown,
        c.is_ready_for_more-ready.ensures,
        changed,
        still,
        append_assoc,
      )
          (ap (λ rest. texts_of here pieces ++ rest) (sym more) ∙ before.words);
      room = rw (c.is_ready_for_more-ready.ensures, changed, still)
          (omega (arith, c.in_ok-piece.ensures.room, room));
    }

pub returns-clause-words : goal.returns-clause-words
returns-clause-words c =
    let old = c.args.region.now.bytes in
    let here = old ++ c.loop-word.out.items in
    let words = c.args.words.now in
    let change = changed_word c.args.change in
    let left = texts_of old (drop c.loop-word.word-index words) in
    let all : drop c.loop-word.word-index words ≡ [] = drop_all _ words (omega arith) in
    let none = rest_changed-none c.loop-word.ready c.args.once change left 0
    (rw all (omega arith))
    in
    rw (c.in_ok-place.ensures.ok, c.as_slice.ensures.value)
    (record {
      within = c.loop-word.invariant.within;
      shown = sym (append-nil _)
          ∙ ap (λ rest. texts_of here c.loop-word.pieces.items ++ rest) (sym none)
          ∙ c.loop-word.invariant.words;
    })

pub returns-in_err-pieces-clause-words : goal.returns-in_err-pieces-clause-words
returns-in_err-pieces-clause-words c = refused_if _ _ c.from_residual.result c.from_residual.ensures.1

pub returns-in_err-pieces-clause-begins : goal.returns-in_err-pieces-clause-begins
returns-in_err-pieces-clause-begins c = Begins-refl _

pub returns-in_err-pieces-clause-early : goal.returns-in_err-pieces-clause-early
returns-in_err-pieces-clause-early c = early_as _ c.from_residual.result c.from_residual.ensures.1 (inl refl)

pub returns-in_err-piece-clause-words : goal.returns-in_err-piece-clause-words
returns-in_err-piece-clause-words c = refused_if _ _ c.from_residual-in_err-piece.result c.from_residual-in_err-piece.ensures.1

pub returns-in_err-piece-clause-begins : goal.returns-in_err-piece-clause-begins
returns-in_err-piece-clause-begins c = Begins-refl _

pub returns-in_err-piece-clause-early : goal.returns-in_err-piece-clause-early
returns-in_err-piece-clause-early c = early_as _ c.from_residual-in_err-piece.result c.from_residual-in_err-piece.ensures.1 c.in_err-piece.ensures.early

pub returns-in_err-push-clause-words : goal.returns-in_err-push-clause-words
returns-in_err-push-clause-words c = refused_if _ _ c.from_residual-in_err-push.result c.from_residual-in_err-push.ensures.1

pub returns-in_err-push-clause-begins : goal.returns-in_err-push-clause-begins
returns-in_err-push-clause-begins c = Begins-refl _

pub returns-in_err-push-clause-early : goal.returns-in_err-push-clause-early
returns-in_err-push-clause-early c = early_as _ c.from_residual-in_err-push.result c.from_residual-in_err-push.ensures.1 (inl refl)

pub returns-in_err-place-clause-words : goal.returns-in_err-place-clause-words
returns-in_err-place-clause-words c = refused_if _ _ c.from_residual-in_err-place.result c.from_residual-in_err-place.ensures.1

pub returns-in_err-place-clause-begins : goal.returns-in_err-place-clause-begins
returns-in_err-place-clause-begins c = c.in_err-place.ensures.begins

pub returns-in_err-place-clause-early : goal.returns-in_err-place-clause-early
returns-in_err-place-clause-early c = early_as _ c.from_residual-in_err-place.result c.from_residual-in_err-place.ensures.1 (inl refl)
