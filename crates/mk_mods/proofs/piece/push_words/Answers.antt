use Rattle.std.proofs.Common.{◌+◌, ◌≤◌, length, sym, ◌∙◌, arith}
use Rattle.std.proofs.lemmas.List.{append_assoc}
use Rattle.std.proofs.lemmas.Grind.{common_steps}
use Rattle.mk_pool.specs.declared.region.Piece.{Piece}
use Rattle.mk_pieces.specs.Pieces.{bytes_of}
use Rattle.mk_pieces.proofs.PieceLemmas.{texts_of-push, furthest-push}
use Rattle.mk_mods.proofs.PieceLemmas.{bytes_of-inner, inner-within}
use Rattle.mk_bytes.proofs.WordLemmas.{next_word-is, words_of-none}
use Rattle.mk_mods.proofs.piece.push_words.Goals as goal

pub words-smaller : goal.words-smaller
words-smaller c =
    let text = c.shown-text.result.now in
    let is = sym c.next_word.ensures ∙ c.in-Some.is in
    let next = next_word-is text c.words.from c.in-Some.word c.words.invariant.from is in
    omega (arith, next.start, next.some, next.end)

pub words-preserved : goal.words-preserved
words-preserved c =
    let text = c.shown-text.result.now in
    let region = c.args.region.now.bytes in
    let item = c.args.item in
    let word = c.in-Some.word in
    let is = sym c.next_word.ensures ∙ c.in-Some.is in
    let next = next_word-is text c.words.from word c.words.invariant.from is in
    let inside : word.end ≤ length (bytes_of region item) = rw (← c.shown-text.ensures.value) next.end in
    let ends = inner-within region item word.end (omega (arith, next.some)) inside in
    let piece : Piece = record { start = item.start + word.start; end = item.start + word.end } in
    let shown = bytes_of-inner region item word.start word.end
    (omega (arith, next.some)) inside in
    record {
      from = next.end;
      within = rw c.in_ok-push.ensures.items
          (furthest-push (length region) _ piece c.words.invariant.within
          (omega (arith, ends, c.requires.item)));
      words = rw (
        c.in_ok-push.ensures.items,
        texts_of-push,
        shown,
        ← c.shown-text.ensures.value,
        append_assoc,
        ← next.words,
      )
          c.words.invariant.words;
    }

pub returns : goal.returns
returns c =
    let text = c.shown-text.result.now in
    let none = words_of-none text c.words.from (sym c.next_word.ensures ∙ c.in_default.is) in
    record {
      within = c.words.invariant.within;
      shown = grind (arith, common_steps, c.words.invariant.words, none, c.shown-text.ensures.value);
    }
