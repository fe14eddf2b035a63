use Rattle.std.proofs.Common.{◌<◌, Ok, [], sym, ap, ◌∙◌}
use Rattle.std.proofs.lemmas.Result.{err_from_is_err_and}
use Rattle.mk_depline.specs.Braces.{added, all_steps, spelled_out, word_of}
use Rattle.mk_depline.proofs.BraceLemmas.{both-none, first-fault, placed-pop, popped, steps_popped}
use Rattle.mk_depline.proofs.brace.spell_groups.Goals as goal

pub returns-in_err-spell : goal.returns-in_err-spell
returns-in_err-spell c =
    let p = err_from_is_err_and c.from_residual-in_err-spell.result c.from_residual-in_err-spell.ensures.1 in
    let fault = rw (c.start.ensures.most, c.start.ensures.word) at c.in_err-spell.ensures.err in
    rw (p.1, p.2, ← both-none (spelled_out c.args.word.now))
    (first-fault c.args.names.now _ (Ok []) _ fault)

pub words-init : goal.words-init
words-init c = record {
  words = rw (
    c.new-waiting.ensures.items,
    c.start.ensures.most,
    c.start.ensures.word,
    both-none (spelled_out c.args.word.now),
  ) at c.in_ok-spell.ensures.ok;
  placed = c.in_ok-spell.ensures.placed;
}

pub next_word-requires-clause-placed : goal.next_word-requires-clause-placed
next_word-requires-clause-placed c =
    (placed-pop c.args.word.now _ c.in-Some.words
    (rw c.in-Some.ensures.items at c.words.invariant.placed)).1

pub push_left-requires-clause-waiting : goal.push_left-requires-clause-waiting
push_left-requires-clause-waiting c =
    (placed-pop c.args.word.now _ c.in-Some.words
    (rw c.in-Some.ensures.items at c.words.invariant.placed)).0

pub returns-in_err-spell-2 : goal.returns-in_err-spell-2
returns-in_err-spell-2 c =
    let p = err_from_is_err_and c.from_residual-in_err-spell-2.result
    c.from_residual-in_err-spell-2.ensures.1 in
    let l = c.words in
    let next = c.in_ok-reading.ensures in
    let taken = popped c.args.word.now l.waiting.items _ c.push_left.new.waiting.items c.in-Some.words
    (word_of c.args.word.now c.in_ok-reading.reading) c.in_ok-reading.left c.in-Some.ensures.items next.words
    c.in_ok-push_left.ensures.words in
    let fault = rw next.most at c.in_err-spell-2.ensures.err in
    rw (p.1, p.2, ← l.invariant.words, taken) (first-fault l.names _ _ _ fault)

pub words-smaller : goal.words-smaller
words-smaller c =
    let l = c.words in
    let next = c.in_ok-reading.ensures in
    let fewer = rw next.most at c.in_ok-spell-2.ensures.steps in
    let less : all_steps c.args.word.now c.spell-in-Some.new.waiting.items < all_steps c.args.word.now l.waiting.items =
    steps_popped c.args.word.now l.waiting.items _ c.push_left.new.waiting.items _ c.in-Some.words
    (word_of c.args.word.now c.in_ok-reading.reading) c.in_ok-reading.left c.in-Some.ensures.items next.steps
    c.in_ok-push_left.ensures.steps fewer in
    less

pub words-preserved : goal.words-preserved
words-preserved c =
    let l = c.words in
    let next = c.in_ok-reading.ensures in
    let taken = popped c.args.word.now l.waiting.items _ c.push_left.new.waiting.items c.in-Some.words
    (word_of c.args.word.now c.in_ok-reading.reading) c.in_ok-reading.left c.in-Some.ensures.items next.words
    c.in_ok-push_left.ensures.words in
    let here = rw next.most at c.in_ok-spell-2.ensures.ok in
    record {
      words = here ∙ ap (added l.names) (sym taken) ∙ l.invariant.words;
      placed = c.in_ok-spell-2.ensures.placed;
    }
