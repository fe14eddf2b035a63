use Rattle.std.proofs.Common.{sym, ◌∙◌, arith}
use Rattle.std.proofs.lemmas.Grind.{common_steps}
use Rattle.mk_bytes.proofs.WordLemmas.{next_word-is, words_of-none}
use Rattle.mk_bytes.proofs.word.words.Goals as goal

pub words-smaller : goal.words-smaller
words-smaller c =
    let is = sym c.next_word.ensures ∙ c.in-Some.is in
    let next = next_word-is c.args.text.now c.words.from c.in-Some.word c.words.invariant.within is in
    omega (arith, next.start, next.some, next.end)

pub words-preserved : goal.words-preserved
words-preserved c =
    let text = c.args.text.now in
    let word = c.in-Some.word in
    let is = sym c.next_word.ensures ∙ c.in-Some.is in
    let next = next_word-is text c.words.from word c.words.invariant.within is in
    record {
      within = next.end;
      words = grind (
        arith,
        common_steps,
        c.words.invariant.words,
        next.words,
        next.some,
        next.end,
        c.in_ok-push.ensures.ok,
        c.in_ok-from_bytes.ensures,
      );
    }

pub returns : goal.returns
returns c =
    let none = words_of-none c.args.text.now c.words.from
    (sym c.next_word.ensures ∙ c.in_default.is) in
    grind (arith, common_steps, c.words.invariant.words, none)
