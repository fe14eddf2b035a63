use Rattle.std.proofs.Common.{refl, sym, ◌∙◌, drop}
use Rattle.std.proofs.lemmas.List.{drop-drop}
use Rattle.mk_depline.proofs.GroupLemmas.{next-more, next-more-steps, next-only, next-only-steps}
use Rattle.mk_depline.proofs.brace.next_word.Goals as goal

pub returns-in-None-clause-words : goal.returns-in-None-clause-words
returns-in-None-clause-words c =
    let p = c.args.words in
    let is = sym c.next_alternative.ensures.value ∙ c.in-None.is in
    next-only p.most p.depth p.before (drop p.at c.args.word.now) _ refl is

pub returns-in-None-clause-steps : goal.returns-in-None-clause-steps
returns-in-None-clause-steps c =
    let p = c.args.words in
    let is = sym c.next_alternative.ensures.value ∙ c.in-None.is in
    next-only-steps p.most p.depth p.before (drop p.at c.args.word.now) _ refl is

pub returns-in_ok-text-in-Some-clause-words : goal.returns-in_ok-text-in-Some-clause-words
returns-in_ok-text-in-Some-clause-words c =
    let p = c.args.words in
    let is = sym c.next_alternative.ensures.value ∙ c.in-Some.is in
    rw (c.in_ok-text-in-Some.ensures, c.bytes.ensures.value, ← drop-drop c.in-Some.count p.at c.args.word.now)
    (next-more p.most p.depth p.before (drop p.at c.args.word.now) _ c.in-Some.count refl is)

pub returns-in_ok-text-in-Some-clause-steps : goal.returns-in_ok-text-in-Some-clause-steps
returns-in_ok-text-in-Some-clause-steps c =
    let p = c.args.words in
    let is = sym c.next_alternative.ensures.value ∙ c.in-Some.is in
    rw (c.in_ok-text-in-Some.ensures, c.bytes.ensures.value, ← drop-drop c.in-Some.count p.at c.args.word.now)
    (next-more-steps p.most p.depth p.before (drop p.at c.args.word.now) _ c.in-Some.count refl is)
