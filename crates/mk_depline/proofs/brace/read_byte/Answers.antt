use Rattle.std.proofs.Common.{sym, ◌∙◌, arith}
use Rattle.mk_depline.proofs.GroupLemmas.{plain-read, plain-within, word-byte, word-end}
use Rattle.mk_depline.proofs.brace.read_byte.Goals as goal

pub returns-in-Some-clause-word : goal.returns-in-Some-clause-word
returns-in-Some-clause-word c =
    let r = c.args.reading.now in
    let is = sym c.group_end.ensures.value ∙ c.in-Some.is in
    word-end c.args.word.now r.text r.at r.depth c.in-Some.end is

pub returns-in_ok-push-in-None-clause-word : goal.returns-in_ok-push-in-None-clause-word
returns-in_ok-push-in-None-clause-word c =
    let r = c.args.reading.now in
    let is = sym c.group_end.ensures.value ∙ c.in-None.is in
    rw (c.in_ok-push-in-None.ensures.ok, c.behind.ensures)
    (word-byte c.args.word.now r.text r.at r.depth c.requires.plain is)

pub returns-in_ok-push-in-None-clause-placed : goal.returns-in_ok-push-in-None-clause-placed
returns-in_ok-push-in-None-clause-placed c =
    let r = c.args.reading.now in
    let within = plain-within c.args.word.now r.at c.requires.plain in
    rw (c.in_ok-push-in-None.ensures.ok, c.behind.ensures) (record {
      within = omega (arith, within);
      deep = omega (arith, c.requires.placed.deep);
      plain = plain-read c.args.word.now r.text r.at c.requires.plain c.requires.placed.plain;
    })
