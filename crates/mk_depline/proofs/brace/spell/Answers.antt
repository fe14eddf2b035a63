use Rattle.std.proofs.Common.{◌<◌, ◌-◌, ◌+◌, [], ◌∷◌, Ok, sym, ap, ◌∙◌, refl, length, arith}
use Rattle.mk_depline.specs.Braces.{all_pending}
use Rattle.mk_depline.specs.declared.brace.Pending.{Pending}
use Rattle.mk_bytes.specs.Words.{words_among}
use Rattle.mk_depline.proofs.BraceLemmas.{added-both, pending-push, placed-push, steps-push}
use Rattle.mk_depline.proofs.GroupLemmas.{spelled-over, spelled-unclosed, spelled-word, steps-word}
use Rattle.mk_depline.proofs.brace.spell.Goals as goal

pub returns-in-None-clause-err : goal.returns-in-None-clause-err
returns-in-None-clause-err c =
    let r = c.in_ok-reading.reading in
    let read = c.in_ok-reading.ensures in
    let within : r.at < length c.args.word.now = omega (arith, read.placed.within, c.if-reading-word.false) in
    let is = sym c.close_at.ensures.value ∙ c.in-None.is in
    rw (← read.word)
    (spelled-unclosed c.args.reading.most r.depth r.at r.text c.args.word.now read.over within read.placed.plain is)

pub returns-then-reading-word-clause-ok : goal.returns-then-reading-word-clause-ok
returns-then-reading-word-clause-ok c =
    let r = c.in_ok-reading.reading in
    let read = c.in_ok-reading.ensures in
    let pushed = rw c.bytes.ensures.value at c.in_ok-push_word.ensures in
    rw (
      ← read.word,
      spelled-over c.args.reading.most r.depth r.at r.text c.args.word.now c.if-reading-word.true read.placed.plain,
    ) (sym (added-both c.args.names.now c.push_word.new.names (Ok (words_among (r.text ∷ [])))
    (all_pending c.args.word.now c.args.waiting.now.items) (ap (λ all. Ok all) (sym pushed))))

pub returns-in_ok-push_pending-in-Some-clause-ok : goal.returns-in_ok-push_pending-in-Some-clause-ok
returns-in_ok-push_pending-in-Some-clause-ok c =
    let r = c.in_ok-reading.reading in
    let read = c.in_ok-reading.ensures in
    let within : r.at < length c.args.word.now = omega (arith, read.placed.within, c.if-reading-word.false) in
    let some : 0 < r.most = omega (arith, c.if-reading-eq0.false) in
    let is = sym c.close_at.ensures.value ∙ c.in-Some.is in
    let p : Pending = record { most = r.most - 1; before = r.text; at = r.at + 1; depth = r.depth } in
    rw (
      ← read.word,
      ← read.most,
      c.in_ok-push_pending-in-Some.ensures,
      pending-push c.args.word.now c.args.waiting.now.items p,
      spelled-word r.most r.depth r.at _ r.text c.args.word.now read.over within read.placed.plain is some,
    ) refl

pub returns-in_ok-push_pending-in-Some-clause-steps : goal.returns-in_ok-push_pending-in-Some-clause-steps
returns-in_ok-push_pending-in-Some-clause-steps c =
    let r = c.in_ok-reading.reading in
    let read = c.in_ok-reading.ensures in
    let within : r.at < length c.args.word.now = omega (arith, read.placed.within, c.if-reading-word.false) in
    let some : 0 < r.most = omega (arith, c.if-reading-eq0.false) in
    let is = sym c.close_at.ensures.value ∙ c.in-Some.is in
    let p : Pending = record { most = r.most - 1; before = r.text; at = r.at + 1; depth = r.depth } in
    rw (
      ← read.word,
      ← read.most,
      c.in_ok-push_pending-in-Some.ensures,
      steps-push c.args.word.now c.args.waiting.now.items p,
      steps-word r.most r.depth r.at _ r.text c.args.word.now read.over within read.placed.plain is some,
    ) (omega arith)

pub returns-in_ok-push_pending-in-Some-clause-placed : goal.returns-in_ok-push_pending-in-Some-clause-placed
returns-in_ok-push_pending-in-Some-clause-placed c =
    let r = c.in_ok-reading.reading in
    let placed = c.in_ok-reading.ensures.placed in
    let p : Pending = record { most = r.most - 1; before = r.text; at = r.at + 1; depth = r.depth } in
    rw c.in_ok-push_pending-in-Some.ensures
    (placed-push c.args.word.now c.args.waiting.now.items p c.requires.waiting (record {
      within = omega (arith, placed.within, c.if-reading-word.false);
      deep = omega (arith, placed.deep);
      plain = placed.plain;
    }))
