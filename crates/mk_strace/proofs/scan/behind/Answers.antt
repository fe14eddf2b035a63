use Rattle.std.proofs.Common.{◌∙◌, sym, ap, Some}
use Rattle.mk_strace.proofs.ScanLemmas.{behind-found, behind-later, behind-none}
use Rattle.mk_strace.proofs.scan.behind.Goals as goal

pub returns-then-starts_with : goal.returns-then-starts_with
returns-then-starts_with c =
    ap Some c.skip.ensures
    ∙ behind-found c.args.word.now c.places.rest.now c.in-len1-up.len_at_least
    (sym c.starts_with.ensures.value ∙ c.if-starts_with.true)
    ∙ c.places.invariant

pub places-preserved : goal.places-preserved
places-preserved c =
    behind-later c.args.word.now c.places.rest.now c.in-len1-up.len_at_least
    (sym c.starts_with.ensures.value ∙ c.if-starts_with.false)
    ∙ c.places.invariant

pub returns : goal.returns
returns c =
    behind-none c.args.word.now c.places.rest.now c.in_default.len_below
    ∙ c.places.invariant
