use Rattle.std.proofs.Common.{Ok, sym, ap, ◌∙◌}
use Rattle.mk_mods.specs.Limits.{or_bad_place}
use Rattle.mk_pieces.specs.Pieces.{texts_of}
use Rattle.mk_mods.proofs.ChainLemmas.{Shows-from_to, chosen-places}
use Rattle.mk_pieces.proofs.PieceLemmas.{Begins-refl}
use Rattle.mk_mods.proofs.chain.select.Goals as goal

pub returns-clause-shown : goal.returns-clause-shown
returns-clause-shown c =
    let region = c.args.region.now.bytes in
    let words = c.args.words.now in
    let shows = Shows-from_to region words c.in-Some.ends c.requires in
    let is = chosen-places region c.args.text.now words c.in-Some.ends
    (sym c.if-asks_for_count.ensures) (sym c.in-Some.ensures)
    in
    ap or_bad_place is
    ∙ ap Ok (sym shows.shown ∙ ap (texts_of region) (sym c.in_ok-from_to.ensures))

pub returns-clause-within : goal.returns-clause-within
returns-clause-within c =
    let shows = Shows-from_to c.args.region.now.bytes c.args.words.now c.in-Some.ends c.requires in
    rw c.in_ok-from_to.ensures shows.within

pub returns-in_err-from_to-clause-begins : goal.returns-in_err-from_to-clause-begins
returns-in_err-from_to-clause-begins c = Begins-refl _

pub returns-clause-begins : goal.returns-clause-begins
returns-clause-begins c = Begins-refl _

pub returns-in_default-clause-begins : goal.returns-in_default-clause-begins
returns-in_default-clause-begins c = Begins-refl _
