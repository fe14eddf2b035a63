use Rattle.mk_pieces.proofs.SearchLemmas.{first_place-is, first_place-one}
use Rattle.mk_pieces.proofs.replace.first_place.Goals as goal

pub returns-in-len1-clause-value : goal.returns-in-len1-clause-value
returns-in-len1-clause-value c =
    first_place-one c.args.text.now c.args.word.now c.memchr.result c.in-len1.len_at_least
    c.in-len1.len_below c.memchr.ensures

pub returns-in_default-clause-value : goal.returns-in_default-clause-value
returns-in_default-clause-value c =
    first_place-is c.args.text.now c.args.word.now c.find.result
    (rw c.requires at c.find.ensures)
