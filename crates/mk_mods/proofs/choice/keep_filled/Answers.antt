use Rattle.std.proofs.Common.{ap, ◌∙◌, rules}
use Rattle.std.proofs.lemmas.Fn.{filter_same}
use Rattle.mk_mods.specs.State.{is_filled}
use Rattle.mk_pieces.specs.Pieces.{bytes_of, texts_of}
use Rattle.mk_mods.proofs.TextLemmas.{texts_of-filter, furthest-filter}
use Rattle.mk_mods.proofs.choice.keep_filled.Goals as goal

pub returns-clause-words : goal.returns-clause-words
returns-clause-words c =
    let region = c.args.region.now.bytes in
    let old = c.args.words.now.items in
    let kept = filter_same _ (λ piece. is_filled (bytes_of region piece)) _ (λ x b f' k. search rules)
    old _ c.retain.ensures.filtered
    in
    ap (texts_of region) kept ∙ texts_of-filter region is_filled old

pub returns-clause-within : goal.returns-clause-within
returns-clause-within c =
    let region = c.args.region.now.bytes in
    let old = c.args.words.now.items in
    let kept = filter_same _ (λ piece. is_filled (bytes_of region piece)) _ (λ x b f' k. search rules)
    old _ c.retain.ensures.filtered
    in
    rw kept (furthest-filter _ old)
