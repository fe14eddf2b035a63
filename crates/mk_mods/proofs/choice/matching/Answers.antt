use Rattle.std.proofs.Common.{ap, ◌∙◌, arith, rules}
use Rattle.std.proofs.lemmas.Fn.{filter_same}
use Rattle.mk_mods.specs.Steps.{is_wanted}
use Rattle.mk_pieces.specs.Pieces.{bytes_of, texts_of}
use Rattle.mk_mods.proofs.TextLemmas.{texts_of-filter, furthest-filter}
use Rattle.mk_mods.proofs.choice.matching.Goals as goal

pub returns : goal.returns
returns c =
    let region = c.args.region.now.bytes in
    let wanted = is_wanted c.args.pattern.now c.args.wanted in
    let old = c.args.words.items in
    let kept = filter_same _ (λ piece. wanted (bytes_of region piece)) _ (λ x b f' k. search rules)
    old _ c.retain.ensures.filtered
    in
    let fewer = furthest-filter (λ piece. wanted (bytes_of region piece)) old in
    record {
      within = rw kept (omega (arith, fewer, c.requires));
      shown = ap (texts_of region) kept ∙ texts_of-filter region wanted old;
    }
