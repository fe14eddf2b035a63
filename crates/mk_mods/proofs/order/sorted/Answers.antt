use Rattle.std.proofs.Common.{sym, ◌∙◌, arith, rules}
use Rattle.std.proofs.lemmas.List.Sorted.{IsPermutation-map, ranks_by}
use Rattle.std.proofs.lemmas.Fn.{always_returns_same}
use Rattle.std.specs.Cmp.Lexicographic.{nat_list_cmp_total}
use Rattle.mk_mods.specs.Order.{is_before}
use Rattle.mk_pieces.specs.Pieces.{bytes_of, texts_of}
use Rattle.mk_mods.proofs.OrderLemmas.{sorted-permutation, sorted-pieces, furthest-permutation}
use Rattle.mk_mods.proofs.order.sorted.Goals as goal

pub returns : goal.returns
returns c =
    let region = c.args.region.now.bytes in
    let old = c.args.words.items in
    let new = c.sort_unstable_by.new.self.items in
    let ordered = c.sort_unstable_by.ensures.sorted
    (λ piece other. is_before (bytes_of region piece) (bytes_of region other))
    (ranks_by nat_list_cmp_total (bytes_of region))
    (always_returns_same _ _ _ (λ a r q k. search rules))
    in
    let permutation = c.sort_unstable_by.ensures.permutation in
    let moved = IsPermutation-map (bytes_of region) old new permutation in
    let ends = furthest-permutation old new permutation in
    record {
      within = omega (arith, ends, c.requires);
      shown = sym (sorted-pieces region new ordered)
          ∙ sorted-permutation (texts_of region old) (texts_of region new) moved;
    }
