use Rattle.std.proofs.Common.{◌≡◌, ◌+◌, ◌-◌, length, take, drop, min, sym, ap, ◌∙◌, arith}
use Rattle.std.proofs.lemmas.List.{drop-take, take_min, drop_min, length-take}
use Rattle.mk_mods.proofs.places.upwards.Goals as goal

pub returns : goal.returns
returns c =
    let items = c.args.items.now in
    let high = c.min-high.result in
    let low = c.min-low.result in
    let top : high ≡ min c.args.high (length items) = c.min-high.ensures in
    let below : low ≡ min (c.args.low - 1) high =
    c.min-low.ensures ∙ ap (λ n. min n high) c.saturating_sub.ensures
    in
    let some : low + (high - low) ≡ high = omega (arith, below) in
    let len : length (take c.args.high items) ≡ high = length-take c.args.high items ∙ sym top in
    c.in_ok-from_slice.ensures.items
    ∙ sym (drop-take low (high - low) items)
    ∙ ap (λ n. drop low (take n items)) (some ∙ top)
    ∙ ap (drop low) (take_min c.args.high items)
    ∙ ap (λ n. drop n (take c.args.high items)) (below ∙ ap (min (c.args.low - 1)) (sym len))
    ∙ drop_min (c.args.low - 1) (take c.args.high items)
