use Rattle.mk_mods.proofs.ChainLemmas.{Shows-reverse}
use Rattle.mk_mods.proofs.order.sorted_back.Goals as goal

pub returns : goal.returns
returns c =
    rw c.reversed.ensures (Shows-reverse c.args.region.now.bytes c.sorted.result.items _ c.sorted.ensures)
