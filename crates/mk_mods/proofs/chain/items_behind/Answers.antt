use Rattle.mk_mods.specs.Pieces.{seen}
use Rattle.mk_mods.specs.declared.modifier.Mod.TheVariants.{Lower, Upper}
use Rattle.mk_mods.proofs.LongLemmas.{items_long}
use Rattle.mk_mods.proofs.chain.items_behind.Goals as goal

pub returns-in-Lower-clause-long : goal.returns-in-Lower-clause-long
returns-in-Lower-clause-long c is =
    let state = seen c.args.region.now.bytes c.args.val.now in
    rw c.in-Lower.is
    (items_long Lower state (rw c.as_slice-items.ensures.value at (c.change_words.ensures.long is)))

pub returns-in-Upper-clause-long : goal.returns-in-Upper-clause-long
returns-in-Upper-clause-long c is =
    let state = seen c.args.region.now.bytes c.args.val.now in
    rw c.in-Upper.is
    (items_long Upper state
    (rw c.as_slice-items.ensures.value at (c.change_words-in-Upper.ensures.long is)))
