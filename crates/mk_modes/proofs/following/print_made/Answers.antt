use Rattle.std.proofs.Common.{refl, sym, ◌∙◌}
use Rattle.mk_plan.proofs.AskingLemmas.{answered-all}
use Rattle.mk_plan.specs.Asking.{answers_by}
use Rattle.mk_modes.proofs.following.print_made.Goals as goal

pub returns-clause-prints : goal.returns-clause-prints
returns-clause-prints g c =
    let made = c.new-facts.ensures in
    let none = c.new-questions.ensures.items in
    let idle = rw (← made.world) at c.requires.idle in
    let asks = (c.print_all-went.ensures.facts.led.1 idle).0 in
    let world = sym (c.world-1.given.1
    (sym (c.print_all-went.ensures.facts.led.0 ∙ made.same_reference))) in
    let asked = rw (made.asked, none) at asks.added in
    let printed = c.print_all-went.ensures.ends (answers_by asks.looked)
    (rw asked (answered-all asks.looked)) in
    rw (c.unbuilt.ensures, c.end_of.ensures) (record {
      looked = asks.looked;
      told = rw (world, made.world) at asks.told;
      printed = rw (made.made, made.requested, made.asked, none) at printed;
      unbuilt = refl;
    })
