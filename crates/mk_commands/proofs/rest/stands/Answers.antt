use Rattle.std.proofs.Common.{take, sym, ap, ◌∙◌}
use Rattle.std.specs.Option.{option_copied}
use Rattle.mk_world.specs.Deeds.{after_deeds}
use Rattle.mk_world.specs.History.{contents}
use Rattle.mk_commands.specs.Files.{files_in}
use Rattle.mk_commands.specs.Steps.{after_step}
use Rattle.mk_commands.proofs.RestLemmas.{stands-more}
use Rattle.mk_commands.proofs.rest.stands.Goals as goal

pub loop-deed-preserved : goal.loop-deed-preserved
loop-deed-preserved c =
    let store = after_step (contents (files_in c.args.files.now)) (option_copied c.args.step) in
    let before = after_deeds store (take c.loop-deed.deed-index c.args.deeds.now) in
    sym (c.changed-found.ensures before (sym c.loop-deed.invariant))
    ∙ ap (λ after. after c.args.path.now) (sym (stands-more store c.args.deeds.now
    c.loop-deed.deed-index c.deed-item.result c.loop-deed-test.true c.deed-item.is))
