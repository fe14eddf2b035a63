use Rattle.std.proofs.Common.{◌∙◌, ap}
use Rattle.mk_breaches.specs.Held.{all_noted}
use Rattle.mk_breaches.proofs.PathLemmas.{all_noted-once}
use Rattle.mk_breaches.proofs.path.Paths.of.Goals as goal

pub returns : goal.returns
returns c =
    c.in_ok-add_all.ensures
    ∙ ap (λ paths. all_noted paths c.args.texts.now) c.new-paths.ensures
    ∙ all_noted-once c.args.texts.now
