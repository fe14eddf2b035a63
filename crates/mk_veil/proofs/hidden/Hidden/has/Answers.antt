use Rattle.std.proofs.Common.{◌∙◌, ap}
use Rattle.mk_bytes.specs.Texts.{is_among}
use Rattle.mk_veil.proofs.HiddenLemmas.{has-keys}
use Rattle.mk_veil.proofs.hidden.Hidden.has.Goals as goal

pub returns : goal.returns
returns c =
    c.contains.ensures ∙ has-keys c.self.inside.paths.keys c.args.path.now
    ∙ ap (λ paths. is_among paths c.args.path.now) c.self.view_is
