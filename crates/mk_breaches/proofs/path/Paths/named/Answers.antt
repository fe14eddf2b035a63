use Rattle.std.proofs.Common.{◌∙◌, ap, flat_map}
use Rattle.mk_filemon.specs.Outer.{ops_of}
use Rattle.mk_breaches.specs.Held.{all_noted, noted}
use Rattle.mk_breaches.specs.Paths.{paths_of}
use Rattle.mk_breaches.proofs.PathLemmas.{all_noted-once, noted-once}
use Rattle.mk_breaches.proofs.path.Paths.named.Goals as goal

pub returns : goal.returns
returns c =
    let all = flat_map paths_of (ops_of c.args.records.now) in
    c.in_ok-add.ensures
    ∙ ap (λ paths. noted paths c.args.name.now)
    (c.in_ok-add_all_named.ensures ∙ ap (λ paths. all_noted paths all) c.new-paths.ensures ∙ all_noted-once all)
    ∙ noted-once all c.args.name.now
