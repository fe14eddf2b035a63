use Rattle.std.proofs.Common.{◌∙◌, ap, flat_map}
use Rattle.mk_filemon.specs.Outer.{ops_of}
use Rattle.mk_breaches.specs.Held.{all_noted}
use Rattle.mk_breaches.specs.Paths.{changed_by}
use Rattle.mk_breaches.proofs.PathLemmas.{all_noted-once}
use Rattle.mk_breaches.proofs.path.Paths.changed.Goals as goal

pub returns : goal.returns
returns c =
    c.in_ok-add_all_changed.ensures
    ∙ ap (λ paths. all_noted paths (flat_map changed_by (ops_of c.args.records.now))) c.new-paths.ensures
    ∙ all_noted-once (flat_map changed_by (ops_of c.args.records.now))
