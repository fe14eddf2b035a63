use Rattle.std.proofs.Common.{◌++◌, ◌||◌, filter, ap, ◌∙◌, map}
use Rattle.std.proofs.lemmas.Result.{on_ok_weaker}
use Rattle.mk_filemon.specs.Outer.{once}
use Rattle.mk_breaches.specs.Breaches.{is_changed, is_hidden}
use Rattle.mk_breaches.specs.Held.{rows_in}
use Rattle.mk_breaches.specs.declared.breach.Breach.TheVariants.{Exists}
use Rattle.mk_breaches.proofs.BreachLemmas.{unsettled-asked}
use Rattle.mk_breaches.proofs.found.push_exists.Goals as goal

pub returns : goal.returns
returns c =
    let nodes = c.args.nodes.now in
    on_ok_weaker c.push_unsettled.result
    (λ is. is ∙ ap (λ paths. c.args.all.now ++ map (Exists c.args.n) paths)
    (unsettled-asked (rows_in c.args.table.now) nodes c.requires _
    ∙ ap (filter (λ path. is_hidden nodes path || is_changed nodes path))
    (c.in_ok-asked.ensures ∙ ap once c.as_slice.ensures.value)))
    c.push_unsettled.ensures
