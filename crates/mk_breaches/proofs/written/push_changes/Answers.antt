use Rattle.std.proofs.Common.{◌++◌, ◌&&◌, not, filter, ap, ◌∙◌, map}
use Rattle.std.proofs.lemmas.Result.{on_ok_weaker}
use Rattle.mk_filemon.specs.Outer.{ops_of}
use Rattle.mk_breaches.specs.Breaches.{is_own, is_shared}
use Rattle.mk_breaches.specs.Held.{rows_in}
use Rattle.mk_breaches.specs.Paths.{changed_paths}
use Rattle.mk_breaches.specs.declared.breach.Breach.TheVariants.{Changes}
use Rattle.mk_breaches.proofs.BreachLemmas.{shared-changes}
use Rattle.mk_breaches.proofs.written.push_changes.Goals as goal

pub returns : goal.returns
returns c =
    let nodes = c.args.nodes.now in
    on_ok_weaker c.push_shared.result
    (λ is. is ∙ ap (λ paths. c.args.all.now ++ map (Changes c.args.n) paths)
    (shared-changes (rows_in c.args.table.now) nodes c.requires c.args.n c.args.node.now _
    ∙ ap (filter (λ path. not (is_own c.args.node.now path) && is_shared nodes c.args.n path))
    (c.in_ok-changed.ensures ∙ ap (λ records. changed_paths (ops_of records)) c.as_slice.ensures.value)))
    c.push_shared.ensures
