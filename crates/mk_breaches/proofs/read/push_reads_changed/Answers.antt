use Rattle.std.proofs.Common.{◌++◌, ap, ◌∙◌, map}
use Rattle.std.proofs.lemmas.Result.{on_ok_weaker}
use Rattle.mk_breaches.specs.Held.{rows_in}
use Rattle.mk_breaches.specs.declared.breach.Breach.TheVariants.{ReadsChanged}
use Rattle.mk_breaches.proofs.BreachLemmas.{changed-reads}
use Rattle.mk_breaches.proofs.read.push_reads_changed.Goals as goal

pub returns : goal.returns
returns c =
    on_ok_weaker c.push_changed.result
    (λ is. is ∙ ap (λ paths. c.args.all.now ++ map (ReadsChanged c.args.n) paths)
    (changed-reads (rows_in c.args.table.now) c.args.nodes.now c.requires c.args.reads.now))
    c.push_changed.ensures
