use Rattle.std.proofs.Common.{◌≡◌, ◌++◌, [], ℕ, List, false, sym, ap, ◌∙◌, map}
use Rattle.std.proofs.lemmas.List.{append-nil}
use Rattle.std.proofs.lemmas.Result.{on_ok_weaker}
use Rattle.std.specs.List.{list_any}
use Rattle.mk_breaches.specs.Breaches.{sources_at}
use Rattle.mk_breaches.specs.Held.{rows_in}
use Rattle.mk_breaches.specs.Walks.{is_distant}
use Rattle.mk_breaches.specs.declared.breach.Breach.TheVariants.{ReadsMade}
use Rattle.mk_breaches.proofs.BreachLemmas.{near-reads, unmet-reads}
use Rattle.mk_breaches.proofs.read.push_reads_made.Goals as goal

pub returns-then-not-any_distant : goal.returns-then-not-any_distant
returns-then-not-any_distant c =
    let none : list_any (λ path. is_distant (sources_at c.args.nodes.now c.args.n)
    (rows_in c.args.table.now path).maker) c.args.reads.now ≡ false =
    ap (λ (sources : List ℕ). list_any
    (λ path. is_distant sources (rows_in c.args.table.now path).maker) c.args.reads.now)
    (sym c.sources_at.ensures)
    ∙ sym c.any_distant.ensures ∙ c.if-not-any_distant.true in
    sym (append-nil c.args.all.now)
    ∙ ap (λ paths. c.args.all.now ++ map (ReadsMade c.args.n) paths)
    (sym (near-reads (rows_in c.args.table.now) c.args.nodes.now c.requires c.args.n c.args.reads.now none))

pub returns : goal.returns
returns c =
    on_ok_weaker c.push_unmet.result
    (λ is. is ∙ ap (λ paths. c.args.all.now ++ map (ReadsMade c.args.n) paths)
    (unmet-reads (rows_in c.args.table.now) c.args.nodes.now c.requires c.args.n c.in_ok-met.met.keys
    c.in_ok-met.ensures c.args.reads.now))
    c.push_unmet.ensures
