use Rattle.std.proofs.Common.{◌++◌, ◌&&◌, ℕ, List, is_none, filter, ap, ap₂, ◌∙◌, map, append_assoc}
use Rattle.std.proofs.lemmas.Result.{on_ok_weaker}
use Rattle.mk_breaches.specs.Breaches.{is_apart, is_changed, maker_of}
use Rattle.mk_breaches.specs.declared.breach.Breach.{Breach}
use Rattle.mk_breaches.specs.declared.breach.Breach.TheVariants.{ReadsChanged, ReadsMade}
use Rattle.mk_breaches.proofs.breach.push_reads.Goals as goal

pub returns : goal.returns
returns c =
    let nodes = c.args.nodes.now in
    let made = λ (reads : List (List ℕ)). map (ReadsMade c.args.n)
    (filter (λ path. is_apart nodes c.args.n (maker_of nodes path)) reads) in
    let changed = λ (reads : List (List ℕ)). map (ReadsChanged c.args.n)
    (filter (λ path. is_none (maker_of nodes path) && is_changed nodes path) reads) in
    on_ok_weaker c.push_reads_changed.result
    (λ is. is
    ∙ ap₂ (λ (before : List Breach) (reads : List (List ℕ)). before ++ changed reads)
    (c.in_ok-push_reads_made.ensures
    ∙ ap (λ reads. c.args.all.now ++ made reads) (c.as_slice.ensures.value ∙ c.in_ok-reads.ensures))
    (c.as_slice-2.ensures.value ∙ c.in_ok-reads.ensures)
    ∙ append_assoc c.args.all.now _ _)
    c.push_reads_changed.ensures
