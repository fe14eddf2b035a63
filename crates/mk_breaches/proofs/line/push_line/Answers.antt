use Rattle.std.proofs.Common.{◌≡◌, ◌++◌, ℕ, List, ap, ap₂, ◌∙◌, sym, codes}
use Rattle.std.proofs.lemmas.Result.{on_ok_weaker}
use Rattle.mk_breaches.specs.Lines.{line_of, told_line}
use Rattle.mk_breaches.specs.declared.breach.Breach.TheVariants.{ReadsChanged}
use Rattle.mk_breaches.proofs.line.push_line.Goals as goal

pub returns-in-ReadsChanged : goal.returns-in-ReadsChanged
returns-in-ReadsChanged c =
    let breach : c.args.breach.now ≡ ReadsChanged c.in-ReadsChanged.n c.in-ReadsChanged.path = cc in
    on_ok_weaker c.push_told_line-in-ReadsChanged.result
    (λ is. is
    ∙ ap₂ (λ (name path : List ℕ). c.args.out.now ++ told_line (codes "reads-changed") name path)
    c.name_at-in-ReadsChanged.ensures c.bytes-in-ReadsChanged.ensures.value
    ∙ ap (λ one. c.args.out.now ++ line_of c.args.nodes.now one) (sym breach))
    c.push_told_line-in-ReadsChanged.ensures
