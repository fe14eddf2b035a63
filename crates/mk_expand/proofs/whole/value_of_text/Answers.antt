use Rattle.std.proofs.Common.{[], sym, ap, ◌∙◌}
use Rattle.mk_values.specs.Evaluators.{progress}
use Rattle.mk_values.specs.Names.{context}
use Rattle.mk_values.specs.Value.{finder, of_text}
use Rattle.mk_values.proofs.FactLemmas.{agrees_asked, asks_nothing, gives_at, never_fails, refused_behind, Asks-none}
use Rattle.mk_values.proofs.FaultLemmas.{never-appended}
use Rattle.mk_values.proofs.PlainLemmas.{text_value-plain}
use Rattle.mk_expand.proofs.whole.value_of_text.Goals as goal

pub returns-clause-value : goal.returns-clause-value
returns-clause-value g c = λ answers by.
    let first = c.in_ok-run.ensures in
    agrees_asked _ _ _
    (rw (first.0, first.1, first.2, first.3) at (c.text_value.ensures.value answers by))

pub returns-clause-questions : goal.returns-clause-questions
returns-clause-questions g c =
    let first = c.in_ok-run.ensures in
    refused_behind _ _
    (λ answers. (of_text c.args.scopes.now c.args.locals.now (g.F.Facts.lists c.args.facts.now)
    answers c.args.keep (g.F.Facts.asked c.args.facts.now) c.args.text.now).answer)
    (λ answers by.
    rw (first.0, first.1, first.2, first.3) at (c.text_value.ensures.value answers by))

pub returns-then-not-has_dollar-clause-value : goal.returns-then-not-has_dollar-clause-value
returns-then-not-has_dollar-clause-value g c =
    let none = sym c.has_dollar.ensures ∙ c.if-not-has_dollar.true in
    let asked = g.F.Facts.asked c.args.facts.now in
    λ answers by.
    let here = context c.args.scopes.now c.args.locals.now (g.F.Facts.lists c.args.facts.now) answers
    c.args.keep in
    agrees_asked (progress 0 asked) _ _
    (rw (ap (λ one. one.answer) (text_value-plain finder here (progress 0 asked) c.args.text.now none))
    (gives_at (λ value. value) (progress 0 asked) c.plain_value.result _ c.plain_value.ensures))

pub returns-then-not-has_dollar-clause-questions : goal.returns-then-not-has_dollar-clause-questions
returns-then-not-has_dollar-clause-questions g c =
    let none = sym c.has_dollar.ensures ∙ c.if-not-has_dollar.true in
    let asked = g.F.Facts.asked c.args.facts.now in
    refused_behind (progress 0 asked) _
    (λ answers. (of_text c.args.scopes.now c.args.locals.now (g.F.Facts.lists c.args.facts.now)
    answers c.args.keep asked c.args.text.now).answer)
    (λ answers by.
    let here = context c.args.scopes.now c.args.locals.now (g.F.Facts.lists c.args.facts.now) answers
    c.args.keep in
    rw (ap (λ one. one.answer) (text_value-plain finder here (progress 0 asked) c.args.text.now none))
    (gives_at (λ value. value) (progress 0 asked) c.plain_value.result _ c.plain_value.ensures))

pub returns-then-not-has_dollar-clause-asked : goal.returns-then-not-has_dollar-clause-asked
returns-then-not-has_dollar-clause-asked g c = asks_nothing _

pub returns-then-not-has_dollar-clause-cause : goal.returns-then-not-has_dollar-clause-cause
returns-then-not-has_dollar-clause-cause g c =
    let asks = Asks-none (g.met.F.Facts.stays c.args.facts.now) (g.F.Facts.lists c.args.facts.now) (g.F.Facts.asked c.args.facts.now)
    (g.F.Facts.faults c.args.facts.now) c.plain_value.result
    (never_fails _ _ _ c.plain_value.ensures (never-appended [] c.args.text.now)) in
    asks.cause

pub returns-then-not-has_dollar-clause-leads : goal.returns-then-not-has_dollar-clause-leads
returns-then-not-has_dollar-clause-leads g c = g.met.F.Facts.stays c.args.facts.now
