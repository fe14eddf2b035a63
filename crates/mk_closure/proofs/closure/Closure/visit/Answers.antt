use Rattle.std.proofs.Common.{◌≡◌, ◌∙◌, ◌+◌, ◌<◌, ◌≤◌, ◌^◌, ◌∷◌, ◌++◌, Ok, length, reverse, sym, ap, subst, length-append}
use Rattle.std.proofs.lemmas.List.{length-reverse}
use Rattle.std.proofs.lemmas.Result.{err_from_is_err_and}
use Rattle.mk_closure.proofs.MemberLemmas.{AreBelow-append, listed-short}
use Rattle.mk_closure.proofs.WalkLemmas.{walk-over, walk-new, walk-refused, turned-first}
use Rattle.mk_closure.proofs.WalkLemmas.{AreBelow-more, AreBelow-reverse, fewer-met}
use Rattle.mk_closure.specs.Faults.{IsRefusedBy}
use Rattle.mk_closure.specs.Members.{listed, sources_in}
use Rattle.mk_closure.specs.Steps as steps
use Rattle.mk_closure.specs.Walks as spec
use Rattle.mk_suffix.proofs.LookLemmas.{ByLooks-map, ByLooks-none}
use Rattle.mk_closure.proofs.closure.Closure.visit.Goals as goal

pub returns-then-is_over-clause-leads : goal.returns-then-is_over-clause-leads
returns-then-is_over-clause-leads g c =
    ByLooks-none _
    (λ files. steps.Leads (spec.entered files c.args.rules.now.seeking) c.args.self.now
    (c.args.n ∷ reverse c.args.todo.now.items) c.args.self.now (reverse c.args.todo.now.items))
    (λ files. walk-over (spec.entered files c.args.rules.now.seeking) c.args.self.now c.args.n
    (reverse c.args.todo.now.items) (sym c.is_over.ensures.value ∙ c.if-is_over.true))

pub returns-in_err-enter-clause-refused : goal.returns-in_err-enter-clause-refused
returns-in_err-enter-clause-refused g c =
    let p = err_from_is_err_and c.from_residual.result c.from_residual.ensures.1 in
    let fault = c.in_err-enter.field-0.0 in
    let todo = c.args.todo.now.items in
    rw (p.1, p.2) (ByLooks-map _ _
    (λ files. IsRefusedBy fault (spec.entered files c.args.rules.now.seeking c.args.self.now c.args.n))
    (λ files. IsRefusedBy fault (spec.walk (spec.entered files c.args.rules.now.seeking)
    c.args.self.now (c.args.n ∷ reverse todo)))
    c.in_err-enter.ensures.refused
    (λ files refused. walk-refused (spec.entered files c.args.rules.now.seeking) c.args.self.now
    c.args.n (reverse todo) fault (sym c.is_over.ensures.value ∙ c.if-is_over.false)
    (c.is_over.ensures.room c.if-is_over.false) refused))

pub returns-clause-leads : goal.returns-clause-leads
returns-clause-leads g c =
    let todo = c.args.todo.now.items in
    let later = c.enter.new.self in
    let pushed = c.in_ok-push_sources.ensures
    ∙ ap (λ l. todo ++ reverse l) c.sources.ensures.value in
    let turned = turned-first todo c.push_sources.new.todo.items (sources_in later c.args.n) pushed in
    ByLooks-map _ _
    (λ files. spec.entered files c.args.rules.now.seeking c.args.self.now c.args.n ≡ Ok later)
    (λ files. steps.Leads (spec.entered files c.args.rules.now.seeking) c.args.self.now
    (c.args.n ∷ reverse todo) later (reverse c.push_sources.new.todo.items))
    c.in_ok-enter.ensures.entered
    (λ files is. walk-new (spec.entered files c.args.rules.now.seeking) c.args.self.now later c.args.n
    (reverse todo) (sym c.is_over.ensures.value ∙ c.if-is_over.false)
    (c.is_over.ensures.room c.if-is_over.false) c.in_ok-enter.ensures.met is
    ∙ ap (spec.walk (spec.entered files c.args.rules.now.seeking) later) (sym turned))

pub returns-clause-below : goal.returns-clause-below
returns-clause-below g c =
    let later = c.enter.new.self in
    let sources = listed c.sources.result in
    rw c.in_ok-push_sources.ensures
    (AreBelow-append (length later.parts) c.args.todo.now.items (reverse sources)
    (AreBelow-more (length c.args.self.now.parts) (length later.parts) c.args.todo.now.items
    c.in_ok-enter.ensures.met.longer c.requires.below)
    (AreBelow-reverse (length later.parts) sources c.sources.ensures.below))

pub returns-clause-fewer : goal.returns-clause-fewer
returns-clause-fewer g c =
    let todo = c.args.todo.now.items in
    let sources = listed c.sources.result in
    let later = c.enter.new.self in
    let long = ap length c.in_ok-push_sources.ensures
    ∙ (length-append todo (reverse sources)
    ∙ ap (λ k. length todo + k) (length-reverse sources)) in
    let short : length sources < 2 ^ 33 =
    listed-short c.sources.result.own.now c.sources.result.of_rule c.sources.ensures.short in
    subst (λ k. steps.steps_left later k ≤ steps.steps_left c.args.self.now (length todo))
    (sym long)
    (fewer-met c.args.self.now later (length todo) (length sources)
    (c.is_over.ensures.room c.if-is_over.false) c.in_ok-enter.ensures.met short)
