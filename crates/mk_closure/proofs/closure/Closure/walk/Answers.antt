use Rattle.std.proofs.Common.{◌≡◌, ◌∙◌, [], ◌∷◌, Ok, length, reverse, sym, ap, subst, arith}
use Rattle.std.proofs.lemmas.Grind.{common_steps}
use Rattle.std.proofs.lemmas.List.{reverse-append}
use Rattle.std.proofs.lemmas.Result.{err_from_is_err_and}
use Rattle.mk_closure.proofs.WalkLemmas.{AreBelow-front, AreBelow-back, walk-end}
use Rattle.mk_closure.specs.Faults.{IsRefusedBy}
use Rattle.mk_closure.specs.Steps as steps
use Rattle.mk_closure.specs.Walks as spec
use Rattle.mk_graph.specs.Numbers.{AreBelow}
use Rattle.mk_suffix.proofs.LookLemmas.{ByLooks-map, ByLooks-then}
use Rattle.mk_closure.proofs.closure.Closure.walk.Goals as goal

pub visit-requires-clause-within : goal.visit-requires-clause-within
visit-requires-clause-within g c =
    let bound = length c.nodes.self.parts in
    (AreBelow-back bound c.pop.new.self.items (c.in-Some.n ∷ [])
    (subst (AreBelow bound) c.in-Some.ensures.items c.nodes.invariant.below)).0

pub visit-requires-clause-below : goal.visit-requires-clause-below
visit-requires-clause-below g c =
    let bound = length c.nodes.self.parts in
    AreBelow-front bound c.pop.new.self.items (c.in-Some.n ∷ [])
    (subst (AreBelow bound) c.in-Some.ensures.items c.nodes.invariant.below)

pub nodes-preserved : goal.nodes-preserved
nodes-preserved g c =
    let seeking = c.args.rules.now.seeking in
    let s = c.nodes.self in
    let rest = c.pop.new.self.items in
    let n = c.in-Some.n in
    let turned = ap reverse c.in-Some.ensures.items ∙ reverse-append rest (n ∷ []) in
    record {
      idle = c.in_ok-visit.ensures.idle;
      below = c.in_ok-visit.ensures.below;
      told = ByLooks-then _ _ _
          (λ files. steps.Leads (spec.entered files seeking) c.args.self.now (c.args.from ∷ []) s
          (reverse c.nodes.todo.items))
          (λ files. steps.Leads (spec.entered files seeking) s (n ∷ reverse rest)
          c.visit.new.self (reverse c.visit.new.todo.items))
          (λ files. steps.Leads (spec.entered files seeking) c.args.self.now (c.args.from ∷ [])
          c.visit.new.self (reverse c.visit.new.todo.items))
          c.nodes.invariant.told c.in_ok-visit.ensures.leads
          (λ files so_far next. so_far ∙ (ap (spec.walk (spec.entered files seeking) s) turned
          ∙ next));
      nodes = c.in_ok-visit.ensures.nodes ∙ c.nodes.invariant.nodes;
      faults = grind (arith, common_steps);
    }

pub returns-in_err-visit-clause-refused : goal.returns-in_err-visit-clause-refused
returns-in_err-visit-clause-refused g c =
    let p = err_from_is_err_and c.from_residual-in_err-visit.result
    c.from_residual-in_err-visit.ensures.1 in
    let seeking = c.args.rules.now.seeking in
    let s = c.nodes.self in
    let rest = c.pop.new.self.items in
    let n = c.in-Some.n in
    let fault = c.in_err-visit.field-0.0 in
    let turned = ap reverse c.in-Some.ensures.items ∙ reverse-append rest (n ∷ []) in
    rw (p.1, p.2) (ByLooks-then _ _ _
    (λ files. steps.Leads (spec.entered files seeking) c.args.self.now (c.args.from ∷ []) s
    (reverse c.nodes.todo.items))
    (λ files. IsRefusedBy fault (spec.walk (spec.entered files seeking) s (n ∷ reverse rest)))
    (λ files. IsRefusedBy fault
    (spec.walk (spec.entered files seeking) c.args.self.now (c.args.from ∷ [])))
    c.nodes.invariant.told c.in_err-visit.ensures.refused
    (λ files so_far refused. subst (IsRefusedBy fault)
    (sym (so_far ∙ ap (spec.walk (spec.entered files seeking) s) turned)) refused))

pub returns-clause-walked : goal.returns-clause-walked
returns-clause-walked g c =
    let seeking = c.args.rules.now.seeking in
    let s = c.nodes.self in
    let none : c.nodes.todo.items ≡ [] = grind (arith, common_steps) in
    ByLooks-map _ _
    (λ files. steps.Leads (spec.entered files seeking) c.args.self.now (c.args.from ∷ []) s
    (reverse c.nodes.todo.items))
    (λ files. spec.walk (spec.entered files seeking) c.args.self.now (c.args.from ∷ []) ≡ Ok s)
    c.nodes.invariant.told
    (λ files so_far. so_far ∙ walk-end (spec.entered files seeking) s
    (reverse c.nodes.todo.items) (ap reverse none))
