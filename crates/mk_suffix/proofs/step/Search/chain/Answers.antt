use Rattle.std.proofs.Common.{◌≡◌, ◌∙◌, [], ◌∷◌, ◌++◌, ap, sym, refl, arith}
use Rattle.std.proofs.Common.{append_assoc}
use Rattle.mk_suffix.proofs.WayLemmas.{as_many_ways, own_way_is, way_is, to_is_before}
use Rattle.mk_suffix.specs.Search.{Way, own_way, way_at}
use Rattle.mk_suffix.specs.SearchView.{way_of, made_by}
use Rattle.mk_suffix.proofs.step.Search.chain.Goals as goal
use Rattle.mk_suffix.proofs.step.Search.chain.Goals.{After-step-1}

pub steps-init : goal.steps-init
steps-init c = record {
  names = rw c.in_ok-names.ensures.empty refl;
  rules = rw c.in_ok-rules.ensures.empty refl;
  within = c.requires;
}

pub get-step-requires : goal.get-step-requires
get-step-requires c =
    let self = c.self-in-steps in
    let many = as_many_ways self.inside.own.now self.inside.steps c.args.self.now self.invariant
    self.view_is in
    omega (arith, many, c.steps.invariant.within, c.if-step-eq0.false)

pub steps-smaller : goal.steps-smaller
steps-smaller c =
    let self = c.self-in-steps in
    to_is_before self.inside.own.now self.inside.steps c.args.self.now self.invariant self.view_is
    c.steps.step.to c.get-step.result.now c.if-step-eq0.false c.steps.invariant.within
    c.get-step.ensures

-- the chain from the next step
next : (c : After-step-1) → way_at c.args.self.now c.steps.step.to
    ≡ way_of c.args.self.now c.get-step.result.now
next c =
    let self = c.self-in-steps in
    way_is self.inside.own.now self.inside.steps c.args.self.now self.invariant self.view_is
    c.steps.step.to c.get-step.result.now c.if-step-eq0.false c.steps.invariant.within
    c.get-step.ensures

pub steps-preserved : goal.steps-preserved
steps-preserved c =
    let base = c.args.base.now in
    let step = c.steps.step in
    let later = next c in
    let self = c.self-in-steps in
    let before = to_is_before self.inside.own.now self.inside.steps c.args.self.now self.invariant
    self.view_is step.to c.get-step.result.now c.if-step-eq0.false c.steps.invariant.within
    c.get-step.ensures in
    record {
      names =
          c.steps.invariant.names
          ∙ (ap (λ (way : Way). c.steps.names ++ (base ++ step.suffix.now)
          ∷ (made_by base way).names) later
          ∙ (sym (append_assoc c.steps.names ((base ++ step.suffix.now) ∷ [])
          (made_by base (way_of c.args.self.now c.get-step.result.now)).names)
          ∙ rw (c.in_ok-push.ensures.ok, c.in_ok-joined.ensures) refl));
      rules =
          c.steps.invariant.rules
          ∙ (ap (λ (way : Way). c.steps.rules ++ step.rule ∷ way.rules) later
          ∙ (sym (append_assoc c.steps.rules (step.rule ∷ [])
          (way_of c.args.self.now c.get-step.result.now).rules)
          ∙ rw (c.in_ok-push-2.ensures.ok) refl));
      within = omega (arith, before, c.steps.invariant.within);
    }

pub returns-then-step-eq0 : goal.returns-then-step-eq0
returns-then-step-eq0 c =
    let base = c.args.base.now in
    let step = c.steps.step in
    let own = c.self.inside.own.now in
    let none : way_at c.args.self.now step.to ≡ own_way own =
    ap (way_at c.args.self.now) c.if-step-eq0.true
    ∙ own_way_is own c.self.inside.steps c.args.self.now c.self.invariant c.self.view_is in
    let names : c.push-then-step-eq0.new.self
    ≡ (made_by base (way_of c.args.self.now c.args.first)).names =
    rw (
      c.in_ok-push-3.ensures.ok,
      c.in_ok-joined-2.ensures,
      c.in_ok-push.ensures.ok,
      c.in_ok-joined.ensures,
    )
    (append_assoc c.steps.names ((base ++ step.suffix.now) ∷ []) ((base ++ own) ∷ [])
    ∙ sym (c.steps.invariant.names
    ∙ ap (λ (way : Way). c.steps.names ++ (base ++ step.suffix.now) ∷ (made_by base way).names)
    none)) in
    let rules : c.push-in-steps.new.self ≡ (way_of c.args.self.now c.args.first).rules =
    rw (c.in_ok-push-2.ensures.ok)
    (sym (c.steps.invariant.rules
    ∙ ap (λ (way : Way). c.steps.rules ++ step.rule ∷ way.rules) none)) in
    rw (names, rules) refl
