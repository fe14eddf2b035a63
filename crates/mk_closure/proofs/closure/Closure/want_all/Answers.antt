use Rattle.std.proofs.Common.{◌≡◌, ◌∙◌, ◌+◌, ◌∷◌, drop, Ok, arith}
use Rattle.std.proofs.lemmas.Grind.{common_steps}
use Rattle.std.proofs.lemmas.List.{drop_all}
use Rattle.std.proofs.lemmas.Result.{err_from_is_err_and}
use Rattle.mk_closure.proofs.WalkLemmas.{all_met-next, all_met-refused, all_met-end}
use Rattle.mk_closure.specs.Faults.{IsRefusedBy}
use Rattle.mk_closure.specs.Walks as spec
use Rattle.mk_suffix.proofs.LookLemmas.{ByLooks-map, ByLooks-then}
use Rattle.mk_closure.proofs.closure.Closure.want_all.Goals as goal

pub returns-in_err-want-clause-refused : goal.returns-in_err-want-clause-refused
returns-in_err-want-clause-refused g c =
    let p = err_from_is_err_and c.from_residual.result c.from_residual.ensures.1 in
    let seeking = c.args.rules.now.seeking in
    let s = c.loop-name.self in
    let i = c.loop-name.name-index in
    let all = c.args.wanted.now in
    let name = c.bytes.result.now in
    let fault = c.in_err-want.field-0.0 in
    let are : drop i all ≡ name ∷ drop (i + 1) all = grind (arith, common_steps) in
    rw (p.1, p.2) (ByLooks-then _ _ _
    (λ files. spec.all_met (spec.entered files seeking) c.args.self.now all
    ≡ spec.all_met (spec.entered files seeking) s (drop i all))
    (λ files. IsRefusedBy fault (spec.wanted_met (spec.entered files seeking) s name))
    (λ files. IsRefusedBy fault (spec.all_met (spec.entered files seeking) c.args.self.now all))
    c.loop-name.invariant.met c.in_err-want.ensures.refused
    (λ files so_far refused. all_met-refused (spec.entered files seeking) _ s (drop i all) name
    (drop (i + 1) all) fault are so_far refused))

pub loop-name-preserved : goal.loop-name-preserved
loop-name-preserved g c =
    let seeking = c.args.rules.now.seeking in
    let s = c.loop-name.self in
    let i = c.loop-name.name-index in
    let all = c.args.wanted.now in
    let name = c.bytes.result.now in
    let are : drop i all ≡ name ∷ drop (i + 1) all = grind (arith, common_steps) in
    record {
      idle = c.in_ok-want.ensures.idle;
      met = ByLooks-then _ _ _
          (λ files. spec.all_met (spec.entered files seeking) c.args.self.now all
          ≡ spec.all_met (spec.entered files seeking) s (drop i all))
          (λ files. spec.wanted_met (spec.entered files seeking) s name ≡ Ok c.want.new.self)
          (λ files. spec.all_met (spec.entered files seeking) c.args.self.now all
          ≡ spec.all_met (spec.entered files seeking) c.want.new.self (drop (i + 1) all))
          c.loop-name.invariant.met c.in_ok-want.ensures.met
          (λ files so_far is. all_met-next (spec.entered files seeking) _ s c.want.new.self
          (drop i all) name (drop (i + 1) all) are so_far is);
      nodes = c.in_ok-want.ensures.nodes ∙ c.loop-name.invariant.nodes;
      faults = grind (arith, common_steps);
    }

pub returns-clause-met : goal.returns-clause-met
returns-clause-met g c =
    let seeking = c.args.rules.now.seeking in
    let s = c.loop-name.self in
    let i = c.loop-name.name-index in
    let all = c.args.wanted.now in
    ByLooks-map _ _
    (λ files. spec.all_met (spec.entered files seeking) c.args.self.now all
    ≡ spec.all_met (spec.entered files seeking) s (drop i all))
    (λ files. spec.all_met (spec.entered files seeking) c.args.self.now all ≡ Ok s)
    c.loop-name.invariant.met
    (λ files so_far. so_far ∙ all_met-end (spec.entered files seeking) s (drop i all)
    (drop_all i all (omega arith)))
