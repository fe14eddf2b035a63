use Rattle.std.proofs.Common.{refl, [], ◌∷◌, ◌++◌}
use Rattle.std.proofs.lemmas.Result.{on_ok_weaker}
use Rattle.mk_suffix.proofs.WayLemmas.{as_was_or_grew, pushed_are, pushed_behind}
use Rattle.mk_suffix.specs.SearchView.{AreBehind}
use Rattle.mk_suffix.proofs.step.Search.push.Goals as goal

pub invariant_of-self : goal.invariant_of-self
invariant_of-self c =
    let steps = c.self.inside.steps in
    as_was_or_grew c.push.result (AreBehind 1) steps (steps ++ c.args.step ∷ []) c.push.new.self
    c.push.ensures.ok c.push.ensures.err
    (pushed_behind c.self.inside.own.now steps c.args.self.now c.self.invariant c.self.view_is
    (steps ++ c.args.step ∷ []) c.args.step refl c.requires) c.self.invariant

pub returns-clause-ok : goal.returns-clause-ok
returns-clause-ok c =
    on_ok_weaker c.push.result
    (λ is. pushed_are c.self.inside.own.now c.self.inside.steps c.args.self.now c.self.invariant
    c.self.view_is _ c.args.step is) c.push.ensures.ok
