use Rattle.std.proofs.Common.{◌++◌, sym, subst, ap, ◌∙◌}
use Rattle.std.specs.Option.{option_copied}
use Rattle.mk_world.specs.Listings.{AreInOrder}
use Rattle.mk_wild.specs.Wild.{taken}
use Rattle.mk_wild.proofs.OrderLemmas.{one-in-order}
use Rattle.mk_wild.proofs.WildLemmas.{added-nothing, at-most-nothing, on-err, taken-in-order}
use Rattle.mk_wild.proofs.pattern.wild.Goals as goal

pub returns-in_err-itself-clause-nothing : goal.returns-in_err-itself-clause-nothing
returns-in_err-itself-clause-nothing g c = λ plain. added-nothing g.W.World.meaning _

pub returns-in_err-itself-clause-refused : goal.returns-in_err-itself-clause-refused
returns-in_err-itself-clause-refused g c =
    on-err _ (at-most-nothing g.W.World.meaning _ _ _ (added-nothing g.W.World.meaning _))

pub returns-then-not-is_pattern-clause-nothing : goal.returns-then-not-is_pattern-clause-nothing
returns-then-not-is_pattern-clause-nothing g c = λ plain. added-nothing g.W.World.meaning _

pub returns-then-not-is_pattern-clause-ordered : goal.returns-then-not-is_pattern-clause-ordered
returns-then-not-is_pattern-clause-ordered g c =
    subst AreInOrder (sym c.in_ok-itself.ensures) (one-in-order c.args.name.now)

pub returns-clause-ordered : goal.returns-clause-ordered
returns-clause-ordered g c =
    subst AreInOrder
    (sym (c.in_ok-push_taken.ensures
    ∙ ap (λ l. l ++ taken c.args.name.now (option_copied c.as_ref.result)) c.in_ok-paths.ensures.empty
    ∙ ap (taken c.args.name.now) c.as_ref.ensures.value))
    (taken-in-order c.args.name.now c.in_ok-names.names c.in_ok-names.ensures.ordered)
