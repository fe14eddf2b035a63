use Rattle.mk_export.proofs.NameLemmas.{names-removed, removed-lawful}
use Rattle.mk_export.proofs.exports.Exports.remove.Goals as goal

pub returns : goal.returns
returns c = names-removed _ _ _ _ c.self.view_is c.remove.ensures.keys

pub invariant_of-self : goal.invariant_of-self
invariant_of-self c =
    removed-lawful _ c.args.self.now c.args.name.now
    (rw c.self.view_is at c.self.invariant) (returns c) c.remove.ensures.ordered
