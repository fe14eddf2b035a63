use Rattle.mk_export.proofs.NameLemmas.{added-lawful, names-added}
use Rattle.mk_export.proofs.exports.Exports.add.Goals as goal

pub returns-clause-ok : goal.returns-clause-ok
returns-clause-ok c =
    names-added _ _ _ _ _ c.self.view_is c.in_ok-name.ensures.items c.in_ok-insert.ensures.keys

pub invariant_of-self-2 : goal.invariant_of-self-2
invariant_of-self-2 c =
    added-lawful _ c.args.self.now c.args.name.now c.requires.name
    (rw c.self.view_is at c.self.invariant) (returns-clause-ok c) c.insert.ensures.ordered
