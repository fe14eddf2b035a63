use Rattle.mk_veil.proofs.HiddenLemmas.{more-keys}
use Rattle.mk_veil.proofs.hidden.Hidden.add.Goals as goal

pub returns-clause-ok : goal.returns-clause-ok
returns-clause-ok c =
    more-keys _ _ _ _ _ c.self.view_is c.in_ok-path.ensures.items c.in_ok-insert.ensures.keys
