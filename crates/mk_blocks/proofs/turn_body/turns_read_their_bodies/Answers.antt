use Rattle.mk_blocks.proofs.TurnBodyLemmas.{turns-read-bodies}
use Rattle.mk_blocks.proofs.turn_body.turns_read_their_bodies.Goals as goal

pub returns : goal.returns
returns g c = λ answers. turns-read-bodies _ g.L.Language.ties.kind (g.L.Language.ties.meaning answers)
