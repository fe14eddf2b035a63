use Rattle.mk_mods.specs.Parts.{is_slash}
use Rattle.mk_mods.proofs.SearchLemmas.{last_place-is}
use Rattle.mk_mods.proofs.part.last_slash.Goals as goal

pub returns-clause-value : goal.returns-clause-value
returns-clause-value c =
    last_place-is is_slash c.args.word.now c.memrchr.result c.memrchr.ensures
