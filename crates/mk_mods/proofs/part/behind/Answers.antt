use Rattle.mk_mods.proofs.PieceLemmas.{bytes_of-behind}
use Rattle.mk_mods.proofs.part.behind.Goals as goal

pub returns-clause-shown : goal.returns-clause-shown
returns-clause-shown c =
    bytes_of-behind c.args.region.now.bytes c.args.word.start c.args.word.end c.args.at c.requires.at
