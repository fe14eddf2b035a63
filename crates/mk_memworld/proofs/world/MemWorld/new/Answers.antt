use Rattle.mk_commands.specs.Meaning.{language}
use Rattle.mk_memworld.proofs.BaseLemmas.{fresh-lawful}
use Rattle.mk_memworld.proofs.world.MemWorld.new.Goals as goal

pub returns-clause-lawful : goal.returns-clause-lawful
returns-clause-lawful c =
    fresh-lawful language c.args.files c.in_ok-chronicle.field-0 c.in_ok-chronicle.ensures
