use Rattle.std.proofs.Common.{sym, ◌∙◌}
use Rattle.mk_commands.proofs.BelowLemmas.{first-to, first-whole}
use Rattle.mk_commands.proofs.below.first_name.Goals as goal

pub returns-in-Some : goal.returns-in-Some
returns-in-Some c =
    first-to c.args.path.now c.in-Some.at (sym c.first_slash.ensures ∙ c.in-Some.is)

pub returns-in-None : goal.returns-in-None
returns-in-None c = first-whole c.args.path.now (sym c.first_slash.ensures ∙ c.in-None.is)
