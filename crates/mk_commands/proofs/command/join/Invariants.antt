use Rattle.std.proofs.Common.{drop}
use Rattle.mk_commands.specs.Words.{held}
use Rattle.mk_commands.proofs.JoinLemmas.{IsPartOf}
use Rattle.mk_commands.proofs.command.join.Given as goal

-- the looks so far have found a text, and the sources that are left are joined to it
abbrev pub invariant-loop-source : goal.invariant-loop-source
invariant-loop-source l =
    IsPartOf l.cwd l.target (held l.sources) l.seen (held (drop l.source-index l.sources)) l.rest
