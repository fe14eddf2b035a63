use Rattle.std.proofs.Common.{◌≡◌, ◌+◌, ◌-◌, length, take, drop, sym, ◌∙◌, arith}
use Rattle.std.proofs.lemmas.Grind.{common_steps}
use Rattle.mk_bytes.proofs.PathLemmas.{names_on-slash, names_on-no_slash}
use Rattle.mk_bytes.proofs.path.first_name.Goals as goal

pub returns-in-Some-clause-names : goal.returns-in-Some-clause-names
returns-in-Some-clause-names c =
    let path = c.args.path.now in
    let at = c.in-Some.at in
    let rest : take (length path - (at + 1)) (drop (at + 1) path) ≡ drop (at + 1) path =
    grind (arith, common_steps) in
    rw rest (names_on-slash path at (sym c.first_slash.ensures ∙ c.in-Some.is))

pub returns-in-None-clause-names : goal.returns-in-None-clause-names
returns-in-None-clause-names c =
    names_on-no_slash c.args.path.now (sym c.first_slash.ensures ∙ c.in-None.is)
