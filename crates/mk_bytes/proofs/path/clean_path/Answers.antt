use Rattle.std.proofs.Common.{◌∙◌, sym}
use Rattle.mk_bytes.proofs.PathLemmas.{clean-names}
use Rattle.mk_bytes.proofs.path.clean_path.Goals as goal

pub returns-then-are_names : goal.returns-then-are_names
returns-then-are_names c =
    rw (clean-names c.args.cwd.now c.args.path.now (sym c.are_names.ensures ∙ c.if-are_names.true))
    c.from_bytes.ensures
