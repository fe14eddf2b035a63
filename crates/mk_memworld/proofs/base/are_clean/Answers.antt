use Rattle.std.proofs.Common.{◌≡◌, IfOk, subst}
use Rattle.mk_memworld.specs.Base.{are_clean}
use Rattle.mk_memworld.proofs.base.are_clean.Goals as goal

pub returns : goal.returns
returns c =
    subst (λ files. IfOk c.all_clean.result (λ are. are ≡ are_clean c.args.cwd.now files))
    c.as_slice.ensures.value c.all_clean.ensures
