use Rattle.std.proofs.Common.{refl}
use Rattle.std.specs.Option.{option_copied}
use Rattle.std.proofs.lemmas.Result.{err_from_is_err_and}
use Rattle.mk_reader.proofs.DependencyLemmas.{added-given, added-refused}
use Rattle.mk_reader.proofs.reader.Reader.add_listed.Goals as goal

pub returns-in_err-add_line : goal.returns-in_err-add_line
returns-in_err-add_line g c =
    let p = err_from_is_err_and c.from_residual.result c.from_residual.ensures.1 in
    rw (p.1, p.2)
    (added-refused _ _ _
    (record { world = refl; err = refl; state = refl; order = refl; same = refl }) refl refl (option_copied c.args.command) c.args.line.now _
    c.in_err-add_line.ensures.refused)

pub returns : goal.returns
returns g c =
    added-given _ _ _
    (record { world = refl; err = refl; state = refl; order = refl; same = refl }) refl refl (option_copied c.args.command) c.args.line.now
    c.add_line.new.rules c.in_ok-add_line.ensures.done refl
