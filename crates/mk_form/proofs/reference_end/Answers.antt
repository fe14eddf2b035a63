use Rattle.std.proofs.Common.{◌≡◌, ◌+◌, length, drop, Ok}
use Rattle.std.proofs.lemmas.Result.{err_from_is_err_and}
use Rattle.mk_bytes.proofs.AgreesLemmas.{AgreesErr-bind}
use Rattle.mk_ast.specs.References.{form_at}
use Rattle.mk_ast.specs.View.{part_view}
use Rattle.mk_ast.specs.declared.fault.AstFault.TheVariants.{NoMemory as no_memory}
use Rattle.mk_ast.proofs.WholeLemmas.{form-at, form-placed}
use Rattle.mk_form.proofs.reference_end.Goals as goal

pub returns-clause-spelled : goal.returns-clause-spelled
returns-clause-spelled c =
    let text = c.args.text.now in
    let rest = c.in_ok-_part.rest.now in
    let form = part_view c.in_ok-_part._part in
    let read : form_at (length text) (drop (c.args.at + 1) text) ≡ Ok (form, rest) =
    rw (← c.skip.ensures) c.in_ok-_part.ensures.exact in
    form-at text rest c.args.at form c.requires.inside c.requires.form read

pub returns-in_err-_part-clause-placed : goal.returns-in_err-_part-clause-placed
returns-in_err-_part-clause-placed c =
    let text = c.args.text.now in
    let is = err_from_is_err_and c.from_residual.result c.from_residual.ensures.1 in
    let fault = c.in_err-_part.field-0.0 in
    let gives = rw (c.skip.ensures) at c.in_err-_part.ensures.exact in
    rw (is.1, is.2) (form-placed text c.args.at fault c.requires.inside c.requires.form
    (AgreesErr-bind no_memory fault _ _ gives))
