use Rattle.std.proofs.Common.{◌≡◌, true, false, refl, rules}
use Rattle.std.proofs.lemmas.Result.{err_from_is_err_and}
use Rattle.mk_directive.specs.Words.{words_of}
use Rattle.mk_makefile.specs.Exports.{are_export_names}
use Rattle.mk_makefile.specs.declared.fault.What.TheVariants.{ExportForm}
use Rattle.mk_reader.proofs.StepLemmas.{changed-given, changed-want, changed-wrong}
use Rattle.mk_reader.proofs.reader.Reader.unexport_words.Goals as goal

pub returns-in_err-names : goal.returns-in_err-names
returns-in_err-names g c =
    let p = err_from_is_err_and c.from_residual.result c.from_residual.ensures.1 in
    rw (p.1, p.2)
    (changed-want _ _ _
    (record { world = refl; err = refl; state = refl; order = refl; same = refl }) _ _ refl refl)

pub returns-then-not-are_export_names : goal.returns-then-not-are_export_names
returns-then-not-are_export_names g c =
    let none : are_export_names (words_of c.args.text.now) ≡ false = search rules in
    changed-wrong _ _ _
    (record { world = refl; err = refl; state = refl; order = refl; same = refl }) _ _ refl refl
    ExportForm (λ answers. rw none refl)

pub returns : goal.returns
returns g c =
    let some : are_export_names (words_of c.args.text.now) ≡ true = search rules in
    changed-given _ _ _
    (record { world = refl; err = refl; state = refl; order = refl; same = refl }) _ _ refl refl _
    (λ answers.
    rw (some, c.remove_exports.ensures, c.as_slice-2.ensures.value, c.in_ok-names.ensures) refl)
