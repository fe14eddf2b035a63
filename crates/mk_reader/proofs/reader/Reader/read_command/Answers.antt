use Rattle.std.proofs.Common.{◌≡◌, true, false, refl, sym, ◌∙◌, rules}
use Rattle.std.proofs.lemmas.Result.{err_from_is_err_and}
use Rattle.mk_makefile.specs.Kinds.{is_only_white}
use Rattle.mk_reader.proofs.StepLemmas.{changed-given, changed-want}
use Rattle.mk_reader.proofs.reader.Reader.read_command.Goals as goal

pub returns-in_err-add_command : goal.returns-in_err-add_command
returns-in_err-add_command g c =
    let p = err_from_is_err_and c.from_residual.result c.from_residual.ensures.1 in
    rw (p.1, p.2) (changed-want _ _ _
    (record { world = refl; err = refl; state = refl; order = refl; same = refl }) _ _ refl refl)

pub returns : goal.returns
returns g c =
    changed-given _ _ _
    (record { world = refl; err = refl; state = refl; order = refl; same = refl }) _ _ refl refl _
    (λ answers.
    let white : is_only_white c.args.command.now ≡ false =
    sym c.is_only_white.ensures ∙ c.if-is_only_white.false in
    let inside : c.args.self.now.state.now.in_group ≡ true = search rules in
    rw (white, inside, ← c.in_ok-add_command.ensures) refl)
