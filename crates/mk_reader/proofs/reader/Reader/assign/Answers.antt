use Rattle.std.proofs.Common.{ℕ, List, ap, sym, ◌∙◌}
use Rattle.std.proofs.lemmas.Result.{err_from_is_err_and}
use Rattle.mk_blocks.specs.Outcomes.{◌>>=◌}
use Rattle.mk_makefile.specs.Moments.{Doing, moment_of}
use Rattle.mk_makefile.specs.Variables.{set_by}
use Rattle.mk_makefile.proofs.VariableLemmas.{variable_name-own}
use Rattle.mk_reader.proofs.StepLemmas.{given-as, then-fault, then-given}
use Rattle.mk_reader.proofs.reader.Reader.assign.Goals as goal

pub returns-in_err-name : goal.returns-in_err-name
returns-in_err-name g c =
    let p = err_from_is_err_and c.from_residual.result c.from_residual.ensures.1 in
    rw (p.1, p.2) (then-fault _ (λ answers is. set_by answers c.args.class c.args.op is.0 c.args.text.now is.1) c.in_err-name.ensures)

pub returns : goal.returns
returns g c =
    then-given _ (λ answers is. set_by answers c.args.class c.args.op is.0 c.args.text.now is.1) c.in_ok-name.ensures
    (rw (← c.bytes.ensures.value) c.set_by-2.ensures)

pub returns-then-is_own_value : goal.returns-then-is_own_value
returns-then-is_own_value g c =
    given-as _ _ _ _ _ _
    (λ answers.
    ap (λ (is : Doing (List ℕ)). is
    >>= λ is. set_by answers c.args.class c.args.op is.0 c.args.text.now is.1)
    (variable_name-own answers c.args.name.now
    (moment_of c.args.self.now.state.now c.args.self.now.order.now)
    (sym c.is_own_value.ensures ∙ c.if-is_own_value.true)))
    c.set_by.ensures
