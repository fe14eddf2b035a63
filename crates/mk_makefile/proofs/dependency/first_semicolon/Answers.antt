use Rattle.std.proofs.Common.{◌≡◌, ◌==◌, false, get_or, arith}
use Rattle.std.proofs.lemmas.Bool.Decides.{nat_tests}
use Rattle.std.proofs.lemmas.Result.{err_from_is_err_and}
use Rattle.mk_makefile.proofs.SemicolonLemmas.{at_fault, at_semicolon, behind_byte, behind_form, left-first, no_semicolon}
use Rattle.mk_makefile.proofs.dependency.first_semicolon.Goals as goal

pub loop-at-init : goal.loop-at-init
loop-at-init c = left-first c.args.line.now

pub returns-in-59-clause-exact : goal.returns-in-59-clause-exact
returns-in-59-clause-exact c = at_semicolon c.loop-at.invariant (omega arith) c.in-59.is

pub returns-in_err-at-in-36-clause-exact : goal.returns-in_err-at-in-36-clause-exact
returns-in_err-at-in-36-clause-exact c =
    let p = err_from_is_err_and c.from_residual.result c.from_residual.ensures.1 in
    rw (p.1, p.2)
    (at_fault c.loop-at.invariant _ (omega arith) c.in-36.is c.in_err-at-in-36.ensures.exact)

pub loop-at-preserved-in-36 : goal.loop-at-preserved-in-36
loop-at-preserved-in-36 c =
    behind_form c.loop-at.invariant c.in_ok-at-in-36.at (omega arith) c.in-36.is
    c.in_ok-at-in-36.ensures.exact c.in_ok-at-in-36.ensures.within.0

pub loop-at-preserved : goal.loop-at-preserved
loop-at-preserved c =
    let other : (get_or c.args.line.now c.loop-at.at 0 == 59) ≡ false = grind (arith, nat_tests, c.in_default) in
    let plain : (get_or c.args.line.now c.loop-at.at 0 == 36) ≡ false = grind (arith, nat_tests, c.in_default) in
    behind_byte c.loop-at.invariant (omega arith) other plain

pub returns-clause-exact : goal.returns-clause-exact
returns-clause-exact c = no_semicolon c.loop-at.invariant (omega arith)
