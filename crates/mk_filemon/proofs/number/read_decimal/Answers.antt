use Rattle.std.proofs.Common.{Some, ap, ◌∙◌, arith}
use Rattle.mk_filemon.proofs.RecordLemmas.{number_in-digit}
use Rattle.mk_filemon.proofs.number.read_decimal.Goals as goal

pub returns-in-len1 : goal.returns-in-len1
returns-in-len1 c =
    let digit = c.if-is_ascii_digit.ensures.cases in
    ap Some c.from.ensures
    ∙ number_in-digit c.args.text.now (omega arith) (omega arith) (omega arith)
