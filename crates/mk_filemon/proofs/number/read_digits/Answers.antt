use Rattle.std.proofs.Common.{◌<◌, ◌^◌, sym, ◌∙◌, ap, arith}
use Rattle.std.proofs.lemmas.Bool.{false≢true}
use Rattle.std.specs.Str.{bytes_eq}
use Rattle.mk_filemon.specs.Escapes.{number_in}
use Rattle.mk_filemon.proofs.RecordLemmas.{number_in-decimal, number_in-none, number_in-other}
use Rattle.mk_filemon.proofs.PathLemmas.{same_bytes, bytes_eq-same}
use Rattle.mk_filemon.proofs.number.read_digits.Goals as goal

pub returns-in_err-number : goal.returns-in_err-number
returns-in_err-number c =
    c.from_residual.ensures
    ∙ number_in-none c.args.text.now c.parsed.result c.parsed.ensures c.in_err-number.was

pub returns-then-eq : goal.returns-then-eq
returns-then-eq c =
    let number = c.in_ok-number.number in
    let small : number < 2 ^ 64 = omega arith in
    let same = same_bytes c.as_bytes.result.now c.args.text.now (sym c.eq.ensures ∙ c.if-eq.true) in
    sym (ap number_in (sym same ∙ c.as_bytes.ensures.value ∙ c.format.ensures.text)
    ∙ number_in-decimal number small)

pub returns : goal.returns
returns c =
    let number = c.in_ok-number.number in
    number_in-other c.args.text.now c.parsed.result number c.parsed.ensures c.in_ok-number.was
    (λ same. false≢true (sym c.if-eq.false ∙ c.eq.ensures
    ∙ ap (λ text. bytes_eq text c.args.text.now)
    (c.as_bytes.ensures.value ∙ c.format.ensures.text ∙ same)
    ∙ bytes_eq-same c.args.text.now))
