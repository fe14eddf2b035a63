use Rattle.std.proofs.Common.{◌≡◌, ℕ, List, Some, None, Result, Ok, Err, sym, ◌∙◌}
use Rattle.std.proofs.Common.{ap, subst, MatchResult, Bor, decimal}
use Rattle.std.proofs.lemmas.Fmt.{IsAscii-decimal, parse-decimal}
use Rattle.std.proofs.lemmas.Str.{IsUtf8-from_ascii}
use Rattle.std.specs.Result.{result_ok}
use Rattle.std.specs.Str.{IsUtf8}
use Rattle.mk_filemon.proofs.number.parsed.Goals as goal

not_refused : {X E : Type 0} (P : X → Type 0) (Q : Type 0) (R : E → Type 0) (result : Result X E)
    → MatchResult result P (λ e. (¬ Q) × R e) → Q → result_ok result ≡ None → ⊥
not_refused P Q R (Ok x) cases holds none = cc
not_refused P Q R (Err e) cases holds none = cases.0 holds

same_text : {E : Type 0} (text : List ℕ) (Q : Type 0) (R : E → Type 0)
    (result : Result (Bor (List ℕ)) E) (digits : Bor (List ℕ))
    → MatchResult result (λ s. (s.now ≡ text) × Q) R → result_ok result ≡ Some digits
    → digits.now ≡ text
same_text text Q R (Ok s) digits cases is =
    let same : s ≡ digits = cc in ap (λ (one : Bor (List ℕ)). one.now) (sym same) ∙ cases.0
same_text text Q R (Err e) digits cases is = absurd cc

pub returns-in_err-digits : goal.returns-in_err-digits
returns-in_err-digits c = λ number small is.
    let utf8 : IsUtf8 c.args.text.now =
    subst IsUtf8 (sym is) (IsUtf8-from_ascii (decimal number) (IsAscii-decimal number small)) in
    absurd (not_refused _ _ _ c.from_utf8.result c.from_utf8.ensures.cases utf8
    (sym c.ok.ensures.value ∙ c.in_err-digits.was))

pub returns : goal.returns
returns c = λ number small is.
    let same : c.in_ok-digits.digits.now ≡ c.args.text.now =
    same_text _ _ _ c.from_utf8.result c.in_ok-digits.digits c.from_utf8.ensures.cases
    (sym c.ok.ensures.value ∙ c.in_ok-digits.was) in
    c.ok-2.ensures.value
    ∙ ap result_ok (parse-decimal 64 number c.in_ok-digits.digits.now c.parse.result small small
    (same ∙ is) c.parse.ensures.value.0)
