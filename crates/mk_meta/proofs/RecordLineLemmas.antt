-- The lines of records, read and written.
use Rattle.std.proofs.Common.{◌≡◌, ℕ, ◌==◌, true, false}
use Rattle.std.proofs.Common.{List}
use Rattle.std.proofs.Common.{[], ◌∷◌, ◌++◌, Some, decimal}
use Rattle.std.proofs.Common.{option_and_then, refl, sym, ◌∙◌, ap, subst, arith}
use Rattle.std.proofs.Common.{append_assoc, nat_le}
use Rattle.std.proofs.lemmas.Option.{option_and_then_some, cond_some}
use Rattle.mk_bytes.specs.Bytes.{newline, space}
use Rattle.mk_filemon.specs.Escapes.{escaped, quote}
use Rattle.mk_filemon.specs.Records.{IsLine, record_text, record_in, letter_of, data_of, quoted}
use Rattle.mk_filemon.specs.declared.record.Rec.{Rec}
use Rattle.mk_filemon.proofs.CutLemmas.{IsWithout}
use Rattle.mk_filemon.proofs.RecordLemmas.{record_in-again, record_in-written}
use Rattle.mk_world.specs.declared.step.Op.{Op}
use Rattle.mk_world.specs.declared.step.Op.TheVariants as op
use Rattle.mk_meta.specs.Lawful.{IsOfLines}
use Rattle.mk_meta.specs.Reading.{line_read}
use Rattle.mk_meta.specs.Reading.{of_lines, record_of}
use Rattle.mk_meta.specs.Texts.{record_line}
use Rattle.mk_meta.proofs.ManyLemmas.{IsWritten}
use Rattle.mk_meta.proofs.LineLemmas.{IsWithout-append, decimal-line, escaped-line, line_read-again}
use Rattle.mk_meta.proofs.LineLemmas.{line_read-written}

-- records
quoted-line : (path : List ℕ) → IsWithout newline (quoted path)
quoted-line path = (
  refl,
  IsWithout-append newline (escaped true path) (quote ∷ []) (escaped-line true path)
      (refl, tt),
)

data-line : (one : Op) → IsWithout newline (data_of one)
data-line (op.Read path) = escaped-line false path
data-line (op.Miss path) = escaped-line false path
data-line (op.Write path) = escaped-line false path
data-line (op.Delete path) = escaped-line false path
data-line (op.Move from to) =
    IsWithout-append newline (quoted from) (space ∷ quoted to) (quoted-line from)
    (refl, quoted-line to)

letter-line : (one : Op) → (letter_of one == newline) ≡ false
letter-line (op.Read path) = refl
letter-line (op.Miss path) = refl
letter-line (op.Write path) = refl
letter-line (op.Delete path) = refl
letter-line (op.Move from to) = refl

record-line : (line : ℕ) (one : Op) → IsLine line → IsWithout newline (record_text line one)
record-line line one is = (
  letter-line one,
  (
    refl,
    IsWithout-append newline (decimal line) (space ∷ data_of one)
        (decimal-line line (omega (arith, is.small))) (refl, data-line one),
  ),
)

pub record_line-again : (count : ℕ) (one : Rec) (rest : List ℕ) → IsOfLines count one
    → line_read (record_of count) (record_line one ++ rest) ≡ Some (one, rest)
record_line-again count one rest is =
    ap (line_read (record_of count)) (append_assoc (record_text one.line one.op)
    (newline ∷ []) rest)
    ∙ line_read-again (record_of count) (record_text one.line one.op) rest one
    (record-line one.line one.op is.0)
    (ap (option_and_then (of_lines count)) (record_in-again one.line one.op is.0)
    ∙ rw is.1 refl)

pub record_line-written : (count : ℕ) (text : List ℕ) (one : Rec) (rest : List ℕ)
    → line_read (record_of count) text ≡ Some (one, rest)
    → IsWritten record_line (IsOfLines count) text one rest
record_line-written count text one rest is =
    let found = line_read-written (record_of count) text one rest is in
    option_and_then_some (of_lines count) (record_in found.line) one found.holds_it
    (λ other at so. let within = cond_some (nat_le other.line count) other one so in
    let right = record_in-written found.line other at in
    record {
      is = found.is
          ∙ ap (λ l. l ++ newline ∷ rest) (right.1
          ∙ ap (λ (o : Rec). record_text o.line o.op) within.1)
          ∙ sym (append_assoc (record_text one.line one.op) (newline ∷ []) rest);
      right = subst (IsOfLines count) within.1 (right.0, within.0);
    })
