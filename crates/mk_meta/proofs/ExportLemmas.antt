-- The lines of exported variables, read and written.
use Rattle.std.proofs.Common.{◌≡◌, ℕ, ◌==◌, true, false, not}
use Rattle.std.proofs.Common.{List}
use Rattle.std.proofs.Common.{[], ◌∷◌, ◌++◌, codes, Some, None}
use Rattle.std.proofs.Common.{option_and_then, refl, sym, ◌∙◌, ap, ap₂}
use Rattle.std.proofs.Common.{append_assoc}
use Rattle.std.proofs.lemmas.Option.{option_and_then_some}
use Rattle.std.specs.List.{list_all}
use Rattle.mk_bytes.specs.Bytes.{newline, equals_sign}
use Rattle.mk_bytes.specs.Bytes.{is_digit}
use Rattle.mk_bytes.specs.declared.pair.Pair.{Pair}
use Rattle.mk_filemon.specs.Escapes.{escaped, cut_at, unescaped}
use Rattle.mk_filemon.proofs.CutLemmas.{IsWithout}
use Rattle.mk_filemon.proofs.EscapeLemmas.{cases, same_number}
use Rattle.mk_filemon.proofs.CutLemmas.{cut_at-again}
use Rattle.mk_filemon.proofs.CutLemmas.{cut_at-written}
use Rattle.mk_filemon.proofs.RecordLemmas.{both_true, option_map_some, unescaped-again}
use Rattle.mk_filemon.proofs.RecordLemmas.{unescaped-written}
use Rattle.mk_meta.specs.Lawful.{is_name_byte, is_export_name}
use Rattle.mk_meta.specs.Reading.{stripped, line_read}
use Rattle.mk_meta.specs.Reading.{named, export_in}
use Rattle.mk_meta.specs.Texts.{export_line}
use Rattle.mk_meta.proofs.ManyLemmas.{IsWritten}
use Rattle.mk_meta.proofs.LineLemmas.{IsWithout-append, escaped-line, line_read-again}
use Rattle.mk_meta.proofs.LineLemmas.{line_read-written, stripped-again, stripped-written}

-- exported variables
name-without : (byte : ℕ) (name : List ℕ) → is_name_byte byte ≡ false
    → list_all is_name_byte name ≡ true → IsWithout byte name
name-without byte [] other all = tt
name-without byte (b ∷ name) other all =
    let both = both_true (is_name_byte b) (list_all is_name_byte name) all in (
      cases (b == byte)
          (λ is. let same : b ≡ byte = same_number b byte is in
          let wrong : true ≡ false = sym both.0 ∙ ap is_name_byte same ∙ other in absurd cc)
          (λ apart. apart),
      name-without byte name other both.1,
    )

all_names : (name : List ℕ) → is_export_name name ≡ true → list_all is_name_byte name ≡ true
all_names [] is = absurd cc
all_names (byte ∷ name) is =
    (both_true (not (is_digit byte)) (list_all is_name_byte (byte ∷ name)) is).1

export-whole : (name text rest : List ℕ)
    → (codes "ENV " ++ name ++ equals_sign ∷ text ++ newline ∷ []) ++ rest
    ≡ (codes "ENV " ++ name ++ equals_sign ∷ text) ++ newline ∷ rest
export-whole name text rest = simp append_assoc

export_in-again : (pair : Pair) → is_export_name pair.name ≡ true
    → export_in (codes "ENV " ++ pair.name ++ equals_sign ∷ escaped false pair.value) ≡ Some pair
export_in-again pair is =
    let text = escaped false pair.value in
    ap (option_and_then (λ (text : List ℕ). option_and_then named (cut_at equals_sign text)))
    (stripped-again (codes "ENV ") (pair.name ++ equals_sign ∷ text))
    ∙ ap (option_and_then named) (cut_at-again equals_sign pair.name text
    (name-without equals_sign pair.name refl (all_names pair.name is)))
    ∙ rw (is, unescaped-again pair.value) refl

pub export_line-again : (pair : Pair) (rest : List ℕ) → is_export_name pair.name ≡ true
    → line_read export_in (export_line pair ++ rest) ≡ Some (pair, rest)
export_line-again pair rest is =
    let text = escaped false pair.value in
    ap (line_read export_in) (export-whole pair.name text rest)
    ∙ line_read-again export_in (codes "ENV " ++ pair.name ++ equals_sign ∷ text) rest pair
    (IsWithout-append newline (codes "ENV ") (pair.name ++ equals_sign ∷ text)
    (refl, (refl, (refl, (refl, tt)))) (IsWithout-append newline pair.name (equals_sign ∷ text)
    (name-without newline pair.name refl (all_names pair.name is))
    (refl, escaped-line false pair.value)))
    (export_in-again pair is)

named-written : (name text : List ℕ) (pair : Pair) → named (name, text) ≡ Some pair
    → (name ≡ pair.name) × (text ≡ escaped false pair.value) × (is_export_name pair.name ≡ true)
named-written name text pair is =
    cases (is_export_name name)
    (λ right. let found = option_map_some (λ (value : List ℕ). record
    { name = name; value = value })
    (unescaped text) pair (rw right at is) in
    let same : name ≡ pair.name = ap (λ (p : Pair). p.name) found.2 in (
      same,
      unescaped-written text found.0 found.1 ∙ ap
          (λ (p : Pair). escaped false p.value) found.2,
      ap is_export_name (sym same) ∙ right,
    ))
    (λ wrong. let none : None ≡ Some pair = rw wrong at is in absurd cc)

pub export_line-written : (text : List ℕ) (pair : Pair) (rest : List ℕ)
    → line_read export_in text ≡ Some (pair, rest)
    → IsWritten export_line (λ one. is_export_name one.name ≡ true) text pair rest
export_line-written text pair rest is =
    let found = line_read-written export_in text pair rest is in
    option_and_then_some (λ (body : List ℕ). option_and_then named (cut_at equals_sign body))
    (stripped (codes "ENV ") found.line) pair found.holds_it
    (λ body at so. option_and_then_some named (cut_at equals_sign body) pair so
    (λ cut there right. let parts = named-written cut.0 cut.1 pair right in
    let inside : body ≡ pair.name ++ equals_sign ∷ escaped false pair.value =
    cut_at-written equals_sign body cut.0 cut.1 there
    ∙ ap₂ (λ a b. a ++ equals_sign ∷ b) parts.0 parts.1 in
    record {
      is = found.is
          ∙ ap (λ l. l ++ newline ∷ rest) (stripped-written (codes "ENV ") found.line body at
          ∙ ap (λ b. codes "ENV " ++ b) inside)
          ∙ sym (export-whole pair.name (escaped false pair.value) rest);
      right = parts.2;
    }))
