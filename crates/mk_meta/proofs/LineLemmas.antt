-- The lines of a meta file, read and written.
use Rattle.std.proofs.Common.{◌≡◌, ℕ, ◌<◌, ◌^◌, ◌==◌, Bool, false}
use Rattle.std.proofs.Common.{List}
use Rattle.std.proofs.Common.{[], ◌∷◌, ◌++◌, length, take, drop, Option, Some, None, decimal}
use Rattle.std.proofs.Common.{refl, sym, ◌∙◌, ap, ap₂, arith}
use Rattle.std.proofs.Common.{append_assoc, lit<, nat_eq}
use Rattle.std.proofs.lemmas.Grind.{common_steps}
use Rattle.std.proofs.lemmas.Option.{option_and_then_some, cond_some}
use Rattle.std.specs.List.{starts_with}
use Rattle.std.specs.Option.{option_map}
use Rattle.mk_bytes.specs.Bytes.{newline, backslash}
use Rattle.mk_filemon.specs.Escapes.{escaped, escaped_byte, is_quote, cut_at, unescaped}
use Rattle.mk_filemon.specs.Escapes.{number_in}
use Rattle.mk_filemon.proofs.CutLemmas.{IsWithout}
use Rattle.mk_filemon.proofs.EscapeLemmas.{cases}
use Rattle.mk_filemon.proofs.CutLemmas.{cut_at-again}
use Rattle.mk_filemon.proofs.CutLemmas.{cut_at-written}
use Rattle.mk_filemon.proofs.RecordLemmas.{option_map_some, unescaped-again}
use Rattle.mk_filemon.proofs.RecordLemmas.{unescaped-written, number_in-decimal, number_in-written}
use Rattle.mk_filemon.proofs.RecordLemmas.{digits-without}
use Rattle.mk_filemon.proofs.PathLemmas.{same_bytes, bytes_eq-same}
use Rattle.mk_meta.specs.Reading.{stripped, line_read, text_in, number_behind}
use Rattle.mk_meta.specs.Texts.{line_of, number_line}

-- four pushes, one after the other
pub pushed : (old one two three four a b c d : List ℕ) → a ≡ old ++ one → b ≡ a ++ two
    → c ≡ b ++ three → d ≡ c ++ four → d ≡ old ++ (one ++ two ++ three ++ four)
pushed old one two three four a b c d first second third fourth =
    rw (fourth, third, second, first) (simp append_assoc)

-- a label
pub stripped-again : (label rest : List ℕ) → stripped label (label ++ rest) ≡ Some rest
stripped-again label rest =
    let front : take (length label) (label ++ rest) ≡ label = grind (arith, common_steps) in
    let behind : drop (length label) (label ++ rest) ≡ rest = grind (arith, common_steps) in
    rw (front, bytes_eq-same label, behind) refl

pub stripped-written : (label text rest : List ℕ) → stripped label text ≡ Some rest
    → text ≡ label ++ rest
stripped-written label text rest is =
    let found = cond_some (starts_with nat_eq text label) (drop (length label) text) rest is in
    let front : label ≡ take (length label) text = same_bytes label
    (take (length label) text) found.0 in
    let whole : take (length label) text ++ drop (length label) text ≡ text =
    grind (arith, common_steps) in
    sym whole ∙ ap₂ (λ a b. a ++ b) (sym front) found.1

-- a line
pub line_read-again : {A : Type 0} (holds : List ℕ → Option A) (line rest : List ℕ) (value : A)
    → IsWithout newline line → holds line ≡ Some value
    → line_read holds (line ++ newline ∷ rest) ≡ Some (value, rest)
line_read-again holds line rest value one is = rw (cut_at-again newline line rest one, is) refl

pub line_read-none : {A : Type 0} (holds : List ℕ → Option A) (line rest : List ℕ)
    → IsWithout newline line → holds line ≡ None → line_read holds (line ++ newline ∷ rest) ≡ None
line_read-none holds line rest one is = rw (cut_at-again newline line rest one, is) refl

pub record LineIs {A : Type 0} (holds : List ℕ → Option A) (text : List ℕ) (value : A)
    (rest : List ℕ) : Type 0 where
  pub line : List ℕ
  pub is : text ≡ line ++ newline ∷ rest
  pub holds_it : holds line ≡ Some value

pub line_read-written : {A : Type 0} (holds : List ℕ → Option A) (text : List ℕ) (value : A)
    (rest : List ℕ) → line_read holds text ≡ Some (value, rest) → LineIs holds text value rest
line_read-written {A} holds text value rest is =
    option_and_then_some (λ (cut : List ℕ × List ℕ). option_map (λ (held : A). (held, cut.1))
    (holds cut.0))
    (cut_at newline text) (value, rest) is
    (λ cut at so. let held = option_map_some (λ (held : A). (held, cut.1)) (holds cut.0)
    (value, rest) so in
    let parts : ◌≡◌ {A = A × List ℕ} (held.0, cut.1) (value, rest) = held.2 in
    record {
      line = cut.0;
      is = cut_at-written newline text cut.0 cut.1 at
          ∙ ap (λ (p : A × List ℕ). cut.0 ++ newline ∷ p.1) parts;
      holds_it = held.1 ∙ ap (λ (p : A × List ℕ). Some p.0) parts;
    })

-- no newline stands in what is written on one line
pub IsWithout-append : (byte : ℕ) (first second : List ℕ) → IsWithout byte first
    → IsWithout byte second → IsWithout byte (first ++ second)
IsWithout-append byte [] second one other = other
IsWithout-append byte (b ∷ first) second one other =
    (one.0, IsWithout-append byte first second one.1 other)

escaped_byte-line : (q : Bool) (byte : ℕ) → IsWithout newline (escaped_byte q byte)
escaped_byte-line q byte =
    cases (byte == backslash)
    (λ is. rw is (refl, (refl, tt)))
    (λ apart. cases (byte == newline)
    (λ is. rw (apart, is) (refl, (refl, tt)))
    (λ line. cases (is_quote q byte)
    (λ is. rw (apart, line, is) (refl, (refl, tt)))
    (λ none. rw (apart, line, none) (line, tt))))

pub escaped-line : (q : Bool) (text : List ℕ) → IsWithout newline (escaped q text)
escaped-line q [] = tt
escaped-line q (byte ∷ text) =
    IsWithout-append newline (escaped_byte q byte) (escaped q text) (escaped_byte-line q byte)
    (escaped-line q text)

pub decimal-line : (number : ℕ) → number < 2 ^ 64 → IsWithout newline (decimal number)
decimal-line number small = digits-without newline number (lit< tt) small

-- texts and numbers behind a label
pub text_in-again : (label text : List ℕ) → text_in label (label ++ escaped false text) ≡ Some text
text_in-again label text =
    rw (stripped-again label (escaped false text)) (unescaped-again text)

pub text_in-written : (label line text : List ℕ) → text_in label line ≡ Some text
    → line ≡ label ++ escaped false text
text_in-written label line text is =
    option_and_then_some unescaped (stripped label line) text is
    (λ rest at so. stripped-written label line rest at
    ∙ ap (λ r. label ++ r) (unescaped-written rest text so))

pub number_behind-again : (label : List ℕ) (number : ℕ) → number < 2 ^ 64
    → number_behind label (label ++ decimal number) ≡ Some number
number_behind-again label number small =
    rw (stripped-again label (decimal number)) (number_in-decimal number small)

pub number_behind-written : (label line : List ℕ) (number : ℕ)
    → number_behind label line ≡ Some number
    → (line ≡ label ++ decimal number) × (number < 2 ^ 64)
number_behind-written label line number is =
    option_and_then_some number_in (stripped label line) number is
    (λ rest at so. let found = number_in-written rest number so in
    (stripped-written label line rest at ∙ ap (λ r. label ++ r) found.0, found.1))

-- a line of a label and a text, and of a number
pub regroup : (label text rest : List ℕ)
    → (label ++ text ++ newline ∷ []) ++ rest ≡ (label ++ text) ++ newline ∷ rest
regroup label text rest = simp append_assoc

pub text_line-again : (label text rest : List ℕ) → IsWithout newline label
    → line_read (text_in label) (line_of label text ++ rest) ≡ Some (text, rest)
text_line-again label text rest one =
    ap (line_read (text_in label)) (regroup label (escaped false text) rest)
    ∙ line_read-again (text_in label) (label ++ escaped false text) rest text
    (IsWithout-append newline label (escaped false text) one (escaped-line false text))
    (text_in-again label text)

pub text_line-written : (label text value rest : List ℕ)
    → line_read (text_in label) text ≡ Some (value, rest) → text ≡ line_of label value ++ rest
text_line-written label text value rest is =
    let found = line_read-written (text_in label) text value rest is in
    found.is ∙ ap (λ line. line ++ newline ∷ rest) (text_in-written label found.line value
    found.holds_it)
    ∙ sym (regroup label (escaped false value) rest)

pub number_line-again : (label : List ℕ) (number : ℕ) (rest : List ℕ) → IsWithout newline label
    → number < 2 ^ 64
    → line_read (number_behind label) (number_line label number ++ rest) ≡ Some (number, rest)
number_line-again label number rest one small =
    ap (line_read (number_behind label)) (regroup label (decimal number) rest)
    ∙ line_read-again (number_behind label) (label ++ decimal number) rest number
    (IsWithout-append newline label (decimal number) one (decimal-line number small))
    (number_behind-again label number small)

pub number_line-written : (label text : List ℕ) (number : ℕ) (rest : List ℕ)
    → line_read (number_behind label) text ≡ Some (number, rest)
    → (text ≡ number_line label number ++ rest) × (number < 2 ^ 64)
number_line-written label text number rest is =
    let found = line_read-written (number_behind label) text number rest is in
    let value = number_behind-written label found.line number found.holds_it in (
      found.is ∙ ap (λ line. line ++ newline ∷ rest) value.0
          ∙ sym (regroup label (decimal number) rest),
      value.1,
    )
