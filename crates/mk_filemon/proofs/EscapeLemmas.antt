-- Texts with escapes, one byte after the other, and both ways.
use Rattle.std.proofs.Common.{◌≡◌, ℕ, Bool, true, false, ◌==◌, List}
use Rattle.std.proofs.Common.{[], ◌∷◌, ◌++◌, not, ◌||◌, suc, length, take, drop, Option}
use Rattle.std.proofs.Common.{Some, None}
use Rattle.std.proofs.Common.{if◌then◌else◌, refl, sym, ◌∙◌, ap, ap₂, arith, append_assoc}
use Rattle.std.proofs.lemmas.Bool.Decides.{nat_tests}
use Rattle.std.proofs.lemmas.Option.{some_pair_parts}
use Rattle.std.proofs.lemmas.List.{append-nil}
use Rattle.std.specs.Option.{option_map}
use Rattle.mk_bytes.specs.Bytes.{newline, backslash}
use Rattle.mk_filemon.specs.Escapes.{is_plain, plain_len}
use Rattle.mk_filemon.specs.Escapes.{quote, letter_n, is_quote, escaped_byte, escaped, byte_behind}
use Rattle.mk_filemon.specs.Escapes.{Part, with_byte, with_escape, at_end, part_behind, part_at}

pub cases : {P : Type 0} (t : Bool) → (t ≡ true → P) → (t ≡ false → P) → P
cases true here there = here refl
cases false here there = there refl

pub same_number : (a b : ℕ) → (a == b) ≡ true → a ≡ b
same_number a b is = grind (arith, nat_tests)

-- what is read, behind bytes that were read
abbrev pub with_bytes : List ℕ → Part → Part
with_bytes bytes part = option_map (λ found. (bytes ++ found.0, found.1)) part

pub with_bytes-nil : (part : Part) → with_bytes [] part ≡ part
with_bytes-nil None = refl
with_bytes-nil (Some found) = refl

pub with_bytes-byte : (bytes : List ℕ) (byte : ℕ) (part : Part)
    → with_bytes (bytes ++ byte ∷ []) part ≡ with_bytes bytes (with_byte byte part)
with_bytes-byte bytes byte None = refl
with_bytes-byte bytes byte (Some found) =
    ap (λ text. Some (text, found.1)) (append_assoc bytes (byte ∷ []) found.0)

pub with_bytes-append : (first second : List ℕ) (part : Part)
    → with_bytes (first ++ second) part ≡ with_bytes first (with_bytes second part)
with_bytes-append first second None = refl
with_bytes-append first second (Some found) =
    ap (λ text. Some (text, found.1)) (append_assoc first second found.0)

with_bytes-first : (byte : ℕ) (text : List ℕ) (part : Part)
    → with_bytes (byte ∷ text) part ≡ with_byte byte (with_bytes text part)
with_bytes-first byte text None = refl
with_bytes-first byte text (Some found) = refl

-- the three tests that a plain byte does not pass
pub record IsPlain (quoted : Bool) (byte : ℕ) : Type 0 where
  pub slash : (byte == backslash) ≡ false
  pub line : (byte == newline) ≡ false
  pub quote : is_quote quoted byte ≡ false

plain-by : (slash line close : Bool) → not (slash || (line || close)) ≡ true
    → (slash ≡ false) × (line ≡ false) × (close ≡ false)
plain-by true line close is = absurd cc
plain-by false true close is = absurd cc
plain-by false false true is = absurd cc
plain-by false false false is = (refl, refl, refl)

plain-is : (quoted : Bool) (byte : ℕ) → is_plain quoted byte ≡ true → IsPlain quoted byte
plain-is quoted byte is =
    let parts = plain-by (byte == backslash) (byte == newline) (is_quote quoted byte) is in
    record { slash = parts.0; line = parts.1; quote = parts.2 }

one-more : (quoted : Bool) (byte : ℕ) (text : List ℕ) → is_plain quoted byte ≡ true
    → plain_len quoted (byte ∷ text) ≡ suc (plain_len quoted text)
one-more quoted byte text is = rw is (omega arith)

none-plain : (quoted : Bool) (byte : ℕ) (text : List ℕ) → is_plain quoted byte ≡ false
    → plain_len quoted (byte ∷ text) ≡ 0
none-plain quoted byte text none = rw none refl

part-more : (quoted : Bool) (byte : ℕ) (text : List ℕ) (len more : ℕ) → more ≡ suc len
    → is_plain quoted byte ≡ true
    → with_bytes (take len text) (part_at quoted (drop len text)) ≡ part_at quoted text
    → with_bytes (take more (byte ∷ text)) (part_at quoted (drop more (byte ∷ text)))
    ≡ part_at quoted (byte ∷ text)
unfolding part_behind
part-more quoted byte text len more longer is so =
    let plain = plain-is quoted byte is in
    rw longer (with_bytes-first byte (take len text) (part_at quoted (drop len text))
    ∙ ap (with_byte byte) so ∙ rw (plain.slash, plain.line, plain.quote) refl)

part-none-more : (quoted : Bool) (text : List ℕ) (len : ℕ) → len ≡ 0
    → with_bytes (take len text) (part_at quoted (drop len text)) ≡ part_at quoted text
part-none-more quoted text len none = rw none (with_bytes-nil (part_at quoted text))

-- the plain bytes that a text begins with are read as themselves
part-plain : (quoted : Bool) (text : List ℕ)
    → with_bytes (take (plain_len quoted text) text)
    (part_at quoted (drop (plain_len quoted text) text))
    ≡ part_at quoted text
part-plain quoted [] = with_bytes-nil (part_at quoted [])
part-plain quoted (byte ∷ text) =
    cases (is_plain quoted byte)
    (λ is. part-more quoted byte text (plain_len quoted text) (plain_len quoted (byte ∷ text))
    (one-more quoted byte text is) is (part-plain quoted text))
    (λ none. part-none-more quoted (byte ∷ text) (plain_len quoted (byte ∷ text))
    (none-plain quoted byte text none))

-- so is what stands behind bytes that were read
part-run : (quoted : Bool) (before text : List ℕ)
    → with_bytes (before ++ take (plain_len quoted text) text)
    (part_at quoted (drop (plain_len quoted text) text))
    ≡ with_bytes before (part_at quoted text)
part-run quoted before text =
    with_bytes-append before (take (plain_len quoted text) text)
    (part_at quoted (drop (plain_len quoted text) text))
    ∙ ap (with_bytes before) (part-plain quoted text)

-- what was read so far, and what is special behind the plain bytes
pub special-is : (quoted : Bool) (text before rest out special : List ℕ)
    → with_bytes before (part_at quoted rest) ≡ part_at quoted text
    → out ≡ before ++ take (plain_len quoted rest) rest
    → special ≡ drop (plain_len quoted rest) rest
    → with_bytes out (part_at quoted special) ≡ part_at quoted text
special-is quoted text before rest out special so pushed left =
    rw (pushed, left) (part-run quoted before rest ∙ so)

-- the text ends where something special ends it
pub ends-by : (quoted : Bool) (text out special end : List ℕ)
    → with_bytes out (part_at quoted special) ≡ part_at quoted text
    → part_at quoted special ≡ Some ([], end) → Some (out, end) ≡ part_at quoted text
ends-by quoted text out special end so is =
    ap (λ bytes. Some (bytes, end)) (sym (append-nil out))
    ∙ ap (with_bytes out) (sym is) ∙ so

pub fails-by : (quoted : Bool) (text out special : List ℕ)
    → with_bytes out (part_at quoted special) ≡ part_at quoted text
    → part_at quoted special ≡ None → None ≡ part_at quoted text
fails-by quoted text out special so is = ap (with_bytes out) (sym is) ∙ so

-- they are written as themselves too
escaped-more : (quoted : Bool) (byte : ℕ) (text : List ℕ) (len more : ℕ) → more ≡ suc len
    → is_plain quoted byte ≡ true
    → take len text ++ escaped quoted (drop len text) ≡ escaped quoted text
    → take more (byte ∷ text) ++ escaped quoted (drop more (byte ∷ text))
    ≡ escaped quoted (byte ∷ text)
escaped-more quoted byte text len more longer is so =
    let plain = plain-is quoted byte is in
    rw (longer, plain.slash, plain.line, plain.quote) (ap (λ rest. byte ∷ rest) so)

escaped-plain : (quoted : Bool) (text : List ℕ)
    → take (plain_len quoted text) text ++ escaped quoted (drop (plain_len quoted text) text)
    ≡ escaped quoted text
escaped-plain quoted [] = refl
escaped-plain quoted (byte ∷ text) =
    cases (is_plain quoted byte)
    (λ is. escaped-more quoted byte text (plain_len quoted text) (plain_len quoted (byte ∷ text))
    (one-more quoted byte text is) is (escaped-plain quoted text))
    (λ none. let no = none-plain quoted byte text none in rw no refl)

-- what is written so far, and what is special behind the plain bytes
pub special-written : (quoted : Bool) (all before rest out special : List ℕ)
    → before ++ escaped quoted rest ≡ all
    → out ≡ before ++ take (plain_len quoted rest) rest
    → special ≡ drop (plain_len quoted rest) rest
    → out ++ escaped quoted special ≡ all
special-written quoted all before rest out special so pushed left =
    rw (pushed, left) (append_assoc before (take (plain_len quoted rest) rest)
    (escaped quoted (drop (plain_len quoted rest) rest))
    ∙ ap (λ end. before ++ end) (escaped-plain quoted rest) ∙ so)

-- nothing special is left
pub written-end : (quoted : Bool) (all out special : List ℕ) → length special ≡ 0
    → out ++ escaped quoted special ≡ all → out ≡ all
written-end quoted all out [] none so = sym (append-nil out) ∙ so
written-end quoted all out (byte ∷ special) none so = absurd (omega arith)

-- one byte of a text, in the order of the tests
pub part-none : (quoted : Bool) (text : List ℕ) → length text ≡ 0 → part_at quoted text
    ≡ at_end quoted
unfolding part_behind
part-none quoted [] none = refl
part-none quoted (byte ∷ text) none = absurd (omega arith)

pub escape-none : (quoted : Bool) (text : List ℕ) → length text ≡ 0
    → part_behind quoted true text ≡ None
unfolding part_behind
escape-none quoted [] none = refl
escape-none quoted (byte ∷ text) none = absurd (omega arith)

pub escape-first : (quoted : Bool) (all : List ℕ) (byte : ℕ) (text : List ℕ) → all ≡ byte ∷ text
    → part_behind quoted true all ≡ with_escape (byte_behind quoted byte) (part_at quoted text)
unfolding part_behind
escape-first quoted all byte text is = rw is refl

pub part-first : (quoted : Bool) (all : List ℕ) (byte : ℕ) (text : List ℕ) → all ≡ byte ∷ text
    → part_at quoted all
    ≡ (if byte == backslash then part_behind quoted true text
    else (if byte == newline then None
    else (if is_quote quoted byte then Some ([], text)
    else with_byte byte (part_at quoted text))))
unfolding part_behind
part-first quoted all byte text is = rw is refl

-- What is written with escapes is read again.
pub part-escaped : (quoted : Bool) (text tail : List ℕ)
    → part_at quoted (escaped quoted text ++ tail) ≡ with_bytes text (part_at quoted tail)
unfolding part_behind
part-escaped quoted [] tail = sym (with_bytes-nil (part_at quoted tail))
part-escaped quoted (byte ∷ text) tail =
    rw (append_assoc (escaped_byte quoted byte) (escaped quoted text) tail)
    (byte_again quoted byte (escaped quoted text ++ tail)
    ∙ ap (λ part. with_byte byte part) (part-escaped quoted text tail)
    ∙ with_bytes-more byte text (part_at quoted tail))
  where
    with_bytes-more : (byte : ℕ) (text : List ℕ) (part : Part)
        → with_byte byte (with_bytes text part) ≡ with_bytes (byte ∷ text) part
    with_bytes-more byte text None = refl
    with_bytes-more byte text (Some found) = refl

    quote_again : (quoted : Bool) (byte : ℕ) (rest : List ℕ) → is_quote quoted byte ≡ true
        → part_at quoted (backslash ∷ quote ∷ rest) ≡ with_byte byte (part_at quoted rest)
    quote_again true byte rest is = rw (same_number byte quote is) refl
    quote_again false byte rest is = absurd cc

    byte_again : (quoted : Bool) (byte : ℕ) (rest : List ℕ)
        → part_at quoted (escaped_byte quoted byte ++ rest) ≡ with_byte byte (part_at quoted rest)
    byte_again quoted byte rest =
        cases (byte == backslash)
        (λ is. rw is (ap (λ b. with_byte b (part_at quoted rest))
        (sym (same_number byte backslash is))))
        (λ apart. cases (byte == newline)
        (λ is. rw (apart, is) (ap (λ b. with_byte b (part_at quoted rest))
        (sym (same_number byte newline is))))
        (λ none. cases (is_quote quoted byte)
        (λ is. rw (apart, none, is) (quote_again quoted byte rest is))
        (λ nor. rw (apart, none, nor) (rw (apart, none, nor) refl))))

-- what stands behind a text: the quote that ends it and the rest, or nothing
abbrev pub tail_of : Bool → List ℕ → List ℕ
tail_of true rest = quote ∷ rest
tail_of false rest = []

pub part-tail : (quoted : Bool) (rest : List ℕ) → (quoted ≡ false → rest ≡ [])
    → part_at quoted (tail_of quoted rest) ≡ Some ([], rest)
unfolding part_behind
part-tail true rest none = refl
part-tail false rest none = ap (λ r. Some ([], r)) (sym (none refl))

-- a text that is written with escapes, and its end
pub part-again : (quoted : Bool) (text rest : List ℕ) → (quoted ≡ false → rest ≡ [])
    → part_at quoted (escaped quoted text ++ tail_of quoted rest) ≡ Some (text, rest)
part-again quoted text rest none =
    part-escaped quoted text (tail_of quoted rest)
    ∙ ap (λ part. with_bytes text part) (part-tail quoted rest none)
    ∙ ap (λ bytes. Some (bytes, rest)) (append-nil text)

-- what stands before the text where an escape is open
abbrev opened : Bool → List ℕ
opened true = backslash ∷ []
opened false = []

-- what is read is written so
pub record IsWritten (quoted : Bool) (text part rest : List ℕ) : Type 0 where
  pub is : text ≡ escaped quoted part ++ tail_of quoted rest
  pub end : quoted ≡ false → rest ≡ []

behind_written : (quoted : Bool) (byte meant : ℕ) → byte_behind quoted byte ≡ Some meant
    → escaped_byte quoted meant ≡ backslash ∷ byte ∷ []
behind_written quoted byte meant is =
    cases (byte == backslash)
    (λ here. let same : byte ≡ backslash = grind (arith, nat_tests) in
    let found : Some backslash ≡ Some meant = rw here at is in
    let so : backslash ≡ meant = cc in rw (← so, same) refl)
    (λ apart. cases (byte == letter_n)
    (λ here. let same : byte ≡ letter_n = grind (arith, nat_tests) in
    let found : Some newline ≡ Some meant = rw (apart, here) at is in
    let so : newline ≡ meant = cc in rw (← so, same) refl)
    (λ none. behind_quote quoted byte meant (rw (apart, none) at is)))
  where
    behind_quote : (quoted : Bool) (byte meant : ℕ)
        → (if is_quote quoted byte then Some quote else None) ≡ Some meant
        → escaped_byte quoted meant ≡ backslash ∷ byte ∷ []
    behind_quote false byte meant is = absurd cc
    behind_quote true byte meant is =
        cases (byte == quote)
        (λ here. let same : byte ≡ quote = grind (arith, nat_tests) in
        let found : Some quote ≡ Some meant = rw here at is in
        let so : quote ≡ meant = cc in rw (← so, same) refl)
        (λ apart. let found : None ≡ Some meant = rw apart at is in absurd cc)

pub with_byte-some : (byte : ℕ) (part : Part) (text rest : List ℕ)
    → with_byte byte part ≡ Some (text, rest)
    → (bytes : List ℕ) × (part ≡ Some (bytes, rest)) × (text ≡ byte ∷ bytes)
with_byte-some byte None text rest is = absurd cc
with_byte-some byte (Some (bytes, behind)) text rest is =
    let same = some_pair_parts (byte ∷ bytes) text behind rest is in
    (bytes, ap (λ end. Some (bytes, end)) same.1, sym same.0)

pub part-written : (quoted escape : Bool) (text part rest : List ℕ)
    → part_behind quoted escape text ≡ Some (part, rest)
    → IsWritten quoted (opened escape ++ text) part rest
unfolding part_behind
part-written quoted true [] part rest is = absurd cc
part-written true false [] part rest is = absurd cc
part-written false false [] part rest is =
    let same = some_pair_parts [] part [] rest is in
    record { is = ap (λ text. escaped false text ++ []) same.0; end = λ none. sym same.1 }
part-written quoted true (byte ∷ text) part rest is =
    behind (part-written quoted false text) (byte_behind quoted byte) refl is
  where
    behind : ((more end : List ℕ) → part_at quoted text ≡ Some (more, end)
        → IsWritten quoted text more end)
        → (meant : Option ℕ) → byte_behind quoted byte ≡ meant
        → with_escape meant (part_at quoted text) ≡ Some (part, rest)
        → IsWritten quoted (backslash ∷ byte ∷ text) part rest
    behind inside None here gives = absurd cc
    behind inside (Some meant) here gives =
        let more = with_byte-some meant (part_at quoted text) part rest gives in
        let inner = inside more.0 rest more.1 in
        record {
          is = ap (λ bytes. backslash ∷ byte ∷ bytes) inner.is
              ∙ sym (ap (λ bytes. escaped quoted bytes ++ tail_of quoted rest) more.2
              ∙ ap (λ bytes. (bytes ++ escaped quoted more.0) ++ tail_of quoted rest)
              (behind_written quoted byte meant here));
          end = inner.end;
        }
part-written quoted false (byte ∷ text) part rest is =
    cases (byte == backslash)
    (λ here. let same : byte ≡ backslash = grind (arith, nat_tests) in
    let inner = part-written quoted true text part rest (rw here at is) in
    record { is = rw same inner.is; end = inner.end })
    (λ apart. cases (byte == newline)
    (λ here. let none : None ≡ Some (part, rest) = rw (apart, here) at is in absurd cc)
    (λ nor. plain (part-written quoted false text) apart nor (rw (apart, nor) at is)))
  where
    closes : (q : Bool) → is_quote q byte ≡ true → (part' rest' : List ℕ)
        → ◌≡◌ {A = Part} (Some ([], text)) (Some (part', rest'))
        → IsWritten q (byte ∷ text) part' rest'
    closes false here part' rest' found = absurd cc
    closes true here part' rest' found =
        let same : byte ≡ quote = grind (arith, nat_tests) in
        let parts = some_pair_parts [] part' text rest' found in
        record {
          is = rw same (ap₂ (λ a b. escaped true a ++ quote ∷ b) parts.0 parts.1);
          end = λ none. absurd cc;
        }

    plain : ((more end : List ℕ) → part_at quoted text ≡ Some (more, end)
        → IsWritten quoted text more end)
        → (byte == backslash) ≡ false → (byte == newline) ≡ false
        → (if is_quote quoted byte then Some ([], text)
        else with_byte byte (part_at quoted text)) ≡ Some (part, rest)
        → IsWritten quoted (byte ∷ text) part rest
    plain inside apart nor found =
        cases (is_quote quoted byte)
        (λ here. closes quoted here part rest (rw here at found))
        (λ none. let more = with_byte-some byte (part_at quoted text) part rest
        (rw none at found) in
        let inner = inside more.0 rest more.1 in
        record {
          is = rw (more.2, apart, nor, none) (ap (λ bytes. byte ∷ bytes) inner.is);
          end = inner.end;
        })
