-- Records as they are written, and read again.
use Rattle.std.proofs.Common.{◌≡◌, ℕ, ◌<◌, ◌≤◌, ◌+◌, ◌%◌, ◌^◌, Bool, true, false, ◌==◌}
use Rattle.std.proofs.Common.{◌&&◌, nat_le, nat_lt, List, [], ◌∷◌, ◌++◌, Option, Some, None}
use Rattle.std.proofs.Common.{decimal, length, get_or, ◌-◌}
use Rattle.std.proofs.Common.{if◌then◌else◌, option_and_then, refl, sym, ◌∙◌, ap, ap₂, subst, lit<}
use Rattle.std.proofs.Common.{arith}
use Rattle.std.proofs.lemmas.Bool.Decides.{nat_tests}
use Rattle.std.proofs.lemmas.Fmt.{decimal_by_steps, decimal_digit, decimal_is_IsNumeral}
use Rattle.std.proofs.lemmas.List.{append-nil, append_assoc}
use Rattle.std.proofs.lemmas.Option.{option_and_then_some, cond_some}
use Rattle.std.specs.Option.{option_map}
use Rattle.std.specs.Str.{bytes_eq}
use Rattle.std.specs.Str.Parse.{digits_value}
use Rattle.mk_bytes.specs.Bytes.{space}
use Rattle.mk_world.specs.declared.step.Op.{Op}
use Rattle.mk_world.specs.declared.step.Op.TheVariants.{Read, Miss, Write, Delete, Move}
use Rattle.mk_filemon.specs.declared.record.Rec.{Rec}
use Rattle.mk_filemon.specs.Escapes.{quote, escaped, part_at, unescaped, number_in, cut_at}
use Rattle.mk_filemon.specs.Records as spec
use Rattle.mk_filemon.specs.Records.{IsLine, letter_of, quoted, data_of, record_text, is_line}
use Rattle.mk_filemon.specs.Records.{line_in, numbered, head_at, quoted_at, moved, move_to, move_in}
use Rattle.mk_filemon.specs.Records.{op_with, op_in, with_op, record_in}
use Rattle.mk_filemon.proofs.EscapeLemmas.{cases, same_number, part-again, part-written}
use Rattle.mk_filemon.proofs.CutLemmas.{IsWithout, IsWithout-push, cut_at-again}
use Rattle.mk_filemon.proofs.CutLemmas.{cut_at-written}
use Rattle.mk_filemon.proofs.PathLemmas.{same_bytes, bytes_eq-same}

pub both_true : (a b : Bool) → (a && b) ≡ true → (a ≡ true) × (b ≡ true)
both_true true true is = (refl, refl)
both_true true false is = absurd cc
both_true false b is = absurd cc

-- a number is read from its digits
pub number_in-decimal : (number : ℕ) → number < 2 ^ 64 → number_in (decimal number) ≡ Some number
number_in-decimal number small =
    let is = (decimal_is_IsNumeral number small).1 in
    let fits : nat_lt number (2 ^ 64) ≡ true = grind (arith, nat_tests) in
    rw (is, bytes_eq-same (decimal number), fits) refl

-- one digit is a number
pub number_in-digit : (text : List ℕ) → length text ≡ 1 → 48 ≤ get_or text 0 0
    → get_or text 0 0 < 58 → Some (get_or text 0 0 - 48) ≡ number_in text
number_in-digit [] one least most = absurd (omega (arith, one))
number_in-digit (byte ∷ []) one least most =
    let digit : byte - 48 < 10 = omega arith in
    let small : byte - 48 < 2 ^ 64 = omega arith in
    let same : 48 + (byte - 48) ≡ byte = omega arith in
    sym (ap number_in (ap (λ b. b ∷ []) (sym same) ∙ sym (decimal_digit (byte - 48) digit))
    ∙ number_in-decimal (byte - 48) small)
number_in-digit (byte ∷ other ∷ more) one least most = absurd (omega (arith, one))

-- and these are its digits
pub number_in-written : (text : List ℕ) (number : ℕ) → number_in text ≡ Some number
    → (text ≡ decimal number) × (number < 2 ^ 64)
number_in-written text number is =
    let found = cond_some (bytes_eq (decimal (digits_value 10 text)) text
    && nat_lt (digits_value 10 text) (2 ^ 64)) (digits_value 10 text) number is in
    let tests = both_true (bytes_eq (decimal (digits_value 10 text)) text)
    (nat_lt (digits_value 10 text) (2 ^ 64)) found.0 in
    let small : digits_value 10 text < 2 ^ 64 = grind (arith, nat_tests, tests.1) in (
      sym (same_bytes (decimal (digits_value 10 text)) text tests.0) ∙ ap decimal found.1,
      subst (λ n. n < 2 ^ 64) found.1 small,
    )

abbrev reads_all : List ℕ → Option ℕ → Type 0
reads_all text read = (number : ℕ) → number < 2 ^ 64 → text ≡ decimal number → read ≡ Some number

-- where nothing is read of the digits, the text is no number
pub number_in-none : (text : List ℕ) (read : Option ℕ) → reads_all text read → read ≡ None
    → None ≡ number_in text
number_in-none text read all none = go (number_in text) refl
  where
    go : (found : Option ℕ) → number_in text ≡ found → None ≡ found
    go None is = refl
    go (Some number) is =
        let written = number_in-written text number is in
        let same : None ≡ Some number = sym none ∙ all number written.1 written.0 in absurd cc

-- nor is it where another one is read
pub number_in-other : (text : List ℕ) (read : Option ℕ) (number : ℕ) → reads_all text read
    → read ≡ Some number → (decimal number ≡ text → ⊥) → None ≡ number_in text
number_in-other text read number all is other = go (number_in text) refl
  where
    go : (found : Option ℕ) → number_in text ≡ found → None ≡ found
    go None at = refl
    go (Some one) at =
        let written = number_in-written text one at in
        let same : Some number ≡ Some one = sym is ∙ all one written.1 written.0 in
        let so : number ≡ one = cc in
        absurd (other (ap decimal so ∙ sym written.0))

pub option_map_some : {A B : Type 0} (f : A → B) (o : Option A) (y : B) → option_map f o ≡ Some y
    → (x : A) × (o ≡ Some x) × (f x ≡ y)
option_map_some f None y is = absurd cc
option_map_some f (Some x) y is = (x, refl, cc)

pub line_in-decimal : (line : ℕ) → IsLine line → line_in (decimal line) ≡ Some line
line_in-decimal line is =
    let small : line < 2 ^ 64 = omega (arith, is.small) in
    let tests : is_line line ≡ true = grind (arith, nat_tests, is.first, is.small) in
    rw (number_in-decimal line small, tests) refl

pub line_in-written : (text : List ℕ) (line : ℕ) → line_in text ≡ Some line
    → (text ≡ decimal line) × IsLine line
line_in-written text line is =
    option_and_then_some (λ n. if is_line n then Some n else None) (number_in text) line is
    (λ n found right.
    let tests = cond_some (is_line n) n line right in
    let both = both_true (nat_le 1 n) (nat_lt n (2 ^ 32)) tests.0 in
    let first : 1 ≤ n = grind (arith, nat_tests, both.0) in
    let small : n < 2 ^ 32 = grind (arith, nat_tests, both.1) in (
      (number_in-written text n found).0 ∙ ap decimal tests.1,
      subst IsLine tests.1 (record { first = first; small = small }),
    ))

-- no byte before the digits stands among digits
pub digits-without : (byte number : ℕ) → byte < 48 → number < 2 ^ 64
    → IsWithout byte (decimal number)
digits-without byte number low small =
    decimal_by_steps (λ n digits. IsWithout byte digits)
    (λ n under. (no_digit n, tt))
    (λ n digits over before.
    IsWithout-push byte digits (48 + n % 10) before (no_digit (n % 10)))
    number small
  where
    no_digit : (digit : ℕ) → (48 + digit == byte) ≡ false
    no_digit digit = grind (arith, nat_tests)

pub unescaped-again : (path : List ℕ) → unescaped (escaped false path) ≡ Some path
unescaped-again path =
    ap (λ part. option_map (λ found. found.0) part)
    (ap (part_at false) (sym (append-nil (escaped false path)))
    ∙ part-again false path [] (λ none. refl))

pub unescaped-written : (text path : List ℕ) → unescaped text ≡ Some path
    → text ≡ escaped false path
unescaped-written text path is =
    let found = option_map_some (λ (found : List ℕ × List ℕ). found.0)
    (part_at false text) path is in
    (part-written false false text found.0.0 found.0.1 found.1).is
    ∙ append-nil (escaped false found.0.0) ∙ ap (escaped false) found.2

quoted_at-again : (path rest : List ℕ) → quoted_at (quoted path ++ rest) ≡ Some (path, rest)
quoted_at-again path rest =
    ap (part_at true) (append_assoc (escaped true path) (quote ∷ []) rest)
    ∙ part-again true path rest (λ none. absurd cc)

quoted_at-written : (text path rest : List ℕ) → quoted_at text ≡ Some (path, rest)
    → text ≡ quoted path ++ rest
quoted_at-written [] path rest is = absurd cc
quoted_at-written (byte ∷ text) path rest is =
    cases (byte == quote)
    (λ here. let found : part_at true text ≡ Some (path, rest) = rw here at is in
    ap₂ (λ b t. b ∷ t) (same_number byte quote here)
    ((part-written true false text path rest found).is
    ∙ sym (append_assoc (escaped true path) (quote ∷ []) rest)))
    (λ apart. let none : None ≡ Some (path, rest) = rw apart at is in absurd cc)

-- the data of a move
move_in-again : (from to : List ℕ) → move_in (data_of (Move from to)) ≡ Some (Move from to)
move_in-again from to =
    rw (quoted_at-again from (space ∷ quoted to))
    (ap (option_and_then (moved from))
    (ap quoted_at (sym (append-nil (quoted to))) ∙ quoted_at-again to []))

moved-some : (from : List ℕ) (found : List ℕ × List ℕ) (op : Op) → moved from found ≡ Some op
    → (found.1 ≡ []) × (Move from found.0 ≡ op)
moved-some from (to, []) op is = (refl, cc)
moved-some from (to, byte ∷ rest) op is = absurd cc

-- a record's letter and data are those of its operation
pub record IsOp (letter : ℕ) (text : List ℕ) (op : Op) : Type 0 where
  pub marked : letter ≡ letter_of op
  pub written : text ≡ data_of op

move_to-written : (from text : List ℕ) (op : Op) → move_to from text ≡ Some op
    → (to : List ℕ) × (text ≡ space ∷ quoted to) × (Move from to ≡ op)
move_to-written from [] op is = absurd cc
move_to-written from (byte ∷ text) op is =
    cases (byte == space)
    (λ here. let found : option_and_then (moved from) (quoted_at text) ≡ Some op = rw here at is in
    option_and_then_some (moved from) (quoted_at text) op found
    (λ part at so. let over = moved-some from part op so in
    let behind : text ≡ quoted part.0 = quoted_at-written text part.0 part.1 at
    ∙ ap (λ rest. quoted part.0 ++ rest) over.0 ∙ append-nil (quoted part.0) in
    (part.0, ap₂ (λ b t. b ∷ t) (same_number byte space here) behind, over.1)))
    (λ apart. let none : None ≡ Some op = rw apart at is in absurd cc)

move_in-written : (text : List ℕ) (op : Op) → move_in text ≡ Some op
    → IsOp spec.letter_m text op
move_in-written text op is =
    option_and_then_some (λ (found : List ℕ × List ℕ). move_to found.0 found.1)
    (quoted_at text) op is
    (λ part at so. let more = move_to-written part.0 part.1 op so in
    let whole : text ≡ data_of (Move part.0 more.0) = quoted_at-written text part.0 part.1 at
    ∙ ap (λ rest. quoted part.0 ++ rest) more.1 in
    subst (IsOp spec.letter_m text) more.2 (record { marked = refl; written = whole }))

op_with-written : (letter : ℕ) (path : List ℕ) (op : Op) → op_with letter path ≡ Some op
    → (text : List ℕ) → text ≡ escaped false path → IsOp letter text op
op_with-written letter path op is text whole =
    cases (letter == spec.letter_r)
    (λ here. let found : Some (Read path) ≡ Some op = rw here at is in
    let so : Read path ≡ op = cc in
    subst (IsOp letter text) so (record {
      marked = same_number letter spec.letter_r here;
      written = whole;
    }))
    (λ r. cases (letter == spec.letter_miss)
    (λ here. let found : Some (Miss path) ≡ Some op = rw (r, here) at is in
    let so : Miss path ≡ op = cc in
    subst (IsOp letter text) so (record {
      marked = same_number letter spec.letter_miss here;
      written = whole;
    }))
    (λ m. cases (letter == spec.letter_w)
    (λ here. let found : Some (Write path) ≡ Some op = rw (r, m, here) at is in
    let so : Write path ≡ op = cc in
    subst (IsOp letter text) so (record {
      marked = same_number letter spec.letter_w here;
      written = whole;
    }))
    (λ w. cases (letter == spec.letter_d)
    (λ here. let found : Some (Delete path) ≡ Some op = rw (r, m, w, here) at is in
    let so : Delete path ≡ op = cc in
    subst (IsOp letter text) so (record {
      marked = same_number letter spec.letter_d here;
      written = whole;
    }))
    (λ d. let none : None ≡ Some op = rw (r, m, w, d) at is in absurd cc))))

op_in-written : (letter : ℕ) (text : List ℕ) (op : Op) → op_in letter text ≡ Some op
    → IsOp letter text op
op_in-written letter text op is =
    cases (letter == spec.letter_m)
    (λ here. let found : move_in text ≡ Some op = rw here at is in
    subst (λ l. IsOp l text op) (sym (same_number letter spec.letter_m here))
    (move_in-written text op found))
    (λ apart. let found : option_and_then (op_with letter) (unescaped text)
    ≡ Some op = rw apart at is in
    option_and_then_some (op_with letter) (unescaped text) op found
    (λ path at so. op_with-written letter path op so text (unescaped-written text path at)))

op_in-again : (op : Op) → op_in (letter_of op) (data_of op) ≡ Some op
op_in-again (Read path) = rw (unescaped-again path) refl
op_in-again (Miss path) = rw (unescaped-again path) refl
op_in-again (Write path) = rw (unescaped-again path) refl
op_in-again (Delete path) = rw (unescaped-again path) refl
op_in-again (Move from to) = move_in-again from to

-- What is written is read.
pub record_in-again : (line : ℕ) (op : Op) → IsLine line
    → record_in (record_text line op) ≡ Some (record { line = line; op = op })
record_in-again line op is =
    let cut = cut_at-again space (decimal line) (data_of op)
    (digits-without space line (lit< tt) (omega (arith, is.small))) in
    rw (cut, line_in-decimal line is, op_in-again op) refl

head_at-written : (text : List ℕ) (letter line : ℕ) (rest : List ℕ)
    → head_at text ≡ Some (letter, line, rest)
    → (text ≡ letter ∷ space ∷ decimal line ++ space ∷ rest) × IsLine line
head_at-written [] letter line rest is = absurd cc
head_at-written (first ∷ []) letter line rest is = absurd cc
head_at-written (first ∷ byte ∷ text) letter line rest is =
    cases (byte == space)
    (λ here. let found : option_and_then (numbered first) (cut_at space text)
    ≡ Some (letter, line, rest) = rw here at is in
    option_and_then_some (numbered first) (cut_at space text) (letter, line, rest) found
    (λ parts at so. let number = option_map_some (λ (n : ℕ). (first, n, parts.1)) (line_in parts.0)
    (letter, line, rest) so in
    let digits = line_in-written parts.0 number.0 number.1 in
    let whole = cut_at-written space text parts.0 parts.1 at in
    let same_letter : first ≡ letter = ap (λ h. h.0) number.2 in
    let same_line : number.0 ≡ line = ap (λ h. h.1) number.2 in
    let same_rest : parts.1 ≡ rest = ap (λ h. h.2) number.2 in
    let start : first ∷ byte ∷ text ≡ first ∷ space ∷ parts.0 ++ space ∷ parts.1 =
    ap₂ (λ b t. first ∷ b ∷ t) (same_number byte space here) whole in (
      start ∙ ap (λ d. first ∷ space ∷ d ++ space ∷ parts.1) (digits.0 ∙ ap decimal same_line)
          ∙ ap₂ (λ l r. l ∷ space ∷ decimal line ++ space ∷ r) same_letter same_rest,
      subst IsLine same_line digits.1,
    )))
    (λ apart. let none : None ≡ Some (letter, line, rest) = rw apart at is in absurd cc)

-- What is read is written so.
pub record_in-written : (text : List ℕ) (one : Rec) → record_in text ≡ Some one
    → IsLine one.line × (text ≡ record_text one.line one.op)
record_in-written text one is =
    option_and_then_some with_op (head_at text) one is
    (λ head at so. let op = option_map_some
    (λ (op : Op). let found : Rec = record { line = head.1; op = op } in found)
    (op_in head.0 head.2) one so in
    let first = head_at-written text head.0 head.1 head.2 at in
    let is_op = op_in-written head.0 head.2 op.0 op.1 in
    let whole : text ≡ record_text head.1 op.0 = first.0
    ∙ ap₂ (λ l r. l ∷ space ∷ decimal head.1 ++ space ∷ r) is_op.marked is_op.written in
    subst (λ (found : Rec). IsLine found.line × (text ≡ record_text found.line found.op)) op.2
    (first.1, whole))
