-- A text that is cut into pieces, each of which ends where a logical line does.
use Rattle.std.proofs.Common.{◌≡◌, ℕ, suc, ◌+◌, ◌<◌, ◌≤◌, Bool, true, false, if◌then◌else◌}
use Rattle.std.proofs.Common.{◌%◌, ◌==◌, List, [], ◌∷◌, ◌++◌, length, reverse, take, drop, inl, inr, ◌⊎◌, Ok}
use Rattle.std.proofs.Common.{refl, ap, sym, subst, ◌∙◌, arith, append_assoc, length-append}
use Rattle.std.proofs.Common.{length-take, length-drop, slice_index, get_or-take, add-one, Some}
use Rattle.std.specs.List.{All, list_any, onto_first, prefix_len}
use Rattle.std.proofs.lemmas.Bool.{or_parts, eqb-true}
use Rattle.std.proofs.lemmas.Bool.Decides.{nat_tests}
use Rattle.std.proofs.lemmas.List.{length-reverse, reverse-append}
use Rattle.std.proofs.lemmas.List.Elements.{All-nil, All-cons, All-head, All-tail, All-append}
use Rattle.std.proofs.lemmas.List.Folds.{prefix_len-append}
use Rattle.std.proofs.lemmas.List.Sums.{suffix_len-le-length}
use Rattle.std.proofs.Math.Seq.{split_at}
use Rattle.memchr.specs.Find.{IsLastByte, is_byte}
use Rattle.mk_bytes.specs.Bytes.{newline}
use Rattle.mk_lines.specs.Lines.{is_newline, is_backslash, is_continued, physical_lines, line_groups}
use Rattle.mk_lines.specs.Lines.{joined, text_of, without_last, without_indent}
use Rattle.mk_lines.specs.Faults.{max_len, holds_zero, checked, HoldNoZero, NoneTooLong}
use Rattle.mk_lines.specs.Faults.{zeros_checked, len_checked, groups_checked}
use Rattle.mk_lines.proofs.PhysicalLemmas.{physical_lines-first}
use Rattle.mk_lines.proofs.GroupLemmas.{line_groups-first, suffix_len-cons}
use Rattle.mk_lines.proofs.CheckLemmas.{HoldNoZero-lines}

-- how many bytes lines take, with one for the end of each
abbrev size : List (List ℕ) → ℕ
size [] = 0
size (line ∷ rest) = length line + 1 + size rest

size-onto_first : (byte : ℕ) (lines : List (List ℕ)) (len : ℕ) → size lines ≤ len + 1
    → size (onto_first byte lines) ≤ len + 2
size-onto_first byte [] len within = omega arith
size-onto_first byte (line ∷ lines) len within = omega arith

-- the end of the text may end one line more
size-physical_lines : (text : List ℕ) → size (physical_lines text) ≤ length text + 1
unfolding physical_lines
size-physical_lines [] = omega arith
size-physical_lines (byte ∷ bytes) =
    let rest : size (physical_lines bytes) ≤ length bytes + 1 = size-physical_lines bytes in
    let more : size (onto_first byte (physical_lines bytes)) ≤ length bytes + 2
    = size-onto_first byte (physical_lines bytes) (length bytes) rest in
    elim (is_newline byte) as (λ t.
    size (if t then [] ∷ physical_lines bytes else onto_first byte (physical_lines bytes))
    ≤ length (byte ∷ bytes) + 1)
    [ true ↦ omega arith | false ↦ omega arith ]

-- joined lines are no longer than they were
length-joined_within : (line : List ℕ) (rest : List (List ℕ))
    → length (joined line rest) ≤ length line + size rest
unfolding joined
length-joined_within line [] =
    let shorter : length (without_last line) ≤ length line = rw length-take (omega arith) in
    elim (is_continued line) as (λ t.
    length (if t then without_last line else line) ≤ length line + 0)
    [ true ↦ omega arith | false ↦ omega arith ]
length-joined_within line (next ∷ rest) =
    let more : length (joined (without_indent next) rest) ≤ length (without_indent next) + size rest
    = length-joined_within (without_indent next) rest in
    let shorter : length (without_indent next) ≤ length next = rw length-drop (omega arith) in
    let last : length (without_last line) ≤ length line = rw length-take (omega arith) in
    rw length-append (omega arith)

length-text_of : (group : List (List ℕ)) (len : ℕ) → size group ≤ len + 1
    → length (text_of group) ≤ len
length-text_of [] len within = omega arith
length-text_of (line ∷ rest) len within = omega (arith, length-joined_within line rest)

size-onto_groups : (line : List ℕ) (groups : List (List (List ℕ))) (low len : ℕ)
    → length line + 1 + low ≤ len → All (λ group. size group ≤ low) groups
    → All (λ group. size group ≤ len) (onto_first line groups)
size-onto_groups line [] low len within each =
    All-cons (λ group. size group ≤ len) (line ∷ []) [] (omega arith) (All-nil _)
size-onto_groups line (group ∷ groups) low len within each =
    All-cons (λ group. size group ≤ len) (line ∷ group) groups
    (omega (arith, each 0 group (omega arith)))
    (λ k d under. omega (arith, each (suc k) d (omega arith)))

-- the lines of a group are some of all
size-groups : (lines : List (List ℕ))
    → All (λ group. size group ≤ size lines) (line_groups lines)
unfolding line_groups
size-groups [] = All-nil _
size-groups (line ∷ rest) =
    let more = size-groups rest in
    let alone = All-cons (λ group. size group ≤ size (line ∷ rest)) (line ∷ []) (line_groups rest)
    (omega arith) (λ k d under. omega (arith, more k d under)) in
    let onto = size-onto_groups line (line_groups rest) (size rest) (size (line ∷ rest))
    (omega arith) more in
    elim (is_continued line) as (λ t.
    All (λ group. size group ≤ size (line ∷ rest))
    (if t then onto_first line (line_groups rest) else (line ∷ []) ∷ line_groups rest))
    [ true ↦ onto | false ↦ alone ]

-- a text that is no longer than a line may be
pub NoneTooLong-short : (text : List ℕ) → length text ≤ max_len → NoneTooLong text
NoneTooLong-short text within k d under =
    length-text_of _ max_len
    (omega (arith, size-groups (physical_lines text) k d under, size-physical_lines text))

onto_first-append : {X : Type 0} (x : X) (parts more : List (List X)) → 0 < length parts
    → onto_first x (parts ++ more) ≡ onto_first x parts ++ more
onto_first-append x [] more some = absurd (omega arith)
onto_first-append x (part ∷ parts) more some = refl

physical_lines-some : (text : List ℕ) → 0 < length text → 0 < length (physical_lines text)
physical_lines-some text some = rw (physical_lines-first text some) (omega arith)

line_groups-some : (lines : List (List ℕ)) → 0 < length lines → 0 < length (line_groups lines)
line_groups-some [] some = absurd (omega arith)
line_groups-some (line ∷ rest) some = rw (line_groups-first line rest) (omega arith)

-- the lines up to a newline, and those behind it
physical_lines-cut : (before after : List ℕ)
    → physical_lines (before ++ newline ∷ after)
    ≡ physical_lines (before ++ newline ∷ []) ++ physical_lines after
unfolding physical_lines
physical_lines-cut [] after = refl
physical_lines-cut (byte ∷ before) after =
    let parts = physical_lines (before ++ newline ∷ []) in
    let cut : physical_lines (before ++ newline ∷ after) ≡ parts ++ physical_lines after
    = physical_lines-cut before after in
    let some : 0 < length parts = physical_lines-some (before ++ newline ∷ []) (rw length-append (omega arith)) in
    rw cut
    (elim (is_newline byte) as (λ t.
    (if t then [] ∷ (parts ++ physical_lines after)
    else onto_first byte (parts ++ physical_lines after))
    ≡ (if t then [] ∷ parts else onto_first byte parts) ++ physical_lines after)
    [ true ↦ refl | false ↦ onto_first-append byte parts (physical_lines after) some ])

-- the logical lines up to a line that is not continued, and those behind it
line_groups-cut : (before after : List (List ℕ)) (line : List ℕ) → is_continued line ≡ false
    → line_groups (before ++ line ∷ after)
    ≡ line_groups (before ++ line ∷ []) ++ line_groups after
unfolding line_groups
line_groups-cut [] after line stops = rw stops refl
line_groups-cut (first ∷ before) after line stops =
    let groups = line_groups (before ++ line ∷ []) in
    let cut : line_groups (before ++ line ∷ after) ≡ groups ++ line_groups after
    = line_groups-cut before after line stops in
    let some : 0 < length groups = line_groups-some (before ++ line ∷ []) (rw length-append (omega arith)) in
    rw cut
    (elim (is_continued first) as (λ t.
    (if t then onto_first first (groups ++ line_groups after)
    else (first ∷ []) ∷ (groups ++ line_groups after))
    ≡ (if t then onto_first first groups else (first ∷ []) ∷ groups) ++ line_groups after)
    [ true ↦ onto_first-append first groups (line_groups after) some | false ↦ refl ])

-- a text with a newline, and what stands behind its last one
record LastNewline (text : List ℕ) : Type 0 where
  before : List ℕ
  behind : List ℕ
  is : text ≡ before ++ newline ∷ behind
  one : physical_lines (behind ++ newline ∷ []) ≡ behind ∷ []

-- a text is one line, or has a last newline
one_or_more : (text : List ℕ)
    → (physical_lines (text ++ newline ∷ []) ≡ text ∷ []) ⊎ LastNewline text
unfolding physical_lines
one_or_more [] = inl refl
one_or_more (byte ∷ text) = go (is_newline byte) refl (one_or_more text) where
  go : (t : Bool) → is_newline byte ≡ t
      → (physical_lines (text ++ newline ∷ []) ≡ text ∷ []) ⊎ LastNewline text
      → (physical_lines (byte ∷ text ++ newline ∷ []) ≡ (byte ∷ text) ∷ [])
      ⊎ LastNewline (byte ∷ text)
  go true is (inl one) = inr (record {
    before = [];
    behind = text;
    is = ap (λ b. b ∷ text) (eqb-true byte newline is);
    one = one;
  })
  go false is (inl one) = inl (rw (is, one) refl)
  go t is (inr l) = inr (record {
    before = byte ∷ l.before;
    behind = l.behind;
    is = ap (λ bytes. byte ∷ bytes) l.is;
    one = l.one;
  })

-- what stands before a newline counts for no backslash behind it
is_continued-behind : (before behind : List ℕ)
    → is_continued (before ++ newline ∷ behind) ≡ is_continued behind
is_continued-behind before behind =
    let back = reverse (newline ∷ behind) in
    let same : prefix_len is_backslash back ≡ prefix_len is_backslash (reverse behind)
    = suffix_len-cons is_backslash newline behind refl in
    let fewer : prefix_len is_backslash (reverse behind) ≤ length behind
    = suffix_len-le-length is_backslash behind in
    let len : length back ≡ length behind + 1 = length-reverse (newline ∷ behind) ∙ omega arith in
    let all : prefix_len is_backslash (back ++ reverse before) ≡ prefix_len is_backslash back
    = rw prefix_len-append (grind (arith, nat_tests, same, fewer, len)) in
    ap (λ k. k % 2 == 1)
    (ap (prefix_len is_backslash) (reverse-append before (newline ∷ behind)) ∙ all ∙ same)

-- the last of the lines up to a newline is continued if the text before it ends so
record LastLine (text : List ℕ) : Type 0 where
  before : List (List ℕ)
  last : List ℕ
  is : physical_lines (text ++ newline ∷ []) ≡ before ++ last ∷ []
  same : is_continued text ≡ is_continued last

last_line : (text : List ℕ) → LastLine text
last_line text = go (one_or_more text) where
  go : (physical_lines (text ++ newline ∷ []) ≡ text ∷ []) ⊎ LastNewline text → LastLine text
  go (inl one) = record { before = []; last = text; is = one; same = refl }
  go (inr l) = record {
    before = physical_lines (l.before ++ newline ∷ []);
    last = l.behind;
    is = rw (l.is, append_assoc)
        (physical_lines-cut l.before (l.behind ++ newline ∷ [])
        ∙ ap (λ lines. physical_lines (l.before ++ newline ∷ []) ++ lines) l.one);
    same = rw l.is (is_continued-behind l.before l.behind);
  }

-- a piece that ends in a newline which ends a logical line, and what follows it
NoneTooLong-cut : (text after : List ℕ) → is_continued text ≡ false
    → NoneTooLong (text ++ newline ∷ []) → NoneTooLong after
    → NoneTooLong (text ++ newline ∷ after)
NoneTooLong-cut text after stops short rest =
    let l = last_line text in
    let behind = physical_lines after in
    let cut : line_groups (physical_lines (text ++ newline ∷ after))
    ≡ line_groups (physical_lines (text ++ newline ∷ [])) ++ line_groups behind
    = rw (physical_lines-cut text after, l.is, append_assoc)
    (line_groups-cut l.before behind l.last (sym l.same ∙ stops)) in
    subst (All (λ group. length (text_of group) ≤ max_len)) (sym cut)
    (All-append (λ group. length (text_of group) ≤ max_len)
    (line_groups (physical_lines (text ++ newline ∷ []))) (line_groups behind)
    short rest)

-- no zero byte, and no line that is too long
HoldNoZero-onto_groups : (line : List ℕ) (groups : List (List (List ℕ))) → holds_zero line ≡ false
    → All HoldNoZero groups → All HoldNoZero (onto_first line groups)
HoldNoZero-onto_groups line [] none each =
    All-cons HoldNoZero (line ∷ []) [] (rw none refl) (All-nil HoldNoZero)
HoldNoZero-onto_groups line (group ∷ groups) none each =
    All-cons HoldNoZero (line ∷ group) groups
    (rw (none, All-head HoldNoZero group groups each) refl)
    (All-tail HoldNoZero group groups each)

HoldNoZero-groups : (lines : List (List ℕ)) → HoldNoZero lines
    → All HoldNoZero (line_groups lines)
unfolding line_groups
HoldNoZero-groups [] none = All-nil _
HoldNoZero-groups (line ∷ rest) none =
    let parts = or_parts (holds_zero line) (list_any holds_zero rest) none in
    let more = HoldNoZero-groups rest parts.1 in
    elim (is_continued line) as (λ t.
    All HoldNoZero
    (if t then onto_first line (line_groups rest) else (line ∷ []) ∷ line_groups rest)) [
      | true ↦ HoldNoZero-onto_groups line (line_groups rest) parts.0 more
      | false ↦ All-cons HoldNoZero (line ∷ []) (line_groups rest) (rw parts.0 refl) more
    ]

zeros_checked-none : (number : ℕ) (lines : List (List ℕ)) → HoldNoZero lines
    → zeros_checked number lines ≡ Ok tt
zeros_checked-none number [] none = refl
zeros_checked-none number (line ∷ rest) none =
    let parts = or_parts (holds_zero line) (list_any holds_zero rest) none in
    rw (parts.0, zeros_checked-none (number + 1) rest parts.1) refl

len_checked-within : (number len : ℕ) → len ≤ max_len → len_checked number len ≡ Ok tt
len_checked-within number len within = grind (arith, nat_tests)

groups_checked-none : (number : ℕ) (groups : List (List (List ℕ))) → All HoldNoZero groups
    → All (λ group. length (text_of group) ≤ max_len) groups
    → groups_checked number groups ≡ Ok tt
groups_checked-none number [] none short = refl
groups_checked-none number (group ∷ groups) none short =
    let is_short : List (List ℕ) → Type 0 = λ group. length (text_of group) ≤ max_len in
    rw (
      zeros_checked-none number group (All-head HoldNoZero group groups none),
      len_checked-within number (length (text_of group)) (All-head is_short group groups short),
      groups_checked-none (number + length group) groups (All-tail HoldNoZero group groups none)
          (All-tail is_short group groups short),
    )
    refl

pub checked-none : (text : List ℕ) → holds_zero text ≡ false → NoneTooLong text
    → checked text ≡ Ok tt
checked-none text none short =
    groups_checked-none 1 (line_groups (physical_lines text))
    (HoldNoZero-groups (physical_lines text) (HoldNoZero-lines text none)) short

-- a text that is cut behind a newline of its first bytes
pub NoneTooLong-cut_at : (text : List ℕ) (end : ℕ)
    → IsLastByte (is_byte newline) (take max_len text) (Some end)
    → is_continued (take end text) ≡ false
    → NoneTooLong (drop (end + 1) text) → NoneTooLong text
NoneTooLong-cut_at text end found stops rest =
    let short : end < max_len = omega (arith, found.0.high, length-take max_len text) in
    let within : end < length text = omega (arith, found.0.high, length-take max_len text) in
    let is : slice_index text end ≡ newline
    = sym (get_or-take max_len text end 0 short) ∙ eqb-true _ _ found.1 in
    let parts : text ≡ take end text ++ newline ∷ drop (end + 1) text
    = split_at text end 0 within
    ∙ rw (is, add-one end) refl in
    let piece : length (take end text ++ newline ∷ []) ≤ max_len
    = rw (length-append, length-take) (omega arith) in
    subst NoneTooLong (sym parts)
    (NoneTooLong-cut (take end text) (drop (end + 1) text) stops
    (NoneTooLong-short (take end text ++ newline ∷ []) piece) rest)
