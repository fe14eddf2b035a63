-- Logical lines, one physical line after the other.
use Rattle.std.proofs.Common.{◌≡◌, ℕ, ◌+◌, ◌%◌, ◌==◌, ◌≤◌, ◌<◌, true, false, Bool, if◌then◌else◌}
use Rattle.std.proofs.Common.{List, [], ◌∷◌, ◌++◌, length, refl, ap, sym, ◌∙◌, arith, reverse, drop}
use Rattle.std.proofs.Common.{suc, cond}
use Rattle.std.specs.List.{onto_first, suffix_len, prefix_len}
use Rattle.std.proofs.lemmas.List.{reverse-append}
use Rattle.std.proofs.lemmas.List.Folds.{prefix_len-append}
use Rattle.std.proofs.lemmas.Bool.Decides.{nat_tests}
use Rattle.mk_bytes.specs.Bytes.{is_blank}
use Rattle.mk_lines.specs.Lines.{is_backslash, is_continued, line_groups, without_indent, lines_of}
use Rattle.mk_lines.proofs.PhysicalLemmas.{length-onto_first}

-- the lines that continue a line which is open, of those behind it
unfoldable pub continuing : Bool → List (List ℕ) → List (List ℕ)
continuing is_open [] = []
continuing is_open (next ∷ rest) =
    if is_open then next ∷ continuing (is_continued next) rest else []

-- the lines behind these
unfoldable pub behind : Bool → List (List ℕ) → List (List ℕ)
behind is_open [] = []
behind is_open (next ∷ rest) = if is_open then behind (is_continued next) rest else next ∷ rest

pub line_groups-first : (line : List ℕ) (rest : List (List ℕ))
    → line_groups (line ∷ rest)
    ≡ (line ∷ continuing (is_continued line) rest) ∷ line_groups (behind (is_continued line) rest)
unfolding line_groups continuing behind
line_groups-first line [] =
    elim (is_continued line) as (λ t.
    (if t then onto_first line [] else (line ∷ []) ∷ []) ≡ (line ∷ []) ∷ [])
    [ true ↦ refl | false ↦ refl ]
line_groups-first line (next ∷ rest) =
    let more : line_groups (next ∷ rest)
    ≡ (next ∷ continuing (is_continued next) rest)
    ∷ line_groups (behind (is_continued next) rest)
    = line_groups-first next rest in
    elim (is_continued line) as (λ t.
    (if t then onto_first line (line_groups (next ∷ rest))
    else (line ∷ []) ∷ line_groups (next ∷ rest))
    ≡ (line ∷ (if t then next ∷ continuing (is_continued next) rest else []))
    ∷ line_groups (if t then behind (is_continued next) rest else next ∷ rest))
    [ true ↦ ap (onto_first line) more | false ↦ refl ]

pub continuing-closed : (rest : List (List ℕ)) → continuing false rest ≡ []
unfolding continuing
continuing-closed [] = refl
continuing-closed (next ∷ rest) = refl

pub behind-closed : (rest : List (List ℕ)) → behind false rest ≡ rest
unfolding behind
behind-closed [] = refl
behind-closed (next ∷ rest) = refl

-- another byte in front of a list's end is not counted
pub suffix_len-cons : (p : ℕ → Bool) (x : ℕ) (xs : List ℕ) → p x ≡ false
    → suffix_len p (x ∷ xs) ≡ suffix_len p xs
suffix_len-cons p x xs fails =
    let last : prefix_len p (x ∷ []) ≡ 0 = rw fails refl in
    let all : prefix_len p (reverse xs ++ x ∷ []) ≡ prefix_len p (reverse xs)
    = rw (prefix_len-append p (reverse xs) (x ∷ []), last)
    (grind (arith, nat_tests)) in
    ap (prefix_len p) (reverse-append (x ∷ []) xs) ∙ all

-- blanks before a line's first other byte are no backslashes at its end
pub is_continued-without_indent : (line : List ℕ)
    → is_continued (without_indent line) ≡ is_continued line
is_continued-without_indent [] = refl
is_continued-without_indent (byte ∷ bytes) =
    let n = prefix_len is_blank bytes in
    let one_more : 1 + n ≡ suc n = omega arith in
    let blank_is_no_backslash : is_blank byte ≡ true → is_backslash byte ≡ false
    = λ blank. grind (arith, nat_tests) in
    let skipped : is_blank byte ≡ true → is_continued (drop n bytes) ≡ is_continued (byte ∷ bytes)
    = λ blank. is_continued-without_indent bytes ∙ ap (λ k. k % 2 == 1)
    (sym (suffix_len-cons is_backslash byte bytes (blank_is_no_backslash blank))) in
    elim (is_blank byte) as (λ t.
    (t ≡ true → is_continued (drop n bytes) ≡ is_continued (byte ∷ bytes))
    → is_continued (drop (cond t (1 + n) 0) (byte ∷ bytes)) ≡ is_continued (byte ∷ bytes))
    [ true ↦ λ k. rw one_more (k refl) | false ↦ λ k. refl ] skipped

pub is_continued-some : (line : List ℕ) → is_continued line ≡ true → 0 < length line
is_continued-some [] continues = cc
is_continued-some (byte ∷ bytes) continues = omega arith

-- each logical line takes a physical line
pub length-lines_of : (number : ℕ) (groups : List (List (List ℕ)))
    → length (lines_of number groups) ≡ length groups
length-lines_of number [] = refl
length-lines_of number (group ∷ groups) = ap suc (length-lines_of (number + length group) groups)

pub length-line_groups : (lines : List (List ℕ)) → length (line_groups lines) ≤ length lines
unfolding line_groups
length-line_groups [] = omega arith
length-line_groups (line ∷ rest) =
    let fewer : length (line_groups rest) ≤ length rest = length-line_groups rest in
    let longer : length (onto_first line (line_groups rest)) ≤ length (line_groups rest) + 1
    = length-onto_first line (line_groups rest) in
    elim (is_continued line) as (λ t.
    length (if t then onto_first line (line_groups rest)
    else (line ∷ []) ∷ line_groups rest) ≤ length (line ∷ rest))
    [ true ↦ omega arith | false ↦ omega arith ]

-- no physical line makes no logical line
pub lines_of-none : (number : ℕ) (lines : List (List ℕ)) → lines ≡ []
    → lines_of number (line_groups lines) ≡ []
unfolding line_groups
lines_of-none number lines none = ap (λ rest. lines_of number (line_groups rest)) none
