-- A line's comment and escapes, one unit of bytes after the other.
use Rattle.std.proofs.Common.{zero, suc, ◌≤◌, Option, Some, None, is_some}
use Rattle.std.specs.List.{list_any}
use Rattle.std.proofs.Common.{◌≡◌, ◌+◌, sym, ◌∙◌, append_assoc, length-drop, length-take, get_or-take, min, ◌≢◌, ℕ, ◌<◌, ◌++◌}
use Rattle.std.proofs.Common.{◌==◌, ◌&&◌, true, false, if◌then◌else◌, List, [], ◌∷◌, length, take}
use Rattle.std.proofs.Common.{drop, slice_index, refl, ap, arith}
use Rattle.std.proofs.Math.Bool.{or-true}
use Rattle.std.proofs.Math.Seq.{take-add, take-length}
use Rattle.std.proofs.lemmas.List.{append-nil, drop_all, drop-drop, get_or-drop, take-append-drop}
use Rattle.std.proofs.lemmas.Bool.Decides.{nat_tests}
use Rattle.std.proofs.lemmas.Bool.{ne_eqb, eq-eqb, false_from_ne_true}
use Rattle.memchr.specs.Find.{IsFirstByte, is_byte, is_byte3}
use Rattle.mk_bytes.specs.Bytes.{hash, square_open, backslash}
use Rattle.mk_lines.specs.Comment.{is_pair, unit_len, before_comment, plain, unescaped}

-- a unit that is no `#` is kept, and the rest of the line says what else is
before_comment-unit : (line : List ℕ) → 0 < length line → slice_index line 0 ≢ hash
    → before_comment line ≡ take (unit_len line) line ++ before_comment (drop (unit_len line) line)
unfolding before_comment
before_comment-unit [] some is_other = absurd (omega arith)
before_comment-unit (byte ∷ []) some is_other = rw (ne_eqb byte hash is_other) refl
before_comment-unit (byte ∷ next ∷ rest) some is_other =
    rw (ne_eqb byte hash is_other)
    (elim (is_pair byte next) as (λ t.
    (if t then byte ∷ next ∷ before_comment rest else byte ∷ before_comment (next ∷ rest))
    ≡ take (if t then 2 else 1) (byte ∷ next ∷ rest)
    ++ before_comment (drop (if t then 2 else 1) (byte ∷ next ∷ rest)))
    [ true ↦ refl | false ↦ refl ])

-- a comment keeps nothing, nor does the end
before_comment-over : (line : List ℕ) → (0 < length line → slice_index line 0 ≡ hash)
    → before_comment line ≡ []
unfolding before_comment
before_comment-over [] over = refl
before_comment-over (byte ∷ []) over = rw (eq-eqb byte hash (over (omega arith))) refl
before_comment-over (byte ∷ next ∷ rest) over = rw (eq-eqb byte hash (over (omega arith))) refl

get_or-drop-zero : (line : List ℕ) (end : ℕ) → slice_index (drop end line) 0 ≡ slice_index line end
get_or-drop-zero line end =
    let same : end + 0 ≡ end = omega arith in
    get_or-drop end line 0 0 ∙ ap (λ n. slice_index line n) same

-- what is passed and what is kept of the rest, one unit later
pub before_comment-step : (line : List ℕ) (end len : ℕ) → end < length line
    → slice_index line end ≢ hash → len ≡ unit_len (drop end line)
    → take (end + len) line ++ before_comment (drop (end + len) line)
    ≡ take end line ++ before_comment (drop end line)
before_comment-step line end len under is_other is =
    let some : 0 < length (drop end line) = rw length-drop (omega arith) in
    let starts : slice_index (drop end line) 0 ≢ hash = rw (get_or-drop-zero line end) is_other in
    rw (take-add end len line, ← drop-drop len end line, append_assoc, is)
    (ap (λ kept. take end line ++ kept) (sym (before_comment-unit (drop end line) some starts)))

-- what is passed is all that is kept where a comment or the end stands
pub before_comment-end : (line : List ℕ) (end : ℕ)
    → (end < length line → slice_index line end ≡ hash)
    → take end line ++ before_comment (drop end line) ≡ take end line
before_comment-end line end over =
    let is_over : 0 < length (drop end line) → slice_index (drop end line) 0 ≡ hash
    = λ some. get_or-drop-zero line end ∙ over (omega (arith, rw length-drop at some)) in
    rw (before_comment-over (drop end line) is_over) (append-nil _)

-- a byte that ends no run is kept
before_comment-byte : (byte : ℕ) (rest : List ℕ) → is_byte3 hash backslash square_open byte ≡ false
    → before_comment (byte ∷ rest) ≡ byte ∷ before_comment rest
unfolding before_comment
before_comment-byte byte [] is_other = grind (arith, nat_tests)
before_comment-byte byte (next ∷ rest) is_other = grind (arith, nat_tests)

-- and so is a run of them
pub before_comment-run : (len : ℕ) (line : List ℕ) → len ≤ length line
    → ((k : ℕ) → k < len → is_byte3 hash backslash square_open (slice_index line k) ≡ false)
    → before_comment line ≡ take len line ++ before_comment (drop len line)
before_comment-run zero line within is_other = refl
before_comment-run (suc len) [] within is_other = absurd (omega arith)
before_comment-run (suc len) (byte ∷ line) within is_other =
    before_comment-byte byte line (is_other 0 (omega arith))
    ∙ ap (λ more. byte ∷ more)
    (before_comment-run len line (omega arith) (λ k under. is_other (suc k) (omega arith)))

-- what is passed and what is kept of the rest, behind a run
pub before_comment-skip : (line : List ℕ) (end run : ℕ)
    → IsFirstByte (is_byte3 hash backslash square_open) (drop end line) (Some run)
    → take (end + run) line ++ before_comment (drop (end + run) line)
    ≡ take end line ++ before_comment (drop end line)
before_comment-skip line end run found =
    rw (take-add end run line, ← drop-drop run end line, append_assoc)
    (ap (λ kept. take end line ++ kept)
    (sym (before_comment-run run (drop end line) (omega (arith, found.0.high))
    (λ k under. false_from_ne_true _ (found.0.before k (omega arith) under)))))

-- a rest that is one run is kept
pub before_comment-rest : (line : List ℕ) (end : ℕ)
    → IsFirstByte (is_byte3 hash backslash square_open) (drop end line) None
    → take end line ++ before_comment (drop end line) ≡ line
before_comment-rest line end none =
    let rest = drop end line in
    let nothing : before_comment [] ≡ [] = before_comment-over [] (λ some. absurd (omega arith)) in
    let all : before_comment rest ≡ rest =
    before_comment-run (length rest) rest (omega arith)
    (λ k under. false_from_ne_true _ (none k (omega arith) under))
    ∙ rw (take-length rest, drop_all (length rest) rest (omega arith), nothing) (append-nil rest)
    in
    rw all (take-append-drop end line)

plain-byte : (byte : ℕ) → plain (byte ∷ []) ≡ byte ∷ []
plain-byte byte =
    elim (byte == backslash) as (λ t. (if t && false then hash ∷ [] else byte ∷ []) ≡ byte ∷ [])
    [ true ↦ refl | false ↦ refl ]

unescaped-none : unescaped [] ≡ []
unfolding unescaped
unescaped-none = refl

-- a unit is unescaped by itself
unescaped-unit : (line : List ℕ) → 0 < length line
    → unescaped line ≡ plain (take (unit_len line) line) ++ unescaped (drop (unit_len line) line)
unfolding unescaped
unescaped-unit [] some = absurd (omega arith)
unescaped-unit (byte ∷ []) some = rw (plain-byte byte) refl
unescaped-unit (byte ∷ next ∷ rest) some =
    elim (is_pair byte next) as (λ t.
    (if t then plain (byte ∷ next ∷ []) ++ unescaped rest
    else byte ∷ unescaped (next ∷ rest))
    ≡ plain (take (if t then 2 else 1) (byte ∷ next ∷ rest))
    ++ unescaped (drop (if t then 2 else 1) (byte ∷ next ∷ rest)))
    [ true ↦ refl | false ↦ rw (plain-byte byte) refl ]

hash_is_no_backslash : (byte next : ℕ) → (byte == square_open && next == hash) ≡ true
    → next ≢ backslash
hash_is_no_backslash byte next is same = grind (arith, nat_tests)

-- a byte that is no backslash stays
unescaped-byte : (byte : ℕ) (rest : List ℕ) → byte ≢ backslash
    → unescaped (byte ∷ rest) ≡ byte ∷ unescaped rest
unfolding unescaped
unescaped-byte byte [] is_other = refl
unescaped-byte byte (next ∷ rest) is_other =
    let pairs = byte == square_open && next == hash in
    let stays : pairs ≡ true → unescaped (next ∷ rest) ≡ next ∷ unescaped rest
    = λ is. unescaped-byte next rest (hash_is_no_backslash byte next is) in
    rw (ne_eqb byte backslash is_other)
    (elim pairs as (λ t.
    (t ≡ true → unescaped (next ∷ rest) ≡ next ∷ unescaped rest)
    → (if t then byte ∷ next ∷ unescaped rest else byte ∷ unescaped (next ∷ rest))
    ≡ byte ∷ unescaped (next ∷ rest))
    [ true ↦ λ k. ap (λ more. byte ∷ more) (sym (k refl)) | false ↦ λ k. refl ] stays)

-- bytes before the first backslash stay
unescaped-run : (len : ℕ) (line : List ℕ) → len ≤ length line
    → ((k : ℕ) → k < len → slice_index line k ≢ backslash)
    → unescaped line ≡ take len line ++ unescaped (drop len line)
unescaped-run zero line within is_other = refl
unescaped-run (suc len) [] within is_other = absurd (omega arith)
unescaped-run (suc len) (byte ∷ line) within is_other =
    unescaped-byte byte line (is_other 0 (omega arith))
    ∙ ap (λ more. byte ∷ more)
    (unescaped-run len line (omega arith) (λ k under. is_other (suc k) (omega arith)))

-- the first escape is unescaped, and the bytes before it stay
pub unescaped-escape : (line : List ℕ) (place : ℕ)
    → IsFirstByte (is_byte backslash) line (Some place)
    → let escape = drop place line in
    unescaped line ≡ take place line ++ (plain (take (unit_len escape) escape)
    ++ unescaped (drop (unit_len escape) escape))
unescaped-escape line place found =
    let some : 0 < length (drop place line) = rw length-drop (omega (arith, found.0.high)) in
    unescaped-run place line (omega (arith, found.0.high))
    (λ k under is. found.0.before k (omega arith) under (eq-eqb _ _ is))
    ∙ ap (λ more. take place line ++ more) (unescaped-unit (drop place line) some)

-- a line that is one such run
unescaped-rest : (line : List ℕ) → ((k : ℕ) → k < length line → slice_index line k ≢ backslash)
    → unescaped line ≡ line
unescaped-rest line is_other =
    unescaped-run (length line) line (omega arith) is_other
    ∙ rw (take-length line, drop_all (length line) line (omega arith), unescaped-none)
    (append-nil line)

pub unescaped-without : (line : List ℕ) → IsFirstByte (is_byte backslash) line None
    → unescaped line ≡ line
unescaped-without line none =
    unescaped-rest line (λ k under is. none k (omega arith) under (eq-eqb _ _ is))

-- what a line begins with, where the line holds no byte that begins a comment or a unit
pub unescaped-take : (line : List ℕ) (len : ℕ)
    → IsFirstByte (is_byte3 hash backslash square_open) line None
    → unescaped (take len line) ≡ take len line
unescaped-take line len none =
    unescaped-rest (take len line) (λ k under is.
    let within : k < min len (length line) = rw length-take at under in
    let same : slice_index line k ≡ backslash
    = sym (get_or-take len line k 0 (omega (arith, within))) ∙ is in
    none k (omega arith) (omega (arith, within)) (rw same refl))

-- whether a byte is found, and whether there is one
pub list_any-none : (byte : ℕ) (line : List ℕ)
    → ((k : ℕ) → k < length line → is_byte byte (slice_index line k) ≡ false)
    → list_any (is_byte byte) line ≡ false
list_any-none byte [] none = refl
list_any-none byte (first ∷ line) none =
    rw (none 0 (omega arith), list_any-none byte line (λ k under. none (suc k) (omega arith))) refl

pub list_any-some : (byte : ℕ) (line : List ℕ) (at : ℕ) → at < length line
    → is_byte byte (slice_index line at) ≡ true → list_any (is_byte byte) line ≡ true
list_any-some byte [] at within is = absurd (omega arith)
list_any-some byte (first ∷ line) zero within is = rw is refl
list_any-some byte (first ∷ line) (suc at) within is =
    rw (list_any-some byte line at (omega arith) is) (or-true (is_byte byte first))

pub list_any-found : (byte : ℕ) (line : List ℕ) (found : Option ℕ)
    → IsFirstByte (is_byte byte) line found → is_some found ≡ list_any (is_byte byte) line
list_any-found byte line None none =
    sym (list_any-none byte line
    (λ k under. false_from_ne_true _ (none k (omega arith) under)))
list_any-found byte line (Some at) found =
    sym (list_any-some byte line at (omega (arith, found.0.high)) found.1)
