-- How the text of a modifier begins, by the row that it begins.
use Rattle.std.proofs.Common.{◌≡◌, ℕ, suc, ◌+◌, ◌<◌, Bool, true, not, ◌==◌, ◌&&◌, List, [], ◌∷◌}
use Rattle.std.proofs.Common.{◌++◌, length, take, drop, Option, Some, None, codes, position, get_or}
use Rattle.std.proofs.Common.{refl, sym, ap, ◌∙◌, if◌then◌else◌}
use Rattle.std.proofs.lemmas.Bool.{cond_both, and_parts}
use Rattle.std.proofs.lemmas.Bool.Decides.{Decides-eqb}
use Rattle.std.proofs.lemmas.List.{take-append-drop, drop-drop}
use Rattle.std.proofs.Math.Seq.{drop-cons}
use Rattle.std.proofs.Common.{◌≤◌, arith}
use Rattle.std.proofs.lemmas.List.Quantifiers.{position-Some}
use Rattle.std.proofs.lemmas.Slice.Eq.{starts_is}
use Rattle.mk_bytes.specs.Bytes.{at_sign}
use Rattle.mk_ast.specs.Places.{ends_modifier}
use Rattle.mk_ast.specs.Spell.{closer, spell_mod}
use Rattle.mk_ast.specs.Rows.{is_end, is_empty, words, word_text, word_mod, begins, is_word}
use Rattle.mk_ast.specs.Rows.{word_among, is_left_out, begun_row, word_or, row_of}
use Rattle.mk_ast.specs.Separators.{is_one_byte, is_separator, checked_len, separator_len}
use Rattle.mk_ast.specs.Separators.{ends_name, named_len, name_len}
use Rattle.mk_ast.specs.declared.row.Argument.{Argument}
use Rattle.mk_ast.specs.declared.row.Argument.TheVariants as argument
use Rattle.mk_ast.specs.declared.row.Row.{Row}
use Rattle.mk_ast.specs.declared.row.Row.TheVariants as row
use Rattle.mk_ast.specs.declared.row.Word.{Word}
use Rattle.mk_ast.specs.declared.row.Word.TheVariants as word
use Rattle.mk_ast.proofs.Spelled.{is_end-is_empty}

-- the text begins with this
abbrev pub Begins : List ℕ → List ℕ → Type 0
Begins start bytes = bytes ≡ start ++ drop (length start) bytes

begins-Begins : (start bytes : List ℕ) → begins start bytes ≡ true → Begins start bytes
unfolding begins
begins-Begins start bytes is = (starts_is Decides-eqb bytes start (begins start bytes) refl).0 is

-- the letter or word of a row with one text
abbrev pub argument_text : Argument → List ℕ
argument_text argument.Keep = codes "M"
argument_text argument.Without = codes "N"
argument_text argument.RangeTo = codes "range="
argument_text argument.IfUndefined = codes "U"
argument_text argument.IfDefined = codes "D"

-- what a text has to be to begin a row
abbrev pub Fits : Bool → List ℕ → Row → Type 0
Fits round bytes row.LeftOut = Unit {0}
Fits round bytes row.Empty = is_empty round bytes ≡ true
Fits round bytes (row.Word word) =
    Begins (word_text word) bytes × (is_empty round (drop (length (word_text word)) bytes) ≡ true)
Fits round bytes (row.Argument argument) = Begins (argument_text argument) bytes
Fits round bytes row.Subst = Begins (codes "S") bytes
Fits round bytes row.Separator = Begins (codes "ts") bytes
Fits round bytes row.Select = Begins (codes "[") bytes
Fits round bytes row.Choose = Begins (codes "?") bytes
Fits round bytes row.Each = Begins (codes "@") bytes
Fits round bytes row.Suffix = Unit {0}

begun_row-fits : (round : Bool) (bytes : List ℕ) → Fits round bytes (begun_row bytes)
begun_row-fits round bytes =
    let P : Row → Type 0 = Fits round bytes in
    cond_both (begins (codes "M") bytes) _ _ P (begins-Begins (codes "M") bytes)
    (λ _. cond_both (begins (codes "N") bytes) _ _ P (begins-Begins (codes "N") bytes)
    (λ _. cond_both (begins (codes "S") bytes) _ _ P (begins-Begins (codes "S") bytes)
    (λ _. cond_both (begins (codes "ts") bytes) _ _ P (begins-Begins (codes "ts") bytes)
    (λ _. cond_both (begins (codes "[") bytes) _ _ P (begins-Begins (codes "[") bytes)
    (λ _. cond_both (begins (codes "range=") bytes) _ _ P (begins-Begins (codes "range=") bytes)
    (λ _. cond_both (begins (codes "U") bytes) _ _ P (begins-Begins (codes "U") bytes)
    (λ _. cond_both (begins (codes "D") bytes) _ _ P (begins-Begins (codes "D") bytes)
    (λ _. cond_both (begins (codes "?") bytes) _ _ P (begins-Begins (codes "?") bytes)
    (λ _. cond_both (begins (codes "@") bytes) _ _ P (begins-Begins (codes "@") bytes)
    (λ _. tt))))))))))

is_word-fits : (round : Bool) (word : Word) (bytes : List ℕ) → is_word round (word_text word) bytes
    ≡ true
    → Fits round bytes (row.Word word)
unfolding is_word
is_word-fits round word bytes is =
    let text = word_text word in
    let rest = drop (length text) bytes in
    let both = and_parts (begins text bytes) (is_end round rest) is in
    (begins-Begins text bytes both.0, is_end-is_empty round rest both.1)

word_or-fits : (round : Bool) (among : List Word) (bytes : List ℕ)
    → Fits round bytes (word_or (word_among round among bytes) (begun_row bytes))
word_or-fits round [] bytes = begun_row-fits round bytes
word_or-fits round (word ∷ more) bytes =
    let P : Option Word → Type 0 = λ found. Fits round bytes (word_or found (begun_row bytes)) in
    cond_both (is_word round (word_text word) bytes) (Some word) (word_among round more bytes) P
    (is_word-fits round word bytes)
    (λ _. word_or-fits round more bytes)

-- A text fits the row that it begins.
pub row_of-fits : (round : Bool) (bytes : List ℕ) → Fits round bytes (row_of round bytes)
row_of-fits round bytes =
    let P : Row → Type 0 = Fits round bytes in
    let other = word_or (word_among round words bytes) (begun_row bytes) in
    cond_both (is_left_out round bytes) row.LeftOut
    (if is_empty round bytes then row.Empty else other) P
    (λ _. tt)
    (λ _. cond_both (is_empty round bytes) row.Empty other P (λ is. is)
    (λ _. word_or-fits round words bytes))

pub word_mod-text : (word : Word) → spell_mod (word_mod word) ≡ word_text word
unfolding spell_mod
word_mod-text word.Head = refl
word_mod-text word.Tail = refl
word_mod-text word.Root = refl
word_mod-text word.Extension = refl
word_mod-text word.Sort = refl
word_mod-text word.SortBack = refl
word_mod-text word.Unique = refl
word_mod-text word.Lower = refl
word_mod-text word.Upper = refl
word_mod-text word.Quote = refl
word_mod-text word.QuoteDollar = refl
word_mod-text word.OneWord = refl
word_mod-text word.OneWordStar = refl
word_mod-text word.OneWordZero = refl
word_mod-text word.ManyWords = refl
word_mod-text word.ManyWordsAt = refl
word_mod-text word.Range = refl
word_mod-text word.NameOf = refl

-- where a byte that ends modifiers is found, one ends
found-is_empty : (round : Bool) (bytes : List ℕ) (i : ℕ) → i < length bytes
    → ends_modifier round (get_or bytes i 0) ≡ true → is_empty round (drop i bytes) ≡ true
found-is_empty round bytes i within is =
    let from : drop i bytes ≡ get_or bytes i 0 ∷ drop (suc i) bytes = drop-cons bytes i 0 within in
    rw from is

one_byte-is_empty : (round : Bool) (bytes : List ℕ) → is_one_byte round bytes ≡ true
    → is_empty round (drop 1 bytes) ≡ true
one_byte-is_empty round [] is = cc
one_byte-is_empty round (byte ∷ bytes) is =
    is_end-is_empty round bytes (and_parts (not (byte == closer round)) (is_end round bytes) is).1

checked_len-is_empty : (round : Bool) (bytes : List ℕ) (found : Option ℕ) (len : ℕ)
    → position (ends_modifier round) bytes ≡ found
    → checked_len bytes found ≡ Some len → is_empty round (drop len bytes) ≡ true
checked_len-is_empty round bytes None len at is = cc
checked_len-is_empty round bytes (Some i) len at is =
    let ends = position-Some (ends_modifier round) bytes i 0 at in
    cond_both (is_separator (take i bytes)) (Some i) None
    (λ r. r ≡ Some len → is_empty round (drop len bytes) ≡ true)
    (λ _ same. let e : i ≡ len = cc in rw (← e) (found-is_empty round bytes i ends.0 ends.1))
    (λ _ same. cc)
    is

-- Behind a separator a modifier ends.
pub separator_len-ends : (round : Bool) (bytes : List ℕ) (len : ℕ) → separator_len round bytes
    ≡ Some len
    → is_empty round (drop len bytes) ≡ true
separator_len-ends round bytes len is =
    cond_both (is_one_byte round bytes) (Some 1)
    (checked_len bytes (position (ends_modifier round) bytes))
    (λ r. r ≡ Some len → is_empty round (drop len bytes) ≡ true)
    (λ one same. let e : 1 ≡ len = cc in rw (← e) (one_byte-is_empty round bytes one))
    (λ _ same. checked_len-is_empty round bytes
    (position (ends_modifier round) bytes) len refl same)
    is

named_len-at : (bytes : List ℕ) (found : Option ℕ) (len : ℕ) → named_len bytes found ≡ Some len
    → Begins (codes "@") (drop len bytes)
named_len-at bytes None len is = cc
named_len-at bytes (Some i) len is =
    let named = not (i == 0) && begins (codes "@") (drop i bytes) in
    cond_both named (Some i) None (λ r. r ≡ Some len → Begins (codes "@") (drop len bytes))
    (λ at same. let e : i ≡ len = cc in
    rw (← e) (begins-Begins (codes "@") (drop i bytes)
    (and_parts (not (i == 0)) (begins (codes "@") (drop i bytes)) at).1))
    (λ _ same. cc)
    is

-- Behind the name of `:@` there is an `@`.
pub name_len-at : (bytes : List ℕ) (len : ℕ) → name_len bytes ≡ Some len
    → bytes ≡ take len bytes ++ at_sign ∷ drop (len + 1) bytes
name_len-at bytes len is =
    let at = named_len-at bytes (position ends_name bytes) len is in
    let more : drop 1 (drop len bytes) ≡ drop (len + 1) bytes = drop-drop 1 len bytes in
    sym (take-append-drop len bytes)
    ∙ ap (λ s. take len bytes ++ s) (at ∙ ap (λ s. at_sign ∷ s) more)

checked_len-within : (round : Bool) (bytes : List ℕ) (found : Option ℕ) (len : ℕ)
    → position (ends_modifier round) bytes ≡ found → checked_len bytes found ≡ Some len
    → len ≤ length bytes
checked_len-within round bytes None len at is = cc
checked_len-within round bytes (Some i) len at is =
    let ends = position-Some (ends_modifier round) bytes i 0 at in
    cond_both (is_separator (take i bytes)) (Some i) None (λ r. r ≡ Some len → len ≤ length bytes)
    (λ _ same. let e : i ≡ len = cc in omega (arith, e, ends.0))
    (λ _ same. cc)
    is

one_byte-within : (round : Bool) (bytes : List ℕ) → is_one_byte round bytes ≡ true
    → 1 ≤ length bytes
one_byte-within round [] is = cc
one_byte-within round (byte ∷ bytes) is = omega arith

-- A separator is no longer than what is left.
pub separator_len-within : (round : Bool) (bytes : List ℕ) (len : ℕ)
    → separator_len round bytes ≡ Some len → len ≤ length bytes
separator_len-within round bytes len is =
    cond_both (is_one_byte round bytes) (Some 1)
    (checked_len bytes (position (ends_modifier round) bytes))
    (λ r. r ≡ Some len → len ≤ length bytes)
    (λ one same. let e : 1 ≡ len = cc in omega (arith, e, one_byte-within round bytes one))
    (λ _ same. checked_len-within round bytes (position (ends_modifier round) bytes) len refl same)
    is

named_len-within : (bytes : List ℕ) (found : Option ℕ) (len : ℕ) → position ends_name bytes ≡ found
    → named_len bytes found ≡ Some len → len ≤ length bytes
named_len-within bytes None len at is = cc
named_len-within bytes (Some i) len at is =
    let ends = position-Some ends_name bytes i 0 at in
    cond_both (not (i == 0) && begins (codes "@") (drop i bytes)) (Some i) None
    (λ r. r ≡ Some len → len ≤ length bytes)
    (λ _ same. let e : i ≡ len = cc in omega (arith, e, ends.0))
    (λ _ same. cc)
    is

-- The name of `:@` is no longer than what is left.
pub name_len-within : (bytes : List ℕ) (len : ℕ) → name_len bytes ≡ Some len → len ≤ length bytes
name_len-within bytes len is = named_len-within bytes (position ends_name bytes) len refl is
