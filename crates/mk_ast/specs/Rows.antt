-- The table of modifiers: which row one begins.
use Rattle.std.specs.Prelude.{ℕ, ◌==◌, ◌||◌, ◌&&◌, Bool, true, false, if◌then◌else◌, List, [], ◌∷◌}
use Rattle.std.specs.Prelude.{length, drop, Option, Some, None, codes}
use Rattle.mk_bytes.specs.Bytes.{equals_sign}
unfoldable pub use Rattle.mk_bytes.specs.Texts.{begins}
use Rattle.mk_ast.specs.Tree.{Mod}
use Rattle.mk_ast.specs.Tree as tree
use Rattle.mk_ast.specs.Places.{ends_modifier}
use Rattle.mk_ast.specs.declared.row.Row.{Row}
use Rattle.mk_ast.specs.declared.row.Row.TheVariants.{LeftOut, Empty, Word as IsWord}
use Rattle.mk_ast.specs.declared.row.Row.TheVariants.{Argument as HasArgument, Subst, Separator}
use Rattle.mk_ast.specs.declared.row.Row.TheVariants.{Select, Choose, Each, Suffix}
use Rattle.mk_ast.specs.declared.row.Argument.TheVariants.{Keep, Without, RangeTo, IfUndefined}
use Rattle.mk_ast.specs.declared.row.Argument.TheVariants.{IfDefined}
use Rattle.mk_ast.specs.declared.row.Word.{Word}
use Rattle.mk_ast.specs.declared.row.Word.TheVariants.{Head, Tail, Root, Extension, Sort, SortBack}
use Rattle.mk_ast.specs.declared.row.Word.TheVariants.{Unique, Lower, Upper, Quote, QuoteDollar}
use Rattle.mk_ast.specs.declared.row.Word.TheVariants.{OneWord, OneWordStar, OneWordZero, ManyWords}
use Rattle.mk_ast.specs.declared.row.Word.TheVariants.{ManyWordsAt, Range, NameOf}

-- whether a modifier ends here; the end of the text is no end of one
abbrev pub is_end : Bool → List ℕ → Bool
is_end round [] = false
is_end round (byte ∷ bytes) = ends_modifier round byte

-- The modifiers that are one word, in the table's order.
abbrev pub words : List Word
words =
    Head ∷ Tail ∷ Root ∷ Extension ∷ Sort ∷ SortBack ∷ Unique ∷ Lower ∷ Upper ∷ Quote ∷ QuoteDollar
    ∷ OneWord ∷ OneWordStar ∷ OneWordZero ∷ ManyWords ∷ ManyWordsAt ∷ Range ∷ NameOf ∷ []

abbrev pub word_text : Word → List ℕ
word_text Head = codes "H"
word_text Tail = codes "T"
word_text Root = codes "R"
word_text Extension = codes "E"
word_text Sort = codes "O"
word_text SortBack = codes "Or"
word_text Unique = codes "u"
word_text Lower = codes "tl"
word_text Upper = codes "tu"
word_text Quote = codes "Q"
word_text QuoteDollar = codes "q"
word_text OneWord = codes "tW"
word_text OneWordStar = codes "[*]"
word_text OneWordZero = codes "[0]"
word_text ManyWords = codes "tw"
word_text ManyWordsAt = codes "[@]"
word_text Range = codes "range"
word_text NameOf = codes "L"

abbrev pub word_mod : Word → Mod
word_mod Head = tree.head
word_mod Tail = tree.tail
word_mod Root = tree.root
word_mod Extension = tree.extension
word_mod Sort = tree.sort
word_mod SortBack = tree.sort_back
word_mod Unique = tree.unique
word_mod Lower = tree.lower
word_mod Upper = tree.upper
word_mod Quote = tree.quote
word_mod QuoteDollar = tree.quote_dollar
word_mod OneWord = tree.one_word (word_text OneWord)
word_mod OneWordStar = tree.one_word (word_text OneWordStar)
word_mod OneWordZero = tree.one_word (word_text OneWordZero)
word_mod ManyWords = tree.many_words (word_text ManyWords)
word_mod ManyWordsAt = tree.many_words (word_text ManyWordsAt)
word_mod Range = tree.range
word_mod NameOf = tree.name_of

-- a word with an end behind it
unfoldable pub is_word : Bool → List ℕ → List ℕ → Bool
is_word round text bytes = begins text bytes && is_end round (drop (length text) bytes)

-- the first of these words that a modifier is
abbrev pub word_among : Bool → List Word → List ℕ → Option Word
word_among round [] bytes = None
word_among round (word ∷ more) bytes =
    if is_word round (word_text word) bytes then Some word else word_among round more bytes

-- where the word of a modifier that is left out ends
abbrev pub ends_left_out : Bool → List ℕ → Bool
ends_left_out round [] = true
ends_left_out round (byte ∷ bytes) = ends_modifier round byte || byte == equals_sign

unfoldable pub is_left_out_word : Bool → List ℕ → List ℕ → Bool
is_left_out_word round text bytes =
    begins text bytes && ends_left_out round (drop (length text) bytes)

-- the modifiers of make that are left out, by their first bytes
abbrev pub begins_left_out : List ℕ → Bool
begins_left_out bytes =
    begins (codes "C") bytes || begins (codes "!") bytes || begins (codes "_") bytes
    || begins (codes ":=") bytes || begins (codes ":+=") bytes
    || begins (codes ":?=") bytes || begins (codes ":!=") bytes

-- and by their words
abbrev pub is_left_out : Bool → List ℕ → Bool
is_left_out round bytes =
    begins_left_out bytes
    || is_left_out_word round (codes "hash") bytes || is_left_out_word round (codes "sh") bytes
    || is_left_out_word round (codes "tA") bytes || is_left_out_word round (codes "P") bytes
    || is_left_out_word round (codes "Ox") bytes || is_left_out_word round (codes "On") bytes
    || is_left_out_word round (codes "gmtime") bytes
    || is_left_out_word round (codes "localtime") bytes
    || is_left_out_word round (codes "mtime") bytes

-- an empty modifier has nothing before its end, or before the end of the text
abbrev pub is_empty : Bool → List ℕ → Bool
is_empty round [] = true
is_empty round (byte ∷ bytes) = ends_modifier round byte

-- the row with an argument that is begun here
abbrev pub begun_row : List ℕ → Row
begun_row bytes =
    if begins (codes "M") bytes then HasArgument Keep
    else (if begins (codes "N") bytes then HasArgument Without
    else (if begins (codes "S") bytes then Subst
    else (if begins (codes "ts") bytes then Separator
    else (if begins (codes "[") bytes then Select
    else (if begins (codes "range=") bytes then HasArgument RangeTo
    else (if begins (codes "U") bytes then HasArgument IfUndefined
    else (if begins (codes "D") bytes then HasArgument IfDefined
    else (if begins (codes "?") bytes then Choose
    else (if begins (codes "@") bytes then Each
    else Suffix)))))))))

abbrev pub word_or : Option Word → Row → Row
word_or (Some word) begun = IsWord word
word_or None begun = begun

-- The row that a modifier begins: one that is left out, an empty one, a word, or an argument's.
abbrev pub row_of : Bool → List ℕ → Row
row_of round bytes =
    if is_left_out round bytes then LeftOut
    else (if is_empty round bytes then Empty
    else word_or (word_among round words bytes) (begun_row bytes))
