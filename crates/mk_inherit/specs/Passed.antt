-- Which words of a command line reach the makes below (make(1), "OPTIONS").
use Rattle.std.specs.Prelude.{ℕ, ◌==◌, ◌&&◌, not, Bool, List, [], ◌∷◌, ◌++◌, drop, if◌then◌else◌}
use Rattle.std.specs.Prelude.{codes}
use Rattle.std.specs.List.{list_any, starts_with}
use Rattle.std.specs.Str.{bytes_eq}
use Rattle.std.specs.Prelude.{nat_eq}
use Rattle.mk_bytes.specs.Bytes.{minus, space}
use Rattle.mk_cli.specs.Assignments.{is_assignment}
use Rattle.mk_inherit.specs.declared.passed.Expected.{Expected}
use Rattle.mk_inherit.specs.declared.passed.Expected.TheVariants.{Any, Operand, ArgumentOf}

abbrev pub is_in : List ℕ → ℕ → Bool
is_in letters letter = list_any (λ other. letter == other) letters

-- the letters of options that take an argument
abbrev pub takes_argument : ℕ → Bool
takes_argument letter = is_in (codes "DfIjmVv") letter

-- The letters that reach the makes below: which makefile is read, how many jobs run and what is
-- printed does not.
abbrev pub reaches_below : ℕ → Bool
reaches_below letter = is_in (codes "kSisnqeBrDIm") letter

-- the word of a letter
abbrev pub option_word : ℕ → List ℕ
option_word letter = minus ∷ letter ∷ []

-- an option with its argument, as two words
abbrev pub argument_passed : ℕ → List ℕ → List (List ℕ)
argument_passed letter argument =
    if reaches_below letter then option_word letter ∷ argument ∷ [] else []

abbrev pub flag_passed : ℕ → List (List ℕ)
flag_passed letter = if reaches_below letter then option_word letter ∷ [] else []

-- the letters of one word; the argument of one of them is the rest of the word, if that is not
-- empty
abbrev pub letters_passed : List ℕ → List (List ℕ)
letters_passed [] = []
letters_passed (letter ∷ rest) =
    if takes_argument letter
    then (if bytes_eq rest [] then [] else argument_passed letter rest)
    else flag_passed letter ++ letters_passed rest

-- what is expected behind the letters of a word
abbrev pub behind_letters : List ℕ → Expected
behind_letters [] = Any
behind_letters (letter ∷ rest) =
    if takes_argument letter
    then (if bytes_eq rest [] then ArgumentOf letter else Any)
    else behind_letters rest

-- An assignment reaches them, behind a blank where it would be taken for an option; a target does
-- not.
abbrev pub begins_as_option : List ℕ → Bool
begins_as_option word = starts_with nat_eq word (minus ∷ [])

abbrev pub operand_passed : List ℕ → List (List ℕ)
operand_passed word =
    if is_assignment word
    then (if begins_as_option word then (space ∷ word) ∷ [] else word ∷ [])
    else []

-- an option whose name is a whole word
abbrev pub is_long : List ℕ → Bool
is_long word = starts_with nat_eq word (minus ∷ minus ∷ [])

abbrev pub ends_options : List ℕ → Bool
ends_options word = bytes_eq word (minus ∷ minus ∷ [])

abbrev pub is_option : List ℕ → Bool
is_option word = begins_as_option word && not (bytes_eq word (minus ∷ []))

-- what is passed on of a word, by what is expected at its place
abbrev pub word_passed : Expected → List ℕ → List (List ℕ)
word_passed Any word =
    if is_long word then []
    else (if is_option word then letters_passed (drop 1 word) else operand_passed word)
word_passed Operand word = operand_passed word
word_passed (ArgumentOf letter) word = argument_passed letter word

-- what is expected behind it
abbrev pub behind_word : Expected → List ℕ → Expected
behind_word Any word =
    if ends_options word then Operand
    else (if is_long word then Any
    else (if is_option word then behind_letters (drop 1 word) else Any))
behind_word Operand word = Operand
behind_word (ArgumentOf letter) word = Any

abbrev pub passed_from : Expected → List (List ℕ) → List (List ℕ)
passed_from expected [] = []
passed_from expected (word ∷ words) =
    word_passed expected word ++ passed_from (behind_word expected word) words

-- The words of a command line that reach the makes below, in their order.
abbrev pub passed : List (List ℕ) → List (List ℕ)
passed words = passed_from Any words
