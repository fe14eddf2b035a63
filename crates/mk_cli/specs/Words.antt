-- The words of a command line, read from left to right.
use Rattle.std.specs.Prelude.{ℕ, ◌+◌, Bool, false, not, ◌==◌, ◌&&◌, List, [], ◌∷◌, ◌++◌, drop}
use Rattle.std.specs.Prelude.{Option, Some, None, Result, Ok, Err, if◌then◌else◌, codes}
use Rattle.std.specs.Str.{bytes_eq}
use Rattle.mk_bytes.specs.Agrees.{◌>>=◌}
use Rattle.mk_bytes.specs.Bytes.{minus}
use Rattle.mk_bytes.specs.Paths.{clean}
use Rattle.mk_cli.specs.Assignments.{is_assignment, assignment}
use Rattle.mk_cli.specs.Letters.{letter_of}
use Rattle.mk_cli.specs.Options.{with_flag, names_nothing, with_argument}
use Rattle.mk_cli.specs.Orders.{first_reading, with_order, with_flags, with_set, with_jobs}
use Rattle.mk_cli.specs.Orders.{with_audit, with_explain, with_progress}
use Rattle.mk_cli.specs.declared.letter.Argument.{Argument}
use Rattle.mk_cli.specs.declared.letter.Argument.TheVariants.{Generate}
use Rattle.mk_cli.specs.declared.letter.Letter.{Letter}
use Rattle.mk_cli.specs.declared.letter.Letter.TheVariants.{Alone, Takes}
use Rattle.mk_cli.specs.declared.order.Order.{Order}
use Rattle.mk_cli.specs.declared.order.Set.{Set}
use Rattle.mk_cli.specs.declared.order.Usage.{Usage}
use Rattle.mk_cli.specs.declared.order.Usage.TheVariants.{Word}
use Rattle.mk_cli.specs.declared.reading.Expected.{Expected}
use Rattle.mk_cli.specs.declared.reading.Expected.TheVariants.{Any, Operand, ArgumentOf, Nothing}
use Rattle.mk_cli.specs.declared.reading.Reading.{Reading}

-- what the words so far ask for, or the place of a refused one
abbrev pub Read : Type 0
Read = Result Reading Usage

-- after `--generate N` no word follows
abbrev pub after : Argument → Expected
after Generate = Nothing
after argument = Any

-- a reading that expects this at the next place
abbrev pub expecting : Reading → Expected → Reading
expecting r expected = record r { expected = expected }

-- an argument, which the word at `place` holds
abbrev pub read_argument : ℕ → Reading → Argument → List ℕ → Read
read_argument place r argument text =
    with_argument place r.order argument text
    >>= λ order. Ok (expecting (with_order r order) (after argument))

-- an argument is the rest of its option's word, or else the next word
abbrev pub read_rest : ℕ → Reading → Argument → List ℕ → Read
read_rest place r argument [] = Ok (expecting r (ArgumentOf place argument))
read_rest place r argument (byte ∷ rest) = read_argument place r argument (byte ∷ rest)

-- One letter of an option, what follows it in its word, and how further letters go on.
abbrev pub read_letter : ℕ → Reading → Option Letter → List ℕ → (Reading → Read) → Read
read_letter place r None rest others = Err (Word place)
read_letter place r (Some (Alone flag)) rest others = others (with_flag r flag)
read_letter place r (Some (Takes argument)) rest others = read_rest place r argument rest

-- The letters of the word at `place`: options without arguments may share it.
abbrev pub read_letters : ℕ → Reading → List ℕ → Read
read_letters place r [] = Ok r
read_letters place r (letter ∷ rest) =
    read_letter place r (letter_of letter) rest (λ next. read_letters place next rest)

-- one more target
abbrev pub with_target : Reading → List ℕ → Reading
with_target r target =
    with_flags r (record r.order.flags { requested = r.order.flags.requested ++ target ∷ [] })

-- a bad assignment refuses its word
abbrev pub read_assignment : ℕ → Reading → Option Set → Read
read_assignment place r None = Err (Word place)
read_assignment place r (Some set) = Ok (with_order r (with_set r.order set))

-- A word that is no option: an assignment, or a target. An empty one and `-` are refused.
abbrev pub read_operand : List ℕ → ℕ → Reading → List ℕ → Read
read_operand cwd place r word =
    if names_nothing word then Err (Word place)
    else (if is_assignment word then read_assignment place r (assignment word)
    else Ok (with_target r (clean cwd word)))

-- `-` and a letter at least
abbrev pub is_option : List ℕ → Bool
is_option [] = false
is_option (byte ∷ rest) = byte == minus && not (bytes_eq rest [])

-- `--generate` is known as the first word alone
abbrev pub is_generate : ℕ → List ℕ → Bool
is_generate place word = place == 0 && bytes_eq word (codes "--generate")

abbrev pub is_audit : List ℕ → Bool
is_audit word = bytes_eq word (codes "--audit")

abbrev pub is_explain : List ℕ → Bool
is_explain word = bytes_eq word (codes "--explain")

abbrev pub is_progress : List ℕ → Bool
is_progress word = bytes_eq word (codes "--progress")

-- A word that may be an option; `--` ends them.
abbrev pub read_any : List ℕ → ℕ → Reading → List ℕ → Read
read_any cwd place r word =
    if bytes_eq word (codes "--") then Ok (expecting r Operand)
    else (if is_generate place word then Ok (expecting r (ArgumentOf place Generate))
    else (if is_audit word then Ok (with_order r (with_audit r.order))
    else (if is_explain word then Ok (with_order r (with_explain r.order))
    else (if is_progress word then Ok (with_order r (with_progress r.order))
    else (if is_option word then read_letters place r (drop 1 word)
    else read_operand cwd place r word)))))

-- A word, by what is expected at its place.
abbrev pub read_expected : List ℕ → ℕ → Reading → Expected → List ℕ → Read
read_expected cwd place r Any word = read_any cwd place r word
read_expected cwd place r Operand word = read_operand cwd place r word
read_expected cwd place r (ArgumentOf option argument) word = read_argument place r argument word
read_expected cwd place r Nothing word = Err (Word place)

-- A missing argument refuses its option's word, and `-B` means one job, whatever `-j` says.
abbrev pub finished : Reading → Expected → Result Order Usage
finished r (ArgumentOf option argument) = Err (Word option)
finished r expected = Ok (if r.one_job then with_jobs r.order 1 else r.order)

-- the words from `place` on
abbrev pub read_words : List ℕ → ℕ → Reading → List (List ℕ) → Read
read_words cwd place r [] = Ok r
read_words cwd place r (word ∷ words) =
    read_expected cwd place r r.expected word >>= λ next. read_words cwd (place + 1) next words

-- What a command line asks for, or its first refused word.
abbrev pub order : List ℕ → List (List ℕ) → Result Order Usage
order cwd words = read_words cwd 0 first_reading words >>= λ r. finished r r.expected
