-- Reading a word keeps the numbers in their ranges, or refuses that very word.
use Rattle.std.proofs.Common.{◌≡◌, ℕ, ◌+◌, ◌<◌, ◌≤◌, Bool, List, [], ◌∷◌}
use Rattle.std.proofs.Common.{drop, Option, Some, None, Result, Ok, Err, refl, arith, if◌then◌else◌}
use Rattle.std.specs.Prelude.{codes}
use Rattle.std.specs.Str.{bytes_eq}
use Rattle.std.proofs.lemmas.Bool.Decides.{nat_tests}
use Rattle.std.proofs.lemmas.Bool.{cond_both}
use Rattle.mk_bytes.specs.Agrees.{◌>>=◌}
use Rattle.mk_bytes.specs.Numbers.{value}
use Rattle.mk_bytes.specs.Paths.{clean}
use Rattle.mk_cli.specs.Assignments.{is_assignment, assignment}
use Rattle.mk_cli.specs.Letters.{letter_of}
use Rattle.mk_cli.specs.Numbers.{is_number, number}
use Rattle.mk_cli.specs.Options.{names_nothing, with_flag, path, with_argument}
use Rattle.mk_cli.specs.Orders.{IsInRange, with_audit, with_explain, with_order, with_progress}
use Rattle.mk_cli.specs.Words as spec
use Rattle.mk_cli.specs.declared.letter.Argument.{Argument}
use Rattle.mk_cli.specs.declared.letter.Argument.TheVariants as takes
use Rattle.mk_cli.specs.declared.letter.Flag.{Flag}
use Rattle.mk_cli.specs.declared.letter.Flag.TheVariants as flag
use Rattle.mk_cli.specs.declared.letter.Letter.{Letter}
use Rattle.mk_cli.specs.declared.letter.Letter.TheVariants.{Alone, Takes}
use Rattle.mk_cli.specs.declared.order.Order.{Order}
use Rattle.mk_cli.specs.declared.order.Set.{Set}
use Rattle.mk_cli.specs.declared.order.Usage.{Usage}
use Rattle.mk_cli.specs.declared.order.Usage.TheVariants.{Word, NoMemory}
use Rattle.mk_cli.specs.declared.reading.Expected.{Expected}
use Rattle.mk_cli.specs.declared.reading.Expected.TheVariants.{Any, Operand, ArgumentOf, Nothing}
use Rattle.mk_cli.specs.declared.reading.Reading.{Reading}

-- an option that waits for its argument stands before a place
abbrev pub WaitsBefore : ℕ → Expected → Type 0
WaitsBefore place (ArgumentOf option argument) = option < place
WaitsBefore place expected = Unit {0}

pub record IsSound (place : ℕ) (r : Reading) : Type 0 where
  pub range : IsInRange r.order
  pub waits : WaitsBefore place r.expected

-- a good value, or a refusal of the word at a place
abbrev pub Gives : {A : Type 0} → (A → Type 0) → ℕ → Result A Usage → Type 0
Gives Good place (Ok given) = Good given
Gives Good place (Err (Word refused)) = refused ≡ place
Gives Good place (Err NoMemory) = Unit {0}

Gives-if : {A : Type 0} (Good : A → Type 0) (place : ℕ) (test : Bool) (x y : Result A Usage)
    → Gives Good place x → Gives Good place y → Gives Good place (if test then x else y)
Gives-if Good place test x y first second =
    cond_both test x y (Gives Good place) (λ is. first) (λ is. second)

Gives-bind : {A B : Type 0} (Good : A → Type 0) (Fine : B → Type 0) (place : ℕ)
    (x : Result A Usage) (next : A → Result B Usage) → Gives Good place x
    → ((given : A) → Good given → Gives Fine place (next given)) → Gives Fine place (x >>= next)
Gives-bind Good Fine place (Ok given) next good step = step given good
Gives-bind Good Fine place (Err (Word refused)) next good step = good
Gives-bind Good Fine place (Err NoMemory) next good step = tt

Gives-path : (place : ℕ) (text : List ℕ) → Gives (λ p. Unit {0}) place (path place text)
Gives-path place text =
    Gives-if (λ p. Unit {0}) place (names_nothing text) (Err (Word place)) (Ok text) refl tt

Gives-number : (most place : ℕ) (text : List ℕ)
    → Gives (λ n. (1 ≤ n) × (n ≤ most)) place (number most place text)
Gives-number most place text =
    cond_both (is_number most text) (Ok (value 10 text)) (Err (Word place))
    (Gives (λ n. (1 ≤ n) × (n ≤ most)) place)
    (λ is. (grind (arith, nat_tests), grind (arith, nat_tests)))
    (λ is. refl)

-- a flag changes no number, and leaves an option that waits
with_flag_is_sound : (place : ℕ) (r : Reading) (flag : Flag) → IsSound place r
    → IsSound place (with_flag r flag)
with_flag_is_sound place r flag.OneJob sound = record { range = sound.range; waits = sound.waits }
with_flag_is_sound place r flag sound = record {
  range = record { jobs = sound.range.jobs; generate = sound.range.generate };
  waits = sound.waits;
}

Gives-with_argument : (place : ℕ) (o : Order) (argument : Argument) (text : List ℕ)
    → IsInRange o → Gives IsInRange place (with_argument place o argument text)
Gives-with_argument place o takes.Define text range =
    record { jobs = range.jobs; generate = range.generate }
Gives-with_argument place o takes.Print text range =
    record { jobs = range.jobs; generate = range.generate }
Gives-with_argument place o takes.PrintFull text range =
    record { jobs = range.jobs; generate = range.generate }
Gives-with_argument place o takes.Jobs text range =
    Gives-bind _ _ place (number 256 place text) _ (Gives-number 256 place text)
    (λ n is. record { jobs = is; generate = range.generate })
Gives-with_argument place o takes.Generate text range =
    Gives-bind _ _ place (number 10000 place text) _ (Gives-number 10000 place text)
    (λ n is. record { jobs = range.jobs; generate = is })
Gives-with_argument place o argument text range =
    Gives-bind _ _ place (path place text) _ (Gives-path place text)
    (λ p is. record { jobs = range.jobs; generate = range.generate })

WaitsBefore-after : (place : ℕ) (argument : Argument) → WaitsBefore place (spec.after argument)
WaitsBefore-after place takes.Generate = tt
WaitsBefore-after place argument = tt

Gives-read_argument : (place : ℕ) (r : Reading) (argument : Argument) (text : List ℕ)
    → IsInRange r.order
    → Gives (IsSound (place + 1)) place (spec.read_argument place r argument text)
Gives-read_argument place r argument text range =
    Gives-bind _ _ place (with_argument place r.order argument text) _
    (Gives-with_argument place r.order argument text range)
    (λ order is. record { range = is; waits = WaitsBefore-after (place + 1) argument })

Gives-read_rest : (place : ℕ) (r : Reading) (argument : Argument) (rest : List ℕ)
    → IsInRange r.order
    → Gives (IsSound (place + 1)) place (spec.read_rest place r argument rest)
Gives-read_rest place r argument [] range = record { range = range; waits = omega arith }
Gives-read_rest place r argument (byte ∷ rest) range =
    Gives-read_argument place r argument (byte ∷ rest) range

Gives-read_letter : (place : ℕ) (r : Reading) (letter : Option Letter) (rest : List ℕ)
    (others : Reading → spec.Read) → IsSound (place + 1) r
    → ((next : Reading) → IsSound (place + 1) next
    → Gives (IsSound (place + 1)) place (others next))
    → Gives (IsSound (place + 1)) place (spec.read_letter place r letter rest others)
Gives-read_letter place r None rest others sound goes_on = refl
Gives-read_letter place r (Some (Alone flag)) rest others sound goes_on =
    goes_on (with_flag r flag) (with_flag_is_sound (place + 1) r flag sound)
Gives-read_letter place r (Some (Takes argument)) rest others sound goes_on =
    Gives-read_rest place r argument rest sound.range

Gives-read_letters : (place : ℕ) (r : Reading) (letters : List ℕ) → IsSound (place + 1) r
    → Gives (IsSound (place + 1)) place (spec.read_letters place r letters)
Gives-read_letters place r [] sound = sound
Gives-read_letters place r (letter ∷ rest) sound =
    Gives-read_letter place r (letter_of letter) rest (λ next. spec.read_letters place next rest)
    sound (λ next is. Gives-read_letters place next rest is)

Gives-read_assignment : (place : ℕ) (r : Reading) (set : Option Set) → IsSound (place + 1) r
    → Gives (IsSound (place + 1)) place (spec.read_assignment place r set)
Gives-read_assignment place r None sound = refl
Gives-read_assignment place r (Some set) sound = record {
  range = record { jobs = sound.range.jobs; generate = sound.range.generate };
  waits = sound.waits;
}

Gives-read_operand : (cwd : List ℕ) (place : ℕ) (r : Reading) (word : List ℕ)
    → IsSound (place + 1) r
    → Gives (IsSound (place + 1)) place (spec.read_operand cwd place r word)
Gives-read_operand cwd place r word sound =
    Gives-if (IsSound (place + 1)) place (names_nothing word) (Err (Word place)) _ refl
    (Gives-if (IsSound (place + 1)) place (is_assignment word) _
    (Ok (spec.with_target r (clean cwd word)))
    (Gives-read_assignment place r (assignment word) sound)
    (record {
      range = record { jobs = sound.range.jobs; generate = sound.range.generate };
      waits = sound.waits;
    }))

Gives-read_any : (cwd : List ℕ) (place : ℕ) (r : Reading) (word : List ℕ)
    → IsSound (place + 1) r → Gives (IsSound (place + 1)) place (spec.read_any cwd place r word)
Gives-read_any cwd place r word sound =
    Gives-if (IsSound (place + 1)) place (bytes_eq word (codes "--"))
    (Ok (spec.expecting r Operand)) _
    (record { range = sound.range; waits = tt })
    (Gives-if (IsSound (place + 1)) place (spec.is_generate place word)
    (Ok (spec.expecting r (ArgumentOf place takes.Generate))) _
    (record { range = sound.range; waits = omega arith })
    (Gives-if (IsSound (place + 1)) place (spec.is_audit word)
    (Ok (with_order r (with_audit r.order))) _
    (record {
      range = record { jobs = sound.range.jobs; generate = sound.range.generate };
      waits = sound.waits;
    })
    (Gives-if (IsSound (place + 1)) place (spec.is_explain word)
    (Ok (with_order r (with_explain r.order))) _
    (record {
      range = record { jobs = sound.range.jobs; generate = sound.range.generate };
      waits = sound.waits;
    })
    (Gives-if (IsSound (place + 1)) place (spec.is_progress word)
    (Ok (with_order r (with_progress r.order))) _
    (record {
      range = record { jobs = sound.range.jobs; generate = sound.range.generate };
      waits = sound.waits;
    })
    (Gives-if (IsSound (place + 1)) place (spec.is_option word) _ _
    (Gives-read_letters place r (drop 1 word) sound)
    (Gives-read_operand cwd place r word sound))))))

-- an option that waits before a place waits before the next one
pub waiting_goes_on : (place : ℕ) (expected : Expected) → WaitsBefore place expected
    → WaitsBefore (place + 1) expected
waiting_goes_on place (ArgumentOf option argument) waits = omega arith
waiting_goes_on place expected waits = tt

pub Gives-read_expected : (cwd : List ℕ) (place : ℕ) (r : Reading) (expected : Expected)
    (word : List ℕ) → IsSound (place + 1) r
    → Gives (IsSound (place + 1)) place (spec.read_expected cwd place r expected word)
Gives-read_expected cwd place r Any word sound = Gives-read_any cwd place r word sound
Gives-read_expected cwd place r Operand word sound = Gives-read_operand cwd place r word sound
Gives-read_expected cwd place r (ArgumentOf option argument) word sound =
    Gives-read_argument place r argument word sound.range
Gives-read_expected cwd place r Nothing word sound = refl
