-- The numbers of an order are in their ranges, and a refused word is one of the command line's.
use Rattle.std.proofs.Common.{◌≡◌, ℕ, ◌+◌, ◌<◌, List, [], ◌∷◌, length}
use Rattle.std.proofs.Common.{IfOk, inl, inr, subst, Result, Ok, Err, arith}
use Rattle.std.proofs.lemmas.Bool.{cond_both}
use Rattle.mk_bytes.specs.Agrees.{Agrees, ◌>>=◌}
use Rattle.mk_cli.specs.Orders.{IsInRange, first_reading, with_jobs}
use Rattle.mk_cli.specs.Words as spec
use Rattle.mk_cli.specs.declared.order.Order.{Order}
use Rattle.mk_cli.specs.declared.order.Usage.{Usage}
use Rattle.mk_cli.specs.declared.order.Usage.TheVariants.{Word, NoMemory}
use Rattle.mk_cli.specs.declared.reading.Expected.{Expected}
use Rattle.mk_cli.specs.declared.reading.Expected.TheVariants.{ArgumentOf}
use Rattle.mk_cli.specs.declared.reading.Reading.{Reading}
use Rattle.mk_cli.proofs.SoundLemmas.{WaitsBefore, IsSound, Gives, waiting_goes_on}
use Rattle.mk_cli.proofs.SoundLemmas.{Gives-read_expected}

-- a good value, or a refusal of a word before a place
abbrev Ends : {A : Type 0} → (A → Type 0) → ℕ → Result A Usage → Type 0
Ends Good place (Ok given) = Good given
Ends Good place (Err (Word refused)) = refused < place
Ends Good place (Err NoMemory) = Unit {0}

Ends-from_Gives : {A : Type 0} (Good : A → Type 0) (place end : ℕ) (x : Result A Usage)
    → place < end → Gives Good place x → Ends Good end x
Ends-from_Gives Good place end (Ok given) before good = good
Ends-from_Gives Good place end (Err (Word refused)) before is = omega arith
Ends-from_Gives Good place end (Err NoMemory) before good = tt

Ends-bind : {A B : Type 0} (Good : A → Type 0) (Fine : B → Type 0) (end : ℕ)
    (x : Result A Usage) (next : A → Result B Usage) → Ends Good end x
    → ((given : A) → Good given → Ends Fine end (next given)) → Ends Fine end (x >>= next)
Ends-bind Good Fine end (Ok given) next good step = step given good
Ends-bind Good Fine end (Err (Word refused)) next before step = before
Ends-bind Good Fine end (Err NoMemory) next good step = tt

Ends-finished : (end : ℕ) (r : Reading) (expected : Expected) → IsInRange r.order
    → WaitsBefore end expected → Ends IsInRange end (spec.finished r expected)
Ends-finished end r (ArgumentOf option argument) range waits = waits
Ends-finished end r expected range waits =
    cond_both r.one_job (with_jobs r.order 1) r.order IsInRange
    (λ is. record { jobs = (omega arith, omega arith); generate = range.generate })
    (λ is. range)

Ends-read_words : (cwd : List ℕ) (place end : ℕ) (r : Reading) (words : List (List ℕ))
    → IsSound place r → end ≡ place + length words
    → Ends (IsSound end) end (spec.read_words cwd place r words)
Ends-read_words cwd place end r [] sound is = let all : end ≡ place = omega arith in rw all sound
Ends-read_words cwd place end r (word ∷ words) sound is =
    let here : IsSound (place + 1) r =
    record { range = sound.range; waits = waiting_goes_on place r.expected sound.waits }
    in
    Ends-bind (IsSound (place + 1)) (IsSound end) end
    (spec.read_expected cwd place r r.expected word)
    (λ next. spec.read_words cwd (place + 1) next words)
    (Ends-from_Gives (IsSound (place + 1)) place end _ (omega arith)
    (Gives-read_expected cwd place r r.expected word here))
    (λ next good. Ends-read_words cwd (place + 1) end next words good (omega arith))

first_reading_is_sound : IsSound 0 first_reading
first_reading_is_sound = record {
  range = record { jobs = (omega arith, omega arith); generate = tt };
  waits = tt;
}

pub Ends-order : (cwd : List ℕ) (words : List (List ℕ))
    → Ends IsInRange (length words) (spec.order cwd words)
Ends-order cwd words =
    Ends-bind (IsSound (length words)) IsInRange (length words)
    (spec.read_words cwd 0 first_reading words) (λ r. spec.finished r r.expected)
    (Ends-read_words cwd 0 (length words) first_reading words first_reading_is_sound (omega arith))
    (λ r sound. Ends-finished (length words) r r.expected sound.range sound.waits)

-- what agrees with the definition has its numbers in their ranges
pub numbers_in_range : (cwd : List ℕ) (words : List (List ℕ)) (result : Result Order Usage)
    → Agrees NoMemory (λ order. order) result (spec.order cwd words) → IfOk result IsInRange
numbers_in_range cwd words (Ok order) is =
    subst (Ends IsInRange (length words)) is (Ends-order cwd words)
numbers_in_range cwd words (Err fault) is = tt

-- what agrees with the definition refuses one of the words
pub refused_place : (cwd : List ℕ) (words : List (List ℕ)) (result : Result Order Usage)
    → Agrees NoMemory (λ order. order) result (spec.order cwd words)
    → (i : ℕ) → result ≡ Err (Word i) → i < length words
refused_place cwd words (Ok order) agrees i is = cc
refused_place cwd words (Err fault) (inl want) i is = cc
refused_place cwd words (Err fault) (inr defined) i is =
    let here : spec.order cwd words ≡ Err (Word i) = cc in
    subst (Ends IsInRange (length words)) here (Ends-order cwd words)
