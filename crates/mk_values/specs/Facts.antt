-- Facts: what conditions ask of what is outside them.
use Rattle.std.specs.Prelude.{◌≡◌, ◌⊎◌, ℕ, Bool, true, false, List, [], ◌∷◌, ◌++◌, length}
use Rattle.std.specs.Prelude.{slice_get}
use Rattle.std.specs.Prelude.{Some, Result, Ok, Err}
use Rattle.std.specs.List.{list_any}
use Rattle.std.specs.Str.{bytes_eq}
use Rattle.mk_bytes.specs.Agrees.{AgreesBut}
use Rattle.mk_cond.specs.declared.cond.Fun.{Fun}
use Rattle.mk_cond.specs.declared.cond.Fun.TheVariants.{Make, Exists, Target, Commands}
use Rattle.mk_glob.specs.Patterns.{matches}
use Rattle.mk_world.specs.declared.fault.WorldFault.{WorldFault}
use Rattle.mk_world.specs.declared.fault.WorldFault.TheVariants as world
use Rattle.mk_values.specs.declared.facts.Asked.{Asked}
use Rattle.mk_values.specs.declared.facts.FactFault.{FactFault}
use Rattle.mk_values.specs.declared.facts.FactFault.TheVariants as of_facts
use Rattle.mk_values.specs.declared.fault.ExpandFault.{ExpandFault}
use Rattle.mk_values.specs.declared.fault.ExpandFault.TheVariants.{Failed, NoMemory}

-- What answers every fact but `exists`: the requested names, or the main targets so far where none
-- is requested; the targets; and the targets with commands.
pub record Lists : Type 0 where
  pub requested : List (List ℕ)
  pub targets : List (List ℕ)
  pub with_commands : List (List ℕ)

-- what `exists` answers, by the number of paths that it was asked of before, and the path
abbrev pub Answers : Type 0
Answers = ℕ → List ℕ → Bool

-- these answers were given so far
abbrev pub AnsweredBy : Answers → List Asked → Type 0
AnsweredBy answers asked =
    (place : ℕ) (one : Asked) → slice_get asked place ≡ Some one
    → one.answer ≡ answers place one.path

-- the functions of conditions that are facts
abbrev pub is_fact : Fun → Bool
is_fact Make = true
is_fact Exists = true
is_fact Target = true
is_fact Commands = true
is_fact _ = false

abbrev pub is_listed : List (List ℕ) → List ℕ → Bool
is_listed names name = list_any (λ one. bytes_eq one name) names

-- the answer of a fact that is none of a file
abbrev pub listed : Lists → Fun → List ℕ → Bool
listed lists Make pattern = list_any (matches pattern) lists.requested
listed lists Target name = is_listed lists.targets name
listed lists Commands name = is_listed lists.with_commands name
listed lists _ argument = false

-- The lists tell the answer, but for that of `exists`.
abbrev pub IsTold : Lists → Fun → List ℕ → Bool → Type 0
IsTold lists Exists path answer = Unit {0}
IsTold lists fun argument answer = answer ≡ listed lists fun argument

-- the answer of a fact
abbrev pub fact_of : Lists → Answers → List Asked → Fun → List ℕ → Bool
fact_of lists answers asked Exists path = answers (length asked) path
fact_of lists answers asked fun argument = listed lists fun argument

-- An answer of `exists` stands at the end of those before, with its path. No other is kept.
abbrev pub asked_with : List Asked → Fun → List ℕ → Bool → List Asked
asked_with asked Exists path answer = asked ++ record { path = path; answer = answer } ∷ []
asked_with asked fun argument answer = asked

-- `new` are the questions of `old`, with those behind them that a call has asked
pub record AsksMore (old new : List Asked) : Type 0 where
  pub more : List Asked
  pub added : new ≡ old ++ more

-- how a fault of the world is answered
abbrev pub of_world : WorldFault → FactFault
of_world world.Failed = of_facts.Failed
of_world world.NoMemory = of_facts.NoMemory

abbrev pub of_fact : FactFault → ExpandFault
of_fact of_facts.Failed = Failed
of_fact of_facts.NoMemory = NoMemory

-- want of memory, and a failure of the outside, may stand in place of any answer
abbrev pub IsOutside : ExpandFault → Type 0
IsOutside fault = (fault ≡ NoMemory) ⊎ (fault ≡ Failed)

-- An answer of a call is what is defined by the answers to all that was asked up to its end.
abbrev pub Means : {X Y : Type 0} → List Asked → (X → Y) → Result X ExpandFault
    → (Answers → Result Y ExpandFault) → Type 0
Means asked view answer defined =
    (answers : Answers) → AnsweredBy answers asked
    → AgreesBut IsOutside view answer (defined answers)

-- Where a call is refused, and not by the outside, it has asked these questions.
abbrev pub RefusedBehind : {X : Type 0} → List Asked → Result X ExpandFault
    → (Answers → List Asked) → Type 0
RefusedBehind asked (Ok given) questions = Unit {0}
RefusedBehind asked (Err fault) questions =
    (answers : Answers) → AnsweredBy answers asked
    → IsOutside fault ⊎ (questions answers ≡ asked)
