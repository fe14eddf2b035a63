-- How a call's answer stands to a definition that knows no want of memory.
use Rattle.std.specs.Prelude.{◌≡◌, ◌⊎◌, Result, Ok, Err}

-- a fault is want of memory, or the definition's own
abbrev pub AgreesErr : {Y E : Type 0} → E → E → Result Y E → Type 0
AgreesErr no_memory fault defined = (fault ≡ no_memory) ⊎ (defined ≡ Err fault)

-- The answer, seen by `view`, is what is defined, unless memory ran out.
abbrev pub Agrees : {X Y E : Type 0} → E → (X → Y) → Result X E → Result Y E → Type 0
Agrees no_memory view (Ok answer) defined = defined ≡ Ok (view answer)
Agrees no_memory view (Err fault) defined = AgreesErr no_memory fault defined

-- The answer, seen by `view`, is what is defined, or a fault that is free to stand in its place.
abbrev pub AgreesBut : {X Y E : Type 0} → (E → Type 0) → (X → Y) → Result X E → Result Y E → Type 0
AgreesBut Free view (Ok answer) defined = defined ≡ Ok (view answer)
AgreesBut Free view (Err fault) defined = Free fault ⊎ (defined ≡ Err fault)

-- the second step on what the first one gives, or the first one's fault
infixl 10 ◌>>=◌
abbrev pub ◌>>=◌ : {A B E : Type 0} → Result A E → (A → Result B E) → Result B E
(Ok given) >>= next = next given
(Err fault) >>= next = Err fault
