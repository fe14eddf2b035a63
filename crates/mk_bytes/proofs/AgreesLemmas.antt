-- Answers that agree with a definition, through the steps of a `>>=`.
use Rattle.std.proofs.Common.{◌≡◌, inl, inr, sym, ap, subst, Result, Ok, Err}
use Rattle.mk_bytes.specs.Agrees.{Agrees, AgreesErr, AgreesBut, ◌>>=◌}

-- the fault of a first step is the fault of all steps
pub AgreesErr-bind : {A B E : Type 0} (no_memory fault : E) (first : Result A E)
    (next : A → Result B E) → AgreesErr no_memory fault first
    → AgreesErr no_memory fault (first >>= next)
AgreesErr-bind no_memory fault first next (inl want) = inl want
AgreesErr-bind no_memory fault first next (inr is) = inr (ap (λ r. r >>= next) is)

-- a fault that is free agrees with everything
pub AgreesBut-free : {X Y E : Type 0} (Free : E → Type 0) (view : X → Y) (answer : Result X E)
    (fault : E) (defined : Result Y E) → answer ≡ Err fault → Free fault
    → AgreesBut Free view answer defined
AgreesBut-free Free view answer fault defined is free = rw is (inl free)

-- more faults may be free
pub AgreesBut-more : {X Y E : Type 0} (no_memory : E) (Free : E → Type 0) (view : X → Y)
    (answer : Result X E) (defined : Result Y E) → Free no_memory
    → Agrees no_memory view answer defined → AgreesBut Free view answer defined
AgreesBut-more no_memory Free view (Ok x) defined free agrees = agrees
AgreesBut-more no_memory Free view (Err fault) defined free (inl is) =
    inl (subst Free (sym is) free)
AgreesBut-more no_memory Free view (Err fault) defined free (inr is) = inr is
