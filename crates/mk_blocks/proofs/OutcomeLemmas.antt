-- Outcomes, one after the other.
use Rattle.std.proofs.Common.{◌≡◌, List, [], ◌++◌, Result, Ok, Err, refl, sym, ap, append_assoc}
use Rattle.std.proofs.lemmas.List.{append-nil}
use Rattle.mk_blocks.specs.Acts.{Act}
use Rattle.mk_blocks.specs.Outcomes.{Outcome, behind, followed, done, ◌>>=◌}

pub behind-behind : {A E : Type 0} (first second : List Act) (o : Outcome A E)
    → behind first (behind second o) ≡ behind (first ++ second) o
behind-behind first second o =
    ap (λ (acts : List Act). record { acts = acts; answer = o.answer })
    (sym (append_assoc first second o.acts))

followed-behind : {A B E : Type 0} (first second : List Act) (answer : Result A E)
    (next : A → Outcome B E)
    → followed (first ++ second) answer next ≡ behind first (followed second answer next)
followed-behind first second (Ok given) next = sym (behind-behind first second (next given))
followed-behind first second (Err fault) next = refl

-- acts before a first step are acts before both
pub bind-behind : {A B E : Type 0} (acts : List Act) (o : Outcome A E)
    (next : A → Outcome B E)
    → (behind acts o >>= next) ≡ behind acts (o >>= next)
bind-behind acts o next = followed-behind acts o.acts o.answer next

followed-bind : {A B C E : Type 0} (acts : List Act) (answer : Result A E)
    (next : A → Outcome B E) (last : B → Outcome C E)
    → (followed acts answer next >>= last) ≡ followed acts answer (λ a. next a >>= last)
followed-bind acts (Ok given) next last = bind-behind acts (next given) last
followed-bind acts (Err fault) next last = refl

pub bind-bind : {A B C E : Type 0} (o : Outcome A E) (next : A → Outcome B E)
    (last : B → Outcome C E)
    → ((o >>= next) >>= last) ≡ (o >>= λ a. next a >>= last)
bind-bind o next last = followed-bind o.acts o.answer next last

followed-same : {A B E : Type 0} (acts : List Act) (answer : Result A E)
    (next other : A → Outcome B E)
    → ((a : A) → next a ≡ other a) → followed acts answer next ≡ followed acts answer other
followed-same acts (Ok given) next other same = ap (behind acts) (same given)
followed-same acts (Err fault) next other same = refl

pub bind-same : {A B E : Type 0} (o : Outcome A E) (next other : A → Outcome B E)
    → ((a : A) → next a ≡ other a) → (o >>= next) ≡ (o >>= other)
bind-same o next other same = followed-same o.acts o.answer next other same

followed-done : {A E : Type 0} (acts : List Act) (answer : Result A E)
    → followed acts answer done ≡ record { acts = acts; answer = answer }
followed-done acts (Ok given) =
    ap (λ (acts : List Act). record { acts = acts; answer = Ok given }) (append-nil acts)
followed-done acts (Err fault) = refl

pub bind-done : {A E : Type 0} (o : Outcome A E) → (o >>= done) ≡ o
bind-done o = followed-done o.acts o.answer

-- what a second step adds to the acts of the first
pub added : {A B E : Type 0} → Result A E → (A → Outcome B E) → List Act
added (Ok given) next = (next given).acts
added (Err fault) next = []

pub followed-acts : {A B E : Type 0} (acts : List Act) (answer : Result A E)
    (next : A → Outcome B E)
    → (followed acts answer next).acts ≡ acts ++ added answer next
unfolding added
followed-acts acts (Ok given) next = refl
followed-acts acts (Err fault) next = sym (append-nil acts)
