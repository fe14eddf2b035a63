-- A walk, one node after the other.
use Rattle.std.proofs.Common.{◌≡◌, ◌∙◌, ℕ, zero, suc, ◌+◌, ◌-◌, ◌^◌, ◌<◌, ◌≤◌, true, false, List, [], ◌∷◌, ◌++◌}
use Rattle.std.proofs.Common.{reverse, Option, Result, Ok, Err, IfErr, inl, inr, refl, sym, ap, subst, arith, append_assoc}
use Rattle.std.proofs.lemmas.List.{reverse-append, reverse-reverse, append-nil}
use Rattle.mk_bytes.specs.Agrees.{◌>>=◌}
use Rattle.mk_closure.specs.Deciding.{Walk, decided}
use Rattle.mk_closure.specs.Means.{means_of}
use Rattle.mk_closure.specs.Names.{name_in}
use Rattle.mk_closure.specs.declared.means.Means.{Means}
use Rattle.mk_graph.specs.Nodes.{Node}
use Rattle.mk_closure.specs.Faults.{IsOutside, IsOwn, IsRefusedBy}
use Rattle.mk_closure.specs.Members.{sources_in}
use Rattle.mk_closure.specs.Parts.{State, met_count, is_open, with_met}
use Rattle.mk_closure.specs.Steps.{IsMet, steps_left}
use Rattle.mk_closure.specs.Walks.{Enter, entered, is_over, walked, walk, wanted_met, all_met}
use Rattle.mk_closure.specs.declared.fault.CloseFault.{CloseFault}
use Rattle.mk_closure.specs.declared.fault.CloseFault.TheVariants.{Failed}
use Rattle.mk_world.specs.Causes.{HasCause}
use Rattle.mk_graph.specs.Numbers.{AreBelow}
use Rattle.mk_pool.specs.declared.pool.TheConstants.{MAX_NAMES}
use Rattle.mk_suffix.proofs.LookLemmas.{ByLooks-map}
use Rattle.mk_dirs.specs.Answered.{ByLooks}
use Rattle.mk_suffix.specs.Found.{Seeking}
use Rattle.mk_world.specs.Deeds.{Store}
use Rattle.mk_world.specs.declared.history.History.{History}

-- a node is passed over
walked-over : (room : ℕ) (enter : Enter) (s : State) (n : ℕ) (more : List ℕ)
    → is_over s n ≡ true → walked room enter s (n ∷ more) ≡ walked room enter s more
unfolding walked
walked-over zero enter s n more over = rw over refl
walked-over (suc room) enter s n more over = rw over refl

pub walk-over : (enter : Enter) (s : State) (n : ℕ) (more : List ℕ) → is_over s n ≡ true
    → walk enter s (n ∷ more) ≡ walk enter s more
walk-over enter s n more over = walked-over (MAX_NAMES - met_count s.parts) enter s n more over

-- a node is met
walked-new : (room : ℕ) (enter : Enter) (s later : State) (n : ℕ) (more : List ℕ)
    → is_over s n ≡ false → enter s n ≡ Ok later
    → walked (suc room) enter s (n ∷ more) ≡ walked room enter later (sources_in later n ++ more)
unfolding walked
walked-new room enter s later n more new is = rw (new, is) refl

room-new : (s : State) → met_count s.parts < MAX_NAMES
    → MAX_NAMES - met_count s.parts ≡ suc (MAX_NAMES - (1 + met_count s.parts))
room-new s less = omega (arith, less)

pub walk-new : (enter : Enter) (s later : State) (n : ℕ) (more : List ℕ) → is_over s n ≡ false
    → met_count s.parts < MAX_NAMES → IsMet s later → enter s n ≡ Ok later
    → walk enter s (n ∷ more) ≡ walk enter later (sources_in later n ++ more)
walk-new enter s later n more new less met is =
    ap (λ room. walked room enter s (n ∷ more)) (room-new s less)
    ∙ (walked-new (MAX_NAMES - (1 + met_count s.parts)) enter s later n more new is
    ∙ ap (λ count. walked (MAX_NAMES - count) enter later (sources_in later n ++ more))
    (sym met.count))

-- or refused
walked-refused : (room : ℕ) (enter : Enter) (s : State) (n : ℕ) (more : List ℕ)
    (fault : CloseFault) → is_over s n ≡ false → IsRefusedBy fault (enter s n)
    → IsRefusedBy fault (walked (suc room) enter s (n ∷ more))
unfolding walked
walked-refused room enter s n more fault new (inl free) = inl free
walked-refused room enter s n more fault new (inr is) = inr (rw (new, is) refl)

pub walk-refused : (enter : Enter) (s : State) (n : ℕ) (more : List ℕ) (fault : CloseFault)
    → is_over s n ≡ false → met_count s.parts < MAX_NAMES → IsRefusedBy fault (enter s n)
    → IsRefusedBy fault (walk enter s (n ∷ more))
walk-refused enter s n more fault new less refused =
    subst (λ room. IsRefusedBy fault (walked room enter s (n ∷ more))) (sym (room-new s less))
    (walked-refused (MAX_NAMES - (1 + met_count s.parts)) enter s n more fault new refused)

-- or the walk is over
walked-end : (room : ℕ) (enter : Enter) (s : State) → walked room enter s [] ≡ Ok s
unfolding walked
walked-end zero enter s = refl
walked-end (suc room) enter s = refl

pub walk-end : (enter : Enter) (s : State) (nodes : List ℕ) → nodes ≡ [] → walk enter s nodes ≡ Ok s
walk-end enter s nodes none =
    ap (walk enter s) none ∙ walked-end (MAX_NAMES - met_count s.parts) enter s

-- a fault of the outside behind looks
pub outside-refused : {A : Type 0} (a b : Option History) (First : Store → Type 0)
    (defined : Store → Result A CloseFault) (fault : CloseFault) → IsOutside fault
    → ByLooks a b First → ByLooks a b (λ files. IsRefusedBy fault (defined files))
outside-refused a b First defined fault free on =
    ByLooks-map a b First (λ files. IsRefusedBy fault (defined files)) on (λ files first. inl free)

-- the refusal of a first step is that of all steps
pub IsRefusedBy-bind : {A B : Type 0} (fault : CloseFault) (first : Result A CloseFault)
    (next : A → Result B CloseFault) → IsRefusedBy fault first → IsRefusedBy fault (first >>= next)
IsRefusedBy-bind fault first next (inl free) = inl free
IsRefusedBy-bind fault first next (inr is) = inr (ap (λ r. r >>= next) is)

-- the refusal of a second step is that of both
pub IsRefusedBy-then : {A B : Type 0} (fault : CloseFault) (first : Result A CloseFault)
    (next : A → Result B CloseFault) (given : A) → first ≡ Ok given → IsRefusedBy fault (next given)
    → IsRefusedBy fault (first >>= next)
IsRefusedBy-then fault first next given is refused =
    subst (λ r. IsRefusedBy fault (r >>= next)) (sym is) refused

-- wanted names, with one more
pub all_met-next : (enter : Enter) (all : Walk) (s later : State) (rest : List (List ℕ))
    (name : List ℕ) (more : List (List ℕ)) → rest ≡ name ∷ more → all ≡ all_met enter s rest
    → wanted_met enter s name ≡ Ok later → all ≡ all_met enter later more
unfolding all_met
all_met-next enter all s later rest name more are so_far is =
    so_far ∙ (ap (all_met enter s) are ∙ ap (λ r. r >>= λ met. all_met enter met more) is)

pub all_met-refused : (enter : Enter) (all : Walk) (s : State) (rest : List (List ℕ))
    (name : List ℕ) (more : List (List ℕ)) (fault : CloseFault) → rest ≡ name ∷ more
    → all ≡ all_met enter s rest → IsRefusedBy fault (wanted_met enter s name)
    → IsRefusedBy fault all
unfolding all_met
all_met-refused enter all s rest name more fault are so_far refused =
    subst (IsRefusedBy fault) (sym (so_far ∙ ap (all_met enter s) are))
    (IsRefusedBy-bind fault (wanted_met enter s name) (λ met. all_met enter met more) refused)

pub all_met-end : (enter : Enter) (s : State) (names : List (List ℕ)) → names ≡ []
    → all_met enter s names ≡ Ok s
unfolding all_met
all_met-end enter s names none = ap (all_met enter s) none

-- nodes that are pushed turned come first, in order
pub turned-first : (todo pushed nodes : List ℕ) → pushed ≡ todo ++ reverse nodes
    → reverse pushed ≡ nodes ++ reverse todo
turned-first todo pushed nodes is =
    ap reverse is ∙ (reverse-append todo (reverse nodes)
    ∙ ap (λ l. l ++ reverse todo) (reverse-reverse nodes))

AreBelow-turned : (bound : ℕ) (a more : List ℕ) → AreBelow bound a → AreBelow bound more
    → AreBelow bound (reverse a ++ more)
AreBelow-turned bound [] more first second = second
AreBelow-turned bound (n ∷ a) more first second =
    rw (reverse-append (n ∷ []) a, append_assoc)
    (AreBelow-turned bound a (n ∷ more) first.1 (first.0, second))

pub AreBelow-reverse : (bound : ℕ) (nodes : List ℕ) → AreBelow bound nodes
    → AreBelow bound (reverse nodes)
AreBelow-reverse bound nodes below =
    subst (AreBelow bound) (append-nil (reverse nodes)) (AreBelow-turned bound nodes [] below tt)

pub AreBelow-more : (bound more : ℕ) (nodes : List ℕ) → bound ≤ more → AreBelow bound nodes
    → AreBelow more nodes
AreBelow-more bound more [] less below = tt
AreBelow-more bound more (n ∷ nodes) less below =
    (omega (arith, below.0), AreBelow-more bound more nodes less below.1)

-- both parts are below where all are
pub AreBelow-front : (bound : ℕ) (a b : List ℕ) → AreBelow bound (a ++ b) → AreBelow bound a
AreBelow-front bound [] b below = tt
AreBelow-front bound (n ∷ a) b below = (below.0, AreBelow-front bound a b below.1)

pub AreBelow-back : (bound : ℕ) (a b : List ℕ) → AreBelow bound (a ++ b) → AreBelow bound b
AreBelow-back bound [] b below = below
AreBelow-back bound (n ∷ a) b below = AreBelow-back bound a b below.1

-- fewer steps are left where a node is met
pub fewer-met : (s later : State) (todo sources : ℕ) → met_count s.parts < MAX_NAMES
    → IsMet s later → sources < 2 ^ 33
    → steps_left later (todo + sources) ≤ steps_left s todo
fewer-met s later todo sources less met few =
    let count = met.count in omega (arith, less, count, few)

-- a fault that is not of the world comes from no count
pub HasCause-own : {T : Type 0} (r : Result T CloseFault) (count : ℕ) → IfErr r IsOwn
    → HasCause Failed count count r
HasCause-own (Ok x) count own =
    record { kept = omega arith; answered = λ less. absurd (omega arith); rose = λ is. absurd cc }
HasCause-own (Err fault) count own = record {
  kept = omega arith;
  answered = λ less. absurd (omega arith);
  rose = λ is. let same : fault ≡ Failed = cc in absurd (subst IsOwn same own);
}

-- a node that is met by what there is to make it with
pub entered-means : (files : Store) (seeking : Seeking) (s : State) (n : ℕ)
    (nodes : List Node) (name : List ℕ) (means : Means) → nodes ≡ s.nodes → name ≡ name_in s n
    → is_open s n ≡ true → means_of files nodes seeking name n ≡ means
    → entered files seeking s n ≡ decided (with_met s n) n means
entered-means files seeking s n nodes name means nodes_is name_is opened is =
    let same : means_of files s.nodes seeking (name_in s n) n ≡ means =
    sym (ap (λ x. means_of files x seeking (name_in s n) n) nodes_is)
    ∙ (sym (ap (λ x. means_of files nodes seeking x n) name_is) ∙ is) in
    rw opened (ap (decided (with_met s n) n) same)
