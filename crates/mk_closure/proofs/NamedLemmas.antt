-- Each name of a closure stands once, and what stands around a build is not met.
use Rattle.std.proofs.Common.{◌≡◌, ◌≢◌, ◌∙◌, ℕ, zero, suc, ◌+◌, ◌-◌, ◌<◌, ◌≤◌, ◌==◌, nat_lt, Bool, true, false, ◌||◌, cond, List, [], ◌∷◌, ◌++◌, ◌⊎◌, length, get_or, set, map, position, replicate, Option, Some, None, Result, Ok, Err, if◌then◌else◌}
use Rattle.std.proofs.Common.{inl, inr, refl, sym, ap, subst, arith, append_assoc, length-append, length-set, lt-ltb, ltb-true, ltb-false, eqb-true}
use Rattle.std.proofs.lemmas.Bool.{cond_both, cases_eq, false≢true}
use Rattle.std.proofs.lemmas.List.{append-nil, get_or-set_same, get_or-set_other, length-map, length-replicate}
use Rattle.std.proofs.lemmas.List.Folds.{list_any-append}
use Rattle.std.proofs.lemmas.List.Sums.{fails_before_first}
use Rattle.std.specs.List.{position_or_len}
use Rattle.std.specs.Str.{bytes_eq}
use Rattle.mk_bytes.specs.Agrees.{◌>>=◌}
use Rattle.mk_closure.specs.ClosureLaws.{all_names, IsNamed, ClosuresAreNamed}
use Rattle.mk_closure.specs.Deciding.{Walk, linked_to, linked, placed, missing, decided, has_default, is_optional}
use Rattle.mk_closure.specs.Means.{means_of}
use Rattle.mk_closure.specs.Members.{sources_in}
use Rattle.mk_closure.specs.Names.{or_behind, number_in, name_in, numbered_as, numbered, is_frame}
use Rattle.mk_closure.specs.Parts.{State, open_part, first_state, part_at, is_open, with_part, with_way, with_met, with_name}
use Rattle.mk_closure.specs.Walks.{Enter, entered, is_over, passed, walked, walk, wanted_met, all_met, closed}
use Rattle.mk_closure.specs.declared.fault.CloseFault.{CloseFault}
use Rattle.mk_closure.specs.declared.fault.CloseFault.TheVariants.{Full, NoRule}
use Rattle.mk_closure.specs.declared.means.Means.{Means}
use Rattle.mk_closure.specs.declared.means.Means.TheVariants as mean
use Rattle.mk_closure.specs.declared.part.Part.{Part}
use Rattle.mk_closure.specs.declared.part.Way.{Way}
use Rattle.mk_closure.specs.declared.part.Way.TheVariants.{Open, Own, Rule, Placed, Default, Dropped}
use Rattle.mk_graph.specs.Nodes.{Node, names_of, node_at, number_of}
use Rattle.mk_pool.proofs.PoolLemmas.{AreDistinct-append}
use Rattle.mk_pool.specs.Pool.{AreDistinct, is_held}
use Rattle.mk_pool.specs.declared.pool.TheConstants.{MAX_NAMES}
use Rattle.mk_suffix.specs.declared.chain.Chain.{Chain}
use Rattle.mk_suffix.specs.Found.{Seeking}
use Rattle.mk_world.specs.Deeds.{Store}

-- one step behind another
pub both_ok : {A B : Type 0} (first : Result A CloseFault) (next : A → Result B CloseFault) (later : B)
    (P : Type 0) → (first >>= next) ≡ Ok later
    → ((given : A) → first ≡ Ok given → next given ≡ Ok later → P) → P
both_ok (Ok given) next later P is goes = goes given refl is
both_ok (Err fault) next later P is goes = absurd cc

-- a name that has no number is none of those that there are

none-held : (names : List (List ℕ)) (name : List ℕ)
    → ((k : ℕ) → k < length names → bytes_eq name (get_or names k []) ≡ false)
    → is_held names name ≡ false
none-held [] name each = refl
none-held (one ∷ names) name each =
    rw (each 0 (omega arith)) (none-held names name (λ k less. each (suc k) (omega (arith, less))))

none-found : (b : Bool) (place : ℕ) → cond b (Some place) None ≡ None → b ≡ false
none-found true place is = cc
none-found false place is = refl

pub none-passes : (name : List ℕ) (names : List (List ℕ)) → position (bytes_eq name) names ≡ None
    → is_held names name ≡ false
none-passes name names is =
    let first = position_or_len (bytes_eq name) names in
    let past = ltb-false first (length names) (none-found (nat_lt first (length names)) first is) in
    none-held names name
    (λ k less. fails_before_first (bytes_eq name) names k [] (omega (arith, past, less)))

pub number-none : (count : ℕ) (first second : Option ℕ) → or_behind count first second ≡ None
    → (first ≡ None) × (second ≡ None)
number-none count (Some n) second is = cc
number-none count None None is = (refl, refl)
number-none count None (Some n) is = cc

pub neither : (a b : Bool) → a ≡ false → b ≡ false → (a || b) ≡ false
neither true b first second = cc
neither false b first second = second

held-append : (first second : List (List ℕ)) (name : List ℕ) → is_held first name ≡ false
    → is_held second name ≡ false → is_held (first ++ second) name ≡ false
held-append first second name one other =
    list_any-append (bytes_eq name) first second ∙ neither _ _ one other

-- what a state has of a node
pub part-below : (parts : List Part) (n : ℕ) → (get_or parts n open_part).met ≡ true → n < length parts
part-below [] n is = cc
part-below (part ∷ parts) zero is = omega arith
part-below (part ∷ parts) (suc n) is = let less = part-below parts n is in omega (arith, less)

pub part-pushed : (parts : List Part) (n : ℕ) → (get_or (parts ++ open_part ∷ []) n open_part).met ≡ true
    → (get_or parts n open_part).met ≡ true
part-pushed [] zero is = is
part-pushed [] (suc n) is = is
part-pushed (part ∷ parts) zero is = is
part-pushed (part ∷ parts) (suc n) is = part-pushed parts n is

pub get-front : (first second : List (List ℕ)) (n : ℕ) → n < length first
    → get_or (first ++ second) n [] ≡ get_or first n []
get-front [] second n less = absurd (omega (arith, less))
get-front (text ∷ first) second zero less = refl
get-front (text ∷ first) second (suc n) less = get-front first second n (omega (arith, less))

names-long : (nodes : List Node) (added : List (List ℕ))
    → length (names_of nodes ++ added) ≡ length nodes + length added
names-long nodes added =
    length-append (names_of nodes) added
    ∙ ap (λ k. k + length added) (length-map nodes (λ (node : Node). node.name))

-- a name more leaves the others as they are
name-grown : (s : State) (name : List ℕ) (n : ℕ) → n < length s.nodes + length s.added
    → name_in (with_name s name) n ≡ name_in s n
name-grown s name n less = at (nat_lt n (length s.nodes)) refl
  where
    at : (b : Bool) → nat_lt n (length s.nodes) ≡ b
        → (if b then (node_at s.nodes n).name
        else get_or (s.added ++ name ∷ []) (n - length s.nodes) [])
        ≡ (if b then (node_at s.nodes n).name else get_or s.added (n - length s.nodes) [])
    at true is = refl
    at false is =
        let behind = ltb-false n (length s.nodes) is in
        get-front s.added (name ∷ []) (n - length s.nodes) (omega (arith, behind, less))

-- a number that is given to a name, and a name that is added

named-added : (nodes : List Node) (s : State) (name : List ℕ) → number_in s name ≡ None
    → IsNamed nodes s → IsNamed nodes (with_name s name)
named-added nodes s name none named =
    let parts = number-none (length s.nodes) (number_of s.nodes name) (position (bytes_eq name) s.added)
    none in
    let fresh = held-append (names_of s.nodes) s.added name (none-passes name (names_of s.nodes) parts.0)
    (none-passes name s.added parts.1) in
    let grouped = append_assoc (names_of s.nodes) s.added (name ∷ []) in
    record {
      graph = named.graph;
      as_many = length-append s.parts (open_part ∷ [])
          ∙ (ap (λ k. k + 1) named.as_many
          ∙ (sym (length-append (all_names s) (name ∷ [])) ∙ ap length grouped));
      distinct = subst AreDistinct grouped (AreDistinct-append (all_names s) name fresh named.distinct);
      inner = λ n met.
          let was = part-pushed s.parts n met in
          let less : n < length s.nodes + length s.added =
          let below = part-below s.parts n was in
          omega (arith, below, named.as_many, names-long s.nodes s.added) in
          subst (λ one. is_frame one ≡ false) (sym (name-grown s name n less)) (named.inner n was);
    }

named-numbered : (nodes : List Node) (s : State) (name : List ℕ) (found : State × ℕ)
    → numbered s name ≡ Ok found → IsNamed nodes s → IsNamed nodes found.0
named-numbered nodes s name found is named = at (number_in s name) refl is
  where
    at : (number : Option ℕ) → number_in s name ≡ number → numbered_as s name number ≡ Ok found
        → IsNamed nodes found.0
    at (Some n) number is = let same : (s, n) ≡ found = cc in subst (λ (f : State × ℕ). IsNamed nodes f.0) same named
    at None number is =
        cond_both (length s.parts == MAX_NAMES) (Err Full) (Ok (with_name s name, length s.parts))
        (λ (r : Result (State × ℕ) CloseFault). r ≡ Ok found → IsNamed nodes found.0) (λ full given. cc)
        (λ room given.
        let same : (with_name s name, length s.parts) ≡ found = cc in
        subst (λ (f : State × ℕ). IsNamed nodes f.0) same (named-added nodes s name number named)) is

-- what is decided of a node

part-changed : (parts : List Part) (n m : ℕ) (part : Part)
    → (get_or (set parts n part) m open_part).met ≡ true
    → ((get_or parts m open_part).met ≡ true) ⊎ ((m ≡ n) × (part.met ≡ true))
part-changed [] n m part is = inl is
part-changed (one ∷ parts) zero zero part is = inr (refl, is)
part-changed (one ∷ parts) zero (suc m) part is = inl is
part-changed (one ∷ parts) (suc n) zero part is = inl is
part-changed (one ∷ parts) (suc n) (suc m) part is = elim (part-changed parts n m part is) [
  | inl before ↦ inl before
  | inr now ↦ inr (ap suc now.0, now.1)
]

named-part : (nodes : List Node) (s : State) (n : ℕ) (part : Part)
    → (part.met ≡ true → is_frame (name_in s n) ≡ false) → IsNamed nodes s
    → IsNamed nodes (with_part s n part)
named-part nodes s n part inner named = record {
  graph = named.graph;
  as_many = length-set s.parts n part ∙ named.as_many;
  distinct = named.distinct;
  inner = λ m met. elim (part-changed s.parts n m part met) [
    | inl before ↦ named.inner m before
    | inr now ↦ subst (λ k. is_frame (name_in s k) ≡ false) (sym now.0) (inner now.1)
  ];
}

named-way : (nodes : List Node) (s : State) (n : ℕ) (way : Way) → IsNamed nodes s
    → IsNamed nodes (with_way s n way)
named-way nodes s n way named =
    named-part nodes s n (record { way = way; met = (part_at s n).met }) (λ met. named.inner n met) named

named-linked_to : (nodes : List Node) (s : State) (n rule : ℕ) (source : List ℕ) (found : State × ℕ)
    → linked_to s n rule source ≡ Ok found → IsNamed nodes s → IsNamed nodes found.0
named-linked_to nodes s n rule source found is named =
    both_ok (numbered s source) (λ one. Ok (with_way one.0 n (Rule rule one.1), one.1)) found
    (IsNamed nodes found.0) is
    (λ one here rest.
    let same : (with_way one.0 n (Rule rule one.1), one.1) ≡ found = cc in
    subst (λ (f : State × ℕ). IsNamed nodes f.0) same
    (named-way nodes one.0 n (Rule rule one.1) (named-numbered nodes s source one here named)))

named-linked : (nodes : List Node) (s : State) (n : ℕ) (chain : Chain) (links : ℕ) (later : State)
    → linked s n chain links ≡ Ok later → IsNamed nodes s → IsNamed nodes later
unfolding linked
named-linked nodes s n chain zero later is named =
    let same : s ≡ later = cc in subst (IsNamed nodes) same named
named-linked nodes s n chain (suc links) later is named =
    let step = linked_to s n (get_or chain.rules links 0) (get_or chain.names links []) in
    cond_both (is_open s n) (step >>= λ found. linked found.0 found.1 chain links) (Ok s)
    (λ r. r ≡ Ok later → IsNamed nodes later)
    (λ opened given. both_ok step (λ found. linked found.0 found.1 chain links) later
    (IsNamed nodes later) given
    (λ found here rest. named-linked nodes found.0 found.1 chain links later rest
    (named-linked_to nodes s n (get_or chain.rules links 0) (get_or chain.names links []) found here
    named)))
    (λ closed_already given. let same : s ≡ later = cc in subst (IsNamed nodes) same named) is

named-missing : (nodes : List Node) (s : State) (n : ℕ) (later : State) → missing s n ≡ Ok later
    → IsNamed nodes s → IsNamed nodes later
named-missing nodes s n later is named =
    let other = if is_optional s.nodes n then Ok (with_way s n Dropped) else Err (NoRule (name_in s n)) in
    cond_both (has_default s.nodes) (Ok (with_way s n Default)) other
    (λ (r : Walk). r ≡ Ok later → IsNamed nodes later)
    (λ serves given. let same : with_way s n Default ≡ later = cc in
    subst (IsNamed nodes) same (named-way nodes s n Default named))
    (λ none given. cond_both (is_optional s.nodes n) (Ok (with_way s n Dropped))
    (Err (NoRule (name_in s n))) (λ (r : Walk). r ≡ Ok later → IsNamed nodes later)
    (λ drops made. let same : with_way s n Dropped ≡ later = cc in
    subst (IsNamed nodes) same (named-way nodes s n Dropped named)) (λ needs made. cc) given) is

named-placed : (nodes : List Node) (s : State) (n : ℕ) (place : List ℕ) (later : State)
    → placed s n place ≡ Ok later → IsNamed nodes s → IsNamed nodes later
named-placed nodes s n place later is named =
    both_ok (numbered s place) (λ one. Ok (with_way one.0 n (Placed one.1))) later
    (IsNamed nodes later) is
    (λ one here rest.
    let same : with_way one.0 n (Placed one.1) ≡ later = cc in
    subst (IsNamed nodes) same
    (named-way nodes one.0 n (Placed one.1) (named-numbered nodes s place one here named)))

named-decided : (nodes : List Node) (s : State) (n : ℕ) (means : Means) (later : State)
    → decided s n means ≡ Ok later → IsNamed nodes s → IsNamed nodes later
named-decided nodes s n mean.Own later is named =
    let same : with_way s n Own ≡ later = cc in subst (IsNamed nodes) same (named-way nodes s n Own named)
named-decided nodes s n (mean.Chained chain) later is named =
    named-linked nodes s n chain (length chain.rules) later is named
named-decided nodes s n (mean.Placed place) later is named = named-placed nodes s n place later is named
named-decided nodes s n mean.Missing later is named = named-missing nodes s n later is named

named-entered : (files : Store) (seeking : Seeking) (nodes : List Node) (s : State) (n : ℕ)
    (later : State) → entered files seeking s n ≡ Ok later → is_frame (name_in s n) ≡ false
    → IsNamed nodes s → IsNamed nodes later
named-entered files seeking nodes s n later is inner named =
    let met = named-part nodes s n (record { way = (part_at s n).way; met = true }) (λ _. inner) named in
    let means = means_of files s.nodes seeking (name_in s n) n in
    cond_both (is_open s n) (decided (with_met s n) n means) (Ok (with_met s n))
    (λ (r : Walk). r ≡ Ok later → IsNamed nodes later)
    (λ opened given. named-decided nodes (with_met s n) n means later given met)
    (λ known given. let same : with_met s n ≡ later = cc in subst (IsNamed nodes) same met) is

-- a walk

abbrev Enters : List Node → Enter → Type 0
Enters nodes enter =
    (s : State) (n : ℕ) (later : State) → enter s n ≡ Ok later → is_frame (name_in s n) ≡ false
    → IsNamed nodes s → IsNamed nodes later

pub or-right-false : (a b : Bool) → (a || b) ≡ false → b ≡ false
or-right-false true b is = cc
or-right-false false b is = is

named-passed : (nodes : List Node) (enter : Enter) (next : State → List ℕ → Walk) (later : State)
    → Enters nodes enter
    → ((s : State) (more : List ℕ) → next s more ≡ Ok later → IsNamed nodes s → IsNamed nodes later)
    → (s : State) (pending : List ℕ) → passed enter next s pending ≡ Ok later → IsNamed nodes s
    → IsNamed nodes later
named-passed nodes enter next later enters goes s [] is named =
    let same : s ≡ later = cc in subst (IsNamed nodes) same named
named-passed nodes enter next later enters goes s (n ∷ more) is named =
    let step = enter s n >>= λ one. next one (sources_in one n ++ more) in
    cond_both (is_over s n) (passed enter next s more) step (λ (r : Walk). r ≡ Ok later → IsNamed nodes later)
    (λ over given. named-passed nodes enter next later enters goes s more given named)
    (λ new given. both_ok (enter s n) (λ one. next one (sources_in one n ++ more)) later
    (IsNamed nodes later) given
    (λ one here rest. goes one (sources_in one n ++ more) rest
    (enters s n one here (or-right-false (part_at s n).met (is_frame (name_in s n)) new) named))) is

named-walked : (room : ℕ) (nodes : List Node) (enter : Enter) (later : State) → Enters nodes enter
    → (s : State) (pending : List ℕ) → walked room enter s pending ≡ Ok later → IsNamed nodes s
    → IsNamed nodes later
unfolding walked
named-walked zero nodes enter later enters s pending is named =
    named-passed nodes enter (λ one more. Ok one) later enters
    (λ one more here known. let same : one ≡ later = cc in subst (IsNamed nodes) same known) s pending is
    named
named-walked (suc room) nodes enter later enters s pending is named =
    named-passed nodes enter (walked room enter) later enters
    (λ one more here known. named-walked room nodes enter later enters one more here known) s pending is
    named

named-wanted : (nodes : List Node) (enter : Enter) (s : State) (name : List ℕ) (later : State)
    → Enters nodes enter → wanted_met enter s name ≡ Ok later → IsNamed nodes s → IsNamed nodes later
named-wanted nodes enter s name later enters is named =
    let step = numbered s name >>= λ found. walk enter found.0 (found.1 ∷ []) in
    cond_both (is_frame name) (Ok s) step (λ (r : Walk). r ≡ Ok later → IsNamed nodes later)
    (λ frame given. let same : s ≡ later = cc in subst (IsNamed nodes) same named)
    (λ other given. both_ok (numbered s name) (λ found. walk enter found.0 (found.1 ∷ [])) later
    (IsNamed nodes later) given
    (λ found here rest. named-walked _ nodes enter later enters found.0 (found.1 ∷ []) rest
    (named-numbered nodes s name found here named))) is

named-all : (nodes : List Node) (enter : Enter) (s : State) (names : List (List ℕ)) (later : State)
    → Enters nodes enter → all_met enter s names ≡ Ok later → IsNamed nodes s → IsNamed nodes later
unfolding all_met
named-all nodes enter s [] later enters is named =
    let same : s ≡ later = cc in subst (IsNamed nodes) same named
named-all nodes enter s (name ∷ more) later enters is named =
    both_ok (wanted_met enter s name) (λ one. all_met enter one more) later (IsNamed nodes later) is
    (λ one here rest. named-all nodes enter one more later enters rest
    (named-wanted nodes enter s name one enters here named))

pub none-met : (count n : ℕ) → (get_or (replicate count open_part) n open_part).met ≡ true → ⊥
none-met zero n is = cc
none-met (suc count) zero is = cc
none-met (suc count) (suc n) is = none-met count n is

named-first : (nodes : List Node) → AreDistinct (names_of nodes) → IsNamed nodes (first_state nodes)
named-first nodes distinct =
    let all : names_of nodes ++ [] ≡ names_of nodes = append-nil (names_of nodes) in
    record {
      graph = refl;
      as_many = length-replicate (length nodes) open_part
          ∙ sym (ap length all ∙ length-map nodes (λ (node : Node). node.name));
      distinct = subst AreDistinct (sym all) distinct;
      inner = λ n met. absurd (none-met (length nodes) n met);
    }

pub closures_named : ClosuresAreNamed
closures_named files nodes seeking wanted s distinct is =
    named-all nodes (entered files seeking) (first_state nodes) wanted s
    (λ one n later here inner known. named-entered files seeking nodes one n later here inner known) is
    (named-first nodes distinct)
