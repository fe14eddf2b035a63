-- The walk over the sources of wanted names is the same where these have the same means.
use Rattle.std.proofs.Common.{◌≡◌, ◌∙◌, ℕ, zero, suc, ◌-◌, ◌==◌, nat_lt, Bool, true, false, List, [], ◌∷◌, ◌++◌, length, get_or, Option, Some, None, Result, Ok, Err, if◌then◌else◌}
use Rattle.std.proofs.Common.{inl, inr, refl, sym, ap, subst, append_assoc}
use Rattle.std.proofs.lemmas.Bool.{cond_both}
use Rattle.std.proofs.lemmas.List.{append-nil}
use Rattle.mk_bytes.specs.Agrees.{◌>>=◌}
use Rattle.mk_clean.specs.Clean.{IsAmong}
use Rattle.mk_closure.proofs.NamedLemmas.{both_ok}
use Rattle.mk_closure.specs.Deciding.{Walk, linked_to, linked, placed, missing, decided, has_default, is_optional}
use Rattle.mk_closure.specs.Means.{means_of}
use Rattle.mk_closure.specs.Members.{sources_in}
use Rattle.mk_closure.specs.Names.{name_in, number_in, numbered, numbered_as, is_frame}
use Rattle.mk_closure.specs.Parts.{State, first_state, is_open, met_count, with_met, with_name, with_way}
use Rattle.mk_closure.specs.Walks.{all_met, closed, entered, is_over, passed, walk, walked, wanted_met}
use Rattle.mk_closure.specs.declared.fault.CloseFault.{CloseFault}
use Rattle.mk_closure.specs.declared.fault.CloseFault.TheVariants.{Full, NoRule}
use Rattle.mk_closure.specs.declared.means.Means.{Means}
use Rattle.mk_closure.specs.declared.means.Means.TheVariants as mean
use Rattle.mk_closure.specs.declared.part.Way.TheVariants.{Own, Rule, Placed, Default, Dropped}
use Rattle.mk_graph.specs.Nodes.{Node, node_at}
use Rattle.mk_graph.specs.declared.Made.{Made}
use Rattle.mk_plain.proofs.NameLemmas.{means-alike}
use Rattle.mk_plain.specs.Names.{AreMadeAlike, PlansAreAlikeByNames}
use Rattle.mk_plan.specs.Plans.{as_plan, named_plan, plan_of, seeking_of, wanted}
use Rattle.mk_pool.specs.declared.pool.TheConstants.{MAX_NAMES}
use Rattle.mk_suffix.specs.declared.chain.Chain.{Chain}
use Rattle.mk_world.specs.Deeds.{Store}

-- The same graph, and perhaps more names behind those that were added.
record Grows (s later : State) : Type 0 where
  graph : later.nodes ≡ s.nodes
  more : List (List ℕ)
  added : later.added ≡ s.added ++ more

grows-none : (s : State) → Grows s s
grows-none s = record { graph = refl; more = []; added = sym (append-nil s.added) }

grows-then : (a b c : State) → Grows a b → Grows b c → Grows a c
grows-then a b c first second = record {
  graph = second.graph ∙ first.graph;
  more = first.more ++ second.more;
  added = second.added
      ∙ (ap (λ l. l ++ second.more) first.added ∙ append_assoc a.added first.more second.more);
}

-- a way that is decided, or a node that is met, adds no name
grows-way : (s later : State) → later.nodes ≡ s.nodes → later.added ≡ s.added → Grows s later
grows-way s later graph added = record {
  graph = graph;
  more = [];
  added = added ∙ sym (append-nil s.added);
}

grows-numbered : (s : State) (name : List ℕ) (found : State × ℕ) → numbered s name ≡ Ok found → Grows s found.0
grows-numbered s name found is = at (number_in s name) is
  where
    at : (number : Option ℕ) → numbered_as s name number ≡ Ok found → Grows s found.0
    at (Some n) given =
        let same : (s, n) ≡ found = cc in subst (λ (f : State × ℕ). Grows s f.0) same (grows-none s)
    at None given =
        cond_both (length s.parts == MAX_NAMES) (Err Full) (Ok (with_name s name, length s.parts))
        (λ (r : Result (State × ℕ) CloseFault). r ≡ Ok found → Grows s found.0) (λ full refused. absurd cc)
        (λ room named.
        let same : (with_name s name, length s.parts) ≡ found = cc in
        subst (λ (f : State × ℕ). Grows s f.0) same (record { graph = refl; more = name ∷ []; added = refl })) given

grows-linked_to : (s : State) (n rule : ℕ) (source : List ℕ) (found : State × ℕ)
    → linked_to s n rule source ≡ Ok found → Grows s found.0
grows-linked_to s n rule source found is =
    both_ok (numbered s source) (λ one. Ok (with_way one.0 n (Rule rule one.1), one.1)) found (Grows s found.0) is
    (λ one here rest.
    let same : (with_way one.0 n (Rule rule one.1), one.1) ≡ found = cc in
    subst (λ (f : State × ℕ). Grows s f.0) same
    (grows-then s one.0 (with_way one.0 n (Rule rule one.1)) (grows-numbered s source one here)
    (grows-way one.0 (with_way one.0 n (Rule rule one.1)) refl refl)))

grows-linked : (s : State) (n : ℕ) (chain : Chain) (links : ℕ) (later : State) → linked s n chain links ≡ Ok later
    → Grows s later
unfolding linked
grows-linked s n chain zero later is = let same : s ≡ later = cc in subst (Grows s) same (grows-none s)
grows-linked s n chain (suc links) later is =
    let step = linked_to s n (get_or chain.rules links 0) (get_or chain.names links []) in
    cond_both (is_open s n) (step >>= λ found. linked found.0 found.1 chain links) (Ok s)
    (λ r. r ≡ Ok later → Grows s later)
    (λ opened given. both_ok step (λ found. linked found.0 found.1 chain links) later (Grows s later) given
    (λ found here rest. grows-then s found.0 later
    (grows-linked_to s n (get_or chain.rules links 0) (get_or chain.names links []) found here)
    (grows-linked found.0 found.1 chain links later rest)))
    (λ closed_already given. let same : s ≡ later = cc in subst (Grows s) same (grows-none s)) is

grows-missing : (s : State) (n : ℕ) (later : State) → missing s n ≡ Ok later → Grows s later
grows-missing s n later is =
    let other = if is_optional s.nodes n then Ok (with_way s n Dropped) else Err (NoRule (name_in s n)) in
    cond_both (has_default s.nodes) (Ok (with_way s n Default)) other (λ (r : Walk). r ≡ Ok later → Grows s later)
    (λ serves given. let same : with_way s n Default ≡ later = cc in
    subst (Grows s) same (grows-way s (with_way s n Default) refl refl))
    (λ none given. cond_both (is_optional s.nodes n) (Ok (with_way s n Dropped)) (Err (NoRule (name_in s n)))
    (λ (r : Walk). r ≡ Ok later → Grows s later)
    (λ drops dropped. let same : with_way s n Dropped ≡ later = cc in
    subst (Grows s) same (grows-way s (with_way s n Dropped) refl refl)) (λ needs refused. absurd cc) given) is

grows-placed : (s : State) (n : ℕ) (place : List ℕ) (later : State) → placed s n place ≡ Ok later → Grows s later
grows-placed s n place later is =
    both_ok (numbered s place) (λ one. Ok (with_way one.0 n (Placed one.1))) later (Grows s later) is
    (λ one here rest.
    let same : with_way one.0 n (Placed one.1) ≡ later = cc in
    subst (Grows s) same
    (grows-then s one.0 (with_way one.0 n (Placed one.1)) (grows-numbered s place one here)
    (grows-way one.0 (with_way one.0 n (Placed one.1)) refl refl)))

grows-decided : (s : State) (n : ℕ) (means : Means) (later : State) → decided s n means ≡ Ok later → Grows s later
grows-decided s n mean.Own later is =
    let same : with_way s n Own ≡ later = cc in
    subst (Grows s) same (grows-way s (with_way s n Own) refl refl)
grows-decided s n (mean.Chained chain) later is = grows-linked s n chain (length chain.rules) later is
grows-decided s n (mean.Placed place) later is = grows-placed s n place later is
grows-decided s n mean.Missing later is = grows-missing s n later is

-- The name of a number, as a later state has it, or the empty one where it has none yet.
name-later : (s last : State) (n : ℕ) → Grows s last → IsAmong (name_in s n) (name_in last n ∷ [] ∷ [])
name-later s last n grows =
    subst (λ nodes. IsAmong (name_in s n) (name_by nodes last.added ∷ [] ∷ [])) (sym grows.graph)
    (subst (λ added. IsAmong (name_in s n) (name_by s.nodes added ∷ [] ∷ [])) (sym grows.added)
    (at (nat_lt n (length s.nodes))))
  where
    name_by : List Node → List (List ℕ) → List ℕ
    name_by nodes added =
        if nat_lt n (length nodes) then (node_at nodes n).name else get_or added (n - length nodes) []

    got : (added more : List (List ℕ)) (k : ℕ) → IsAmong (get_or added k []) (get_or (added ++ more) k [] ∷ [] ∷ [])
    got [] more k = inr (inl refl)
    got (one ∷ added) more zero = inl refl
    got (one ∷ added) more (suc k) = got added more k

    at : (b : Bool)
        → IsAmong (if b then (node_at s.nodes n).name else get_or s.added (n - length s.nodes) [])
        ((if b then (node_at s.nodes n).name else get_or (s.added ++ grows.more) (n - length s.nodes) []) ∷ [] ∷ [])
    at true = inl refl
    at false = got s.added grows.more (n - length s.nodes)

module _ (files other : Store) (made : Made) (last : State)
    (means : (n : ℕ) (name : List ℕ) → IsAmong name (name_in last n ∷ [] ∷ [])
    → means_of other made.graph (seeking_of made) name n ≡ means_of files made.graph (seeking_of made) name n)
  where
    -- One walk leads from a state of this graph to a later one, and where this is on the way to the last, so does the
    -- other.
    abbrev Keeps : State → Walk → Walk → Type 0
    Keeps s one another =
        (later : State) → one ≡ Ok later
        → Grows s later × (s.nodes ≡ made.graph → Grows later last → another ≡ Ok later)

    keeps-if : (s : State) (b : Bool) (one another one_else another_else : Walk) → Keeps s one another
        → Keeps s one_else another_else
        → Keeps s (if b then one else one_else) (if b then another else another_else)
    keeps-if s true one another one_else another_else is is_else = is
    keeps-if s false one another one_else another_else is is_else = is_else

    keeps-here : (s : State) → Keeps s (Ok s) (Ok s)
    keeps-here s later is =
        let same : s ≡ later = cc in (subst (Grows s) same (grows-none s), λ graph grows. is)

    keeps-then : (s : State) (first again : Walk) (next other_next : State → Walk) → Keeps s first again
        → ((given : State) → Keeps given (next given) (other_next given))
        → Keeps s (first >>= next) (again >>= other_next)
    keeps-then s first again next other_next keeps goes later is =
        both_ok first next later
        (Grows s later × (s.nodes ≡ made.graph → Grows later last → (again >>= other_next) ≡ Ok later)) is
        (λ given here rest.
        let start = keeps given here in
        let behind = goes given later rest in (
          grows-then s given later start.0 behind.0,
          λ graph grows.
              ap (λ (it : Walk). it >>= other_next) (start.1 graph (grows-then given later last behind.0 grows))
              ∙ behind.1 (start.0.graph ∙ graph) grows,
        ))

    keeps-numbered : (s : State) (name : List ℕ) (next other_next : State × ℕ → Walk)
        → ((found : State × ℕ) → Keeps found.0 (next found) (other_next found))
        → Keeps s (numbered s name >>= next) (numbered s name >>= other_next)
    keeps-numbered s name next other_next goes later is =
        both_ok (numbered s name) next later
        (Grows s later × (s.nodes ≡ made.graph → Grows later last → (numbered s name >>= other_next) ≡ Ok later)) is
        (λ found here rest.
        let start = grows-numbered s name found here in
        let behind = goes found later rest in (
          grows-then s found.0 later start behind.0,
          λ graph grows.
              ap (λ (it : Result (State × ℕ) CloseFault). it >>= other_next) here
              ∙ behind.1 (start.graph ∙ graph) grows,
        ))

    enters : (s : State) (n : ℕ) → Keeps s (entered files (seeking_of made) s n) (entered other (seeking_of made) s n)
    enters s n =
        keeps-if s (is_open s n) _ _ _ _
        (λ later is.
        let behind = grows-then s (with_met s n) later (grows-way s (with_met s n) refl refl)
        (grows-decided (with_met s n) n (means_of files s.nodes (seeking_of made) (name_in s n) n) later is) in (
          behind,
          λ graph grows.
              ap (decided (with_met s n) n)
              (subst (λ nodes. means_of other nodes (seeking_of made) (name_in s n) n
              ≡ means_of files nodes (seeking_of made) (name_in s n) n) (sym graph)
              (means n (name_in s n) (name-later s last n (grows-then s later last behind grows))))
              ∙ is,
        ))
        (λ later is.
        let same : with_met s n ≡ later = cc in
        (subst (Grows s) same (grows-way s (with_met s n) refl refl), λ graph grows. is))

    passes : (next other_next : State → List ℕ → Walk)
        → ((s : State) (pending : List ℕ) → Keeps s (next s pending) (other_next s pending))
        → (s : State) (pending : List ℕ)
        → Keeps s (passed (entered files (seeking_of made)) next s pending)
        (passed (entered other (seeking_of made)) other_next s pending)
    passes next other_next goes s [] = keeps-here s
    passes next other_next goes s (n ∷ more) =
        keeps-if s (is_over s n) _ _ _ _ (passes next other_next goes s more)
        (keeps-then s (entered files (seeking_of made) s n) (entered other (seeking_of made) s n)
        (λ one. next one (sources_in one n ++ more)) (λ one. other_next one (sources_in one n ++ more)) (enters s n)
        (λ one. goes one (sources_in one n ++ more)))

    walks : (room : ℕ) (s : State) (pending : List ℕ)
        → Keeps s (walked room (entered files (seeking_of made)) s pending)
        (walked room (entered other (seeking_of made)) s pending)
    unfolding walked
    walks zero s pending = passes (λ one more. Ok one) (λ one more. Ok one) (λ one more. keeps-here one) s pending
    walks (suc room) s pending =
        passes (walked room (entered files (seeking_of made))) (walked room (entered other (seeking_of made)))
        (λ one more. walks room one more) s pending

    wants : (s : State) (name : List ℕ)
        → Keeps s (wanted_met (entered files (seeking_of made)) s name)
        (wanted_met (entered other (seeking_of made)) s name)
    wants s name =
        keeps-if s (is_frame name) _ _ _ _ (keeps-here s)
        (keeps-numbered s name (λ found. walk (entered files (seeking_of made)) found.0 (found.1 ∷ []))
        (λ found. walk (entered other (seeking_of made)) found.0 (found.1 ∷ []))
        (λ found. walks (MAX_NAMES - met_count found.0.parts) found.0 (found.1 ∷ [])))

    wants_all : (s : State) (names : List (List ℕ))
        → Keeps s (all_met (entered files (seeking_of made)) s names)
        (all_met (entered other (seeking_of made)) s names)
    unfolding all_met
    wants_all s [] = keeps-here s
    wants_all s (name ∷ names) =
        keeps-then s (wanted_met (entered files (seeking_of made)) s name)
        (wanted_met (entered other (seeking_of made)) s name)
        (λ one. all_met (entered files (seeking_of made)) one names)
        (λ one. all_met (entered other (seeking_of made)) one names) (wants s name)
        (λ one. wants_all one names)

-- The closure is the same where the names of it are made alike.
closed-alike : (files other : Store) (made : Made) (names : List (List ℕ)) (s : State)
    → AreMadeAlike files other made names → closed files made.graph (seeking_of made) names ≡ Ok s
    → closed other made.graph (seeking_of made) names ≡ Ok s
closed-alike files other made names s alike is =
    (wants_all files other made s
    (λ n name among. means-alike files other made name n (alike s is n name among)) (first_state made.graph) names
    s is).1 refl (grows-none s)

pub plans_are_alike_by_names : PlansAreAlikeByNames
plans_are_alike_by_names files other made requested query nodes alike is =
    named (wanted requested made.main) alike is
  where
    named : (names : List (List ℕ)) → AreMadeAlike files other made names
        → named_plan files made query names ≡ Ok nodes → named_plan other made query names ≡ Ok nodes
    named [] its plan = plan
    named (name ∷ more) its plan = by (closed files made.graph (seeking_of made) (name ∷ more)) refl plan
      where
        by : (walk_of : Walk) → closed files made.graph (seeking_of made) (name ∷ more) ≡ walk_of
            → (as_plan walk_of >>= λ s. plan_of query (name ∷ more) s) ≡ Ok nodes
            → (as_plan (closed other made.graph (seeking_of made) (name ∷ more))
            >>= λ s. plan_of query (name ∷ more) s) ≡ Ok nodes
        by (Ok s) here made_of =
            ap (λ (it : Walk). as_plan it >>= λ one. plan_of query (name ∷ more) one)
            (closed-alike files other made (name ∷ more) s its here) ∙ made_of
        by (Err fault) here made_of = absurd cc
