-- What a closure meets is what is needed.
use Rattle.std.proofs.Common.{◌≡◌, ◌≢◌, ◌∙◌, ◌⊎◌, ◌↔◌, ℕ, zero, suc, ◌+◌, ◌-◌, ◌<◌, ◌≤◌, ◌==◌, nat_eq, nat_lt, nat_le, Bool, true, false, ◌||◌, ◌&&◌, not, cond, List, [], ◌∷◌, ◌++◌, length, get_or, set, map, filter, position, replicate, Option, Some, None, Result, Ok, Err, IsTrue, if◌then◌else◌}
use Rattle.std.proofs.Common.{inl, inr, refl, sym, ap, subst, arith, append_assoc, length-append, length-set, lt-ltb, ltb-true, ltb-false, le-ltb, eqb-true, eq-eqb}
use Rattle.std.proofs.lemmas.Bool.{cond_both, cases_eq, cases_lt, or_cases, or_left, or_right, false≢true}
use Rattle.std.proofs.lemmas.List.{append-nil, get_or-set_same, get_or-set_other, length-replicate, length-map, get_or_append_left, get_or-map, get_or_default}
use Rattle.std.proofs.Math.Seq.{get_or-append_seam}
use Rattle.std.proofs.lemmas.List.Folds.{list_any-append}
use Rattle.std.proofs.lemmas.List.Quantifiers.{position-Some}
use Rattle.std.proofs.lemmas.List.Sums.{fails_before_first, position_or_len_is}
use Rattle.std.proofs.lemmas.Slice.Eq.{bytes_eq-Decides}
use Rattle.std.specs.List.{position_or_len, find, flat_map, Contains}
use Rattle.std.specs.Option.{option_map}
use Rattle.std.specs.Str.{bytes_eq}
use Rattle.mk_bytes.specs.Agrees.{◌>>=◌}
use Rattle.mk_closure.proofs.NamedLemmas.{both_ok, none-passes, number-none, part-pushed, get-front, neither, or-right-false, part-below, none-met}
use Rattle.mk_closure.proofs.PartLemmas.{met_count-same, met_count-more, met_count-push, met_count-le}
use Rattle.mk_closure.specs.ClosureLaws.{IsNeeded, by_name, as_source, ClosuresAreNeeded}
use Rattle.mk_closure.specs.Deciding.{Walk, linked_to, linked, placed, missing, decided, has_default, is_optional}
use Rattle.mk_closure.specs.Means.{means_of, means_by, chain_for, has_commands, is_phony}
use Rattle.mk_closure.specs.Members.{sources_in, sources_by}
use Rattle.mk_closure.specs.Names.{or_behind, number_in, name_in, numbered_as, numbered, is_frame}
use Rattle.mk_closure.specs.Parts.{State, open_part, first_state, part_at, is_open, is_open_way, with_part, with_way, with_met, with_name, met_count}
use Rattle.mk_closure.specs.Walks.{Enter, entered, is_over, passed, walked, walk, wanted_met, all_met, closed}
use Rattle.mk_closure.specs.declared.fault.CloseFault.{CloseFault}
use Rattle.mk_closure.specs.declared.fault.CloseFault.TheVariants.{Full, NoRule}
use Rattle.mk_closure.specs.declared.means.Means.{Means}
use Rattle.mk_closure.specs.declared.means.Means.TheVariants as mean
use Rattle.mk_closure.specs.declared.part.Part.{Part}
use Rattle.mk_closure.specs.declared.part.Way.{Way}
use Rattle.mk_closure.specs.declared.part.Way.TheVariants.{Open, Own, Rule, Placed, Default, Dropped}
use Rattle.mk_graph.specs.Nodes.{Node, IsGraph, AreLinked, names_of, node_at, number_of, new_node}
use Rattle.mk_graph.specs.Numbers.{AreBelow}
use Rattle.mk_graph.specs.Walks.{is_among}
use Rattle.mk_pool.specs.Pool.{is_held}
use Rattle.mk_pool.specs.declared.pool.TheConstants.{MAX_NAMES}
use Rattle.mk_suffix.specs.Chains.{Suffixes, extended, all_extended, chains_to, rules_of, chain_of, with_source, placed_chain, first_found, choice_at, choice, may_precede, first_of}
use Rattle.mk_suffix.specs.Found.{Seeking, is_there, place_of}
use Rattle.mk_suffix.specs.Names.{suffix_of, without_end}
use Rattle.mk_suffix.specs.declared.chain.Chain.{Chain}
use Rattle.mk_world.specs.Deeds.{Store}

-- a chosen chain has a rule

abbrev AreLong : List Suffixes → Type 0
AreLong [] = Unit {0}
AreLong (chain ∷ more) = (2 ≤ length chain) × AreLong more

abbrev AreSome : List Suffixes → Type 0
AreSome [] = Unit {0}
AreSome (chain ∷ more) = (1 ≤ length chain) × AreSome more

long-append : (a b : List Suffixes) → AreLong a → AreLong b → AreLong (a ++ b)
long-append [] b first second = second
long-append (chain ∷ a) b first second = (first.0, long-append a b first.1 second)

long-some : (chains : List Suffixes) → AreLong chains → AreSome chains
long-some [] long = tt
long-some (chain ∷ more) long = (omega (arith, long.0), long-some more long.1)

long-extended : (test : List ℕ → Bool) (chain : Suffixes) (known : List (List ℕ)) → 1 ≤ length chain
    → AreLong (map (λ suffix. suffix ∷ chain) (filter test known))
long-extended test chain [] some = tt
long-extended test chain (suffix ∷ known) some =
    cond_both (test suffix) (suffix ∷ filter test known) (filter test known)
    (λ l. AreLong (map (λ one. one ∷ chain) l))
    (λ _. (omega (arith, some), long-extended test chain known some))
    (λ _. long-extended test chain known some)

long-flat : (nodes : List Node) (known : List (List ℕ)) (chains : List Suffixes) → AreSome chains
    → AreLong (flat_map (extended nodes known) chains)
long-flat nodes known [] some = tt
long-flat nodes known (chain ∷ chains) some =
    long-append (extended nodes known chain) (flat_map (extended nodes known) chains)
    (long-extended (may_precede nodes known chain) chain known some.0) (long-flat nodes known chains some.1)

long-all : (room : ℕ) (nodes : List Node) (known : List (List ℕ)) (chains : List Suffixes)
    → AreSome chains → AreLong (all_extended room nodes known chains)
unfolding all_extended
long-all zero nodes known chains some = tt
long-all (suc room) nodes known chains some =
    let longer = flat_map (extended nodes known) chains in
    let long = long-flat nodes known chains some in
    long-append longer (all_extended room nodes known longer) long
    (long-all room nodes known longer (long-some longer long))

long-found : (test : Suffixes → Bool) (chains : List Suffixes) (chain : Suffixes) → AreLong chains
    → find test chains ≡ Some chain → 2 ≤ length chain
long-found test [] chain long is = cc
long-found test (one ∷ chains) chain long is =
    cond_both (test one) (Some one) (find test chains) (λ r. r ≡ Some chain → 2 ≤ length chain)
    (λ _ given. let same : one ≡ chain = cc in subst (λ c. 2 ≤ length c) same long.0)
    (λ _ given. long-found test chains chain long.1 given) is

some-rules : (nodes : List Node) (chain : Suffixes) → 2 ≤ length chain → 0 < length (rules_of nodes chain)
some-rules nodes [] long = absurd (omega (arith, long))
some-rules nodes (from ∷ []) long = absurd (omega (arith, long))
some-rules nodes (from ∷ to ∷ more) long = omega arith

placed-rules : (source : Option (List ℕ)) (chain : Chain) → 0 < length chain.rules
    → 0 < length (with_source source chain).rules
placed-rules None chain some = some
placed-rules (Some source) chain some = some

chosen-rules : (place : List ℕ → Option (List ℕ)) (nodes : List Node) (base : List ℕ)
    (found : Option Suffixes) (chain : Chain)
    → ((one : Suffixes) → found ≡ Some one → 2 ≤ length one)
    → option_map (placed_chain place nodes base) found ≡ Some chain → 0 < length chain.rules
chosen-rules place nodes base None chain long is = cc
chosen-rules place nodes base (Some one) chain long is =
    let same : placed_chain place nodes base one ≡ chain = cc in
    subst (λ (c : Chain). 0 < length c.rules) same
    (placed-rules (place (base ++ first_of one)) (chain_of nodes base one)
    (some-rules nodes one (long one refl)))

choice-at-rules : (place : List ℕ → Option (List ℕ)) (nodes : List Node) (known : List (List ℕ)) (name : List ℕ)
    (own : Option (List ℕ)) (chain : Chain) → choice_at place nodes known name own ≡ Some chain
    → 0 < length chain.rules
choice-at-rules place nodes known name None chain is = cc
choice-at-rules place nodes known name (Some own) chain is =
    let base = without_end name own in
    chosen-rules place nodes base (first_found (is_there place) nodes known base own) chain
    (λ one found_is. long-found (λ c. is_there place (base ++ first_of c)) (chains_to nodes known own) one
    (long-all (length known) nodes known ((own ∷ []) ∷ []) (omega arith, tt)) found_is) is

choice-rules : (files : Store) (nodes : List Node) (seeking : Seeking) (name : List ℕ)
    (chain : Chain) → choice files nodes seeking name ≡ Some chain → 0 < length chain.rules
choice-rules files nodes seeking name chain is =
    choice-at-rules (place_of files nodes seeking) nodes seeking.suffixes name
    (suffix_of seeking.suffixes name) chain is

-- what a node is made with has a rule, where it is a chain
HasRule : Means → Type 0
HasRule mean.Own = Unit {0}
HasRule (mean.Chained chain) = 0 < length chain.rules
HasRule (mean.Placed place) = Unit {0}
HasRule mean.Missing = Unit {0}

means-rule : (name : List ℕ) (place : Option (List ℕ)) (chain : Option Chain)
    → ((one : Chain) → chain ≡ Some one → 0 < length one.rules) → HasRule (means_by name place chain)
unfolding HasRule
means-rule name place (Some chain) has = has chain refl
means-rule name None None has = tt
means-rule name (Some place) None has =
    cond_both (bytes_eq place name) mean.Own (mean.Placed place) HasRule (λ _. tt) (λ _. tt)

means_of-rule : (files : Store) (nodes : List Node) (seeking : Seeking) (name : List ℕ) (n : ℕ)
    → HasRule (means_of files nodes seeking name n)
unfolding HasRule
means_of-rule files nodes seeking name n =
    let chain = chain_for files nodes seeking name n in
    let place = place_of files nodes seeking name in
    cond_both (has_commands nodes n) mean.Own (means_by name place chain) HasRule
    (λ _. tt)
    (λ _. means-rule name place chain
    (λ one is. cond_both (is_phony nodes n) None (choice files nodes seeking name)
    (λ r. r ≡ Some one → 0 < length one.rules) (λ _ given. cc)
    (λ _ given. choice-rules files nodes seeking name one given) is))

-- a state behind another: what was there, was decided and was met stays so

record IsLonger (old new : State) : Type 0 where
  nodes : new.nodes ≡ old.nodes
  more : List (List ℕ)
  added : new.added ≡ old.added ++ more
  long : length old.parts ≤ length new.parts
  kept : (n : ℕ) → is_open old n ≡ false → (part_at new n).way ≡ (part_at old n).way
  met : (n : ℕ) → (part_at old n).met ≡ true → (part_at new n).met ≡ true

longer-none : (s : State) → IsLonger s s
longer-none s = record {
  nodes = refl;
  more = [];
  added = sym (append-nil s.added);
  long = omega arith;
  kept = λ n closed_already. refl;
  met = λ n met. met;
}

longer-then : (a b c : State) → IsLonger a b → IsLonger b c → IsLonger a c
longer-then a b c first second = record {
  nodes = second.nodes ∙ first.nodes;
  more = first.more ++ second.more;
  added = second.added ∙ (ap (λ l. l ++ second.more) first.added
      ∙ append_assoc a.added first.more second.more);
  long = let one = first.long in let other = second.long in omega (arith, one, other);
  kept = λ n shut.
      let here = first.kept n shut in
      second.kept n (ap is_open_way here ∙ shut) ∙ here;
  met = λ n met. second.met n (first.met n met);
}

-- the number of a name and the name of a number stay

position-front : (name : List ℕ) (first second : List (List ℕ)) (k : ℕ)
    → position (bytes_eq name) first ≡ Some k → position (bytes_eq name) (first ++ second) ≡ Some k
position-front name first second k is =
    let at = position-Some (bytes_eq name) first k [] is in
    let longer = length-append first second in
    let place = position_or_len_is (bytes_eq name) (first ++ second) k [] (omega (arith, at.0, longer))
    (λ j less. ap (bytes_eq name) (get_or_append_left first second [] j (omega (arith, less, at.0)))
    ∙ at.2 j less)
    (λ _. ap (bytes_eq name) (get_or_append_left first second [] k at.0) ∙ at.1) in
    let inside : nat_lt k (length (first ++ second)) ≡ true =
    lt-ltb k (length (first ++ second)) (omega (arith, at.0, longer)) in
    rw (place, inside) refl

behind-front : (count : ℕ) (own : Option ℕ) (name : List ℕ) (first second : List (List ℕ)) (n : ℕ)
    → or_behind count own (position (bytes_eq name) first) ≡ Some n
    → or_behind count own (position (bytes_eq name) (first ++ second)) ≡ Some n
behind-front count (Some k) name first second n is = is
behind-front count None name first second n is = at (position (bytes_eq name) first) refl is
  where
    at : (place : Option ℕ) → position (bytes_eq name) first ≡ place
        → or_behind count None place ≡ Some n
        → or_behind count None (position (bytes_eq name) (first ++ second)) ≡ Some n
    at None place given = cc
    at (Some k) place given = rw (position-front name first second k place) given

number-stays : (s later : State) (name : List ℕ) (n : ℕ) → IsLonger s later
    → number_in s name ≡ Some n → number_in later name ≡ Some n
number-stays s later name n longer is =
    subst (λ added. or_behind (length later.nodes) (number_of later.nodes name)
    (position (bytes_eq name) added) ≡ Some n) (sym longer.added)
    (subst (λ nodes. or_behind (length nodes) (number_of nodes name)
    (position (bytes_eq name) (s.added ++ longer.more)) ≡ Some n) (sym longer.nodes)
    (behind-front (length s.nodes) (number_of s.nodes name) name s.added longer.more n is))

name-by : (nodes : List Node) (first second : List (List ℕ)) (n : ℕ)
    → n < length nodes + length first
    → (if nat_lt n (length nodes) then (node_at nodes n).name
    else get_or (first ++ second) (n - length nodes) [])
    ≡ (if nat_lt n (length nodes) then (node_at nodes n).name
    else get_or first (n - length nodes) [])
name-by nodes first second n less = at (nat_lt n (length nodes)) refl
  where
    at : (b : Bool) → nat_lt n (length nodes) ≡ b
        → (if b then (node_at nodes n).name else get_or (first ++ second) (n - length nodes) [])
        ≡ (if b then (node_at nodes n).name else get_or first (n - length nodes) [])
    at true is = refl
    at false is =
        let past = ltb-false n (length nodes) is in
        get-front first second (n - length nodes) (omega (arith, past, less))

name-stays : (s later : State) (n : ℕ) → IsLonger s later
    → n < length s.nodes + length s.added → name_in later n ≡ name_in s n
name-stays s later n longer less =
    ap (λ added. if nat_lt n (length later.nodes) then (node_at later.nodes n).name
    else get_or added (n - length later.nodes) []) longer.added
    ∙ (ap (λ nodes. if nat_lt n (length nodes) then (node_at nodes n).name
    else get_or (s.added ++ longer.more) (n - length nodes) []) longer.nodes
    ∙ name-by s.nodes s.added longer.more n less)

-- and so do the sources of what is decided
sources-stay : (s later : State) (n : ℕ) → IsLonger s later → is_open s n ≡ false
    → sources_in later n ≡ sources_in s n
sources-stay s later n longer shut =
    ap (λ nodes. sources_by (node_at nodes n).sources (part_at later n).way) longer.nodes
    ∙ ap (sources_by (node_at s.nodes n).sources) (longer.kept n shut)

-- What stands of a state while this node is decided.
abbrev WayBelow : ℕ → Way → Type 0
WayBelow bound Open = Unit {0}
WayBelow bound Own = Unit {0}
WayBelow bound (Rule rule source) = source < bound
WayBelow bound (Placed place) = place < bound
WayBelow bound Default = Unit {0}
WayBelow bound Dropped = Unit {0}

record IsSound (nodes : List Node) (but : ℕ → Type 0) (s : State) : Type 0 where
  graph : s.nodes ≡ nodes
  as_many : length s.parts ≡ length s.nodes + length s.added
  limit : length s.parts ≤ MAX_NAMES
  decided_met : (n : ℕ) → (but n → ⊥) → (part_at s n).met ≡ true → is_open s n ≡ false
  ways : (n : ℕ) → WayBelow (length s.parts) (part_at s n).way

way-more : (bound larger : ℕ) (way : Way) → bound ≤ larger → WayBelow bound way → WayBelow larger way
way-more bound larger Open le below = tt
way-more bound larger Own le below = tt
way-more bound larger (Rule rule source) le below = omega (arith, le, below)
way-more bound larger (Placed place) le below = omega (arith, le, below)
way-more bound larger Default le below = tt
way-more bound larger Dropped le below = tt

-- a name that is added has an open part, as what is not there has
part-same : (parts : List Part) (n : ℕ)
    → get_or (parts ++ open_part ∷ []) n open_part ≡ get_or parts n open_part
part-same [] zero = refl
part-same [] (suc n) = refl
part-same (part ∷ parts) zero = refl
part-same (part ∷ parts) (suc n) = part-same parts n

-- one part is set
part-cases : (parts : List Part) (n m : ℕ) (part : Part)
    → (get_or (set parts n part) m open_part ≡ get_or parts m open_part)
    ⊎ ((m ≡ n) × (get_or (set parts n part) m open_part ≡ part))
part-cases [] n m part = inl refl
part-cases (one ∷ parts) zero zero part = inr (refl, refl)
part-cases (one ∷ parts) zero (suc m) part = inl refl
part-cases (one ∷ parts) (suc n) zero part = inl refl
part-cases (one ∷ parts) (suc n) (suc m) part = elim (part-cases parts n m part) [
  | inl same ↦ inl same
  | inr now ↦ inr (ap suc now.0, now.1)
]

part-here : (parts : List Part) (n : ℕ) (part : Part) → n < length parts
    → get_or (set parts n part) n open_part ≡ part
part-here parts n part less = get_or-set_same parts n part open_part less

-- numbers of names

name-there : (s : State) (name : List ℕ) (n : ℕ) → number_in s name ≡ Some n
    → (n < length s.nodes + length s.added) × (name_in s n ≡ name)
name-there s name n is = by-own (number_of s.nodes name) refl is
  where
    long : length (names_of s.nodes) ≡ length s.nodes
    long = length-map s.nodes (λ (node : Node). node.name)

    by-own : (own : Option ℕ) → number_of s.nodes name ≡ own
        → or_behind (length s.nodes) own (position (bytes_eq name) s.added) ≡ Some n
        → (n < length s.nodes + length s.added) × (name_in s n ≡ name)
    by-own (Some k) own given =
        let same : k ≡ n = cc in
        let at = position-Some (bytes_eq name) (names_of s.nodes) k [] own in
        let inside : k < length s.nodes = omega (arith, at.0, long) in
        let here : (node_at s.nodes k).name ≡ name =
        sym (get_or-map (λ (node : Node). node.name) s.nodes k (new_node []) [] inside)
        ∙ sym ((bytes_eq-Decides name (get_or (names_of s.nodes) k [])).0 at.1) in
        let test : nat_lt k (length s.nodes) ≡ true = lt-ltb k (length s.nodes) inside in
        subst (λ m. (m < length s.nodes + length s.added) × (name_in s m ≡ name)) same
        (omega (arith, inside), rw test here)
    by-own None own given = by-place (position (bytes_eq name) s.added) refl given
      where
        by-place : (place : Option ℕ) → position (bytes_eq name) s.added ≡ place
            → or_behind (length s.nodes) None place ≡ Some n
            → (n < length s.nodes + length s.added) × (name_in s n ≡ name)
        by-place None place got = cc
        by-place (Some k) place got =
            let same : length s.nodes + k ≡ n = cc in
            let at = position-Some (bytes_eq name) s.added k [] place in
            let test : nat_lt (length s.nodes + k) (length s.nodes) ≡ false =
            le-ltb (length s.nodes + k) (length s.nodes) (omega arith) in
            let back : length s.nodes + k - length s.nodes ≡ k = omega arith in
            let here : get_or s.added k [] ≡ name =
            sym ((bytes_eq-Decides name (get_or s.added k [])).0 at.1) in
            subst (λ m. (m < length s.nodes + length s.added) × (name_in s m ≡ name)) same
            (omega (arith, at.0), rw (test, back) here)

none-before : (name : List ℕ) (names : List (List ℕ)) → position (bytes_eq name) names ≡ None
    → (k : ℕ) → k < length names → bytes_eq name (get_or names k []) ≡ false
none-before name names is k less =
    let first = position_or_len (bytes_eq name) names in
    let past = ltb-false first (length names) (none-at (nat_lt first (length names)) first is) in
    fails_before_first (bytes_eq name) names k [] (omega (arith, past, less))
  where
    none-at : (b : Bool) (place : ℕ) → cond b (Some place) None ≡ None → b ≡ false
    none-at true place given = cc
    none-at false place given = refl

position-last : (name : List ℕ) (names : List (List ℕ)) → position (bytes_eq name) names ≡ None
    → position (bytes_eq name) (names ++ name ∷ []) ≡ Some (length names)
position-last name names none =
    let longer = length-append names (name ∷ []) in
    let place = position_or_len_is (bytes_eq name) (names ++ name ∷ []) (length names) []
    (omega (arith, longer))
    (λ j less. ap (bytes_eq name) (get_or_append_left names (name ∷ []) [] j less)
    ∙ none-before name names none j less)
    (λ _. ap (bytes_eq name) (get_or-append_seam names name [] [])
    ∙ (bytes_eq-Decides name name).1 refl) in
    let inside : nat_lt (length names) (length (names ++ name ∷ [])) ≡ true =
    lt-ltb (length names) (length (names ++ name ∷ [])) (omega (arith, longer)) in
    rw (place, inside) refl

number-added : (s : State) (name : List ℕ) → number_in s name ≡ None
    → number_in (with_name s name) name ≡ Some (length s.nodes + length s.added)
number-added s name none =
    let parts = number-none (length s.nodes) (number_of s.nodes name) (position (bytes_eq name) s.added)
    none in
    rw (parts.0, position-last name s.added parts.1) refl

-- steps that meet nothing

record IsStep (nodes : List Node) (but : ℕ → Type 0) (old new : State) : Type 0 where
  longer : IsLonger old new
  sound : IsSound nodes but new
  back : (n : ℕ) → (part_at new n).met ≡ true → (part_at old n).met ≡ true
  count : met_count new.parts ≡ met_count old.parts

step-none : (nodes : List Node) (but : ℕ → Type 0) (s : State) → IsSound nodes but s
    → IsStep nodes but s s
step-none nodes but s sound =
    record { longer = longer-none s; sound = sound; back = λ n met. met; count = refl }

step-then : (nodes : List Node) (but : ℕ → Type 0) (a b c : State) → IsStep nodes but a b
    → IsStep nodes but b c → IsStep nodes but a c
step-then nodes but a b c first second = record {
  longer = longer-then a b c first.longer second.longer;
  sound = second.sound;
  back = λ n met. first.back n (second.back n met);
  count = second.count ∙ first.count;
}

-- a name gets its number
record IsNumbered (nodes : List Node) (but : ℕ → Type 0) (s : State) (name : List ℕ)
    (found : State × ℕ) : Type 0 where
  step : IsStep nodes but s found.0
  number : number_in found.0 name ≡ Some found.1
  within : found.1 < length found.0.parts
  same : (n : ℕ) → part_at found.0 n ≡ part_at s n

numbered-old : (nodes : List Node) (but : ℕ → Type 0) (s : State) (name : List ℕ) (n : ℕ)
    → number_in s name ≡ Some n → IsSound nodes but s → IsNumbered nodes but s name (s, n)
numbered-old nodes but s name n is sound = record {
  step = step-none nodes but s sound;
  number = is;
  within = let less = (name-there s name n is).0 in let many = sound.as_many in omega (arith, less, many);
  same = λ m. refl;
}

longer-name : (s : State) (name : List ℕ) → IsLonger s (with_name s name)
longer-name s name = record {
  nodes = refl;
  more = name ∷ [];
  added = refl;
  long = let longer = length-append s.parts (open_part ∷ []) in omega (arith, longer);
  kept = λ n shut. ap (λ (p : Part). p.way) (part-same s.parts n);
  met = λ n met. ap (λ (p : Part). p.met) (part-same s.parts n) ∙ met;
}

numbered-new : (nodes : List Node) (but : ℕ → Type 0) (s : State) (name : List ℕ)
    → number_in s name ≡ None → length s.parts < MAX_NAMES → IsSound nodes but s
    → IsNumbered nodes but s name (with_name s name, length s.parts)
numbered-new nodes but s name none room sound =
    let longer = length-append s.parts (open_part ∷ []) in
    let more = length-append s.added (name ∷ []) in
    let many = sound.as_many in
    record {
      step = record {
        longer = longer-name s name;
        sound = record {
          graph = sound.graph;
          as_many = omega (arith, longer, more, many);
          limit = omega (arith, longer, room);
          decided_met = λ n other met.
              ap (λ (p : Part). is_open_way p.way) (part-same s.parts n)
              ∙ sound.decided_met n other (sym (ap (λ (p : Part). p.met) (part-same s.parts n)) ∙ met);
          ways = λ n.
              subst (λ (p : Part). WayBelow (length (s.parts ++ open_part ∷ [])) p.way)
              (sym (part-same s.parts n))
              (way-more (length s.parts) (length (s.parts ++ open_part ∷ [])) (part_at s n).way
              (omega (arith, longer)) (sound.ways n));
        };
        back = λ n met. sym (ap (λ (p : Part). p.met) (part-same s.parts n)) ∙ met;
        count = met_count-push s.parts;
      };
      number = number-added s name none ∙ ap (λ k. Some k) (sym many);
      within = omega (arith, longer);
      same = λ n. part-same s.parts n;
    }

numbered-is : (nodes : List Node) (but : ℕ → Type 0) (s : State) (name : List ℕ) (found : State × ℕ)
    → numbered s name ≡ Ok found → IsSound nodes but s → IsNumbered nodes but s name found
numbered-is nodes but s name found is sound = at (number_in s name) refl is
  where
    room-left : (length s.parts == MAX_NAMES) ≡ false → length s.parts < MAX_NAMES
    room-left not_full = elim (cases_lt (length s.parts) MAX_NAMES) [
      | inl less ↦ less
      | inr past ↦
          let limit = sound.limit in
          let same : length s.parts ≡ MAX_NAMES = omega (arith, limit, past) in
          absurd (false≢true (sym not_full ∙ eq-eqb (length s.parts) MAX_NAMES same))
    ]

    at : (number : Option ℕ) → number_in s name ≡ number → numbered_as s name number ≡ Ok found
        → IsNumbered nodes but s name found
    at (Some n) number given =
        let same : (s, n) ≡ found = cc in
        subst (IsNumbered nodes but s name) same (numbered-old nodes but s name n number sound)
    at None number given =
        cond_both (length s.parts == MAX_NAMES) (Err Full) (Ok (with_name s name, length s.parts))
        (λ (r : Result (State × ℕ) CloseFault). r ≡ Ok found → IsNumbered nodes but s name found)
        (λ full got. cc)
        (λ not_full got.
        let same : (with_name s name, length s.parts) ≡ found = cc in
        subst (IsNumbered nodes but s name) same
        (numbered-new nodes but s name number (room-left not_full) sound)) given

-- a node that is open gets its way
way-step : (nodes : List Node) (but : ℕ → Type 0) (s : State) (n : ℕ) (way : Way)
    → is_open s n ≡ true → is_open_way way ≡ false → n < length s.parts
    → WayBelow (length s.parts) way → IsSound nodes but s
    → IsStep nodes but s (with_way s n way) × (is_open (with_way s n way) n ≡ false)
way-step nodes but s n way opened shut less below sound =
    let part : Part = record { way = way; met = (part_at s n).met } in (
      record {
        longer = record {
          nodes = refl;
          more = [];
          added = sym (append-nil s.added);
          long = let same = length-set s.parts n part in omega (arith, same);
          kept = λ m before. elim (part-cases s.parts n m part) [
            | inl same ↦ ap (λ (p : Part). p.way) same
            | inr now ↦
                absurd (false≢true (sym (subst (λ k. is_open s k ≡ false) now.0 before) ∙ opened))
          ];
          met = λ m met. elim (part-cases s.parts n m part) [
            | inl same ↦ ap (λ (p : Part). p.met) same ∙ met
            | inr now ↦
                ap (λ (p : Part). p.met) now.1 ∙ subst (λ k. (part_at s k).met ≡ true) now.0 met
          ];
        };
        sound = record {
          graph = sound.graph;
          as_many = length-set s.parts n part ∙ sound.as_many;
          limit = let same = length-set s.parts n part in let most = sound.limit in omega (arith, same, most);
          decided_met = λ m other met. elim (part-cases s.parts n m part) [
            | inl same ↦
                ap (λ (p : Part). is_open_way p.way) same
                ∙ sound.decided_met m other (sym (ap (λ (p : Part). p.met) same) ∙ met)
            | inr now ↦ ap (λ (p : Part). is_open_way p.way) now.1 ∙ shut
          ];
          ways = λ m. subst (λ k. WayBelow k (get_or (set s.parts n part) m open_part).way)
              (sym (length-set s.parts n part)) (elim (part-cases s.parts n m part) [
                | inl same ↦
                    subst (λ (p : Part). WayBelow (length s.parts) p.way) (sym same) (sound.ways m)
                | inr now ↦ subst (λ (p : Part). WayBelow (length s.parts) p.way) (sym now.1) below
              ]);
        };
        back = λ m met. elim (part-cases s.parts n m part) [
          | inl same ↦ sym (ap (λ (p : Part). p.met) same) ∙ met
          | inr now ↦
              subst (λ k. (part_at s k).met ≡ true) (sym now.0)
              (sym (ap (λ (p : Part). p.met) now.1) ∙ met)
        ];
        count = met_count-same s.parts n part refl less;
      },
      ap (λ (p : Part). is_open_way p.way) (part-here s.parts n part less) ∙ shut,
    )

linked_to-step : (nodes : List Node) (but : ℕ → Type 0) (s : State) (n rule : ℕ) (source : List ℕ)
    (found : State × ℕ) → linked_to s n rule source ≡ Ok found → is_open s n ≡ true
    → n < length s.parts → IsSound nodes but s
    → IsStep nodes but s found.0 × (is_open found.0 n ≡ false) × (found.1 < length found.0.parts)
linked_to-step nodes but s n rule source found is opened less sound =
    both_ok (numbered s source) (λ one. Ok (with_way one.0 n (Rule rule one.1), one.1)) found
    (IsStep nodes but s found.0 × (is_open found.0 n ≡ false) × (found.1 < length found.0.parts)) is
    (λ one here rest.
    let same : (with_way one.0 n (Rule rule one.1), one.1) ≡ found = cc in
    let number = numbered-is nodes but s source one here sound in
    let long = number.step.longer.long in
    let still : is_open one.0 n ≡ true = ap (λ (p : Part). is_open_way p.way) (number.same n) ∙ opened in
    let way = way-step nodes but one.0 n (Rule rule one.1) still refl (omega (arith, less, long))
    number.within number.step.sound in
    let part : Part = record { way = Rule rule one.1; met = (part_at one.0 n).met } in
    let within : one.1 < length (set one.0.parts n part) =
    let l = length-set one.0.parts n part in let w = number.within in omega (arith, l, w) in
    subst (λ (f : State × ℕ). IsStep nodes but s f.0 × (is_open f.0 n ≡ false)
    × (f.1 < length f.0.parts)) same
    (step-then nodes but s one.0 (with_way one.0 n (Rule rule one.1)) number.step way.0, way.1, within))

-- what is shut stays shut
shut-stays : (s later : State) (n : ℕ) → IsLonger s later → is_open s n ≡ false → is_open later n ≡ false
shut-stays s later n longer shut = ap is_open_way (longer.kept n shut) ∙ shut

linked-step : (nodes : List Node) (but : ℕ → Type 0) (s : State) (n : ℕ) (chain : Chain) (links : ℕ)
    (later : State) → linked s n chain links ≡ Ok later → n < length s.parts → IsSound nodes but s
    → IsStep nodes but s later × (0 < links → is_open later n ≡ false)
unfolding linked
linked-step nodes but s n chain zero later is less sound =
    let same : s ≡ later = cc in
    (subst (IsStep nodes but s) same (step-none nodes but s sound), λ some. absurd (omega (arith, some)))
linked-step nodes but s n chain (suc links) later is less sound =
    let first = linked_to s n (get_or chain.rules links 0) (get_or chain.names links []) in
    let Goal = IsStep nodes but s later × (0 < suc links → is_open later n ≡ false) in
    cond_both (is_open s n) (first >>= λ found. linked found.0 found.1 chain links) (Ok s)
    (λ (r : Walk). r ≡ Ok later → Goal)
    (λ opened given. both_ok first (λ found. linked found.0 found.1 chain links) later Goal given
    (λ found here rest.
    let one = linked_to-step nodes but s n (get_or chain.rules links 0) (get_or chain.names links [])
    found here opened less sound in
    let more = linked-step nodes but found.0 found.1 chain links later rest one.2 one.0.sound in (
      step-then nodes but s found.0 later one.0 more.0,
      λ some. shut-stays found.0 later n more.0.longer one.1,
    )))
    (λ shut given.
    let same : s ≡ later = cc in (
      subst (IsStep nodes but s) same (step-none nodes but s sound),
      λ some. subst (λ one. is_open one n ≡ false) same shut,
    )) is

placed-step : (nodes : List Node) (but : ℕ → Type 0) (s : State) (n : ℕ) (place : List ℕ)
    (later : State) → placed s n place ≡ Ok later → is_open s n ≡ true → n < length s.parts
    → IsSound nodes but s → IsStep nodes but s later × (is_open later n ≡ false)
placed-step nodes but s n place later is opened less sound =
    both_ok (numbered s place) (λ one. Ok (with_way one.0 n (Placed one.1))) later
    (IsStep nodes but s later × (is_open later n ≡ false)) is
    (λ one here rest.
    let same : with_way one.0 n (Placed one.1) ≡ later = cc in
    let number = numbered-is nodes but s place one here sound in
    let long = number.step.longer.long in
    let still : is_open one.0 n ≡ true = ap (λ (p : Part). is_open_way p.way) (number.same n) ∙ opened in
    let way = way-step nodes but one.0 n (Placed one.1) still refl (omega (arith, less, long))
    number.within number.step.sound in
    subst (λ x. IsStep nodes but s x × (is_open x n ≡ false)) same
    (step-then nodes but s one.0 (with_way one.0 n (Placed one.1)) number.step way.0, way.1))

decided-step : (nodes : List Node) (but : ℕ → Type 0) (s : State) (n : ℕ) (means : Means)
    (later : State) → decided s n means ≡ Ok later → HasRule means → is_open s n ≡ true
    → n < length s.parts → IsSound nodes but s
    → IsStep nodes but s later × (is_open later n ≡ false)
unfolding HasRule
decided-step nodes but s n mean.Own later is has opened less sound =
    let same : with_way s n Own ≡ later = cc in
    subst (λ one. IsStep nodes but s one × (is_open one n ≡ false)) same
    (way-step nodes but s n Own opened refl less tt sound)
decided-step nodes but s n (mean.Chained chain) later is has opened less sound =
    let step = linked-step nodes but s n chain (length chain.rules) later is less sound in
    (step.0, step.1 has)
decided-step nodes but s n (mean.Placed place) later is has opened less sound =
    placed-step nodes but s n place later is opened less sound
decided-step nodes but s n mean.Missing later is has opened less sound =
    let Goal = IsStep nodes but s later × (is_open later n ≡ false) in
    let other = if is_optional s.nodes n then Ok (with_way s n Dropped) else Err (NoRule (name_in s n)) in
    cond_both (has_default s.nodes) (Ok (with_way s n Default)) other (λ (r : Walk). r ≡ Ok later → Goal)
    (λ serves given.
    let same : with_way s n Default ≡ later = cc in
    subst (λ one. IsStep nodes but s one × (is_open one n ≡ false)) same
    (way-step nodes but s n Default opened refl less tt sound))
    (λ none given. cond_both (is_optional s.nodes n) (Ok (with_way s n Dropped))
    (Err (NoRule (name_in s n))) (λ (r : Walk). r ≡ Ok later → Goal)
    (λ drops got.
    let same : with_way s n Dropped ≡ later = cc in
    subst (λ one. IsStep nodes but s one × (is_open one n ≡ false)) same
    (way-step nodes but s n Dropped opened refl less tt sound))
    (λ needs got. cc) given) is

-- a node that is entered is met and decided, and nothing else is met

record IsEntered (nodes : List Node) (s later : State) (n : ℕ) : Type 0 where
  longer : IsLonger s later
  sound : IsSound nodes (λ m. ⊥) later
  here : (part_at later n).met ≡ true
  back : (m : ℕ) → (part_at later m).met ≡ true → ((part_at s m).met ≡ true) ⊎ (m ≡ n)
  count : met_count later.parts ≡ 1 + met_count s.parts

-- first it is met
record IsMetFirst (nodes : List Node) (s : State) (n : ℕ) : Type 0 where
  longer : IsLonger s (with_met s n)
  sound : IsSound nodes (λ m. m ≡ n) (with_met s n)
  here : part_at (with_met s n) n ≡ record { way = (part_at s n).way; met = true }
  back : (m : ℕ) → (part_at (with_met s n) m).met ≡ true → ((part_at s m).met ≡ true) ⊎ (m ≡ n)
  count : met_count (with_met s n).parts ≡ 1 + met_count s.parts

met-first : (nodes : List Node) (s : State) (n : ℕ) → n < length s.parts
    → (part_at s n).met ≡ false → IsSound nodes (λ m. ⊥) s → IsMetFirst nodes s n
met-first nodes s n less fresh sound =
    let part : Part = record { way = (part_at s n).way; met = true } in
    record {
      longer = record {
        nodes = refl;
        more = [];
        added = sym (append-nil s.added);
        long = let same = length-set s.parts n part in omega (arith, same);
        kept = λ m shut. elim (part-cases s.parts n m part) [
          | inl same ↦ ap (λ (p : Part). p.way) same
          | inr now ↦
              ap (λ (p : Part). p.way) now.1 ∙ ap (λ k. (part_at s k).way) (sym now.0)
        ];
        met = λ m met. elim (part-cases s.parts n m part) [
          | inl same ↦ ap (λ (p : Part). p.met) same ∙ met
          | inr now ↦ ap (λ (p : Part). p.met) now.1
        ];
      };
      sound = record {
        graph = sound.graph;
        as_many = length-set s.parts n part ∙ sound.as_many;
        limit = let same = length-set s.parts n part in let most = sound.limit in omega (arith, same, most);
        decided_met = λ m other met. elim (part-cases s.parts n m part) [
          | inl same ↦
              ap (λ (p : Part). is_open_way p.way) same
              ∙ sound.decided_met m (λ none. none) (sym (ap (λ (p : Part). p.met) same) ∙ met)
          | inr now ↦ absurd (other now.0)
        ];
        ways = λ m. subst (λ k. WayBelow k (get_or (set s.parts n part) m open_part).way)
            (sym (length-set s.parts n part)) (elim (part-cases s.parts n m part) [
              | inl same ↦
                  subst (λ (p : Part). WayBelow (length s.parts) p.way) (sym same) (sound.ways m)
              | inr now ↦
                  subst (λ (p : Part). WayBelow (length s.parts) p.way) (sym now.1) (sound.ways n)
            ]);
      };
      here = part-here s.parts n part less;
      back = λ m met. elim (part-cases s.parts n m part) [
        | inl same ↦ inl (sym (ap (λ (p : Part). p.met) same) ∙ met)
        | inr now ↦ inr now.0
      ];
      count = met_count-more s.parts n part refl fresh less;
    }

-- then it is decided
entered-by : (nodes : List Node) (s later : State) (n : ℕ) → IsMetFirst nodes s n
    → IsStep nodes (λ m. m ≡ n) (with_met s n) later → is_open later n ≡ false
    → IsEntered nodes s later n
entered-by nodes s later n first step shut = record {
  longer = longer-then s (with_met s n) later first.longer step.longer;
  sound = record {
    graph = step.sound.graph;
    as_many = step.sound.as_many;
    limit = step.sound.limit;
    decided_met = λ m none met. elim (cases_eq m n) [
      | inl same ↦ subst (λ k. is_open later k ≡ false) (sym same) shut
      | inr other ↦ step.sound.decided_met m other met
    ];
    ways = step.sound.ways;
  };
  here = step.longer.met n (ap (λ (p : Part). p.met) first.here);
  back = λ m met. first.back m (step.back m met);
  count = step.count ∙ first.count;
}

entered-is : (files : Store) (seeking : Seeking) (nodes : List Node) (s : State) (n : ℕ)
    (later : State) → entered files seeking s n ≡ Ok later → n < length s.parts
    → (part_at s n).met ≡ false → IsSound nodes (λ m. ⊥) s → IsEntered nodes s later n
entered-is files seeking nodes s n later is less fresh sound =
    let first = met-first nodes s n less fresh sound in
    let means = means_of files s.nodes seeking (name_in s n) n in
    let still : is_open (with_met s n) n ≡ is_open s n = ap (λ (p : Part). is_open_way p.way) first.here in
    cond_both (is_open s n) (decided (with_met s n) n means) (Ok (with_met s n))
    (λ (r : Walk). r ≡ Ok later → IsEntered nodes s later n)
    (λ opened given.
    let long = first.longer.long in
    let step = decided-step nodes (λ m. m ≡ n) (with_met s n) n means later given
    (means_of-rule files s.nodes seeking (name_in s n) n) (still ∙ opened) (omega (arith, less, long))
    first.sound in
    entered-by nodes s later n first step.0 step.1)
    (λ shut given.
    let same : with_met s n ≡ later = cc in
    subst (λ one. IsEntered nodes s one n) same
    (entered-by nodes s (with_met s n) n first
    (step-none nodes (λ m. m ≡ n) (with_met s n) first.sound) (still ∙ shut))) is

-- sources are numbers of nodes

below-among : (bound : ℕ) (numbers : List ℕ) (m : ℕ) → AreBelow bound numbers
    → is_among numbers m ≡ true → m < bound
below-among bound [] m below among = absurd (false≢true among)
below-among bound (one ∷ numbers) m below among =
    elim (or_cases (nat_eq m one) (is_among numbers m) among) [
      | inl same ↦ subst (λ k. k < bound) (sym (eqb-true m one same)) below.0
      | inr later ↦ below-among bound numbers m below.1 later
    ]

linked-sources : (bound : ℕ) (nodes : List Node) (n : ℕ) → AreLinked bound nodes
    → AreBelow bound (node_at nodes n).sources
linked-sources bound [] n linked = tt
linked-sources bound (node ∷ nodes) zero linked = linked.0
linked-sources bound (node ∷ nodes) (suc n) linked = linked-sources bound nodes n linked.2

way-sources : (bound : ℕ) (own : List ℕ) (way : Way) (m : ℕ) → AreBelow bound own → WayBelow bound way
    → is_among (sources_by own way) m ≡ true → m < bound
way-sources bound own Open m below way among = below-among bound own m below among
way-sources bound own Own m below way among = below-among bound own m below among
way-sources bound own (Rule rule source) m below way among =
    elim (or_cases (is_among own m) (is_among (source ∷ []) m)
    (sym (list_any-append (nat_eq m) own (source ∷ [])) ∙ among)) [
      | inl front ↦ below-among bound own m below front
      | inr last ↦ below-among bound (source ∷ []) m (way, tt) last
    ]
way-sources bound own (Placed place) m below way among = below-among bound (place ∷ []) m (way, tt) among
way-sources bound own Default m below way among = below-among bound own m below among
way-sources bound own Dropped m below way among = absurd (false≢true among)

below-more : (bound larger : ℕ) (numbers : List ℕ) → bound ≤ larger → AreBelow bound numbers
    → AreBelow larger numbers
below-more bound larger [] le below = tt
below-more bound larger (n ∷ numbers) le below =
    (omega (arith, le, below.0), below-more bound larger numbers le below.1)

sources-below : (nodes : List Node) (but : ℕ → Type 0) (s : State) (n m : ℕ) → IsGraph nodes
    → IsSound nodes but s → is_among (sources_in s n) m ≡ true → m < length s.parts
sources-below nodes but s n m graph sound among =
    let many = sound.as_many in
    let count : length s.nodes ≡ length nodes = ap length sound.graph in
    let own = subst (λ l. AreBelow (length nodes) (node_at l n).sources) (sym sound.graph)
    (linked-sources (length nodes) nodes n graph.linked) in
    way-sources (length s.parts) (node_at s.nodes n).sources (part_at s n).way m
    (below-more (length nodes) (length s.parts) (node_at s.nodes n).sources (omega (arith, many, count)) own)
    (sound.ways n) among

all-sources-below : (nodes : List Node) (but : ℕ → Type 0) (s : State) (n : ℕ) → IsGraph nodes
    → IsSound nodes but s → AreBelow (length s.parts) (sources_in s n)
all-sources-below nodes but s n graph sound =
    below-each (length s.parts) (sources_in s n)
    (λ m among. sources-below nodes but s n m graph sound among)
  where
    below-each : (bound : ℕ) (numbers : List ℕ) → ((m : ℕ) → is_among numbers m ≡ true → m < bound)
        → AreBelow bound numbers
    below-each bound [] each = tt
    below-each bound (one ∷ numbers) each = (
      each one (or_left (nat_eq one one) (is_among numbers one) (eq-eqb one one refl)),
      below-each bound numbers
          (λ m among. each m (or_right (nat_eq m one) (is_among numbers m) among)),
    )

below-append : (bound : ℕ) (a b : List ℕ) → AreBelow bound a → AreBelow bound b → AreBelow bound (a ++ b)
below-append bound [] b first second = second
below-append bound (n ∷ a) b first second = (first.0, below-append bound a b first.1 second)

-- a walk

-- a node is met, or stands around the build
abbrev Over : State → ℕ → Type 0
Over s m = ((part_at s m).met ≡ true) ⊎ (is_frame (name_in s m) ≡ true)

over-stays : (s later : State) (m : ℕ) → IsLonger s later → m < length s.nodes + length s.added
    → Over s m → Over later m
over-stays s later m longer less (inl met) = inl (longer.met m met)
over-stays s later m longer less (inr frame) = inr (ap is_frame (name-stays s later m longer less) ∙ frame)

-- the sources of what is met are over, but for these, which are still to be gone to
abbrev AreClosed : State → List ℕ → Type 0
AreClosed s pending =
    (n m : ℕ) → (part_at s n).met ≡ true → is_among (sources_in s n) m ≡ true
    → Over s m ⊎ (is_among pending m ≡ true)

record IsWalked (nodes : List Node) (wanted : List (List ℕ)) (s last : State) (pending : List ℕ)
    : Type 0 where
  longer : IsLonger s last
  sound : IsSound nodes (λ m. ⊥) last
  over : (m : ℕ) → is_among pending m ≡ true → Over last m
  closes : AreClosed s pending → AreClosed last []
  needed : (end : State) → IsLonger last end
      → ((m : ℕ) → is_among pending m ≡ true → is_frame (name_in end m) ≡ false
      → IsNeeded end wanted m) → ((n : ℕ) → (part_at s n).met ≡ true → IsNeeded end wanted n)
      → (n : ℕ) → (part_at last n).met ≡ true → IsNeeded end wanted n

walked-none : (nodes : List Node) (wanted : List (List ℕ)) (s : State) → IsSound nodes (λ m. ⊥) s
    → IsWalked nodes wanted s s []
walked-none nodes wanted s sound = record {
  longer = longer-none s;
  sound = sound;
  over = λ m among. absurd (false≢true among);
  closes = λ closed_so_far. closed_so_far;
  needed = λ end far reasons met. met;
}

over-by : (s : State) (n : ℕ) → is_over s n ≡ true → Over s n
over-by s n is = or_cases (part_at s n).met (is_frame (name_in s n)) is

-- the first node is passed over
walked-passed : (nodes : List Node) (wanted : List (List ℕ)) (s last : State) (n : ℕ) (more : List ℕ)
    → n < length s.nodes + length s.added → is_over s n ≡ true → IsWalked nodes wanted s last more
    → IsWalked nodes wanted s last (n ∷ more)
walked-passed nodes wanted s last n more less is walk_on =
    let here = over-by s n is in
    record {
      longer = walk_on.longer;
      sound = walk_on.sound;
      over = λ m among. elim (or_cases (nat_eq m n) (is_among more m) among) [
        | inl same ↦
            subst (Over last) (sym (eqb-true m n same)) (over-stays s last n walk_on.longer less here)
        | inr later ↦ walk_on.over m later
      ];
      closes = λ so_far. walk_on.closes (λ one m met among. elim (so_far one m met among) [
        | inl over ↦ inl over
        | inr left ↦ elim (or_cases (nat_eq m n) (is_among more m) left) [
          | inl same ↦ inl (subst (Over s) (sym (eqb-true m n same)) here)
          | inr later ↦ inr later
        ]
      ]);
      needed = λ end far reasons met. walk_on.needed end far
          (λ m among. reasons m (or_right (nat_eq m n) (is_among more m) among)) met;
    }

among-front : (a b : List ℕ) (m : ℕ) → is_among a m ≡ true → is_among (a ++ b) m ≡ true
among-front a b m among =
    list_any-append (nat_eq m) a b ∙ or_left (is_among a m) (is_among b m) among

among-back : (a b : List ℕ) (m : ℕ) → is_among b m ≡ true → is_among (a ++ b) m ≡ true
among-back a b m among =
    list_any-append (nat_eq m) a b ∙ or_right (is_among a m) (is_among b m) among

-- the first node is entered, and its sources come before the others
walked-entered : (nodes : List Node) (wanted : List (List ℕ)) (s later last : State) (n : ℕ)
    (more : List ℕ) → IsGraph nodes → IsSound nodes (λ m. ⊥) s → n < length s.parts
    → is_frame (name_in s n) ≡ false → IsEntered nodes s later n
    → IsWalked nodes wanted later last (sources_in later n ++ more)
    → IsWalked nodes wanted s last (n ∷ more)
walked-entered nodes wanted s later last n more graph sound less inner entered walk_on =
    let longer = longer-then s later last entered.longer walk_on.longer in
    let many = sound.as_many in
    let shut = entered.sound.decided_met n (λ none. none) entered.here in
    record {
      longer = longer;
      sound = walk_on.sound;
      over = λ m among. elim (or_cases (nat_eq m n) (is_among more m) among) [
        | inl same ↦
            inl (subst (λ k. (part_at last k).met ≡ true) (sym (eqb-true m n same))
            (walk_on.longer.met n entered.here))
        | inr behind_it ↦ walk_on.over m (among-back (sources_in later n) more m behind_it)
      ];
      closes = λ so_far. walk_on.closes (λ one m met among. elim (entered.back one met) [
        | inl before ↦
            let shut_one = sound.decided_met one (λ none. none) before in
            let there : is_among (sources_in s one) m ≡ true =
            subst (λ l. is_among l m ≡ true) (sources-stay s later one entered.longer shut_one) among in
            let within = sources-below nodes (λ k. ⊥) s one m graph sound there in
            elim (so_far one m before there) [
              | inl over ↦ inl (over-stays s later m entered.longer (omega (arith, within, many)) over)
              | inr left ↦ elim (or_cases (nat_eq m n) (is_among more m) left) [
                | inl same ↦
                    inl (inl (subst (λ k. (part_at later k).met ≡ true) (sym (eqb-true m n same))
                    entered.here))
                | inr behind_it ↦ inr (among-back (sources_in later n) more m behind_it)
              ]
            ]
        | inr here ↦
            inr (among-front (sources_in later n) more m
            (subst (λ k. is_among (sources_in later k) m ≡ true) here among))
      ]);
      needed = λ end far reasons met.
          let inner_end : is_frame (name_in end n) ≡ false =
          ap is_frame (name-stays s end n (longer-then s last end longer far) (omega (arith, less, many)))
          ∙ inner in
          let same_sources =
          sources-stay later end n (longer-then later last end walk_on.longer far) shut in
          let mine = reasons n (or_left (nat_eq n n) (is_among more n) (eq-eqb n n refl)) inner_end in
          walk_on.needed end far
          (λ m among frame. elim (or_cases (is_among (sources_in later n) m) (is_among more m)
          (sym (list_any-append (nat_eq m) (sources_in later n) more) ∙ among)) [
            | inl source ↦
                as_source mine (subst (λ l. is_among l m ≡ true) (sym same_sources) source) frame
            | inr behind_it ↦ reasons m (or_right (nat_eq m n) (is_among more m) behind_it) frame
          ])
          (λ one met_later. elim (entered.back one met_later) [
            | inl before ↦ met one before
            | inr here ↦ subst (IsNeeded end wanted) (sym here) mine
          ]);
    }

abbrev Enters : List Node → Enter → Type 0
Enters nodes enter =
    (s : State) (n : ℕ) (later : State) → enter s n ≡ Ok later → n < length s.parts
    → (part_at s n).met ≡ false → IsSound nodes (λ m. ⊥) s → IsEntered nodes s later n

or-left-false : (a b : Bool) → (a || b) ≡ false → a ≡ false
or-left-false true b is = cc
or-left-false false b is = refl

walked-by : (nodes : List Node) (wanted : List (List ℕ)) (room : ℕ) (enter : Enter)
    (next : State → List ℕ → Walk) (last : State) → IsGraph nodes → Enters nodes enter
    → ((s : State) (pending : List ℕ) → next s pending ≡ Ok last → IsSound nodes (λ m. ⊥) s
    → AreBelow (length s.parts) pending → MAX_NAMES + 1 ≤ room + met_count s.parts
    → IsWalked nodes wanted s last pending)
    → (s : State) (pending : List ℕ) → passed enter next s pending ≡ Ok last
    → IsSound nodes (λ m. ⊥) s → AreBelow (length s.parts) pending
    → MAX_NAMES ≤ room + met_count s.parts → IsWalked nodes wanted s last pending
walked-by nodes wanted room enter next last graph enters goes s [] is sound below fuel =
    let same : s ≡ last = cc in
    subst (λ one. IsWalked nodes wanted s one []) same (walked-none nodes wanted s sound)
walked-by nodes wanted room enter next last graph enters goes s (n ∷ more) is sound below fuel =
    let step = enter s n >>= λ one. next one (sources_in one n ++ more) in
    let many = sound.as_many in
    cond_both (is_over s n) (passed enter next s more) step
    (λ (r : Walk). r ≡ Ok last → IsWalked nodes wanted s last (n ∷ more))
    (λ over given. walked-passed nodes wanted s last n more (omega (arith, below.0, many)) over
    (walked-by nodes wanted room enter next last graph enters goes s more given sound below.1 fuel))
    (λ new given. both_ok (enter s n) (λ one. next one (sources_in one n ++ more)) last
    (IsWalked nodes wanted s last (n ∷ more)) given
    (λ later here rest.
    let fresh = or-left-false (part_at s n).met (is_frame (name_in s n)) new in
    let inner = or-right-false (part_at s n).met (is_frame (name_in s n)) new in
    let entered = enters s n later here below.0 fresh sound in
    let long = entered.longer.long in
    let count = entered.count in
    walked-entered nodes wanted s later last n more graph sound below.0 inner entered
    (goes later (sources_in later n ++ more) rest entered.sound
    (below-append (length later.parts) (sources_in later n) more
    (all-sources-below nodes (λ k. ⊥) later n graph entered.sound)
    (below-more (length s.parts) (length later.parts) more long below.1))
    (omega (arith, count, fuel))))) is

walked-room : (room : ℕ) (nodes : List Node) (wanted : List (List ℕ)) (enter : Enter) (last : State)
    → IsGraph nodes → Enters nodes enter → (s : State) (pending : List ℕ)
    → walked room enter s pending ≡ Ok last → IsSound nodes (λ m. ⊥) s
    → AreBelow (length s.parts) pending → MAX_NAMES ≤ room + met_count s.parts
    → IsWalked nodes wanted s last pending
unfolding walked
walked-room zero nodes wanted enter last graph enters s pending is sound below fuel =
    walked-by nodes wanted zero enter (λ one more. Ok one) last graph enters
    (λ one more here known under fuel_left.
    let most = known.limit in
    let some = met_count-le one.parts in
    absurd (omega (arith, most, some, fuel_left)))
    s pending is sound below fuel
walked-room (suc room) nodes wanted enter last graph enters s pending is sound below fuel =
    walked-by nodes wanted (suc room) enter (walked room enter) last graph enters
    (λ one more here known under fuel_left.
    walked-room room nodes wanted enter last graph enters one more here known under
    (omega (arith, fuel_left)))
    s pending is sound below fuel

-- wanted names

record IsWanted (nodes : List Node) (wanted names : List (List ℕ)) (s last : State) : Type 0 where
  longer : IsLonger s last
  sound : IsSound nodes (λ m. ⊥) last
  closes : AreClosed s [] → AreClosed last []
  needed : (end : State) → IsLonger last end
      → ((n : ℕ) → (part_at s n).met ≡ true → IsNeeded end wanted n)
      → (n : ℕ) → (part_at last n).met ≡ true → IsNeeded end wanted n
  found : (name : List ℕ) → Contains names name → is_frame name ≡ false
      → (n : ℕ) × (number_in last name ≡ Some n) × ((part_at last n).met ≡ true)

not-frame : (last : State) (n : ℕ) → is_frame (name_in last n) ≡ false → Over last n
    → (part_at last n).met ≡ true
not-frame last n inner (inl met) = met
not-frame last n inner (inr frame) = absurd (false≢true (sym inner ∙ frame))

none-among : (m n : ℕ) → is_among (n ∷ []) m ≡ true → m ≡ n
none-among m n among = elim (or_cases (nat_eq m n) false among) [
  | inl same ↦ eqb-true m n same
  | inr none ↦ absurd (false≢true none)
]

-- a wanted name is walked from
wanted-walked : (nodes : List Node) (wanted : List (List ℕ)) (s last : State) (name : List ℕ)
    (found : State × ℕ) → Contains wanted name → is_frame name ≡ false
    → IsSound nodes (λ m. ⊥) s → IsGraph nodes → IsNumbered nodes (λ m. ⊥) s name found
    → IsWalked nodes wanted found.0 last (found.1 ∷ [])
    → IsWanted nodes wanted (name ∷ []) s last
wanted-walked nodes wanted s last name found contains inner sound graph number walk_on =
    let longer = longer-then s found.0 last number.step.longer walk_on.longer in
    let is = number-stays found.0 last name found.1 walk_on.longer number.number in
    let named = (name-there last name found.1 is).1 in
    let many = sound.as_many in
    record {
      longer = longer;
      sound = walk_on.sound;
      closes = λ so_far. walk_on.closes (λ n m met among.
          let before = number.step.back n met in
          let shut = sound.decided_met n (λ none. none) before in
          let there : is_among (sources_in s n) m ≡ true =
          subst (λ l. is_among l m ≡ true) (sources-stay s found.0 n number.step.longer shut) among in
          let within = sources-below nodes (λ k. ⊥) s n m graph sound there in
          elim (so_far n m before there) [
            | inl over ↦ inl (over-stays s found.0 m number.step.longer (omega (arith, within, many)) over)
            | inr none ↦ absurd (false≢true none)
          ]);
      needed = λ end far met. walk_on.needed end far
          (λ m among frame.
          subst (IsNeeded end wanted) (sym (none-among m found.1 among))
          (by_name name contains inner (number-stays last end name found.1 far is)))
          (λ n met_found. met n (number.step.back n met_found));
      found = λ one has frame. at one has frame;
    }
  where
    at : (one : List ℕ) → Contains (name ∷ []) one → is_frame one ≡ false
        → (n : ℕ) × (number_in last one ≡ Some n) × ((part_at last n).met ≡ true)
    at one (zero, less, same) frame =
        let number_is = number-stays found.0 last name found.1 walk_on.longer number.number in
        let named = (name-there last name found.1 number_is).1 in
        subst (λ text. (n : ℕ) × (number_in last text ≡ Some n) × ((part_at last n).met ≡ true)) same (
          found.1,
          number_is,
          not-frame last found.1 (ap is_frame named ∙ inner)
              (walk_on.over found.1 (or_left (nat_eq found.1 found.1) false (eq-eqb found.1 found.1 refl))),
        )
    at one (suc k, less, same) frame = absurd (omega (arith, less))

wanted-none : (nodes : List Node) (wanted : List (List ℕ)) (s : State) → IsSound nodes (λ m. ⊥) s
    → IsWanted nodes wanted [] s s
wanted-none nodes wanted s sound = record {
  longer = longer-none s;
  sound = sound;
  closes = λ so_far. so_far;
  needed = λ end far met. met;
  found = λ name has frame. absurd (omega (arith, has.1));
}

-- what stands around a build is passed over
wanted-frame : (nodes : List Node) (wanted : List (List ℕ)) (s : State) (name : List ℕ)
    → is_frame name ≡ true → IsSound nodes (λ m. ⊥) s → IsWanted nodes wanted (name ∷ []) s s
wanted-frame nodes wanted s name frame sound = record {
  longer = longer-none s;
  sound = sound;
  closes = λ so_far. so_far;
  needed = λ end far met. met;
  found = at;
}
  where
    at : (one : List ℕ) → Contains (name ∷ []) one → is_frame one ≡ false
        → (n : ℕ) × (number_in s one ≡ Some n) × ((part_at s n).met ≡ true)
    at one (zero, less, same) inner =
        absurd (false≢true (sym inner ∙ subst (λ text. is_frame text ≡ true) same frame))
    at one (suc k, less, same) inner = absurd (omega (arith, less))

wanted-is : (nodes : List Node) (wanted : List (List ℕ)) (enter : Enter) (s : State) (name : List ℕ)
    (last : State) → IsGraph nodes → Enters nodes enter → Contains wanted name
    → wanted_met enter s name ≡ Ok last → IsSound nodes (λ m. ⊥) s
    → IsWanted nodes wanted (name ∷ []) s last
wanted-is nodes wanted enter s name last graph enters contains is sound =
    let step = numbered s name >>= λ found. walk enter found.0 (found.1 ∷ []) in
    cond_both (is_frame name) (Ok s) step
    (λ (r : Walk). r ≡ Ok last → IsWanted nodes wanted (name ∷ []) s last)
    (λ frame given.
    let same : s ≡ last = cc in
    subst (IsWanted nodes wanted (name ∷ []) s) same (wanted-frame nodes wanted s name frame sound))
    (λ inner given. both_ok (numbered s name) (λ found. walk enter found.0 (found.1 ∷ [])) last
    (IsWanted nodes wanted (name ∷ []) s last) given
    (λ found here rest.
    let number = numbered-is nodes (λ m. ⊥) s name found here sound in
    wanted-walked nodes wanted s last name found contains inner sound graph number
    (walked-room (MAX_NAMES - met_count found.0.parts) nodes wanted enter last graph enters found.0
    (found.1 ∷ []) rest number.step.sound (number.within, tt) (omega arith)))) is

wanted-then : (nodes : List Node) (wanted : List (List ℕ)) (s mid last : State) (name : List ℕ)
    (more : List (List ℕ)) → IsWanted nodes wanted (name ∷ []) s mid
    → IsWanted nodes wanted more mid last → IsWanted nodes wanted (name ∷ more) s last
wanted-then nodes wanted s mid last name more first second = record {
  longer = longer-then s mid last first.longer second.longer;
  sound = second.sound;
  closes = λ so_far. second.closes (first.closes so_far);
  needed = λ end far met. second.needed end far
      (λ n met_mid. first.needed end (longer-then mid last end second.longer far) met n met_mid);
  found = found_in;
}
  where
    found_in : (one : List ℕ) → Contains (name ∷ more) one → is_frame one ≡ false
        → (n : ℕ) × (number_in last one ≡ Some n) × ((part_at last n).met ≡ true)
    found_in one (zero, less, same) inner =
        let here = first.found one (0, omega arith, same) inner in
        (here.0, number-stays mid last one here.0 second.longer here.1, second.longer.met here.0 here.2)
    found_in one (suc k, less, same) inner = second.found one (k, omega (arith, less), same) inner

all-wanted : (nodes : List Node) (wanted : List (List ℕ)) (enter : Enter) (s : State)
    (names : List (List ℕ)) (last : State) → IsGraph nodes → Enters nodes enter
    → ((name : List ℕ) → Contains names name → Contains wanted name)
    → all_met enter s names ≡ Ok last → IsSound nodes (λ m. ⊥) s → IsWanted nodes wanted names s last
unfolding all_met
all-wanted nodes wanted enter s [] last graph enters within is sound =
    let same : s ≡ last = cc in
    subst (IsWanted nodes wanted [] s) same (wanted-none nodes wanted s sound)
all-wanted nodes wanted enter s (name ∷ more) last graph enters within is sound =
    both_ok (wanted_met enter s name) (λ one. all_met enter one more) last
    (IsWanted nodes wanted (name ∷ more) s last) is
    (λ one here rest.
    let first = wanted-is nodes wanted enter s name one graph enters
    (within name (0, omega arith, refl)) here sound in
    wanted-then nodes wanted s one last name more first
    (all-wanted nodes wanted enter one more last graph enters
    (λ other has. within other (suc has.0, omega (arith, has.1), has.2)) rest first.sound))

first-sound : (nodes : List Node) → IsGraph nodes → IsSound nodes (λ m. ⊥) (first_state nodes)
first-sound nodes graph =
    let long = length-replicate (length nodes) open_part in
    record {
      graph = refl;
      as_many = omega (arith, long);
      limit = let most = graph.limit in omega (arith, long, most);
      decided_met = λ n other met. absurd (none-met (length nodes) n met);
      ways = λ n. open-way (length nodes) n (length (replicate (length nodes) open_part));
    }
  where
    open-way : (count n bound : ℕ) → WayBelow bound (get_or (replicate count open_part) n open_part).way
    open-way zero n bound = tt
    open-way (suc count) zero bound = tt
    open-way (suc count) (suc n) bound = open-way count n bound

some-number : (a b : ℕ) → Some a ≡ Some b → a ≡ b
some-number a b is = cc

needed-met : (nodes : List Node) (wanted : List (List ℕ)) (s last : State) (n : ℕ)
    → IsWanted nodes wanted wanted s last → AreClosed last [] → IsNeeded last wanted n
    → (part_at last n).met ≡ true
needed-met nodes wanted s last n all shut (by_name name contains inner number) =
    let here = all.found name contains inner in
    let same = some-number here.0 n (sym here.1 ∙ number) in
    subst (λ k. (part_at last k).met ≡ true) same here.2
needed-met nodes wanted s last n all shut (as_source {n = maker} needed among inner) =
    let met = needed-met nodes wanted s last maker all shut needed in
    elim (shut maker n met among) [
      | inl over ↦ not-frame last n inner over
      | inr none ↦ absurd (false≢true none)
    ]

pub closures_needed : ClosuresAreNeeded
closures_needed files nodes seeking wanted last graph is n =
    let first = first_state nodes in
    let all = all-wanted nodes wanted (entered files seeking) first wanted last graph
    (λ one k later here less fresh sound.
    entered-is files seeking nodes one k later here less fresh sound)
    (λ name has. has) is (first-sound nodes graph) in
    let shut = all.closes (λ one m met among. absurd (none-met (length nodes) one met)) in (
      (λ met. all.needed last (longer-none last) (λ m early. absurd (none-met (length nodes) m early)) n met),
      (λ needed. needed-met nodes wanted first last n all shut needed),
    )
