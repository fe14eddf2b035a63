-- The links of a chain, one after the other.
use Rattle.std.proofs.Common.{◌≡◌, ℕ, zero, suc, ◌+◌, ◌<◌, true, false, List, [], ◌∷◌, get_or}
use Rattle.std.proofs.Common.{slice_get, Some, Ok, inl, inr, refl, arith}
use Rattle.mk_closure.specs.Deciding.{linked_to, linked}
use Rattle.mk_closure.specs.Faults.{IsRefusedBy}
use Rattle.mk_closure.specs.Parts.{State, is_open}
use Rattle.mk_closure.specs.declared.fault.CloseFault.{CloseFault}
use Rattle.mk_graph.specs.Numbers.{AreBelow}
use Rattle.mk_suffix.specs.declared.chain.Chain.{Chain}

-- no link is left
pub linked-end : (s : State) (n : ℕ) (chain : Chain) (links : ℕ) → links ≡ 0
    → linked s n chain links ≡ Ok s
unfolding linked
linked-end s n chain zero none = refl
linked-end s n chain (suc links) none = absurd (omega arith)

-- a name that is decided stays so
pub linked-decided : (s : State) (n : ℕ) (chain : Chain) (links : ℕ) → is_open s n ≡ false
    → linked s n chain links ≡ Ok s
unfolding linked
linked-decided s n chain zero not_open = refl
linked-decided s n chain (suc links) not_open = rw not_open refl

-- the last link
pub linked-next : (s : State) (n : ℕ) (chain : Chain) (links left rule : ℕ) (source : List ℕ)
    (later : State) (found : ℕ) → links ≡ left + 1 → is_open s n ≡ true
    → rule ≡ get_or chain.rules left 0 → source ≡ get_or chain.names left []
    → linked_to s n rule source ≡ Ok (later, found)
    → linked s n chain links ≡ linked later found chain left
unfolding linked
linked-next s n chain zero left rule source later found one opened rule_is source_is is =
    absurd (omega arith)
linked-next s n chain (suc links) left rule source later found one opened rule_is source_is is =
    let same : links ≡ left = omega arith in
    rw (same, opened, ← rule_is, ← source_is, is) refl

pub linked-refused : (s : State) (n : ℕ) (chain : Chain) (links left rule : ℕ) (source : List ℕ)
    (fault : CloseFault) → links ≡ left + 1 → is_open s n ≡ true
    → rule ≡ get_or chain.rules left 0 → source ≡ get_or chain.names left []
    → IsRefusedBy fault (linked_to s n rule source) → IsRefusedBy fault (linked s n chain links)
unfolding linked
linked-refused s n chain zero left rule source fault one opened rule_is source_is refused =
    absurd (omega arith)
linked-refused s n chain (suc links) left rule source fault one opened rule_is source_is (inl free) =
    inl free
linked-refused s n chain (suc links) left rule source fault one opened rule_is source_is (inr is) =
    let same : links ≡ left = omega arith in
    inr (rw (same, opened, ← rule_is, ← source_is, is) refl)

-- one of several numbers below a bound
pub AreBelow-at : (bound : ℕ) (numbers : List ℕ) (i n : ℕ) → AreBelow bound numbers
    → slice_get numbers i ≡ Some n → n < bound
AreBelow-at bound [] i n below is = absurd cc
AreBelow-at bound (one ∷ numbers) zero n below is =
    let same : one ≡ n = cc in rw (← same) below.0
AreBelow-at bound (one ∷ numbers) (suc i) n below is =
    AreBelow-at bound numbers i n below.1 is
