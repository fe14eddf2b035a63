-- Looks, one after the other.
use Rattle.std.proofs.Common.{◌≡◌, ◌≢◌, ◌∙◌, ◌⊎◌, ℕ, zero, suc, ◌<◌, ◌≤◌, ◌||◌, ◌&&◌, ◌==◌, nat_lt, List, [], ◌∷◌, ◌++◌, Option, Bool, true, false}
use Rattle.std.proofs.Common.{inl, inr, refl, sym, ap, subst, append_assoc, lt-ltb, arith}
use Rattle.std.proofs.lemmas.Bool.Decides.{eqb_tells, nat_tests}
use Rattle.std.proofs.lemmas.List.{append-nil}
use Rattle.std.proofs.lemmas.List.Folds.{list_any-append}
use Rattle.mk_plan.specs.Plans.{node_at}
use Rattle.mk_plan.specs.declared.plan.PlanNode.{PlanNode}
use Rattle.mk_world.specs.Looks.{Seen}
use Rattle.mk_world.specs.Talks.{Meaning}
use Rattle.mk_world.specs.declared.history.History.{History}
use Rattle.mk_world.specs.declared.time.When.{When}
use Rattle.mk_decision.specs.Ages.{AreSeen, counted, is_one_of}
use Rattle.mk_decision.specs.Looks.{LooksAt}
use Rattle.mk_decision.specs.Sights.{AreWanted, IsAt, IsTaken, Looked, OnWalk, SawSome, look_at, looks_of, seen_of}
use Rattle.mk_decision.specs.declared.sight.Sighting.{Sighting}
use Rattle.mk_decision.proofs.LookLemmas.{looks-then}

looks_of-append : (nodes : List PlanNode) (seen more : List Sighting)
    → looks_of nodes (seen ++ more) ≡ looks_of nodes seen ++ looks_of nodes more
looks_of-append nodes [] more = refl
looks_of-append nodes (one ∷ seen) more =
    ap (λ l. look_at nodes one ++ l) (looks_of-append nodes seen more)
    ∙ sym (append_assoc (look_at nodes one) (looks_of nodes seen) (looks_of nodes more))

-- one look more
pub looked-more : (meaning : Meaning) (start a b : Option History) (nodes : List PlanNode)
    (seen next : List Sighting) (one : Sighting) → next ≡ seen ++ one ∷ []
    → Looked meaning start a nodes seen
    → LooksAt meaning a b (look_at nodes one)
    → Looked meaning start b nodes next
looked-more meaning start a b nodes seen next one is looked told =
    let all : looks_of nodes next ≡ looks_of nodes seen ++ look_at nodes one =
    ap (looks_of nodes) is ∙ (looks_of-append nodes seen (one ∷ [])
    ∙ ap (λ l. looks_of nodes seen ++ l) (append-nil (look_at nodes one))) in
    subst (LooksAt meaning start b) (sym all)
    (looks-then meaning start a b (looks_of nodes seen) (look_at nodes one) looked told)

-- looks, of which the last may have been refused
pub some-refused : (meaning : Meaning) (start a b : Option History) (seen : List Seen)
    → LooksAt meaning start a seen → LooksAt meaning a b []
    → SawSome meaning start b
some-refused meaning start a b seen told refused = record {
  seen = seen ++ [];
  looked = looks-then meaning start a b seen [] told refused;
}

-- looks, and more behind them
pub some-next : (meaning : Meaning) (a b c : Option History) (first more : List Seen)
    → LooksAt meaning a b first → LooksAt meaning b c more → SawSome meaning a c
some-next meaning a b c first more one next =
    record { seen = first ++ more; looked = looks-then meaning a b c first more one next }

-- looks, the last of which is not kept
pub some-looked : (meaning : Meaning) (start a b : Option History) (nodes : List PlanNode)
    (seen : List Sighting) (one : Sighting) → Looked meaning start a nodes seen
    → LooksAt meaning a b (look_at nodes one)
    → SawSome meaning start b
some-looked meaning start a b nodes seen one looked told = record {
  seen = looks_of nodes seen ++ look_at nodes one;
  looked = looks-then meaning start a b (looks_of nodes seen) (look_at nodes one) looked told;
}

-- looks at the sources of a node behind that at its own file
pub saw-behind : (meaning : Meaning) (a b c : Option History) (nodes : List PlanNode) (node : ℕ)
    (target : When) (sources : List Sighting)
    → LooksAt meaning a b (look_at nodes (record { place = node; when = target }))
    → Looked meaning b c nodes sources
    → LooksAt meaning a c (seen_of nodes node target sources)
saw-behind meaning a b c nodes node target sources told looked =
    looks-then meaning a b c (look_at nodes (record { place = node; when = target }))
    (looks_of nodes sources) told looked

pub some-behind : (meaning : Meaning) (a b c : Option History) (first : List Seen)
    → LooksAt meaning a b first → SawSome meaning b c
    → SawSome meaning a c
some-behind meaning a b c first told some = record {
  seen = first ++ some.seen;
  looked = looks-then meaning a b c first some.seen told some.looked;
}

-- nodes that do not count are passed over
passed : (nodes : List PlanNode) (wanted : List ℕ) (seen : List Sighting) (place bound : ℕ)
    → place ≤ bound → ((one : ℕ) → place ≤ one → one < bound → is_one_of wanted one ≡ false)
    → AreSeen nodes place wanted seen → AreSeen nodes bound wanted seen
passed nodes wanted seen place zero most none are =
    let same : place ≡ 0 = omega arith in subst (λ k. AreSeen nodes k wanted seen) same are
passed nodes wanted seen place (suc bound) most none are =
    by (eqb_tells place (suc bound)) (λ before.
    passed nodes wanted seen place bound before (λ one from within. none one from (omega arith)) are)
  where
    by : ((place == suc bound ≡ true) × (place ≡ suc bound))
        ⊎ ((place == suc bound ≡ false) × (place ≢ suc bound))
        → (place ≤ bound → AreSeen nodes bound wanted seen) → AreSeen nodes (suc bound) wanted seen
    by (inl same) more = subst (λ k. AreSeen nodes k wanted seen) same.1 are
    by (inr other) more =
        let apart = other.1 in (inl (none bound (omega arith) (omega arith), more (omega arith)))

-- before any look
pub walk-begins : (nodes : List PlanNode) (node : ℕ) (first : List ℕ) (has : ℕ → Bool)
    → AreWanted node has first → OnWalk nodes node first node has []
walk-begins nodes node first has are =
    record { wanted = first; marked = are; along = λ rest seen. seen }

-- the last node that counts is come to
pub walk-comes : (nodes : List PlanNode) (node : ℕ) (first : List ℕ) (place bound : ℕ)
    (has now : ℕ → Bool) (seen : List Sighting) → IsTaken place has now
    → OnWalk nodes node first bound has seen → IsAt nodes node first place now seen
walk-comes nodes node first place bound has now seen taken on =
    let within = on.marked.below place taken.counts in
    record {
      wanted = on.wanted;
      counts = sym (on.marked.are place within) ∙ taken.counts;
      marked = record {
        are = λ one before. taken.same one before ∙ on.marked.are one (omega arith);
        below = taken.below;
      };
      along = λ rest are.
          on.along rest (passed nodes on.wanted rest (suc place) bound (omega arith)
          (λ one from before. sym (on.marked.are one before) ∙ taken.last one (omega arith)) are);
    }

-- what is added stands before a place too
pub still-below : (place : ℕ) (has own now : ℕ → Bool)
    → ((one : ℕ) → now one ≡ (has one || (own one && nat_lt one place)))
    → ((one : ℕ) → has one ≡ true → one < place) → (one : ℕ) → now one ≡ true → one < place
still-below place has own now are below one holds =
    by (has one) (own one) refl (sym (are one) ∙ holds)
  where
    by : (a b : Bool) → has one ≡ a → (a || (b && nat_lt one place)) ≡ true → one < place
    by true b is so = below one is
    by false true is so = grind (arith, nat_tests)
    by false false is so = absurd cc

-- and looked at
pub walk-looks : (nodes : List PlanNode) (node : ℕ) (first : List ℕ) (place : ℕ)
    (has now : ℕ → Bool) (when : When) (seen more : List Sighting)
    → ((one : ℕ) → now one
    ≡ (has one || (is_one_of (counted (node_at nodes place) when) one && nat_lt one place)))
    → more ≡ seen ++ record { place = place; when = when } ∷ []
    → IsAt nodes node first place has seen → OnWalk nodes node first place now more
walk-looks nodes node first place has now when seen more changed more_is at =
    let own = counted (node_at nodes place) when in
    let here : Sighting = record { place = place; when = when } in
    record {
      wanted = own ++ at.wanted;
      marked = record {
        are = λ one before.
            changed one ∙ (both_or (has one) (is_one_of own one) (nat_lt one place)
            (is_one_of at.wanted one) (lt-ltb one place before) (at.marked.are one before)
            ∙ sym (list_any-append (λ k. k == one) own at.wanted));
        below = still-below place has (is_one_of own) now changed at.marked.below;
      };
      along = λ rest are.
          subst (AreSeen nodes node first)
          (sym (ap (λ l. l ++ rest) more_is ∙ append_assoc seen (here ∷ []) rest))
          (at.along (here ∷ rest) (inr (at.counts, when, rest, refl, are)));
    }
  where
    swap : (a b : Bool) → (a || (b && true)) ≡ (b || a)
    swap true true = refl
    swap true false = refl
    swap false true = refl
    swap false false = refl

    both_or : (a b c d : Bool) → c ≡ true → a ≡ d → (a || (b && c)) ≡ (b || d)
    both_or a b c d is same = rw (is, ← same) (swap a b)

-- behind all looks
pub walk-ends : (nodes : List PlanNode) (node : ℕ) (first : List ℕ) (bound : ℕ) (has : ℕ → Bool)
    (seen : List Sighting) → ((one : ℕ) → has one ≡ false)
    → OnWalk nodes node first bound has seen → AreSeen nodes node first seen
walk-ends nodes node first bound has seen none on =
    subst (AreSeen nodes node first) (append-nil seen)
    (on.along [] (passed nodes on.wanted [] 0 bound (omega arith)
    (λ one from before. sym (on.marked.are one before) ∙ none one) refl))
