-- Members of a closure that are gathered one after the other.
use Rattle.std.proofs.Common.{◌≡◌, ◌∙◌, ℕ, zero, suc, ◌+◌, ◌-◌, ◌^◌, ◌<◌, ◌≤◌, Bool, true, false, ◌&&◌, List, [], ◌∷◌, ◌++◌}
use Rattle.std.proofs.Common.{length, map, get_or, not, Option, Some, None, Result, Ok, Err, IfOk, refl, sym, ap, append_assoc, length-append, arith}
use Rattle.std.proofs.lemmas.List.{append-nil, length-map}
use Rattle.mk_closure.specs.Members.{is_planned, planned_of, numbers_in, number_onto, numbers_from}
use Rattle.mk_closure.specs.Members.{preds_in, all_preds, sources_in, stands_for}
use Rattle.mk_closure.specs.Names.{number_in}
use Rattle.mk_closure.specs.Parts.{State, part_at, open_part, is_left_out_way}
use Rattle.mk_closure.specs.declared.part.Part.{Part}
use Rattle.mk_graph.specs.Nodes.{node_at}
use Rattle.mk_graph.specs.Numbers.{AreBelow, EachBelow}

onto-append : (found : Option ℕ) (numbers : List ℕ)
    → number_onto found numbers ≡ number_onto found [] ++ numbers
onto-append None numbers = refl
onto-append (Some n) numbers = refl

-- the numbers of names with one more
pub numbers_in-next : (s : State) (names : List (List ℕ)) (numbers : List ℕ)
    (rest : List (List ℕ)) (name : List ℕ) (more : List (List ℕ)) → rest ≡ name ∷ more
    → numbers_in s names ≡ numbers ++ numbers_in s rest
    → numbers_in s names ≡ (numbers ++ number_onto (number_in s name) []) ++ numbers_in s more
numbers_in-next s names numbers rest name more are so_far =
    so_far ∙ (ap (λ r. numbers ++ numbers_in s r) are
    ∙ (ap (λ r. numbers ++ r) (onto-append (number_in s name) (numbers_in s more))
    ∙ sym (append_assoc numbers (number_onto (number_in s name) []) (numbers_in s more))))

filter-append : (s : State) (n : ℕ) (more : List ℕ)
    → planned_of s (n ∷ more) ≡ planned_of s (n ∷ []) ++ planned_of s more
filter-append s n more = one (is_planned s n) refl
  where
    one : (b : Bool) → is_planned s n ≡ b
        → planned_of s (n ∷ more) ≡ planned_of s (n ∷ []) ++ planned_of s more
    one true is = rw is refl
    one false is = rw is refl

-- the planned ones of two lists
pub planned_of-append : (s : State) (a b : List ℕ)
    → planned_of s (a ++ b) ≡ planned_of s a ++ planned_of s b
planned_of-append s [] b = refl
planned_of-append s (n ∷ a) b =
    filter-append s n (a ++ b)
    ∙ (ap (λ l. planned_of s (n ∷ []) ++ l) (planned_of-append s a b)
    ∙ (sym (append_assoc (planned_of s (n ∷ [])) (planned_of s a) (planned_of s b))
    ∙ ap (λ l. l ++ planned_of s b) (sym (filter-append s n a))))

-- sources that stand apart are fewer than 2 ^ 33
pub listed-short : (own : List ℕ) (found : Option ℕ) → length own < 2 ^ 32
    → length (own ++ number_onto found []) < 2 ^ 33
listed-short own None short = rw (append-nil own) (omega (arith, short))
listed-short own (Some n) short = rw (length-append own (n ∷ [])) (omega (arith, short))

-- the planned nodes with one more
pub planned_of-next : (s : State) (all planned rest : List ℕ) (n : ℕ) (more : List ℕ)
    → rest ≡ n ∷ more → all ≡ planned ++ planned_of s rest
    → all ≡ (planned ++ planned_of s (n ∷ [])) ++ planned_of s more
planned_of-next s all planned rest n more are so_far =
    so_far ∙ (ap (λ r. planned ++ planned_of s r) are
    ∙ (ap (λ r. planned ++ r) (filter-append s n more)
    ∙ sym (append_assoc planned (planned_of s (n ∷ [])) (planned_of s more))))

-- a part that was met is there
met-below : (parts : List Part) (n : ℕ) → (get_or parts n open_part).met ≡ true → n < length parts
met-below [] n met = absurd cc
met-below (part ∷ parts) zero met = omega arith
met-below (part ∷ parts) (suc n) met = let less = met-below parts n met in omega (arith, less)

left-true : (a b : Bool) → (a && b) ≡ true → a ≡ true
left-true true b is = refl
left-true false b is = absurd cc

-- so planned nodes are there
pub planned_of-below : (s : State) (nodes : List ℕ) → AreBelow (length s.parts) (planned_of s nodes)
planned_of-below s [] = tt
planned_of-below s (n ∷ nodes) = one (is_planned s n) refl (planned_of-below s nodes)
  where
    one : (b : Bool) → is_planned s n ≡ b → AreBelow (length s.parts) (planned_of s nodes)
        → AreBelow (length s.parts) (planned_of s (n ∷ nodes))
    one true is others =
        rw is (
          met-below s.parts n
              (left-true (part_at s n).met (not (is_left_out_way (part_at s n).way)) is),
          others,
        )
    one false is others = rw is others

pub AreBelow-append : (bound : ℕ) (a b : List ℕ) → AreBelow bound a → AreBelow bound b
    → AreBelow bound (a ++ b)
AreBelow-append bound [] b first second = second
AreBelow-append bound (n ∷ a) b first second = (first.0, AreBelow-append bound a b first.1 second)

-- what holds of an answer
pub IfOk-map : {T E : Type 0} (r : Result T E) (Fact Weaker : T → Type 0) → IfOk r Fact
    → ((x : T) → Fact x → Weaker x) → IfOk r Weaker
IfOk-map (Ok x) Fact Weaker holds weaken = weaken x holds
IfOk-map (Err e) Fact Weaker holds weaken = tt

-- and so are the predecessors of each node
pub all_preds-below : (s : State) (numbers : List ℕ)
    → EachBelow (length s.parts) (map (preds_in s) numbers)
all_preds-below s [] = tt
all_preds-below s (n ∷ numbers) = (
  AreBelow-append (length s.parts) (planned_of s (map (stands_for s) (sources_in s n)))
      (planned_of s (node_at s.nodes n).ordered)
      (planned_of-below s (map (stands_for s) (sources_in s n)))
      (planned_of-below s (node_at s.nodes n).ordered),
  all_preds-below s numbers,
)

pub numbers_from-length : (start count : ℕ) → length (numbers_from start count) ≡ count
numbers_from-length start zero = refl
numbers_from-length start (suc count) = rw (numbers_from-length (start + 1) count) refl

pub numbers_from-next : (n count : ℕ) → n < count
    → numbers_from n (count - n) ≡ n ∷ numbers_from (n + 1) (count - (n + 1))
numbers_from-next n count less =
    let more : count - n ≡ suc (count - (n + 1)) = omega arith in rw more refl

-- the predecessors of nodes with one more
pub all_preds-next : (s : State) (all preds : List (List ℕ)) (n count : ℕ) → n < count
    → all ≡ preds ++ map (preds_in s) (numbers_from n (count - n))
    → all ≡ (preds ++ preds_in s n ∷ []) ++ map (preds_in s) (numbers_from (n + 1) (count - (n + 1)))
all_preds-next s all preds n count less so_far =
    so_far ∙ (ap (λ l. preds ++ map (preds_in s) l) (numbers_from-next n count less)
    ∙ sym (append_assoc preds (preds_in s n ∷ [])
    (map (preds_in s) (numbers_from (n + 1) (count - (n + 1))))))

-- behind the last node
pub all_preds-end : (s : State) (all preds : List (List ℕ)) (n count : ℕ) → count ≤ n
    → all ≡ preds ++ map (preds_in s) (numbers_from n (count - n)) → all ≡ preds
all_preds-end s all preds n count past so_far =
    let none : count - n ≡ 0 = omega arith in
    so_far ∙ (ap (λ k. preds ++ map (preds_in s) (numbers_from n k)) none ∙ append-nil preds)

pub all_preds-length : (s : State) → length (all_preds s) ≡ length s.parts
all_preds-length s = rw length-map (numbers_from-length 0 (length s.parts))
