-- Parts of a state that are set and added.
use Rattle.std.proofs.Common.{◌≡◌, ℕ, zero, suc, ◌+◌, ◌<◌, ◌≤◌, Bool, true, false, cond, List, [], ◌∷◌}
use Rattle.std.proofs.Common.{◌++◌, ◌∙◌, length, get_or, set, replicate, refl, arith}
use Rattle.std.proofs.Common.{length-set, length-append}
use Rattle.std.proofs.lemmas.List.{length-replicate}
use Rattle.mk_closure.specs.Parts.{State, open_part, first_state, part_at, with_part, with_name}
use Rattle.mk_closure.specs.Parts.{met_count, IsMade, AreMade, IsHeld, IsGrown}
use Rattle.mk_graph.specs.Nodes.{Node}
use Rattle.mk_pool.specs.declared.pool.TheConstants.{MAX_NAMES}
use Rattle.mk_closure.specs.declared.part.Part.{Part}
use Rattle.mk_closure.specs.declared.part.Way.{Way}
use Rattle.mk_closure.specs.declared.part.Way.TheVariants.{Open, Own, Rule, Placed, Default, Dropped}

-- no part is made at first
pub AreMade-first : (rules names count : ℕ) → AreMade rules names (replicate count open_part)
AreMade-first rules names zero = tt
AreMade-first rules names (suc count) = (tt, AreMade-first rules names count)

-- a way stays right among more names
IsMade-more : (rules names more : ℕ) (way : Way) → names ≤ more → IsMade rules names way
    → IsMade rules more way
IsMade-more rules names more Open less made = tt
IsMade-more rules names more Own less made = tt
IsMade-more rules names more (Rule rule source) less made = (made.0, omega (arith, made.1))
IsMade-more rules names more (Placed place) less made = omega (arith, made)
IsMade-more rules names more Default less made = tt
IsMade-more rules names more Dropped less made = tt

AreMade-more : (rules names more : ℕ) (parts : List Part) → names ≤ more
    → AreMade rules names parts → AreMade rules more parts
AreMade-more rules names more [] less made = tt
AreMade-more rules names more (part ∷ parts) less made = (
  IsMade-more rules names more part.way less made.0,
  AreMade-more rules names more parts less made.1,
)

pub AreMade-push : (rules names : ℕ) (parts : List Part) → AreMade rules names parts
    → AreMade rules names (parts ++ open_part ∷ [])
AreMade-push rules names [] made = (tt, tt)
AreMade-push rules names (part ∷ parts) made = (made.0, AreMade-push rules names parts made.1)

pub AreMade-set : (rules names : ℕ) (parts : List Part) (n : ℕ) (part : Part)
    → AreMade rules names parts → IsMade rules names part.way → AreMade rules names (set parts n part)
AreMade-set rules names [] n part made is = tt
AreMade-set rules names (one ∷ parts) zero part made is = (is, made.1)
AreMade-set rules names (one ∷ parts) (suc n) part made is =
    (made.0, AreMade-set rules names parts n part made.1 is)

pub AreMade-at : (rules names : ℕ) (parts : List Part) (n : ℕ) → AreMade rules names parts
    → IsMade rules names (get_or parts n open_part).way
AreMade-at rules names [] n made = tt
AreMade-at rules names (part ∷ parts) zero made = made.0
AreMade-at rules names (part ∷ parts) (suc n) made = AreMade-at rules names parts n made.1

-- how many are met
pub met_count-same : (parts : List Part) (n : ℕ) (part : Part)
    → part.met ≡ (get_or parts n open_part).met → n < length parts
    → met_count (set parts n part) ≡ met_count parts
met_count-same [] n part same less = refl
met_count-same (one ∷ parts) zero part same less = rw same refl
met_count-same (one ∷ parts) (suc n) part same less =
    rw (met_count-same parts n part same (omega arith)) refl

pub met_count-more : (parts : List Part) (n : ℕ) (part : Part)
    → part.met ≡ true → (get_or parts n open_part).met ≡ false → n < length parts
    → met_count (set parts n part) ≡ 1 + met_count parts
met_count-more [] n part new old less = absurd (omega arith)
met_count-more (one ∷ parts) zero part new old less = rw (new, old) (omega arith)
met_count-more (one ∷ parts) (suc n) part new old less =
    let more = met_count-more parts n part new old (omega arith) in omega (arith, more)

pub met_count-push : (parts : List Part) → met_count (parts ++ open_part ∷ []) ≡ met_count parts
met_count-push [] = refl
met_count-push (part ∷ parts) = rw (met_count-push parts) refl

pub met_count-le : (parts : List Part) → met_count parts ≤ length parts
met_count-le [] = omega arith
met_count-le (part ∷ parts) = one part.met (met_count-le parts)
  where
    one : (met : Bool) → met_count parts ≤ length parts
        → cond met 1 0 + met_count parts ≤ suc (length parts)
    one true less = omega arith
    one false less = omega arith

-- one that is not met leaves room
pub met_count-less : (parts : List Part) (n : ℕ) → n < length parts
    → (get_or parts n open_part).met ≡ false → met_count parts < length parts
met_count-less [] n less new = absurd (omega arith)
met_count-less (part ∷ parts) zero less new =
    let others = met_count-le parts in rw new (omega (arith, others))
met_count-less (part ∷ parts) (suc n) less new =
    one part.met (met_count-less parts n (omega arith) new)
  where
    one : (met : Bool) → met_count parts < length parts
        → cond met 1 0 + met_count parts < suc (length parts)
    one true less = omega arith
    one false less = omega arith

pub IsGrown-none : (s : State) → IsGrown s s
IsGrown-none s = record { nodes = refl; longer = omega arith; count = refl }

pub IsGrown-then : (a b c : State) → IsGrown a b → IsGrown b c → IsGrown a c
IsGrown-then a b c first second = record {
  nodes = cc;
  longer = omega arith;
  count = cc;
}

-- a part that is set
pub IsHeld-with : (s : State) (n : ℕ) (part : Part) → IsHeld s
    → IsMade (length s.nodes) (length s.parts) part.way → IsHeld (with_part s n part)
IsHeld-with s n part held made = record {
  as_many = length-set s.parts n part ∙ held.as_many;
  limit = rw (length-set s.parts n part) held.limit;
  made = rw (length-set s.parts n part)
      (AreMade-set (length s.nodes) (length s.parts) s.parts n part held.made made);
}

pub IsGrown-with : (s : State) (n : ℕ) (part : Part) → part.met ≡ (part_at s n).met
    → n < length s.parts → IsGrown s (with_part s n part)
IsGrown-with s n part same less = record {
  nodes = refl;
  longer = rw (length-set s.parts n part) (omega arith);
  count = met_count-same s.parts n part same less;
}

-- a name that is added
pub IsHeld-name : (s : State) (name : List ℕ) → IsHeld s → length s.parts < MAX_NAMES
    → IsHeld (with_name s name)
IsHeld-name s name held room =
    let longer = length-append s.parts (open_part ∷ []) in
    let more = length-append s.added (name ∷ []) in
    let as_many = held.as_many in
    record {
      as_many = omega (arith, longer, more, as_many);
      limit = omega (arith, longer, room);
      made = AreMade-more (length s.nodes) (length s.parts) (length (s.parts ++ open_part ∷ []))
          (s.parts ++ open_part ∷ []) (omega (arith, longer))
          (AreMade-push (length s.nodes) (length s.parts) s.parts held.made);
    }

pub IsGrown-name : (s : State) (name : List ℕ) → IsGrown s (with_name s name)
IsGrown-name s name = record {
  nodes = refl;
  longer = omega (arith, length-append s.parts (open_part ∷ []));
  count = met_count-push s.parts;
}

pub IsHeld-first : (nodes : List Node) → length nodes ≤ MAX_NAMES → IsHeld (first_state nodes)
IsHeld-first nodes limit = record {
  as_many = length-replicate (length nodes) open_part ∙ omega arith;
  limit = rw (length-replicate (length nodes) open_part) limit;
  made = AreMade-first (length nodes) (length (replicate (length nodes) open_part)) (length nodes);
}
