-- What the walk through a condition comes to is the condition's truth.
use Rattle.std.proofs.Common.{◌≡◌, ◌⊎◌, inl, inr, Bool, true, false, not, Ok, Err, refl, ap, ◌∙◌}
use Rattle.mk_cond.specs.Cond.{Cond, Conds, any, all, negate, test, alone, both, no_more, cond_then}
use Rattle.mk_cond.specs.Walk.{Walk, ends, asks, Ways, way, turned, walk, any_walk, all_walk, leaf_walk}
use Rattle.mk_cond.specs.declared.walk.Leaf.{Leaf}
use Rattle.mk_cond.specs.declared.walk.Leaf.TheVariants.{Known, Test, Alone, Both}
use Rattle.mk_values.specs.Conditions.{truth_of, any_truth, all_truth, leaf_truth}
use Rattle.mk_values.specs.Evaluators.{Answer, Counted, Finder, Progress, answer_then, either, gives, ◌>>=◌}
use Rattle.mk_values.specs.Facts.{IsOutside}
use Rattle.mk_values.specs.Names.{Context}
use Rattle.mk_values.specs.declared.fault.ExpandFault.{ExpandFault}

-- A walk, evaluated: each condition without conditions inside as it is met.
unfoldable pub walked : Finder → Context → Progress → Walk → Counted Bool
walked find c p (ends truth) = gives truth p
walked find c p (asks leaf first second) =
    truth_of find c p leaf
    >>= λ t. either t.0 (walked find c t.1 first) (walked find c t.1 second)

-- the walk goes on by a truth
abbrev pub on : Finder → Context → Ways → Bool × Progress → Counted Bool
on find c ways t = walked find c t.1 (way t.0 ways)

-- behind the whole condition nothing is evaluated
abbrev pub done : Ways
done = record { yes = ends true; no = ends false }

asked-on : (find : Finder) (c : Context) (ways : Ways) (truth : Answer Bool)
    → answer_then truth (λ t. either t.0 (walked find c t.1 ways.yes) (walked find c t.1 ways.no))
    ≡ answer_then truth (on find c ways)
asked-on find c ways (Ok (true, p)) = refl
asked-on find c ways (Ok (false, p)) = refl
asked-on find c ways (Err fault) = refl

turned-on : (find : Finder) (c : Context) (ways : Ways) (truth : Answer Bool)
    → answer_then truth (on find c (turned ways))
    ≡ answer_then (answer_then truth (λ t. gives (not t.0) t.1)) (on find c ways)
turned-on find c ways (Ok (true, p)) = refl
turned-on find c ways (Ok (false, p)) = refl
turned-on find c ways (Err fault) = refl

any-on : (find : Finder) (c : Context) (conds : Conds) (ways : Ways)
    → ((p : Progress) → (walked find c p (any_walk conds ways)).answer
    ≡ answer_then (any_truth find c p conds).answer (on find c ways))
    → (truth : Answer Bool)
    → answer_then truth (on find c (record { yes = ways.yes; no = any_walk conds ways }))
    ≡ answer_then (answer_then truth (λ t. either t.0 (gives true t.1) (any_truth find c t.1 conds)))
    (on find c ways)
any-on find c conds ways left (Ok (true, p)) = refl
any-on find c conds ways left (Ok (false, p)) = left p
any-on find c conds ways left (Err fault) = refl

all-on : (find : Finder) (c : Context) (conds : Conds) (ways : Ways)
    → ((p : Progress) → (walked find c p (all_walk conds ways)).answer
    ≡ answer_then (all_truth find c p conds).answer (on find c ways))
    → (truth : Answer Bool)
    → answer_then truth (on find c (record { yes = all_walk conds ways; no = ways.no }))
    ≡ answer_then (answer_then truth (λ t. either t.0 (all_truth find c t.1 conds) (gives false t.1)))
    (on find c ways)
all-on find c conds ways left (Ok (true, p)) = left p
all-on find c conds ways left (Ok (false, p)) = refl
all-on find c conds ways left (Err fault) = refl

mutual
  unfolding walk any_walk all_walk walked truth_of any_truth all_truth

  walked-walk : (find : Finder) (c : Context) (cond : Cond) (p : Progress) (ways : Ways)
      → (walked find c p (walk cond ways)).answer
      ≡ answer_then (truth_of find c p cond).answer (on find c ways)
  walked-walk find c (any conds) p ways = walked-any find c conds p ways
  walked-walk find c (all conds) p ways = walked-all find c conds p ways
  walked-walk find c (negate cond) p ways =
      walked-walk find c cond p (turned ways)
      ∙ turned-on find c ways (truth_of find c p cond).answer
  walked-walk find c (test fun argument) p ways =
      asked-on find c ways (truth_of find c p (test fun argument)).answer
  walked-walk find c (alone side) p ways = asked-on find c ways (truth_of find c p (alone side)).answer
  walked-walk find c (both left op right) p ways =
      asked-on find c ways (truth_of find c p (both left op right)).answer

  walked-any : (find : Finder) (c : Context) (conds : Conds) (p : Progress) (ways : Ways)
      → (walked find c p (any_walk conds ways)).answer
      ≡ answer_then (any_truth find c p conds).answer (on find c ways)
  walked-any find c no_more p ways = refl
  walked-any find c (cond_then cond conds) p ways =
      walked-walk find c cond p (record { yes = ways.yes; no = any_walk conds ways })
      ∙ any-on find c conds ways (λ q. walked-any find c conds q ways) (truth_of find c p cond).answer

  walked-all : (find : Finder) (c : Context) (conds : Conds) (p : Progress) (ways : Ways)
      → (walked find c p (all_walk conds ways)).answer
      ≡ answer_then (all_truth find c p conds).answer (on find c ways)
  walked-all find c no_more p ways = refl
  walked-all find c (cond_then cond conds) p ways =
      walked-walk find c cond p (record { yes = all_walk conds ways; no = ways.no })
      ∙ all-on find c conds ways (λ q. walked-all find c conds q ways) (truth_of find c p cond).answer

pub walked-done : (find : Finder) (c : Context) (truth : Bool) (p : Progress)
    → (walked find c p (way truth done)).answer ≡ Ok (truth, p)
unfolding walked
walked-done find c true p = refl
walked-done find c false p = refl

done-on : (find : Finder) (c : Context) (truth : Answer Bool)
    → answer_then truth (on find c done) ≡ truth
done-on find c (Ok (truth, p)) = walked-done find c truth p
done-on find c (Err fault) = refl

-- The walk through the whole condition comes to its truth.
pub walked-whole : (find : Finder) (c : Context) (p : Progress) (cond : Cond)
    → (walked find c p (walk cond done)).answer ≡ (truth_of find c p cond).answer
walked-whole find c p cond =
    walked-walk find c cond p done ∙ done-on find c (truth_of find c p cond).answer

pub walked-leaf : (find : Finder) (c : Context) (p : Progress) (leaf : Leaf) (ways : Ways)
    → (walked find c p (leaf_walk leaf ways)).answer
    ≡ answer_then (leaf_truth find c p leaf).answer (on find c ways)
unfolding walked truth_of
walked-leaf find c p (Known truth) ways = refl
walked-leaf find c p (Test fun argument) ways =
    asked-on find c ways (leaf_truth find c p (Test fun argument)).answer
walked-leaf find c p (Alone side) ways =
    asked-on find c ways (leaf_truth find c p (Alone side)).answer
walked-leaf find c p (Both left op right) ways =
    asked-on find c ways (leaf_truth find c p (Both left op right)).answer

-- a truth that is found leads on
pub walked-on : (find : Finder) (c : Context) (p q : Progress) (leaf : Leaf) (ways : Ways)
    (truth : Bool)
    → (leaf_truth find c p leaf).answer ≡ Ok (truth, q)
    → (walked find c p (leaf_walk leaf ways)).answer ≡ (walked find c q (way truth ways)).answer
walked-on find c p q leaf ways truth is =
    walked-leaf find c p leaf ways ∙ ap (λ found. answer_then found (on find c ways)) is

-- and a fault is that of the whole walk
pub walked-fault : (find : Finder) (c : Context) (p q : Progress) (leaf : Leaf) (ways : Ways)
    (fault : ExpandFault)
    → IsOutside fault ⊎ ((leaf_truth find c p leaf).answer ≡ Err (fault, q))
    → IsOutside fault ⊎ ((walked find c p (leaf_walk leaf ways)).answer ≡ Err (fault, q))
walked-fault find c p q leaf ways fault (inl free) = inl free
walked-fault find c p q leaf ways fault (inr is) =
    inr (walked-leaf find c p leaf ways ∙ ap (λ found. answer_then found (on find c ways)) is)
