-- The newest known time of what was told.
use Rattle.std.proofs.Common.{◌≡◌, ◌∙◌, ℕ, ◌≤◌, nat_lt, List, [], ◌∷◌, ◌++◌, refl, sym, ap, arith, Option, Some, None, if◌then◌else◌}
use Rattle.std.proofs.lemmas.Bool.Decides.{nat_tests}
use Rattle.mk_oodate.specs.declared.reason.Age.{Age}
use Rattle.mk_oodate.specs.declared.reason.Times.{Times}
use Rattle.mk_world.specs.Looks.{Seen}
use Rattle.mk_world.specs.declared.time.When.{When}
use Rattle.mk_world.specs.declared.time.When.TheVariants.{Missing, At, Unknown}
use Rattle.mk_decision.specs.Decisions.{Work, IsDecision}
use Rattle.mk_decision.specs.Metas.{MetaSight, no_paths}
use Rattle.mk_decision.specs.Newest.{IsDecidedUpTo, decision_whens, meta_whens, raised, raised_all, times_whens}
use Rattle.mk_decision.specs.Reasons.{first_times, times_by, with_paths}
use Rattle.mk_decision.specs.declared.decision.Decision.{Decision}

pub raised-append : (n : ℕ) (whens more : List When)
    → raised_all n (whens ++ more) ≡ raised_all (raised_all n whens) more
raised-append n [] more = refl
raised-append n (when ∷ whens) more = raised-append (raised n when) whens more

-- one look more
pub raised-more : (n : ℕ) (whens now : List When) (when : When) (old new : ℕ) → now ≡ whens ++ when ∷ []
    → old ≡ raised_all n whens → new ≡ raised old when → new ≡ raised_all n now
raised-more n whens now when old new is was raises =
    raises ∙ (ap (λ k. raised k when) was
    ∙ (sym (raised-append n whens (when ∷ [])) ∙ ap (raised_all n) (sym is)))

-- three lists of looks, one behind the other
pub raised-three : (a b c d : ℕ) (reads misses left : List When) → b ≡ raised_all a reads
    → c ≡ raised_all b misses → d ≡ raised_all c left → d ≡ raised_all a (reads ++ (misses ++ left))
raised-three a b c d reads misses left first second third =
    third ∙ (ap (λ k. raised_all k left) (second ∙ ap (λ k. raised_all k misses) first)
    ∙ (sym (raised-append (raised_all a reads) misses left)
    ∙ sym (raised-append a reads (misses ++ left))))

-- what was told in meta mode is what the test went by
pub raised-meta : (n : ℕ) (target : When) (ages : List Age) (meta : Option MetaSight)
    → raised_all n (meta_whens meta) ≡ raised_all n (times_whens (times_by target ages meta))
raised-meta n target ages None = refl
raised-meta n target ages (Some sight) = refl

-- behind the same looks
pub raised-behind : (n : ℕ) (whens more other : List When)
    → ((k : ℕ) → raised_all k more ≡ raised_all k other)
    → raised_all n (whens ++ more) ≡ raised_all n (whens ++ other)
raised-behind n whens more other same =
    raised-append n whens more ∙ (same (raised_all n whens) ∙ sym (raised-append n whens other))

-- no path was looked at
pub raised-bare : (n : ℕ) (times : Times) (other : Times) → times ≡ with_paths no_paths other
    → n ≡ raised_all n (times.reads ++ (times.misses ++ times.left))
raised-bare n times other bare =
    sym (ap (λ (t : Times). raised_all n (t.reads ++ (t.misses ++ t.left))) bare)

pub raised-first : (n : ℕ) (times : Times) (target : When) (ages : List Age)
    → times ≡ first_times target ages → n ≡ raised_all n (times.reads ++ (times.misses ++ times.left))
raised-first n times target ages bare =
    sym (ap (λ (t : Times). raised_all n (t.reads ++ (t.misses ++ t.left))) bare)

-- what begins later ends later
pub raised-least : (a b : ℕ) (when : When) → a ≤ b → raised a when ≤ raised b when
raised-least a b Missing least = least
raised-least a b Unknown least = least
raised-least a b (At time) least = grind (arith, nat_tests)

pub raised_all-least : (a b : ℕ) (whens : List When) → a ≤ b → raised_all a whens ≤ raised_all b whens
raised_all-least a b [] least = least
raised_all-least a b (when ∷ whens) least =
    raised_all-least (raised a when) (raised b when) whens (raised-least a b when least)

-- a decision that raised a time
pub decided-up_to : (work : Work) (node : ℕ) (seen : List Seen) (decided : Decision) (old new : ℕ)
    → (is : IsDecision work node seen decided)
    → new ≡ raised_all old (decision_whens work node seen decided is)
    → IsDecidedUpTo work node seen decided new
decided-up_to work node seen decided old new is raises =
    let none : 0 ≤ old = omega arith in
    (is, rw raises (raised_all-least 0 old (decision_whens work node seen decided is) none))

pub raised-on : (old new : ℕ) (when : When) → new ≡ raised old when → raised 0 when ≤ new
raised-on old new when raises =
    let none : 0 ≤ old = omega arith in rw raises (raised-least 0 old when none)
