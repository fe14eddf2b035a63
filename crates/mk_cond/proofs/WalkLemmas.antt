-- The walk through a condition, one step at a time.
use Rattle.std.proofs.Common.{◌≡◌, ◌+◌, ◌<◌, ◌≤◌, Bor, List, [], ◌∷◌, ◌++◌, length, drop}
use Rattle.std.proofs.Common.{get_or, refl, sym, ap, ◌∙◌, arith}
use Rattle.std.proofs.lemmas.List.{drop_more}
use Rattle.mk_cond.specs.View.{cond_view, conds_view}
use Rattle.mk_cond.specs.declared.cond.Cond.{Cond}
use Rattle.mk_cond.specs.Walk.{Ways, walk, any_walk, all_walk, behind, behind_all}
use Rattle.mk_cond.specs.Walk.{cond_size, conds_size, outer_size, weight}
use Rattle.mk_cond.specs.declared.walk.Outer.{Outer}
use Rattle.mk_cond.specs.declared.walk.Outer.TheVariants.{Any, All}

pub behind_all-push : (outer : List Outer) (one : Outer) (ways : Ways)
    → behind_all (outer ++ one ∷ []) ways ≡ behind one (behind_all outer ways)
behind_all-push [] one ways = refl
behind_all-push (x ∷ outer) one ways = behind_all-push outer one (behind x ways)

pub weight-push : (outer : List Outer) (one : Outer)
    → weight (outer ++ one ∷ []) ≡ weight outer + outer_size one
weight-push [] one = omega arith
weight-push (x ∷ outer) one = omega (arith, weight-push outer one)

-- the first of some conditions, and those behind it
first_of : (conds : List Cond) (first : Cond) (left : List Cond)
    → 1 ≤ length conds → first ≡ get_or conds 0 first → left ≡ drop 1 conds → conds ≡ first ∷ left
first_of conds first left some is rest =
    drop_more conds 0 first some ∙ ap (λ (one : Cond). one ∷ drop 1 conds) (sym is)
    ∙ ap (λ (more : List Cond). first ∷ more) (sym rest)

pub any_of-none : (conds : List Cond) (ways : Ways)
    → length conds < 1 → ways.no ≡ any_walk (conds_view conds) ways
unfolding any_walk
any_of-none [] ways none = refl
any_of-none (cond ∷ conds) ways none = absurd (omega (arith, none))

pub all_of-none : (conds : List Cond) (ways : Ways)
    → length conds < 1 → ways.yes ≡ all_walk (conds_view conds) ways
unfolding all_walk
all_of-none [] ways none = refl
all_of-none (cond ∷ conds) ways none = absurd (omega (arith, none))

pub any_of-first : (outer new : List Outer) (conds : List Cond) (first : Cond)
    (left : Bor (List Cond)) (ways : Ways)
    → new ≡ outer ++ Any left ∷ []
    → 1 ≤ length conds → first ≡ get_or conds 0 first → left.now ≡ drop 1 conds
    → walk (cond_view first) (behind_all new ways)
    ≡ any_walk (conds_view conds) (behind_all outer ways)
unfolding any_walk
any_of-first outer new conds first left ways pushed some is rest =
    rw (pushed, first_of conds first left.now some is rest)
    (ap (walk (cond_view first)) (behind_all-push outer (Any left) ways))

pub all_of-first : (outer new : List Outer) (conds : List Cond) (first : Cond)
    (left : Bor (List Cond)) (ways : Ways)
    → new ≡ outer ++ All left ∷ []
    → 1 ≤ length conds → first ≡ get_or conds 0 first → left.now ≡ drop 1 conds
    → walk (cond_view first) (behind_all new ways)
    ≡ all_walk (conds_view conds) (behind_all outer ways)
unfolding all_walk
all_of-first outer new conds first left ways pushed some is rest =
    rw (pushed, first_of conds first left.now some is rest)
    (ap (walk (cond_view first)) (behind_all-push outer (All left) ways))

-- and how many steps they are
pub first-size : (outer new : List Outer) (one : Outer) (conds : List Cond) (first : Cond)
    (left : List Cond)
    → new ≡ outer ++ one ∷ [] → outer_size one ≡ 1 + conds_size (conds_view left)
    → 1 ≤ length conds → first ≡ get_or conds 0 first → left ≡ drop 1 conds
    → weight new + cond_size (cond_view first) < weight outer + (1 + conds_size (conds_view conds))
unfolding conds_size
first-size outer new one conds first left pushed size some is rest =
    rw (pushed, first_of conds first left some is rest, weight-push outer one, size) (omega arith)
