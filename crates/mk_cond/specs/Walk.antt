-- What is evaluated of a condition, and in which order (make(1), the directive `.if`). The parts of
-- `&&` and `||` come from left to right, and what does not decide is not evaluated.
use Rattle.std.specs.Prelude.{ℕ, ◌+◌, Bool, List, [], ◌∷◌, if◌then◌else◌}
use Rattle.mk_ast.specs.View.{tree_view}
use Rattle.mk_cond.specs.Cond.{Cond, Conds, any, all, negate, test, alone, both, no_more, cond_then}
use Rattle.mk_cond.specs.View.{cond_view, conds_view, side_view}
use Rattle.mk_cond.specs.declared.walk.Leaf.{Leaf}
use Rattle.mk_cond.specs.declared.walk.Outer.{Outer}
use Rattle.mk_cond.specs.declared.walk.Step.{Step}
use Rattle.mk_cond.specs.declared.walk.Leaf.TheVariants.{Known, Test, Alone, Both}
use Rattle.mk_cond.specs.declared.walk.Outer.TheVariants.{Not, Any, All}
use Rattle.mk_cond.specs.declared.walk.Step.TheVariants.{Inside, AtLeaf}

-- A walk ends with a truth, or evaluates a condition without conditions inside, and goes on by its
-- truth: the first walk where that is true, the second where it is false.
pub data Walk : Type 0 where
  ends : Bool → Walk
  asks : Cond → Walk → Walk → Walk

-- how it goes on behind a condition, by that one's truth
pub record Ways : Type 0 where
  pub yes : Walk
  pub no : Walk

abbrev pub way : Bool → Ways → Walk
way truth ways = if truth then ways.yes else ways.no

abbrev pub turned : Ways → Ways
turned ways = record { yes = ways.no; no = ways.yes }

unfoldable mutual
  -- A condition, and what comes behind it.
  pub walk : Cond → Ways → Walk
  walk (any conds) ways = any_walk conds ways
  walk (all conds) ways = all_walk conds ways
  walk (negate cond) ways = walk cond (turned ways)
  walk (test fun argument) ways = asks (test fun argument) ways.yes ways.no
  walk (alone side) ways = asks (alone side) ways.yes ways.no
  walk (both left op right) ways = asks (both left op right) ways.yes ways.no

  -- the first that is true decides, and those behind it are left out
  pub any_walk : Conds → Ways → Walk
  any_walk no_more ways = ways.no
  any_walk (cond_then cond conds) ways =
      walk cond (record { yes = ways.yes; no = any_walk conds ways })

  -- the first that is false decides, and those behind it are left out
  pub all_walk : Conds → Ways → Walk
  all_walk no_more ways = ways.yes
  all_walk (cond_then cond conds) ways =
      walk cond (record { yes = all_walk conds ways; no = ways.no })

-- the ways behind a condition, by those behind the one that is round it
abbrev pub behind : Outer → Ways → Ways
behind Not ways = turned ways
behind (Any left) ways =
    record { yes = ways.yes; no = any_walk (conds_view left.now) ways }
behind (All left) ways =
    record { yes = all_walk (conds_view left.now) ways; no = ways.no }

-- and by those behind all that are round it, the innermost last
abbrev pub behind_all : List Outer → Ways → Ways
behind_all [] ways = ways
behind_all (one ∷ inner) ways = behind_all inner (behind one ways)

abbrev pub leaf_walk : Leaf → Ways → Walk
leaf_walk (Known truth) ways = way truth ways
leaf_walk (Test fun argument) ways = asks (test fun (tree_view argument.now)) ways.yes ways.no
leaf_walk (Alone side) ways = asks (alone (side_view side.now)) ways.yes ways.no
leaf_walk (Both left op right) ways =
    asks (both (side_view left.now) op (side_view right.now)) ways.yes ways.no

abbrev pub step_walk : Step → Ways → Walk
step_walk (Inside cond) ways = walk (cond_view cond.now) ways
step_walk (AtLeaf leaf) ways = leaf_walk leaf ways

-- How many steps are left at most

unfoldable mutual
  pub cond_size : Cond → ℕ
  cond_size (any conds) = 1 + conds_size conds
  cond_size (all conds) = 1 + conds_size conds
  cond_size (negate cond) = 2 + cond_size cond
  cond_size (test fun argument) = 1
  cond_size (alone side) = 1
  cond_size (both left op right) = 1

  pub conds_size : Conds → ℕ
  conds_size no_more = 0
  conds_size (cond_then cond conds) = 1 + (cond_size cond + conds_size conds)

abbrev pub outer_size : Outer → ℕ
outer_size Not = 1
outer_size (Any left) = 1 + conds_size (conds_view left.now)
outer_size (All left) = 1 + conds_size (conds_view left.now)

abbrev pub weight : List Outer → ℕ
weight [] = 0
weight (one ∷ inner) = outer_size one + weight inner

abbrev pub step_size : Step → ℕ
step_size (Inside cond) = cond_size (cond_view cond.now)
step_size (AtLeaf leaf) = 0
