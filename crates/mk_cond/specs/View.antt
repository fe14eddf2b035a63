-- The plain data that a condition of the code stands for.
use Rattle.std.specs.Prelude.{List, [], ◌∷◌, map}
use Rattle.mk_ast.specs.View.{tree_view}
use Rattle.mk_cond.specs.Cond.{Cond, Conds, any, all, negate, test, alone, both, no_more, cond_then}
use Rattle.mk_cond.specs.Cond.{Side}
use Rattle.mk_cond.specs.declared.cond.Side.{Side as CodeSide}
use Rattle.mk_cond.specs.declared.cond.Cond.{Cond as CodeCond, Cond-F, fold-Cond}

abbrev pub side_view : CodeSide → Side
side_view side = record { text = tree_view side.text; quoted = side.quoted }

abbrev pub conds_of : List Cond → Conds
conds_of [] = no_more
conds_of (c ∷ conds) = cond_then c (conds_of conds)

-- one condition, with the conditions inside it already seen
abbrev pub cond_step : Cond-F Cond → Cond
cond_step (Cond-F.Any conds) = any (conds_of conds)
cond_step (Cond-F.All conds) = all (conds_of conds)
cond_step (Cond-F.Not inner) = negate inner.value
cond_step (Cond-F.Test fun text) = test fun (tree_view text)
cond_step (Cond-F.Alone side) = alone (side_view side)
cond_step (Cond-F.Both left op right) = both (side_view left) op (side_view right)

abbrev pub cond_view : CodeCond → Cond
cond_view = fold-Cond Cond cond_step

abbrev pub conds_view : List CodeCond → Conds
conds_view conds = conds_of (map cond_view conds)
