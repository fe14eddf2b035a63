-- A condition of the code as plain data, one level at a time.
use Rattle.std.proofs.Common.{◌≡◌, List, rules}
use Rattle.mk_ast.specs.View.{tree_view}
use Rattle.mk_ast.specs.declared.tree.Part.{Part}
use Rattle.mk_cond.specs.Cond.{any, all, test, alone, both}
use Rattle.mk_cond.specs.View.{side_view, cond_view, conds_view}
use Rattle.mk_cond.specs.declared.cond.CmpOp.{CmpOp}
use Rattle.mk_cond.specs.declared.cond.Fun.{Fun}
use Rattle.mk_cond.specs.declared.cond.Side.{Side}
use Rattle.mk_cond.specs.declared.cond.Cond.{Cond, Any, All, Test, Alone, Both, the_lemmas}

pub view-Any : (conds : List Cond) → cond_view (Any conds) ≡ any (conds_view conds)
view-Any conds = search (rules, the_lemmas)

pub view-All : (conds : List Cond) → cond_view (All conds) ≡ all (conds_view conds)
view-All conds = search (rules, the_lemmas)

pub view-Test : (fun : Fun) (text : List Part)
    → cond_view (Test fun text) ≡ test fun (tree_view text)
view-Test fun text = search (rules, the_lemmas)

pub view-Alone : (side : Side) → cond_view (Alone side) ≡ alone (side_view side)
view-Alone side = search (rules, the_lemmas)

pub view-Both : (left : Side) (op : CmpOp) (right : Side)
    → cond_view (Both left op right) ≡ both (side_view left) op (side_view right)
view-Both left op right = search (rules, the_lemmas)

pub ruleset views = (view-Any, view-All, view-Test, view-Alone, view-Both)
