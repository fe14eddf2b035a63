use Rattle.std.proofs.Common.{◌≡◌, drop}
use Rattle.mk_ast.specs.View.{mods_view, tree_view}
use Rattle.mk_plan.specs.Oodate as spec
use Rattle.mk_plan.proofs.oodate.+refer.Given as goal

-- the answer is that of the parts that are left
abbrev pub invariant-refers-loop-part : goal.invariant-refers-loop-part
invariant-refers-loop-part l =
    spec.refers (tree_view (drop l.part-index l.part-items)) ≡ spec.refers (tree_view l.part-items)

-- the answer is that of the modifiers that are left
abbrev pub invariant-mods_refer-loop-one : goal.invariant-mods_refer-loop-one
invariant-mods_refer-loop-one l =
    spec.mods_refer (mods_view (drop l.one-index l.one-items))
    ≡ spec.mods_refer (mods_view l.one-items)
