-- One step through conditions.
use Rattle.std.proofs.Common.{◌≡◌, ◌≤◌, List, [], ◌∷◌, None, length, refl, arith}
use Rattle.mk_ast.specs.View.{tree_view}
use Rattle.mk_ast.specs.declared.tree.Part.{Part}
use Rattle.mk_values.specs.Conditions.{lone_reference}

-- a text of several parts is no lone reference
pub lone_reference_many : (parts : List Part) → 2 ≤ length parts
    → lone_reference (tree_view parts) ≡ None
lone_reference_many [] many = absurd (omega arith)
lone_reference_many (one ∷ []) many = absurd (omega arith)
lone_reference_many (one ∷ other ∷ parts) many = refl
