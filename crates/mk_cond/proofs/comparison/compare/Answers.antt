use Rattle.std.proofs.Common.{◌≡◌, ◌⊎◌, inl, inr, None, rules}
use Rattle.mk_cond.specs.Truth.{side_number}
use Rattle.mk_cond.proofs.Refused.{compare_texts-refused}
use Rattle.mk_cond.proofs.comparison.compare.Goals as goal
use Rattle.mk_cond.proofs.comparison.compare.Goals.{in_default-via-in-Some+in_default}
use Rattle.mk_cond.proofs.comparison.compare.Goals.{in_default-via-in_default}

pub returns-in_default-clause-refused : goal.returns-in_default-clause-refused
returns-in_default-clause-refused c =
    let m = side_number c.args.left.now c.args.left_quoted in
    let n = side_number c.args.right.now c.args.right_quoted in
    let none : (m ≡ None) ⊎ (n ≡ None) =
    elim c.in_default.branch [
      | in_default-via-in-Some+in_default w ↦ inr (search rules)
      | in_default-via-in_default w ↦ inl (search rules)
    ] in
    rw c.compare_texts.ensures
    (compare_texts-refused c.args.op c.args.left.now c.args.right.now m n none)
