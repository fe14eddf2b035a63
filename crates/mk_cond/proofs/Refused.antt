-- Comparisons that have no answer.
use Rattle.std.proofs.Common.{◌≡◌, ◌⊎◌, ◌↔◌, true, List, ℕ, ℤ, Option, None, IsErr, refl}
use Rattle.mk_cond.specs.Truth.{asks_order, compare_texts}
use Rattle.mk_cond.specs.declared.cond.CmpOp.{CmpOp}
use Rattle.mk_cond.specs.declared.cond.CmpOp.TheVariants.{Equal, NotEqual, Less, LessOrEqual}
use Rattle.mk_cond.specs.declared.cond.CmpOp.TheVariants.{Greater, GreaterOrEqual}

-- an order is asked, and one side is no number
abbrev pub NoNumbers : CmpOp → Option ℤ → Option ℤ → Type 0
NoNumbers op m n = (asks_order op ≡ true) × ((m ≡ None) ⊎ (n ≡ None))

pub compare_texts-refused : (op : CmpOp) (left right : List ℕ) (m n : Option ℤ)
    → (m ≡ None) ⊎ (n ≡ None) → IsErr (compare_texts op left right) ↔ NoNumbers op m n
compare_texts-refused Equal left right m n none = ((λ err. cc), (λ is. cc))
compare_texts-refused NotEqual left right m n none = ((λ err. cc), (λ is. cc))
compare_texts-refused Less left right m n none = ((λ err. (refl, none)), (λ is. search))
compare_texts-refused LessOrEqual left right m n none = ((λ err. (refl, none)), (λ is. search))
compare_texts-refused Greater left right m n none = ((λ err. (refl, none)), (λ is. search))
compare_texts-refused GreaterOrEqual left right m n none = ((λ err. (refl, none)), (λ is. search))
