-- One line of a list of lines.
use Rattle.std.proofs.Common.{◌≡◌, ℕ, List, [], ◌∷◌, Option, Some, None, Err, refl, ap, ◌∙◌, drop}
use Rattle.std.proofs.Common.{slice_get}
use Rattle.mk_lines.specs.declared.line.LogLine.{LogLine}
use Rattle.mk_blocks.specs.OpenBlocks.{all_closed, answer_of, blocks_behind, blocks_checked}
use Rattle.mk_blocks.specs.declared.kind.BlockFault.{BlockFault}
use Rattle.mk_blocks.specs.declared.kind.LineKind.{LineKind}
use Rattle.mk_blocks.specs.declared.open_block.OpenBlock.{OpenBlock}

pub checked-end : (kind : List ℕ → LineKind) (lines : List LogLine) (blocks : List OpenBlock)
    → None ≡ slice_get lines 0 → blocks_checked kind blocks lines ≡ all_closed blocks
unfolding blocks_checked
checked-end kind [] blocks over = refl
checked-end kind (x ∷ xs) blocks over = absurd cc

module _ (kind : List ℕ → LineKind) (blocks more : List OpenBlock) (l : LogLine) (k : LineKind)
    (number : ℕ) (found : Option BlockFault) where
  pub checked-on : (lines : List LogLine)
      → Some l ≡ slice_get lines 0 → k ≡ kind l.text → number ≡ l.first
      → blocks_behind k number blocks ≡ answer_of found more → found ≡ None
      → blocks_checked kind more (drop 1 lines) ≡ blocks_checked kind blocks lines
  unfolding blocks_checked
  checked-on [] some same first behind none = absurd cc
  checked-on (x ∷ xs) some same first behind none =
      let e : x ≡ l = cc in
      let now : blocks_behind (kind l.text) l.first blocks ≡ answer_of None more =
      rw (← same, ← first)
      (behind ∙ ap (λ (f : Option BlockFault). answer_of f more) none) in
      rw (e, now) refl

  pub checked-fault : (lines : List LogLine) (fault : BlockFault)
      → Some l ≡ slice_get lines 0 → k ≡ kind l.text → number ≡ l.first
      → blocks_behind k number blocks ≡ answer_of found more → found ≡ Some fault
      → blocks_checked kind blocks lines ≡ Err (number, fault)
  unfolding blocks_checked
  checked-fault [] fault some same first behind is = absurd cc
  checked-fault (x ∷ xs) fault some same first behind is =
      let e : x ≡ l = cc in
      let now : blocks_behind (kind l.text) l.first blocks ≡ answer_of (Some fault) more =
      rw (← same, ← first)
      (behind ∙ ap (λ (f : Option BlockFault). answer_of f more) is) in
      rw (e, now, first) refl
