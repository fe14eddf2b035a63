-- The faults of a file's blocks.
use Rattle.std.specs.Prelude.{ℕ, Bool, true, false, List, [], ◌∷◌, Option, Some, None, Result, Ok}
use Rattle.std.specs.Prelude.{Err, if◌then◌else◌}
use Rattle.mk_lines.specs.declared.line.LogLine.{LogLine}
use Rattle.mk_blocks.specs.declared.kind.BlockFault.{BlockFault}
use Rattle.mk_blocks.specs.declared.kind.BlockFault.TheVariants as fault
use Rattle.mk_blocks.specs.declared.kind.LineKind.{LineKind}
use Rattle.mk_blocks.specs.declared.kind.LineKind.TheVariants as kind
use Rattle.mk_blocks.specs.declared.open_block.BlockPart.{BlockPart}
use Rattle.mk_blocks.specs.declared.open_block.BlockPart.TheVariants.{Branch, Last, Body}
use Rattle.mk_blocks.specs.declared.open_block.OpenBlock.{OpenBlock}

abbrev pub open_block : ℕ → BlockPart → Bool → OpenBlock
open_block first part in_loop = record { first = first; part = part; in_loop = in_loop }

-- a line inside these blocks, the innermost first, stands in a loop
abbrev pub in_loop : List OpenBlock → Bool
in_loop [] = false
in_loop (innermost ∷ blocks) = innermost.in_loop

-- another branch may follow
abbrev pub may_branch : BlockPart → Bool
may_branch Branch = true
may_branch _ = false

abbrev pub is_body : BlockPart → Bool
is_body Body = true
is_body _ = false

-- The blocks that are open behind a line of this kind and number, or what is wrong with the line.
abbrev pub blocks_behind : LineKind → ℕ → List OpenBlock → Result (List OpenBlock) BlockFault
blocks_behind kind.If number blocks = Ok (open_block number Branch (in_loop blocks) ∷ blocks)
blocks_behind kind.For number blocks = Ok (open_block number Body true ∷ blocks)
blocks_behind kind.ElseIf number [] = Err fault.Else
blocks_behind kind.ElseIf number (innermost ∷ blocks) =
    if may_branch innermost.part then Ok (innermost ∷ blocks) else Err fault.Else
blocks_behind kind.Else number [] = Err fault.Else
blocks_behind kind.Else number (innermost ∷ blocks) =
    if may_branch innermost.part
    then Ok (open_block innermost.first Last innermost.in_loop ∷ blocks)
    else Err fault.Else
blocks_behind kind.EndIf number [] = Err fault.EndIf
blocks_behind kind.EndIf number (innermost ∷ blocks) =
    if is_body innermost.part then Err fault.EndIf else Ok blocks
blocks_behind kind.EndFor number [] = Err fault.EndFor
blocks_behind kind.EndFor number (innermost ∷ blocks) =
    if is_body innermost.part then Ok blocks else Err fault.EndFor
blocks_behind kind.Break number blocks =
    if in_loop blocks then Ok blocks else Err fault.Break
blocks_behind kind.Plain number blocks = Ok blocks
blocks_behind kind.Uncounted number blocks = Ok blocks
blocks_behind kind.Include number blocks = Ok blocks

-- At the end of a file no block may be open.
abbrev pub all_closed : List OpenBlock → Result (Unit {0}) (ℕ × BlockFault)
all_closed [] = Ok tt
all_closed (innermost ∷ blocks) = Err (innermost.first, fault.OpenBlock)

abbrev pub checked_next : ℕ → (List OpenBlock → Result (Unit {0}) (ℕ × BlockFault))
    → Result (List OpenBlock) BlockFault → Result (Unit {0}) (ℕ × BlockFault)
checked_next number next (Ok blocks) = next blocks
checked_next number next (Err fault) = Err (number, fault)

-- The first block fault of lines inside these open blocks, with the number of its line.
unfoldable pub blocks_checked : (List ℕ → LineKind) → List OpenBlock → List LogLine
    → Result (Unit {0}) (ℕ × BlockFault)
blocks_checked kind blocks [] = all_closed blocks
blocks_checked kind blocks (l ∷ lines) =
    checked_next l.first (λ inner. blocks_checked kind inner lines)
    (blocks_behind (kind l.text) l.first blocks)

-- The answer to a line that leaves these blocks open, where no fault is found.
abbrev pub answer_of : Option BlockFault → List OpenBlock → Result (List OpenBlock) BlockFault
answer_of None blocks = Ok blocks
answer_of (Some fault) blocks = Err fault

-- the answer to a whole file
abbrev pub whole_answer : Option (ℕ × BlockFault) → Result (Unit {0}) (ℕ × BlockFault)
whole_answer None = Ok tt
whole_answer (Some fault) = Err fault
