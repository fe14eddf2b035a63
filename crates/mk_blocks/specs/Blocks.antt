-- A file as a tree of lines, if-blocks, loops and included files.
use Rattle.std.specs.Prelude.{ℕ, Bool, true, false, List, [], ◌∷◌, if◌then◌else◌}
use Rattle.mk_lines.specs.declared.line.LogLine.{LogLine}
use Rattle.mk_blocks.specs.declared.kind.LineKind.{LineKind}
use Rattle.mk_blocks.specs.declared.kind.LineKind.TheVariants as kind

mutual
  pub data Block : Type 0 where
    none : Block
    line : (counts : Bool) → LogLine → Block → Block
    stop : LogLine → Block → Block
    file : LogLine → Block → Block
    -- the line of the condition, its branch, the other branches, and what stands behind them
    choice : LogLine → Block → Branches → Block → Block
    loop : LogLine → Block → Block → Block

  pub data Branches : Type 0 where
    no_more : Branches
    branch : (is_else : Bool) → LogLine → Block → Branches → Branches

-- a line that ends a block, and the block behind it
pub record Ending : Type 0 where
  pub kind : LineKind
  pub at : LogLine
  pub block : Block

-- a block, and the lines that end it and the blocks round it, in order
pub record Parsed : Type 0 where
  pub block : Block
  pub endings : List Ending

abbrev pub is_closer : LineKind → Bool
is_closer kind.EndIf = true
is_closer kind.EndFor = true
is_closer _ = false

abbrev pub is_else : LineKind → Bool
is_else kind.Else = true
is_else _ = false

abbrev pub parsed : Block → List Ending → Parsed
parsed block endings = record { block = block; endings = endings }

abbrev pub ending : LineKind → LogLine → Block → Ending
ending k at block = record { kind = k; at = at; block = block }

-- what stands behind the line that closes a block with these endings
unfoldable pub closed : List Ending → Parsed
closed [] = parsed none []
closed (e ∷ endings) = if is_closer e.kind then parsed e.block endings else closed endings

-- the branches that stand before that line
unfoldable pub branches : List Ending → Branches
branches [] = no_more
branches (e ∷ endings) =
    if is_closer e.kind then no_more
    else branch (is_else e.kind) e.at e.block (branches endings)

-- a line before what was read
abbrev pub put : LineKind → LogLine → Parsed → Parsed
put kind.Plain l p = parsed (line true l p.block) p.endings
put kind.Uncounted l p = parsed (line false l p.block) p.endings
put kind.Break l p = parsed (stop l p.block) p.endings
put kind.Include l p = parsed (file l p.block) p.endings
put kind.If l p =
    parsed (choice l p.block (branches p.endings) (closed p.endings).block)
    (closed p.endings).endings
put kind.For l p =
    parsed (loop l p.block (closed p.endings).block) (closed p.endings).endings
put kind.ElseIf l p = parsed none (ending kind.ElseIf l p.block ∷ p.endings)
put kind.Else l p = parsed none (ending kind.Else l p.block ∷ p.endings)
put kind.EndIf l p = parsed none (ending kind.EndIf l p.block ∷ p.endings)
put kind.EndFor l p = parsed none (ending kind.EndFor l p.block ∷ p.endings)

-- The block that a list of lines begins with, where the kinds of lines are these. A file without
-- block faults is one block without endings.
unfoldable pub parse : (List ℕ → LineKind) → List LogLine → Parsed
parse kind [] = parsed none []
parse kind (l ∷ lines) = put (kind l.text) l (parse kind lines)
