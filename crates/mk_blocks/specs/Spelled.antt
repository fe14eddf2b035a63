-- How a block is written: by which lines, one after the other.
use Rattle.std.specs.Prelude.{◌≡◌, ℕ, Bool, true, false, List, [], ◌∷◌, ◌++◌}
use Rattle.mk_lines.specs.declared.line.LogLine.{LogLine}
use Rattle.mk_blocks.specs.Blocks.{Block, Branches, parse}
use Rattle.mk_blocks.specs.Blocks as tree
use Rattle.mk_blocks.specs.declared.kind.LineKind.{LineKind}
use Rattle.mk_blocks.specs.declared.kind.LineKind.TheVariants as kind

abbrev pub line_kind : Bool → LineKind
line_kind true = kind.Plain
line_kind false = kind.Uncounted

abbrev pub branch_kind : Bool → LineKind
branch_kind true = kind.Else
branch_kind false = kind.ElseIf

-- no branch follows that of `.else`
abbrev pub IsLast : Bool → Branches → Type 0
IsLast true others = others ≡ tree.no_more
IsLast false others = Unit {0}

module _ (kind_of : List ℕ → LineKind) where
  unfoldable mutual
    -- These lines are the block, inside a loop or outside of all. An if-block is closed by
    -- `.endif`, a loop by `.endfor`, and `.break` stands in a loop.
    pub Spells : Bool → Block → List LogLine → Type 0
    Spells in_loop tree.none lines = lines ≡ []
    Spells in_loop (tree.line counts l rest) lines =
        (behind : List LogLine) × (lines ≡ l ∷ behind) × (kind_of l.text ≡ line_kind counts)
        × Spells in_loop rest behind
    Spells in_loop (tree.stop l rest) lines =
        (behind : List LogLine) × (lines ≡ l ∷ behind) × (kind_of l.text ≡ kind.Break)
        × (in_loop ≡ true) × Spells in_loop rest behind
    Spells in_loop (tree.file l rest) lines =
        (behind : List LogLine) × (lines ≡ l ∷ behind) × (kind_of l.text ≡ kind.Include)
        × Spells in_loop rest behind
    Spells in_loop (tree.choice l body others rest) lines =
        (inside : List LogLine) × (more : List LogLine) × (close : LogLine)
        × (behind : List LogLine) × (lines ≡ l ∷ (inside ++ (more ++ close ∷ behind)))
        × (kind_of l.text ≡ kind.If) × (kind_of close.text ≡ kind.EndIf)
        × Spells in_loop body inside × SpellsBranches in_loop others more
        × Spells in_loop rest behind
    Spells in_loop (tree.loop l body rest) lines =
        (inside : List LogLine) × (close : LogLine) × (behind : List LogLine)
        × (lines ≡ l ∷ (inside ++ close ∷ behind))
        × (kind_of l.text ≡ kind.For) × (kind_of close.text ≡ kind.EndFor)
        × Spells true body inside × Spells in_loop rest behind

    -- The further branches of an if-block, of which `.else` is the last.
    pub SpellsBranches : Bool → Branches → List LogLine → Type 0
    SpellsBranches in_loop tree.no_more lines = lines ≡ []
    SpellsBranches in_loop (tree.branch is_else l body others) lines =
        (inside : List LogLine) × (more : List LogLine) × (lines ≡ l ∷ (inside ++ more))
        × (kind_of l.text ≡ branch_kind is_else) × IsLast is_else others
        × Spells in_loop body inside × SpellsBranches in_loop others more

  -- The lines are one block, which nothing ends: no line is lost, and none stands elsewhere.
  abbrev pub IsOneBlock : List LogLine → Type 0
  IsOneBlock lines =
      ((parse kind_of lines).endings ≡ []) × Spells false (parse kind_of lines).block lines
