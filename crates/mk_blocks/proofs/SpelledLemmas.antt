-- Lines without block faults are one block.
use Rattle.std.proofs.Common.{◌≡◌, ℕ, Bool, true, false, List, [], ◌∷◌, ◌++◌, Result, Ok, Err, refl, sym, ap}
use Rattle.std.proofs.Common.{◌∙◌, subst, append_assoc, if◌then◌else◌}
use Rattle.std.proofs.lemmas.List.{append-nil}
use Rattle.mk_lines.specs.declared.line.LogLine.{LogLine}
use Rattle.mk_blocks.specs.Blocks.{Block, Branches, Ending, Parsed, branches, closed, ending, parse, put}
use Rattle.mk_blocks.specs.Blocks as tree
use Rattle.mk_blocks.specs.OpenBlocks.{blocks_behind, blocks_checked, checked_next, in_loop}
use Rattle.mk_blocks.specs.OpenBlocks.{is_body, may_branch, open_block}
use Rattle.mk_blocks.specs.Spelled.{line_kind, Spells, SpellsBranches, IsOneBlock}
use Rattle.mk_blocks.specs.declared.kind.BlockFault.{BlockFault}
use Rattle.mk_blocks.specs.declared.kind.BlockFault.TheVariants as fault
use Rattle.mk_blocks.specs.declared.kind.LineKind.{LineKind}
use Rattle.mk_blocks.specs.declared.kind.LineKind.TheVariants as kind
use Rattle.mk_blocks.specs.declared.open_block.BlockPart.TheVariants.{Branch, Last, Body}
use Rattle.mk_blocks.specs.declared.open_block.OpenBlock.{OpenBlock}

-- which blocks are open behind a line that ends a block of the innermost one
abbrev Ends : LineKind → OpenBlock → List OpenBlock → (List OpenBlock → Type 0) → Type 0
Ends kind.ElseIf b blocks Inside = (may_branch b.part ≡ true) × Inside (b ∷ blocks)
Ends kind.Else b blocks Inside =
    (may_branch b.part ≡ true) × Inside (open_block b.first Last b.in_loop ∷ blocks)
Ends kind.EndIf b blocks Inside = (is_body b.part ≡ false) × Inside blocks
Ends kind.EndFor b blocks Inside = (is_body b.part ≡ true) × Inside blocks
Ends _ b blocks Inside = ⊥

-- a test is true or false
tested : (P : Bool → Type 0) (t : Bool) → (t ≡ true → P true) → (t ≡ false → P false) → P t
tested P true here there = here refl
tested P false here there = there refl

module _ (kind_of : List ℕ → LineKind) where
  -- these lines end the blocks that are open, with what stands between
  abbrev Closes : List OpenBlock → List Ending → List LogLine → Type 0
  Closes [] [] lines = lines ≡ []
  Closes [] (e ∷ endings) lines = ⊥
  Closes (b ∷ blocks) [] lines = ⊥
  Closes (b ∷ blocks) (e ∷ endings) lines =
      (behind : List LogLine) × (lines ≡ e.at ∷ behind) × (kind_of e.at.text ≡ e.kind)
      × Ends e.kind b blocks (λ outer. (inside : List LogLine) × (left : List LogLine)
      × (behind ≡ inside ++ left) × Spells kind_of (in_loop outer) e.block inside
      × Closes outer endings left)

  -- a block, and then the lines that end those round it
  abbrev ParsedBy : List OpenBlock → Block → List Ending → List LogLine → Type 0
  ParsedBy outer block endings lines =
      (inside : List LogLine) × (left : List LogLine) × (lines ≡ inside ++ left)
      × Spells kind_of (in_loop outer) block inside × Closes outer endings left

  -- the rest of an if-block, its last line, and what stands behind it
  abbrev ClosedIf : OpenBlock → List OpenBlock → List Ending → List LogLine → Type 0
  ClosedIf b blocks endings lines =
      (more : List LogLine) × (close : LogLine) × (rest : List LogLine)
      × (lines ≡ more ++ close ∷ rest) × (kind_of close.text ≡ kind.EndIf)
      × SpellsBranches kind_of b.in_loop (branches endings) more
      × (may_branch b.part ≡ false → branches endings ≡ tree.no_more)
      × ParsedBy blocks (closed endings).block (closed endings).endings rest

  branch-before : (at : LogLine) (lines behind inside left more rest : List LogLine) (close : LogLine)
      → lines ≡ at ∷ behind → behind ≡ inside ++ left → left ≡ more ++ close ∷ rest
      → lines ≡ (at ∷ (inside ++ more)) ++ close ∷ rest
  branch-before at lines behind inside left more rest close first second third =
      first ∙ ap (λ s. at ∷ s) (second ∙ ap (λ s. inside ++ s) third
      ∙ sym (append_assoc inside more (close ∷ rest)))

  else_if-before : (b : OpenBlock) (blocks : List OpenBlock) (at : LogLine) (block : Block)
      (endings : List Ending) (lines behind inside left : List LogLine)
      → lines ≡ at ∷ behind → kind_of at.text ≡ kind.ElseIf → may_branch b.part ≡ true
      → behind ≡ inside ++ left → Spells kind_of b.in_loop block inside
      → ClosedIf b blocks endings left → ClosedIf b blocks (ending kind.ElseIf at block ∷ endings) lines
  unfolding Spells branches closed
  else_if-before b blocks at block endings lines behind inside left same of may parts body
      (more, close, rest, is, closes, others, done, parsed) = (
        at ∷ (inside ++ more),
        close,
        rest,
        branch-before at lines behind inside left more rest close same parts is,
        closes,
        (inside, more, refl, of, tt, body, others),
        λ none. absurd cc,
        parsed,
      )

  else-before : (b : OpenBlock) (blocks : List OpenBlock) (at : LogLine) (block : Block)
      (endings : List Ending) (lines behind inside left : List LogLine)
      → lines ≡ at ∷ behind → kind_of at.text ≡ kind.Else → may_branch b.part ≡ true
      → behind ≡ inside ++ left → Spells kind_of b.in_loop block inside
      → ClosedIf (open_block b.first Last b.in_loop) blocks endings left
      → ClosedIf b blocks (ending kind.Else at block ∷ endings) lines
  unfolding Spells branches closed
  else-before b blocks at block endings lines behind inside left same of may parts body
      (more, close, rest, is, closes, others, done, parsed) = (
        at ∷ (inside ++ more),
        close,
        rest,
        branch-before at lines behind inside left more rest close same parts is,
        closes,
        (inside, more, refl, of, done refl, body, others),
        λ none. absurd cc,
        parsed,
      )

  if-turn : (k : LineKind) (at : LogLine) (block : Block) (endings : List Ending)
      (blocks : List OpenBlock)
      → ((b : OpenBlock) (lines : List LogLine) → is_body b.part ≡ false
      → Closes (b ∷ blocks) endings lines → ClosedIf b blocks endings lines)
      → (b : OpenBlock) (lines : List LogLine) → is_body b.part ≡ false
      → Closes (b ∷ blocks) (ending k at block ∷ endings) lines
      → ClosedIf b blocks (ending k at block ∷ endings) lines
  unfolding Spells branches closed
  if-turn kind.EndIf at block endings blocks again b lines no_body (behind, same, of, (other, parsed)) =
      ([], at, behind, same, of, refl, (λ none. refl), parsed)
  if-turn kind.ElseIf at block endings blocks again b lines no_body
      (behind, same, of, (may, (inside, left, parts, body, closes))) =
      else_if-before b blocks at block endings lines behind inside left same of may parts body
      (again b left no_body closes)
  if-turn kind.Else at block endings blocks again b lines no_body
      (behind, same, of, (may, (inside, left, parts, body, closes))) =
      else-before b blocks at block endings lines behind inside left same of may parts body
      (again (open_block b.first Last b.in_loop) left refl closes)
  if-turn kind.EndFor at block endings blocks again b lines no_body
      (behind, same, of, (body, parsed)) = absurd cc
  if-turn kind.Plain at block endings blocks again b lines no_body (behind, same, of, never) =
      absurd never
  if-turn kind.Uncounted at block endings blocks again b lines no_body (behind, same, of, never) =
      absurd never
  if-turn kind.If at block endings blocks again b lines no_body (behind, same, of, never) =
      absurd never
  if-turn kind.For at block endings blocks again b lines no_body (behind, same, of, never) =
      absurd never
  if-turn kind.Break at block endings blocks again b lines no_body (behind, same, of, never) =
      absurd never
  if-turn kind.Include at block endings blocks again b lines no_body (behind, same, of, never) =
      absurd never

  closed-if : (endings : List Ending) (blocks : List OpenBlock) (b : OpenBlock)
      (lines : List LogLine) → is_body b.part ≡ false → Closes (b ∷ blocks) endings lines
      → ClosedIf b blocks endings lines
  closed-if [] blocks b lines no_body closes = absurd closes
  closed-if (e ∷ endings) blocks b lines no_body closes =
      if-turn e.kind e.at e.block endings blocks
      (λ inner left none ends. closed-if endings blocks inner left none ends) b lines no_body closes

  -- the last line of a loop, and what stands behind it
  abbrev ClosedLoop : List OpenBlock → List Ending → List LogLine → Type 0
  ClosedLoop blocks endings lines =
      (close : LogLine) × (rest : List LogLine) × (lines ≡ close ∷ rest)
      × (kind_of close.text ≡ kind.EndFor)
      × ParsedBy blocks (closed endings).block (closed endings).endings rest

  loop-turn : (k : LineKind) (at : LogLine) (block : Block) (endings : List Ending)
      (blocks : List OpenBlock) (b : OpenBlock) (lines : List LogLine) → is_body b.part ≡ true
      → may_branch b.part ≡ false → Closes (b ∷ blocks) (ending k at block ∷ endings) lines
      → ClosedLoop blocks (ending k at block ∷ endings) lines
  unfolding closed
  loop-turn kind.EndFor at block endings blocks b lines body none (behind, same, of, (is, parsed)) =
      (at, behind, same, of, parsed)
  loop-turn kind.EndIf at block endings blocks b lines body none (behind, same, of, (is, parsed)) =
      absurd cc
  loop-turn kind.ElseIf at block endings blocks b lines body none (behind, same, of, (may, parsed)) =
      absurd cc
  loop-turn kind.Else at block endings blocks b lines body none (behind, same, of, (may, parsed)) =
      absurd cc
  loop-turn kind.Plain at block endings blocks b lines body none (behind, same, of, never) =
      absurd never
  loop-turn kind.Uncounted at block endings blocks b lines body none (behind, same, of, never) =
      absurd never
  loop-turn kind.If at block endings blocks b lines body none (behind, same, of, never) =
      absurd never
  loop-turn kind.For at block endings blocks b lines body none (behind, same, of, never) =
      absurd never
  loop-turn kind.Break at block endings blocks b lines body none (behind, same, of, never) =
      absurd never
  loop-turn kind.Include at block endings blocks b lines body none (behind, same, of, never) =
      absurd never

  closed-loop : (endings : List Ending) (blocks : List OpenBlock) (b : OpenBlock)
      (lines : List LogLine) → is_body b.part ≡ true → may_branch b.part ≡ false
      → Closes (b ∷ blocks) endings lines → ClosedLoop blocks endings lines
  closed-loop [] blocks b lines body none closes = absurd closes
  closed-loop (e ∷ endings) blocks b lines body none closes =
      loop-turn e.kind e.at e.block endings blocks b lines body none closes

  -- The lines behind one, and then the line itself

  abbrev Of : List OpenBlock → Parsed → List LogLine → Type 0
  Of outer p lines = ParsedBy outer p.block p.endings lines

  before-line : (counts : Bool) (l : LogLine) (outer : List OpenBlock) (p : Parsed)
      (lines : List LogLine) → kind_of l.text ≡ line_kind counts → Of outer p lines
      → ParsedBy outer (tree.line counts l p.block) p.endings (l ∷ lines)
  unfolding Spells
  before-line counts l outer p lines of (inside, left, parts, body, closes) =
      (l ∷ inside, left, ap (λ s. l ∷ s) parts, (inside, refl, of, body), closes)

  before-file : (l : LogLine) (outer : List OpenBlock) (p : Parsed) (lines : List LogLine)
      → kind_of l.text ≡ kind.Include → Of outer p lines
      → ParsedBy outer (tree.file l p.block) p.endings (l ∷ lines)
  unfolding Spells
  before-file l outer p lines of (inside, left, parts, body, closes) =
      (l ∷ inside, left, ap (λ s. l ∷ s) parts, (inside, refl, of, body), closes)

  before-stop : (l : LogLine) (outer : List OpenBlock) (p : Parsed) (lines : List LogLine)
      → kind_of l.text ≡ kind.Break → in_loop outer ≡ true → Of outer p lines
      → ParsedBy outer (tree.stop l p.block) p.endings (l ∷ lines)
  unfolding Spells
  before-stop l outer p lines of looping (inside, left, parts, body, closes) =
      (l ∷ inside, left, ap (λ s. l ∷ s) parts, (inside, refl, of, looping, body), closes)

  choice-parts : (l close : LogLine) (lines inside left more rest behind beyond : List LogLine)
      → lines ≡ inside ++ left → left ≡ more ++ close ∷ rest → rest ≡ behind ++ beyond
      → l ∷ lines ≡ (l ∷ (inside ++ (more ++ close ∷ behind))) ++ beyond
  choice-parts l close lines inside left more rest behind beyond first second third =
      ap (λ s. l ∷ s) (first ∙ ap (λ s. inside ++ s) (second ∙ ap (λ s. more ++ close ∷ s) third
      ∙ sym (append_assoc more (close ∷ behind) beyond))
      ∙ sym (append_assoc inside (more ++ close ∷ behind) beyond))

  before-if : (l : LogLine) (outer : List OpenBlock) (p : Parsed) (lines inside left : List LogLine)
      → kind_of l.text ≡ kind.If → lines ≡ inside ++ left
      → Spells kind_of (in_loop outer) p.block inside
      → ClosedIf (open_block l.first Branch (in_loop outer)) outer p.endings left
      → Of outer (put kind.If l p) (l ∷ lines)
  unfolding Spells
  before-if l outer p lines inside left of parts body
      (more, close, rest, is, closes, others, done, (behind, beyond, split, after, ends)) = (
        l ∷ (inside ++ (more ++ close ∷ behind)),
        beyond,
        choice-parts l close lines inside left more rest behind beyond parts is split,
        (inside, more, close, behind, refl, of, closes, body, others, after),
        ends,
      )

  if-of : (l : LogLine) (outer : List OpenBlock) (p : Parsed) (lines : List LogLine)
      → kind_of l.text ≡ kind.If → Of (open_block l.first Branch (in_loop outer) ∷ outer) p lines
      → Of outer (put kind.If l p) (l ∷ lines)
  if-of l outer p lines of (inside, left, parts, body, closes) =
      before-if l outer p lines inside left of parts body
      (closed-if p.endings outer (open_block l.first Branch (in_loop outer)) left refl closes)

  loop-parts : (l close : LogLine) (lines inside left rest behind beyond : List LogLine)
      → lines ≡ inside ++ left → left ≡ close ∷ rest → rest ≡ behind ++ beyond
      → l ∷ lines ≡ (l ∷ (inside ++ close ∷ behind)) ++ beyond
  loop-parts l close lines inside left rest behind beyond first second third =
      ap (λ s. l ∷ s) (first ∙ ap (λ s. inside ++ s) (second ∙ ap (λ s. close ∷ s) third)
      ∙ sym (append_assoc inside (close ∷ behind) beyond))

  before-loop : (l : LogLine) (outer : List OpenBlock) (p : Parsed)
      (lines inside left : List LogLine) → kind_of l.text ≡ kind.For → lines ≡ inside ++ left
      → Spells kind_of true p.block inside → ClosedLoop outer p.endings left
      → Of outer (put kind.For l p) (l ∷ lines)
  unfolding Spells
  before-loop l outer p lines inside left of parts body
      (close, rest, is, closes, (behind, beyond, split, after, ends)) = (
        l ∷ (inside ++ close ∷ behind),
        beyond,
        loop-parts l close lines inside left rest behind beyond parts is split,
        (inside, close, behind, refl, of, closes, body, after),
        ends,
      )

  loop-of : (l : LogLine) (outer : List OpenBlock) (p : Parsed) (lines : List LogLine)
      → kind_of l.text ≡ kind.For → Of (open_block l.first Body true ∷ outer) p lines
      → Of outer (put kind.For l p) (l ∷ lines)
  loop-of l outer p lines of (inside, left, parts, body, closes) =
      before-loop l outer p lines inside left of parts body
      (closed-loop p.endings outer (open_block l.first Body true) left refl refl closes)

  -- a line that ends a block, before what was read behind it
  ending-of : (k : LineKind) (l : LogLine) (b : OpenBlock) (outer : List OpenBlock) (p : Parsed)
      (lines : List LogLine) → kind_of l.text ≡ k
      → Ends k b outer (λ inner. ParsedBy inner p.block p.endings lines)
      → ParsedBy (b ∷ outer) tree.none (ending k l p.block ∷ p.endings) (l ∷ lines)
  unfolding Spells
  ending-of k l b outer p lines of ends = ([], l ∷ lines, refl, refl, (lines, refl, of, ends))

  -- what the check of the lines behind one says of them
  abbrev Again : List LogLine → Type 0
  Again lines = (inner : List OpenBlock) → blocks_checked kind_of inner lines ≡ Ok tt
      → Of inner (parse kind_of lines) lines

  abbrev Goes : List LogLine → ℕ → Result (List OpenBlock) BlockFault → Type 0
  Goes lines number opened =
      checked_next number (λ inner. blocks_checked kind_of inner lines) opened ≡ Ok tt

  else_if-turn : (l : LogLine) (lines : List LogLine) → Again lines → kind_of l.text ≡ kind.ElseIf
      → (b : OpenBlock) (outer : List OpenBlock)
      → Goes lines l.first (blocks_behind kind.ElseIf l.first (b ∷ outer))
      → Of (b ∷ outer) (put kind.ElseIf l (parse kind_of lines)) (l ∷ lines)
  else_if-turn l lines again of b outer goes =
      tested (λ t. Goes lines l.first (if t then Ok (b ∷ outer) else Err fault.Else)
      → Of (b ∷ outer) (put kind.ElseIf l (parse kind_of lines)) (l ∷ lines)) (may_branch b.part)
      (λ may ok. ending-of kind.ElseIf l b outer (parse kind_of lines) lines of (may, again (b ∷ outer) ok))
      (λ none no. absurd cc) goes

  else-turn : (l : LogLine) (lines : List LogLine) → Again lines → kind_of l.text ≡ kind.Else
      → (b : OpenBlock) (outer : List OpenBlock)
      → Goes lines l.first (blocks_behind kind.Else l.first (b ∷ outer))
      → Of (b ∷ outer) (put kind.Else l (parse kind_of lines)) (l ∷ lines)
  else-turn l lines again of b outer goes =
      let last = open_block b.first Last b.in_loop ∷ outer in
      tested (λ t. Goes lines l.first (if t then Ok last else Err fault.Else)
      → Of (b ∷ outer) (put kind.Else l (parse kind_of lines)) (l ∷ lines)) (may_branch b.part)
      (λ may ok. ending-of kind.Else l b outer (parse kind_of lines) lines of (may, again last ok))
      (λ none no. absurd cc) goes

  end_if-turn : (l : LogLine) (lines : List LogLine) → Again lines → kind_of l.text ≡ kind.EndIf
      → (b : OpenBlock) (outer : List OpenBlock)
      → Goes lines l.first (blocks_behind kind.EndIf l.first (b ∷ outer))
      → Of (b ∷ outer) (put kind.EndIf l (parse kind_of lines)) (l ∷ lines)
  end_if-turn l lines again of b outer goes =
      tested (λ t. Goes lines l.first (if t then Err fault.EndIf else Ok outer)
      → Of (b ∷ outer) (put kind.EndIf l (parse kind_of lines)) (l ∷ lines)) (is_body b.part)
      (λ body no. absurd cc)
      (λ none ok. ending-of kind.EndIf l b outer (parse kind_of lines) lines of (none, again outer ok))
      goes

  end_for-turn : (l : LogLine) (lines : List LogLine) → Again lines → kind_of l.text ≡ kind.EndFor
      → (b : OpenBlock) (outer : List OpenBlock)
      → Goes lines l.first (blocks_behind kind.EndFor l.first (b ∷ outer))
      → Of (b ∷ outer) (put kind.EndFor l (parse kind_of lines)) (l ∷ lines)
  end_for-turn l lines again of b outer goes =
      tested (λ t. Goes lines l.first (if t then Ok outer else Err fault.EndFor)
      → Of (b ∷ outer) (put kind.EndFor l (parse kind_of lines)) (l ∷ lines)) (is_body b.part)
      (λ body ok. ending-of kind.EndFor l b outer (parse kind_of lines) lines of (body, again outer ok))
      (λ none no. absurd cc) goes

  stop-turn : (l : LogLine) (lines : List LogLine) → Again lines → kind_of l.text ≡ kind.Break
      → (outer : List OpenBlock) → Goes lines l.first (blocks_behind kind.Break l.first outer)
      → Of outer (put kind.Break l (parse kind_of lines)) (l ∷ lines)
  stop-turn l lines again of outer goes =
      tested (λ t. Goes lines l.first (if t then Ok outer else Err fault.Break)
      → Of outer (put kind.Break l (parse kind_of lines)) (l ∷ lines)) (in_loop outer)
      (λ looping ok. before-stop l outer (parse kind_of lines) lines of looping (again outer ok))
      (λ none no. absurd cc) goes

  turn : (k : LineKind) (l : LogLine) (lines : List LogLine) → Again lines → kind_of l.text ≡ k
      → (outer : List OpenBlock) → Goes lines l.first (blocks_behind k l.first outer)
      → Of outer (put k l (parse kind_of lines)) (l ∷ lines)
  turn kind.Plain l lines again of outer goes =
      before-line true l outer (parse kind_of lines) lines of (again outer goes)
  turn kind.Uncounted l lines again of outer goes =
      before-line false l outer (parse kind_of lines) lines of (again outer goes)
  turn kind.Include l lines again of outer goes =
      before-file l outer (parse kind_of lines) lines of (again outer goes)
  turn kind.Break l lines again of outer goes = stop-turn l lines again of outer goes
  turn kind.If l lines again of outer goes =
      if-of l outer (parse kind_of lines) lines of
      (again (open_block l.first Branch (in_loop outer) ∷ outer) goes)
  turn kind.For l lines again of outer goes =
      loop-of l outer (parse kind_of lines) lines of
      (again (open_block l.first Body true ∷ outer) goes)
  turn kind.ElseIf l lines again of [] goes = absurd cc
  turn kind.ElseIf l lines again of (b ∷ outer) goes = else_if-turn l lines again of b outer goes
  turn kind.Else l lines again of [] goes = absurd cc
  turn kind.Else l lines again of (b ∷ outer) goes = else-turn l lines again of b outer goes
  turn kind.EndIf l lines again of [] goes = absurd cc
  turn kind.EndIf l lines again of (b ∷ outer) goes = end_if-turn l lines again of b outer goes
  turn kind.EndFor l lines again of [] goes = absurd cc
  turn kind.EndFor l lines again of (b ∷ outer) goes = end_for-turn l lines again of b outer goes

  parsed-by : (lines : List LogLine) → Again lines
  unfolding blocks_checked parse Spells
  parsed-by [] [] is = ([], [], refl, refl, refl)
  parsed-by [] (b ∷ outer) is = absurd cc
  parsed-by (l ∷ lines) outer is =
      turn (kind_of l.text) l lines (λ inner ok. parsed-by lines inner ok) refl outer is

  whole-of : (p : Parsed) (lines : List LogLine) → Of [] p lines
      → (p.endings ≡ []) × Spells kind_of false p.block lines
  whole-of p lines (inside, left, parts, body, closes) = over p.endings closes
    where
      over : (endings : List Ending) → Closes [] endings left
          → (endings ≡ []) × Spells kind_of false p.block lines
      over [] none = (
        refl,
        subst (λ s. Spells kind_of false p.block s)
            (sym (parts ∙ ap (λ s. inside ++ s) none ∙ append-nil inside)) body,
      )
      over (e ∷ endings) closed = absurd closed

  -- Lines without block faults are one block.
  pub is_one_block : (lines : List LogLine) → blocks_checked kind_of [] lines ≡ Ok tt
      → IsOneBlock kind_of lines
  is_one_block lines is = whole-of (parse kind_of lines) lines (parsed-by lines [] is)
