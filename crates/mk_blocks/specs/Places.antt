-- What is left to do at a place in a file.
use Rattle.std.specs.Prelude.{◌≡◌, ℕ, zero, suc, ◌+◌, ◌-◌, ◌*◌, ◌^◌, ◌<◌, ◌≤◌, Bool, true, false}
use Rattle.std.specs.Prelude.{List, [], ◌∷◌, ◌++◌, length, if◌then◌else◌}
use Rattle.mk_turns.specs.OpenLoops.{turns_behind, turns_in}
use Rattle.mk_turns.specs.Turns.{Turn}
use Rattle.mk_turns.specs.declared.loops.OpenLoop.{OpenLoop}
use Rattle.mk_blocks.specs.Blocks.{Ending, Parsed, branches, closed, is_closer, parse}
use Rattle.mk_blocks.specs.Languages.{LineMeaning}
use Rattle.mk_blocks.specs.Meaning.{chosen, meaning}
use Rattle.mk_blocks.specs.Runs.{After, Files, Reads, Run, after, all_turns, goes_on, max_lines}
use Rattle.mk_blocks.specs.Runs.{next, next_turn}
use Rattle.mk_blocks.specs.Outcomes.{done, ◌>>=◌}
use Rattle.mk_blocks.specs.Skips.{outside_of}
use Rattle.mk_blocks.specs.declared.kind.LineKind.{LineKind}
use Rattle.mk_blocks.specs.declared.place.Place.{Place}
use Rattle.mk_blocks.specs.declared.place.Step.{Step}
use Rattle.mk_blocks.specs.declared.place.Step.TheVariants as step

-- what stands behind the body of a loop
abbrev pub behind_body : (List ℕ → LineKind) → OpenLoop → Parsed
behind_body kind open_loop = closed (parse kind open_loop.body).endings

module _ {S W F : Type 0} (M : LineMeaning S W) (files : Files S W F) (name : List ℕ) where
  -- What is left behind the endings of a block, inside so many if-blocks whose branches are being
  -- read: other branches are passed over.
  unfoldable pub behind_endings : List Turn → ℕ → List Ending → Run S → Reads W F (After S)
  behind_endings turns zero endings r = goes_on r
  behind_endings turns (suc depth) [] r = goes_on r
  behind_endings turns (suc depth) (e ∷ endings) r =
      if is_closer e.kind
      then meaning M files name e.block turns r >>= next (behind_endings turns depth endings)
      else behind_endings turns (suc depth) endings r

  -- What is left of a body, or of a file.
  abbrev pub left : List Turn → ℕ → Parsed → Run S → Reads W F (After S)
  left turns depth p r =
      meaning M files name p.block turns r >>= next (behind_endings turns depth p.endings)

  -- The same where no branch of the present if-block has been chosen yet.
  abbrev pub unchosen : List Turn → ℕ → List Ending → Run S → Reads W F (After S)
  unchosen turns depth endings r =
      chosen M files name (branches endings) turns r >>= next (left turns depth (closed endings))

  module _ (kind : List ℕ → LineKind) where
    -- so many turns of a loop in these others
    abbrev pub body_turns : List Turn → OpenLoop → List Turn → Run S → Reads W F (Run S)
    body_turns outer open_loop turns r =
        all_turns (λ turn. meaning M files name (parse kind open_loop.body).block
        (outer ++ turn ∷ [])) turns r

    -- What is left outside the body of the innermost loop, behind its present turn.
    unfoldable pub outside : List OpenLoop → After S → Reads W F (Run S)
    outside [] a = done a.run
    outside (open_loop ∷ outer) a =
        next_turn (body_turns (turns_in outer) open_loop (turns_behind open_loop)) a
        >>= λ r. left (turns_in outer) open_loop.depth (behind_body kind open_loop) r >>= outside
        outer

    -- What is left inside these loops.
    abbrev pub left_in : List OpenLoop → ℕ → Parsed → Run S → Reads W F (Run S)
    left_in loops depth p r = left (turns_in loops) depth p r >>= outside loops

    -- What is left at a place.
    abbrev pub place_left : Place → Run S → Reads W F (Run S)
    place_left place r = left_in place.loops place.depth (parse kind place.cursor) r

    -- What is left before the first turn of a loop with this body.
    abbrev pub turns_left : List OpenLoop → ℕ → Parsed → List Turn → Run S → Reads W F (Run S)
    turns_left loops depth p turns r =
        all_turns (λ turn. meaning M files name p.block (turns_in loops ++ turn ∷ [])) turns r
        >>= left_in loops depth (closed p.endings)

    -- What is left behind a line, where reading stands at this place.
    abbrev pub step_left : Step → Place → Run S → Reads W F (Run S)
    step_left step.On place r = place_left place r
    step_left step.Ends place r = outside place.loops (after true r)
    step_left step.Breaks place r = outside place.loops (after false r)

    -- What is left behind the lines of a body, if a loop is open.
    abbrev pub if_left : Bool → Place → Run S → Reads W F (Run S)
    if_left true place r = place_left place r
    if_left false place r = done r

-- Places

module _ (kind : List ℕ → LineKind) where
  -- the end of each body is that of the lines that are left
  abbrev pub IsInside : List OpenLoop → ℕ → Parsed → Type 0
  IsInside [] depth p = Unit {0}
  IsInside (open_loop ∷ outer) depth p =
      (closed (outside_of depth p.endings) ≡ behind_body kind open_loop)
      × IsInside outer open_loop.depth (behind_body kind open_loop)

  -- these lines stand behind the body of the innermost loop
  abbrev pub IsBehind : List OpenLoop → Parsed → Type 0
  IsBehind [] p = Unit {0}
  IsBehind (open_loop ∷ outer) p =
      (p ≡ behind_body kind open_loop)
      × IsInside outer open_loop.depth (behind_body kind open_loop)

-- if-blocks, loops and lines that are left are few
abbrev pub Fits : List OpenLoop → ℕ → ℕ → Type 0
Fits [] depth lines = depth + lines < 2 ^ 32
Fits (open_loop ∷ outer) depth lines =
    (depth + lines + length (open_loop ∷ outer) < 2 ^ 32) × (lines ≤ length open_loop.body)
    × Fits outer open_loop.depth (length open_loop.body + 1)

abbrev pub FitsBehind : List OpenLoop → ℕ → Type 0
FitsBehind [] lines = Unit {0}
FitsBehind (open_loop ∷ outer) lines =
    (lines ≤ length open_loop.body) × Fits outer open_loop.depth (length open_loop.body + 1)

-- a place among the lines of a body
pub record IsPlace (kind : List ℕ → LineKind) (place : Place) : Type 0 where
  pub inside : IsInside kind place.loops place.depth (parse kind place.cursor)
  pub fits : Fits place.loops place.depth (length place.cursor)

-- a place behind them
pub record IsEnd (kind : List ℕ → LineKind) (place : Place) : Type 0 where
  pub behind : IsBehind kind place.loops (parse kind place.cursor)
  pub fits : FitsBehind place.loops (length place.cursor)

-- a place behind a step
abbrev pub IsReached : (List ℕ → LineKind) → Step → Place → Type 0
IsReached kind step.On place = IsPlace kind place
IsReached kind step.Ends place = IsEnd kind place
IsReached kind step.Breaks place = IsEnd kind place

-- What falls with each step: a line or turn is counted, a loop is left, or a line is passed.
abbrev pub work : ℕ → Place → ℕ
work count place =
    2 ^ 64 * (max_lines - count) + 2 ^ 32 * length place.loops + length place.cursor

abbrev pub Falls : Step → ℕ → ℕ → Type 0
Falls step.On before now = now < before
Falls step.Ends before now = now ≤ before
Falls step.Breaks before now = now ≤ before
