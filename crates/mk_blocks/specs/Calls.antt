-- What calls of a reading leave to be done.
use Rattle.std.specs.Prelude.{◌≡◌, ℕ, zero, suc, ◌+◌, ◌-◌, ◌<◌, ◌≤◌, ◌∷◌, List, length, Bool, true}
use Rattle.std.specs.Prelude.{false}
use Rattle.mk_lines.specs.declared.line.LogLine.{LogLine}
use Rattle.mk_turns.specs.OpenLoops.{turns_in}
use Rattle.mk_turns.specs.Turns.{Turn}
use Rattle.mk_turns.specs.declared.loops.OpenLoop.{OpenLoop}
use Rattle.mk_blocks.specs.Blocks.{Ending, Parsed, closed, parse, put}
use Rattle.mk_blocks.specs.Meaning.{files_at}
use Rattle.mk_blocks.specs.Runs.{After, Files, Reads, Run, after, run_at}
use Rattle.mk_blocks.specs.Places as p
use Rattle.mk_blocks.specs.Places.{Fits, IsInside, IsPlace}
use Rattle.mk_blocks.specs.Skips.{outside_of}
use Rattle.mk_blocks.specs.Ties.{Ties}
use Rattle.mk_blocks.specs.declared.kind.LineKind.{LineKind}
use Rattle.mk_blocks.specs.declared.kind.LineKind.TheVariants as kind
use Rattle.mk_blocks.specs.declared.line.OpenFile.{OpenFile}
use Rattle.mk_blocks.specs.declared.place.Place.{Place}
use Rattle.mk_blocks.specs.declared.place.Step.{Step}
use Rattle.mk_blocks.specs.declared.place.Step.TheVariants as step

module _ {X W F : Type 0} (ties : Ties X W F) (file : OpenFile) where
  -- the files that an open one may include
  abbrev pub files_in : ties.Answers → Files ties.State W F
  files_in answers = files_at (ties.meaning answers) ties.kind file.room

  -- what is left of a body
  abbrev pub left_at : List OpenLoop → ℕ → Parsed → X → ℕ → ties.Answers
      → Reads W F (After ties.State)
  left_at loops depth parsed x count answers =
      p.left (ties.meaning answers) (files_in answers) file.name.now (turns_in loops) depth parsed
      (run_at (ties.state x) count)

  -- the same where no branch of the present if-block has been chosen yet
  abbrev pub unchosen_at : List OpenLoop → ℕ → List Ending → X → ℕ → ties.Answers
      → Reads W F (After ties.State)
  unchosen_at loops depth endings x count answers =
      p.unchosen (ties.meaning answers) (files_in answers) file.name.now
      (turns_in loops) depth endings
      (run_at (ties.state x) count)

  -- and of all loops round it
  abbrev pub left_in : List OpenLoop → ℕ → Parsed → X → ℕ → ties.Answers
      → Reads W F (Run ties.State)
  left_in loops depth parsed x count answers =
      p.left_in (ties.meaning answers) (files_in answers) file.name.now ties.kind loops depth parsed
      (run_at (ties.state x) count)

  abbrev pub place_left : Place → X → ℕ → ties.Answers → Reads W F (Run ties.State)
  place_left place x count answers =
      p.place_left (ties.meaning answers) (files_in answers) file.name.now ties.kind place
      (run_at (ties.state x) count)

  abbrev pub step_left : Step → Place → X → ℕ → ties.Answers → Reads W F (Run ties.State)
  step_left step place x count answers =
      p.step_left (ties.meaning answers) (files_in answers) file.name.now ties.kind step place
      (run_at (ties.state x) count)

  abbrev pub turns_left : List OpenLoop → ℕ → Parsed → List Turn → X → ℕ → ties.Answers
      → Reads W F (Run ties.State)
  turns_left loops depth parsed turns x count answers =
      p.turns_left (ties.meaning answers) (files_in answers) file.name.now ties.kind loops depth
      parsed turns (run_at (ties.state x) count)

-- The line that was just taken at a place is of this kind.
pub record Stands (kind : List ℕ → LineKind) (k : LineKind) (line : LogLine)
    (place : Place) : Type 0
  where
    pub inside : IsInside kind place.loops place.depth (put k line (parse kind place.cursor))
    pub fits : Fits place.loops place.depth (length place.cursor + 1)

-- the place behind a line that closes a block
abbrev pub step_behind : ℕ → Step
step_behind zero = step.Ends
step_behind (suc depth) = step.On

pub record Leaves (before now : Place) (given : Step) : Type 0 where
  pub step : given ≡ step_behind before.depth
  pub depth : now.depth ≡ before.depth - 1
  pub cursor : now.cursor ≡ before.cursor
  pub loops : now.loops ≡ before.loops

-- The place behind the rest of an if-block, of which a branch was read.
pub record Passes (kind : List ℕ → LineKind) (before now : Place) (given : Step) : Type 0 where
  pub step : given ≡ step_behind before.depth
  pub depth : now.depth ≡ before.depth - 1
  pub behind : parse kind now.cursor ≡ closed (outside_of zero (parse kind before.cursor).endings)
  pub shorter : length now.cursor ≤ length before.cursor
  pub loops : now.loops ≡ before.loops

-- the place at the beginning of a turn
pub record Begins (open_loop : OpenLoop) (before now : Place) : Type 0 where
  pub cursor : now.cursor ≡ open_loop.body
  pub depth : now.depth ≡ 0
  pub loops : now.loops ≡ open_loop ∷ before.loops

-- lines of other branches
abbrev pub begins_branch : LineKind → Bool
begins_branch kind.ElseIf = true
begins_branch kind.Else = true
begins_branch _ = false

module _ {X W F : Type 0} (ties : Ties X W F) (file : OpenFile) where
  -- what is left where a place is left, or none
  abbrev pub if_left : Bool → Place → X → ℕ → ties.Answers → Reads W F (Run ties.State)
  if_left more place x count answers =
      p.if_left (ties.meaning answers) (files_in ties file answers) file.name.now ties.kind more
      place
      (run_at (ties.state x) count)

  -- what is left behind the lines of a body
  abbrev pub behind_left : List OpenLoop → Bool → X → ℕ → ties.Answers → Reads W F (Run ties.State)
  behind_left loops goes_on x count answers =
      p.outside (ties.meaning answers) (files_in ties file answers) file.name.now ties.kind loops
      (after goes_on (run_at (ties.state x) count))

abbrev pub IsLeft : (List ℕ → LineKind) → Bool → Place → Type 0
IsLeft kind true place = IsPlace kind place
IsLeft kind false place = Unit {0}

abbrev pub FallsIf : Bool → ℕ → ℕ → Type 0
FallsIf true before now = now < before
FallsIf false before now = Unit {0}
