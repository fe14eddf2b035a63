-- The faults of files, with their places.
use Rattle.std.specs.Prelude.{ℕ, List, [], Result, Ok, Err}
use Rattle.std.specs.Result.{result_and}
use Rattle.mk_for.specs.declared.substitution.TurnFault.{TurnFault}
use Rattle.mk_for.specs.declared.substitution.TurnFault.TheVariants as in_turn
use Rattle.mk_lines.specs.Faults.{checked}
use Rattle.mk_lines.specs.Lines.{lines_from}
use Rattle.mk_lines.specs.declared.fault.LineFault.{LineFault}
use Rattle.mk_lines.specs.declared.fault.LineFault.TheVariants as of_line
use Rattle.mk_blocks.specs.OpenBlocks.{blocks_checked}
use Rattle.mk_blocks.specs.Outcomes.{Outcome}
use Rattle.mk_blocks.specs.declared.fault.FileFault.{FileFault}
use Rattle.mk_blocks.specs.declared.fault.FileFault.TheVariants.{Bad, NoMemory}
use Rattle.mk_blocks.specs.declared.fault.Wrong.TheVariants as wrong
use Rattle.mk_blocks.specs.declared.kind.BlockFault.{BlockFault}
use Rattle.mk_blocks.specs.declared.kind.LineKind.{LineKind}

-- a fault with its place
abbrev pub located : {A W F : Type 0} → List ℕ → ℕ → Result A W → Result A (FileFault W F)
located name number (Ok given) = Ok given
located name number (Err what) = Err (Bad name number (wrong.Line what))

abbrev pub in_place : {A W F : Type 0} → List ℕ → ℕ → Outcome A W → Outcome A (FileFault W F)
in_place name number outcome = record {
  acts = outcome.acts;
  answer = located name number outcome.answer;
}

-- a text that a loop has turned, or the fault of its line; memory does not run out here
abbrev pub turn_located : {W F : Type 0} → List ℕ → ℕ → Result (List ℕ) TurnFault
    → Result (List ℕ) (FileFault W F)
turn_located name number (Ok text) = Ok text
turn_located name number (Err in_turn.TooLong) = Err (Bad name number wrong.TooLong)
turn_located name number (Err in_turn.NoMemory) = Err NoMemory

-- the fault of a file's lines; memory does not run out here
abbrev pub line_fault : {W F : Type 0} → List ℕ → LineFault → FileFault W F
line_fault name (of_line.TooLong number) = Bad name number wrong.TooLong
line_fault name (of_line.Zero number) = Bad name number wrong.Zero
line_fault name of_line.NoMemory = NoMemory

abbrev pub lines_located : {W F : Type 0} → List ℕ → Result (Unit {0}) LineFault
    → Result (Unit {0}) (FileFault W F)
lines_located name (Ok given) = Ok given
lines_located name (Err fault) = Err (line_fault name fault)

abbrev pub blocks_located : {W F : Type 0} → List ℕ → Result (Unit {0}) (ℕ × BlockFault)
    → Result (Unit {0}) (FileFault W F)
blocks_located name (Ok given) = Ok given
blocks_located name (Err fault) = Err (Bad name fault.0 (wrong.Block fault.1))

-- The first fault of a file's lines, or else that of its blocks.
abbrev pub file_checked : {W F : Type 0} → (List ℕ → LineKind) → List ℕ → List ℕ
    → Result (Unit {0}) (FileFault W F)
file_checked kind name bytes =
    result_and (lines_located name (checked bytes))
    (blocks_located name (blocks_checked kind [] (lines_from 1 bytes)))
