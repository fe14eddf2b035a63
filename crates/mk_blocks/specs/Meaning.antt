-- The meaning of makefiles over a language of single lines.
use Rattle.std.specs.Prelude.{ℕ, zero, suc, Bool, true, false, List, [], ◌∷◌, ◌++◌, Option, Some}
use Rattle.std.specs.Prelude.{None, Result}
use Rattle.mk_lines.specs.Lines.{lines_from}
use Rattle.mk_lines.specs.declared.line.LogLine.{LogLine}
use Rattle.mk_turns.specs.Turns.{Turn, in_turns}
use Rattle.mk_blocks.specs.Blocks.{Block, Branches, parse}
use Rattle.mk_blocks.specs.Blocks as tree
use Rattle.mk_blocks.specs.FileFaults.{file_checked, in_place, turn_located}
use Rattle.mk_blocks.specs.Languages.{LineMeaning, Question}
use Rattle.mk_blocks.specs.Outcomes.{done, refused, silent, ◌>>=◌}
use Rattle.mk_blocks.specs.Runs.{After, Files, Reads, Run, all_turns, counted, counted_if, goes_on}
use Rattle.mk_blocks.specs.Runs.{max_files, next, run_at, stops}
use Rattle.mk_blocks.specs.declared.fault.FileFault.{FileFault}
use Rattle.mk_blocks.specs.declared.fault.FileFault.TheVariants.{TooManyFiles}
use Rattle.mk_blocks.specs.declared.kind.LineKind.{LineKind}
use Rattle.mk_blocks.specs.declared.language.IncludedFile.{IncludedFile}

-- the text of a line inside these turns, in a file of this name
abbrev pub in_turns_of : {W F : Type 0} → List ℕ → List Turn → LogLine
    → Result (List ℕ) (FileFault W F)
in_turns_of name turns l = turn_located name l.first (in_turns turns l.text)

abbrev pub with_state : {A S : Type 0} → Run S → A × S → A × Run S
with_state r given = (given.0, run_at given.1 r.count)

module _ {S W F : Type 0} where
  -- the limit of open files comes where there is a file to open
  abbrev pub opened : Files S W F → IncludedFile → Run S → Reads W F (Run S)
  opened None file r = refused TooManyFiles
  opened (Some read) file r = read file.name file.text r

  abbrev pub opened_if : Files S W F → Option IncludedFile × Run S → Reads W F (Run S)
  opened_if files (None, r) = done r
  opened_if files (Some file, r) = opened files file r

  -- What the language answers of a line inside these turns, in a file of this name. Where a loop
  -- makes the line too long, that is its fault, and the language is not asked.
  abbrev pub asked : {A : Type 0} → Question A S W → List ℕ → List Turn → LogLine → Run S
      → Reads W F (A × Run S)
  asked question name turns l r =
      silent (in_turns_of name turns l)
      >>= (λ text. in_place name l.first (question name l.first text r.state))
      >>= λ given. done (with_state r given)

  -- the one or the other
  abbrev pub either : Bool × Run S → (Run S → Reads W F (After S))
      → (Run S → Reads W F (After S)) → Reads W F (After S)
  either (true, r) first second = first r
  either (false, r) first second = second r

abbrev pub closed_run : {S W : Type 0} → LineMeaning S W → Run S → Run S
closed_run M r = run_at (M.closed r.state) r.count

module _ {S W F : Type 0} (M : LineMeaning S W) where
  abbrev pub line_step : Bool → List ℕ → List Turn → LogLine → Run S → Reads W F (Run S)
  line_step counts name turns l r =
      counted_if counts r >>= asked M.step name turns l >>= λ given. done given.1

  abbrev pub condition_step : List ℕ → List Turn → LogLine → Run S → Reads W F (Bool × Run S)
  condition_step name turns l r = counted r >>= asked M.condition name turns l

  abbrev pub turns_step : List ℕ → List Turn → LogLine → Run S → Reads W F (List Turn × Run S)
  turns_step name turns l r = counted r >>= asked M.turns name turns l

  abbrev pub wanted_step : List ℕ → List Turn → LogLine → Run S
      → Reads W F (Option IncludedFile × Run S)
  wanted_step name turns l r = counted r >>= asked M.included name turns l

  -- A branch of an if-block, or else what is left of the block. An `.else` has no condition.
  abbrev pub branch_step : Bool → List ℕ → List Turn → LogLine → (Run S → Reads W F (After S))
      → (Run S → Reads W F (After S)) → Run S → Reads W F (After S)
  branch_step true name turns l body others r = body r
  branch_step false name turns l body others r =
      condition_step name turns l r >>= λ holds. either holds body others

  -- The lines of a block in the file of this name, inside these turns, the outermost first.
  unfoldable mutual
    pub meaning : Files S W F → List ℕ → Block → List Turn → Run S → Reads W F (After S)
    meaning files name tree.none turns r = goes_on r
    meaning files name (tree.line counts l rest) turns r =
        line_step counts name turns l r >>= meaning files name rest turns
    meaning files name (tree.stop l rest) turns r = counted r >>= stops
    meaning files name (tree.file l rest) turns r =
        wanted_step name turns l r >>= opened_if files >>= meaning files name rest turns
    meaning files name (tree.choice l body others rest) turns r =
        branch_step false name turns l (meaning files name body turns)
        (chosen files name others turns) r
        >>= next (meaning files name rest turns)
    meaning files name (tree.loop l body rest) turns r =
        turns_step name turns l r
        >>= (λ t. all_turns (λ turn. meaning files name body (turns ++ turn ∷ [])) t.0 t.1)
        >>= meaning files name rest turns

    -- the first of these branches whose condition holds
    pub chosen : Files S W F → List ℕ → Branches → List Turn → Run S → Reads W F (After S)
    chosen files name tree.no_more turns r = goes_on r
    chosen files name (tree.branch is_else l body others) turns r =
        branch_step is_else name turns l (meaning files name body turns)
        (chosen files name others turns) r

  -- A file: the faults of its lines and blocks, then its lines, and its end.
  abbrev pub file_meaning : (List ℕ → LineKind) → Files S W F → List ℕ → List ℕ → Run S
      → Reads W F (Run S)
  file_meaning kind files name bytes r =
      silent (file_checked kind name bytes)
      >>= (λ checked. meaning files name (parse kind (lines_from 1 bytes)).block [] r)
      >>= λ a. done (closed_run M a.run)

  -- A file in which so many more files may be open at once.
  unfoldable pub file_at : (List ℕ → LineKind) → ℕ → List ℕ → List ℕ → Run S → Reads W F (Run S)
  file_at kind zero name bytes r = file_meaning kind None name bytes r
  file_at kind (suc room) name bytes r =
      file_meaning kind (Some (file_at kind room)) name bytes r

  -- the files that are included where so many more may be open at once
  unfoldable pub files_at : (List ℕ → LineKind) → ℕ → Files S W F
  files_at kind zero = None
  files_at kind (suc room) = Some (file_at kind room)

  -- A file, and all that it includes.
  abbrev pub file_read : (List ℕ → LineKind) → List ℕ → List ℕ → Run S → Reads W F (Run S)
  file_read kind name bytes r = file_at kind max_files name bytes r
