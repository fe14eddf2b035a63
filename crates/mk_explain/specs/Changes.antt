-- What has changed in the commands of a target.
use Rattle.std.specs.Prelude.{ℕ, ◌+◌, ◌==◌, List, [], ◌∷◌, ◌++◌, length, codes, decimal, not, false}
use Rattle.std.specs.Prelude.{if◌then◌else◌}
use Rattle.std.specs.Str.{bytes_eq}
use Rattle.mk_filemon.specs.Escapes.{escaped}
use Rattle.mk_meta.specs.Texts.{sign}
use Rattle.mk_meta.specs.declared.meta.Meta.{Meta}
use Rattle.mk_oodate.specs.Stale.{same_exports, same_line}
use Rattle.mk_world.specs.declared.command.Task.{Task}
use Rattle.mk_world.specs.declared.command.TaskLine.{TaskLine}

-- the text of a line, with a `-` before it where it is ignored
abbrev pub side_text : List ℕ → TaskLine → List ℕ
side_text label line = label ++ sign line.ignore ++ escaped false line.text

-- the number of a line, its old text and its new one
abbrev pub change_text : ℕ → TaskLine → TaskLine → List ℕ
change_text number line other =
    codes "command " ++ decimal number ++ side_text (codes "\n- ") other ++ side_text (codes "\n+ ") line

-- The first compared line that differs, where the lines from this number on are these, and were
-- those.
abbrev pub first_change : ℕ → List TaskLine → List TaskLine → List ℕ
first_change number [] others = []
first_change number (line ∷ lines) [] = []
first_change number (line ∷ lines) (other ∷ others) =
    if same_line line other then first_change (number + 1) lines others
    else change_text number line other

-- the old number of lines, and the new one
abbrev pub lines_text : ℕ → ℕ → List ℕ
lines_text old new = codes "lines " ++ decimal old ++ codes " " ++ decimal new

-- The first that differs: the directory, the exported variables, the number of lines, or a line.
abbrev pub command_text : Task → Meta → List ℕ
command_text task meta =
    if not (bytes_eq task.cwd meta.cwd) then codes "directory"
    else (if not (same_exports task.exports meta.exports) then codes "exports"
    else (if not (length task.lines == length meta.lines)
    then lines_text (length meta.lines) (length task.lines)
    else first_change 1 task.lines meta.lines))
