-- The text of a meta file (make(1), "META MODE"), in this project's own form.
use Rattle.std.specs.Prelude.{ℕ, Bool, true, false, List, [], ◌∷◌, ◌++◌, length, flat_map, codes}
use Rattle.std.specs.Prelude.{Option, Some, None, decimal}
use Rattle.mk_bytes.specs.Bytes.{newline, minus, equals_sign}
use Rattle.mk_bytes.specs.declared.pair.Pair.{Pair}
use Rattle.mk_filemon.specs.Escapes.{escaped}
use Rattle.mk_filemon.specs.Records.{record_text}
use Rattle.mk_filemon.specs.declared.record.Rec.{Rec}
use Rattle.mk_world.specs.declared.command.TaskLine.{TaskLine}
use Rattle.mk_meta.specs.declared.meta.Meta.{Meta}

-- a line of a label and a text
abbrev pub line_of : List ℕ → List ℕ → List ℕ
line_of label text = label ++ escaped false text ++ newline ∷ []

abbrev pub number_line : List ℕ → ℕ → List ℕ
number_line label number = label ++ decimal number ++ newline ∷ []

-- the first line, without its newline
abbrev pub head_line : List ℕ → List ℕ
head_line target = codes "# Meta data file " ++ escaped false target ++ codes ".meta"

-- What is written when a job begins: the first line.
abbrev pub head : List ℕ → List ℕ
head target = head_line target ++ newline ∷ []

-- a sign where the line's status is ignored
abbrev pub sign : Bool → List ℕ
sign true = minus ∷ []
sign false = []

abbrev pub command_line : TaskLine → List ℕ
command_line line = codes "CMD " ++ sign line.ignore ++ escaped false line.text ++ newline ∷ []

abbrev pub export_line : Pair → List ℕ
export_line pair =
    codes "ENV " ++ pair.name ++ equals_sign ∷ escaped false pair.value ++ newline ∷ []

-- the output as it is, behind its length
abbrev pub output_lines : List ℕ → List ℕ
output_lines output =
    number_line (codes "OUTPUT ") (length output) ++ codes "-- command output --\n"
    ++ output ++ newline ∷ []

abbrev pub record_line : Rec → List ℕ
record_line one = record_text one.line one.op ++ newline ∷ []

abbrev pub records_lines : Option (List Rec) → List ℕ
records_lines None = []
records_lines (Some records) =
    codes "-- filemon acquired metadata --\n" ++ flat_map record_line records

-- the stamp, the commands and their directory
abbrev pub front : Meta → List ℕ
front meta =
    number_line (codes "STAMP ") meta.stamp.0 ++ flat_map command_line meta.lines
    ++ line_of (codes "CWD ") meta.cwd

-- the exported variables, the target and the output
abbrev pub middle : Meta → List ℕ
middle meta =
    flat_map export_line meta.exports ++ line_of (codes "TARGET ") meta.target
    ++ output_lines meta.output

-- The text of a meta value.
abbrev pub meta_text : Meta → List ℕ
meta_text meta =
    head meta.target ++ front meta ++ middle meta ++ records_lines meta.records
    ++ codes "# end 3\n"
