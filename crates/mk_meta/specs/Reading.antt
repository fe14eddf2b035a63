-- How the text of a meta file is read, line by line from its beginning.
use Rattle.std.specs.Prelude.{ℕ, zero, suc, ◌==◌, Bool, true, false, nat_eq, nat_le, nat_lt}
use Rattle.std.specs.Prelude.{◌≡◌, ◌++◌, List}
use Rattle.std.specs.Borrow.{Bor}
use Rattle.std.specs.Prelude.{[], ◌∷◌, length, take, drop, codes, Option, Some, None, if◌then◌else◌}
use Rattle.std.specs.Prelude.{option_and_then}
use Rattle.std.specs.List.{starts_with}
use Rattle.std.specs.Option.{option_map}
use Rattle.std.specs.Str.{bytes_eq}
use Rattle.mk_bytes.specs.Bytes.{newline, minus, equals_sign}
use Rattle.mk_bytes.specs.declared.pair.Pair.{Pair}
use Rattle.mk_filemon.specs.Escapes.{cut_at, unescaped, number_in}
use Rattle.mk_filemon.specs.Records.{record_in}
use Rattle.mk_filemon.specs.declared.record.Rec.{Rec}
use Rattle.mk_world.specs.declared.command.TaskLine.{TaskLine}
use Rattle.mk_meta.specs.Lawful.{is_command, is_export_name, are_sorted}
use Rattle.mk_meta.specs.Texts.{head_line}
use Rattle.mk_meta.specs.declared.meta.Meta.{Meta}

infixl 10 ◌>>=◌
abbrev pub ◌>>=◌ : {A B : Type 0} → Option A → (A → Option B) → Option B
found >>= next = option_and_then next found

-- what is read, and what follows it
abbrev pub Read : Type 0 → Type 0
Read A = Option (A × List ℕ)

abbrev pub stripped : List ℕ → List ℕ → Option (List ℕ)
stripped label text =
    if starts_with nat_eq text label then Some (drop (length label) text) else None

-- a line by what it holds
abbrev pub line_read : {A : Type 0} → (List ℕ → Option A) → List ℕ → Read A
line_read holds text =
    cut_at newline text >>= λ cut. option_map (λ held. (held, cut.1)) (holds cut.0)

abbrev pub text_in : List ℕ → List ℕ → Option (List ℕ)
text_in label line = stripped label line >>= unescaped

abbrev pub number_behind : List ℕ → List ℕ → Option ℕ
number_behind label line = stripped label line >>= number_in

abbrev pub kept : Bool → List ℕ → Option TaskLine
kept ignore text =
    if is_command text
    then Some (record {
      text = text;
      ignore = ignore;
      silent = false;
      always = false;
      compared = false;
    }) else None

abbrev pub command_of : Bool → List ℕ → Option TaskLine
command_of ignore text = unescaped text >>= kept ignore

abbrev pub command_behind : List ℕ → Option TaskLine
command_behind [] = command_of false []
command_behind (byte ∷ text) =
    if byte == minus then command_of true text else command_of false (byte ∷ text)

abbrev pub command_in : List ℕ → Option TaskLine
command_in line = stripped (codes "CMD ") line >>= command_behind

abbrev pub named : List ℕ × List ℕ → Option Pair
named (name, text) =
    if is_export_name name
    then option_map (λ value. record { name = name; value = value }) (unescaped text) else None

abbrev pub export_in : List ℕ → Option Pair
export_in line = stripped (codes "ENV ") line >>= λ text. cut_at equals_sign text >>= named

abbrev pub of_lines : ℕ → Rec → Option Rec
of_lines count one = if nat_le one.line count then Some one else None

abbrev pub record_of : ℕ → List ℕ → Option Rec
record_of count line = record_in line >>= of_lines count

-- as many as follow one another, of at most so many
abbrev pub Many : Type 0 → Type 0
Many A = List A × List ℕ

abbrev pub first_of : {A : Type 0} → List ℕ → (List ℕ → Many A) → Read A → Many A
first_of text more None = ([], text)
first_of text more (Some (item, rest)) = (item ∷ (more rest).0, (more rest).1)

unfoldable pub many : {A : Type 0} → (List ℕ → Read A) → ℕ → List ℕ → Many A
many one zero text = ([], text)
many one (suc most) text = first_of text (many one most) (one text)

-- as many as there are
abbrev pub all_of : {A : Type 0} → (List ℕ → Read A) → List ℕ → Many A
all_of one text = many one (length text) text

-- an item that was read stands behind those before it, and what follows it is left; or there was
-- none
abbrev pub IsTaken : {A : Type 0} → Option (A × Bor (List ℕ)) → List A → List A
    → Option (Bor (List ℕ)) → Type 0
IsTaken None old new rest = (new ≡ old) × (rest ≡ None)
IsTaken (Some (item, after)) old new rest = (new ≡ old ++ item ∷ []) × (rest ≡ Some after)

-- the stamp, the commands and their directory
pub record Front : Type 0 where
  pub stamp : ℕ
  pub lines : List TaskLine
  pub cwd : List ℕ

abbrev pub front_behind : ℕ → Many TaskLine → Read Front
front_behind stamp (lines, text) =
    option_map (λ cwd. (record { stamp = stamp; lines = lines; cwd = cwd.0 }, cwd.1))
    (line_read (text_in (codes "CWD ")) text)

abbrev pub front_at : List ℕ → Read Front
front_at text =
    line_read (number_behind (codes "STAMP ")) text
    >>= λ stamp. front_behind stamp.0 (all_of (line_read command_in) stamp.1)

-- so many bytes, and a newline
abbrev pub counted : List ℕ × List ℕ → Read (List ℕ)
counted (output, []) = None
counted (output, byte ∷ rest) = if byte == newline then Some (output, rest) else None

abbrev pub output_of : ℕ → List ℕ → Read (List ℕ)
output_of count text =
    if nat_lt count (length text) then counted (take count text, drop count text) else None

abbrev pub output_at : List ℕ → Read (List ℕ)
output_at text =
    line_read (number_behind (codes "OUTPUT ")) text
    >>= λ count. stripped (codes "-- command output --\n") count.1 >>= output_of count.0

-- the exported variables, the target and the output
pub record Middle : Type 0 where
  pub exports : List Pair
  pub target : List ℕ
  pub output : List ℕ

abbrev pub middle_behind : List Pair → List ℕ → Read (List ℕ) → Read Middle
middle_behind exports target output =
    option_map (λ found. (record { exports = exports; target = target; output = found.0 }, found.1))
    output

abbrev pub target_behind : Many Pair → Read Middle
target_behind (exports, text) =
    line_read (text_in (codes "TARGET ")) text
    >>= λ target. middle_behind exports target.0 (output_at target.1)

abbrev pub sorted : Many Pair → Read Middle
sorted (exports, text) = if are_sorted exports then target_behind (exports, text) else None

abbrev pub middle_at : List ℕ → Read Middle
middle_at text = sorted (all_of (line_read export_in) text)

-- the records, where there are any, and the last line
abbrev pub Records : Type 0
Records = Option (List Rec)

abbrev pub end_behind : Records → List ℕ → Read Records
end_behind records text = option_map (λ rest. (records, rest)) (stripped (codes "# end 3\n") text)

abbrev pub some_records : Many Rec → Read Records
some_records (records, text) = end_behind (Some records) text

abbrev pub records_behind : ℕ → List ℕ → Option (List ℕ) → Read Records
records_behind count text None = end_behind None text
records_behind count text (Some rest) = some_records (all_of (line_read (record_of count)) rest)

abbrev pub records_at : ℕ → List ℕ → Read Records
records_at count text =
    records_behind count text (stripped (codes "-- filemon acquired metadata --\n") text)

abbrev pub value_of : Front → Middle → Records → Meta
value_of front middle records = record {
  stamp = record { 0 = front.stamp };
  exports = middle.exports;
  lines = front.lines;
  cwd = front.cwd;
  target = middle.target;
  output = middle.output;
  records = records;
}

-- the first line names the target
abbrev pub whole : List ℕ → Meta → List ℕ → Read Meta
whole first meta rest = if bytes_eq (head_line meta.target) first then Some (meta, rest) else None

abbrev pub meta_behind : List ℕ → Front × List ℕ → Read Meta
meta_behind first (front, text) =
    middle_at text >>= λ middle. records_at (length front.lines) middle.1
    >>= λ records. whole first (value_of front middle.0 records.0) records.1

-- The value that a text begins with, and what follows it.
abbrev pub meta_at : List ℕ → Read Meta
meta_at text = cut_at newline text >>= λ first. front_at first.1 >>= meta_behind first.0

abbrev pub no_rest : Meta × List ℕ → Option Meta
no_rest (meta, []) = Some meta
no_rest (meta, byte ∷ rest) = None

-- The value that a text is.
abbrev pub meta_in : List ℕ → Option Meta
meta_in text = meta_at text >>= no_rest
