-- Which values have a meta file.
use Rattle.std.specs.Prelude.{◌≡◌, ℕ, ◌<◌, ◌^◌, ◌==◌, ◌||◌, ◌&&◌, Bool, true, false, not, List}
use Rattle.std.specs.Prelude.{[], ◌∷◌, length, IfSome, nat_le}
use Rattle.std.specs.Cmp.Lexicographic.{slice_cmp}
use Rattle.std.specs.List.{AllByRecursion, list_all}
use Rattle.std.specs.Ordering.{nat_cmp, is_lt}
use Rattle.mk_bytes.specs.Bytes.{is_blank, at_sign, minus, plus, underscore, is_letter, is_digit}
use Rattle.mk_bytes.specs.declared.pair.Pair.{Pair}
use Rattle.mk_filemon.specs.Records.{IsLine}
use Rattle.mk_filemon.specs.declared.record.Rec.{Rec}
use Rattle.mk_world.specs.declared.command.TaskLine.{TaskLine}
use Rattle.mk_meta.specs.declared.meta.Meta.{Meta}

-- a command's text begins with none of the bytes that are taken off a command line
abbrev pub is_command : List ℕ → Bool
is_command [] = true
is_command (byte ∷ text) =
    not (is_blank byte || byte == at_sign || byte == minus || byte == plus)

-- of a line only its text and whether it is ignored are kept
pub record IsKept (line : TaskLine) : Type 0 where
  pub command : is_command line.text ≡ true
  pub silent : line.silent ≡ false
  pub always : line.always ≡ false
  pub compared : line.compared ≡ false

abbrev pub is_name_byte : ℕ → Bool
is_name_byte byte = is_letter byte || is_digit byte || byte == underscore

-- letters, digits and `_`, with no digit first
abbrev pub is_export_name : List ℕ → Bool
is_export_name [] = false
is_export_name (byte ∷ name) = not (is_digit byte) && list_all is_name_byte (byte ∷ name)

abbrev pub is_before : Pair → List Pair → Bool
is_before pair [] = true
is_before pair (next ∷ pairs) = is_lt (slice_cmp nat_cmp pair.name next.name)

-- in the order of their names, each name once
abbrev pub are_sorted : List Pair → Bool
are_sorted [] = true
are_sorted (pair ∷ pairs) = is_before pair pairs && are_sorted pairs

-- a record of one of so many lines
abbrev pub IsOfLines : ℕ → Rec → Type 0
IsOfLines count one = IsLine one.line × (nat_le one.line count ≡ true)

pub record IsLawful (meta : Meta) : Type 0 where
  pub stamp : meta.stamp.0 < 2 ^ 64
  pub output : length meta.output < 2 ^ 64
  pub lines : AllByRecursion IsKept meta.lines
  pub names : AllByRecursion (λ pair. is_export_name pair.name ≡ true) meta.exports
  pub sorted : are_sorted meta.exports ≡ true
  pub records : IfSome meta.records (AllByRecursion (IsOfLines (length meta.lines)))
