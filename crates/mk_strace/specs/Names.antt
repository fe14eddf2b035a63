-- How calls name files.
use Rattle.std.specs.Prelude.{ℕ, Bool, true, false, not, ◌==◌, ◌&&◌, ◌||◌, nat_eq, List, [], ◌∷◌}
use Rattle.std.specs.Prelude.{◌++◌}
use Rattle.std.specs.Prelude.{codes, length, take, ◌-◌, slice_index, Option, Some, None}
use Rattle.std.specs.Prelude.{option_and_then, if◌then◌else◌}
use Rattle.std.specs.List.{starts_with}
use Rattle.std.specs.Option.{option_map}
use Rattle.std.specs.Str.{bytes_eq}
use Rattle.mk_bytes.specs.Paths.{is_absolute}
use Rattle.mk_filemon.specs.Escapes.{cut_at}
use Rattle.mk_strace.specs.Quoted.{unquoted}
use Rattle.mk_strace.specs.Scan.{Cut, cut}
use Rattle.mk_strace.specs.declared.scan.Mode.TheVariants.{Plain}
use Rattle.mk_strace.specs.declared.name.Name.{Name}
use Rattle.mk_strace.specs.declared.name.Name.TheVariants.{Path, Here, Open, Nameless, Unclear}

-- what stands between `<` and `>`, and whether `(deleted)` follows
abbrev pub with_end : List ℕ × List ℕ → Option (List ℕ × Bool)
with_end (text, rest) =
    option_map (λ path. (path, starts_with nat_eq rest (codes "(deleted)"))) (unquoted text)

abbrev pub shown_in : List ℕ → Option (List ℕ × Bool)
shown_in piece = option_and_then
    (λ parts. option_and_then with_end (cut_at 62 parts.1)) (cut_at 60 piece)

abbrev pub open_name : List ℕ → Bool → Name
open_name path is_gone = if is_gone || not (is_absolute path) then Nameless else Open path

abbrev pub is_here : List ℕ → Bool
is_here piece = bytes_eq piece (codes "AT_FDCWD")

abbrev pub open_by : Option (List ℕ × Bool) → Name
open_by None = Unclear
open_by (Some shown) = open_name shown.0 shown.1

-- What is open: `AT_FDCWD` is the directory of the process, and an open file is a number with its
-- path in `<` and `>`.
abbrev pub open_in : List ℕ → Name
open_in piece = if is_here piece then Here [] else open_by (shown_in piece)

abbrev pub joined : List ℕ → List ℕ → List ℕ
joined directory path = directory ++ 47 ∷ path

abbrev pub below : Name → List ℕ → Name
below (Path directory) path = Path directory
below (Here directory) path = Here path
below (Open directory) path = Path (joined directory path)
below Nameless path = Nameless
below Unclear path = Unclear

-- A path against what is open. An empty one is what is open.
abbrev pub against : Name → List ℕ → Name
against base path =
    if is_absolute path then Path path
    else (if bytes_eq path [] then base else below base path)

abbrev pub ends_quoted : List ℕ → Bool
ends_quoted [] = false
ends_quoted (byte ∷ text) = slice_index (byte ∷ text) (length text) == 34

-- the text of a word in quotes
abbrev pub text_of : List ℕ → Option (List ℕ)
text_of [] = None
text_of (byte ∷ text) =
    if byte == 34 && ends_quoted text then unquoted (take (length text - 1) text) else None

abbrev pub is_null : List ℕ → Bool
is_null piece = bytes_eq piece (codes "NULL")

abbrev pub named_by : Name → Option (List ℕ) → Name
named_by base None = Unclear
named_by base (Some path) = against base path

-- What a word names against what is open; without a path that itself.
abbrev pub named : Name → List ℕ → Name
named base piece = if is_null piece then base else named_by base (text_of piece)

abbrev pub by_second : Name → Cut → Option (Name × List ℕ)
by_second base found = option_map (λ one. (named base one.0, one.2)) found

abbrev pub by_first : Bool → List ℕ × Bool × List ℕ → Option (Name × List ℕ)
by_first false (first, is_last, rest) = Some (named (Here []) first, rest)
by_first true (first, is_last, rest) =
    if is_last then None else by_second (open_in first) (cut true Plain rest)

-- What a call names first, and the words behind it: by one word, or by two of which the first is an
-- open directory.
abbrev pub name_at : Bool → List ℕ → Option (Name × List ℕ)
name_at by_open words = option_and_then (by_first by_open) (cut true Plain words)
