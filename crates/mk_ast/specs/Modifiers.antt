-- Reading a modifier, behind its `:`.
use Rattle.std.specs.Prelude.{ℕ, ◌+◌, ◌-◌, ◌==◌, ◌||◌, Bool, true, not, if◌then◌else◌, List, []}
use Rattle.std.specs.Prelude.{◌∷◌, length, drop, take, Option, Some, None, position, unwrap_or, Ok}
use Rattle.std.specs.Prelude.{Err}
use Rattle.mk_bytes.specs.Agrees.{◌>>=◌}
use Rattle.mk_bytes.specs.Bytes.{equals_sign}
use Rattle.mk_ast.specs.Tree.{Tree, Mod, keep, without, subst, separator, select, range_to}
use Rattle.mk_ast.specs.Tree.{if_undefined, if_defined, choose, each, suffix, empty}
use Rattle.mk_ast.specs.Places.{ends_modifier}
use Rattle.mk_ast.specs.Text.{Read, Refs, text_in}
use Rattle.mk_ast.specs.Rows.{is_end, word_text, word_mod, row_of}
use Rattle.mk_ast.specs.Separators.{separator_len, name_len}
use Rattle.mk_ast.specs.declared.fault.AstFault.TheVariants.{Unclosed, UnknownModifier, BadModifier}
use Rattle.mk_ast.specs.declared.place.Place.{Place}
use Rattle.mk_ast.specs.declared.place.Place.TheVariants as place
use Rattle.mk_ast.specs.declared.row.Argument.{Argument}
use Rattle.mk_ast.specs.declared.row.Argument.TheVariants as argument
use Rattle.mk_ast.specs.declared.row.Row.{Row}
use Rattle.mk_ast.specs.declared.row.Row.TheVariants as row

-- a modifier of the text that is read
abbrev pub made : (Tree → Mod) → Read Tree → Read Mod
made mod_of text = text >>= λ t. Ok (mod_of t.0, t.1)

-- a letter or a word, and then a text up to the end
abbrev pub argument_at : Refs → Bool → Argument → List ℕ → Read Mod
argument_at refs round argument.Keep bytes =
    made keep (text_in refs (place.Pattern round) (drop 1 bytes))
argument_at refs round argument.Without bytes =
    made without (text_in refs (place.Pattern round) (drop 1 bytes))
argument_at refs round argument.RangeTo bytes =
    made range_to (text_in refs (place.Count round) (drop 6 bytes))
argument_at refs round argument.IfUndefined bytes =
    made if_undefined (text_in refs (place.Value round) (drop 1 bytes))
argument_at refs round argument.IfDefined bytes =
    made if_defined (text_in refs (place.Value round) (drop 1 bytes))

-- the place of the text behind a letter or a word
abbrev pub argument_place : Bool → Argument → Place
argument_place round argument.Keep = place.Pattern round
argument_place round argument.Without = place.Pattern round
argument_place round argument.RangeTo = place.Count round
argument_place round argument.IfUndefined = place.Value round
argument_place round argument.IfDefined = place.Value round

-- how many bytes a letter or a word is
abbrev pub argument_len : Argument → ℕ
argument_len argument.Keep = 1
argument_len argument.Without = 1
argument_len argument.RangeTo = 6
argument_len argument.IfUndefined = 1
argument_len argument.IfDefined = 1

-- what a letter or a word makes of its text
abbrev pub argument_mod : Argument → Tree → Mod
argument_mod argument.Keep = keep
argument_mod argument.Without = without
argument_mod argument.RangeTo = range_to
argument_mod argument.IfUndefined = if_undefined
argument_mod argument.IfDefined = if_defined

-- past the delimiter that ended a text; without it the modifier is not completed
abbrev pub past_delim : ℕ → Tree × List ℕ → Read Tree
past_delim start (text, []) = Err (BadModifier start)
past_delim start (text, byte ∷ bytes) = Ok (text, bytes)

-- a text with the delimiter that ends it
abbrev pub closed_at : Refs → ℕ → Place → List ℕ → Read Tree
closed_at refs start place bytes = text_in refs place bytes >>= λ t. past_delim start t

-- a modifier that an end must follow
abbrev pub ended : ℕ → Bool → Mod → List ℕ → Read Mod
ended start round m bytes = if is_end round bytes then Ok (m, bytes) else Err (BadModifier start)

-- a byte of the flags `1`, `g` and `W` of `:S`
abbrev pub is_flag : ℕ → Bool
is_flag byte = byte == 49 || byte == 103 || byte == 87

abbrev pub is_no_flag : ℕ → Bool
is_no_flag byte = not (is_flag byte)

abbrev pub flags_len : List ℕ → ℕ
flags_len bytes = unwrap_or (position is_no_flag bytes) (length bytes)

-- the flags of `:S`, which an end must follow
abbrev pub flags_at : ℕ → Bool → List ℕ → Read (List ℕ)
flags_at start round bytes =
    if is_end round (drop (flags_len bytes) bytes) then Ok
    (take (flags_len bytes) bytes, drop (flags_len bytes) bytes)
    else Err (BadModifier start)

-- `S/from/to/flags`, behind the `S`; the delimiter is no end of a modifier
abbrev pub subst_at : Refs → ℕ → Bool → List ℕ → Read Mod
subst_at refs start round [] = Err (BadModifier start)
subst_at refs start round (delim ∷ bytes) =
    if ends_modifier round delim then Err (BadModifier start)
    else (closed_at refs start (place.From delim true) bytes
    >>= λ from. closed_at refs start (place.To delim) from.1
    >>= λ to. flags_at start round to.1
    >>= λ flags. Ok (subst delim from.0 to.0 flags.0, flags.1))

-- `tsC`, behind the `ts`
abbrev pub separator_of : ℕ → List ℕ → Option ℕ → Read Mod
separator_of start bytes None = Err (BadModifier start)
separator_of start bytes (Some len) = Ok (separator (take len bytes), drop len bytes)

abbrev pub separator_at : ℕ → Bool → List ℕ → Read Mod
separator_at start round bytes = separator_of start bytes (separator_len round bytes)

-- `[places]`, behind the bracket
abbrev pub select_at : Refs → ℕ → Bool → List ℕ → Read Mod
select_at refs start round bytes =
    closed_at refs start place.Select bytes >>= λ t. ended start round (select t.0) t.1

-- `?first:second`, behind the `?`
abbrev pub choose_at : Refs → ℕ → Bool → List ℕ → Read Mod
choose_at refs start round bytes =
    closed_at refs start (place.IfTrue round) bytes
    >>= λ first. text_in refs (place.IfFalse round) first.1
    >>= λ second. ended start round (choose first.0 second.0) second.1

-- `@name@body@`, behind the first `@`
abbrev pub each_of : Refs → ℕ → Bool → List ℕ → Option ℕ → Read Mod
each_of refs start round bytes None = Err (BadModifier start)
each_of refs start round bytes (Some len) =
    closed_at refs start place.Body (drop (len + 1) bytes)
    >>= λ body. ended start round (each (take len bytes) body.0) body.1

abbrev pub each_at : Refs → ℕ → Bool → List ℕ → Read Mod
each_at refs start round bytes = each_of refs start round bytes (name_len bytes)

-- what follows the old text of `old=new`: without a `=` it was no modifier
abbrev pub new_at : Refs → ℕ → ℕ → Bool → Tree → List ℕ → Read Mod
new_at refs start opened round old [] = Err (Unclosed opened)
new_at refs start opened round old (byte ∷ bytes) =
    if byte == equals_sign then made (suffix old) (text_in refs (place.New round) bytes)
    else Err (UnknownModifier start)

abbrev pub suffix_at : Refs → ℕ → ℕ → Bool → List ℕ → Read Mod
suffix_at refs start opened round bytes =
    text_in refs (place.Old round) bytes >>= λ old. new_at refs start opened round old.0 old.1

-- A modifier by its row. It begins at the place `start`, in the reference at the place `opened`.
abbrev pub row_at : Refs → ℕ → ℕ → Bool → Row → List ℕ → Read Mod
row_at refs start opened round row.LeftOut bytes = Err (UnknownModifier start)
row_at refs start opened round row.Empty bytes = Ok (empty, bytes)
row_at refs start opened round (row.Word word) bytes =
    Ok (word_mod word, drop (length (word_text word)) bytes)
row_at refs start opened round (row.Argument argument) bytes = argument_at refs round argument bytes
row_at refs start opened round row.Subst bytes = subst_at refs start round (drop 1 bytes)
row_at refs start opened round row.Separator bytes = separator_at start round (drop 2 bytes)
row_at refs start opened round row.Select bytes = select_at refs start round (drop 1 bytes)
row_at refs start opened round row.Choose bytes = choose_at refs start round (drop 1 bytes)
row_at refs start opened round row.Each bytes = each_at refs start round (drop 1 bytes)
row_at refs start opened round row.Suffix bytes = suffix_at refs start opened round bytes

-- A modifier of a text that is `total` bytes long.
abbrev pub modifier_at : Refs → ℕ → ℕ → Bool → List ℕ → Read Mod
modifier_at refs total opened round bytes =
    row_at refs (total - length bytes) opened round (row_of round bytes) bytes
