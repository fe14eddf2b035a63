-- Reading a text: its parts, up to its end.
use Rattle.std.specs.Prelude.{ℕ, zero, suc, ◌==◌, ◌||◌, Bool, true, false, not, if◌then◌else◌, List}
use Rattle.std.specs.Prelude.{[], ◌∷◌, length, Result, Ok}
use Rattle.mk_bytes.specs.Agrees.{◌>>=◌}
use Rattle.mk_bytes.specs.Bytes.{is_blank, newline, dollar, round_open, round_close, curly_open}
use Rattle.mk_bytes.specs.Bytes.{curly_close, colon}
use Rattle.mk_ast.specs.Tree.{Tree, Part, end, part, plain, escaped, double, lone, short}
use Rattle.mk_ast.specs.Places.{ends, is_escape, is_anchor, after}
use Rattle.mk_ast.specs.declared.fault.AstFault.{AstFault}
use Rattle.mk_ast.specs.declared.place.Place.{Place}

-- what is read, and the bytes that follow it; or the first fault
abbrev pub Read : Type 0 → Type 0
Read A = Result (A × List ℕ) AstFault

-- a reader of what follows a `$` and an opener, which is round or not
abbrev pub Refs : Type 0
Refs = Bool → List ℕ → Read Part

-- a `$` before such a byte is itself
abbrev pub is_lone_before : ℕ → Bool
is_lone_before byte =
    is_blank byte || byte == newline || byte == round_close || byte == curly_close || byte == colon

-- what a `$` begins
abbrev pub dollar_at : Refs → Place → List ℕ → Read Part
dollar_at refs place [] = Ok (lone, [])
dollar_at refs place (byte ∷ bytes) =
    if is_anchor place byte || is_lone_before byte then Ok (lone, byte ∷ bytes)
    else (if byte == dollar then Ok (double, bytes)
    else (if byte == curly_open then refs false bytes
    else (if byte == round_open then refs true bytes
    else Ok (short byte, bytes))))

-- whether a byte before these stands for itself
abbrev pub is_plain : Place → ℕ → List ℕ → Bool
is_plain place byte bytes = not (ends place byte || byte == dollar || is_escape place byte bytes)

abbrev pub begins_plain : Place → List ℕ → Bool
begins_plain place [] = false
begins_plain place (byte ∷ bytes) = is_plain place byte bytes

-- a run of bytes, the place after it, and what follows
abbrev pub Run : Type 0
Run = List ℕ × Place × List ℕ

abbrev pub with_first : ℕ → Run → Run
with_first byte run = (byte ∷ run.0, run.1, run.2)

-- the plain bytes at the beginning
abbrev pub plain_run : Place → List ℕ → Run
plain_run place [] = ([], place, [])
plain_run place (byte ∷ bytes) =
    if is_plain place byte bytes then with_first byte (plain_run (after place byte) bytes)
    else ([], place, byte ∷ bytes)

-- the byte that a backslash escapes
abbrev pub escaped_at : List ℕ → Part × List ℕ
escaped_at [] = (escaped 0, [])
escaped_at (byte ∷ bytes) = (escaped byte, bytes)

-- a part with what follows it, and the place there
abbrev pub at_place : Place → Part × List ℕ → Part × Place × List ℕ
at_place place p = (p.0, place, p.1)

abbrev pub plain_part : Run → Part × Place × List ℕ
plain_part run = (plain run.0, run.1, run.2)

-- A part begins with a `$`, or it is an escape, or as many plain bytes as there are.
abbrev pub part_at : Refs → Place → ℕ → List ℕ → Result (Part × Place × List ℕ) AstFault
part_at refs place byte bytes =
    if byte == dollar then (dollar_at refs place bytes >>= λ p. Ok (at_place (after place byte) p))
    else (if is_escape place byte bytes then Ok (at_place (after place byte) (escaped_at bytes))
    else Ok (plain_part (with_first byte (plain_run (after place byte) bytes))))

-- A text up to its end. The number bounds its parts; the length of the bytes is always enough.
unfoldable pub text_at : Refs → Place → ℕ → List ℕ → Read Tree
text_at refs place zero bytes = Ok (end, bytes)
text_at refs place (suc turns) [] = Ok (end, [])
text_at refs place (suc turns) (byte ∷ bytes) =
    if ends place byte then Ok (end, byte ∷ bytes)
    else (part_at refs place byte bytes
    >>= λ p. text_at refs p.1 turns p.2
    >>= λ t. Ok (part p.0 t.0, t.1))

-- a text from these bytes on
abbrev pub text_in : Refs → Place → List ℕ → Read Tree
text_in refs place bytes = text_at refs place (length bytes) bytes
