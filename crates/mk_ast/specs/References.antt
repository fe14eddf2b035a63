-- Reading references, and with them a whole text.
use Rattle.std.specs.Prelude.{ℕ, zero, suc, ◌+◌, ◌-◌, ◌==◌, Bool, true, if◌then◌else◌, List, []}
use Rattle.std.specs.Prelude.{◌∷◌}
use Rattle.std.specs.Prelude.{length, drop, Result, Ok, Err}
use Rattle.mk_bytes.specs.Agrees.{◌>>=◌}
use Rattle.mk_bytes.specs.Bytes.{colon}
use Rattle.mk_ast.specs.Tree.{Tree, Part, Mods, end, part, ref, no_mods, mod_then}
use Rattle.mk_ast.specs.Text.{Read, Refs, text_in, dollar_at}
use Rattle.mk_ast.specs.Modifiers.{modifier_at}
use Rattle.mk_ast.specs.declared.fault.AstFault.{AstFault}
use Rattle.mk_ast.specs.declared.fault.AstFault.TheVariants.{Unclosed, TooDeep}
use Rattle.mk_ast.specs.declared.place.Place.TheVariants.{Whole, Name, Piece as InCondition}
use Rattle.mk_ast.specs.declared.place.Piece.{Piece}

-- The modifiers up to the closer, which is passed. The number bounds them; the length of the bytes
-- is always enough.
unfoldable pub mods_at : Refs → ℕ → ℕ → Bool → ℕ → List ℕ → Read Mods
mods_at refs total opened round zero bytes = Err (Unclosed opened)
mods_at refs total opened round (suc turns) [] = Err (Unclosed opened)
mods_at refs total opened round (suc turns) (byte ∷ bytes) =
    if byte == colon then (modifier_at refs total opened round bytes
    >>= λ m. mods_at refs total opened round turns m.1
    >>= λ mods. Ok (mod_then m.0 mods.0, mods.1))
    else Ok (no_mods, bytes)

-- the modifiers from these bytes on
abbrev pub mods_in : Refs → ℕ → ℕ → Bool → List ℕ → Read Mods
mods_in refs total opened round bytes = mods_at refs total opened round (length bytes) bytes

-- A name and its modifiers up to the closer, which is passed. `opened` is the place that a missing
-- closer is told by.
abbrev pub named_at : Refs → ℕ → ℕ → Bool → List ℕ → Read (Tree × Mods)
named_at refs total opened round bytes =
    text_in refs (Name round 0) bytes
    >>= λ name. mods_in refs total opened round name.1
    >>= λ mods. Ok ((name.0, mods.0), mods.1)

-- the place of the `$` before an opener and these bytes
abbrev pub dollar_before : ℕ → List ℕ → ℕ
dollar_before total bytes = total - (length bytes + 2)

-- A reference behind its opener, where so many may still be open at once.
unfoldable pub ref_at : ℕ → ℕ → Refs
ref_at total zero round bytes = Err (TooDeep (dollar_before total bytes))
ref_at total (suc depth) round bytes =
    named_at (ref_at total depth) total (dollar_before total bytes) round bytes
    >>= λ n. Ok (ref round n.0.0 n.0.1, n.1)

-- how many references may be open at once
abbrev pub max_open : ℕ
max_open = 256

-- The tree of a text, or its first fault.
abbrev pub tree_of_text : List ℕ → Result Tree AstFault
tree_of_text text = text_in (ref_at (length text) max_open) Whole text >>= λ t. Ok t.0

-- the form that a `$` begins, behind the `$`, in a text that is `total` bytes long
abbrev pub form_at : ℕ → List ℕ → Read Part
form_at total bytes = dollar_at (ref_at total max_open) Whole bytes

-- The place directly after the form that begins at a `$`, or the first fault inside it.
abbrev pub end_of_form : List ℕ → ℕ → Result ℕ AstFault
end_of_form text at = form_at (length text) (drop (at + 1) text)
    >>= λ p. Ok (length text - length p.1)

-- A piece of a condition that is `total` bytes long. It ends before the byte that ends it, and
-- begins with no open reference.
abbrev pub piece_at : ℕ → Piece → List ℕ → Read Tree
piece_at total piece bytes = text_in (ref_at total max_open) (InCondition piece) bytes

-- A reference without its `$` and opener, up to its parenthesis, which is passed, in a text that is
-- `total` bytes long. As it has no `$`, a missing parenthesis is told by the end of the text.
abbrev pub bare_reference_at : ℕ → List ℕ → Read Tree
bare_reference_at total bytes = named_at (ref_at total (max_open - 1)) total total true bytes
    >>= λ n. Ok (part (ref true n.0.0 n.0.1) end, n.1)
