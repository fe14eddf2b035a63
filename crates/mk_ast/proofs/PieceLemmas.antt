-- The texts of a condition, read and spelled.
use Rattle.std.proofs.Common.{◌≡◌, ℕ, ◌-◌, true, List, ◌∷◌, ◌++◌, length, Ok, Err, refl}
use Rattle.std.proofs.Common.{arith}
use Rattle.mk_bytes.specs.Bytes.{round_close}
use Rattle.mk_ast.specs.Tree.{Tree, end, part, ref}
use Rattle.mk_ast.specs.Spell.{spell, spell_mods}
use Rattle.mk_ast.specs.Text.{Read}
use Rattle.mk_ast.specs.References.{ref_at, named_at, max_open, piece_at, bare_reference_at}
use Rattle.mk_ast.specs.Pieces.{IsPiece, IsBareReference}
use Rattle.mk_ast.specs.declared.place.Piece.{Piece}
use Rattle.mk_ast.specs.declared.place.Place.TheVariants.{Name, Piece as InCondition}
use Rattle.mk_ast.proofs.Spelled.{OnRead, OnRead-map, TextOf, is_ended}
use Rattle.mk_ast.proofs.SpelledTexts.{text_in-spelled}
use Rattle.mk_ast.proofs.SpelledReferences.{NamedOf, named_at-spelled, ref_at-spelled}
use Rattle.mk_ast.proofs.ReadAgain.{tree-reads, mods-read}

-- a piece that was read, and where it ends
abbrev pub PieceOf : Piece → List ℕ → Tree → List ℕ → Type 0
PieceOf piece bytes tree rest =
    IsPiece piece tree bytes rest × (is_ended (InCondition piece) rest ≡ true)

piece-of : (piece : Piece) (bytes : List ℕ) (r : Read Tree)
    → OnRead (TextOf max_open (InCondition piece) bytes) r → OnRead (PieceOf piece bytes) r
piece-of piece bytes (Ok t) holds = ((holds.0, holds.3), holds.2)
piece-of piece bytes (Err fault) holds = tt

pub piece_at-spelled : (total : ℕ) (piece : Piece) (bytes : List ℕ)
    → OnRead (PieceOf piece bytes) (piece_at total piece bytes)
piece_at-spelled total piece bytes =
    piece-of piece bytes (piece_at total piece bytes)
    (text_in-spelled max_open (ref_at total max_open) (ref_at-spelled total max_open)
    (InCondition piece) bytes)

pub piece_at-spell : (total : ℕ) (piece : Piece) (tree : Tree) (bytes rest : List ℕ)
    → IsPiece piece tree bytes rest → piece_at total piece bytes ≡ Ok (tree, rest)
piece_at-spell total piece tree bytes rest is =
    rw is.0
    (tree-reads total max_open (InCondition piece) tree rest (length (spell tree ++ rest)) is.1
    (omega arith))

pub bare_reference_at-spelled : (total : ℕ) (bytes : List ℕ)
    → OnRead (λ tree rest. IsBareReference tree bytes rest) (bare_reference_at total bytes)
bare_reference_at-spelled total bytes =
    let refs = ref_at total (max_open - 1) in
    OnRead-map (NamedOf (max_open - 1) true bytes) (λ tree rest. IsBareReference tree bytes rest)
    (named_at refs total total true bytes) (λ n. part (ref true n.0 n.1) end)
    (named_at-spelled (max_open - 1) refs (ref_at-spelled total (max_open - 1)) total total true
    bytes)
    (λ n rest h. (n.0, n.1, refl, h.0, h.2, h.3))

pub bare_reference_at-spell : (total : ℕ) (tree : Tree) (bytes rest : List ℕ)
    → IsBareReference tree bytes rest → bare_reference_at total bytes ≡ Ok (tree, rest)
bare_reference_at-spell total tree bytes rest is =
    let name = is.0 in
    let mods = is.1 in
    let depth = max_open - 1 in
    let behind = spell_mods mods ++ round_close ∷ rest in
    let first = tree-reads total depth (Name true 0) name behind (length (spell name ++ behind))
    is.4 (omega arith) in
    let second = mods-read total depth total true mods rest (length behind) is.5 (omega arith) in
    rw (is.2, is.3, first, second) refl
