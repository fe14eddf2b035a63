-- How the texts of a condition are written, each before the rest of the condition.
use Rattle.std.specs.Prelude.{◌≡◌, ℕ, ◌-◌, true, List, ◌∷◌, ◌++◌}
use Rattle.mk_bytes.specs.Bytes.{round_close}
use Rattle.mk_ast.specs.Tree.{Tree, Mods, end, part, ref}
use Rattle.mk_ast.specs.Spell.{spell, spell_mods}
use Rattle.mk_ast.specs.WellFormed.{FitsTree, FitsMods}
use Rattle.mk_ast.specs.References.{max_open}
use Rattle.mk_ast.specs.declared.place.Piece.{Piece}
use Rattle.mk_ast.specs.declared.place.Place.TheVariants.{Name, Piece as InCondition}

-- these bytes spell the tree before the rest, where it is well formed
abbrev pub IsPiece : Piece → Tree → List ℕ → List ℕ → Type 0
IsPiece piece tree bytes rest =
    (bytes ≡ spell tree ++ rest) × FitsTree max_open (InCondition piece) tree rest

-- these bytes spell the inside of one round reference, with its parenthesis
abbrev pub IsBareReference : Tree → List ℕ → List ℕ → Type 0
IsBareReference tree bytes rest =
    (name : Tree) × (mods : Mods) × (tree ≡ part (ref true name mods) end)
    × (bytes ≡ spell name ++ (spell_mods mods ++ round_close ∷ rest))
    × FitsTree (max_open - 1) (Name true 0) name (spell_mods mods ++ round_close ∷ rest)
    × FitsMods (max_open - 1) true mods (round_close ∷ rest)
