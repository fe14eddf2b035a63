-- How `:S` is written: the anchors of its old text, and the `&` of its new one. They count where
-- they are written, and not where a value has them.
use Rattle.std.specs.Prelude.{ℕ, ◌==◌, Bool, true, false, List, [], ◌∷◌, drop, flat_map}
use Rattle.std.specs.Prelude.{if◌then◌else◌}
use Rattle.mk_bytes.specs.Bytes.{ampersand, caret}
use Rattle.mk_ast.specs.Tree.{Tree, Part, end, part, plain, lone}

abbrev pub begins_with_caret : List ℕ → Bool
begins_with_caret [] = false
begins_with_caret (byte ∷ bytes) = byte == caret

abbrev pub is_lone : Part → Bool
is_lone lone = true
is_lone _ = false

-- a plain `^` at the beginning holds what is old to the beginning of a word
abbrev pub at_start : Tree → Bool
at_start (part (plain bytes) tree) = begins_with_caret bytes
at_start _ = false

-- a `$` at the end, which stands for itself, holds what is old to the end of a word
unfoldable pub at_end : Tree → Bool
at_end end = false
at_end (part p end) = is_lone p
at_end (part p (part q tree)) = at_end (part q tree)

abbrev pub without_caret : Part → Part
without_caret (plain bytes) = plain (drop 1 bytes)
without_caret p = p

abbrev pub without_start : Tree → Tree
without_start end = end
without_start (part p tree) = part (if at_start (part p tree) then without_caret p else p) tree

unfoldable pub without_end : Tree → Tree
without_end end = end
without_end (part p end) = if is_lone p then end else part p end
without_end (part p (part q tree)) = part p (without_end (part q tree))

-- the old text without its anchors
abbrev pub without_anchors : Tree → Tree
without_anchors tree = without_start (without_end tree)

-- each plain `&` is the old text
abbrev pub old_or_byte : List ℕ → ℕ → List ℕ
old_or_byte old byte = if byte == ampersand then old else byte ∷ []

abbrev pub with_old : List ℕ → List ℕ → List ℕ
with_old old bytes = flat_map (old_or_byte old) bytes

abbrev pub old_in_part : List ℕ → Part → Part
old_in_part old (plain bytes) = plain (with_old old bytes)
old_in_part old p = p

-- the new text, with the old one in the place of each plain `&`
unfoldable pub old_in_tree : List ℕ → Tree → Tree
old_in_tree old end = end
old_in_tree old (part p tree) = part (old_in_part old p) (old_in_tree old tree)
