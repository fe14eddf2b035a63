-- The state that a chain of modifiers works on (make(1), "VARIABLE ASSIGNMENTS", on modifiers).
use Rattle.std.specs.Prelude.{ℕ, Bool, false, ◌||◌, nat_eq, List, [], ◌∷◌, ◌++◌}
use Rattle.std.specs.Prelude.{if◌then◌else◌, codes}
use Rattle.std.specs.List.{flat_map, starts_with, ends_with}
use Rattle.mk_bytes.specs.Bytes.{space}
pub use Rattle.mk_bytes.specs.Words.{is_some_text as is_filled, words_among as filled}
pub use Rattle.mk_bytes.specs.Words.{words_of as words_in}
use Rattle.mk_mods.specs.declared.val.Separator.{Separator}
use Rattle.mk_mods.specs.declared.val.Separator.TheVariants.{FirstSpace, Byte, Nothing}

-- the items, what stands between them in the printed text, and whether that text is one word
pub record State : Type 0 where
  pub items : List (List ℕ)
  pub separator : Separator
  pub one_word : Bool

-- What is printed between two items. The space that no modifier has set is left out beside a
-- newline.
abbrev pub between : Separator → List ℕ → List ℕ → List ℕ
between FirstSpace left right =
    if ends_with nat_eq left (codes "\n") || starts_with nat_eq right (codes "\n") then []
    else space ∷ []
between (Byte byte) left right = byte ∷ []
between Nothing left right = []

-- the items behind one, each with what stands before it
abbrev pub behind : Separator → List ℕ → List (List ℕ) → List ℕ
behind separator left [] = []
behind separator left (item ∷ items) =
    between separator left item ++ item ++ behind separator item items

abbrev pub joined : Separator → List (List ℕ) → List ℕ
joined separator [] = []
joined separator (item ∷ items) = item ++ behind separator item items

-- the printed text
abbrev pub text_of : State → List ℕ
text_of state = joined state.separator state.items

-- The words that a modifier of words works on: those of the items, or the one text.
abbrev pub words_of : State → List (List ℕ)
words_of state =
    if state.one_word then text_of state ∷ [] else flat_map words_in state.items

-- a text as the one item, or as none where it is empty
abbrev pub items_of : List ℕ → List (List ℕ)
items_of text = filled (text ∷ [])

-- the state of a plain text
abbrev pub plain : List ℕ → State
plain text = record { items = items_of text; separator = FirstSpace; one_word = false }

abbrev pub with_items : State → List (List ℕ) → State
with_items state items =
    record { items = items; separator = state.separator; one_word = state.one_word }

-- Words in place of the items: empty ones are dropped, unless the text is one word.
abbrev pub state_of : Separator → Bool → List (List ℕ) → State
state_of separator one_word words = record {
  items = if one_word then words else filled words;
  separator = separator;
  one_word = one_word;
}

abbrev pub with_words : State → List (List ℕ) → State
with_words state words = state_of state.separator state.one_word words
