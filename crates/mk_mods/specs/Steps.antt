-- How the code goes through the modifiers: those of words from those of the whole state, and among
-- them those that place no bytes from those that do. `proofs/StepLemmas.antt` says that it is the
-- table of `specs/Modifiers.antt`.
use Rattle.std.specs.Prelude.{ℕ, Bool, true, false, not, List, [], ◌∷◌, map, reverse}
use Rattle.std.specs.Prelude.{Option, Some, option_map, if◌then◌else◌}
use Rattle.std.specs.List.{filter, dedup}
use Rattle.std.specs.Str.{bytes_eq}
use Rattle.mk_glob.specs.Patterns.{matches}
use Rattle.mk_mods.specs.Modifiers.{sign_of, with_flag, with_sign, words_or_text}
use Rattle.mk_mods.specs.State.{State, text_of, with_items, with_words}
use Rattle.mk_mods.specs.Parts.{head, tail, root, extension}
use Rattle.mk_pieces.specs.Letters.{recased}
use Rattle.mk_mods.specs.Quotes.{quoted, doubled}
use Rattle.mk_mods.specs.Places.{chosen, counted}
use Rattle.mk_pieces.specs.Substitution.{substituted, suffixed, words_changed}
use Rattle.mk_mods.specs.Order.{sorted}
use Rattle.mk_mods.specs.declared.modifier.Mod.{Mod}
use Rattle.mk_mods.specs.declared.modifier.Mod.TheVariants.{Keep, Without, Subst, Suffix, Head}
use Rattle.mk_mods.specs.declared.modifier.Mod.TheVariants.{Tail, Root, Extension, Sort, SortBack}
use Rattle.mk_mods.specs.declared.modifier.Mod.TheVariants.{Unique, Lower, Upper, Quote}
use Rattle.mk_mods.specs.declared.modifier.Mod.TheVariants.{QuoteDollar, Separator, OneWord}
use Rattle.mk_mods.specs.declared.modifier.Mod.TheVariants.{ManyWords, Select, Range}

-- whether a word matches a pattern, or with `false` whether it does not
abbrev pub is_wanted : List ℕ → Bool → List ℕ → Bool
is_wanted pattern matching word =
    if matching then matches pattern word else not (matches pattern word)

-- What becomes of the words of a modifier that chooses, cuts or orders them. Others leave them.
abbrev pub picked : Mod → List (List ℕ) → List (List ℕ)
picked (Keep pattern) words = filter (is_wanted pattern true) words
picked (Without pattern) words = filter (is_wanted pattern false) words
picked Head words = map head words
picked Tail words = map tail words
picked Root words = map root words
picked Extension words = map extension words
picked Sort words = sorted words
picked SortBack words = reverse (sorted words)
picked Unique words = dedup bytes_eq words
picked _ words = words

-- what becomes of the words of a modifier that replaces text in some, or picks among them
abbrev pub replaced_or_picked : Mod → List (List ℕ) → List (List ℕ)
replaced_or_picked (Subst from to at_start at_end all once whole) words =
    words_changed once (substituted from to at_start at_end all) words
replaced_or_picked (Suffix from to) words = words_changed false (suffixed from to) words
replaced_or_picked modifier words = picked modifier words

abbrev pub replaces : Mod → Bool
replaces (Subst _ _ _ _ _ _ _) = true
replaces (Suffix _ _) = true
replaces _ = false

-- What becomes of the words that a modifier works on, and nothing where it names no places.
abbrev pub words_behind : Mod → List (List ℕ) → Option (List (List ℕ))
words_behind (Select text) words = chosen text words
words_behind (Range text) words = counted text words
words_behind modifier words = Some (replaced_or_picked modifier words)

abbrev pub one_text : State → List (List ℕ)
one_text state = text_of state ∷ []

-- with the flag `W` of `:S` the printed text is the one word
abbrev pub is_whole : Mod → Bool
is_whole (Subst _ _ _ _ _ _ whole) = whole
is_whole _ = false

abbrev pub quoted_text : Bool → List ℕ → List ℕ
quoted_text dollars text = quoted (if dollars then doubled text else text)

-- what becomes of the items, each changed or all in place of one
abbrev pub items_behind : Mod → State → List (List ℕ)
items_behind Lower state = words_changed false (recased true) state.items
items_behind Upper state = words_changed false (recased false) state.items
items_behind Quote state = quoted_text false (text_of state) ∷ []
items_behind QuoteDollar state = quoted_text true (text_of state) ∷ []
items_behind _ state = one_text state

-- the state in which the words that a modifier works on are changed
abbrev pub with_words_behind : Mod → State → Option State
with_words_behind modifier state =
    option_map (with_words state)
    (words_behind modifier (words_or_text (is_whole modifier) state))

-- The state behind a modifier, whatever the limit, and nothing where it names no places.
abbrev pub state_by_steps : Mod → State → Option State
state_by_steps Lower state = Some (with_items state (items_behind Lower state))
state_by_steps Upper state = Some (with_items state (items_behind Upper state))
state_by_steps Quote state = Some (with_items state (items_behind Quote state))
state_by_steps QuoteDollar state = Some (with_items state (items_behind QuoteDollar state))
state_by_steps OneWord state =
    Some (with_flag true (with_items state (items_behind OneWord state)))
state_by_steps ManyWords state = Some (with_flag false state)
state_by_steps (Separator byte) state =
    option_map (with_sign (sign_of byte)) (with_words_behind (Separator byte) state)
state_by_steps modifier state = with_words_behind modifier state
