-- Each modifier as a function of states.
use Rattle.std.specs.Prelude.{ℕ, Bool, true, false, not, List, [], ◌∷◌, map, reverse}
use Rattle.std.specs.Prelude.{Option, Some, None, option_map, Result, if◌then◌else◌}
use Rattle.std.specs.List.{filter, dedup}
use Rattle.std.specs.Str.{bytes_eq}
use Rattle.mk_glob.specs.Patterns.{matches}
use Rattle.mk_mods.specs.State.{State, text_of, words_of, with_items, with_words}
use Rattle.mk_mods.specs.Parts.{head, tail, root, extension}
use Rattle.mk_pieces.specs.Letters.{recased}
use Rattle.mk_mods.specs.Quotes.{quoted, doubled}
use Rattle.mk_mods.specs.Places.{chosen, counted}
use Rattle.mk_pieces.specs.Substitution.{substituted, suffixed, words_changed}
use Rattle.mk_mods.specs.Limits.{limited}
use Rattle.mk_mods.specs.Order.{sorted}
use Rattle.mk_pieces.specs.declared.fault.ModFault.{ModFault}
use Rattle.mk_mods.specs.declared.val.Separator.{Separator as Sign}
use Rattle.mk_mods.specs.declared.val.Separator.TheVariants.{Byte, Nothing}
use Rattle.mk_mods.specs.declared.modifier.Mod.{Mod}
use Rattle.mk_mods.specs.declared.modifier.Mod.TheVariants.{Keep, Without, Subst, Suffix, Head}
use Rattle.mk_mods.specs.declared.modifier.Mod.TheVariants.{Tail, Root, Extension, Sort, SortBack}
use Rattle.mk_mods.specs.declared.modifier.Mod.TheVariants.{Unique, Lower, Upper, Quote}
use Rattle.mk_mods.specs.declared.modifier.Mod.TheVariants.{QuoteDollar, Separator, OneWord}
use Rattle.mk_mods.specs.declared.modifier.Mod.TheVariants.{ManyWords, Select, Range}

-- the words of a state, each changed, or some of them, or in another order
abbrev pub on_words : (List (List ℕ) → List (List ℕ)) → State → Option State
on_words change state = Some (with_words state (change (words_of state)))

-- the words at places, and nothing where there are no such places
abbrev pub at_places : (List (List ℕ) → Option (List (List ℕ))) → State → Option State
at_places choose state = option_map (with_words state) (choose (words_of state))

-- The words of a state, or the printed text as the one word.
abbrev pub words_or_text : Bool → State → List (List ℕ)
words_or_text whole state = if whole then text_of state ∷ [] else words_of state

abbrev pub on_words_or_text : Bool → (List (List ℕ) → List (List ℕ)) → State → Option State
on_words_or_text whole change state =
    Some (with_words state (change (words_or_text whole state)))

-- the items of a state, each changed
abbrev pub on_items : (List (List ℕ) → List (List ℕ)) → State → Option State
on_items change state = Some (with_items state (change state.items))

-- the printed text, changed, as the one item
abbrev pub on_text : (List ℕ → List ℕ) → State → Option State
on_text change state = Some (with_items state (change (text_of state) ∷ []))

abbrev pub with_flag : Bool → State → State
with_flag flag state =
    record { items = state.items; separator = state.separator; one_word = flag }

abbrev pub with_sign : Sign → State → State
with_sign sign state =
    record { items = state.items; separator = sign; one_word = state.one_word }

abbrev pub sign_of : Option ℕ → Sign
sign_of None = Nothing
sign_of (Some byte) = Byte byte

-- The state behind a modifier, whatever the limit, and nothing where it names no places.
abbrev pub state_behind : Mod → State → Option State
state_behind (Keep pattern) = on_words (filter (λ word. matches pattern word))
state_behind (Without pattern) = on_words (filter (λ word. not (matches pattern word)))
state_behind (Subst from to at_start at_end all once whole) =
    on_words_or_text whole (words_changed once (substituted from to at_start at_end all))
state_behind (Suffix from to) = on_words (words_changed false (suffixed from to))
state_behind Head = on_words (map head)
state_behind Tail = on_words (map tail)
state_behind Root = on_words (map root)
state_behind Extension = on_words (map extension)
state_behind Sort = on_words sorted
state_behind SortBack = on_words (λ words. reverse (sorted words))
state_behind Unique = on_words (dedup bytes_eq)
state_behind Lower = on_items (words_changed false (recased true))
state_behind Upper = on_items (words_changed false (recased false))
state_behind Quote = on_text quoted
state_behind QuoteDollar = on_text (λ text. quoted (doubled text))
state_behind (Separator byte) = λ state.
    option_map (with_sign (sign_of byte)) (on_words (λ words. words) state)
state_behind OneWord = λ state. option_map (with_flag true) (on_text (λ text. text) state)
state_behind ManyWords = λ state. Some (with_flag false state)
state_behind (Select text) = at_places (chosen text)
state_behind (Range text) = at_places (counted text)

-- The state behind a modifier, or its fault.
abbrev pub apply : Mod → State → Result State ModFault
apply modifier state = limited (state_behind modifier state)
