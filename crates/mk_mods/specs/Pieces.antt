-- How a value is kept: its items are pieces of one region.
use Rattle.std.specs.Prelude.{ℕ, Bool, true, false, not, ◌||◌, ◌&&◌, nat_le, List, length, codes}
use Rattle.std.specs.Str.{bytes_eq}
use Rattle.mk_pieces.specs.Pieces.{texts_of, furthest}
use Rattle.mk_mods.specs.State.{State}
use Rattle.mk_mods.specs.declared.val.Val.{Val}
use Rattle.mk_mods.specs.declared.modifier.Mod.{Mod}
use Rattle.mk_mods.specs.declared.modifier.Mod.TheVariants.{Keep, Without, Head, Tail, Root}
use Rattle.mk_mods.specs.declared.modifier.Mod.TheVariants.{Extension, Sort, SortBack, Unique}
use Rattle.mk_mods.specs.declared.modifier.Mod.TheVariants.{Separator, ManyWords, Select}

-- the greatest end of its items
abbrev pub end_of : Val → ℕ
end_of val = furthest val.pieces.items

-- the state that a value shows
abbrev pub seen : List ℕ → Val → State
seen region val = record {
  items = texts_of region val.pieces.items;
  separator = val.separator;
  one_word = val.one_word;
}

-- whether the words of a value are pieces of the region already
abbrev pub has_words : Val → Bool
has_words val = not val.one_word || nat_le (length val.pieces.items) 1

-- the modifiers that only choose, cut or order words, or leave them
abbrev pub places_no_words : Mod → Bool
places_no_words (Keep _) = true
places_no_words (Without _) = true
places_no_words Head = true
places_no_words Tail = true
places_no_words Root = true
places_no_words Extension = true
places_no_words Sort = true
places_no_words SortBack = true
places_no_words Unique = true
places_no_words (Separator _) = true
places_no_words (Select text) = not (bytes_eq text (codes "#"))
places_no_words _ = false

-- They place no bytes, but where a value of several items is one word they first place that.
abbrev pub places_nothing : Mod → Val → Bool
places_nothing ManyWords val = true
places_nothing modifier val = places_no_words modifier && has_words val
