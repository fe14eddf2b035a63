-- Texts in words replaced by others: `:S` and `:old=new` of make(1).
use denote.Ref.{Bor}
use Rattle.std.specs.Prelude.{ℕ, zero, suc, ◌+◌, ◌-◌, ◌==◌, Bool, ◌&&◌, nat_le, nat_eq}
use Rattle.std.specs.Prelude.{List, [], ◌∷◌, ◌++◌, length, take, drop, map, position}
use Rattle.std.specs.Prelude.{Option, Some, None, is_some, option_map, unwrap_or, if◌then◌else◌}
use Rattle.std.specs.List.{starts_with, ends_with}
use Rattle.std.specs.Str.{bytes_eq}

-- the first place at which a text stands in a word
abbrev pub first_place : List ℕ → List ℕ → Option ℕ
first_place text [] = if bytes_eq text [] then Some zero else None
first_place text (byte ∷ bytes) =
    if starts_with nat_eq (byte ∷ bytes) text then Some zero
    else option_map suc (first_place text bytes)

-- a word in which `from`, at a place, becomes `to`, and what is behind it is changed too
abbrev pub replaced_at : (List ℕ → List ℕ) → Option ℕ → List ℕ → List ℕ → List ℕ → List ℕ
replaced_at change None from to word = word
replaced_at change (Some at) from to word =
    take at word ++ to ++ change (drop (at + length from) word)

-- A word is cut at the first place of `from`, which becomes `to`, and so on with the rest, up to a
-- number of times.
unfoldable pub replaced : ℕ → List ℕ → List ℕ → List ℕ → List ℕ
replaced zero from to word = word
replaced (suc times) from to word =
    replaced_at (replaced times from to) (first_place from word) from to word

-- `from` anywhere in a word, at its first place or at all from the left. An empty one is nowhere.
abbrev pub replaced_within : List ℕ → List ℕ → Bool → List ℕ → Option (List ℕ)
replaced_within from to all word =
    if bytes_eq from [] then None
    else (if is_some (first_place from word)
    then Some (replaced (if all then length word else 1) from to word)
    else None)

-- the end of a word replaced where it is `from`
abbrev pub end_replaced : List ℕ → List ℕ → List ℕ → Option (List ℕ)
end_replaced from to word =
    if ends_with nat_eq word from then Some (take (length word - length from) word ++ to) else None

abbrev pub start_replaced : List ℕ → List ℕ → List ℕ → Option (List ℕ)
start_replaced from to word =
    if starts_with nat_eq word from then Some (to ++ drop (length from) word) else None

abbrev pub whole_replaced : List ℕ → List ℕ → List ℕ → Option (List ℕ)
whole_replaced from to word = if bytes_eq word from then Some to else None

-- What `:S` makes of a word with the anchors `^` and `$`, and nothing where it does not match.
abbrev pub substituted : List ℕ → List ℕ → Bool → Bool → Bool → List ℕ → Option (List ℕ)
substituted from to at_start at_end all word =
    if at_start then (if at_end then whole_replaced from to word else start_replaced from to word)
    else (if at_end then end_replaced from to word else replaced_within from to all word)

abbrev pub is_percent : ℕ → Bool
is_percent byte = byte == 37

-- `to` with a text in place of its first `%`
abbrev pub with_middle : Option ℕ → List ℕ → List ℕ → List ℕ
with_middle None to middle = to
with_middle (Some at) to middle = take at to ++ middle ++ drop (at + 1) to

abbrev pub middle_of : List ℕ → List ℕ → List ℕ → List ℕ
middle_of before after word =
    take (length word - length before - length after) (drop (length before) word)

-- a word that begins and ends with two texts, one behind the other
abbrev pub stands_around : List ℕ → List ℕ → List ℕ → Bool
stands_around before after word =
    nat_le (length before + length after) (length word)
    && starts_with nat_eq word before && ends_with nat_eq word after

abbrev pub around_replaced : List ℕ → List ℕ → List ℕ → List ℕ → Option (List ℕ)
around_replaced before after to word =
    if stands_around before after word
    then Some (with_middle (position is_percent to) to (middle_of before after word))
    else None

abbrev pub suffixed_at : Option ℕ → List ℕ → List ℕ → List ℕ → Option (List ℕ)
suffixed_at None from to word = end_replaced from to word
suffixed_at (Some at) from to word = around_replaced (take at from) (drop (at + 1) from) to word

-- What `:old=new` makes of a word: the first `%` of the old text stands for the middle of the word.
abbrev pub suffixed : List ℕ → List ℕ → List ℕ → Option (List ℕ)
suffixed from to word = suffixed_at (position is_percent from) from to word

-- a word, which may be changed where it matches
abbrev pub word_changed : Bool → (List ℕ → Option (List ℕ)) → List ℕ → List ℕ
word_changed ready change word = if ready then unwrap_or (change word) word else word

-- each word that matches is changed
abbrev pub each_changed : (List ℕ → Option (List ℕ)) → List (List ℕ) → List (List ℕ)
each_changed change words = map (λ word. unwrap_or (change word) word) words

-- the first word that matches is changed
abbrev pub first_changed : (List ℕ → Option (List ℕ)) → List (List ℕ) → List (List ℕ)
first_changed change [] = []
first_changed change (word ∷ words) =
    unwrap_or (change word) word
    ∷ (if is_some (change word) then words else first_changed change words)

abbrev pub words_changed : Bool → (List ℕ → Option (List ℕ)) → List (List ℕ) → List (List ℕ)
words_changed once change words =
    if once then first_changed change words else each_changed change words

-- all parts, one behind the other
abbrev pub all_of : List (Bor (List ℕ)) → List ℕ
all_of [] = []
all_of (part ∷ parts) = part.now ++ all_of parts
