-- The choice of words by their places, `:[..]` of make(1), and the numbers of `:range`.
use Rattle.std.specs.Prelude.{ℕ, ◌+◌, ◌-◌, ◌==◌, Bool, not, ◌&&◌, nat_le, nat_eq, List, [], ◌∷◌}
use Rattle.std.specs.Prelude.{length, take, drop, map, reverse, decimal, position, Option, Some}
use Rattle.std.specs.Prelude.{None}
use Rattle.std.specs.Prelude.{option_map, option_and_then, if◌then◌else◌, codes}
use Rattle.std.specs.List.{range_with_len, starts_with}
use Rattle.std.specs.Str.{bytes_eq}
use Rattle.mk_bytes.specs.Bytes.{plus, minus, dot}
use Rattle.mk_bytes.specs.Numbers.{value, number_up_to}

-- A place is counted from 1 with at most 9 digits. There is no place 0.
abbrev pub unsigned : List ℕ → Option ℕ
unsigned text =
    if nat_le (length text) 9 && not (value 10 text == 0) then number_up_to 999999999 text else None

-- With a `-` it is counted from the end. Places in front of the first word are 0.
abbrev pub place : ℕ → List ℕ → Option ℕ
place count [] = None
place count (byte ∷ rest) =
    if byte == minus then option_map (λ n. count + 1 - n) (unsigned rest)
    else (if byte == plus then unsigned rest
    else unsigned (byte ∷ rest))

-- the items from one place to another, in this direction
abbrev pub from_to : {A : Type 0} → List A → ℕ × ℕ → List A
from_to items ends =
    if nat_le ends.0 ends.1 then drop (ends.0 - 1) (take ends.1 items)
    else reverse (drop (ends.1 - 1) (take ends.0 items))

abbrev pub both_ends : ℕ → List ℕ → List ℕ → Option (ℕ × ℕ)
both_ends count from to =
    option_and_then (λ first. option_map (λ last. (first, last)) (place count to))
    (place count from)

abbrev pub is_dot : ℕ → Bool
is_dot byte = byte == dot

-- `n` is the place of a word, and `a..b` are the ends of some words
abbrev pub ends_at : Option ℕ → ℕ → List ℕ → Option (ℕ × ℕ)
ends_at None count text = both_ends count text text
ends_at (Some at) count text =
    if starts_with nat_eq (drop at text) (codes "..")
    then both_ends count (take at text) (drop (at + 2) text)
    else None

abbrev pub ends : ℕ → List ℕ → Option (ℕ × ℕ)
ends count text = ends_at (position is_dot text) count text

-- `#` is the number of words. Nothing is chosen where the text is none of these.
abbrev pub chosen : List ℕ → List (List ℕ) → Option (List (List ℕ))
chosen text words =
    if bytes_eq text (codes "#") then Some (decimal (length words) ∷ [])
    else option_map (from_to words) (ends (length words) text)

-- the numbers from 1 on, so many
abbrev pub numbers : ℕ → List (List ℕ)
numbers count = map decimal (range_with_len 1 count)

-- As many numbers as a text says, at most 1000000, or for 0 as many as there are words.
abbrev pub how_many : ℕ → List ℕ → Option ℕ
how_many count text = option_map (λ n. if n == 0 then count else n) (number_up_to 1000000 text)

abbrev pub counted : List ℕ → List (List ℕ) → Option (List (List ℕ))
counted text words = option_map numbers (how_many (length words) text)
