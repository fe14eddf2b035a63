-- Braces: `x{a,b}y` stands for `xay xby`.
use Rattle.std.specs.Prelude.{ℕ, zero, suc, ◌+◌, ◌-◌, ◌==◌, ◌&&◌, ◌||◌, ◌≡◌, ◌≤◌, Bool, false}
use Rattle.std.specs.Prelude.{not, List, [], ◌∷◌, ◌++◌}
use Rattle.std.specs.Prelude.{length, take, drop, position, Option, Some, None, Result, Ok, Err}
use Rattle.std.specs.Prelude.{if◌then◌else◌}
use Rattle.std.specs.List.{onto_first}
use Rattle.std.specs.Option.{option_map}
use Rattle.mk_bytes.specs.Agrees.{◌>>=◌}
use Rattle.mk_bytes.specs.Bytes.{curly_open, curly_close}
use Rattle.mk_bytes.specs.Words.{words_among}
use Rattle.mk_depline.specs.declared.brace.Pending.{Pending}
use Rattle.mk_depline.specs.declared.brace.Places.{Places}
use Rattle.mk_depline.specs.declared.brace.Reading.{Reading}
use Rattle.mk_depline.specs.declared.fault.DepFault.{DepFault}
use Rattle.mk_depline.specs.declared.fault.DepFault.TheVariants.{Brace, NoMemory}

abbrev pub comma : ℕ
comma = 44

abbrev pub is_open : ℕ → Bool
is_open byte = byte == curly_open

-- how many braces are open behind a byte
abbrev pub depth_behind : ℕ → ℕ → ℕ
depth_behind depth byte =
    if byte == curly_open then depth + 1
    else (if byte == curly_close then depth - 1 else depth)

-- such a byte, where no brace is open
abbrev pub stops : ℕ → ℕ → ℕ → Bool
stops wanted depth byte = byte == wanted && depth == 0

-- the place of the first such byte, where so many braces are open before
unfoldable pub place_from : ℕ → ℕ → List ℕ → Option ℕ
place_from wanted depth [] = None
place_from wanted depth (byte ∷ rest) =
    if stops wanted depth byte then Some 0
    else option_map suc (place_from wanted (depth_behind depth byte) rest)

abbrev pub place_of : ℕ → List ℕ → Option ℕ
place_of wanted text = place_from wanted 0 text

-- the texts between the commas that stand in no brace of their own
unfoldable pub alternatives_from : ℕ → List ℕ → List (List ℕ)
alternatives_from depth [] = [] ∷ []
alternatives_from depth (byte ∷ rest) =
    if stops comma depth byte then [] ∷ alternatives_from 0 rest
    else onto_first byte (alternatives_from (depth_behind depth byte) rest)

abbrev pub alternatives : List ℕ → List (List ℕ)
alternatives inside = alternatives_from 0 inside

-- a word with braces: what stands before the first, in it and behind it
pub record Group : Type 0 where
  pub before : List ℕ
  pub inside : List ℕ
  pub behind : List ℕ

abbrev pub group_at : List ℕ → List ℕ → Option ℕ → Result (Option Group) DepFault
group_at before rest None = Err Brace
group_at before rest (Some at) =
    Ok (Some (record { before = before; inside = take at rest; behind = drop (at + 1) rest }))

abbrev pub first_group : List ℕ → Option ℕ → Result (Option Group) DepFault
first_group word None = Ok None
first_group word (Some at) =
    group_at (take at word) (drop (at + 1) word) (place_of curly_close (drop (at + 1) word))

-- The first group of a word. A brace that is not closed is a fault.
abbrev pub group_of : List ℕ → Result (Option Group) DepFault
group_of word = first_group word (position is_open word)

-- what spells words out
abbrev pub Speller : Type 0
Speller = List ℕ → Result (List (List ℕ)) DepFault

-- a word for each alternative, in order, with what stands round the group
abbrev pub each_spelled : Speller → List ℕ → List ℕ → List (List ℕ)
    → Result (List (List ℕ)) DepFault
each_spelled spell before behind [] = Ok []
each_spelled spell before behind (one ∷ more) =
    spell (before ++ one ++ behind)
    >>= λ words. each_spelled spell before behind more
    >>= λ others. Ok (words ++ others)

-- a word without braces stands for itself; what is empty is no word
abbrev pub group_spelled : Speller → List ℕ → Option Group → Result (List (List ℕ)) DepFault
group_spelled spell word None = Ok (words_among (word ∷ []))
group_spelled spell word (Some group) =
    each_spelled spell group.before group.behind (alternatives group.inside)

-- a word without room for a group
abbrev pub unspelled : List ℕ → Option Group → Result (List (List ℕ)) DepFault
unspelled word None = Ok (words_among (word ∷ []))
unspelled word (Some group) = Err NoMemory

-- the words of a word that has at most so many groups
unfoldable pub spelled_in : ℕ → Speller
spelled_in zero word = group_of word >>= λ group. unspelled word group
spelled_in (suc most) word = group_of word >>= λ group. group_spelled (spelled_in most) word group

-- words behind others
abbrev pub added : List (List ℕ) → Result (List (List ℕ)) DepFault → Result (List (List ℕ)) DepFault
added names found = found >>= λ words. Ok (names ++ words)

-- The words that a word stands for, from the left. It has fewer groups than bytes.
abbrev pub spelled_out : Speller
spelled_out word = spelled_in (length word) word

-- all words that words stand for
abbrev pub all_spelled_out : List (List ℕ) → Result (List (List ℕ)) DepFault
all_spelled_out [] = Ok []
all_spelled_out (word ∷ words) =
    spelled_out word >>= λ names. all_spelled_out words >>= λ others. Ok (names ++ others)

-- What is left of a word that is read from the left

-- the first alternative of what stands in a group
abbrev pub first_to : List ℕ → Option ℕ → List ℕ
first_to inside None = inside
first_to inside (Some at) = take at inside

abbrev pub first_of : List ℕ → List ℕ
first_of inside = first_to inside (place_of comma inside)

-- in an alternative of a group that is closed at such a place: the rest of the alternative, and
-- what is left behind the group
abbrev pub left_to : List ℕ → (List ℕ → List ℕ) → Option ℕ → List ℕ
left_to text behind None = text
left_to text behind (Some at) = first_of (take at text) ++ behind (drop (suc at) text)

-- what is left of a word from a place in the alternatives of so many groups
unfoldable pub left : ℕ → List ℕ → List ℕ
left zero text = text
left (suc depth) text = left_to text (left depth) (place_of curly_close text)

-- whether a text begins with what ends an alternative
abbrev pub ends_alternative : List ℕ → Bool
ends_alternative [] = false
ends_alternative (byte ∷ rest) = byte == comma || byte == curly_close

-- where the group is closed whose alternative ends where a text begins
abbrev pub group_end : ℕ → List ℕ → Option ℕ
group_end zero text = None
group_end (suc depth) text =
    if ends_alternative text then place_of curly_close text else None

-- whether a text begins with a byte that opens no group
abbrev pub is_plain : List ℕ → Bool
is_plain [] = false
is_plain (byte ∷ rest) = not (byte == curly_open)

-- where the alternative behind the first one begins, in a group that is closed at such a place
abbrev pub next_in : List ℕ → Option ℕ → Option ℕ
next_in text None = None
next_in text (Some at) = option_map suc (place_of comma (take at text))

-- a place as a number, which is 0 where there is none
abbrev pub number_of : Option ℕ → ℕ
number_of None = 0
number_of (Some at) = suc at

abbrev pub place_numbered : ℕ → Option ℕ
place_numbered zero = None
place_numbered (suc at) = Some at

-- the number of a place so many bytes further on
abbrev pub moved : ℕ → ℕ → ℕ
moved zero by = 0
moved (suc at) by = suc at + by

-- the numbers of the places in each end of a text, the shortest first
unfoldable pub numbers_of : ℕ → List ℕ → List ℕ
numbers_of wanted [] = 0 ∷ []
numbers_of wanted (byte ∷ rest) =
    numbers_of wanted rest ++ number_of (place_of wanted (byte ∷ rest)) ∷ []

-- where groups are closed in each end of a word, and where their alternatives end
pub record ArePlaces (word : List ℕ) (places : Places) : Type 0 where
  pub closes : places.closes.items ≡ numbers_of curly_close word
  pub commas : places.commas.items ≡ numbers_of comma word

-- What the code keeps open

-- the word of which a part is read
abbrev pub word_of : List ℕ → Reading → List ℕ
word_of word r = r.text ++ left r.depth (drop r.at word)

-- a text that opens no group
abbrev pub Plain : List ℕ → Type 0
Plain [] = Unit {0}
Plain (byte ∷ text) = (is_open byte ≡ false) × Plain text

-- a place in a word, in no more groups than bytes, behind a text that opens none
pub record IsPlaced (word text : List ℕ) (at depth : ℕ) : Type 0 where
  pub within : at ≤ length word
  pub deep : depth ≤ at
  pub plain : Plain text

-- the same of all alternatives that wait
abbrev pub Placed : List ℕ → List Pending → Type 0
Placed word [] = Unit {0}
Placed word (p ∷ inner) = IsPlaced word p.before p.at (p.depth + 1) × Placed word inner

abbrev pub PlacedLeft : List ℕ → Option Pending → Type 0
PlacedLeft word None = Unit {0}
PlacedLeft word (Some p) = IsPlaced word p.before p.at (p.depth + 1)

-- the words of one, and those behind them
abbrev pub both_spelled : Result (List (List ℕ)) DepFault → Result (List (List ℕ)) DepFault
    → Result (List (List ℕ)) DepFault
both_spelled first behind = first >>= λ words. behind >>= λ others. Ok (words ++ others)

-- the alternatives of a group that is closed at such a place, and what is left behind it
abbrev pub alternatives_to : List ℕ → Option ℕ → List (List ℕ)
alternatives_to text None = text ∷ []
alternatives_to text (Some at) = alternatives (take at text)

abbrev pub behind_to : ℕ → List ℕ → Option ℕ → List ℕ
behind_to depth text None = []
behind_to depth text (Some at) = left depth (drop (suc at) text)

abbrev pub spelled_to : ℕ → List ℕ → ℕ → List ℕ → Option ℕ → Result (List (List ℕ)) DepFault
spelled_to most before depth text at =
    each_spelled (spelled_in most) before (behind_to depth text at) (alternatives_to text at)

abbrev pub pending_words : List ℕ → Pending → Result (List (List ℕ)) DepFault
pending_words word p =
    spelled_to p.most p.before p.depth (drop p.at word) (place_of curly_close (drop p.at word))

abbrev pub words_left : List ℕ → Option Pending → Result (List (List ℕ)) DepFault
words_left word None = Ok []
words_left word (Some p) = pending_words word p

-- the innermost is the last, and its words come first
abbrev pub all_pending : List ℕ → List Pending → Result (List (List ℕ)) DepFault
all_pending word [] = Ok []
all_pending word (p ∷ inner) = both_spelled (all_pending word inner) (pending_words word p)

-- how many words are spelled on the way
abbrev pub each_steps : (List ℕ → ℕ) → List ℕ → List ℕ → List (List ℕ) → ℕ
each_steps steps before behind [] = 0
each_steps steps before behind (one ∷ more) =
    1 + (steps (before ++ one ++ behind) + each_steps steps before behind more)

abbrev pub group_steps : (List ℕ → ℕ) → Result (Option Group) DepFault → ℕ
group_steps steps (Ok (Some group)) =
    each_steps steps group.before group.behind (alternatives group.inside)
group_steps steps _ = 0

unfoldable pub word_steps : ℕ → List ℕ → ℕ
word_steps zero word = 0
word_steps (suc most) word = group_steps (word_steps most) (group_of word)

abbrev pub steps_to : ℕ → List ℕ → ℕ → List ℕ → Option ℕ → ℕ
steps_to most before depth text at =
    each_steps (word_steps most) before (behind_to depth text at) (alternatives_to text at)

abbrev pub pending_steps : List ℕ → Pending → ℕ
pending_steps word p =
    steps_to p.most p.before p.depth (drop p.at word) (place_of curly_close (drop p.at word))

abbrev pub steps_left : List ℕ → Option Pending → ℕ
steps_left word None = 0
steps_left word (Some p) = pending_steps word p

abbrev pub all_steps : List ℕ → List Pending → ℕ
all_steps word [] = 0
all_steps word (p ∷ inner) = pending_steps word p + all_steps word inner
