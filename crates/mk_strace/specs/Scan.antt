-- Pieces of the text of a call, as strace writes it.
use Rattle.std.specs.Prelude.{ℕ, Bool, true, false, ◌==◌, ◌&&◌, nat_eq, List, [], ◌∷◌, codes}
use Rattle.std.specs.Prelude.{length, drop, Option, Some, None, if◌then◌else◌}
use Rattle.std.specs.List.{starts_with}
use Rattle.std.specs.Option.{option_map, is_some}
use Rattle.mk_strace.specs.declared.scan.Mode.{Mode}
pub use Rattle.mk_strace.specs.declared.scan.Mode.TheVariants as mode

-- what a byte stands in behind another one: `"` 34, `<` 60, `\` 92, `>` 62
abbrev pub after : Mode → ℕ → Mode
after mode.Plain byte =
    if byte == 34 then mode.Quoted else (if byte == 60 then mode.Angled else mode.Plain)
after mode.Quoted byte =
    if byte == 92 then mode.Escaped else (if byte == 34 then mode.Plain else mode.Quoted)
after mode.Escaped byte = mode.Quoted
after mode.Angled byte = if byte == 62 then mode.Plain else mode.Angled

abbrev pub is_plain : Mode → Bool
is_plain mode.Plain = true
is_plain mode.Quoted = false
is_plain mode.Escaped = false
is_plain mode.Angled = false

abbrev pub without_spaces : List ℕ → List ℕ
without_spaces [] = []
without_spaces (byte ∷ text) = if byte == 32 then without_spaces text else byte ∷ text

abbrev pub equals_at : List ℕ → Option (List ℕ)
equals_at [] = None
equals_at (byte ∷ []) = None
equals_at (byte ∷ next ∷ text) = if byte == 61 && next == 32 then Some text else None

-- A bracket, spaces and `= ` end the words of a call; its result follows.
abbrev pub result_at : List ℕ → Option (List ℕ)
result_at [] = None
result_at (byte ∷ []) = None
result_at (byte ∷ next ∷ text) =
    if byte == 41 && next == 32 then equals_at (without_spaces text) else None

-- whether a word ends here, then whether it is the last one, and what follows
abbrev pub End : Type 0
End = Option (Bool × List ℕ)

abbrev pub plain_end : Bool → List ℕ → End
plain_end commas text =
    if commas && starts_with nat_eq text (codes ", ") then Some (false, drop 2 text)
    else option_map (λ rest. (true, rest)) (result_at text)

abbrev pub end_at : Bool → Mode → List ℕ → End
end_at commas within text = if is_plain within then plain_end commas text else None

-- a word, whether it is the last one, and what follows it
abbrev pub Cut : Type 0
Cut = Option (List ℕ × Bool × List ℕ)

abbrev pub or_later : ℕ → End → Cut → Cut
or_later byte None later = option_map (λ cut. (byte ∷ cut.0, cut.1, cut.2)) later
or_later byte (Some end) later = Some ([], end.0, end.1)

-- The next word of a call, up to a comma or the end, neither of which counts in quotes or in what
-- is shown of an open file; without commas, all words.
unfoldable pub cut : Bool → Mode → List ℕ → Cut
cut commas within [] = None
cut commas within (byte ∷ text) =
    or_later byte (end_at commas within (byte ∷ text)) (cut commas (after within byte) text)

-- what stands behind the first of a word
unfoldable pub behind : List ℕ → List ℕ → Option (List ℕ)
behind word [] = None
behind word (byte ∷ text) =
    if starts_with nat_eq (byte ∷ text) word then Some (drop (length word) (byte ∷ text))
    else behind word text

abbrev pub has : List ℕ → List ℕ → Bool
has word text = is_some (behind word text)
