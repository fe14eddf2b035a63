-- Traces, one line after the other.
use Rattle.std.proofs.Common.{◌≡◌, ℕ, List, [], ◌∷◌, ◌++◌, Option, Some, None, refl, sym, ap}
use Rattle.std.proofs.Common.{Bool, true, false, ◌==◌, arith, length, append_assoc, if◌then◌else◌}
use Rattle.std.proofs.lemmas.List.{append-nil}
use Rattle.std.proofs.lemmas.Bool.Decides.{nat_tests}
use Rattle.std.specs.List.{slice_split}
use Rattle.std.specs.Str.{bytes_eq}
use Rattle.mk_bytes.specs.Bytes.{newline}
use Rattle.mk_filemon.specs.Escapes.{Part, cut_at}
use Rattle.mk_filemon.specs.Parts.{is_newline}
use Rattle.mk_filemon.proofs.LogLemmas.{lines_by, split-cut}
use Rattle.mk_strace.specs.Kept.{Texts}
use Rattle.mk_strace.specs.Traces.{behind, before, event_on, begun_after, read_from, event_list}
use Rattle.mk_strace.specs.declared.trace.Event.{Event}

behind-more : (first second : List Event) (found : Option (List Event))
    → behind (first ++ second) found ≡ behind first (behind second found)
behind-more first second None = refl
behind-more first second (Some more) = ap Some (append_assoc first second more)

read-next : (begun : Texts) (line text : List ℕ) (found : Part)
    → read_from begun (line ∷ lines_by text found)
    ≡ before (event_on begun line) (read_from (begun_after begun line) (lines_by text found))
read-next begun line text None = refl
read-next begun line text (Some (next, rest)) = refl

-- the first line of a text, and the others
read-line : (begun : Texts) (text line rest : List ℕ) → Some (line, rest) ≡ cut_at newline text
    → read_from begun (slice_split is_newline text)
    ≡ before (event_on begun line) (read_from (begun_after begun line) (slice_split is_newline rest))
read-line begun text line rest is =
    rw (split-cut text, ← is, split-cut rest) (read-next begun line rest (cut_at newline rest))

pub line-read : (begun after : Texts) (text line rest : List ℕ) (events more : List Event)
    (event : Event) → Some (line, rest) ≡ cut_at newline text → Some event ≡ event_on begun line
    → after ≡ begun_after begun line → more ≡ events ++ event ∷ []
    → behind more (read_from after (slice_split is_newline rest))
    ≡ behind events (read_from begun (slice_split is_newline text))
line-read begun after text line rest events more event is event_is after_is more_is =
    rw (read-line begun text line rest is, ← event_is, after_is, more_is)
    (behind-more events (event ∷ []) (read_from (begun_after begun line) (slice_split is_newline rest)))

pub line-refused : (begun : Texts) (text line rest : List ℕ) (events : List Event)
    → Some (line, rest) ≡ cut_at newline text → None ≡ event_on begun line
    → None ≡ behind events (read_from begun (slice_split is_newline text))
line-refused begun text line rest events is refused =
    rw (read-line begun text line rest is, ← refused) refl

last-by : (events : List Event) (empty : Bool)
    → event_list empty events ≡ behind events (if empty then Some [] else None)
last-by events true = ap Some (sym (append-nil events))
last-by events false = refl

empty_is : (text : List ℕ) → (length text == 0) ≡ bytes_eq text []
empty_is [] = refl
empty_is (byte ∷ text) = grind (arith, nat_tests)

pub last-read : (begun : Texts) (text : List ℕ) (events : List Event) (empty : Bool)
    → None ≡ cut_at newline text → empty ≡ (length text == 0)
    → event_list empty events ≡ behind events (read_from begun (slice_split is_newline text))
last-read begun text events empty is same =
    rw (split-cut text, ← is, ← empty_is text, ← same) (last-by events empty)
