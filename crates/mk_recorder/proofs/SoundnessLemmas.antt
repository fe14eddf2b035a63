-- What is found stays found.
use Rattle.std.proofs.Common.{◌≡◌, ℕ, Bool, true, false, ◌||◌, List, [], ◌∷◌, ◌++◌, Option, Some, None}
use Rattle.std.proofs.Common.{if◌then◌else◌, option_and_then, refl, ap, ◌==◌}
use Rattle.std.specs.Option.{option_map}
use Rattle.std.specs.Str.{bytes_eq}
use Rattle.mk_filemon.proofs.EscapeLemmas.{cases}
use Rattle.mk_filemon.proofs.PathLemmas.{bytes_eq-same, same_bytes}
use Rattle.mk_strace.specs.Kept.{with_text}
use Rattle.mk_strace.specs.declared.act.Act.{Act}
use Rattle.mk_strace.specs.declared.act.Act.TheVariants as act
use Rattle.mk_strace.specs.declared.trace.Event.{Event}
use Rattle.mk_recorder.specs.Known.{after, holds_old, may_hold}
use Rattle.mk_recorder.specs.Places.{place_of}
use Rattle.mk_recorder.specs.Soundness.{IsFound, ReadsAreFound, FoundIn, RunsKeepReads}
use Rattle.mk_recorder.specs.Soundness.{FoundIsRecorded}
use Rattle.mk_recorder.specs.States.{State, may_begin, begun, born, early_born, appeared, forked}
use Rattle.mk_recorder.specs.States.{ended, noted_in, entered_at, acted, acted_known}
use Rattle.mk_recorder.specs.States.{step, run, birth_of}
use Rattle.mk_recorder.specs.Tables.{Entry, known_in, noted, all_noted, touch_in}
use Rattle.mk_recorder.specs.Touches.{with_touches}
use Rattle.mk_recorder.specs.declared.known.Known.{Known}
use Rattle.mk_recorder.specs.declared.known.Touch.{Touch}
use Rattle.mk_recorder.specs.declared.known.Touch.TheVariants as touch
use Rattle.mk_recorder.specs.declared.place.Place.{Place}
use Rattle.mk_recorder.specs.declared.place.Place.TheVariants as place
use Rattle.mk_recorder.specs.declared.table.Touched.{Touched}

or-true : (first second : Bool) → first ≡ true → (first || second) ≡ true
or-true first second is = rw is refl

or-second : (first second : Bool) → second ≡ true → (first || second) ≡ true
or-second true second is = refl
or-second false second is = is

old-found : (known : Known) (old : Bool) → known.found ≡ true
    → (if old then (record known { found = true }).found else known.found) ≡ true
old-found known true is = refl
old-found known false is = is

-- one more touch
found-after : (known : Known) (one : Touch) → known.found ≡ true → (after known one).found ≡ true
found-after known touch.Read is = or-true known.found (holds_old known) is
found-after known touch.Run is = or-true known.found (holds_old known) is
found-after known touch.Look is = is
found-after known touch.Miss is = is
found-after known touch.Make is = is
found-after known touch.NewFolder is = is
found-after known touch.Update is = or-true known.found (may_hold known) is
found-after known touch.Overwrite is = is
found-after known touch.Empty is = is
found-after known touch.ReadOrMake is =
    cases (may_hold known) (λ old. rw old refl) (λ new. rw new is)
found-after known touch.Remove is = is
found-after known touch.Folder is = is
found-after known touch.List is = is

-- what is known of a path behind a touch of a path
known_in-same : (table : List Entry) (path : List ℕ) (one : Touch)
    → known_in (noted table path one) path ≡ after (known_in table path) one
known_in-same [] path one = rw (bytes_eq-same path) refl
known_in-same (entry ∷ table) path one =
    cases (bytes_eq path entry.0)
    (λ is. rw (is, is) refl)
    (λ apart. rw (apart, apart) (known_in-same table path one))

known_in-other : (table : List Entry) (path other : List ℕ) (one : Touch)
    → bytes_eq path other ≡ false → known_in (noted table other one) path ≡ known_in table path
known_in-other [] path other one apart = rw apart refl
known_in-other (entry ∷ table) path other one apart =
    cases (bytes_eq other entry.0)
    (λ is. let same : other ≡ entry.0 = same_bytes other entry.0 is in
    let nor : bytes_eq path entry.0 ≡ false = rw (← same) apart in
    rw (is, nor) refl)
    (λ far. rw far
    (ap (λ rest. if bytes_eq path entry.0 then entry.1 else rest)
    (known_in-other table path other one apart)))

found-noted : (table : List Entry) (path other : List ℕ) (one : Touch) → IsFound table path
    → IsFound (noted table other one) path
found-noted table path other one is =
    cases (bytes_eq path other)
    (λ here. let same : path ≡ other = same_bytes path other here in
    rw (← same, known_in-same table path one) (found-after (known_in table path) one is))
    (λ apart. rw (known_in-other table path other one apart) is)

found-all : (table : List Entry) (path : List ℕ) (all : List Touched) → IsFound table path
    → IsFound (all_noted table all) path
found-all table path [] is = is
found-all table path (one ∷ more) is =
    let what = touch_in table one.path one.touch in
    found-all (noted table one.path what) path more (found-noted table path one.path what is)

all_noted-append : (table : List Entry) (first second : List Touched)
    → all_noted table (first ++ second) ≡ all_noted (all_noted table first) second
all_noted-append table [] second = refl
all_noted-append table (one ∷ more) second =
    all_noted-append (noted table one.path (touch_in table one.path one.touch)) more second

pub reads-found : ReadsAreFound
reads-found table first rest path outer =
    let now = all_noted table first in
    let read : IsFound (noted now path touch.Read) path =
    rw (known_in-same now path touch.Read)
    (or-second (known_in now path).found (holds_old (known_in now path)) outer) in
    rw (all_noted-append table first (record { path = path; touch = touch.Read } ∷ rest))
    (found-all (noted now path touch.Read) path rest read)

found-either : (path : List ℕ) (test : Bool) (one other : Option State) → FoundIn path one
    → FoundIn path other → FoundIn path (if test then one else other)
found-either path true one other is nor = is
found-either path false one other is nor = nor

found-then : (path : List ℕ) (next : State → Option State) (found : Option State)
    → FoundIn path found → ((state : State) → IsFound state.table path → FoundIn path (next state))
    → FoundIn path (option_and_then next found)
found-then path next None is more = tt
found-then path next (Some state) is more = more state is

found-begun : (path parent child : List ℕ) (is_shared : Bool) (state : State)
    → IsFound state.table path → IsFound (begun parent child is_shared state).table path
found-begun path parent child true state is = is
found-begun path parent child false state is = is

found-born : (path parent child : List ℕ) (is_shared : Bool) (state : State)
    → IsFound state.table path → FoundIn path (born parent child is_shared state)
found-born path parent child is_shared state is =
    found-either path (may_begin parent child state) (Some (begun parent child is_shared state)) None
    (found-begun path parent child is_shared state is) tt

found-early : (path process : List ℕ) (state : State) (birth : Option (List ℕ × Bool))
    → IsFound state.table path
    → FoundIn path (option_and_then (early_born process state) birth)
found-early path process state None is = tt
found-early path process state (Some birth) is =
    found-born path birth.0 process birth.1
    (record state { early = with_text state.early process birth.0 }) is

found-appeared : (path process : List ℕ) (rest : List Event) (state : State)
    → IsFound state.table path → FoundIn path (appeared process rest state)
found-appeared path process rest state is =
    found-either path (bytes_eq (state.owners process) [])
    (option_and_then (early_born process state) (birth_of process rest)) (Some state)
    (found-early path process state (birth_of process rest) is) is

found-touched : (path directory : List ℕ) (what : Act) (state : State)
    (touches : Option (List Touched)) → IsFound state.table path
    → FoundIn path (option_map (noted_in state) touches)
found-touched path directory what state None is = tt
found-touched path directory what state (Some touches) is = found-all state.table path touches is

found-entered : (path process : List ℕ) (to : Place) (state : State) → IsFound state.table path
    → FoundIn path (entered_at process to state)
found-entered path process (place.At other) state is = is
found-entered path process place.Nowhere state is = tt
found-entered path process place.Unclear state is = tt

found-ended : (path process : List ℕ) (state : State) → IsFound state.table path
    → FoundIn path (ended process state)
found-ended path process state is =
    found-either path (bytes_eq (state.owners process) [] || state.running == 0) None _ tt is

found-forked : (path parent child : List ℕ) (is_shared : Bool) (state : State)
    → IsFound state.table path → FoundIn path (forked parent child is_shared state)
found-forked path parent child is_shared state is =
    found-either path (bytes_eq (state.early child) []) (born parent child is_shared state) _
    (found-born path parent child is_shared state is) is

found-acted : (path process directory : List ℕ) (what : Act) (state : State)
    → IsFound state.table path → FoundIn path (acted process directory what state)
found-acted path process directory (act.Forks child is_shared) state is =
    found-forked path process child is_shared state is
found-acted path process directory act.Ends state is = found-ended path process state is
found-acted path process directory (act.Takes from) state is = found-ended path from state is
found-acted path process directory (act.Enters name) state is =
    found-entered path process (place_of directory name) state is
found-acted path process directory what state is =
    found-touched path directory what state (with_touches [] state.table directory what) is

pub runs-keep : RunsKeepReads
runs-keep [] state path is = is
runs-keep (event ∷ events) state path is =
    found-then path (run events) (step event events state)
    (found-then path (acted_known event.process event.act) (appeared event.process events state)
    (found-appeared path event.process events state is)
    (λ now found. found-acted path event.process
    (now.directories (now.owners event.process)) event.act now found))
    (λ now found. runs-keep events now path found)

pub found-recorded : FoundIsRecorded
found-recorded known file is = rw (file, is) refl
