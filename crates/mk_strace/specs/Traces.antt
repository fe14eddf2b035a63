-- Traces: what their processes did, line by line.
use Rattle.std.specs.Prelude.{ℕ, Bool, List, [], ◌∷◌, ◌++◌, Option, Some, None}
use Rattle.std.specs.Prelude.{option_and_then, if◌then◌else◌}
use Rattle.std.specs.List.{slice_split}
use Rattle.std.specs.Option.{option_map}
use Rattle.std.specs.Str.{bytes_eq}
use Rattle.mk_filemon.specs.Parts.{is_newline}
use Rattle.mk_strace.specs.Kept.{Texts, no_texts, with_text}
use Rattle.mk_strace.specs.Lines.{Line, parts_of, kind_of, act_in}
use Rattle.mk_strace.specs.Lines as line
use Rattle.mk_strace.specs.declared.act.Act.{Act}
use Rattle.mk_strace.specs.declared.act.Act.TheVariants as act
use Rattle.mk_strace.specs.declared.trace.Event.{Event}

-- what only a process may do that is not in the midst of a call
abbrev pub at_rest : List ℕ → Option Act → Option Act
at_rest begun what = if bytes_eq begun [] then what else None

abbrev pub resumed : List ℕ → List ℕ → Option Act
resumed begun rest = if bytes_eq begun [] then None else act_in (begun ++ rest)

-- What a line says that its process did, by the call that it has begun, if there is one. What
-- follows of a call that was not begun is refused, and another call in the midst of one.
abbrev pub act_on : List ℕ → Line → List ℕ → Option Act
act_on begun (line.Resumed rest) text = resumed begun rest
act_on begun (line.Takes from) text = Some (act.Takes from)
act_on begun line.Signal text = Some act.Nothing
act_on begun (line.Begun start) text = at_rest begun (Some act.Nothing)
act_on begun line.Ends text = at_rest begun (Some act.Ends)
act_on begun line.Whole text = at_rest begun (act_in text)

-- The calls that are begun behind a line. A thread that takes the place of a process goes on with
-- its call there.
abbrev pub begun_behind : Texts → List ℕ → Line → Texts
begun_behind begun process (line.Begun start) = with_text begun process start
begun_behind begun process (line.Resumed rest) = with_text begun process []
begun_behind begun process (line.Takes from) =
    with_text (with_text begun from []) process (begun from)
begun_behind begun process line.Whole = begun
begun_behind begun process line.Ends = begun
begun_behind begun process line.Signal = begun

abbrev pub with_process : List ℕ → Option Act → Option Event
with_process process what = option_map (λ one. record { process = process; act = one }) what

abbrev pub act_at : Texts → List ℕ × List ℕ → Option Event
act_at begun (process, text) =
    option_and_then (λ kind. with_process process (act_on (begun process) kind text)) (kind_of text)

abbrev pub event_on : Texts → List ℕ → Option Event
event_on begun one = option_and_then (act_at begun) (parts_of one)

abbrev pub begun_by : Texts → List ℕ → Option Line → Texts
begun_by begun process None = begun
begun_by begun process (Some kind) = begun_behind begun process kind

abbrev pub begun_at : Texts → Option (List ℕ × List ℕ) → Texts
begun_at begun None = begun
begun_at begun (Some parts) = begun_by begun parts.0 (kind_of parts.1)

abbrev pub begun_after : Texts → List ℕ → Texts
begun_after begun one = begun_at begun (parts_of one)

-- events behind others, where none is refused
abbrev pub behind : List Event → Option (List Event) → Option (List Event)
behind first found = option_map (λ more. first ++ more) found

abbrev pub before : Option Event → Option (List Event) → Option (List Event)
before None more = None
before (Some event) more = behind (event ∷ []) more

abbrev pub event_list : Bool → List Event → Option (List Event)
event_list read events = if read then Some events else None

-- One event a line; the last line is followed by a newline.
abbrev pub read_from : Texts → List (List ℕ) → Option (List Event)
read_from begun [] = None
read_from begun (last ∷ []) = if bytes_eq last [] then Some [] else None
read_from begun (one ∷ next ∷ lines) =
    before (event_on begun one) (read_from (begun_after begun one) (next ∷ lines))

-- What the processes of a trace did, in order; none where a line is refused.
abbrev pub events_of : List ℕ → Option (List Event)
events_of trace = read_from no_texts (slice_split is_newline trace)
