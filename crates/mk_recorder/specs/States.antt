-- What is known of the processes of a command, and of the paths that they touched, event by event.
use Rattle.std.specs.Prelude.{ℕ, Bool, true, false, not, ◌||◌, ◌&&◌, ◌==◌, ◌+◌, ◌-◌, nat_le, List}
use Rattle.std.specs.Prelude.{[]}
use Rattle.std.specs.Prelude.{◌∷◌, Option, Some, None, option_and_then, if◌then◌else◌}
use Rattle.std.specs.Option.{option_map}
use Rattle.std.specs.Str.{bytes_eq}
use Rattle.mk_strace.specs.Kept.{Texts, with_text}
use Rattle.mk_strace.specs.declared.act.Act.{Act}
use Rattle.mk_strace.specs.declared.act.Act.TheVariants as act
use Rattle.mk_strace.specs.declared.name.Name.{Name}
use Rattle.mk_strace.specs.declared.trace.Event.{Event}
use Rattle.mk_recorder.specs.Places.{place_of}
use Rattle.mk_recorder.specs.Tables.{Entry, all_noted}
use Rattle.mk_recorder.specs.Touches.{with_touches}
use Rattle.mk_recorder.specs.declared.place.Place.{Place}
use Rattle.mk_recorder.specs.declared.place.Place.TheVariants as place
use Rattle.mk_recorder.specs.declared.table.Touched.{Touched}

-- Of each process that runs, the one by whose number its directory is kept; these directories; who
-- began a process that did something before the call ended that began it; how many run; and what is
-- known of paths.
pub record State : Type 0 where
  pub owners : Texts
  pub directories : Texts
  pub early : Texts
  pub running : ℕ
  pub table : List Entry

abbrev pub state_by : Bool → State → Option State
state_by fine state = if fine then Some state else None

abbrev pub birth_by : List ℕ → List ℕ → Act → Option (List ℕ × Bool)
birth_by process parent (act.Forks child is_shared) =
    if bytes_eq child process then Some (parent, is_shared) else None
birth_by process parent other = None

abbrev pub birth_in : List ℕ → Event → Option (List ℕ × Bool)
birth_in process event = birth_by process event.process event.act

abbrev pub or_later : Option (List ℕ × Bool) → Option (List ℕ × Bool) → Option (List ℕ × Bool)
or_later None later = later
or_later (Some birth) later = Some birth

-- who begins a process, in what is left of a trace, and whether it shares its directory
abbrev pub birth_of : List ℕ → List Event → Option (List ℕ × Bool)
birth_of process [] = None
birth_of process (event ∷ events) = or_later (birth_in process event) (birth_of process events)

-- a process begins only where its parent runs and no process of its number does
abbrev pub may_begin : List ℕ → List ℕ → State → Bool
may_begin parent child state =
    not (bytes_eq (state.owners parent) [])
    && (bytes_eq (state.owners child) [] && not (nat_le 4194304 state.running))

abbrev pub begun : List ℕ → List ℕ → Bool → State → State
begun parent child true state = record state {
  owners = with_text state.owners child (state.owners parent);
  running = state.running + 1;
}
begun parent child false state = record state {
  owners = with_text state.owners child child;
  directories = with_text state.directories child (state.directories (state.owners parent));
  running = state.running + 1;
}

abbrev pub born : List ℕ → List ℕ → Bool → State → Option State
born parent child is_shared state =
    if may_begin parent child state then Some (begun parent child is_shared state) else None

abbrev pub early_born : List ℕ → State → List ℕ × Bool → Option State
early_born process state birth =
    born birth.0 process birth.1 (record state { early = with_text state.early process birth.0 })

-- A process does something. Where it is not known, it is begun by a call that has not ended so far.
abbrev pub appeared : List ℕ → List Event → State → Option State
appeared process rest state =
    if bytes_eq (state.owners process) []
    then option_and_then (early_born process state) (birth_of process rest)
    else Some state

abbrev pub forked : List ℕ → List ℕ → Bool → State → Option State
forked parent child is_shared state =
    if bytes_eq (state.early child) [] then born parent child is_shared state
    else Some (record state { early = with_text state.early child [] })

abbrev pub ended : List ℕ → State → Option State
ended process state =
    if bytes_eq (state.owners process) [] || state.running == 0 then None
    else Some (record state {
      owners = with_text state.owners process [];
      running = state.running - 1;
    })

abbrev pub directory_of : List ℕ → State → List ℕ
directory_of process state = state.directories (state.owners process)

abbrev pub noted_in : State → List Touched → State
noted_in state touches = record state { table = all_noted state.table touches }

abbrev pub touched : List ℕ → Act → State → Option State
touched directory what state =
    option_map (noted_in state) (with_touches [] state.table directory what)

abbrev pub entered_at : List ℕ → Place → State → Option State
entered_at process (place.At path) state = Some (record state {
  directories = with_text state.directories (state.owners process) path;
})
entered_at process place.Nowhere state = None
entered_at process place.Unclear state = None

abbrev pub entered : List ℕ → List ℕ → Name → State → Option State
entered process directory name state = entered_at process (place_of directory name) state

abbrev pub acted : List ℕ → List ℕ → Act → State → Option State
acted process directory (act.Forks child is_shared) state = forked process child is_shared state
acted process directory act.Ends state = ended process state
acted process directory (act.Takes from) state = ended from state
acted process directory (act.Enters name) state = entered process directory name state
acted process directory other state = touched directory other state

abbrev pub acted_known : List ℕ → Act → State → Option State
acted_known process what state = acted process (directory_of process state) what state

-- One more event, before others.
abbrev pub step : Event → List Event → State → Option State
step event rest state =
    option_and_then (acted_known event.process event.act) (appeared event.process rest state)

-- All events in order; none where one may not be.
abbrev pub run : List Event → State → Option State
run [] state = Some state
run (event ∷ events) state = option_and_then (run events) (step event events state)
