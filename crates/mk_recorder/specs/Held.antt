-- What a state that is kept stands for.
use Rattle.mk_strace.specs.Held.{texts_in}
use Rattle.mk_recorder.specs.States.{State}
use Rattle.mk_recorder.specs.declared.state.State.{State as Kept}

abbrev pub state_in : Kept → State
state_in kept = record {
  owners = texts_in kept.owners;
  directories = texts_in kept.directories;
  early = texts_in kept.early;
  running = kept.running;
  table = kept.table;
}
