-- A history, and the present state that is kept beside it.
use Rattle.std.specs.Prelude.{◌≡◌, ◌+◌, ◌≤◌, List, [], ◌∷◌, ◌++◌, vec_len, vec_capacity}
use Rattle.mk_world.specs.History.{state_of}
use Rattle.mk_world.specs.declared.history.Happening.{Happening}
use Rattle.mk_world.specs.declared.history.History.{History}
use Rattle.mk_commands.specs.Files.{files_in}
use Rattle.mk_memworld.specs.declared.chronicle.Chronicle.TheInside.{Inside}

abbrev pub told : Inside → History
told t = record { base = t.base; events = t.events.items }

-- one event more
abbrev pub with_event : History → Happening → History
with_event history event =
    record { base = history.base; events = history.events ++ event ∷ [] }

-- several events more
abbrev pub with_events : History → List Happening → History
with_events history events =
    record { base = history.base; events = history.events ++ events }

-- What is kept is the state at the end of the history.
pub record IsPresent (t : Inside) : Type 0 where
  pub files : files_in t.files ≡ (state_of (told t)).files
  pub clock : t.clock ≡ (state_of (told t)).clock
  pub children : t.children.items ≡ (state_of (told t)).children
  -- the last stamp is no later than the last change
  pub stamped : (state_of (told t)).stamped ≤ t.clock
  -- each running child has room for the event that ends it
  pub room : vec_len t.events + vec_len t.children ≤ vec_capacity t.events
