-- What a query answers.
use Rattle.std.specs.Prelude.{◌≡◌, ℕ, ◌<◌, ◌≤◌, ◌+◌, List, [], ◌∷◌, ◌++◌, length, Option, Result}
use Rattle.std.specs.Prelude.{Ok, Err}
use Rattle.mk_decision.specs.Decisions.{Work, IsBegun, IsKept, IsRefused}
use Rattle.mk_decision.specs.Looks.{LooksAt}
use Rattle.mk_plan.specs.Plans.{node_at}
use Rattle.mk_query.specs.Looks.{Saw}
use Rattle.mk_query.specs.declared.result.QueryResult.{QueryResult}
use Rattle.mk_query.specs.declared.result.QueryResult.TheVariants.{UpToDate, OutOfDate, Expand}
use Rattle.mk_query.specs.declared.result.QueryResult.TheVariants.{World, NoMemory}
use Rattle.mk_trace.specs.declared.event.Event.{Event}
use Rattle.mk_trace.specs.declared.event.Event.TheVariants.{Kept, Refused}
use Rattle.mk_world.specs.Looks.{Seen}
use Rattle.mk_world.specs.Talks.{Meaning}
use Rattle.mk_world.specs.Told.{Told}
use Rattle.mk_world.specs.declared.command.TaskLine.{TaskLine}
use Rattle.mk_world.specs.declared.fault.WorldFault.{WorldFault}
use Rattle.mk_world.specs.declared.fault.WorldFault.TheVariants as world
use Rattle.mk_world.specs.declared.history.History.{History}

-- a fault of the world ends a query
abbrev pub of_world : WorldFault → QueryResult
of_world world.Failed = World
of_world world.NoMemory = NoMemory

-- what a query comes to that was answered or stopped
abbrev pub answer_of : Result QueryResult WorldFault → QueryResult
answer_of (Ok answer) = answer
answer_of (Err fault) = of_world fault

-- The nodes from a place on are kept, by what was seen of each.
abbrev pub AreKept : Work → ℕ → List (List Seen) → Type 0
AreKept work place [] = Unit {0}
AreKept work place (seen ∷ more) =
    ((lines : List TaskLine) × IsKept work place seen lines) × AreKept work (place + 1) more

-- all that was seen of several nodes, in order
abbrev pub all_seen : List (List Seen) → List Seen
all_seen [] = []
all_seen (seen ∷ more) = seen ++ all_seen more

-- the events of the nodes that are kept, from a place on
abbrev pub kept_events : ℕ → List (List Seen) → List Event
kept_events place [] = []
kept_events place (seen ∷ more) = Kept place ∷ kept_events (place + 1) more

-- the event of a node that is refused
abbrev pub last_events : QueryResult → List Event
last_events (Expand node number what) = Refused node number ∷ []
last_events UpToDate = []
last_events (OutOfDate node) = []
last_events World = []
last_events NoMemory = []

-- a node of the plan has commands, and is out of date by what was seen of it
pub record IsOutOfDate (work : Work) (node : ℕ) (seen : List Seen) : Type 0 where
  pub within : node < length work.plan
  pub commands : 0 < length (node_at work.plan node).commands
  pub lines : List TaskLine
  pub begun : IsBegun work node seen lines

-- How a query ends behind so many nodes that are kept: there is no more node, or the next one, by
-- what was seen of it, is out of date or is refused.
abbrev pub StandsBy : Work → ℕ → List Seen → QueryResult → Type 0
StandsBy work place seen UpToDate = (place ≡ length work.plan) × (seen ≡ [])
StandsBy work place seen (OutOfDate node) = (node ≡ place) × IsOutOfDate work place seen
StandsBy work place seen (Expand node number what) =
    (node ≡ place) × (place < length work.plan) × IsRefused work place seen number what
StandsBy work place seen World = Unit {0}
StandsBy work place seen NoMemory = Unit {0}

-- An answer, where these nodes of the plan are kept, and this was seen behind them.
pub record Answer (work : Work) (result : QueryResult) (events : List Event) : Type 0 where
  pub kept : List (List Seen)
  pub last : List Seen
  pub within : length kept ≤ length work.plan
  pub are_kept : AreKept work 0 kept
  pub stands : StandsBy work (length kept) last result
  pub events_are : events ≡ kept_events 0 kept ++ last_events result

-- an answer, and the looks that it goes by, one after the other
abbrev pub Answered : Meaning → Work → Option History → Option History → QueryResult → List Event
    → Type 0
Answered meaning work before after result events =
    (answer : Answer work result events)
    × LooksAt meaning before after (all_seen answer.kept ++ answer.last)

-- A query: its answer goes by looks at the files as they stood at its beginning, and nothing else
-- happened.
abbrev pub IsAnswer : Work → Option History → Option History → QueryResult → List Event → Type 0
IsAnswer work before after result events =
    (answer : Answer work result events)
    × Told before after (Saw (all_seen answer.kept ++ answer.last))
