-- When jobs ran, in the trace event format of Chrome.
use Rattle.std.specs.Prelude.{ℕ, ◌-◌, ◌/◌, ◌&&◌, Bool, true, false, nat_le, nat_lt, List, [], ◌∷◌}
use Rattle.std.specs.Prelude.{◌++◌}
use Rattle.std.specs.Prelude.{codes, decimal, length, get_or, set, if◌then◌else◌}
use Rattle.mk_listing.specs.Texts.{json_string, array}
use Rattle.mk_listing.specs.declared.timeline.Job.{Job}

-- a time of nanoseconds in microseconds
abbrev pub micros : ℕ → ℕ
micros time = time / 1000

-- when a job began, and how long it took
abbrev pub times : Job → List ℕ
times job =
    codes ",\"ts\":" ++ decimal (micros job.start)
    ++ codes ",\"dur\":" ++ decimal (micros job.end - micros job.start)

-- the event of a job in a lane
abbrev pub event : Job → ℕ → List ℕ
event job lane =
    codes "{\"name\":" ++ json_string job.target ++ codes ",\"ph\":\"X\"" ++ times job
    ++ codes ",\"pid\":1,\"tid\":" ++ decimal lane ++ codes "}"

-- jobs, each with its lane
abbrev pub events : List Job → List ℕ → List (List ℕ)
events [] lanes = []
events (job ∷ jobs) [] = []
events (job ∷ jobs) (lane ∷ lanes) = event job lane ∷ events jobs lanes

-- The trace.
abbrev pub trace : List Job → List ℕ → List ℕ
trace jobs lanes = array (events jobs lanes)

-- when the last job of a lane is over, by those times of the lanes so far; 0 for a new lane
abbrev pub end_in : List ℕ → ℕ → ℕ
end_in ends lane = get_or ends lane 0

-- those times behind one more job, in one of the lanes so far or in the next one
abbrev pub ended_in : List ℕ → ℕ → ℕ → List ℕ
ended_in ends lane end =
    if nat_lt lane (length ends) then set ends lane end else ends ++ end ∷ []

-- Whether each job has a lane, and begins when the job before it in its lane is over.
abbrev pub are_apart : List ℕ → List Job → List ℕ → Bool
are_apart ends [] [] = true
are_apart ends [] (lane ∷ lanes) = false
are_apart ends (job ∷ jobs) [] = false
are_apart ends (job ∷ jobs) (lane ∷ lanes) =
    nat_le (end_in ends lane) job.start && are_apart (ended_in ends lane job.end) jobs lanes
