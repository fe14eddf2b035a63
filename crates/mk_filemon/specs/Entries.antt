-- Traces of paths in a table, against the records that left them.
use Rattle.std.specs.Prelude.{ℕ, Bool, true, false, not, ◌||◌, ◌&&◌, List, [], ◌∷◌, map, filter}
use Rattle.std.specs.Prelude.{if◌then◌else◌}
use Rattle.std.specs.Str.{bytes_eq}
use Rattle.std.specs.Borrow.{Bor}
use Rattle.mk_filemon.specs.declared.trace.Touch.{Touch}
use Rattle.mk_filemon.specs.declared.trace.Touch.TheVariants.{Found, Missed, Written, Gone}
use Rattle.mk_filemon.specs.declared.trace.Trace.{Trace}
use Rattle.mk_filemon.specs.declared.trace.Asked.{Asked}
use Rattle.mk_filemon.specs.declared.trace.Asked.TheVariants as asked
use Rattle.mk_filemon.specs.Outer.{Touched, is_ignored}

abbrev pub Traced : Type 0
Traced = List ℕ × Trace

-- what the entries of a map stand for
abbrev pub traced_of : List (Bor (List ℕ) × Trace) → List Traced
traced_of entries = map (λ entry. (entry.0.now, entry.1)) entries

abbrev pub no_trace : Trace
no_trace = record { found = false; missed = false; changed = false; written = false }

-- a trace after one more record
abbrev pub after : Trace → Touch → Trace
after trace Found = record trace { found = trace.found || not trace.changed }
after trace Missed = record trace { missed = trace.missed || not trace.changed }
after trace Written = record trace { changed = true; written = true }
after trace Gone = record trace { changed = true; written = false }

-- the trace of a path, which is empty where no record has named it
abbrev pub trace_in : List Traced → List ℕ → Trace
trace_in [] path = no_trace
trace_in (traced ∷ table) path =
    if bytes_eq path traced.0 then traced.1 else trace_in table path

-- a table after one more record: a new path stands at the end
abbrev pub noted : List Traced → List ℕ → Touch → List Traced
noted [] path touch = (path, after no_trace touch) ∷ []
noted (traced ∷ table) path touch =
    if bytes_eq path traced.0 then (traced.0, after traced.1 touch) ∷ table
    else traced ∷ noted table path touch

abbrev pub all_noted : List Traced → List Touched → List Traced
all_noted table [] = table
all_noted table (touched ∷ more) = all_noted (noted table touched.0 touched.1) more

abbrev pub tells : Asked → Trace → Bool
tells asked.Outer trace = trace.found || trace.missed
tells asked.Found trace = trace.found
tells asked.Missed trace = trace.missed
tells asked.Written trace = trace.written

-- the paths of the entries that are asked for, without ignored ones
abbrev pub counts : List (List ℕ) → Asked → Traced → Bool
counts ignored what traced = tells what traced.1 && not (is_ignored ignored traced.0)

abbrev pub paths_that : List (List ℕ) → Asked → List Traced → List (List ℕ)
paths_that ignored what table = map (λ traced. traced.0) (filter (counts ignored what) table)
