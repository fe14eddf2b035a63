-- What is told of a run inside: how many targets it has started and kept.
use Rattle.std.specs.Prelude.{ℕ, Bool, false, ◌==◌, ◌&&◌, List, [], ◌∷◌, ◌++◌, length, map, get_or}
use Rattle.std.specs.Prelude.{unwrap_or, count_by, sum_by, codes, decimal}
use Rattle.mk_modes.specs.declared.report.Report.{Report}
use Rattle.mk_trace.specs.declared.event.Event.{Event}
use Rattle.mk_trace.specs.declared.event.Event.TheVariants.{Kept, Refused, Shown, Start, End, Wait}
use Rattle.mk_world.specs.Deeds.{Store}
use Rattle.mk_generate.specs.Input.{below, line, target}

-- The name of a target begins with `o`, as no other name of the makefile does.
abbrev pub is_target : List ℕ → Bool
is_target [] = false
is_target (byte ∷ rest) = byte == 111

-- whether the node at a place of the plan is a target
abbrev pub is_target_at : List (List ℕ) → ℕ → Bool
is_target_at plan n = is_target (get_or plan n [])

-- A target is started with its first line.
abbrev pub starts : List (List ℕ) → Event → Bool
starts plan (Start n number) = number == 1 && is_target_at plan n
starts plan (Kept n) = false
starts plan (Refused n number) = false
starts plan (Shown n number) = false
starts plan (End n number status) = false
starts plan Wait = false

abbrev pub keeps : List (List ℕ) → Event → Bool
keeps plan (Kept n) = is_target_at plan n
keeps plan (Start n number) = false
keeps plan (Refused n number) = false
keeps plan (Shown n number) = false
keeps plan (End n number status) = false
keeps plan Wait = false

abbrev pub started : Report → ℕ
started report = count_by (starts report.plan) report.events

abbrev pub kept : Report → ℕ
kept report = count_by (keeps report.plan) report.events

-- what is told of a run inside
abbrev pub counts_of : Report → List ℕ
counts_of report = decimal (started report) ++ codes " started " ++ decimal (kept report) ++ codes " kept"

abbrev pub text_at : Store → List ℕ → List ℕ
text_at files path = unwrap_or (files path) []

-- how many bytes the files of all targets have
abbrev pub bytes_of : ℕ → Store → ℕ
bytes_of n files = sum_by length (map (λ i. text_at files (target i)) (below n))

-- what is told of both runs, and of the files behind them
abbrev pub told : ℕ → Report → Report → Store → List ℕ
told n first second files =
    line (codes "targets " ++ decimal n)
    ++ line (codes "first " ++ counts_of first)
    ++ line (codes "second " ++ counts_of second)
    ++ line (codes "bytes " ++ decimal (bytes_of n files))
