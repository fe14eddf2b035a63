-- What is left before a turn of a loop, and behind it.
use Rattle.std.proofs.Common.{◌≡◌, ℕ, ◌+◌, ◌≤◌, Bool, true, false, List, [], ◌∷◌, length, refl, ◌∙◌}
use Rattle.mk_lines.specs.declared.line.LogLine.{LogLine}
use Rattle.mk_turns.specs.OpenLoops.{has_next, turn_of, turns_behind}
use Rattle.mk_turns.specs.Turns.{Turn, loop_turns, turn_count}
use Rattle.mk_turns.specs.declared.loops.OpenLoop.{OpenLoop}
use Rattle.mk_turns.proofs.TurnLemmas.{last-turn, turns-none}
use Rattle.mk_blocks.specs.Blocks.{Parsed, closed, parse}
use Rattle.mk_blocks.specs.Calls as calls
use Rattle.mk_blocks.specs.Calls.{Begins, begins_branch, files_in, step_behind}
use Rattle.mk_blocks.specs.Runs as runs
use Rattle.mk_blocks.specs.Runs.{After, IsCounted, Reads, Run, after, run_at}
use Rattle.mk_blocks.specs.Outcomes.{refused}
use Rattle.mk_blocks.specs.Places as p
use Rattle.mk_blocks.specs.Places.{Fits, IsInside, IsPlace, IsReached}
use Rattle.mk_blocks.specs.Skips.{outside_of}
use Rattle.mk_blocks.specs.Ties.{Ties}
use Rattle.mk_blocks.specs.declared.fault.FileFault.TheVariants.{TooManyLines}
use Rattle.mk_blocks.specs.declared.kind.LineKind.{LineKind}
use Rattle.mk_blocks.specs.declared.line.OpenFile.{OpenFile}
use Rattle.mk_blocks.specs.declared.place.Place.{Place}
use Rattle.mk_blocks.proofs.FitLemmas.{Fits-turn}
use Rattle.mk_blocks.proofs.PlaceLemmas as place
use Rattle.mk_blocks.proofs.RunLemmas.{counted-then}

-- the beginning of a turn is a place
pub begun-place : (kind : List ℕ → LineKind) {o : OpenLoop} {before now : Place} → Begins o before now
    → IsInside kind before.loops o.depth (p.behind_body kind o)
    → Fits before.loops o.depth (length o.body + 1) → IsPlace kind now
unfolding outside_of
begun-place kind {o = o} {before = before} begins inside fits =
    rw (begins.cursor, begins.depth, begins.loops)
    (record { inside = (refl, inside); fits = Fits-turn o before.loops fits })

module _ {X W F : Type 0} (ties : Ties X W F) (file : OpenFile) where
  pub no-turns : (loops : List OpenLoop) (depth : ℕ) (q : Parsed) (names words : List (List ℕ))
      (x : X)
      (count : ℕ) → turn_count names words ≡ 0 → (answers : ties.Answers)
      → calls.turns_left ties file loops depth q (loop_turns names words) x count answers
      ≡ calls.left_in ties file loops depth (closed q.endings) x count answers
  no-turns loops depth q names words x count none answers =
      let over : loop_turns names words ≡ [] = turns-none names words none in
      rw over (place.turns_left-none (ties.meaning answers)
      (files_in ties file answers) file.name.now
      ties.kind loops depth q (run_at (ties.state x) count))

  pub turn-full : (loops : List OpenLoop) (depth : ℕ) (q : Parsed) (turns others : List Turn)
      (turn : Turn) (x : X) (count : ℕ)
      → turns ≡ turn ∷ others → runs.max_lines ≤ count → (answers : ties.Answers)
      → calls.turns_left ties file loops depth q turns x count answers ≡ refused TooManyLines
  turn-full loops depth q turns others turn x count are full answers =
      rw are (place.turns_left-full (ties.meaning answers)
      (files_in ties file answers) file.name.now
      ties.kind loops depth q turn others (ties.state x) count full)

  -- what is left at the beginning of a turn
  pub turn-left : {o : OpenLoop} {before now : Place} (loops : List OpenLoop) (depth : ℕ)
      (body : List LogLine) (turns : List Turn) (x : X) (count more : ℕ)
      → Begins o before now → before.loops ≡ loops → o.body ≡ body → o.depth ≡ depth
      → turns ≡ turn_of o ∷ turns_behind o → IsCounted count more → (answers : ties.Answers)
      → calls.turns_left ties file loops depth (parse ties.kind body) turns x count answers
      ≡ calls.place_left ties file now x more answers
  turn-left {o = o} {before = before} {now = now} loops depth body turns x count more begins same
      same_body same_depth are counts
      answers =
      rw (← same_body, ← same_depth, are, ← same, begins.cursor, begins.depth, begins.loops)
      (place.turns_left-turn (ties.meaning answers) (files_in ties file answers) file.name.now
      ties.kind o before.loops (run_at (ties.state x) count)
      ∙ counted-then (ties.state x) count more _ counts)

  -- behind the body of a loop

  pub ends-turn : (o : OpenLoop) (outer : List OpenLoop) (goes_on : Bool) (x : X) (count : ℕ)
      → has_next o goes_on ≡ true → (answers : ties.Answers)
      → calls.behind_left ties file (o ∷ outer) goes_on x count answers
      ≡ calls.turns_left ties file outer o.depth (parse ties.kind o.body)
      (turns_behind o) x count answers
  ends-turn o outer true x count next answers =
      place.outside-end (ties.meaning answers) (files_in ties file answers) file.name.now ties.kind
      o outer
      (run_at (ties.state x) count)
  ends-turn o outer false x count next answers = absurd cc

  pub ends-loop : (o : OpenLoop) (outer : List OpenLoop) (goes_on : Bool) (x : X) (count : ℕ)
      → has_next o goes_on ≡ false → (answers : ties.Answers)
      → calls.behind_left ties file (o ∷ outer) goes_on x count answers
      ≡ calls.left_in ties file outer o.depth (p.behind_body ties.kind o) x count answers
  ends-loop o outer false x count none answers =
      place.outside-break (ties.meaning answers) (files_in ties file answers) file.name.now
      ties.kind o outer
      (run_at (ties.state x) count)
  ends-loop o outer true x count none answers =
      let over : turns_behind o ≡ [] = last-turn o none in
      place.outside-end (ties.meaning answers) (files_in ties file answers) file.name.now ties.kind
      o outer
      (run_at (ties.state x) count)
      ∙ rw over (place.turns_left-none (ties.meaning answers)
      (files_in ties file answers) file.name.now
      ties.kind outer o.depth (parse ties.kind o.body) (run_at (ties.state x) count))
