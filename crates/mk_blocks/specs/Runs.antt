-- How far a reading is, and its steps one after the other.
use Rattle.std.specs.Prelude.{◌≡◌, ℕ, ◌+◌, ◌<◌, nat_lt, Bool, true, false, List, [], ◌∷◌, Option}
use Rattle.std.specs.Prelude.{if◌then◌else◌}
use Rattle.mk_turns.specs.Turns.{Turn}
use Rattle.mk_blocks.specs.Outcomes.{Outcome, done, refused, ◌>>=◌}
use Rattle.mk_blocks.specs.declared.fault.FileFault.{FileFault}
use Rattle.mk_blocks.specs.declared.fault.FileFault.TheVariants.{TooManyLines}

-- How far a reading is: the state, and the number of lines and turns counted in all files.
pub record Run (S : Type 0) : Type 0 where
  pub state : S
  pub count : ℕ

abbrev pub run_at : {S : Type 0} → S → ℕ → Run S
run_at state count = record { state = state; count = count }

-- Where the lines of a block leave it: whether reading goes on behind them, or a `.break` was met.
pub record After (S : Type 0) : Type 0 where
  pub goes_on : Bool
  pub run : Run S

abbrev pub after : {S : Type 0} → Bool → Run S → After S
after goes_on run = record { goes_on = goes_on; run = run }

-- The most lines and turns that are processed in one run.
abbrev pub max_lines : ℕ
max_lines = 4194304

-- one more was counted
abbrev pub IsCounted : ℕ → ℕ → Type 0
IsCounted before now = (before < max_lines) × (now ≡ before + 1)

-- The most included files that are open at once.
abbrev pub max_files : ℕ
max_files = 64

abbrev pub Reads : Type 0 → Type 0 → Type 0 → Type 0
Reads W F A = Outcome A (FileFault W F)

-- The reading of a file of this name and these bytes, or none where no more files may be open.
abbrev pub Files : Type 0 → Type 0 → Type 0 → Type 0
Files S W F = Option (List ℕ → List ℕ → Run S → Reads W F (Run S))

module _ {S W F : Type 0} where
  -- A line or a turn is counted before it is processed.
  abbrev pub counted : Run S → Reads W F (Run S)
  counted r =
      if nat_lt r.count max_lines then done (run_at r.state (r.count + 1))
      else refused TooManyLines

  abbrev pub counted_if : Bool → Run S → Reads W F (Run S)
  counted_if true r = counted r
  counted_if false r = done r

  abbrev pub goes_on : Run S → Reads W F (After S)
  goes_on r = done (after true r)

  abbrev pub stops : Run S → Reads W F (After S)
  stops r = done (after false r)

  -- what stands behind lines is read where reading goes on
  abbrev pub next_if : Bool → Run S → (Run S → Reads W F (After S)) → Reads W F (After S)
  next_if true r rest = rest r
  next_if false r rest = stops r

  abbrev pub next : (Run S → Reads W F (After S)) → After S → Reads W F (After S)
  next rest a = next_if a.goes_on a.run rest

  -- a `.break` ends the turns of a loop, and reading goes on behind it
  abbrev pub next_turn_if : Bool → Run S → (Run S → Reads W F (Run S)) → Reads W F (Run S)
  next_turn_if true r turns = turns r
  next_turn_if false r turns = done r

  abbrev pub next_turn : (Run S → Reads W F (Run S)) → After S → Reads W F (Run S)
  next_turn turns a = next_turn_if a.goes_on a.run turns

  -- A body in all turns, each of them counted.
  unfoldable pub all_turns : (Turn → Run S → Reads W F (After S)) → List Turn → Run S
      → Reads W F (Run S)
  all_turns body [] r = done r
  all_turns body (turn ∷ turns) r =
      counted r >>= λ q. body turn q >>= next_turn (all_turns body turns)
