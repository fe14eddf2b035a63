-- The files after changes, and their times.
use Rattle.std.proofs.Common.{◌≡◌, ℕ, ◌≤◌, Bool, true, false, cond, List, [], ◌∷◌, ◌++◌, map, Option, Some, None}
use Rattle.std.proofs.Common.{refl, ◌∙◌, ap, arith}
use Rattle.std.specs.Option.{option_map}
use Rattle.std.specs.Str.{bytes_eq}
use Rattle.mk_world.specs.Deeds.{Spot, after_deeds, changes, put, put_all}
use Rattle.mk_world.specs.History.{FileMap, Filed, Effect, State, MayNow, NotEarlier}
use Rattle.mk_world.specs.History.{after, at_time, contents, effected, effected_all, filed, files_of}
use Rattle.mk_world.specs.History.{after_all, effects, first_state, last_time, stamped_after, state_of, timed_effects}
use Rattle.mk_world.specs.Talks.{Meaning, after_doing}
use Rattle.mk_world.specs.declared.command.Cmd.{Cmd}
use Rattle.mk_world.specs.declared.history.Happening.{Happening}
use Rattle.mk_world.specs.declared.history.Happening.TheVariants.{Edit, Look, Stamp, Put, Gone, Ask, Start, Step, End, Left}
use Rattle.mk_world.specs.declared.history.History.{History}
use Rattle.mk_world.specs.declared.history.Timed.{Timed}
use Rattle.mk_world.proofs.CallLemmas.{after_all-append}

filed-bytes : (bytes : Option (List ℕ)) (time : ℕ)
    → option_map (λ file. file.bytes) (filed bytes time) ≡ bytes
filed-bytes None time = refl
filed-bytes (Some bytes) time = refl

bytes_if : (here : Bool) (one other : Option Filed)
    → option_map (λ file. file.bytes) (cond here one other)
    ≡ cond here (option_map (λ file. file.bytes) one) (option_map (λ file. file.bytes) other)
bytes_if true one other = refl
bytes_if false one other = refl

-- the bytes after one change
pub contents-effected : (files : FileMap) (spot : Spot) (time : ℕ)
    → contents (effected files (record { path = spot.path; bytes = spot.bytes; time = time }))
    ≡ put (contents files) spot
contents-effected files spot time = λ i path.
    (bytes_if (bytes_eq spot.path path) (filed spot.bytes time) (files path)
    ∙ ap (λ b. cond (bytes_eq spot.path path) b (contents files path))
    (filed-bytes spot.bytes time)) i

-- the bytes after changes that share a time
pub contents-effected_all : (files : FileMap) (spots : List Spot) (time : ℕ)
    → contents (effected_all files (at_time time spots)) ≡ put_all (contents files) spots
contents-effected_all files [] time = refl
contents-effected_all files (spot ∷ spots) time =
    contents-effected_all
    (effected files (record { path = spot.path; bytes = spot.bytes; time = time })) spots time
    ∙ ap (λ store. put_all store spots) (contents-effected files spot time)

pub effected_all-append : (files : FileMap) (first second : List Effect)
    → effected_all files (first ++ second) ≡ effected_all (effected_all files first) second
effected_all-append files [] second = refl
effected_all-append files (effect ∷ first) second =
    effected_all-append (effected files effect) first second

pub last_time-append : (time : ℕ) (first second : List Effect)
    → last_time time (first ++ second) ≡ last_time (last_time time first) second
last_time-append time [] second = refl
last_time-append time (effect ∷ first) second = last_time-append effect.time first second

-- the bytes after steps
pub contents-steps : (files : FileMap) (steps : List Timed)
    → contents (effected_all files (timed_effects steps))
    ≡ after_deeds (contents files) (map (λ step. step.deed) steps)
contents-steps files [] = refl
contents-steps files (step ∷ steps) =
    let first = at_time step.time (changes step.deed) in
    ap contents (effected_all-append files first (timed_effects steps))
    ∙ contents-steps (effected_all files first) steps
    ∙ ap (λ store. after_deeds store (map (λ s. s.deed) steps))
    (contents-effected_all files (changes step.deed) step.time)

-- the bytes after a command that was asked
pub contents-asked : (meaning : Meaning) (state : State) (cmd : Cmd) (steps : List Timed)
    → MayNow meaning state (Ask cmd steps)
    → contents (after state (Ask cmd steps)).files ≡ after_doing meaning cmd (contents state.files)
contents-asked meaning state cmd steps may =
    contents-steps state.files steps ∙ ap (after_deeds (contents state.files)) may

-- the bytes after a removal
pub contents-gone : (state : State) (path : List ℕ) (time : ℕ)
    → contents (after state (Gone path time)).files
    ≡ put (contents state.files) (record { path = path; bytes = None })
contents-gone state path time =
    contents-effected state.files (record { path = path; bytes = None }) time

-- the state behind one event more
pub state_of-event : (old new : History) (event : Happening) → new.base ≡ old.base
    → new.events ≡ old.events ++ event ∷ [] → state_of new ≡ after (state_of old) event
state_of-event old new event base longer =
    ap (λ base. after_all (first_state base) new.events) base
    ∙ (ap (λ events. after_all (first_state old.base) events) longer
    ∙ after_all-append (first_state old.base) old.events (event ∷ []))

-- The files behind a command that was asked are those that its steps leave.
pub files_of-asked : (meaning : Meaning) (old new : History) (cmd : Cmd) (steps : List Timed)
    → new.base ≡ old.base → new.events ≡ old.events ++ Ask cmd steps ∷ []
    → MayNow meaning (state_of old) (Ask cmd steps)
    → files_of new ≡ after_doing meaning cmd (files_of old)
files_of-asked meaning old new cmd steps base longer may =
    ap (λ (s : State). contents s.files) (state_of-event old new (Ask cmd steps) base longer)
    ∙ contents-asked meaning (state_of old) cmd steps may

-- The files behind a removal are those before it without the path.
pub files_of-gone : (old new : History) (path : List ℕ) (time : ℕ)
    → new.base ≡ old.base → new.events ≡ old.events ++ Gone path time ∷ []
    → files_of new ≡ put (files_of old) (record { path = path; bytes = None })
files_of-gone old new path time base longer =
    ap (λ (s : State). contents s.files) (state_of-event old new (Gone path time) base longer)
    ∙ contents-gone (state_of old) path time

-- changes that are not earlier, behind others
pub NotEarlier-append : (time : ℕ) (first second : List Effect) → NotEarlier time first
    → NotEarlier (last_time time first) second → NotEarlier time (first ++ second)
NotEarlier-append time [] second rising then_rising = then_rising
NotEarlier-append time (effect ∷ first) second rising then_rising =
    (rising.0, NotEarlier-append effect.time first second rising.1 then_rising)

-- the clock never goes back
pub not-back : (clock : ℕ) (all : List Effect) → NotEarlier clock all → clock ≤ last_time clock all
not-back clock [] later = omega arith
not-back clock (effect ∷ more) later =
    let rest = not-back effect.time more later.1 in omega (arith, rest, later.0)

-- the last stamp is no later than the last change
pub stamped-within : (clock stamped : ℕ) (event : Happening) → NotEarlier clock (effects event)
    → stamped ≤ clock → stamped_after stamped event ≤ last_time clock (effects event)
stamped-within clock stamped (Stamp path bytes time) rises within = omega arith
stamped-within clock stamped (Edit path bytes time) rises within =
    let back = not-back clock (effects (Edit path bytes time)) rises in omega (arith, within, back)
stamped-within clock stamped (Look path) rises within = within
stamped-within clock stamped (Put path bytes time) rises within =
    let back = not-back clock (effects (Put path bytes time)) rises in omega (arith, within, back)
stamped-within clock stamped (Gone path time) rises within =
    let back = not-back clock (effects (Gone path time)) rises in omega (arith, within, back)
stamped-within clock stamped (Ask cmd steps) rises within =
    let back = not-back clock (effects (Ask cmd steps)) rises in omega (arith, within, back)
stamped-within clock stamped (Start ticket owner cmd) rises within = within
stamped-within clock stamped (Step ticket owner deed time) rises within =
    let back = not-back clock (effects (Step ticket owner deed time)) rises in omega (arith, within, back)
stamped-within clock stamped (End ticket owner) rises within = within
stamped-within clock stamped (Left ticket owner) rises within = within
