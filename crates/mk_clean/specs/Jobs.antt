-- What the lines of a job do on files, one after the other.
use Rattle.std.specs.Prelude.{◌≡◌, Bool, ◌||◌, ◌==◌, List, [], ◌∷◌, if◌then◌else◌}
use Rattle.mk_meta.specs.TrueHistory.{deeds_of_job}
use Rattle.mk_world.specs.Deeds.{Store, after_deeds}
use Rattle.mk_world.specs.Outer.{AgreeOn, nothing_over, outer}
use Rattle.mk_world.specs.Talks.{Doing, Meaning, does}
use Rattle.mk_world.specs.declared.command.Cmd.{Cmd}
use Rattle.mk_world.specs.declared.command.TaskLine.{TaskLine}

-- a line that ends so goes on to the next one
abbrev pub goes_on : TaskLine → Doing → Bool
goes_on line doing = line.ignore || (doing.status == 0)

-- Each line does its command on what the lines before it left, up to the first that fails.
abbrev pub job : Meaning → (TaskLine → Cmd) → List TaskLine → Store → List Doing
job meaning command [] store = []
job meaning command (line ∷ lines) store =
    does meaning (command line) store
    ∷ (if goes_on line (does meaning (command line) store)
    then job meaning command lines (after_deeds store (does meaning (command line) store).deeds)
    else [])

-- Two maps that agree on what a job takes from outside itself on the first give the same job.
abbrev pub SameJobs : Type 0
SameJobs =
    (meaning : Meaning) (command : TaskLine → Cmd) (lines : List TaskLine) (first second : Store)
    → AgreeOn first second (outer nothing_over (deeds_of_job (job meaning command lines first)))
    → job meaning command lines second ≡ job meaning command lines first
