-- A makefile of one target, and what its runs leave.
use Rattle.std.specs.Prelude.{◌≡◌, ℕ, ◌≤◌, List, [], ◌∷◌, Option, Some, None, codes}
use Rattle.mk_cli.specs.Orders.{no_order}
use Rattle.mk_commands.specs.Meaning.{language}
use Rattle.mk_meta.specs.TrueHistory.{IsTrueHistory}
use Rattle.mk_modes.specs.Building.{point}
use Rattle.mk_modes.specs.Modes.{Held}
use Rattle.mk_modes.specs.declared.report.End.TheVariants.{Done}
use Rattle.mk_modes.specs.declared.report.Report.{Report}
use Rattle.mk_scopes.specs.declared.scopes.Env.{Env}
use Rattle.mk_sound.specs.Files.{AreSound}
use Rattle.mk_top.specs.Runs.{IsRun}
use Rattle.mk_trace.specs.TrueBuilds.{longer}
use Rattle.mk_world.specs.Deeds.{Store}
use Rattle.mk_world.specs.History.{files_of, state_of}
use Rattle.mk_world.specs.Lawful.{IsLawful}
use Rattle.mk_world.specs.declared.history.Happening.TheVariants.{Edit, Stamp, Put}
use Rattle.mk_world.specs.declared.history.History.{History}

-- The makefile: meta mode, and a target that is a copy of its source.
abbrev pub makefile : List ℕ
makefile = codes ".MAKE.MODE=meta curdirOk=yes missing-meta=yes missing-filemon=yes\nt: a\n\tcopy a t\n"

-- an environment without variables
abbrev pub env : Env
env = record { vars = []; cwd = codes "/w"; program = codes "bmake" }

-- Before a run the makefile and its source stand, no child runs, the history is one that may have
-- come about, and each meta file that stands tells what happened. Anything else may stand, and
-- anything may have been built and edited.
pub record IsReady (bytes : List ℕ) (old : History) : Type 0 where
  pub makefile_is : files_of old (codes "makefile") ≡ Some makefile
  pub source_is : files_of old (codes "a") ≡ Some bytes
  pub lawful : IsLawful language old
  pub idle : (state_of old).children ≡ []
  pub truth : IsTrueHistory language.next old

-- Behind a run the target is a copy of the source, the makefile and the source are as they were,
-- the history is one that may have come about, and each meta file that stands tells what happened.
pub record IsCopied (bytes : List ℕ) (new : History) : Type 0 where
  pub target_is : files_of new (codes "t") ≡ Some bytes
  pub makefile_is : files_of new (codes "makefile") ≡ Some makefile
  pub source_is : files_of new (codes "a") ≡ Some bytes
  pub lawful : IsLawful language new
  pub truth : IsTrueHistory language.next new

-- Each run of the program without words that ends with all made leaves it so.
abbrev pub CopiesAreRight : Type 0
CopiesAreRight =
    (bytes : List ℕ) (old new : History) (out out_after : Option (List ℕ)) (err : Held) (report : Report)
    → IsReady bytes old
    → IsRun language [] env (point (Some old) out) (point (Some new) out_after) err report
    → report.end ≡ Done → IsCopied bytes new

-- a world in which nothing has happened yet
abbrev pub new_world : List ℕ → History
new_world bytes = record {
  base = record { path = codes "a"; bytes = bytes; time = 1 }
      ∷ record { path = codes "makefile"; bytes = makefile; time = 2 } ∷ [];
  events = [];
}

abbrev pub NewWorldsAreReady : Type 0
NewWorldsAreReady = (bytes : List ℕ) → IsReady bytes (new_world bytes)

-- the source is changed to these bytes from outside
abbrev pub edited : History → List ℕ → ℕ → History
edited new newer time = longer new (Edit (codes "a") (Some newer) time ∷ [])

-- Where the source is changed behind a run, and not earlier than all else was, the world is ready
-- for the next one.
abbrev pub EditedWorldsAreReady : Type 0
EditedWorldsAreReady =
    (bytes newer : List ℕ) (new : History) (time : ℕ) → IsCopied bytes new
    → (state_of new).children ≡ []
    → (state_of new).clock ≤ time → IsReady newer (edited new newer time)

-- So a run, a change of the source and a second run leave a copy of the source as it was changed,
-- at whatever time: also at that of the last write of the first run.
abbrev pub CopiesAreRightAgain : Type 0
CopiesAreRightAgain =
    (bytes newer : List ℕ) (old mid new : History) (time : ℕ) (out out_mid out_again out_after : Option (List ℕ))
    (err err_again : Held) (report again : Report) → IsReady bytes old
    → IsRun language [] env (point (Some old) out) (point (Some mid) out_mid) err report
    → report.end ≡ Done
    → (state_of mid).children ≡ [] → (state_of mid).clock ≤ time
    → IsRun language [] env (point (Some (edited mid newer time)) out_again) (point (Some new) out_after) err_again again
    → again.end ≡ Done → IsCopied newer new

-- The files at the beginning have one time, and all that happens, too, but for the second stamp.
abbrev pub one_time : List ℕ → History
one_time bytes = record {
  base = record { path = codes "a"; bytes = bytes; time = 7 }
      ∷ record { path = codes "b"; bytes = bytes; time = 7 } ∷ [];
  events = Edit (codes "a") None 7 ∷ Edit (codes "b") None 7
      ∷ Stamp (codes "t.meta") bytes 7 ∷ Put (codes "t.meta") bytes 7
      ∷ Stamp (codes "u.meta") bytes 8 ∷ Put (codes "u.meta") bytes 8 ∷ [];
}

-- It may have come about so.
abbrev pub ChangesMayShareATime : Type 0
ChangesMayShareATime = (bytes : List ℕ) → IsLawful language (one_time bytes)

-- Where the makefile and its source stand, the files are plain, and so they are sound, whatever
-- else stands there.
abbrev pub CopiedFilesAreSound : Type 0
CopiedFilesAreSound =
    (bytes : List ℕ) (files : Store) → files (codes "makefile") ≡ Some makefile
    → files (codes "a") ≡ Some bytes
    → AreSound language env no_order files
