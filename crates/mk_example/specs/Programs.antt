-- A makefile of a program with a phony target, a header that is generated, two objects, a scratch
-- file, a job of two lines and one that looks for a file which is missing; and what its runs with
-- four jobs at once leave.
use Rattle.std.specs.Prelude.{◌≡◌, ℕ, ◌≤◌, List, [], ◌∷◌, ◌++◌, Option, Some, None, codes}
use Rattle.mk_cli.specs.Orders.{no_order}
use Rattle.mk_cli.specs.declared.order.Order.{Order}
use Rattle.mk_commands.specs.Meaning.{language}
use Rattle.mk_modes.specs.Building.{point}
use Rattle.mk_modes.specs.Modes.{Held}
use Rattle.mk_modes.specs.declared.report.End.TheVariants.{Done}
use Rattle.mk_modes.specs.declared.report.Report.{Report}
use Rattle.mk_sound.specs.Files.{AreSound, IsTrueStart}
use Rattle.mk_top.specs.Runs.{IsRun}
use Rattle.mk_trace.specs.TrueBuilds.{longer}
use Rattle.mk_world.specs.Deeds.{Store}
use Rattle.mk_world.specs.History.{files_of, state_of}
use Rattle.mk_world.specs.declared.history.Happening.TheVariants.{Edit}
use Rattle.mk_world.specs.declared.history.History.{History}
use Rattle.mk_example.specs.Copies.{env}

-- how `gen.h` is made
abbrev pub gen_command : List ℕ
gen_command = codes "copy spec gen.h"

-- how `b.o` is made: with a note of whether there is a `local.h`, by way of a scratch file
abbrev pub b_command : List ℕ
b_command = codes "probe opt local.h ; cat b.o b.c opt"

abbrev pub makefile : List ℕ
makefile =
    codes ".MAKE.MODE=meta curdirOk=yes missing-meta=yes missing-filemon=yes\nall: prog\n.PHONY: all\n"
    ++ codes "prog: a.o b.o\n\tcat prog a.o b.o\na.o: a.c gen.h\n\tcat tmp a.c gen.h\n\tcopy tmp a.o\n"
    ++ codes "b.o: b.c\n\t" ++ b_command ++ codes "\ngen.h: spec\n\t" ++ gen_command ++ codes "\n"

abbrev pub words : List (List ℕ)
words = codes "-j" ∷ codes "4" ∷ []

-- what the words ask for
abbrev pub order : Order
order = record no_order { flags = record no_order.flags { jobs = 4 } }

-- the bytes of the sources
pub record Sources : Type 0 where
  pub spec : List ℕ
  pub a : List ℕ
  pub b : List ℕ

-- the program that the makefile makes of them; `b.o` tells that it found no `local.h`
abbrev pub program : Sources → List ℕ
program s = (s.a ++ s.spec) ++ (s.b ++ codes "no\n")

-- The makefile and the sources stand, and `local.h` is missing. Anything else may stand.
pub record HasSources (s : Sources) (files : Store) : Type 0 where
  pub makefile_is : files (codes "makefile") ≡ Some makefile
  pub spec_is : files (codes "spec") ≡ Some s.spec
  pub a_is : files (codes "a.c") ≡ Some s.a
  pub b_is : files (codes "b.c") ≡ Some s.b
  pub local_is : files (codes "local.h") ≡ None

-- All that is asked of makefiles and files holds of these.
abbrev pub SourcesAreSound : Type 0
SourcesAreSound = (s : Sources) (files : Store) → HasSources s files
    → AreSound language env order files

-- Before a run: the files stand, and the history is one that may have come about, in which no child
-- runs and each meta file that stands tells what happened. Anything may have been built and edited.
pub record MayRun (s : Sources) (old : History) : Type 0 where
  pub files : HasSources s (files_of old)
  pub start : IsTrueStart language old

-- Each run that ends with all made leaves the program of the sources as they stand.
abbrev pub ProgramsAreRight : Type 0
ProgramsAreRight =
    (s : Sources) (old new : History) (out out_after : Option (List ℕ)) (err : Held) (report : Report) → MayRun s old
    → IsRun language words env (point (Some old) out) (point (Some new) out_after) err report
    → report.end ≡ Done → files_of new (codes "prog") ≡ Some (program s)

-- a world in which nothing has happened yet
abbrev pub new_program : Sources → History
new_program s = record {
  base = record { path = codes "makefile"; bytes = makefile; time = 1 }
      ∷ record { path = codes "spec"; bytes = s.spec; time = 1 }
      ∷ record { path = codes "a.c"; bytes = s.a; time = 1 }
      ∷ record { path = codes "b.c"; bytes = s.b; time = 1 } ∷ [];
  events = [];
}

abbrev pub NewProgramsMayRun : Type 0
NewProgramsMayRun = (s : Sources) → MayRun s (new_program s)

-- Behind each run, however it ended, another may follow, once no child runs.
abbrev pub ProgramRunsMayFollow : Type 0
ProgramRunsMayFollow =
    (s : Sources) (old new : History) (out out_after : Option (List ℕ)) (err : Held) (report : Report) → MayRun s old
    → IsRun language words env (point (Some old) out) (point (Some new) out_after) err report
    → (state_of new).children ≡ [] → MayRun s new

-- one of the sources
pub data Source : Type 0 where
  the_spec : Source
  the_a : Source
  the_b : Source

abbrev pub path_of : Source → List ℕ
path_of the_spec = codes "spec"
path_of the_a = codes "a.c"
path_of the_b = codes "b.c"

abbrev pub with_source : Source → List ℕ → Sources → Sources
with_source the_spec bytes s = record s { spec = bytes }
with_source the_a bytes s = record s { a = bytes }
with_source the_b bytes s = record s { b = bytes }

-- it is changed to these bytes from outside
abbrev pub with_edit : History → Source → List ℕ → ℕ → History
with_edit old which bytes time = longer old (Edit (path_of which) (Some bytes) time ∷ [])

-- Where a source is changed, and not earlier than all else was, a run may follow.
abbrev pub ProgramEditsMayFollow : Type 0
ProgramEditsMayFollow =
    (s : Sources) (which : Source) (bytes : List ℕ) (old : History) (time : ℕ) → MayRun s old
    → (state_of old).clock ≤ time
    → MayRun (with_source which bytes s) (with_edit old which bytes time)

-- So a run with whatever end, an edit of a source at whatever later time, and a run that ends with
-- all made leave the program of the sources as they were edited: nothing is asked of them but their
-- bytes.
abbrev pub ProgramsAreRightAgain : Type 0
ProgramsAreRightAgain =
    (s : Sources) (which : Source) (bytes : List ℕ) (mid new : History) (time : ℕ)
    (out out_mid out_again out_after : Option (List ℕ)) (err err_again : Held) (report again : Report)
    → IsRun language words env (point (Some (new_program s)) out) (point (Some mid) out_mid) err report
    → (state_of mid).children ≡ [] → (state_of mid).clock ≤ time
    → IsRun language words env (point (Some (with_edit mid which bytes time)) out_again) (point (Some new) out_after)
    err_again again
    → again.end ≡ Done → files_of new (codes "prog") ≡ Some (program (with_source which bytes s))
