-- The makefile of a program: that it is sound, and what its runs leave.
use Rattle.std.proofs.Common.{◌≡◌, ◌∙◌, ℕ, List, [], ◌∷◌, Bool, true, false, Option, Some, None, Result, Ok, Err, if◌then◌else◌}
use Rattle.std.proofs.Common.{inl, inr, refl, sym, ap, subst, codes, arith}
use Rattle.std.proofs.lemmas.Bool.{false≢true}
use Rattle.std.specs.List.{AllByRecursion}
use Rattle.std.specs.Str.{bytes_eq}
use Rattle.mk_answers.specs.OnFiles.{ChangesNone}
use Rattle.mk_bytes.specs.Agrees.{Agrees}
use Rattle.mk_clean.specs.Clean.{CleanJob, IsAmong}
use Rattle.mk_clean.specs.Declared.{IsDeclared, IsSource}
use Rattle.mk_cli.specs.declared.order.Order.{Order}
use Rattle.mk_commands.specs.Meaning.{language}
use Rattle.mk_declared.proofs.TestLemmas.{tested-declared}
use Rattle.mk_filemon.proofs.PathLemmas.{same_bytes}
use Rattle.mk_graph.specs.declared.Made.{Made}
use Rattle.mk_headline.proofs.PlanLemmas.{meta_path-is}
use Rattle.mk_headline.specs.Plans.{clean_plan, is_meta_path}
use Rattle.mk_makefile.specs.ReadFaults.{Reads}
use Rattle.mk_meta.specs.Texts.{meta_text}
use Rattle.mk_meta.specs.TrueHistory.{meta_path}
use Rattle.mk_meta.specs.declared.meta.Meta.{Meta}
use Rattle.mk_modes.specs.Building.{point}
use Rattle.mk_modes.specs.Meaning.{asked}
use Rattle.mk_modes.specs.Modes.{Held}
use Rattle.mk_modes.specs.declared.report.End.TheVariants.{Done, NoMemory}
use Rattle.mk_modes.specs.declared.report.End.{End}
use Rattle.mk_modes.specs.declared.report.Report.{Report}
use Rattle.mk_plan.specs.Plans.{planned}
use Rattle.mk_reader.specs.OnMaps.{reading_on}
use Rattle.mk_run.proofs.CleanRunLemmas.{done-before}
use Rattle.mk_run.specs.CleanRuns.{LeavesThem, bare, clean_files_of, clean_jobs_of}
use Rattle.mk_run.specs.TrueRuns.{IsTrueOrderRun}
use Rattle.mk_sound.proofs.FilesLemmas.{runs_leave_files, runs_may_follow}
use Rattle.mk_sound.specs.Files.{AreSound, IsTrueStart}
use Rattle.mk_sound.specs.Sound.{HasItsTask}
use Rattle.mk_top.specs.Runs.{Does, Follows}
use Rattle.mk_world.specs.Deeds.{Spot, Store, put, put_all}
use Rattle.mk_world.specs.History.{files_of, state_of}
use Rattle.mk_world.specs.declared.history.History.{History}
use Rattle.mk_example.proofs.DoneLemmas.{done-built, same-ok}
use Rattle.mk_example.proofs.ProgramRows.{HasTheTask, LooksForNone, by-meta-mode, clean-planned-is, clean-reading-is, files, jobs, jobs-declared, lines, made, nodes, planned-is, prog-is, reading-is, spots, start, tasks-are, work}
use Rattle.mk_example.specs.Copies.{env}
use Rattle.mk_example.specs.Programs.{HasSources, MayRun, NewProgramsMayRun, ProgramsAreRight, Sources, SourcesAreSound, makefile, new_program, order, program, words}

-- what stands there may be put there

put-there : (all : Store) (spot : Spot) → all spot.path ≡ spot.bytes → put all spot ≡ all
put-there all spot is = λ i. λ other. there other (bytes_eq spot.path other) refl i
  where
    there : (other : List ℕ) (b : Bool) → bytes_eq spot.path other ≡ b
        → (if bytes_eq spot.path other then spot.bytes else all other) ≡ all other
    there other true same = rw same (sym is ∙ ap all (same_bytes spot.path other same))
    there other false same = rw same refl

all-there : (all : Store) (spots : List Spot) → AllByRecursion (λ spot. all spot.path ≡ spot.bytes) spots
    → put_all all spots ≡ all
all-there all [] there = refl
all-there all (spot ∷ spots) there =
    ap (λ (s : Store). put_all s spots) (put-there all spot there.0) ∙ all-there all spots there.1

files-stand : (s : Sources) (all : Store) → HasSources s all → files all s ≡ all
files-stand s all has = all-there all (spots s)
    (has.local_is, (has.b_is, (has.a_is, (has.spec_is, (has.makefile_is, tt)))))

each-job : (P : CleanJob → Type 0) (all : List CleanJob) (one : CleanJob) → AllByRecursion P all → IsAmong one all
    → P one
each-job P [] one holds among = absurd among
each-job P (first ∷ more) one holds (inl is) = subst P (sym is) holds.0
each-job P (first ∷ more) one holds (inr among) = each-job P more one holds.1 among

-- all that is asked of the makefile and the files
module _ (s : Sources) (all : Store) (has : HasSources s all) where
  stand : files all s ≡ all
  stand = files-stand s all has

  starts : start all s ≡ bare nodes all
  starts = ap (bare nodes) stand

  pub its-jobs : jobs all s ≡ clean_jobs_of language work (bare nodes all)
  its-jobs = ap (clean_jobs_of language work) starts

  read : reading_on language all (λ dir. None) env order ≡ reading_on language (files all s) (λ dir. None) env order
  read = ap (λ (f : Store). reading_on language f (λ dir. None) env order) (sym stand)

  tasks : (one : CleanJob) → IsAmong one (clean_jobs_of language work (bare nodes all))
      → HasItsTask work lines (clean_jobs_of language work (bare nodes all)) one
  tasks one among =
      let its = each-job (λ one. HasTheTask all s one × LooksForNone one) (jobs all s) one (tasks-are all s)
      (subst (λ l. IsAmong one l) (sym its-jobs) among) in record {
        asked = [];
        task = its.0;
        no_newer = its.1;
        sources = λ question asked. absurd asked;
      }

  pub sources-sound : AreSound language env order all
  sources-sound = record {
    made = made;
    listings = λ dir. None;
    read = ap (λ (it : Reads Made). it.answer) (read ∙ reading-is all s);
    work = work;
    planned = subst (λ (f : Store). planned f made [] false ≡ Ok nodes) stand (planned-is all s);
    work_is = refl;
    lines = lines;
    room = omega arith;
    asks = subst (λ (it : Reads Made). AllByRecursion (ChangesNone language all (λ dir. None)) it.acts)
        (sym (read ∙ reading-is all s)) (tt, tt);
    mode = by-meta-mode;
    alike = record {
      made = made;
      nodes = nodes;
      listings = λ dir. None;
      read = subst (λ (f : Store). (reading_on language f (λ dir. None) env order).answer ≡ Ok made) starts
          (ap (λ (it : Reads Made). it.answer) (clean-reading-is all s));
      leaves = subst (λ (f : Store). AllByRecursion (LeavesThem language f (λ dir. None))
          (reading_on language f (λ dir. None) env order).acts) starts
          (subst (λ (it : Reads Made). AllByRecursion (LeavesThem language (start all s) (λ dir. None)) it.acts)
          (sym (clean-reading-is all s)) (tt, tt));
      planned = subst (λ (f : Store). planned f made [] false ≡ Ok nodes) starts (clean-planned-is all s);
      work_is = refl;
    };
    tasks_are = tasks;
    declared = subst (IsDeclared (clean_plan work lines)) its-jobs
        (tested-declared (clean_plan work lines) 8 (jobs all s) (jobs-declared all s));
  }

pub sound : SourcesAreSound
sound s all has = sources-sound s all has

-- what a run leaves

of-run : (s : Sources) (old new : History) (out out_after : Option (List ℕ)) (err : Held) (report : Report)
    → MayRun s old
    → IsTrueOrderRun language words env order (point (Some old) out) (point (Some new) out_after) err report
    → report.end ≡ Done → files_of new (codes "prog") ≡ Some (program s)
unfolding sources-sound
of-run s old new out out_after err report may run done =
    runs_leave_files language words env order (point (Some old) out) (point (Some new) out_after) err report run old new
    refl refl (done-built language words env order (point (Some old) out) (point (Some new) out_after) err report run
    (λ given. refl) done) done may.start (sources-sound s (files_of old) may.files) 6 refl
    ∙ subst (λ (f : Store). clean_files_of language work f (codes "prog") ≡ Some (program s))
    (starts s (files_of old) may.files) (prog-is (files_of old) s)

-- the start of the next run, and that each source stands as it did
abbrev pub Follow : Sources → History → History → Type 0
Follow s old new = IsTrueStart language new
    × ((path : List ℕ) → IsSource (clean_plan work lines) (clean_jobs_of language work (bare nodes (files_of old))) path
    → files_of new path ≡ files_of old path)

pub behind : (s : Sources) (old new : History) (out out_after : Option (List ℕ)) (err : Held) (report : Report)
    → MayRun s old
    → IsTrueOrderRun language words env order (point (Some old) out) (point (Some new) out_after) err report
    → (state_of new).children ≡ [] → Follow s old new
unfolding sources-sound
behind s old new out out_after err report may run idle =
    runs_may_follow language words env order (point (Some old) out) (point (Some new) out_after) err report run old new
    refl refl refl may.start (sources-sound s (files_of old) may.files) idle

no-memory : (end : End) → end ≡ Done → end ≡ NoMemory → ⊥
no-memory end is want = cc

pub programs-right : ProgramsAreRight
programs-right s old new out out_after err report may run done = by run.order run.is run.follows
  where
    by : (given : Result Order End) → Agrees NoMemory (λ asked. asked) given (asked env.cwd words)
        → Follows language words env given (point (Some old) out) (point (Some new) out_after) err report
        → files_of new (codes "prog") ≡ Some (program s)
    by (Err end) (inl want) refused =
        absurd (no-memory end (done-before words end report.end err refused.closed done) want)
    by (Err end) (inr other) refused = absurd cc
    by (Ok given) is does =
        of-run s old new out out_after err report may
        (subst (λ (o : Order). Does language words env o o.generate (point (Some old) out) (point (Some new) out_after)
        err report) (sym (same-ok order given is)) does) done

-- a new world

new-missing : (s : Sources) (path : List ℕ) → is_meta_path path ≡ true → files_of (new_program s) path ≡ None
new-missing s path meta =
    by (bytes_eq (codes "b.c") path) (bytes_eq (codes "a.c") path) (bytes_eq (codes "spec") path)
    (bytes_eq (codes "makefile") path) refl refl refl refl
  where
    other : (name : List ℕ) → is_meta_path name ≡ false → bytes_eq name path ≡ true → ⊥
    other name never same =
        false≢true (sym never ∙ (ap is_meta_path (same_bytes name path same) ∙ meta))

    by : (b a spec mk : Bool) → bytes_eq (codes "b.c") path ≡ b → bytes_eq (codes "a.c") path ≡ a
        → bytes_eq (codes "spec") path ≡ spec → bytes_eq (codes "makefile") path ≡ mk
        → files_of (new_program s) path ≡ None
    by true a spec mk one two three four = absurd (other (codes "b.c") refl one)
    by false true spec mk one two three four = absurd (other (codes "a.c") refl two)
    by false false true mk one two three four = absurd (other (codes "spec") refl three)
    by false false false true one two three four = absurd (other (codes "makefile") refl four)
    by false false false false one two three four = rw (one, two, three, four) refl

pub new-programs : NewProgramsMayRun
new-programs s = record {
  files = record {
    makefile_is = refl;
    spec_is = refl;
    a_is = refl;
    b_is = refl;
    local_is = refl;
  };
  start = record {
    lawful = record { events = tt };
    idle = refl;
    truth = λ meta lawful stands. absurd (none meta stands);
  };
}
  where
    none : (meta : Meta) → files_of (new_program s) (meta_path meta.target) ≡ Some (meta_text meta) → ⊥
    none meta stands =
        let missing = new-missing s (meta_path meta.target) (meta_path-is meta.target) in cc
