-- Runs of the makefile of a program, one behind the other, with edits between them.
use Rattle.std.proofs.Common.{◌≡◌, ◌∙◌, ℕ, List, [], ◌∷◌, true, false, Option, Some, Result, Ok, Err}
use Rattle.std.proofs.Common.{refl, sym, ap, subst, codes}
use Rattle.std.proofs.lemmas.Bool.{false≢true}
use Rattle.std.specs.List.{AllByRecursion}
use Rattle.mk_bytes.specs.Agrees.{Agrees}
use Rattle.mk_clean.specs.Declared.{IsSource}
use Rattle.mk_cli.specs.declared.order.Order.{Order}
use Rattle.mk_commands.specs.Meaning.{language}
use Rattle.mk_declared.proofs.TestLemmas.{source-of}
use Rattle.mk_declared.specs.Testing.{is_source}
use Rattle.mk_headline.proofs.PlanLemmas.{meta_path-is}
use Rattle.mk_headline.specs.Plans.{clean_plan, is_meta_path}
use Rattle.mk_meta.specs.Texts.{meta_text}
use Rattle.mk_meta.specs.TrueHistory.{IsTrueHistory, meta_path}
use Rattle.mk_modes.specs.Building.{Point, point}
use Rattle.mk_modes.specs.Meaning.{asked}
use Rattle.mk_modes.specs.Modes.{Held}
use Rattle.mk_modes.specs.declared.report.End.TheVariants.{NoMemory}
use Rattle.mk_modes.specs.declared.report.End.{End}
use Rattle.mk_modes.specs.declared.report.Report.{Report}
use Rattle.mk_run.specs.TrueRuns.{IsTrueOrderRun}
use Rattle.mk_top.specs.Runs.{Does, Follows}
use Rattle.mk_trace.proofs.TrueTexts.{true-same}
use Rattle.mk_world.proofs.CallLemmas.{MayAll-append, after_all-append}
use Rattle.mk_world.specs.Deeds.{Spot}
use Rattle.mk_world.specs.History.{State as Stand, after, contents, files_of, first_state, state_of}
use Rattle.mk_world.specs.declared.history.Happening.TheVariants.{Edit}
use Rattle.mk_world.specs.declared.history.History.{History}
use Rattle.mk_example.proofs.DoneLemmas.{same-ok}
use Rattle.mk_example.proofs.ProgramLemmas.{Follow, behind, its-jobs, new-programs, programs-right}
use Rattle.mk_example.proofs.ProgramRows.{jobs, lines, sources-are, spots, work}
use Rattle.mk_example.specs.Copies.{env}
use Rattle.mk_example.specs.Programs.{HasSources, MayRun, ProgramEditsMayFollow, ProgramRunsMayFollow, ProgramsAreRightAgain, Source, Sources, new_program, order, path_of, the_a, the_b, the_spec, with_edit, with_source, words}

-- behind a run

of-run : (s : Sources) (old new : History) (out out_after : Option (List ℕ)) (err : Held) (report : Report)
    → MayRun s old
    → IsTrueOrderRun language words env order (point (Some old) out) (point (Some new) out_after) err report
    → (state_of new).children ≡ [] → MayRun s new
of-run s old new out out_after err report may run idle = record {
  files = record {
    makefile_is = stands (codes "makefile") tested.1.1.1.1.0 ∙ may.files.makefile_is;
    spec_is = stands (codes "spec") tested.1.1.1.0 ∙ may.files.spec_is;
    a_is = stands (codes "a.c") tested.1.1.0 ∙ may.files.a_is;
    b_is = stands (codes "b.c") tested.1.0 ∙ may.files.b_is;
    local_is = stands (codes "local.h") tested.0 ∙ may.files.local_is;
  };
  start = next.0;
}
  where
    next : Follow s old new
    next = behind s old new out out_after err report may run idle

    tested : AllByRecursion (λ (spot : Spot). is_source (clean_plan work lines) (jobs (files_of old) s) spot.path ≡ true)
        (spots s)
    tested = sources-are (files_of old) s

    stands : (path : List ℕ) → is_source (clean_plan work lines) (jobs (files_of old) s) path ≡ true
        → files_of new path ≡ files_of old path
    stands path is =
        next.1 path
        (subst (λ all. IsSource (clean_plan work lines) all path) (its-jobs s (files_of old) may.files)
        (source-of (clean_plan work lines) (jobs (files_of old) s) path is))

same-some : (one other : History) → Some one ≡ Some other → one ≡ other
same-some one other is = cc

pub runs-follow : ProgramRunsMayFollow
runs-follow s old new out out_after err report may run idle = by run.order run.is run.follows
  where
    by : (given : Result Order End) → Agrees NoMemory (λ asked. asked) given (asked env.cwd words)
        → Follows language words env given (point (Some old) out) (point (Some new) out_after) err report → MayRun s new
    by (Err end) is refused =
        subst (MayRun s) (sym (same-some new old (ap (λ (p : Point). p.history) refused.same))) may
    by (Ok given) is does =
        of-run s old new out out_after err report may
        (subst (λ (o : Order). Does language words env o o.generate (point (Some old) out) (point (Some new) out_after)
        err report) (sym (same-ok order given is)) does) idle

-- behind an edit

edit-state : (old : History) (which : Source) (bytes : List ℕ) (time : ℕ)
    → state_of (with_edit old which bytes time) ≡ after (state_of old) (Edit (path_of which) (Some bytes) time)
edit-state old which bytes time =
    after_all-append (first_state old.base) old.events (Edit (path_of which) (Some bytes) time ∷ [])

edit-has : (s : Sources) (which : Source) (bytes : List ℕ) (old : History) (time : ℕ) → HasSources s (files_of old)
    → HasSources (with_source which bytes s) (files_of (with_edit old which bytes time))
edit-has s the_spec bytes old time has =
    let at = λ (path : List ℕ). ap (λ (s : Stand). contents s.files path) (edit-state old the_spec bytes time) in record {
      makefile_is = at (codes "makefile") ∙ has.makefile_is;
      spec_is = at (codes "spec");
      a_is = at (codes "a.c") ∙ has.a_is;
      b_is = at (codes "b.c") ∙ has.b_is;
      local_is = at (codes "local.h") ∙ has.local_is;
    }
edit-has s the_a bytes old time has =
    let at = λ (path : List ℕ). ap (λ (s : Stand). contents s.files path) (edit-state old the_a bytes time) in record {
      makefile_is = at (codes "makefile") ∙ has.makefile_is;
      spec_is = at (codes "spec") ∙ has.spec_is;
      a_is = at (codes "a.c");
      b_is = at (codes "b.c") ∙ has.b_is;
      local_is = at (codes "local.h") ∙ has.local_is;
    }
edit-has s the_b bytes old time has =
    let at = λ (path : List ℕ). ap (λ (s : Stand). contents s.files path) (edit-state old the_b bytes time) in record {
      makefile_is = at (codes "makefile") ∙ has.makefile_is;
      spec_is = at (codes "spec") ∙ has.spec_is;
      a_is = at (codes "a.c") ∙ has.a_is;
      b_is = at (codes "b.c");
      local_is = at (codes "local.h") ∙ has.local_is;
    }

plain-path : (which : Source) → is_meta_path (path_of which) ≡ false
plain-path the_spec = refl
plain-path the_a = refl
plain-path the_b = refl

no-meta : (which : Source) (target : List ℕ) → path_of which ≡ meta_path target → ⊥
no-meta which target same =
    false≢true (sym (plain-path which) ∙ (ap is_meta_path same ∙ meta_path-is target))

edit-true : (old : History) (which : Source) (bytes : List ℕ) (time : ℕ) → IsTrueHistory language.next old
    → IsTrueHistory language.next (with_edit old which bytes time)
edit-true old which bytes time truth = λ meta lawful stands.
    (true-same language.next old.events (state_of old).files (λ stamp. Unit {0}) (λ stamp. Unit {0})
    (Edit (path_of which) (Some bytes) time) (λ target. (no-meta which target, tt)) (λ stamp over. (tt, refl))
    (λ one one_is one_stands. (truth one one_is one_stands, tt)) meta lawful
    (subst (λ (s : Stand). contents s.files (meta_path meta.target) ≡ Some (meta_text meta))
    (edit-state old which bytes time) stands)).0

pub edits-follow : ProgramEditsMayFollow
edits-follow s which bytes old time may later = record {
  files = edit-has s which bytes old time may.files;
  start = record {
    lawful = record {
      events = MayAll-append language (first_state old.base) old.events (Edit (path_of which) (Some bytes) time ∷ [])
          may.start.lawful.events (((later, tt), may.start.idle), tt);
    };
    idle = ap (λ (s : Stand). s.children) (edit-state old which bytes time) ∙ may.start.idle;
    truth = edit-true old which bytes time may.start.truth;
  };
}

pub programs-right-again : ProgramsAreRightAgain
programs-right-again s which bytes mid new time out out_mid out_again out_after err err_again report again run idle later
    run_again done =
    programs-right (with_source which bytes s) (with_edit mid which bytes time) new out_again out_after err_again again
    (edits-follow s which bytes mid time
    (runs-follow s (new_program s) mid out out_mid err report (new-programs s) run idle) later)
    run_again done
