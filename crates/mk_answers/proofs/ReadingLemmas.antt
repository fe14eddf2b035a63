-- Readings are the same where they are answered the same.
use Rattle.std.proofs.Common.{ℕ, List, [], ◌∷◌, Option, Some, None, refl}
use Rattle.mk_answers.proofs.BlockLemmas.{counts_of, file_goes}
use Rattle.mk_answers.proofs.OutcomeLemmas.{IsAlike, as-alike, counts_at, done-alike, last-same, refused-alike, then-alike}
use Rattle.mk_answers.proofs.StepLemmas.{file_contents, mode_read, ordered}
use Rattle.mk_answers.specs.Readings.{ReadingsPartAtQuestions}
use Rattle.mk_blocks.specs.Outcomes.{done}
use Rattle.mk_blocks.specs.Runs.{Run, max_files, run_at}
use Rattle.mk_bytes.specs.Paths.{clean}
use Rattle.mk_graph.specs.declared.mode.Mode.{Mode}
use Rattle.mk_makefile.specs.Modes.{made_at}
use Rattle.mk_makefile.specs.Moments.{Moment}
use Rattle.mk_makefile.specs.Orders.{first_moment}
use Rattle.mk_makefile.specs.Questions.{Answers}
use Rattle.mk_makefile.specs.ReadFaults.{Reads, file_fault, of_end, of_what}
use Rattle.mk_makefile.specs.Reading as read
use Rattle.mk_makefile.specs.Reading.{all_read, files_read, first_name, in_file, makefile_read, makefiles_read, run_read, second_name, whole_read}

module _ (one other : Answers) where
  -- what gives another state, and what gives more than that
  abbrev GoesOn : Run Moment → Reads (Run Moment) → Reads (Run Moment) → Type 0
  GoesOn r first second = IsAlike one other counts_of (counts_of r) first second

  abbrev GoesFrom : {A : Type 0} → Moment → Reads (A × Moment) → Reads (A × Moment) → Type 0
  GoesFrom {A} s first second = IsAlike one other (λ (v : A × Moment). counts_at v.1) (counts_at s) first second

  looked : (file : List ℕ) (s : Moment) → GoesFrom s (read.looked one file s) (read.looked other file s)
  looked file s =
      as-alike one other _ (counts_at s) of_what _ _ (file_contents one other (clean s.made.scopes.cwd file) s)

  whole : (file bytes : List ℕ) (r : Run Moment) → GoesOn r (whole_read one file bytes r) (whole_read other file bytes r)
  whole file bytes r =
      as-alike one other counts_of (counts_of r) file_fault _ _
      (file_goes one other max_files file bytes (run_at (in_file file r.state) r.count))

  found : (file missing : List ℕ) (count : ℕ) (v : Option (List ℕ) × Moment)
      → IsAlike one other counts_of (counts_at v.1) (read.found_read one file missing count v)
      (read.found_read other file missing count v)
  found file missing count (None, s) = refused-alike one other counts_of (counts_at s) _
  found file missing count (Some bytes, s) = whole file bytes (run_at s count)

  makefile : (file missing : List ℕ) (r : Run Moment)
      → GoesOn r (makefile_read one file missing r) (makefile_read other file missing r)
  makefile file missing r =
      then-alike one other (λ (v : Option (List ℕ) × Moment). counts_at v.1) counts_of (counts_of r)
      (read.looked one file r.state) (read.looked other file r.state) (read.found_read one file missing r.count)
      (read.found_read other file missing r.count) (looked file r.state) (λ v. found file missing r.count v)

  files : (names : List (List ℕ)) (r : Run Moment) → GoesOn r (files_read one names r) (files_read other names r)
  files [] r = done-alike one other counts_of (counts_of r) r refl
  files (name ∷ names) r =
      then-alike one other counts_of counts_of (counts_of r) (makefile_read one name name r)
      (makefile_read other name name r) (files_read one names) (files_read other names) (makefile name name r)
      (λ q. files names q)

  first_or_second : (count : ℕ) (v : Option (List ℕ) × Moment)
      → IsAlike one other counts_of (counts_at v.1) (read.first_or_second one count v)
      (read.first_or_second other count v)
  first_or_second count (None, s) = makefile second_name first_name (run_at s count)
  first_or_second count (Some bytes, s) = whole first_name bytes (run_at s count)

  makefiles : (names : List (List ℕ)) (r : Run Moment)
      → GoesOn r (makefiles_read one names r) (makefiles_read other names r)
  makefiles [] r =
      then-alike one other (λ (v : Option (List ℕ) × Moment). counts_at v.1) counts_of (counts_of r)
      (read.looked one first_name r.state) (read.looked other first_name r.state)
      (read.first_or_second one r.count) (read.first_or_second other r.count) (looked first_name r.state)
      (λ v. first_or_second r.count v)
  makefiles (name ∷ names) r = files (name ∷ names) r

  all : (r : Run Moment) → GoesOn r (all_read one r) (all_read other r)
  all r =
      then-alike one other (λ (v : Unit {0} × Moment). counts_at v.1) counts_of (counts_of r)
      (read.words_applied one r.state) (read.words_applied other r.state)
      (λ first. makefiles_read one first.1.order.files (run_at first.1 r.count))
      (λ first. makefiles_read other first.1.order.files (run_at first.1 r.count))
      (as-alike one other _ (counts_of r) of_what _ _ (ordered one other r.state))
      (λ v. makefiles v.1.order.files (run_at v.1 r.count))

  to_the_end : (r : Run Moment)
      → IsAlike one other (λ (v : Mode × Moment). counts_at v.1) (counts_of r) (run_read one r) (run_read other r)
  to_the_end r =
      then-alike one other counts_of (λ (v : Mode × Moment). counts_at v.1) (counts_of r) (all_read one r)
      (all_read other r) (λ last. read.mode_ended one last.state) (λ last. read.mode_ended other last.state) (all r)
      (λ last. as-alike one other _ (counts_at last.state) (of_end last.state.made.file) _ _
      (mode_read one other last.state))

pub readings_part_at_questions : ReadingsPartAtQuestions
readings_part_at_questions one other env order alike =
    last-same one other (λ (v : Mode × Moment). counts_at v.1) (counts_at (first_moment env order))
    (run_read one (run_at (first_moment env order) 0)) (run_read other (run_at (first_moment env order) 0))
    (λ end. done (made_at end.0 end.1)) (to_the_end one other (run_at (first_moment env order) 0)) alike
