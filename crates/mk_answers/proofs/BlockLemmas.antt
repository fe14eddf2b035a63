-- Files, and the blocks of their lines, are the same where they are answered the same.
use Rattle.std.proofs.Common.{◌≡◌, ℕ, zero, suc, ◌+◌, nat_lt, Bool, true, false, List, [], ◌∷◌, ◌++◌, Option, Some, None, Result, Ok, Err}
use Rattle.std.proofs.Common.{refl, ap}
use Rattle.mk_answers.proofs.OutcomeLemmas.{Alike, IsAlike, counts_at, done-alike, if-alike, refused-alike, silent-alike, then-alike}
use Rattle.mk_answers.proofs.StepLemmas.{condition, included, line_read, turns as turns_read}
use Rattle.mk_answers.specs.Readings.{Counts}
use Rattle.mk_blocks.specs.Blocks.{Block, Branches, parse}
use Rattle.mk_blocks.specs.Blocks as tree
use Rattle.mk_blocks.specs.FileFaults.{file_checked, in_place, located}
use Rattle.mk_blocks.specs.Languages.{Question}
use Rattle.mk_blocks.specs.Meaning as blocks
use Rattle.mk_blocks.specs.Meaning.{asked, branch_step, chosen, closed_run, condition_step, either, file_at, file_meaning, in_turns_of, line_step, opened_if, turns_step, wanted_step, with_state}
use Rattle.mk_blocks.specs.Outcomes.{silent}
use Rattle.mk_blocks.specs.Runs.{After, Files, Reads, Run, after, all_turns, counted, counted_if, max_lines, next, next_if, next_turn, next_turn_if}
use Rattle.mk_blocks.specs.declared.fault.FileFault.{FileFault}
use Rattle.mk_blocks.specs.declared.language.IncludedFile.{IncludedFile}
use Rattle.mk_lines.specs.Lines.{lines_from}
use Rattle.mk_lines.specs.declared.line.LogLine.{LogLine}
use Rattle.mk_makefile.specs.Kinds.{line_kind}
use Rattle.mk_makefile.specs.Languages.{meaning}
use Rattle.mk_makefile.specs.Moments.{Doing, Moment}
use Rattle.mk_makefile.specs.Questions.{Answers}
use Rattle.mk_makefile.specs.declared.fault.Outside.{Outside}
use Rattle.mk_makefile.specs.declared.fault.What.{What}
use Rattle.mk_turns.specs.Turns.{Turn}

-- how much was asked where a reading is
abbrev pub counts_of : Run Moment → Counts
counts_of r = counts_at r.state

abbrev counts_after : After Moment → Counts
counts_after a = counts_of a.run

-- readings of lines
abbrev Lines : Type 0 → Type 0
Lines A = Reads What Outside A

same-ok : {A E : Type 0} (one other : A) → ◌≡◌ {A = Result A E} (Ok one) (Ok other) → one ≡ other
same-ok one other is = cc

module _ (one other : Answers) where
  -- what gives another state, and what gives more than that
  abbrev pub GoesOn : Run Moment → Lines (Run Moment) → Lines (Run Moment) → Type 0
  GoesOn r first second = IsAlike one other counts_of (counts_of r) first second

  abbrev GoesWith : {A : Type 0} → Run Moment → Lines (A × Run Moment) → Lines (A × Run Moment) → Type 0
  GoesWith {A} r first second =
      IsAlike one other (λ (v : A × Run Moment). counts_of v.1) (counts_of r) first second

  abbrev GoesAfter : Run Moment → Lines (After Moment) → Lines (After Moment) → Type 0
  GoesAfter r first second = IsAlike one other counts_after (counts_of r) first second

  placed : {A : Type 0} (name : List ℕ) (number : ℕ) (s : Moment) (first second : Doing A)
      → Alike one other s first second
      → IsAlike one other {A = A × Moment} {E = FileFault What Outside} (λ v. counts_at v.1) (counts_at s)
      (in_place name number first) (in_place name number second)
  placed {A} name number s first second is = record {
    counts = λ found here. is.counts found (given first.answer found here);
    same = λ alike. ap (in_place name number) (is.same alike);
  }
    where
      given : (answer : Result (A × Moment) What) (found : A × Moment)
          → ◌≡◌ {A = Result (A × Moment) (FileFault What Outside)} (located name number answer) (Ok found)
          → answer ≡ Ok found
      given (Ok got) found here = ap Ok (same-ok {A = A × Moment} {E = FileFault What Outside} got found here)
      given (Err fault) found here = absurd cc

  -- what the language answers of a line
  line_asked : {A : Type 0} (question other_question : Question A Moment What)
      → ((file : List ℕ) (number : ℕ) (text : List ℕ) (s : Moment)
      → Alike one other s (question file number text s) (other_question file number text s))
      → (name : List ℕ) (turns : List Turn) (l : LogLine) (r : Run Moment)
      → GoesWith r (asked question name turns l r) (asked other_question name turns l r)
  line_asked {A} question other_question goes name turns l r =
      then-alike one other (λ (v : A × Moment). counts_at v.1) (λ (v : A × Run Moment). counts_of v.1) (counts_of r)
      _ _ _ _
      (then-alike one other (λ text. counts_of r) (λ (v : A × Moment). counts_at v.1) (counts_of r)
      (silent (in_turns_of name turns l)) (silent (in_turns_of name turns l)) _ _
      (silent-alike one other (λ text. counts_of r) (counts_of r) (in_turns_of name turns l) (λ text. refl))
      (λ text. placed name l.first r.state _ _ (goes name l.first text r.state)))
      (λ v. done-alike one other _ _ (with_state r v) refl)

  line_counted : (r : Run Moment) → GoesOn r (counted r) (counted r)
  line_counted r =
      if-alike one other counts_of (counts_of r) (nat_lt r.count max_lines) _ _ _ _
      (done-alike one other counts_of (counts_of r) _ refl) (refused-alike one other counts_of (counts_of r) _)

  line_counted_if : (counts : Bool) (r : Run Moment) → GoesOn r (counted_if counts r) (counted_if counts r)
  line_counted_if true r = line_counted r
  line_counted_if false r = done-alike one other counts_of (counts_of r) r refl

  line_goes : (counts : Bool) (name : List ℕ) (turns : List Turn) (l : LogLine) (r : Run Moment)
      → GoesOn r (line_step (meaning one) counts name turns l r) (line_step (meaning other) counts name turns l r)
  line_goes counts name turns l r =
      then-alike one other _ _ _ _ _ _ _
      (then-alike one other _ _ _ _ _ _ _ (line_counted_if counts r)
      (λ q. line_asked _ _ (λ file number text s. line_read one other file number text s) name turns l q))
      (λ v. done-alike one other counts_of (counts_of v.1) v.1 refl)

  condition_goes : (name : List ℕ) (turns : List Turn) (l : LogLine) (r : Run Moment)
      → GoesWith r (condition_step (meaning one) name turns l r) (condition_step (meaning other) name turns l r)
  condition_goes name turns l r =
      then-alike one other _ _ _ _ _ _ _ (line_counted r)
      (λ q. line_asked _ _ (λ file number text s. condition one other text s) name turns l q)

  turns_go : (name : List ℕ) (turns : List Turn) (l : LogLine) (r : Run Moment)
      → GoesWith r (turns_step (meaning one) name turns l r) (turns_step (meaning other) name turns l r)
  turns_go name turns l r =
      then-alike one other _ _ _ _ _ _ _ (line_counted r)
      (λ q. line_asked _ _ (λ file number text s. turns_read one other text s) name turns l q)

  wanted_goes : (name : List ℕ) (turns : List Turn) (l : LogLine) (r : Run Moment)
      → GoesWith r (wanted_step (meaning one) name turns l r) (wanted_step (meaning other) name turns l r)
  wanted_goes name turns l r =
      then-alike one other _ _ _ _ _ _ _ (line_counted r)
      (λ q. line_asked _ _ (λ file number text s. included one other file text s) name turns l q)

  -- files that may be included
  abbrev AreAlike : Files Moment What Outside → Files Moment What Outside → Type 0
  AreAlike None None = Unit {0}
  AreAlike (Some read) (Some other_read) =
      (name bytes : List ℕ) (r : Run Moment) → GoesOn r (read name bytes r) (other_read name bytes r)
  AreAlike None (Some other_read) = ⊥
  AreAlike (Some read) None = ⊥

  file_opened : (files other_files : Files Moment What Outside) → AreAlike files other_files
      → (found : Option IncludedFile × Run Moment)
      → GoesOn found.1 (opened_if files found) (opened_if other_files found)
  file_opened files other_files are (None, r) = done-alike one other counts_of (counts_of r) r refl
  file_opened None None are (Some file, r) = refused-alike one other counts_of (counts_of r) _
  file_opened (Some read) (Some other_read) are (Some file, r) = are file.name file.text r
  file_opened None (Some other_read) are (Some file, r) = absurd are
  file_opened (Some read) None are (Some file, r) = absurd are

  -- what stands behind lines, and behind a turn
  next_goes : (rest other_rest : Run Moment → Lines (After Moment))
      → ((r : Run Moment) → GoesAfter r (rest r) (other_rest r)) → (a : After Moment)
      → GoesAfter a.run (next rest a) (next other_rest a)
  next_goes rest other_rest goes a = by a.goes_on
    where
      by : (goes_on : Bool) → GoesAfter a.run (next_if goes_on a.run rest) (next_if goes_on a.run other_rest)
      by true = goes a.run
      by false = done-alike one other counts_after (counts_of a.run) (after false a.run) refl

  next_turn_goes : (turns other_turns : Run Moment → Lines (Run Moment))
      → ((r : Run Moment) → GoesOn r (turns r) (other_turns r)) → (a : After Moment)
      → GoesOn a.run (next_turn turns a) (next_turn other_turns a)
  next_turn_goes turns other_turns goes a = by a.goes_on
    where
      by : (goes_on : Bool)
          → GoesOn a.run (next_turn_if goes_on a.run turns) (next_turn_if goes_on a.run other_turns)
      by true = goes a.run
      by false = done-alike one other counts_of (counts_of a.run) a.run refl

  turns_go_on : (body other_body : Turn → Run Moment → Lines (After Moment))
      → ((turn : Turn) (r : Run Moment) → GoesAfter r (body turn r) (other_body turn r))
      → (turns : List Turn) (r : Run Moment) → GoesOn r (all_turns body turns r) (all_turns other_body turns r)
  unfolding all_turns
  turns_go_on body other_body goes [] r = done-alike one other counts_of (counts_of r) r refl
  turns_go_on body other_body goes (turn ∷ turns) r =
      then-alike one other _ _ _ _ _ _ _ (line_counted r)
      (λ q. then-alike one other _ _ _ _ _ _ _ (goes turn q)
      (λ a. next_turn_goes _ _ (λ now. turns_go_on body other_body goes turns now) a))

  either_goes : (found : Bool × Run Moment) (first other_first second other_second : Run Moment → Lines (After Moment))
      → ((r : Run Moment) → GoesAfter r (first r) (other_first r))
      → ((r : Run Moment) → GoesAfter r (second r) (other_second r))
      → GoesAfter found.1 (either found first second) (either found other_first other_second)
  either_goes (true, r) first other_first second other_second goes others = goes r
  either_goes (false, r) first other_first second other_second goes others = others r

  branch_goes : (is_else : Bool) (name : List ℕ) (turns : List Turn) (l : LogLine)
      (body other_body others other_others : Run Moment → Lines (After Moment))
      → ((r : Run Moment) → GoesAfter r (body r) (other_body r))
      → ((r : Run Moment) → GoesAfter r (others r) (other_others r)) → (r : Run Moment)
      → GoesAfter r (branch_step (meaning one) is_else name turns l body others r)
      (branch_step (meaning other) is_else name turns l other_body other_others r)
  branch_goes true name turns l body other_body others other_others goes rest r = goes r
  branch_goes false name turns l body other_body others other_others goes rest r =
      then-alike one other _ _ _ _ _ _ _ (condition_goes name turns l r)
      (λ v. either_goes v body other_body others other_others goes rest)

  module _ (files other_files : Files Moment What Outside) (are : AreAlike files other_files) (name : List ℕ) where
    mutual
      unfolding blocks.meaning chosen

      block_goes : (block : Block) (turns : List Turn) (r : Run Moment)
          → GoesAfter r (blocks.meaning (meaning one) files name block turns r)
          (blocks.meaning (meaning other) other_files name block turns r)
      block_goes tree.none turns r = done-alike one other counts_after (counts_of r) (after true r) refl
      block_goes (tree.line counts l rest) turns r =
          then-alike one other _ _ _ _ _ _ _ (line_goes counts name turns l r) (λ q. block_goes rest turns q)
      block_goes (tree.stop l rest) turns r =
          then-alike one other _ _ _ _ _ _ _ (line_counted r)
          (λ q. done-alike one other counts_after (counts_of q) (after false q) refl)
      block_goes (tree.file l rest) turns r =
          then-alike one other _ _ _ _ _ _ _
          (then-alike one other _ _ _ _ _ _ _ (wanted_goes name turns l r)
          (λ found. file_opened files other_files are found))
          (λ q. block_goes rest turns q)
      block_goes (tree.choice l body others rest) turns r =
          then-alike one other _ _ _ _ _ _ _
          (branch_goes false name turns l _ _ _ _ (λ q. block_goes body turns q) (λ q. others_go others turns q) r)
          (λ a. next_goes _ _ (λ q. block_goes rest turns q) a)
      block_goes (tree.loop l body rest) turns r =
          then-alike one other _ _ _ _ _ _ _
          (then-alike one other _ _ _ _ _ _ _ (turns_go name turns l r)
          (λ t. turns_go_on _ _ (λ turn q. block_goes body (turns ++ turn ∷ []) q) t.0 t.1))
          (λ q. block_goes rest turns q)

      others_go : (others : Branches) (turns : List Turn) (r : Run Moment)
          → GoesAfter r (chosen (meaning one) files name others turns r)
          (chosen (meaning other) other_files name others turns r)
      others_go tree.no_more turns r = done-alike one other counts_after (counts_of r) (after true r) refl
      others_go (tree.branch is_else l body others) turns r =
          branch_goes is_else name turns l _ _ _ _ (λ q. block_goes body turns q) (λ q. others_go others turns q) r

    whole_goes : (bytes : List ℕ) (r : Run Moment)
        → GoesOn r (file_meaning (meaning one) line_kind files name bytes r)
        (file_meaning (meaning other) line_kind other_files name bytes r)
    whole_goes bytes r =
        then-alike one other _ _ _ _ _ _ _
        (then-alike one other (λ checked. counts_of r) counts_after (counts_of r)
        (silent (file_checked line_kind name bytes)) (silent (file_checked line_kind name bytes)) _ _
        (silent-alike one other (λ checked. counts_of r) (counts_of r) (file_checked line_kind name bytes)
        (λ checked. refl))
        (λ checked. block_goes (parse line_kind (lines_from 1 bytes)).block [] r))
        (λ a. done-alike one other counts_of (counts_of a.run) (closed_run (meaning one) a.run) refl)

  -- A file, and all that it includes.
  pub file_goes : (room : ℕ) (name bytes : List ℕ) (r : Run Moment)
      → GoesOn r (file_at (meaning one) line_kind room name bytes r)
      (file_at (meaning other) line_kind room name bytes r)
  unfolding file_at
  file_goes zero name bytes r = whole_goes None None tt name bytes r
  file_goes (suc room) name bytes r =
      whole_goes (Some (file_at (meaning one) line_kind room)) (Some (file_at (meaning other) line_kind room))
      (λ its_name its_bytes q. file_goes room its_name its_bytes q) name bytes r
