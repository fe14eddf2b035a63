-- What is left behind the line of an included file.
use Rattle.std.proofs.Common.{◌≡◌, ◌≢◌, ℕ, suc, ◌-◌, List, Option, Some, refl, ap, ◌∙◌, arith}
use Rattle.mk_lines.specs.declared.line.LogLine.{LogLine}
use Rattle.mk_turns.specs.declared.loops.OpenLoop.{OpenLoop}
use Rattle.mk_blocks.specs.Blocks.{Parsed}
use Rattle.mk_blocks.specs.Calls.{files_in}
use Rattle.mk_blocks.specs.Meaning as m
use Rattle.mk_blocks.specs.Runs.{Reads, Run, run_at}
use Rattle.mk_blocks.specs.Outcomes.{done, refused, ◌>>=◌}
use Rattle.mk_blocks.specs.Places as p
use Rattle.mk_blocks.specs.Places.{Fits, IsInside, IsPlace, IsReached}
use Rattle.mk_blocks.specs.Ties.{Ties}
use Rattle.mk_blocks.specs.declared.fault.FileFault.{FileFault}
use Rattle.mk_blocks.specs.declared.fault.FileFault.TheVariants.{TooManyFiles}
use Rattle.mk_blocks.specs.declared.language.IncludedFile.{IncludedFile}
use Rattle.mk_blocks.specs.declared.line.OpenFile.{OpenFile}
use Rattle.mk_blocks.proofs.LineLemmas.{file_next}

module _ {X W F : Type 0} (ties : Ties X W F) (file : OpenFile) where
  pub open-none : (wanted : IncludedFile) (r : Run ties.State) → file.room ≡ 0 →
      (answers : ties.Answers)
      → m.opened (files_in ties file answers) wanted r ≡ refused {A = Run ties.State} TooManyFiles
  unfolding m.files_at
  open-none wanted r none answers = rw none refl

  opened-suc : (wanted : IncludedFile) (r : Run ties.State) (room : ℕ) (answers : ties.Answers)
      → m.opened (m.files_at (ties.meaning answers) ties.kind (suc room)) wanted r
      ≡ m.file_at {F = F} (ties.meaning answers) ties.kind room wanted.name wanted.text r
  unfolding m.files_at
  opened-suc wanted r room answers = refl

  pub open-some : (wanted : IncludedFile) (r : Run ties.State) → file.room ≢ 0 →
      (answers : ties.Answers)
      → m.opened (files_in ties file answers) wanted r
      ≡ m.file_at (ties.meaning answers) ties.kind (file.room - 1) wanted.name wanted.text r
  open-some wanted r some answers =
      let room : file.room ≡ suc (file.room - 1) = omega arith in
      ap (λ n. m.opened (m.files_at (ties.meaning answers) ties.kind n) wanted r) room
      ∙ opened-suc wanted r (file.room - 1) answers

module _ {X W F : Type 0} (ties : Ties X W F) (file : OpenFile) (loops : List OpenLoop) (depth : ℕ)
    (l : LogLine) (q : Parsed) (x : X) (count : ℕ) (y : X) (more : ℕ) (found : Option IncludedFile)
    (wanted : IncludedFile) (some : found ≡ Some wanted)
  where
    -- what is left behind an included file
    abbrev pub read_next : ties.Answers → Run ties.State → Reads W F (Run ties.State)
    read_next answers =
        p.left_in (ties.meaning answers) (files_in ties file answers) file.name.now ties.kind loops
        depth q

    pub file-refused : file.room ≡ 0 → (answers : ties.Answers)
        → (done {E = FileFault W F} (found, run_at (ties.state y) more)
        >>= file_next ties file loops depth l q x count answers)
        ≡ refused TooManyFiles
    file-refused none answers =
        rw some (ap (λ o. o >>= read_next answers)
        (open-none ties file wanted (run_at (ties.state y) more) none answers))

    pub file-read : file.room ≢ 0 → (answers : ties.Answers)
        → (done {E = FileFault W F} (found, run_at (ties.state y) more)
        >>= file_next ties file loops depth l q x count answers)
        ≡ (m.file_at (ties.meaning answers) ties.kind (file.room - 1) wanted.name wanted.text
        (run_at (ties.state y) more) >>= read_next answers)
    file-read room answers =
        rw some (ap (λ o. o >>= read_next answers)
        (open-some ties file wanted (run_at (ties.state y) more) room answers))
