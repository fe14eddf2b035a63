-- What is left behind the line that was taken.
use Rattle.std.proofs.Common.{◌≡◌, ℕ, ◌+◌, ◌≤◌, Bool, true, false, List, Option, Some, None, refl}
use Rattle.std.proofs.Common.{◌∙◌}
use Rattle.mk_lines.specs.declared.line.LogLine.{LogLine}
use Rattle.mk_turns.specs.OpenLoops.{turns_in}
use Rattle.mk_turns.specs.Turns.{Turn}
use Rattle.mk_turns.specs.declared.loops.OpenLoop.{OpenLoop}
use Rattle.mk_blocks.specs.Blocks.{Ending, Parsed, put}
use Rattle.mk_blocks.specs.Calls as calls
use Rattle.mk_blocks.specs.Calls.{Begins, begins_branch, files_in, step_behind}
use Rattle.mk_blocks.specs.Meaning as m
use Rattle.mk_blocks.specs.Runs as runs
use Rattle.mk_blocks.specs.Runs.{After, IsCounted, Reads, Run, after, run_at}
use Rattle.mk_blocks.specs.Outcomes.{done, refused, ◌>>=◌}
use Rattle.mk_blocks.specs.Places as p
use Rattle.mk_blocks.specs.Places.{Fits, IsInside, IsPlace, IsReached}
use Rattle.mk_blocks.specs.Skips.{next_branch}
use Rattle.mk_blocks.specs.Ties.{Ties}
use Rattle.mk_blocks.specs.declared.fault.FileFault.{FileFault}
use Rattle.mk_blocks.specs.declared.fault.FileFault.TheVariants.{TooManyLines}
use Rattle.mk_blocks.specs.declared.kind.LineKind.TheVariants as kind
use Rattle.mk_blocks.specs.declared.language.IncludedFile.{IncludedFile}
use Rattle.mk_blocks.specs.declared.line.OpenFile.{OpenFile}
use Rattle.mk_blocks.proofs.PlaceLemmas as place
use Rattle.mk_blocks.proofs.RunLemmas.{counted-then, counted-not}

module _ {X W F : Type 0} (ties : Ties X W F) (file : OpenFile) (loops : List OpenLoop) (depth : ℕ)
    (l : LogLine) (q : Parsed) (x : X) (count : ℕ)
  where
    -- behind a line that was processed
    abbrev pub line_next : ties.Answers → Unit {0} × Run ties.State → Reads W F (Run ties.State)
    line_next answers given =
        p.left_in (ties.meaning answers) (files_in ties file answers) file.name.now ties.kind loops
        depth q
        given.1

    pub line-full : runs.max_lines ≤ count → (answers : ties.Answers)
        → calls.left_in ties file loops depth (put kind.Plain l q) x count answers
        ≡ refused TooManyLines
    line-full full answers =
        place.in-line (ties.meaning answers) (files_in ties file answers) file.name.now ties.kind
        loops depth
        true l q.block q.endings (run_at (ties.state x) count)
        ∙ counted-not (ties.state x) count _ full

    pub line-counted : (more : ℕ) → IsCounted count more → (answers : ties.Answers)
        → calls.left_in ties file loops depth (put kind.Plain l q) x count answers
        ≡ (m.asked (ties.meaning answers).step file.name.now (turns_in loops) l
        (run_at (ties.state x) more) >>= line_next answers)
    line-counted more counts answers =
        place.in-line (ties.meaning answers) (files_in ties file answers) file.name.now ties.kind
        loops depth
        true l q.block q.endings (run_at (ties.state x) count)
        ∙ counted-then (ties.state x) count more _ counts

    pub line-uncounted : (answers : ties.Answers)
        → calls.left_in ties file loops depth (put kind.Uncounted l q) x count answers
        ≡ (m.asked (ties.meaning answers).step file.name.now (turns_in loops) l
        (run_at (ties.state x) count) >>= line_next answers)
    line-uncounted answers =
        place.in-line (ties.meaning answers) (files_in ties file answers) file.name.now ties.kind
        loops depth
        false l q.block q.endings (run_at (ties.state x) count)

    pub stop-full : runs.max_lines ≤ count → (answers : ties.Answers)
        → calls.left_in ties file loops depth (put kind.Break l q) x count answers
        ≡ refused TooManyLines
    stop-full full answers =
        place.in-stop (ties.meaning answers) (files_in ties file answers) file.name.now ties.kind
        loops depth
        l q (run_at (ties.state x) count)
        ∙ counted-not (ties.state x) count _ full

    pub stop-counted : (more : ℕ) → IsCounted count more → (answers : ties.Answers)
        → calls.left_in ties file loops depth (put kind.Break l q) x count answers
        ≡ calls.behind_left ties file loops false x more answers
    stop-counted more counts answers =
        place.in-stop (ties.meaning answers) (files_in ties file answers) file.name.now ties.kind
        loops depth
        l q (run_at (ties.state x) count)
        ∙ counted-then (ties.state x) count more _ counts

    -- behind a condition that was evaluated
    abbrev pub if_next : ties.Answers → Bool × Run ties.State → Reads W F (After ties.State)
    if_next answers = place.decided (ties.meaning answers)
        (files_in ties file answers) file.name.now
        (turns_in loops) depth q

    -- where it holds, its branch is read, and where it does not, another one may be chosen
    pub if-true : (y : X) (more : ℕ) (holds : Bool) → holds ≡ true → (answers : ties.Answers)
        → (done {E = FileFault W F} (holds, run_at (ties.state y) more) >>= if_next answers)
        ≡ calls.left_at ties file loops (depth + 1) q y more answers
    if-true y more holds is answers =
        rw is (place.decided-true (ties.meaning answers) (files_in ties file answers) file.name.now
        (turns_in loops) depth q (run_at (ties.state y) more))

    pub if-false : (y : X) (more : ℕ) (holds : Bool) → holds ≡ false → (answers : ties.Answers)
        → (done {E = FileFault W F} (holds, run_at (ties.state y) more) >>= if_next answers)
        ≡ calls.unchosen_at ties file loops depth q.endings y more answers
    if-false y more holds is answers =
        rw is (place.decided-false (ties.meaning answers) (files_in ties file answers) file.name.now
        (turns_in loops) depth q (run_at (ties.state y) more))

    pub if-asked : (answers : ties.Answers)
        → calls.left_at ties file loops depth (put kind.If l q) x count answers
        ≡ (m.condition_step (ties.meaning answers) file.name.now (turns_in loops) l
        (run_at (ties.state x) count) >>= if_next answers)
    if-asked answers =
        place.left-if (ties.meaning answers) (files_in ties file answers) file.name.now
        (turns_in loops) depth
        l q (run_at (ties.state x) count)

    pub branch-asked : (endings : List Ending) → next_branch endings ≡ (Some (false, l), q)
        → (answers : ties.Answers)
        → calls.unchosen_at ties file loops depth endings x count answers
        ≡ (m.condition_step (ties.meaning answers) file.name.now (turns_in loops) l
        (run_at (ties.state x) count) >>= if_next answers)
    branch-asked endings is answers =
        place.unchosen-next (ties.meaning answers) (files_in ties file answers) file.name.now
        (turns_in loops)
        depth endings l q (run_at (ties.state x) count) is

    -- behind the line of a loop
    abbrev pub for_next : ties.Answers → List Turn × Run ties.State → Reads W F (Run ties.State)
    for_next answers given =
        p.turns_left (ties.meaning answers) (files_in ties file answers) file.name.now ties.kind
        loops depth q
        given.0 given.1

    pub for-full : runs.max_lines ≤ count → (answers : ties.Answers)
        → calls.left_in ties file loops depth (put kind.For l q) x count answers
        ≡ refused TooManyLines
    for-full full answers =
        place.in-for (ties.meaning answers) (files_in ties file answers) file.name.now ties.kind
        loops depth
        l q (run_at (ties.state x) count)
        ∙ counted-not (ties.state x) count _ full

    pub for-counted : (more : ℕ) → IsCounted count more → (answers : ties.Answers)
        → calls.left_in ties file loops depth (put kind.For l q) x count answers
        ≡ (m.asked (ties.meaning answers).turns file.name.now (turns_in loops) l
        (run_at (ties.state x) more) >>= for_next answers)
    for-counted more counts answers =
        place.in-for (ties.meaning answers) (files_in ties file answers) file.name.now ties.kind
        loops depth
        l q (run_at (ties.state x) count)
        ∙ counted-then (ties.state x) count more _ counts

    -- behind the line of an included file
    abbrev pub file_next : ties.Answers → Option IncludedFile × Run ties.State → Reads W F
        (Run ties.State)
    file_next answers wanted =
        m.opened_if (files_in ties file answers) wanted
        >>= p.left_in (ties.meaning answers) (files_in ties file answers) file.name.now ties.kind
        loops depth q

    pub file-full : runs.max_lines ≤ count → (answers : ties.Answers)
        → calls.left_in ties file loops depth (put kind.Include l q) x count answers
        ≡ refused TooManyLines
    file-full full answers =
        place.in-file (ties.meaning answers) (files_in ties file answers) file.name.now ties.kind
        loops depth
        l q (run_at (ties.state x) count)
        ∙ counted-not (ties.state x) count _ full

    pub file-counted : (more : ℕ) → IsCounted count more → (answers : ties.Answers)
        → calls.left_in ties file loops depth (put kind.Include l q) x count answers
        ≡ (m.asked (ties.meaning answers).included file.name.now (turns_in loops) l
        (run_at (ties.state x) more) >>= file_next answers)
    file-counted more counts answers =
        place.in-file (ties.meaning answers) (files_in ties file answers) file.name.now ties.kind
        loops depth
        l q (run_at (ties.state x) count)
        ∙ counted-then (ties.state x) count more _ counts

    -- where no file is to be read, reading goes on
    pub file-none : (y : X) (more : ℕ) (wanted : Option IncludedFile) → wanted ≡ None →
        (answers : ties.Answers)
        → (done {E = FileFault W F} (wanted, run_at (ties.state y) more) >>= file_next answers)
        ≡ calls.left_in ties file loops depth q y more answers
    file-none y more wanted none answers = rw none refl
