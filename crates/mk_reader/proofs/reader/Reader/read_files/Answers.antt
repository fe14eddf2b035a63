use Rattle.std.proofs.Common.{◌+◌, ◌≤◌, length, drop, refl, ap, arith}
use Rattle.std.proofs.Math.ListN.{drop_of_length-le}
use Rattle.std.proofs.lemmas.Grind.{common_steps}
use Rattle.std.proofs.lemmas.Result.{err_from_is_err_and}
use Rattle.mk_blocks.specs.Runs.{run_at}
use Rattle.mk_makefile.specs.ReadFaults.{sorted}
use Rattle.mk_makefile.specs.Reading.{files_read}
use Rattle.mk_reader.specs.Results.{standing}
use Rattle.mk_reader.proofs.StepLemmas.{drop-item}
use Rattle.mk_reader.proofs.TieLemmas.{does-as, first-refused, first-then, left-then, still-given}
use Rattle.mk_reader.proofs.reader.Reader.read_files.Goals as goal

pub loop-file-init : goal.loop-file-init
loop-file-init g c = still-given _ sorted _ _ tt (λ answers. refl)

pub returns-in_err-read_makefile : goal.returns-in_err-read_makefile
returns-in_err-read_makefile g c =
    let p = err_from_is_err_and c.from_residual.result c.from_residual.ensures.1 in
    let at = c.loop-file.file-index in
    let files = c.args.files.now in
    let here = drop-item files _ at c.file-item.result c.as_slice-file-items.ensures.value
    c.loop-file-test.true c.file-item.is in
    rw (p.1, p.2)
    (left-then _ sorted c.loop-file.invariant
    (does-as _ sorted _ _ _ _
    (λ answers. rw (c.bytes.ensures.value, c.bytes-in-loop-file.ensures.value)
    (ap (λ l. files_read answers l (run_at (standing c.loop-file.self) c.loop-file.count)) here))
    (first-refused _ sorted (λ answers. files_read answers (drop (at + 1) files))
    c.in_err-read_makefile.ensures)))

pub loop-file-preserved : goal.loop-file-preserved
loop-file-preserved g c =
    let at = c.loop-file.file-index in
    let files = c.args.files.now in
    let here = drop-item files _ at c.file-item.result c.as_slice-file-items.ensures.value
    c.loop-file-test.true c.file-item.is in
    left-then _ sorted c.loop-file.invariant
    (does-as _ sorted _ _ _ _
    (λ answers. rw (c.bytes.ensures.value, c.bytes-in-loop-file.ensures.value)
    (ap (λ l. files_read answers l (run_at (standing c.loop-file.self) c.loop-file.count)) here))
    (first-then _ sorted (λ answers. files_read answers (drop (at + 1) files))
    c.in_ok-read_makefile.ensures (still-given _ sorted _ _ tt (λ answers. refl))))

pub returns : goal.returns
returns g c =
    let files = c.args.files.now in
    let end : length files ≤ c.loop-file.file-index = grind (arith, common_steps) in
    left-then _ sorted c.loop-file.invariant
    (still-given _ sorted _ _ tt (λ answers.
    ap (λ l. files_read answers l (run_at (standing c.loop-file.self) c.loop-file.count))
    (drop_of_length-le files end)))
