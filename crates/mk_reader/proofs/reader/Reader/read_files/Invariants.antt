use Rattle.std.specs.Prelude.{Ok}
use Rattle.std.proofs.Common.{drop}
use Rattle.mk_blocks.specs.Runs.{run_at}
use Rattle.mk_blocks.specs.Ties.{Does}
use Rattle.mk_makefile.specs.ReadFaults.{sorted}
use Rattle.mk_makefile.specs.Reading.{files_read}
use Rattle.mk_reader.specs.Results.{standing}
use Rattle.mk_reader.specs.Ties.{outer, reader_ties}
use Rattle.mk_reader.proofs.reader.Reader.read_files.Given as goal

-- the files that are left are to be read
abbrev pub invariant-loop-file : goal.invariant-loop-file
invariant-loop-file g l =
    let world = g.W.World in
    let sink = g.S.Sink in
    Does (reader_ties (outer world.meaning world.history world.faults world.runs sink.held sink.faults))
    sorted l.initial.self l.self
    (λ answers (u : Unit {0}). files_read answers (drop l.file-index l.files)
    (run_at (standing l.self) l.count))
    (Ok tt)
    (λ answers. files_read answers l.files (run_at (standing l.initial.self) l.initial.count))
