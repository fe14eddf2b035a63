use Rattle.std.proofs.Common.{◌≡◌, ◌++◌}
use Rattle.mk_filemon.specs.Entries.{paths_that, traced_of}
use Rattle.mk_filemon.proofs.trace.Traces.add_paths.Given as goal

-- the paths so far, and those of the entries that are left
abbrev pub invariant-loop-path : goal.invariant-loop-path
invariant-loop-path l =
    l.paths ++ paths_that l.ignored l.asked (traced_of l.path-iterator)
    ≡ l.initial.paths ++ paths_that l.ignored l.asked l.self
