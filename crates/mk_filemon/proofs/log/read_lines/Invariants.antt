use Rattle.std.proofs.Common.{◌≡◌, ◌++◌, ◌+◌, length}
use Rattle.std.specs.List.{slice_split}
use Rattle.mk_filemon.specs.Held.{directories_in}
use Rattle.mk_filemon.specs.Log.{lines_logged, size_of_lines, max_size}
use Rattle.mk_filemon.specs.Parts.{is_newline}
use Rattle.mk_filemon.proofs.log.read_lines.Given as goal

-- the records so far, and those of the lines that are left; what these take, and what is left of the room
abbrev pub invariant-lines : goal.invariant-lines
invariant-lines l =
    (l.ops ++ lines_logged l.cwd (directories_in l.directories) (slice_split is_newline l.rest)
    ≡ l.initial.ops ++ lines_logged l.cwd (directories_in l.initial.directories)
    (slice_split is_newline l.log))
    × (size_of_lines l.cwd (directories_in l.initial.directories) (slice_split is_newline l.log)
    + l.room
    ≡ max_size + size_of_lines l.cwd (directories_in l.directories)
    (slice_split is_newline l.rest))

abbrev pub decreases-lines : goal.decreases-lines
decreases-lines l = length l.rest
