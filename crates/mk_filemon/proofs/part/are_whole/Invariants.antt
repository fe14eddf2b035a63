use Rattle.std.proofs.Common.{◌≡◌, ◌+◌, ◌≤◌, length}
use Rattle.std.specs.List.{slice_split}
use Rattle.mk_filemon.specs.Parts.{are_whole, is_newline}
use Rattle.mk_filemon.specs.PartSizes.{lines_in}
use Rattle.mk_filemon.specs.declared.part.Part.TheVariants.{Outside}
use Rattle.mk_filemon.proofs.part.are_whole.Given as goal

-- whether the lines that are left make the log whole, and how many were counted
abbrev pub invariant-lines : goal.invariant-lines
invariant-lines l =
    (are_whole l.part (slice_split is_newline l.rest)
    ≡ are_whole Outside (slice_split is_newline l.log))
    × (lines_in l.part + length l.rest ≤ length l.log)

abbrev pub decreases-lines : goal.decreases-lines
decreases-lines l = length l.rest
