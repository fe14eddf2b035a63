use Rattle.std.proofs.Common.{◌+◌, ◌*◌, ◌≤◌, [], Ok}
use Rattle.mk_blocks.specs.Blocks.{parse}
use Rattle.mk_blocks.specs.Calls.{left_in, place_left}
use Rattle.mk_blocks.specs.Places.{IsPlace, work}
use Rattle.mk_blocks.specs.Ties.{Does, sorted}
use Rattle.mk_blocks.proofs.reading.+files.Given as goal

abbrev pub decreases-include_line : goal.decreases-include_line
decreases-include_line g l = 8 * l.file.now.room

abbrev pub decreases-process : goal.decreases-process
decreases-process g l = 8 * l.file.now.room + 1

abbrev pub decreases-read_line : goal.decreases-read_line
decreases-read_line g l = 8 * l.file.now.room + 2

abbrev pub decreases-read_on : goal.decreases-read_on
decreases-read_on g l = 8 * l.file.now.room + 3

abbrev pub decreases-read_lines : goal.decreases-read_lines
decreases-read_lines g l = 8 * l.file.now.room + 4

abbrev pub decreases-read_file_in : goal.decreases-read_file_in
decreases-read_file_in g l = 8 * l.room + 5

-- what was read so far, and what is left at the place
abbrev pub invariant-read_lines-lines : goal.invariant-read_lines-lines
invariant-read_lines-lines g l =
    let ties = g.L.Language.ties in
    record {
      so_far : Does ties sorted l.fn.language l.language
          (λ answers given. place_left ties l.file l.place l.language l.count answers)
          (Ok (tt {0}))
          (left_in ties l.file [] 0 (parse ties.kind l.fn.cursor) l.fn.language l.fn.count);
      place : IsPlace ties.kind l.place;
      later : l.fn.count ≤ l.count;
    }

abbrev pub decreases-read_lines-lines : goal.decreases-read_lines-lines
decreases-read_lines-lines g l = work l.count l.place
