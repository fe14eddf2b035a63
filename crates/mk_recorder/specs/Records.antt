-- What is recorded of paths, by what is known of them in the end.
use Rattle.std.specs.Prelude.{ℕ, Bool, not, ◌||◌, ◌&&◌, List, map, filter, if◌then◌else◌}
use Rattle.mk_recorder.specs.Known.{is_outer, is_made, is_gone}
use Rattle.mk_recorder.specs.Places.{is_outside}
use Rattle.mk_recorder.specs.Tables.{Entry}
use Rattle.mk_recorder.specs.declared.known.Known.{Known}
use Rattle.mk_recorder.specs.declared.record.Record.{Record}

-- A file is read where it was read before the command changed it, where old bytes may stay in it,
-- and where a look found it and the command left it alone; a directory where it was listed.
abbrev pub is_read : Known → Bool
is_read known =
    if known.folder then known.listed
    else known.found || (known.kept || (known.seen && is_outer known))

-- a file is deleted where it is gone and was there before the command
abbrev pub is_deleted : Known → Bool
is_deleted known = not known.folder && (is_gone known && (known.found || known.seen))

-- What was missed and then made is no miss, and what was made and taken away has no record.
abbrev pub record_of : List ℕ → Known → Record
record_of path known = record {
  path = path;
  is_read = is_read known;
  is_missed = known.missed && not (is_made known);
  is_written = not known.folder && is_made known;
  is_deleted = is_deleted known;
  is_folder = known.folder;
  is_run = known.ran;
}

-- What is recorded of each path, but for those that are no files of a command.
abbrev pub records_of : List Entry → List Record
records_of table =
    map (λ entry. record_of entry.0 entry.1) (filter (λ entry. not (is_outside entry.0)) table)
