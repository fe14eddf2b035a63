-- What the notes of a reading tell.
use Rattle.std.specs.Prelude.{List, map}
use Rattle.mk_values.specs.declared.facts.Asked.{Asked}
use Rattle.mk_makefile.specs.Questions.{Question, bytes_of, time_of, names_of, output_of, cut}
use Rattle.mk_makefile.specs.Questions.{times_in}
use Rattle.mk_makefile.specs.declared.note.Note.{Note}
use Rattle.mk_makefile.specs.declared.note.Note.TheVariants as note

abbrev pub question_of : Note → Question
question_of (note.Read path found) = bytes_of path.value found.value
question_of (note.Time path when) = time_of path.value when.value
question_of (note.Listed dir names) = names_of dir.value names.value
question_of (note.Ran cmd ended) = output_of cmd.value ended.value
question_of (note.Cut cmd) = cut cmd.value

-- The questions that were noted, in order.
abbrev pub questions_in : List Note → List Question
questions_in notes = map question_of notes

-- those of `exists`
abbrev pub asked_by : List Note → List Asked
asked_by notes = times_in (questions_in notes)
