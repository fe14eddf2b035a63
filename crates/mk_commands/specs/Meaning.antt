-- The meaning of the commands of this world.
use Rattle.mk_world.specs.Talks.{Meaning}
use Rattle.mk_commands.specs.Language.{language_next, most_answers}
use Rattle.mk_commands.specs.LineEnds.{language_ends}

abbrev pub language : Meaning
language = record { next = language_next; limit = most_answers; ends = language_ends }
