-- The language of makefiles, line by line.
use Rattle.mk_blocks.specs.Languages.{LineMeaning}
use Rattle.mk_makefile.specs.Blocks.{condition, turns}
use Rattle.mk_makefile.specs.Inclusions.{included}
use Rattle.mk_makefile.specs.Moments.{Moment, closed}
use Rattle.mk_makefile.specs.Questions.{Answers}
use Rattle.mk_makefile.specs.Steps.{line_read}
use Rattle.mk_makefile.specs.declared.fault.What.{What}

-- What lines mean under these answers of the outside.
abbrev pub meaning : Answers → LineMeaning Moment What
meaning answers = record {
  step = λ file number line s. line_read answers file number line s;
  condition = λ file number line s. condition answers line s;
  turns = λ file number line s. turns answers line s;
  included = λ file number line s. included answers file line s;
  closed = closed;
}
