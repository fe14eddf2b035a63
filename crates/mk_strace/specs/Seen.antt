-- What a line is, as its bytes.
use Rattle.mk_strace.specs.Lines.{Line}
use Rattle.mk_strace.specs.Lines as line
use Rattle.mk_strace.specs.declared.line.Kind.{Kind}
use Rattle.mk_strace.specs.declared.line.Kind.TheVariants.{Whole, Begun, Resumed, Ends, Takes}
use Rattle.mk_strace.specs.declared.line.Kind.TheVariants.{Signal}

abbrev pub kind_now : Kind → Line
kind_now Whole = line.Whole
kind_now (Begun start) = line.Begun start.now
kind_now (Resumed rest) = line.Resumed rest.now
kind_now Ends = line.Ends
kind_now (Takes from) = line.Takes from.now
kind_now Signal = line.Signal
