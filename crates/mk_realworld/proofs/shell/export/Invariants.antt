use Rattle.std.specs.Process.{SameProgramAndArgs}
use Rattle.mk_realworld.proofs.shell.export.Given as goal

-- what runs is as before
abbrev pub invariant-loop-pair : goal.invariant-loop-pair
invariant-loop-pair l = SameProgramAndArgs l.fn.shell l.shell
