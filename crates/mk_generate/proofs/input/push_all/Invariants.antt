use Rattle.std.proofs.Common.{◌≡◌, ◌++◌, take}
use Rattle.mk_world.specs.Sinks.{all_of}
use Rattle.mk_generate.proofs.input.push_all.Given as goal

abbrev pub invariant-loop-piece : goal.invariant-loop-piece
invariant-loop-piece l = l.text ≡ l.initial.text ++ all_of (take l.piece-index l.pieces)
