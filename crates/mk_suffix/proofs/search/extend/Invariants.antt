use Rattle.std.proofs.Common.{◌≡◌, [], drop}
use Rattle.mk_suffix.specs.Extends.{Extends, NoneFound}
use Rattle.mk_suffix.specs.Found.{is_there, place_of}
use Rattle.mk_suffix.specs.Table.{froms, seen_row}
use Rattle.mk_dirs.specs.Answered.{ByLooks}
use Rattle.mk_suffix.proofs.search.extend.Given as goal

-- the rules so far were gone through, and none of the suffixes that were reached is found
abbrev pub invariant-loop-source : goal.invariant-loop-source
invariant-loop-source g l = record {
  idle : g.W.World.runs l.world [];
  extends : Extends l.rules.nodes l.rules.seeking.suffixes l.fn.search l.search l.at
      (drop l.source-index (froms (seen_row l.source-items)));
  told : ByLooks (g.W.World.history l.fn.world) (g.W.World.history l.world) (λ files.
      NoneFound (is_there (place_of files l.rules.nodes l.rules.seeking)) l.base l.fn.search l.search);
  faults : g.W.World.faults l.world ≡ g.W.World.faults l.fn.world;
}
