use Rattle.std.proofs.Common.{◌≡◌, ◌+◌, ◌-◌, ◌≤◌, [], length, false}
use Rattle.std.specs.List.{list_any}
use Rattle.mk_suffix.proofs.FirstLemmas.{whole, left_at}
use Rattle.mk_suffix.specs.Extends.{AreWays}
use Rattle.mk_suffix.specs.Found.{is_there, place_of}
use Rattle.mk_dirs.specs.Answered.{ByLooks}
use Rattle.mk_suffix.specs.Search.{Leads, reached, left_over, is_source}
use Rattle.mk_suffix.proofs.search.first_found.Given as goal

-- the suffixes before the place were gone through, and none that was reached is found
abbrev pub invariant-suffixes : goal.invariant-suffixes
invariant-suffixes g l = record {
  idle : g.W.World.runs l.world [];
  ways : AreWays l.rules.nodes l.search;
  place : l.at ≤ length l.search;
  leads : Leads l.search (left_at l.rules.nodes l.rules.seeking.suffixes l.own l.at) (whole l.rules.nodes l.rules.seeking.suffixes l.own);
  told : ByLooks (g.W.World.history l.fn.world) (g.W.World.history l.world) (λ files.
      list_any (is_source (is_there (place_of files l.rules.nodes l.rules.seeking)) l.base l.own) (reached l.search) ≡ false);
  faults : g.W.World.faults l.world ≡ g.W.World.faults l.fn.world;
}

abbrev pub decreases-suffixes : goal.decreases-suffixes
decreases-suffixes g l = (left_over l.rules.seeking.suffixes (reached l.search) + length l.search) - l.at
