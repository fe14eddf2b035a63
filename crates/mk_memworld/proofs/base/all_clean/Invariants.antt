use Rattle.std.proofs.Common.{◌≡◌, ◌≤◌, true, drop, length}
use Rattle.mk_memworld.specs.Base.{Holds, are_clean}
use Rattle.mk_memworld.proofs.base.all_clean.Given as goal

-- the files that are left stand before these, whose paths the set holds
abbrev pub invariant-files : goal.invariant-files
invariant-files l = record {
  within : l.left ≤ length l.files;
  holds : Holds l.later.keys (drop l.left l.files);
  clean : are_clean l.cwd (drop l.left l.files) ≡ true;
}

abbrev pub decreases-files : goal.decreases-files
decreases-files l = l.left
