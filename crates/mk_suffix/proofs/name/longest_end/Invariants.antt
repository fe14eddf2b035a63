use Rattle.std.proofs.Common.{◌≡◌, ◌≤◌, length}
use Rattle.mk_suffix.specs.Names.{longest_end}
use Rattle.mk_suffix.proofs.name.longest_end.Given as goal

-- no end so far is known, so the shorter ones decide
abbrev pub invariant-bytes : goal.invariant-bytes
invariant-bytes l = record {
  same : longest_end l.known l.rest ≡ longest_end l.known l.text;
  within : length l.rest ≤ length l.text;
}

abbrev pub decreases-bytes : goal.decreases-bytes
decreases-bytes l = length l.rest
