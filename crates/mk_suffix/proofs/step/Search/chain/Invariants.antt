use Rattle.std.proofs.Common.{◌≡◌, ◌<◌, ◌++◌, length}
use Rattle.mk_suffix.specs.SearchView.{way_of, made_by}
use Rattle.mk_suffix.proofs.step.Search.chain.Given as goal

-- what the chain has so far, and what it has from the step on
abbrev pub invariant-steps : goal.invariant-steps
invariant-steps l = record {
  names : (made_by l.base (way_of l.self l.first)).names
      ≡ l.names ++ (made_by l.base (way_of l.self l.step)).names;
  rules : (way_of l.self l.first).rules ≡ l.rules ++ (way_of l.self l.step).rules;
  within : l.step.to < length l.self;
}

abbrev pub decreases-steps : goal.decreases-steps
decreases-steps l = l.step.to
