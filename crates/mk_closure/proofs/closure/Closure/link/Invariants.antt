use Rattle.std.proofs.Common.{◌≡◌, ◌<◌, ◌≤◌, length}
use Rattle.mk_closure.specs.Deciding as spec
use Rattle.mk_closure.specs.Parts.{IsGrown}
use Rattle.mk_closure.proofs.closure.Closure.link.Given as goal

-- the first links that are left come to the same as all of them
abbrev pub invariant-links : goal.invariant-links
invariant-links l = record {
  within : l.target < length l.self.parts;
  links : l.links ≤ length l.chain.rules;
  grown : IsGrown l.fn.self l.self;
  leads : spec.linked l.fn.self l.fn.n l.chain (length l.chain.rules)
      ≡ spec.linked l.self l.target l.chain l.links;
}

abbrev pub decreases-links : goal.decreases-links
decreases-links l = l.links
