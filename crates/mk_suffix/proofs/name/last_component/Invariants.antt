use Rattle.std.proofs.Common.{◌≡◌, ◌≤◌, drop}
use Rattle.mk_suffix.proofs.NameLemmas.{component_by}
use Rattle.mk_suffix.specs.Names as spec
use Rattle.mk_suffix.proofs.name.last_component.Given as goal

-- the last component begins where it does in the bytes so far, unless a slash follows
abbrev pub invariant-loop-at : goal.invariant-loop-at
invariant-loop-at l = record {
  same : spec.last_component l.path
      ≡ component_by (drop l.start l.path) (drop l.at l.path);
  within : l.start ≤ l.at;
}
