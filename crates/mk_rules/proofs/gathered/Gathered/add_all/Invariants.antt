use Rattle.std.proofs.Common.{◌≡◌, drop}
use Rattle.mk_rules.specs.Lines as spec
use Rattle.mk_rules.proofs.gathered.Gathered.add_all.Given as goal

-- those that are left, behind the ones so far
abbrev pub invariant-loop-text : goal.invariant-loop-text
invariant-loop-text l =
    spec.all_gathered l.fn.self l.texts ≡ spec.all_gathered l.self (drop l.text-index l.texts)
