use Rattle.std.proofs.Common.{◌≡◌, drop}
use Rattle.mk_breaches.specs.Held.{all_noted}
use Rattle.mk_breaches.proofs.path.Paths.add_all.Given as goal

-- the paths so far, and those that are left
abbrev pub invariant-loop-text : goal.invariant-loop-text
invariant-loop-text l =
    all_noted l.self (drop l.text-index l.texts) ≡ all_noted l.initial.self l.texts
