use Rattle.std.proofs.Common.{◌≡◌, drop, flat_map}
use Rattle.mk_filemon.specs.Outer.{ops_of}
use Rattle.mk_breaches.specs.Held.{all_noted}
use Rattle.mk_breaches.specs.Paths.{changed_by}
use Rattle.mk_breaches.proofs.path.Paths.add_all_changed.Given as goal

-- the paths so far, and those of the records that are left
abbrev pub invariant-loop-one : goal.invariant-loop-one
invariant-loop-one l =
    all_noted l.self (flat_map changed_by (ops_of (drop l.one-index l.records)))
    ≡ all_noted l.initial.self (flat_map changed_by (ops_of l.records))
