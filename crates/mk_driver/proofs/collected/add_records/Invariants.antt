use Rattle.std.proofs.Common.{◌≡◌, ◌++◌, take}
use Rattle.mk_meta.specs.Jobs.{numbered}
use Rattle.mk_driver.proofs.collected.add_records.Given as goal

-- the records so far are added
abbrev pub invariant-loop-op : goal.invariant-loop-op
invariant-loop-op l = l.records ≡ l.initial.records ++ numbered l.line (take l.op-index l.ops)
