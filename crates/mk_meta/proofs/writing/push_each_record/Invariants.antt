use Rattle.std.proofs.Common.{◌≡◌, ◌++◌, take, flat_map}
use Rattle.mk_meta.specs.Texts.{record_line}
use Rattle.mk_meta.proofs.writing.push_each_record.Given as goal

-- the lines so far stand at the end
abbrev pub invariant-loop-one : goal.invariant-loop-one
invariant-loop-one l = l.text ≡ l.fn.text ++ flat_map record_line (take l.one-index l.records)
