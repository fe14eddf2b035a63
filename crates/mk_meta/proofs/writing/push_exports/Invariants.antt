use Rattle.std.proofs.Common.{◌≡◌, ◌++◌, take, flat_map}
use Rattle.mk_meta.specs.Texts.{export_line}
use Rattle.mk_meta.proofs.writing.push_exports.Given as goal

-- the lines so far stand at the end
abbrev pub invariant-loop-pair : goal.invariant-loop-pair
invariant-loop-pair l = l.text ≡ l.fn.text ++ flat_map export_line (take l.pair-index l.exports)
