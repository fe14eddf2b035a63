use Rattle.std.proofs.Common.{◌≡◌, ◌++◌, drop}
use Rattle.mk_bytes.specs.Paths as spec
use Rattle.mk_bytes.proofs.path.push_names.Given as goal

-- the text so far, and the names that are left
abbrev pub invariant-loop-name : goal.invariant-loop-name
invariant-loop-name l =
    l.text ++ spec.from_root (spec.seen (drop l.name-index l.names)) ≡ l.initial.text
    ++ spec.from_root (spec.seen l.names)
