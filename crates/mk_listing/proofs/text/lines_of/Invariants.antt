use Rattle.std.proofs.Common.{◌≡◌, ◌++◌, drop, flat_map}
use Rattle.mk_listing.specs.Texts as spec
use Rattle.mk_listing.proofs.text.lines_of.Given as goal

-- the lines so far, and those of the texts that are left
abbrev pub invariant-loop-text : goal.invariant-loop-text
invariant-loop-text l =
    l.out ++ flat_map spec.line_of (drop l.text-index l.texts) ≡ spec.lines_of l.texts
