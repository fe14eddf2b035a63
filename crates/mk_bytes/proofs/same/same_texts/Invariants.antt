use Rattle.std.proofs.Common.{◌≡◌, length}
use Rattle.std.specs.Prelude.{◌↔◌}
use Rattle.mk_bytes.proofs.same.same_texts.Given as goal

-- what is left is the same exactly where all of them are
abbrev pub invariant-texts : goal.invariant-texts
invariant-texts l = (l.rest ≡ l.behind) ↔ (l.texts ≡ l.others)

abbrev pub decreases-texts : goal.decreases-texts
decreases-texts l = length l.rest
