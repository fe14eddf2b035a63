-- Audits, behind whose looks nothing happens.
use Rattle.std.proofs.Common.{◌≡◌, [], Option, Some, None, refl, sym}
use Rattle.std.proofs.lemmas.List.{append-nil}
use Rattle.mk_trace.proofs.AlongLemmas.{OnlyAsked, asked-none}
use Rattle.mk_world.specs.Talks.{Meaning}
use Rattle.mk_world.specs.Told.{Told}
use Rattle.mk_world.specs.declared.history.History.{History}
use Rattle.mk_modes.specs.Auditing.{ChangesNoFile}

-- where nothing happened, make only asked
pub asked-nothing : (meaning : Meaning) (h : Option History) → Told h h (OnlyAsked meaning)
asked-nothing meaning None = tt
asked-nothing meaning (Some h) = asked-none meaning h h refl (sym (append-nil h.events))

-- and no file changed
pub left-nothing : (h : Option History) → Told h h ChangesNoFile
left-nothing None = tt
left-nothing (Some h) =
    record { happened = []; longer = sym (append-nil h.events); leave = tt; files = refl }
