use Rattle.std.proofs.Common.{◌≡◌, drop, map}
use Rattle.mk_turns.specs.OpenLoops.{turn_of}
use Rattle.mk_turns.specs.Texts.{text_or}
use Rattle.mk_turns.specs.Turns.{in_turns}
use Rattle.mk_turns.proofs.turn.changed_text.Given as goal

-- the text so far, in the turns that are left
abbrev pub invariant-loop-entered : goal.invariant-loop-entered
invariant-loop-entered l =
    in_turns (map turn_of (drop l.entered-index l.entered-items)) (text_or l.changed l.text)
    ≡ in_turns (map turn_of l.entered-items) l.text
