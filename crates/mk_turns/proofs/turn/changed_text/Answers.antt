use Rattle.std.proofs.Common.{◌≡◌, ◌+◌, ◌∷◌, drop, map, sym, ap, ◌∙◌}
use Rattle.std.proofs.lemmas.List.{at_drop_all, drop_more}
use Rattle.std.proofs.lemmas.Result.{err_from_is_err_and}
use Rattle.mk_bytes.specs.Agrees.{AgreesErr}
use Rattle.mk_bytes.proofs.AgreesLemmas.{AgreesErr-bind}
use Rattle.mk_lines.specs.Faults.{max_len}
use Rattle.mk_for.specs.Substitution.{replaced, within}
use Rattle.mk_for.specs.declared.substitution.TurnFault.TheVariants.{NoMemory as no_memory}
use Rattle.mk_turns.specs.declared.loops.OpenLoop.{OpenLoop}
use Rattle.mk_turns.specs.OpenLoops.{turn_of, turns_in}
use Rattle.mk_turns.specs.Texts.{text_or}
use Rattle.mk_turns.specs.Turns.{in_turns}
use Rattle.mk_turns.proofs.TurnLemmas.{in_turns-plain, turns_in-reverse}
use Rattle.mk_turns.proofs.turn.changed_text.Goals as goal

pub returns-then-stays : goal.returns-then-stays
returns-then-stays c =
    in_turns-plain (turns_in c.args.loops.now) c.args.text.now
    (c.stays.ensures.plain c.if-stays.true) (c.stays.ensures.short c.if-stays.true)

pub returns-in_err-in_turn : goal.returns-in_err-in_turn
returns-in_err-in_turn c =
    let l = c.loop-entered in
    let text = c.args.text.now in
    let items = c.as_slice-entered-items.result.now in
    let entered = c.entered-item.result in
    let left = drop (l.entered-index + 1) items in
    let fault = c.in_err-in_turn.field-0.0 in
    let is = err_from_is_err_and c.from_residual.result c.from_residual.ensures.1 in
    let rest : drop l.entered-index items ≡ entered ∷ left
    = drop_more items l.entered-index entered c.loop-entered-test.true
    ∙ ap (λ (o : OpenLoop). o ∷ left) (sym c.entered-item.is) in
    let one : AgreesErr no_memory fault (within max_len
    (replaced (turn_of entered).names (turn_of entered).words (text_or l.changed text)))
    = rw (← c.text_or.ensures) c.in_err-in_turn.ensures in
    let all : AgreesErr no_memory fault
    (in_turns (map turn_of (entered ∷ left)) (text_or l.changed text))
    = AgreesErr-bind no_memory fault _ (in_turns (map turn_of left)) one in
    let same : in_turns (map turn_of (entered ∷ left)) (text_or l.changed text)
    ≡ in_turns (turns_in c.args.loops.now) text
    = ap (λ os. in_turns (map turn_of os) (text_or l.changed text)) (sym rest)
    ∙ l.invariant
    ∙ ap (λ os. in_turns (map turn_of os) text) c.as_slice-entered-items.ensures
    ∙ ap (λ turns. in_turns turns text) (sym (turns_in-reverse c.args.loops.now)) in
    rw (is.1, is.2) (rw same at all)

pub returns : goal.returns
returns c =
    let l = c.loop-entered in
    sym (sym (at_drop_all (λ os. in_turns (map turn_of os) (text_or l.changed c.args.text.now))
    c.as_slice-entered-items.result.now l.entered-index c.loop-entered-test.false)
    ∙ l.invariant
    ∙ ap (λ os. in_turns (map turn_of os) c.args.text.now) c.as_slice-entered-items.ensures
    ∙ ap (λ turns. in_turns turns c.args.text.now) (sym (turns_in-reverse c.args.loops.now)))
