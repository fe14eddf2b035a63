use Rattle.std.proofs.Common.{◌≡◌, true, ◌∙◌}
use Rattle.std.proofs.lemmas.Result.{IfOk-weaker}
use Rattle.mk_recorder.specs.Held.{state_in}
use Rattle.mk_recorder.proofs.StateLemmas.{step-done}
use Rattle.mk_recorder.proofs.state.step.Goals as goal

pub returns : goal.returns
returns c =
    let fine : c.in_ok-appear.field-0 ≡ true = cc in
    IfOk-weaker c.act_known.result _ _
    (λ _ done. done ∙ step-done c.args.event.now c.args.rest.now (state_in c.args.state.now)
    (state_in c.appear.new.state) c.bytes.result.now c.bytes-2.result.now c.in_ok-appear.field-0
    c.bytes.ensures.value c.bytes-2.ensures.value fine c.in_ok-appear.ensures)
    c.act_known.ensures
