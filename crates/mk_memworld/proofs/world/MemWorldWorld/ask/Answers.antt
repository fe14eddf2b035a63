use Rattle.std.proofs.Common.{◌≡◌, ◌∙◌, sym, ap, subst}
use Rattle.mk_world.specs.Calls.{OwnAsk}
use Rattle.mk_world.specs.History.{State, files_of, state_of, tickets_of}
use Rattle.mk_world.specs.Talks.{does}
use Rattle.mk_commands.specs.Meaning.{language}
use Rattle.mk_commands.specs.Rest.{doing_of}
use Rattle.mk_memworld.specs.Running.{AddsSteps}
use Rattle.mk_memworld.proofs.AskLemmas.{adds_ask, unanswered_after, unanswered_here, unanswered_later, unanswered_same}
use Rattle.mk_memworld.proofs.ChronicleLemmas.{state_of-with_event}
use Rattle.mk_memworld.proofs.RunningLemmas.{AddsEvents-behind}
use Rattle.mk_memworld.proofs.world.MemWorldWorld.ask.Goals as goal

pub returns-clause-done : goal.returns-clause-done
returns-clause-done c =
    let mid = c.proceed.new.self.chronicle in
    let doing : doing_of c.in-Ok.rest ≡ does language c.args.cmd.now (files_of mid) =
    c.in-Ok.ensures
    ∙ ap (λ h. does language c.args.cmd.now (files_of h)) (sym c.in_ok-proceed.ensures.went_on.history) in
    AddsEvents-behind (OwnAsk language c.args.cmd.now c.in_ok-ended.ended)
    c.args.self.now.chronicle mid c.ask.new.self
    (subst (λ h. AddsSteps h mid) c.next.ensures.history c.proceed.ensures.steps)
    (adds_ask mid c.ask.new.self c.args.cmd.now (doing_of c.in-Ok.rest)
    c.in_ok-ended.ended doing c.in_ok-ended.ensures.ok c.in_ok-ended.ensures.answer)

pub returns-clause-children : goal.returns-clause-children
returns-clause-children c = λ kids runs.
    ap (λ (s : State). tickets_of s.children)
    (state_of-with_event c.proceed.new.self.chronicle c.ask.new.self _ c.in_ok-ended.ensures.ok)
    ∙ c.proceed.ensures.tickets ∙ ap (λ h. tickets_of (state_of h).children) c.next.ensures.history ∙ runs

pub returns-in_err-going-clause-refused : goal.returns-in_err-going-clause-refused
returns-in_err-going-clause-refused c =
    unanswered_same c.args.cmd.now _ _ _ c.next.ensures.history

pub returns-in-Err-clause-refused : goal.returns-in-Err-clause-refused
returns-in-Err-clause-refused c =
    rw c.next.ensures.history (unanswered_here c.args.cmd.now c.args.self.now.chronicle)

pub returns-in_err-proceed-clause-refused : goal.returns-in_err-proceed-clause-refused
returns-in_err-proceed-clause-refused c =
    unanswered_after c.args.cmd.now _ _ _
    (subst (λ h. AddsSteps h c.proceed.new.self.chronicle) c.next.ensures.history
    c.proceed.ensures.steps)

pub returns-in_err-ended-clause-refused : goal.returns-in_err-ended-clause-refused
returns-in_err-ended-clause-refused c =
    unanswered_later c.args.cmd.now _ _ c.proceed.new.self.chronicle _
    (subst (λ h. AddsSteps h c.proceed.new.self.chronicle) c.next.ensures.history
    c.proceed.ensures.steps) c.in_err-ended.ensures.err
