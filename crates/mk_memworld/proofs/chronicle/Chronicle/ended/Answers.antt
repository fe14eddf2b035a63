use Rattle.std.proofs.Common.{◌≡◌, Some, true, false, map, ◌∙◌, ap, sym}
use Rattle.std.specs.Option.{option_copied}
use Rattle.mk_world.specs.History.{child_in, state_of}
use Rattle.mk_world.specs.Talks.{answer}
use Rattle.mk_world.specs.declared.history.History.{History}
use Rattle.mk_commands.specs.Language.{language_next}
use Rattle.mk_commands.specs.Steps.{ends_at, with_step}
use Rattle.mk_memworld.proofs.TurnLemmas.{newly_ended-step}
use Rattle.mk_memworld.proofs.chronicle.Chronicle.ended.Goals as goal

pub returns-then-branch : goal.returns-then-branch
returns-then-branch c =
    let old = c.args.self.now in
    let ticket = c.args.ticket in
    let child = c.in-Some.child.now in
    let deed = option_copied c.args.deed in
    let held : child_in (state_of old).children ticket ≡ Some child =
    ap (λ cs. child_in cs ticket) (sym (c.deref.ensures.value ∙ c.self.invariant.children
    ∙ ap (λ (h : History). (state_of h).children) c.self.view_is))
    ∙ sym c.find.ensures ∙ ap option_copied c.in-Some.is in
    sym (newly_ended-step old ticket child deed true held c.requires
    (sym c.if-branch.true ∙ c.in_ok-is_over.ensures
    ∙ ap (λ seen. ends_at (language_next child.cmd seen)) (c.in_ok-answers.ensures
    ∙ ap (λ ds. map answer (with_step ds deed)) c.as_slice.ensures.value)))

pub returns : goal.returns
returns c =
    let old = c.args.self.now in
    let ticket = c.args.ticket in
    let child = c.in-Some.child.now in
    let deed = option_copied c.args.deed in
    let held : child_in (state_of old).children ticket ≡ Some child =
    ap (λ cs. child_in cs ticket) (sym (c.deref.ensures.value ∙ c.self.invariant.children
    ∙ ap (λ (h : History). (state_of h).children) c.self.view_is))
    ∙ sym c.find.ensures ∙ ap option_copied c.in-Some.is in
    sym (newly_ended-step old ticket child deed false held c.requires
    (sym c.if-branch.false ∙ c.in_ok-is_over.ensures
    ∙ ap (λ seen. ends_at (language_next child.cmd seen)) (c.in_ok-answers.ensures
    ∙ ap (λ ds. map answer (with_step ds deed)) c.as_slice.ensures.value)))
