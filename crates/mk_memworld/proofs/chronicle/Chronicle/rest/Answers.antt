use Rattle.std.proofs.Common.{◌≡◌, Some, map, ◌∙◌, ap, sym}
use Rattle.std.specs.Option.{option_copied}
use Rattle.mk_world.specs.History.{child_in, contents, files_of, state_of}
use Rattle.mk_world.specs.Talks.{answer}
use Rattle.mk_world.specs.declared.history.History.{History}
use Rattle.mk_commands.specs.Files.{files_in}
use Rattle.mk_commands.specs.Steps.{after_step, with_step}
use Rattle.mk_memworld.proofs.TurnLemmas.{IfOk-rest, store-turn}
use Rattle.mk_memworld.proofs.chronicle.Chronicle.rest.Goals as goal

pub returns : goal.returns
returns c =
    let old = c.args.self.now in
    let going = c.args.going.now in
    let ticket = c.args.ticket in
    let child = c.unwrap-child.result.now in
    let step = option_copied c.as_ref.result in
    let files = contents (files_in c.self.inside.files) in
    let held : child_in (state_of old).children ticket ≡ Some child =
    ap (λ cs. child_in cs ticket) (sym (c.deref.ensures.value ∙ c.self.invariant.children
    ∙ ap (λ (h : History). (state_of h).children) c.self.view_is))
    ∙ sym c.find.ensures ∙ ap option_copied c.unwrap-child.ensures in
    IfOk-rest old going ticket child c.in_ok-seen.seen (after_step files step) c.rest_of.result
    c.requires.turn held
    (c.in_ok-seen.ensures
    ∙ ap (λ ds. map answer (with_step ds (option_copied c.step_of-own.result)))
    c.as_slice.ensures.value
    ∙ ap (λ s. map answer (with_step child.deeds s)) c.step_of-own.ensures)
    (store-turn old going files step c.requires.turn
    (ap contents c.self.invariant.files ∙ ap files_of c.self.view_is) c.as_ref.ensures.value)
    c.rest_of.ensures
