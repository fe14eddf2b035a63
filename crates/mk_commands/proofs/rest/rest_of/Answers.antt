use Rattle.std.proofs.Common.{◌≡◌, ◌+◌, [], ◌∷◌, ◌++◌, length, sym, ap, ◌∙◌, subst, arith, length-append}
use Rattle.std.specs.Option.{option_copied}
use Rattle.mk_world.specs.Deeds.{after_deeds}
use Rattle.mk_world.specs.History.{contents}
use Rattle.mk_world.specs.Talks.{deed_on}
use Rattle.mk_world.specs.declared.step.Next.TheVariants.{More, Over}
use Rattle.mk_commands.specs.Files.{files_in}
use Rattle.mk_commands.specs.Language.{language_next}
use Rattle.mk_commands.specs.Steps.{after_step}
use Rattle.mk_commands.proofs.RestLemmas.{Completes, Completes-more, Completes-all, asked_short}
use Rattle.mk_commands.proofs.rest.rest_of.Goals as goal

pub returns-in-Over : goal.returns-in-Over
returns-in-Over c =
    let cmd = c.args.cmd.now in
    let over : language_next cmd c.steps.answers ≡ Over c.in-Over.status c.in-Over.output =
    ap (language_next cmd) (sym c.as_slice.ensures.value) ∙ sym c.in_ok-status.ensures
    ∙ c.in-Over.is in
    Completes-all language_next cmd c.args.seen
    (after_step (contents (files_in c.args.files.now)) (option_copied c.args.step)) c.steps.answers c.steps.deeds
    c.in-Over.status c.in-Over.output c.steps.invariant over

pub steps-smaller : goal.steps-smaller
steps-smaller c =
    let cmd = c.args.cmd.now in
    let asked : language_next cmd c.steps.answers ≡ More c.in-More.request =
    ap (language_next cmd) (sym c.as_slice.ensures.value) ∙ sym c.in_ok-status.ensures
    ∙ c.in-More.is in
    let short = asked_short cmd c.steps.answers c.in-More.request asked in
    let longer : length c.do_request.new.answers ≡ length c.steps.answers + 1 =
    ap length c.in_ok-do_request-in-More.ensures.answers ∙ length-append c.steps.answers _ in
    omega arith

pub steps-preserved : goal.steps-preserved
steps-preserved c =
    let cmd = c.args.cmd.now in
    let seen = c.args.seen in
    let store = after_step (contents (files_in c.args.files.now)) (option_copied c.args.step) in
    let answers = c.steps.answers in
    let deeds = c.steps.deeds in
    let request = c.in-More.request in
    let asked : language_next cmd answers ≡ More request =
    ap (language_next cmd) (sym c.as_slice.ensures.value) ∙ sym c.in_ok-status.ensures
    ∙ c.in-More.is in
    subst (λ ds. Completes language_next cmd seen store c.do_request.new.answers ds)
    (sym c.in_ok-do_request-in-More.ensures.deeds)
    (subst (λ given. Completes language_next cmd seen store given
    (deeds ++ deed_on request (after_deeds store deeds) ∷ []))
    (sym c.in_ok-do_request-in-More.ensures.answers)
    (Completes-more language_next cmd seen store answers deeds request c.steps.invariant asked))
