use Rattle.std.proofs.Common.{IfOk, ◌∙◌, ap, subst}
use Rattle.std.specs.Option.{option_copied}
use Rattle.mk_world.specs.History.{contents, files_of}
use Rattle.mk_world.specs.Talks.{IsDoing}
use Rattle.mk_commands.specs.Files.{files_in}
use Rattle.mk_commands.specs.Language.{language_next}
use Rattle.mk_commands.specs.Rest.{doing_of}
use Rattle.mk_commands.specs.Steps.{after_step}
use Rattle.mk_memworld.specs.Schedule.{gone_on}
use Rattle.mk_memworld.proofs.AskLemmas.{IfOk-doing}
use Rattle.mk_memworld.proofs.TurnLemmas.{store-turn}
use Rattle.mk_memworld.proofs.chronicle.Chronicle.doing.Goals as goal

pub returns : goal.returns
returns c =
    let cmd = c.args.cmd.now in
    let going = c.args.going.now in
    let step = option_copied c.as_ref.result in
    let here = after_step (contents (files_in c.self.inside.files)) step in
    IfOk-doing cmd here (files_of (gone_on c.args.self.now going.ticket)) c.rest_of.result
    (store-turn c.args.self.now going (contents (files_in c.self.inside.files)) step c.requires
    (ap contents c.self.invariant.files ∙ ap files_of c.self.view_is) c.as_ref.ensures.value)
    (subst (λ seen. IfOk c.rest_of.result
    (λ rest. IsDoing language_next cmd seen here (doing_of rest))) c.in_ok-seen.ensures.empty
    c.rest_of.ensures)
