-- What `ask` adds to the history.
use Rattle.std.proofs.Common.{◌≡◌, [], Result, Ok, Err, OnErr, IfOk, inl, refl, sym, ◌∙◌, ap, subst}
use Rattle.mk_world.proofs.RecordLemmas.{exact_records_tell}
use Rattle.mk_world.specs.Calls.{AddsEvents, Answers, OwnAsk, OwnUnanswered}
use Rattle.mk_world.specs.Deeds.{Store}
use Rattle.mk_world.specs.History.{files_of, state_of}
use Rattle.mk_world.specs.Talks.{Doing, IsDoing, does}
use Rattle.mk_world.specs.declared.command.Cmd.{Cmd}
use Rattle.mk_world.specs.declared.history.Happening.TheVariants.{Ask}
use Rattle.mk_world.specs.declared.history.History.{History}
use Rattle.mk_world.specs.declared.step.Ended.{Ended}
use Rattle.mk_world.proofs.CallLemmas.{adds_nothing}
use Rattle.mk_world.proofs.TalkLemmas.{does-is, doings_equal}
use Rattle.mk_commands.specs.Clock.{timed}
use Rattle.mk_commands.specs.Meaning.{language}
use Rattle.mk_commands.specs.Rest.{answer_of, doing_of}
use Rattle.mk_commands.specs.declared.rest.Rest.{Rest}
use Rattle.mk_memworld.specs.Chronicle.{with_event}
use Rattle.mk_memworld.specs.Running.{AddsSteps}
use Rattle.mk_commands.proofs.TimeLemmas.{NotEarlier-timed, deeds-timed}
use Rattle.mk_memworld.proofs.RunningLemmas.{AddsEvents-behind}
use Rattle.mk_memworld.proofs.WorldLemmas.{adds_event}

-- a doing from the beginning of a command is the one that it has on the files
pub IfOk-doing : {E : Type 0} (cmd : Cmd) (here store : Store) (result : Result Rest E)
    → here ≡ store → IfOk result (λ rest. IsDoing language.next cmd [] here (doing_of rest))
    → IfOk result (λ rest. doing_of rest ≡ does language cmd store)
IfOk-doing cmd here store (Ok rest) same is =
    doings_equal language.next cmd [] store (doing_of rest) (does language cmd store)
    (subst (λ files. IsDoing language.next cmd [] files (doing_of rest)) same is)
    (does-is language cmd store)
IfOk-doing cmd here store (Err fault) same is = tt

-- a refused `ask`, after which the history is as it was
pub unanswered_here : (cmd : Cmd) (history : History)
    → AddsEvents language (OwnUnanswered cmd) history history
unanswered_here cmd history = adds_nothing language (OwnUnanswered cmd) history (inl refl)

pub unanswered_same : {T E : Type 0} (cmd : Cmd) (result : Result T E) (old new : History)
    → new ≡ old → OnErr result (AddsEvents language (OwnUnanswered cmd) old new)
unanswered_same cmd (Ok answer) old new same = tt
unanswered_same cmd (Err fault) old new same =
    subst (AddsEvents language (OwnUnanswered cmd) old) (sym same) (unanswered_here cmd old)

-- a refused `ask` after steps
pub unanswered_behind : (cmd : Cmd) (old new : History) → AddsSteps old new
    → AddsEvents language (OwnUnanswered cmd) old new
unanswered_behind cmd old new steps =
    AddsEvents-behind (OwnUnanswered cmd) old new new steps (unanswered_here cmd new)

pub unanswered_after : {T E : Type 0} (cmd : Cmd) (result : Result T E) (old new : History)
    → AddsSteps old new → OnErr result (AddsEvents language (OwnUnanswered cmd) old new)
unanswered_after cmd (Ok answer) old new steps = tt
unanswered_after cmd (Err fault) old new steps = unanswered_behind cmd old new steps

pub unanswered_later : {T E : Type 0} (cmd : Cmd) (result : Result T E) (old mid new : History)
    → AddsSteps old mid → new ≡ mid → OnErr result (AddsEvents language (OwnUnanswered cmd) old new)
unanswered_later cmd result old mid new steps same =
    unanswered_after cmd result old new (subst (AddsSteps old) (sym same) steps)

answers_as : (doing rest : Doing) (ended : Ended) → rest ≡ doing → ended ≡ answer_of rest
    → Answers doing ended
answers_as doing rest ended same is =
    subst (Answers doing) (sym (is ∙ ap answer_of same))
    (record { status = refl; output = refl; records = exact_records_tell doing.deeds })

-- a command was run to its end, and answered with its doing
pub adds_ask : (old new : History) (cmd : Cmd) (rest : Doing) (ended : Ended)
    → rest ≡ does language cmd (files_of old)
    → new ≡ with_event old (Ask cmd (timed (state_of old).clock rest.deeds))
    → ended ≡ answer_of rest → AddsEvents language (OwnAsk language cmd ended) old new
adds_ask old new cmd rest ended same is answered =
    let clock = (state_of old).clock in
    let steps = timed clock rest.deeds in
    adds_event (OwnAsk language cmd ended) old new (Ask cmd steps) is (
      NotEarlier-timed clock rest.deeds,
      deeds-timed clock rest.deeds ∙ ap (λ (doing : Doing). doing.deeds) same,
    ) ((steps, refl), answers_as (does language cmd (files_of old)) rest ended same answered)
