use Rattle.std.proofs.Common.{Ok, Err, sym, ap, ◌∙◌, inl}
use Rattle.std.proofs.lemmas.Result.{err_from_is_err_and}
use Rattle.mk_bytes.proofs.AgreesLemmas.{AgreesBut-free}
use Rattle.mk_mods.specs.Modifiers.{words_or_text}
use Rattle.mk_mods.specs.State.{with_words}
use Rattle.mk_mods.specs.Steps.{words_behind, is_whole}
use Rattle.mk_mods.specs.Pieces.{seen}
use Rattle.mk_pieces.specs.declared.fault.ModFault.TheVariants.{NoMemory as no_memory, TooLong as too_long}
use Rattle.mk_pieces.specs.Limits.{IsEarly}
use Rattle.mk_pieces.proofs.LimitLemmas.{fault_is}
use Rattle.mk_bytes.proofs.RefusalLemmas.{refused_if}
use Rattle.mk_mods.proofs.ChainLemmas.{found-map, AgreesBut-map}
use Rattle.mk_mods.proofs.LongLemmas.{worked_long}
use Rattle.mk_mods.proofs.chain.with_words_behind.Goals as goal

pub returns-in_err-words-2-clause-long : goal.returns-in_err-words-2-clause-long
returns-in_err-words-2-clause-long c is =
    let refused = c.from_residual-in_err-words-2 in
    let p = err_from_is_err_and refused.result refused.ensures.1 in
    let fault = fault_is refused.result p.0 c.in_err-words-2.field-0.0 too_long p.1 p.2 is in
    let long = c.in_err-words-2.ensures.long (ap (λ f. Err f) fault) in
    let modifier = c.args.modifier.now in
    let state = seen c.args.region.now.bytes c.args.val in
    worked_long state (words_behind modifier (words_or_text (is_whole modifier) state))
    (rw (c.in_ok-words.ensures.shown.shown, c.is_whole.ensures) at long)

pub returns-in_err-words-clause-shown : goal.returns-in_err-words-clause-shown
returns-in_err-words-clause-shown c =
    let p = err_from_is_err_and c.from_residual.result c.from_residual.ensures.1 in
    AgreesBut-free IsEarly _ _ _ _ p.1 (inl p.2)

pub returns-in_err-words-clause-long : goal.returns-in_err-words-clause-long
returns-in_err-words-clause-long c is =
    let p = err_from_is_err_and c.from_residual.result c.from_residual.ensures.1 in
    absurd (let same = fault_is c.from_residual.result p.0 no_memory too_long p.1 p.2 is in cc)

pub returns-in_err-words-clause-within : goal.returns-in_err-words-clause-within
returns-in_err-words-clause-within c = refused_if _ _ c.from_residual.result c.from_residual.ensures.1

pub returns-in_err-words-2-clause-shown : goal.returns-in_err-words-2-clause-shown
returns-in_err-words-2-clause-shown c =
    let refused = c.from_residual-in_err-words-2 in
    let p = err_from_is_err_and refused.result refused.ensures.1 in
    let state = seen c.args.region.now.bytes c.args.val in
    rw (p.1, p.2)
    (AgreesBut-map IsEarly c.in_err-words-2.field-0.0 (with_words state) _
    (rw (c.in_ok-words.ensures.shown.shown, c.is_whole.ensures) at c.in_err-words-2.ensures.shown))

pub returns-in_err-words-2-clause-within : goal.returns-in_err-words-2-clause-within
returns-in_err-words-2-clause-within c =
    let refused = c.from_residual-in_err-words-2 in refused_if _ _ refused.result refused.ensures.1

pub returns-clause-shown : goal.returns-clause-shown
returns-clause-shown c =
    let state = seen c.args.region.now.bytes c.args.val in
    found-map (with_words state) _ _
    (rw (c.in_ok-words.ensures.shown.shown, c.is_whole.ensures) at c.in_ok-words-2.ensures.shown)
    ∙ ap Ok (sym c.with_words.ensures.shown)
