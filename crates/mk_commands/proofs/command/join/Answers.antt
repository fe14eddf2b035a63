use Rattle.std.proofs.Common.{◌<◌, length, drop, sym, ◌∙◌, arith}
use Rattle.std.proofs.lemmas.Grind.{common_steps}
use Rattle.mk_commands.specs.Words.{held}
use Rattle.mk_commands.proofs.JoinLemmas.{drop-held, fails_at, one_more}
use Rattle.mk_commands.proofs.command.join.Goals as goal

pub returns-then-not-is_found : goal.returns-then-not-is_found
returns-then-not-is_found c =
    let left = held (drop c.loop-source.source-index c.args.sources.now) in
    let some : 0 < length left = grind (arith, common_steps) in
    let is = c.in-Some.ensures.cases.0 in
    let missing = sym c.is_found.ensures ∙ c.if-not-is_found.true in
    let part = rw is at c.loop-source.invariant in
    c.ended.ensures ∙ sym (fails_at _ _ _ _ left _ _ some missing part)

pub loop-source-preserved : goal.loop-source-preserved
loop-source-preserved c =
    let i = c.loop-source.source-index in
    let sources = c.args.sources.now in
    let some : 0 < length (held (drop i sources)) = grind (arith, common_steps) in
    let is = c.in-Some.ensures.cases.0 in
    let part = one_more c.args.cwd.now c.args.target.now (held sources) c.args.seen.now
    (held (drop i sources)) c.in-Some.answer.now c.in-Some.more.now some
    (sym c.is_found.ensures ∙ c.if-not-is_found.false) (rw is at c.loop-source.invariant) in
    rw (← drop-held i sources) part
