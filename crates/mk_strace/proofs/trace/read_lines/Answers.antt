use Rattle.std.proofs.Common.{◌∙◌, sym}
use Rattle.mk_strace.specs.Held.{texts_in}
use Rattle.mk_strace.proofs.TraceLemmas.{line-read, line-refused, last-read}
use Rattle.mk_strace.proofs.trace.read_lines.Goals as goal

pub returns-in-None : goal.returns-in-None
returns-in-None c =
    line-refused (texts_in c.lines.begun) c.lines.rest.now c.in-Some.line.now c.in-Some.after.now
    c.lines.events c.in-Some.ensures.parts (sym c.in-None.is ∙ c.in_ok-event.ensures.event)
    ∙ c.lines.invariant

pub lines-preserved : goal.lines-preserved
lines-preserved c =
    line-read (texts_in c.lines.begun) (texts_in c.read_line.new.begun) c.lines.rest.now
    c.in-Some.line.now c.in-Some.after.now c.lines.events c.push.new.self c.in-Some-2.event
    c.in-Some.ensures.parts (sym c.in-Some-2.is ∙ c.in_ok-event.ensures.event)
    c.in_ok-event.ensures.begun
    c.in_ok-push-in-Some-2.ensures.ok
    ∙ c.lines.invariant

pub returns : goal.returns
returns c =
    last-read (texts_in c.lines.begun) c.lines.rest.now c.lines.events c.is_empty.result
    c.in_default.ensures.parts c.is_empty.ensures
    ∙ c.lines.invariant
