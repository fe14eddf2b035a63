use Rattle.mk_meta.specs.Reading.{line_read, command_in}
use Rattle.mk_meta.proofs.ManyLemmas.{going-taken, going-over}
use Rattle.mk_meta.proofs.lines.command_lines.Goals as goal

pub lines-preserved : goal.lines-preserved
lines-preserved c =
    going-taken (line_read command_in) c.args.text.now c.lines.lines c.take_in.new.items c.lines.rest.now
    c.in_ok-command_line.field-0 c.in-Some.after c.lines.invariant c.in_ok-command_line.ensures.read
    c.in_ok-command_line.ensures.shorter (rw c.in-Some.is at c.in_ok-after.ensures)

pub returns : goal.returns
returns c =
    going-over (line_read command_in) c.args.text.now c.lines.lines c.take_in.new.items c.lines.rest.now
    c.in_ok-command_line.field-0 c.lines.invariant c.in_ok-command_line.ensures.read
    (rw c.in_default.is at c.in_ok-after.ensures)
