use Rattle.std.proofs.Common.{◌∙◌}
use Rattle.mk_strace.specs.Held.{texts_in}
use Rattle.mk_strace.proofs.FamilyLemmas.{line-taken, last-left}
use Rattle.mk_strace.proofs.family.lines_of.Goals as goal

pub each-preserved : goal.each-preserved
each-preserved c =
    line-taken (texts_in c.args.family.now) c.each.rest.now c.in-Some.line.now c.in-Some.after.now
    c.each.lines c.add_theirs.new.lines c.in-Some.ensures.parts c.in_ok-add_theirs.ensures
    ∙ c.each.invariant

pub returns : goal.returns
returns c =
    last-left (texts_in c.args.family.now) c.each.rest.now c.each.lines c.in_default.ensures.parts
    ∙ c.each.invariant
