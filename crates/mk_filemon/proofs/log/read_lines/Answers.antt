use Rattle.std.proofs.Common.{sym, ◌∙◌}
use Rattle.std.proofs.lemmas.Option.{MatchOption-at_some, MatchOption-at_none}
use Rattle.mk_filemon.specs.Held.{directories_in}
use Rattle.mk_filemon.proofs.LogLemmas.{logged-line, logged-end}
use Rattle.mk_filemon.proofs.LogLemmas.{sized-line, sized-over, sized-end}
use Rattle.mk_filemon.proofs.log.read_lines.Goals as goal

pub returns-in_default-2-clause-fits : goal.returns-in_default-2-clause-fits
returns-in_default-2-clause-fits c =
    sized-over c.args.cwd.now c.lines.rest.now c.in-Some.line.now c.in-Some.after.now
    (directories_in c.lines.directories) _ c.lines.room c.in-Some.ensures.parts
    (MatchOption-at_none _ _ c.in_default-2.is c.in_ok-left.ensures.not)
    c.lines.invariant.1

pub lines-preserved : goal.lines-preserved
lines-preserved c =
    let ops = MatchOption-at_some _ _ _ c.in-Some-2.is c.in_ok-left.ensures.ops in
    let after = MatchOption-at_some _ _ _ c.in-Some-2.is c.in_ok-left.ensures.directories in
    let left = MatchOption-at_some _ _ _ c.in-Some-2.is c.in_ok-left.ensures.fits in (
      logged-line c.args.cwd.now c.lines.rest.now c.in-Some.line.now c.in-Some.after.now c.lines.ops
          c.read_line.new.ops (directories_in c.lines.directories)
          (directories_in c.read_line.new.directories) c.in-Some.ensures.parts ops after
          ∙ c.lines.invariant.0,
      sized-line c.args.cwd.now c.lines.rest.now c.in-Some.line.now c.in-Some.after.now
          (directories_in c.lines.directories) (directories_in c.read_line.new.directories) _
          c.lines.room c.in-Some-2.left c.in-Some.ensures.parts after left c.lines.invariant.1,
    )

pub returns-clause-ops : goal.returns-clause-ops
returns-clause-ops c = λ fits.
    logged-end c.args.cwd.now c.lines.rest.now c.lines.ops c.read_line-2.new.ops
    (directories_in c.lines.directories) c.in_ok-read_line.field-0 c.in_default.ensures.parts
    (sym c.is_some.ensures ∙ fits) c.in_ok-read_line.ensures.ops
    ∙ c.lines.invariant.0

pub returns-clause-fits : goal.returns-clause-fits
returns-clause-fits c =
    c.is_some.ensures
    ∙ sized-end c.args.cwd.now c.lines.rest.now (directories_in c.lines.directories) _ c.lines.room
    c.in_ok-read_line.field-0 c.in_default.ensures.parts c.in_ok-read_line.ensures.fits
    c.in_ok-read_line.ensures.not c.lines.invariant.1
