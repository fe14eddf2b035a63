use Rattle.std.proofs.Common.{arith}
use Rattle.mk_lines.specs.Lines.{physical_lines, line_groups}
use Rattle.mk_lines.proofs.PhysicalLemmas.{length-physical_lines}
use Rattle.mk_lines.proofs.GroupLemmas.{length-lines_of, length-line_groups}
use Rattle.mk_lines.proofs.line.LineCursor.new.Goals as goal

pub returns-clause-few : goal.returns-clause-few
returns-clause-few c =
    let text = c.args.text.now in
    let lines = physical_lines text in
    omega (
      arith,
      length-lines_of 1 (line_groups lines),
      length-line_groups lines,
      length-physical_lines text,
    )
