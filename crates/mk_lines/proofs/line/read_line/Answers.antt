use Rattle.std.proofs.Common.{[], sym, ◌∙◌}
use Rattle.mk_lines.specs.Lines.{physical_lines}
use Rattle.mk_lines.proofs.ReadLemmas.{reading-begins, reading-stops}
use Rattle.mk_lines.proofs.line.read_line.Goals as goal

pub returns : goal.returns
returns c =
    let lines = c.args.lines.now in
    let rest = physical_lines lines.rest.now in
    let stops = sym c.is_continued.ensures ∙ c.if-is_continued.false in
    reading-begins lines.done c.args.first.now rest
    ∙ reading-stops lines.done [] c.args.first.now lines.done rest stops
