use Rattle.std.proofs.Common.{◌≡◌, ◌<◌, [], length, ap, ◌∙◌, arith}
use Rattle.std.proofs.lemmas.List.{nil_from_length}
use Rattle.std.proofs.lemmas.Bool.Decides.{nat_tests}
use Rattle.mk_lines.specs.Lines.{physical_lines}
use Rattle.mk_lines.proofs.PhysicalLemmas.{physical_lines-none, physical_lines-first}
use Rattle.mk_lines.proofs.physical.PhysicalLines.take_line.Goals as goal

pub returns-then-is_empty-clause-none : goal.returns-then-is_empty-clause-none
returns-then-is_empty-clause-none c =
    let none : c.args.self.now.rest.now ≡ [] = nil_from_length _ (grind (arith, nat_tests)) in
    ap physical_lines none ∙ physical_lines-none

pub returns-clause-first : goal.returns-clause-first
returns-clause-first c =
    let some : 0 < length c.args.self.now.rest.now = grind (arith, nat_tests) in
    rw (c.split_line.ensures.line, c.split_line.ensures.rest)
    (physical_lines-first c.args.self.now.rest.now some)
