use Rattle.std.proofs.Common.{◌+◌, refl, sym, ◌∙◌}
use Rattle.mk_lines.proofs.GroupLemmas.{lines_of-none}
use Rattle.mk_lines.proofs.line.LineCursor.next_line.Goals as goal

pub returns-in_default-clause-first : goal.returns-in_default-clause-first
returns-in_default-clause-first c =
    let none = lines_of-none (c.self.inside.lines.done + 1) _ c.in_default.ensures.none in
    rw (sym c.self.view_is ∙ none) refl

pub returns-in_default-clause-rest : goal.returns-in_default-clause-rest
returns-in_default-clause-rest c =
    let none = lines_of-none (c.self.inside.lines.done + 1) _ c.in_default.ensures.none in
    rw (sym c.self.view_is ∙ none) refl
