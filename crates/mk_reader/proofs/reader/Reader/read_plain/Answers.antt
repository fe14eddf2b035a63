use Rattle.std.proofs.Common.{refl, sym, ◌∙◌}
use Rattle.mk_makefile.proofs.LineLemmas.{plain_read-none, plain_read-some}
use Rattle.mk_reader.proofs.StepLemmas.{given-as, here-given}
use Rattle.mk_reader.proofs.reader.Reader.read_plain.Goals as goal

pub returns-then-is_empty : goal.returns-then-is_empty
returns-then-is_empty g c =
    here-given _ _ _ _ _ (λ answers.
    plain_read-none answers c.args.file.now c.args.number c.args.line.now _
    (sym c.is_empty.ensures ∙ c.if-is_empty.true))

pub returns-in-Some-assignment : goal.returns-in-Some-assignment
returns-in-Some-assignment g c =
    given-as _ _ _ _ _ _ (λ answers.
    rw (
      plain_read-some answers c.args.file.now c.args.number c.args.line.now _
          (sym c.is_empty.ensures ∙ c.if-is_empty.false),
      ← c.directive_on.ensures,
      c.in_default.is,
      ← c.assignment.ensures,
      c.in-Some-assignment.is,
    ) refl)
    c.read_assignment.ensures

pub returns : goal.returns
returns g c =
    given-as _ _ _ _ _ _ (λ answers.
    rw (
      plain_read-some answers c.args.file.now c.args.number c.args.line.now _
          (sym c.is_empty.ensures ∙ c.if-is_empty.false),
      ← c.directive_on.ensures,
      c.in_default.is,
      ← c.assignment.ensures,
      c.in_default-assignment.is,
    ) refl)
    c.read_dependency.ensures
