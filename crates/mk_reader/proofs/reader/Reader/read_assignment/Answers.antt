use Rattle.std.proofs.Common.{refl}
use Rattle.mk_makefile.specs.Moments.{closed, moment_of, stands}
use Rattle.mk_makefile.specs.Variables.{assigned_by}
use Rattle.mk_scopes.specs.declared.scopes.Class.TheVariants.{Global}
use Rattle.mk_reader.proofs.StepLemmas.{changed-given, then-given}
use Rattle.mk_reader.proofs.reader.Reader.read_assignment.Goals as goal

pub returns : goal.returns
returns g c =
    then-given _ (λ answers u. assigned_by answers Global c.args.parts.now.op c.args.parts.now.name.now
    c.args.parts.now.value.now u.1)
    (changed-given _ _ _ (record { world = refl; err = refl; state = refl; order = refl; same = refl })
    (λ (done : Unit {0}). done)
    (λ answers. stands (closed (moment_of c.args.self.now.state.now c.args.self.now.order.now)))
    refl refl tt (λ answers. refl))
    c.assign.ensures
