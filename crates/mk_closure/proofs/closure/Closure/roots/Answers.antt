use Rattle.std.proofs.Common.{map}
use Rattle.mk_closure.proofs.MemberLemmas.{planned_of-below}
use Rattle.mk_closure.specs.Members.{stands_for}
use Rattle.mk_closure.proofs.closure.Closure.roots.Goals as goal

pub returns-clause-below : goal.returns-clause-below
returns-clause-below c =
    rw (c.in_ok-add_sourced.ensures, c.in_ok-planned.ensures.empty)
    (planned_of-below c.args.self.now (map (stands_for c.args.self.now) c.as_slice.result.now))
