use Rattle.std.proofs.Common.{length, subst, true}
use Rattle.mk_graph.specs.Numbers.{AreBelow}
use Rattle.mk_rules.proofs.KeepLemmas.{passed_by, special-grows, targets-grow}
use Rattle.mk_rules.specs.Rules.{HavePassed, Ruled}
use Rattle.mk_rules.proofs.rules.Rules.add_line.Goals as goal
use Rattle.mk_rules.proofs.rules.Rules.add_line.Goals.{in-Some+in_ok-read_special-in-Some, in-None+in_ok-read_targets-in-None}

pub pass-requires : goal.pass-requires
pass-requires c =
    let r = c.args.self.now in
    let line = c.args.line.now in
    let count = c.self.inside.passed in
    let below = subst (λ (r : Ruled). AreBelow (length r.nodes) r.targets) c.self.view_is
    c.self.invariant.0.targets in
    let passed = subst (λ (r : Ruled). HavePassed r.nodes r.targets count) c.self.view_is
    c.self.invariant.1 in
    elim c.match-line.branch [
      | in-Some+in_ok-read_special-in-Some w ↦
          passed_by r w.read_special.new.self c.match-line.self count
          (special-grows w.in-Some.special r w.read_special.new.self line
          w.in_ok-read_special-in-Some.ensures.done) below passed w.self-is
      | in-None+in_ok-read_targets-in-None w ↦
          passed_by r w.read_targets.new.self c.match-line.self count
          (targets-grow true r w.read_targets.new.self line
          w.in_ok-read_targets-in-None.ensures.done) below passed w.self-is
    ]
