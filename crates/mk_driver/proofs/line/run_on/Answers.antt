use Rattle.std.proofs.Common.{◌≡◌, ◌+◌, ◌-◌, ◌≤◌, ℕ, length, sym, subst, arith}
use Rattle.std.proofs.lemmas.Grind.{common_steps}
use Rattle.mk_decision.specs.Makers.{work_of}
use Rattle.mk_driver.specs.Progress.{BehindOn}
use Rattle.mk_sched.proofs.DecideLemmas.{open_within}
use Rattle.mk_driver.proofs.EndingLemmas.{over-behind, within-plan}
use Rattle.mk_decision.proofs.PieceLemmas.{ok_from, on_ok, if_err}
use Rattle.mk_driver.proofs.line.run_on.Goals as goal

back : (n : ℕ) → n + 1 - 1 ≡ n
back n = omega arith

pub returns-in_default-clause-halted : goal.returns-in_default-clause-halted
returns-in_default-clause-halted g c =
    let halts = rw c.as_slice-lines.ensures.value at c.in_default.ensures.halted in
    λ first out at.
    halts
    (record {
      meaning = g.W.World.meaning;
      work = work_of c.args.maker.now;
      history = g.W.World.history c.args.world.now;
      course = c.args.course.now;
      first = first;
      out = out;
    })
    (record { unstopped = c.requires.going; token = c.requires.token }) c.args.job.collected at

pub finish_job-requires-clause-within : goal.finish_job-requires-clause-within
finish_job-requires-clause-within g c =
    within-plan (work_of c.args.maker.now) c.args.course.now.sched _ _ _ _ _ _ c.requires.fits
    (open_within c.args.course.now.sched.nodes _ c.requires.token.open_now)

pub returns-then-passed-len-clause-goes : goal.returns-then-passed-len-clause-goes
returns-then-passed-len-clause-goes g c =
    let behind = rw c.as_slice-lines.ensures.value at c.in-Ok.ensures.behind in
    let none : length c.args.job.task.lines ≤ c.in-Ok.passed = grind (arith, common_steps) in
    on_ok c.finish_job.result (λ goes first out at.
    goes first out (over-behind g.W.World.meaning (work_of c.args.maker.now) _ c.args.course.now
    c.pass_lines.new.events.items c.args.job c.in-Ok.passed first out none
    (behind
    (record {
      meaning = g.W.World.meaning;
      work = work_of c.args.maker.now;
      history = g.W.World.history c.args.world.now;
      course = c.args.course.now;
      first = first;
      out = out;
    })
    (record { unstopped = c.requires.going; token = c.requires.token }) c.args.job.collected at)))
    c.finish_job.ensures.goes

pub returns-then-passed-len-clause-halted : goal.returns-then-passed-len-clause-halted
returns-then-passed-len-clause-halted g c =
    let behind = rw c.as_slice-lines.ensures.value at c.in-Ok.ensures.behind in
    let none : length c.args.job.task.lines ≤ c.in-Ok.passed = grind (arith, common_steps) in
    if_err c.finish_job.result (λ fault halts first out at.
    halts first out (over-behind g.W.World.meaning (work_of c.args.maker.now) _ c.args.course.now
    c.pass_lines.new.events.items c.args.job c.in-Ok.passed first out none
    (behind
    (record {
      meaning = g.W.World.meaning;
      work = work_of c.args.maker.now;
      history = g.W.World.history c.args.world.now;
      course = c.args.course.now;
      first = first;
      out = out;
    })
    (record { unstopped = c.requires.going; token = c.requires.token }) c.args.job.collected at)))
    c.finish_job.ensures.halted

pub returns-then-passed-len-clause-fits : goal.returns-then-passed-len-clause-fits
returns-then-passed-len-clause-fits g c =
    ok_from c.finish_job.result (c.finish_job.ensures.fits _ _ c.requires.fits)

pub returns-clause-goes : goal.returns-clause-goes
returns-clause-goes g c =
    let behind = rw c.as_slice-lines.ensures.value at c.in-Ok.ensures.behind in
    on_ok c.start_line.result (λ goes first out at.
    goes first out
    (subst (λ k. BehindOn g.W.World.meaning (work_of c.args.maker.now)
    (g.W.World.history c.args.world.now) c.args.course.now c.pass_lines.new.events.items c.args.job.node
    c.args.job.task.lines c.args.job.collected k first out) (sym (back c.in-Ok.passed))
    (behind
    (record {
      meaning = g.W.World.meaning;
      work = work_of c.args.maker.now;
      history = g.W.World.history c.args.world.now;
      course = c.args.course.now;
      first = first;
      out = out;
    })
    (record { unstopped = c.requires.going; token = c.requires.token }) c.args.job.collected at))) c.start_line.ensures.goes

pub returns-clause-halted : goal.returns-clause-halted
returns-clause-halted g c =
    let behind = rw c.as_slice-lines.ensures.value at c.in-Ok.ensures.behind in
    if_err c.start_line.result (λ fault halts first out at.
    halts first out
    (subst (λ k. BehindOn g.W.World.meaning (work_of c.args.maker.now)
    (g.W.World.history c.args.world.now) c.args.course.now c.pass_lines.new.events.items c.args.job.node
    c.args.job.task.lines c.args.job.collected k first out) (sym (back c.in-Ok.passed))
    (behind
    (record {
      meaning = g.W.World.meaning;
      work = work_of c.args.maker.now;
      history = g.W.World.history c.args.world.now;
      course = c.args.course.now;
      first = first;
      out = out;
    })
    (record { unstopped = c.requires.going; token = c.requires.token }) c.args.job.collected at)))
    c.start_line.ensures.halted
