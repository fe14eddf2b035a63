use Rattle.std.proofs.Common.{◌≡◌, ◌∙◌, nat_le, true, false, length, refl, sym}
use Rattle.mk_plan.specs.Deciding.{is_stopped}
use Rattle.mk_sched.proofs.DecideLemmas.{open_within}
use Rattle.mk_trace.specs.Builds.{rules_of}
use Rattle.mk_decision.specs.Makers.{work_of}
use Rattle.mk_trace.specs.Runs as run
use Rattle.mk_driver.proofs.EndingLemmas.{behind-ended, going-cut_off, not-last, over-ended, within-plan}
use Rattle.mk_driver.proofs.JobLemmas.{fits-settled, stopped-there}
use Rattle.mk_driver.proofs.NodeLemmas.{undecided-same}
use Rattle.mk_decision.proofs.PieceLemmas.{ok_from, on_ok, if_err}
use Rattle.mk_driver.proofs.ending.end_line.Goals as goal

pub finish_job-requires-clause-within : goal.finish_job-requires-clause-within
finish_job-requires-clause-within g c =
    within-plan (work_of c.args.maker.now) c.args.course.now.sched _ _ _ _ _ _ c.requires.fits
    (open_within c.args.course.now.sched.nodes _ c.requires.token.open_now)

pub returns-then-is_last-clause-goes : goal.returns-then-is_last-clause-goes
returns-then-is_last-clause-goes g c =
    let job = c.args.job in
    let fine : run.fails (run.line_of job.task.lines job.number) c.args.status ≡ false =
    rw c.line_at.ensures (sym c.line_fails.ensures ∙ c.if-line_fails.false) in
    on_ok c.finish_job.result (λ goes first out at.
    goes first out (over-ended g.W.World.meaning (work_of c.args.maker.now) _ c.args.course.now job
    c.args.status first out fine (sym c.is_last.ensures ∙ c.if-is_last.true) at))
    c.finish_job.ensures.goes

pub returns-then-is_last-clause-halted : goal.returns-then-is_last-clause-halted
returns-then-is_last-clause-halted g c =
    let job = c.args.job in
    let fine : run.fails (run.line_of job.task.lines job.number) c.args.status ≡ false =
    rw c.line_at.ensures (sym c.line_fails.ensures ∙ c.if-line_fails.false) in
    if_err c.finish_job.result (λ fault halts first out at.
    halts first out (over-ended g.W.World.meaning (work_of c.args.maker.now) _ c.args.course.now job
    c.args.status first out fine (sym c.is_last.ensures ∙ c.if-is_last.true) at))
    c.finish_job.ensures.halted

pub returns-then-is_last-clause-fits : goal.returns-then-is_last-clause-fits
returns-then-is_last-clause-fits g c =
    ok_from c.finish_job.result (c.finish_job.ensures.fits _ _ c.requires.fits)

pub returns-then-is_stopped_by-clause-goes : goal.returns-then-is_stopped_by-clause-goes
returns-then-is_stopped_by-clause-goes g c =
    let work = work_of c.args.maker.now in
    let course = c.args.course.now in
    let job = c.args.job in
    let fine : run.fails (run.line_of job.task.lines job.number) c.args.status ≡ false =
    rw c.line_at.ensures (sym c.line_fails.ensures ∙ c.if-line_fails.false) in
    let stopped : is_stopped (rules_of work) course.sched.nodes ≡ true =
    rw (← stopped-there (rules_of work) course.sched _ _ _ _ _ c.requires.fits)
    (sym c.is_stopped_by.ensures ∙ c.if-is_stopped_by.true) in
    λ first out at.
    going-cut_off g.W.World.meaning work _ course c.ended.new.self job c.args.status first out
    c.requires.token.open_now fine (sym c.is_last.ensures ∙ c.if-is_last.false) stopped c.ended.ensures at

pub returns-then-is_stopped_by-clause-fits : goal.returns-then-is_stopped_by-clause-fits
returns-then-is_stopped_by-clause-fits g c =
    rw c.ended.ensures (fits-settled _ _ _ _ _ _ _ c.requires.fits c.requires.token)

pub returns-then-is_stopped_by-clause-nodes : goal.returns-then-is_stopped_by-clause-nodes
returns-then-is_stopped_by-clause-nodes g c =
    let course = c.args.course.now in
    rw c.ended.ensures (undecided-same course.sched.nodes c.args.job.node _
    (open_within course.sched.nodes c.args.job.node c.requires.token.open_now)
    c.requires.token.open_now refl)

pub run_on-requires-clause-going : goal.run_on-requires-clause-going
run_on-requires-clause-going g c =
    let work = work_of c.args.maker.now in
    let course = c.args.course.now in
    rw (← stopped-there (rules_of work) course.sched _ _ _ _ _ c.requires.fits)
    (sym c.is_stopped_by.ensures ∙ c.if-is_stopped_by.false)

pub run_on-requires-clause-within : goal.run_on-requires-clause-within
run_on-requires-clause-within g c = c.requires.line.1.within

pub returns-clause-goes : goal.returns-clause-goes
returns-clause-goes g c =
    let work = work_of c.args.maker.now in
    let course = c.args.course.now in
    let job = c.args.job in
    let fine : run.fails (run.line_of job.task.lines job.number) c.args.status ≡ false =
    rw c.line_at.ensures (sym c.line_fails.ensures ∙ c.if-line_fails.false) in
    let last : nat_le (length job.task.lines) job.number ≡ false =
    sym c.is_last.ensures ∙ c.if-is_last.false in
    let going : is_stopped (rules_of work) course.sched.nodes ≡ false =
    rw (← stopped-there (rules_of work) course.sched _ _ _ _ _ c.requires.fits)
    (sym c.is_stopped_by.ensures ∙ c.if-is_stopped_by.false) in
    on_ok c.run_on.result (λ runs first out at.
    runs first out (behind-ended g.W.World.meaning work _ course job c.args.status first out fine last going
    (not-last (length job.task.lines) job.number last) at)) c.run_on.ensures.goes

pub returns-clause-halted : goal.returns-clause-halted
returns-clause-halted g c =
    let work = work_of c.args.maker.now in
    let course = c.args.course.now in
    let job = c.args.job in
    let fine : run.fails (run.line_of job.task.lines job.number) c.args.status ≡ false =
    rw c.line_at.ensures (sym c.line_fails.ensures ∙ c.if-line_fails.false) in
    let last : nat_le (length job.task.lines) job.number ≡ false =
    sym c.is_last.ensures ∙ c.if-is_last.false in
    let going : is_stopped (rules_of work) course.sched.nodes ≡ false =
    rw (← stopped-there (rules_of work) course.sched _ _ _ _ _ c.requires.fits)
    (sym c.is_stopped_by.ensures ∙ c.if-is_stopped_by.false) in
    if_err c.run_on.result (λ fault halts first out at.
    halts first out (behind-ended g.W.World.meaning work _ course job c.args.status first out fine last going
    (not-last (length job.task.lines) job.number last) at)) c.run_on.ensures.halted

pub returns-then-line_fails-clause-fits : goal.returns-then-line_fails-clause-fits
returns-then-line_fails-clause-fits g c =
    ok_from c.fail_job-failed.result (c.fail_job-failed.ensures.fits _ _ c.requires.fits)
