use Rattle.std.proofs.Common.{◌∙◌, [], ◌∷◌, true, false, append_assoc, arith}
use Rattle.std.proofs.lemmas.Result.{err_from_is_err_and}
use Rattle.mk_sched.proofs.DecideLemmas.{open_within}
use Rattle.mk_decision.specs.Makers.{work_of}
use Rattle.mk_child.specs.declared.halt.Halt.TheVariants.{NoMemory as no_memory}
use Rattle.mk_trace.specs.Builds.{moment}
use Rattle.mk_trace.specs.declared.event.Event.TheVariants as event
use Rattle.mk_driver.proofs.EndingLemmas.{halted-waiting, so_far-taken, wait-facts, within-plan}
use Rattle.mk_driver.proofs.LineLemmas.{found, halted}
use Rattle.mk_trace.proofs.MakeLemmas.{so_far-weaken}
use Rattle.mk_driver.proofs.JobLemmas.{fits-taken, left-taken, some-taken}
use Rattle.mk_driver.proofs.ending.take_in.Goals as goal

pub wait_child-requires-clause-some : goal.wait_child-requires-clause-some
wait_child-requires-clause-some g c =
    (wait-facts _ _ _ _ _ _ c.requires.fits c.requires.wait).2

pub take_job-job-requires : goal.take_job-job-requires
take_job-job-requires g c =
    rw (c.requires.fits.tickets_are c.in_ok-ended.ended.ticket.0)
    (some-taken _ _ _ c.in_ok-ended.ensures.taken)

pub line_at-requires : goal.line_at-requires
line_at-requires g c =
    let out = fits-taken _ _ _ _ _ _ _ _ _ c.take_job-job.result c.requires.fits
    c.take_job-job.ensures c.in_ok-ended.ensures.taken in
    (out.one, out.has)

pub print_end-shown-requires : goal.print_end-shown-requires
print_end-shown-requires g c =
    let out = fits-taken _ _ _ _ _ _ _ _ _ c.take_job-job.result c.requires.fits
    c.take_job-job.ensures c.in_ok-ended.ensures.taken in
    within-plan (work_of c.args.maker.now) c.args.course.now.sched _ _ _ _ _ _ out.fits
    (open_within c.args.course.now.sched.nodes _ out.token.open_now)

pub end_line-requires-clause-fits : goal.end_line-requires-clause-fits
end_line-requires-clause-fits g c =
    let out = fits-taken _ _ _ _ _ _ _ _ _ c.take_job-job.result c.requires.fits
    c.take_job-job.ensures c.in_ok-ended.ensures.taken in
    rw c.in_ok-ended.ensures.same_room out.fits

pub end_line-requires-clause-token : goal.end_line-requires-clause-token
end_line-requires-clause-token g c =
    (fits-taken _ _ _ _ _ _ _ _ _ c.take_job-job.result c.requires.fits
    c.take_job-job.ensures c.in_ok-ended.ensures.taken).token

pub end_line-requires-clause-line : goal.end_line-requires-clause-line
end_line-requires-clause-line g c =
    let out = fits-taken _ _ _ _ _ _ _ _ _ c.take_job-job.result c.requires.fits
    c.take_job-job.ensures c.in_ok-ended.ensures.taken in
    (out.one, out.has)

pub returns-in_err-ended-clause-halted : goal.returns-in_err-ended-clause-halted
returns-in_err-ended-clause-halted g c =
    let p = err_from_is_err_and c.from_residual.result c.from_residual.ensures.1 in
    let facts = wait-facts _ _ _ _ _ _ c.requires.fits c.requires.wait in
    let course = c.args.course.now in
    rw p.1 (λ first at.
    halted-waiting g.W.World.meaning (work_of c.args.maker.now) p.0 at.0 course.sched.nodes
    course.jobs.items course.failure course.last_shown first
    (moment (g.W.World.history c.args.world.now) (g.S.Sink.held c.args.out.now) course.events.items)
    (g.W.World.history c.wait_child.new.world) c.wait_child.new.events.items at.2 facts.0 facts.1
    c.in_err-ended.ensures.refused c.in_err-ended.ensures.untold)

pub returns-in-Err-clause-halted : goal.returns-in-Err-clause-halted
returns-in-Err-clause-halted g c =
    let work = work_of c.args.maker.now in
    let course = c.args.course.now in
    let ended = c.in_ok-ended.ended in
    let job = c.take_job-job.result in
    let facts = wait-facts _ _ _ _ _ _ c.requires.fits c.requires.wait in
    let out = fits-taken _ _ _ _ _ _ _ _ _ job c.requires.fits c.take_job-job.ensures
    c.in_ok-ended.ensures.taken in
    let told = c.put.ensures.told ∙ rw c.in_ok-ended.ensures.told
    (append_assoc course.events.items (event.Wait ∷ []) (event.End job.node job.number ended.status ∷ [])) in
    let has = found c.line_at.result.now job.task.lines job.number c.line_at.ensures (out.one, out.has) in
    rw c.from.ensures (λ first at. (
      at.0,
      _,
      so_far-weaken g.W.World.meaning work true first _ _ at.0 at.0 _ _
          (so_far-taken g.W.World.meaning work true at.0 course.sched.nodes course.jobs.items
          c.take_job-job.new.jobs.items course.failure job c.line_at.result.now ended course.last_shown first
          (moment (g.W.World.history c.args.world.now) (g.S.Sink.held c.args.out.now) course.events.items)
          (moment (g.W.World.history c.wait_child.new.world) (g.S.Sink.held c.print_end-shown.new.out)
          c.put.new.events.items) at.2 facts.0 facts.1 c.take_job-job.ensures out.token has
          (c.in_ok-ended.ensures.done job.node job.number) told
          (rw (← c.are_many.ensures, ← c.bytes.ensures.value) c.in-Err.ensures.cut))
          (λ tasks has_tasks. has_tasks) (λ tasks build has_tasks is. tt),
    ))

pub returns-in_default-keep_end-clause-halted : goal.returns-in_default-keep_end-clause-halted
returns-in_default-keep_end-clause-halted g c =
    let work = work_of c.args.maker.now in
    let course = c.args.course.now in
    let ended = c.in_ok-ended.ended in
    let job = c.take_job-job.result in
    let facts = wait-facts _ _ _ _ _ _ c.requires.fits c.requires.wait in
    let out = fits-taken _ _ _ _ _ _ _ _ _ job c.requires.fits c.take_job-job.ensures
    c.in_ok-ended.ensures.taken in
    let told = c.put.ensures.told ∙ rw c.in_ok-ended.ensures.told
    (append_assoc course.events.items (event.Wait ∷ []) (event.End job.node job.number ended.status ∷ [])) in
    let has = found c.line_at.result.now job.task.lines job.number c.line_at.ensures (out.one, out.has) in
    λ first at.
    halted g.W.World.meaning work no_memory first _ (g.S.Sink.held c.print_end-shown.new.out) c.put.new.events.items _ at.0
    _ (so_far-taken g.W.World.meaning work false at.0 course.sched.nodes course.jobs.items
    c.take_job-job.new.jobs.items course.failure job c.line_at.result.now ended course.last_shown first
    (moment (g.W.World.history c.args.world.now) (g.S.Sink.held c.args.out.now) course.events.items)
    (moment (g.W.World.history c.wait_child.new.world) (g.S.Sink.held c.print_end-shown.new.out)
    c.put.new.events.items) at.2 facts.0 facts.1 c.take_job-job.ensures out.token has
    (c.in_ok-ended.ensures.done job.node job.number) told
    (rw (← c.are_many.ensures, ← c.bytes.ensures.value) c.in_default.ensures.done))

pub returns-in_err-end_line-clause-halted : goal.returns-in_err-end_line-clause-halted
returns-in_err-end_line-clause-halted g c =
    let p = err_from_is_err_and c.from_residual-in_err-end_line.result
    c.from_residual-in_err-end_line.ensures.1 in
    let work = work_of c.args.maker.now in
    let course = c.args.course.now in
    let ended = c.in_ok-ended.ended in
    let job = c.take_job-job.result in
    let facts = wait-facts _ _ _ _ _ _ c.requires.fits c.requires.wait in
    let out = fits-taken _ _ _ _ _ _ _ _ _ job c.requires.fits c.take_job-job.ensures
    c.in_ok-ended.ensures.taken in
    let told = c.put.ensures.told ∙ rw c.in_ok-ended.ensures.told
    (append_assoc course.events.items (event.Wait ∷ []) (event.End job.node job.number ended.status ∷ [])) in
    let has = found c.line_at.result.now job.task.lines job.number c.line_at.ensures (out.one, out.has) in
    rw (p.1, p.2) (λ first at.
    c.in_err-end_line.ensures.halted first (g.S.Sink.held c.print_end-shown.new.out) (
      at.0,
      at.1,
      rw (c.in_default.ensures.last, c.bytes.ensures.value, c.in-Ok.ensures)
          (so_far-taken g.W.World.meaning work false at.0 course.sched.nodes course.jobs.items
          c.take_job-job.new.jobs.items course.failure job c.line_at.result.now ended course.last_shown first
          (moment (g.W.World.history c.args.world.now) (g.S.Sink.held c.args.out.now) course.events.items)
          (moment (g.W.World.history c.wait_child.new.world) (g.S.Sink.held c.print_end-shown.new.out)
          c.put.new.events.items) at.2 facts.0 facts.1 c.take_job-job.ensures out.token has
          (c.in_ok-ended.ensures.done job.node job.number) told
          (rw (← c.are_many.ensures, ← c.bytes.ensures.value) c.in_default.ensures.done)),
    ))

pub returns-clause-goes : goal.returns-clause-goes
returns-clause-goes g c =
    let work = work_of c.args.maker.now in
    let course = c.args.course.now in
    let ended = c.in_ok-ended.ended in
    let job = c.take_job-job.result in
    let facts = wait-facts _ _ _ _ _ _ c.requires.fits c.requires.wait in
    let out = fits-taken _ _ _ _ _ _ _ _ _ job c.requires.fits c.take_job-job.ensures
    c.in_ok-ended.ensures.taken in
    let told = c.put.ensures.told ∙ rw c.in_ok-ended.ensures.told
    (append_assoc course.events.items (event.Wait ∷ []) (event.End job.node job.number ended.status ∷ [])) in
    let has = found c.line_at.result.now job.task.lines job.number c.line_at.ensures (out.one, out.has) in
    λ first at.
    c.in_ok-end_line.ensures.goes first (g.S.Sink.held c.print_end-shown.new.out) (
      at.0,
      at.1,
      rw (c.in_default.ensures.last, c.bytes.ensures.value, c.in-Ok.ensures)
          (so_far-taken g.W.World.meaning work false at.0 course.sched.nodes course.jobs.items
          c.take_job-job.new.jobs.items course.failure job c.line_at.result.now ended course.last_shown first
          (moment (g.W.World.history c.args.world.now) (g.S.Sink.held c.args.out.now) course.events.items)
          (moment (g.W.World.history c.wait_child.new.world) (g.S.Sink.held c.print_end-shown.new.out)
          c.put.new.events.items) at.2 facts.0 facts.1 c.take_job-job.ensures out.token has
          (c.in_ok-ended.ensures.done job.node job.number) told
          (rw (← c.are_many.ensures, ← c.bytes.ensures.value) c.in_default.ensures.done)),
    )

pub returns-clause-left : goal.returns-clause-left
returns-clause-left g c =
    let job = c.take_job-job.result in
    let out = fits-taken _ _ _ _ _ _ _ _ _ job c.requires.fits c.take_job-job.ensures
    c.in_ok-ended.ensures.taken in
    let all = left-taken c.in_ok-ended.ended.ticket.0 c.args.course.now.jobs.items
    c.take_job-job.new.jobs.items job c.take_job-job.ensures in
    let now = c.in_ok-end_line.ensures.left in
    let within = out.has.within in
    omega (arith, all, now, within)
