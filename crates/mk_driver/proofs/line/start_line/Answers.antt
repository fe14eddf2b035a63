use Rattle.std.proofs.Common.{◌∷◌, ◌++◌, [], refl, arith}
use Rattle.std.proofs.lemmas.Result.{err_from_is_err_and}
use Rattle.mk_trace.specs.Builds.{command_of, moment}
use Rattle.mk_child.specs.Halts.{of_world}
use Rattle.mk_decision.specs.Makers.{work_of}
use Rattle.mk_driver.specs.Jobs.{with_ticket}
use Rattle.mk_driver.proofs.EndingLemmas.{going-started}
use Rattle.mk_driver.proofs.JobLemmas.{fits-started, left-add}
use Rattle.mk_driver.proofs.LineLemmas.{halted}
use Rattle.mk_trace.proofs.MakeLemmas.{so_far-nothing}
use Rattle.mk_driver.proofs.line.start_line.Goals as goal

pub next_ticket-ticket-requires : goal.next_ticket-ticket-requires
next_ticket-ticket-requires g c =
    let long = c.requires.fits.as_long in
    let within = c.requires.fits.within in
    let few = c.requires.fits.few in
    omega (arith, long, within, few)

pub start_command-requires-clause-room : goal.start_command-requires-clause-room
start_command-requires-clause-room g c =
    let long = c.requires.fits.as_long in
    let within = c.requires.fits.within in
    let room = c.requires.fits.room_is in
    omega (arith, long, within, room)

pub returns-in-Err-clause-halted : goal.returns-in-Err-clause-halted
returns-in-Err-clause-halted g c = λ first out at.
    halted g.W.World.meaning (work_of c.args.maker.now) (of_world c.in-Err.fault) first _ out _ _ at.0 _
    (so_far-nothing g.W.World.meaning (work_of c.args.maker.now) first
    (moment (g.W.World.history c.args.world.now) out c.args.course.now.events.items)
    (moment (g.W.World.history c.start_command.new.world) out c.start_command.new.events.items) _ at.0 _ at.2
    c.in-Err.ensures.refused c.in-Err.ensures.untold refl)

pub returns-in_err-add_job-clause-halted : goal.returns-in_err-add_job-clause-halted
returns-in_err-add_job-clause-halted g c =
    let p = err_from_is_err_and c.from_residual.result c.from_residual.ensures.1 in
    let work = work_of c.args.maker.now in
    let job = with_ticket c.args.job c.next_ticket-ticket.result in
    let one = c.requires.line.0 in
    let has = c.requires.line.1 in
    rw p.1 (λ first out at.
    let started = going-started g.W.World.meaning work _ (g.W.World.history c.start_command.new.world)
    c.args.course.now c.start_command.new.events.items (c.args.course.now.jobs.items ++ job ∷ []) job one
    (command_of work one) first out c.requires.token has refl
    (c.in_default.ensures.done one has.line) c.in_default.ensures.told refl at in
    halted g.W.World.meaning work (of_world p.0) first _ out _ _ started.0 _ started.2)

pub returns-clause-goes : goal.returns-clause-goes
returns-clause-goes g c =
    let work = work_of c.args.maker.now in
    let job = with_ticket c.args.job c.next_ticket-ticket.result in
    let one = c.requires.line.0 in
    let has = c.requires.line.1 in
    λ first out at.
    going-started g.W.World.meaning work _ (g.W.World.history c.start_command.new.world)
    c.args.course.now c.start_command.new.events.items c.add_job.new.jobs.items job one
    (command_of work one) first out c.requires.token has refl
    (c.in_default.ensures.done one has.line) c.in_default.ensures.told
    c.in_ok-add_job.ensures.ok at

pub returns-clause-fits : goal.returns-clause-fits
returns-clause-fits g c =
    let job = with_ticket c.args.job c.next_ticket-ticket.result in
    rw c.in_default.ensures.same_room (fits-started _ c.args.course.now.sched c.args.course.now.jobs.items c.add_job.new.jobs.items
    c.args.course.now.failure _ _ _ job c.requires.line.0 c.requires.fits c.requires.token c.requires.line.1
    c.in_ok-add_job.ensures.ok c.in_default.ensures.held)

pub returns-clause-left : goal.returns-clause-left
returns-clause-left g c =
    let job = with_ticket c.args.job c.next_ticket-ticket.result in
    rw c.in_ok-add_job.ensures.ok (left-add c.args.course.now.jobs.items job)
