use Rattle.std.proofs.Common.{[], refl}
use Rattle.mk_world.proofs.IdleLemmas.{IsIdle}
use Rattle.mk_decision.specs.Makers.{work_on}
use Rattle.mk_dry.proofs.EndLemmas.{ended-none, ended-run, going-first, gone-course}
use Rattle.mk_trace.proofs.CallLemmas.{called-none-left}
use Rattle.mk_trace.proofs.WorldLemmas.{called-left}
use Rattle.mk_trace.specs.Builds.{moment}
use Rattle.mk_trace.specs.declared.result.BuildResult.TheVariants as ended
use Rattle.mk_dry.proofs.running.dry_run.Goals as goal

pub returns-in_default-clause-ran : goal.returns-in_default-clause-ran
returns-in_default-clause-ran g c =
    let work = work_on c.args.plan c.args.made.now c.args.flags.now in
    let history = g.W.World.history c.args.world.now in
    let out = g.S.Sink.held c.args.out.now in
    let idle : IsIdle history =
    λ h is. g.met.W.World.told_children c.args.world.now h [] c.requires.idle is in
    rw c.no_memory.ensures (ended-run g.W.World.meaning work ended.NoMemory (moment history out [])
    (moment history out []) (moment history out []) (ended-none g.W.World.meaning work history out)
    (called-none-left g.W.World.meaning history) refl refl idle idle)

pub returns-in_default-new_course-clause-ran : goal.returns-in_default-new_course-clause-ran
returns-in_default-new_course-clause-ran g c =
    let work = work_on c.args.plan c.args.made.now c.args.flags.now in
    let history = g.W.World.history c.args.world.now in
    let out = g.S.Sink.held c.args.out.now in
    let idle : IsIdle history =
    λ h is. g.met.W.World.told_children c.args.world.now h [] c.requires.idle is in
    rw c.no_memory-in_default-new_course.ensures (ended-run g.W.World.meaning work ended.NoMemory
    (moment history out []) (moment history out []) (moment history out [])
    (ended-none g.W.World.meaning work history out) (called-none-left g.W.World.meaning history) refl
    refl idle idle)

pub run_to_end-result-requires-clause-gone : goal.run_to_end-result-requires-clause-gone
run_to_end-result-requires-clause-gone g c =
    gone-course c.args.plan c.args.made.now c.args.flags.now c.in-Ok-new_course.course
    c.in-Ok-new_course.ensures

pub returns-clause-ran : goal.returns-clause-ran
returns-clause-ran g c =
    let work = work_on c.args.plan c.args.made.now c.args.flags.now in
    let history = g.W.World.history c.args.world.now in
    let out = g.S.Sink.held c.args.out.now in
    let first = moment history out [] in
    let now = moment (g.W.World.history c.run_to_end-result.new.world)
    (g.S.Sink.held c.run_to_end-result.new.out) c.run_to_end-result.new.course.events.items in
    let next = moment (g.W.World.history c.abandon.new.self)
    (g.S.Sink.held c.run_to_end-result.new.out) c.events_of.result in
    let idle : IsIdle history =
    λ h is. g.met.W.World.told_children c.args.world.now h [] c.requires.idle is in
    let still : IsIdle (g.W.World.history c.abandon.new.self) =
    λ h is. g.met.W.World.told_children c.abandon.new.self h [] c.abandon.ensures.children is in
    ended-run g.W.World.meaning work c.run_to_end-result.result first now next
    (c.run_to_end-result.ensures.ended (record { start = work; first = first }) (going-first g.W.World.meaning c.args.plan
    c.args.made.now c.args.flags.now history c.in-Ok-new_course.course out
    c.in-Ok-new_course.ensures))
    (called-left g.W.World.meaning _ _ c.abandon.ensures.done) c.events_of.ensures refl idle still
