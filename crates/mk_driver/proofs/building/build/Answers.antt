use Rattle.std.proofs.Common.{[], refl}
use Rattle.mk_world.proofs.IdleLemmas.{IsIdle}
use Rattle.mk_decision.specs.Makers.{work_on}
use Rattle.mk_trace.specs.Builds.{moment}
use Rattle.mk_trace.specs.declared.result.BuildResult.TheVariants as ended
use Rattle.mk_driver.proofs.BuildLemmas.{ended-build, ended-none, fits-first, going-first, jobs-few}
use Rattle.mk_trace.proofs.CallLemmas.{called-none-left}
use Rattle.mk_headline.proofs.CleanBuildLemmas.{clean-build}
use Rattle.mk_trace.proofs.WorldLemmas.{called-left}
use Rattle.mk_driver.proofs.building.build.Goals as goal

pub returns-in_default-clause-built : goal.returns-in_default-clause-built
returns-in_default-clause-built g c =
    let work = work_on c.args.plan.now c.args.made.now c.args.flags.now in
    let history = g.W.World.history c.args.world.now in
    let out = g.S.Sink.held c.args.out.now in
    let idle : IsIdle history =
    λ h is. g.met.W.World.told_children c.args.world.now h [] c.requires.idle is in
    rw c.no_memory.ensures (clean-build {result = ended.NoMemory} c.requires.some_jobs (ended-build g.W.World.meaning work ended.NoMemory (moment history out [])
    (moment history out []) (moment history out []) (ended-none g.W.World.meaning work history out)
    (called-none-left g.W.World.meaning history) refl refl idle idle))

pub returns-in_default-new_course-clause-built : goal.returns-in_default-new_course-clause-built
returns-in_default-new_course-clause-built g c =
    let work = work_on c.args.plan.now c.args.made.now c.args.flags.now in
    let history = g.W.World.history c.args.world.now in
    let out = g.S.Sink.held c.args.out.now in
    let idle : IsIdle history =
    λ h is. g.met.W.World.told_children c.args.world.now h [] c.requires.idle is in
    rw c.no_memory-in_default-new_course.ensures (clean-build {result = ended.NoMemory} c.requires.some_jobs (ended-build g.W.World.meaning work ended.NoMemory
    (moment history out []) (moment history out []) (moment history out [])
    (ended-none g.W.World.meaning work history out) (called-none-left g.W.World.meaning history) refl
    refl idle idle))

pub make_to_end-result-requires-clause-fits : goal.make_to_end-result-requires-clause-fits
make_to_end-result-requires-clause-fits g c =
    let work = work_on c.args.plan.now c.args.made.now c.args.flags.now in
    let few = rw (← c.jobs_in-jobs.ensures) at (jobs-few work c.requires.few_jobs) in
    rw c.in-Ok.ensures (fits-first work c.in-Ok-new_course.course c.jobs_in-jobs.result
    c.jobs_in-jobs.result c.jobs_in-jobs.ensures c.in-Ok-new_course.ensures.begins
    c.in-Ok-new_course.ensures.short few refl)

pub returns-clause-built : goal.returns-clause-built
returns-clause-built g c =
    let work = work_on c.args.plan.now c.args.made.now c.args.flags.now in
    let history = g.W.World.history c.args.world.now in
    let out = g.S.Sink.held c.args.out.now in
    let first = moment history out [] in
    let now = moment (g.W.World.history c.make_to_end-result.new.world)
    (g.S.Sink.held c.make_to_end-result.new.out) c.make_to_end-result.new.course.events.items in
    let next = moment (g.W.World.history c.abandon.new.self)
    (g.S.Sink.held c.make_to_end-result.new.out) c.events_of.result in
    let idle : IsIdle history =
    λ h is. g.met.W.World.told_children c.args.world.now h [] c.requires.idle is in
    let still : IsIdle (g.W.World.history c.abandon.new.self) =
    λ h is. g.met.W.World.told_children c.abandon.new.self h [] c.abandon.ensures.children is in
    clean-build {result = c.make_to_end-result.result} c.requires.some_jobs (ended-build g.W.World.meaning work c.make_to_end-result.result first now next
    (c.make_to_end-result.ensures.ended first (going-first g.W.World.meaning work
    c.in-Ok-new_course.course c.jobs_in-jobs.result c.args.flags.now.keep_going history out
    c.in-Ok-new_course.ensures.begins))
    (called-left g.W.World.meaning _ _ c.abandon.ensures.done) c.events_of.ensures refl idle still)
