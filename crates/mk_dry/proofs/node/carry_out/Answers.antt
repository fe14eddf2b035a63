use Rattle.std.proofs.Common.{List, arith, refl}
use Rattle.mk_decision.specs.Decisions.{IsKept}
use Rattle.mk_dry.proofs.EndLemmas.{begun-from, due-may, rules-new, same-length, scene_from, shown-after}
use Rattle.mk_dry.proofs.LineLemmas.{leads-to, went-well}
use Rattle.mk_dry.proofs.LooksLemmas.{so_far-keeps, so_far-refuses, unknown-behind, unknown-still, with_task}
use Rattle.mk_dry.specs.Parts.{point}
use Rattle.mk_dry.specs.Progress.{work_in}
use Rattle.mk_plan.specs.declared.plan.NodeState.TheVariants.{Failed, Settled}
use Rattle.mk_trace.specs.Builds.{moment}
use Rattle.mk_world.specs.declared.command.TaskLine.{TaskLine}
use Rattle.mk_dry.proofs.node.carry_out.Goals as goal

pub returns-clause-goes : goal.returns-clause-goes
returns-clause-goes g c =
    let course = c.args.course.now in
    let made = c.args.made.now in
    let flags = c.args.flags.now in
    let n = c.args.node in
    let work = work_in course made flags in
    went-well Settled refl (λ from dec.
    let at = dec.2 in
    let may = due-may from.start made flags course n at.0 c.requires.due in
    let kept : (lines : List TaskLine) × IsKept work n dec.0 lines = rw c.in-Keep.is at dec.1 in (
      at.0,
      with_task at.1 n kept.0,
      unknown-behind at.1 n kept.0 at.2,
      so_far-keeps g.W.World.meaning from.start work at.1 course.nodes.items course.failure n kept.0 dec.0
          from.first (g.W.World.history c.args.world.now) (g.S.Sink.held c.args.out.now) course.events.items
          c.tell.new.events.items may (at.2 n (omega arith)) kept.1 at.3 c.in_ok-tell-in-Keep.ensures.ok,
    ))

pub returns-in-Refuse-clause-goes : goal.returns-in-Refuse-clause-goes
returns-in-Refuse-clause-goes g c =
    let course = c.args.course.now in
    let made = c.args.made.now in
    let flags = c.args.flags.now in
    let n = c.args.node in
    went-well Failed refl (λ from dec.
    let at = dec.2 in
    let may = due-may from.start made flags course n at.0 c.requires.due in
    rw c.note_failure.ensures (
      at.0,
      at.1,
      unknown-still at.1 n at.2,
      so_far-refuses g.W.World.meaning from.start (work_in course made flags) at.1 course.nodes.items
          course.failure n c.in-Refuse.number c.in-Refuse.what dec.0 from.first
          (g.W.World.history c.args.world.now) (g.S.Sink.held c.args.out.now) course.events.items
          c.tell-in-Refuse.new.events.items may (rw c.in-Refuse.is at dec.1) at.3 c.in-Ok.ensures.ok,
    ))

pub returns-in-Make-clause-goes : goal.returns-in-Make-clause-goes
returns-in-Make-clause-goes g c =
    let course = c.args.course.now in
    let made = c.args.made.now in
    let flags = c.args.flags.now in
    let n = c.args.node in
    let lines = c.in-Make.task.lines in
    let nodes = course.nodes.items in
    let now = point (g.W.World.history c.args.world.now) (g.S.Sink.held c.args.out.now) course in
    leads-to c.show_lines-shown.result (λ from dec.
    let made_of = rw c.in-Make.is at dec in
    let begun = begun-from g.W.World.meaning made flags n lines now made_of.0 c.requires.due made_of.1.0
    made_of.1.1 from made_of.2 in
    let at = made_of.2 in (
      scene_from made flags n lines at.1 now from,
      begun,
      (λ stands goes. shown-after g.W.World.meaning from.start from.first course.plan c.count_as_new.new.self
          made flags at.1 nodes n lines stands c.show_lines-shown.new.failure
          (moment (g.W.World.history c.show_lines-shown.new.world) (g.S.Sink.held c.show_lines-shown.new.out)
          c.show_lines-shown.new.events.items) c.count_as_new.ensures at.0 at.2 goes),
      (λ halt ended. ended),
    )) c.show_lines-shown.ensures.goes

pub returns-in-Make-clause-carried : goal.returns-in-Make-clause-carried
returns-in-Make-clause-carried g c =
    let plan = c.args.course.now.plan in
    let n = c.args.node in
    let new = c.count_as_new.new.self in
    record {
      nodes = refl;
      rules = rules-new plan new c.args.made.now c.args.flags.now n c.count_as_new.ensures;
      length = same-length plan new n c.count_as_new.ensures;
      come = c.show_lines-shown.ensures.stands;
    }
