use Rattle.std.proofs.Common.{◌≡◌, ◌∙◌, ◌+◌, [], ◌∷◌, drop, arith, rules, subst, sym}
use Rattle.std.proofs.lemmas.Grind.{common_steps}
use Rattle.mk_values.proofs.FactLemmas.{earlier, Asks-ok, Asks-then}
use Rattle.mk_plan.proofs.TaskLemmas.{lines_from-end, lines_from-line, lines_from-fault}
use Rattle.mk_plan.proofs.TaskLemmas.{questions_from-fault, questions_from-line}
use Rattle.mk_plan.specs.Refusals.{IsTaskFault}
use Rattle.mk_plan.specs.Tasks.{setting_of}
use Rattle.mk_plan.proofs.tasks.lines_of.Goals as goal

pub returns-in-Err-clause-lines : goal.returns-in-Err-clause-lines
returns-in-Err-clause-lines g c =
    let l = c.loop-place in
    let place = l.place in
    let commands = c.args.commands.now in
    let raw = c.bytes.result.now in
    let are : drop place commands ≡ raw ∷ drop (place + 1) commands = grind (arith, common_steps) in
    λ answers by.
    let before = earlier _ _ answers c.in-Err.ensures.facts.asked by in
    let setting = setting_of c.args.scopes.now (g.F.Facts.lists c.args.facts.now) answers in
    let line = rw l.invariant.facts.lists at (c.in-Err.ensures.line answers by) in
    subst (IsTaskFault (record { line = place + 1; what = c.in-Err.what }))
    (sym (l.invariant.same answers before))
    (lines_from-fault setting c.args.locals.now c.args.manner l.lines (place + 1)
    (g.F.Facts.asked l.facts) (drop place commands) raw (drop (place + 1) commands) c.in-Err.what are
    line)

pub returns-in-Err-clause-questions : goal.returns-in-Err-clause-questions
returns-in-Err-clause-questions g c =
    let l = c.loop-place in
    let place = l.place in
    let commands = c.args.commands.now in
    let raw = c.bytes.result.now in
    let are : drop place commands ≡ raw ∷ drop (place + 1) commands = grind (arith, common_steps) in
    λ answers by.
    let before = earlier _ _ answers c.in-Err.ensures.facts.asked by in
    let setting = setting_of c.args.scopes.now (g.F.Facts.lists c.args.facts.now) answers in
    let line = rw l.invariant.facts.lists at (c.in-Err.ensures.line answers by) in
    let told = rw l.invariant.facts.lists at (c.in-Err.ensures.questions answers by) in
    rw (l.invariant.questions answers before)
    (questions_from-fault setting c.args.locals.now c.args.manner (g.F.Facts.asked l.facts)
    (g.F.Facts.asked c.line_of.new.facts) (drop place commands) raw (drop (place + 1) commands)
    c.in-Err.what are line told)

pub loop-place-preserved : goal.loop-place-preserved
loop-place-preserved g c =
    let l = c.loop-place in
    let place = l.place in
    let commands = c.args.commands.now in
    let raw = c.bytes.result.now in
    let are : drop place commands ≡ raw ∷ drop (place + 1) commands = grind (arith, common_steps) in
    record {
      same = λ answers by.
          let before = earlier _ _ answers c.in-Ok.ensures.facts.asked by in
          let setting = setting_of c.args.scopes.now (g.F.Facts.lists c.args.facts.now) answers in
          let line = rw l.invariant.facts.lists at (c.in-Ok.ensures.line answers by) in
          rw c.in_ok-push-in-Ok.ensures.ok (l.invariant.same answers before
          ∙ lines_from-line setting c.args.locals.now c.args.manner l.lines (place + 1)
          (g.F.Facts.asked l.facts) (g.F.Facts.asked c.line_of.new.facts) (drop place commands) raw
          (drop (place + 1) commands) c.in-Ok.line are line);
      questions = λ answers by.
          let before = earlier _ _ answers c.in-Ok.ensures.facts.asked by in
          let setting = setting_of c.args.scopes.now (g.F.Facts.lists c.args.facts.now) answers in
          let line = rw l.invariant.facts.lists at (c.in-Ok.ensures.line answers by) in
          l.invariant.questions answers before
          ∙ questions_from-line setting c.args.locals.now c.args.manner (g.F.Facts.asked l.facts)
          (g.F.Facts.asked c.line_of.new.facts) (drop place commands) raw (drop (place + 1) commands)
          c.in-Ok.line are line;
      facts = Asks-then (g.met.F.Facts.goes_on _ _ _) l.invariant.facts
          (Asks-ok tt c.in-Ok.ensures.facts);
      items = search rules;
    }

pub returns-clause-lines : goal.returns-clause-lines
returns-clause-lines g c =
    let l = c.loop-place in
    let commands = c.args.commands.now in
    let none : drop l.place commands ≡ [] = grind (arith, common_steps) in
    λ answers by.
    l.invariant.same answers by ∙ rw none
    (lines_from-end (setting_of c.args.scopes.now (g.F.Facts.lists c.args.facts.now) answers)
    c.args.locals.now c.args.manner l.lines (l.place + 1) (g.F.Facts.asked l.facts))
