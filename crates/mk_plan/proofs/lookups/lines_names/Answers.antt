use Rattle.std.proofs.Common.{◌≡◌, ◌∙◌, ◌+◌, [], ◌∷◌, drop, arith, rules, subst, sym}
use Rattle.std.proofs.lemmas.Grind.{common_steps}
use Rattle.mk_values.proofs.FactLemmas.{earlier, Asks-ok, Asks-then}
use Rattle.mk_plan.proofs.NamedLemmas.{line_is_made, line_is_refused}
use Rattle.mk_plan.proofs.NamedLemmas.{lines_named-end, lines_named-fault, lines_named-line}
use Rattle.mk_plan.proofs.TaskLemmas.{questions_from-fault, questions_from-line}
use Rattle.mk_plan.specs.Refusals.{IsTaskFault}
use Rattle.mk_plan.specs.Tasks.{setting_of}
use Rattle.mk_plan.proofs.lookups.lines_names.Goals as goal

pub returns-in-Err-clause-names : goal.returns-in-Err-clause-names
returns-in-Err-clause-names g c =
    let l = c.loop-place in
    let place = l.place in
    let commands = c.args.commands.now in
    let raw = c.bytes.result.now in
    let are : drop place commands ≡ raw ∷ drop (place + 1) commands = grind (arith, common_steps) in
    λ answers by.
    let before = earlier _ _ answers c.in-Err.ensures.facts.asked by in
    let setting = setting_of c.args.scopes.now (g.F.Facts.lists c.args.facts.now) answers in
    let line = rw l.invariant.facts.lists at (c.in-Err.ensures.names answers by) in
    subst (IsTaskFault (record { line = place + 1; what = c.in-Err.what }))
    (sym (l.invariant.same answers before))
    (lines_named-fault setting c.args.locals.now l.names (place + 1) (g.F.Facts.asked l.facts)
    (drop place commands) raw (drop (place + 1) commands) c.in-Err.what are line)

pub returns-in-Err-clause-questions : goal.returns-in-Err-clause-questions
returns-in-Err-clause-questions g c =
    let l = c.loop-place in
    let place = l.place in
    let commands = c.args.commands.now in
    let raw = c.bytes.result.now in
    let are : drop place commands ≡ raw ∷ drop (place + 1) commands = grind (arith, common_steps) in
    λ manner answers by.
    let before = earlier _ _ answers c.in-Err.ensures.facts.asked by in
    let setting = setting_of c.args.scopes.now (g.F.Facts.lists c.args.facts.now) answers in
    let named = rw l.invariant.facts.lists at (c.in-Err.ensures.names answers by) in
    let line = line_is_refused setting c.args.locals.now manner l.names (g.F.Facts.asked l.facts) raw
    c.in-Err.what named in
    let told = rw l.invariant.facts.lists at (c.in-Err.ensures.questions answers by) in
    rw (l.invariant.questions manner answers before)
    (questions_from-fault setting c.args.locals.now manner (g.F.Facts.asked l.facts)
    (g.F.Facts.asked c.line_names.new.facts) (drop place commands) raw (drop (place + 1) commands)
    c.in-Err.what are line told)

pub loop-place-preserved : goal.loop-place-preserved
loop-place-preserved g c =
    let l = c.loop-place in
    let place = l.place in
    let commands = c.args.commands.now in
    let raw = c.bytes.result.now in
    let are : drop place commands ≡ raw ∷ drop (place + 1) commands = grind (arith, common_steps) in
    record {
      same = λ answers by.
          let before = earlier _ _ answers c.in-Ok.ensures.facts.asked by in
          let setting = setting_of c.args.scopes.now (g.F.Facts.lists c.args.facts.now) answers in
          let named = rw l.invariant.facts.lists at (c.in-Ok.ensures.names answers by) in
          l.invariant.same answers before
          ∙ lines_named-line setting c.args.locals.now l.names c.in-Ok.more (place + 1)
          (g.F.Facts.asked l.facts) (g.F.Facts.asked c.line_names.new.facts) (drop place commands) raw
          (drop (place + 1) commands) are named;
      questions = λ manner answers by.
          let before = earlier _ _ answers c.in-Ok.ensures.facts.asked by in
          let setting = setting_of c.args.scopes.now (g.F.Facts.lists c.args.facts.now) answers in
          let named = rw l.invariant.facts.lists at (c.in-Ok.ensures.names answers by) in
          let line = line_is_made setting c.args.locals.now manner l.names c.in-Ok.more
          (g.F.Facts.asked l.facts) (g.F.Facts.asked c.line_names.new.facts) raw named in
          l.invariant.questions manner answers before
          ∙ questions_from-line setting c.args.locals.now manner (g.F.Facts.asked l.facts)
          (g.F.Facts.asked c.line_names.new.facts) (drop place commands) raw (drop (place + 1) commands)
          line.0 are line.1;
      facts = Asks-then (g.met.F.Facts.goes_on _ _ _) l.invariant.facts
          (Asks-ok tt c.in-Ok.ensures.facts);
      items = search rules;
    }

pub returns-clause-names : goal.returns-clause-names
returns-clause-names g c =
    let l = c.loop-place in
    let commands = c.args.commands.now in
    let none : drop l.place commands ≡ [] = grind (arith, common_steps) in
    λ answers by.
    l.invariant.same answers by ∙ rw none
    (lines_named-end (setting_of c.args.scopes.now (g.F.Facts.lists c.args.facts.now) answers)
    c.args.locals.now l.names (l.place + 1) (g.F.Facts.asked l.facts))
