use Rattle.std.proofs.Common.{rules, ◌∙◌, ◌++◌, map, ap, sym, subst}
use Rattle.mk_values.specs.Facts.{AnsweredBy}
use Rattle.mk_plan.specs.Asking.{answers_by, as_asked}
use Rattle.mk_plan.proofs.AskingLemmas.{answered-all}
use Rattle.mk_world.specs.Looks.{answered}
use Rattle.mk_decision.proofs.DecisionLemmas.{asked-behind}
use Rattle.mk_values.specs.declared.facts.Asked.{Asked}
use Rattle.mk_decision.proofs.PieceLemmas.{if_ok}
use Rattle.mk_audit.proofs.AskedLemmas.{paths-asked}
use Rattle.mk_audit.proofs.commands.names_in.Goals as goal

pub returns-clause-names : goal.returns-clause-names
returns-clause-names g c =
    let beside = c.task_names-names.ensures.facts.led.2 in
    let looked = answered beside.questions in
    let none = c.new-facts.ensures.asked ∙ c.new-asked.ensures.items in
    let are = beside.added ∙ ap (λ l. l ++ map as_asked looked) none in
    let all = subst (AnsweredBy (answers_by looked)) (sym are) (answered-all looked) in
    let means = c.task_names-names.ensures.names (answers_by looked) all in
    let behind = asked-behind _ c.task_names-names.result _ (answers_by looked) all
    c.task_names-names.ensures.questions in
    record {
      questions = beside.questions;
      told = let told = beside.told in search rules;
      paths = if_ok c.paths_of-asked.result (λ paths is.
          is ∙ (ap (map (λ (one : Asked). one.path)) (c.asked.ensures ∙ are) ∙ paths-asked looked))
          c.paths_of-asked.ensures;
      names = rw (are, none, c.new-facts.ensures.made, c.new-facts.ensures.requested) at means;
      faulty = rw (are, none, c.new-facts.ensures.made, c.new-facts.ensures.requested) at behind;
    }
