use Rattle.std.proofs.Common.{ℕ, List, subst}
use Rattle.mk_bytes.specs.Agrees.{AgreesBut}
use Rattle.mk_plan.proofs.NamedLemmas.{task-where}
use Rattle.mk_plan.specs.Plans.{node_at}
use Rattle.mk_plan.specs.Refusals.{IsFree}
use Rattle.mk_plan.specs.Tasks.{manner_of, setting_of}
use Rattle.mk_plan.proofs.lookups.task_names.Goals as goal

pub returns-clause-names : goal.returns-clause-names
returns-clause-names g c = λ answers by.
    let setting = setting_of c.args.made.now.scopes (g.F.Facts.lists c.args.facts.now) answers in
    let told = rw (c.in_ok-locals.ensures, c.commands.ensures)
    at (c.lines_names.ensures.names answers by) in
    subst (AgreesBut IsFree (λ (names : List (List ℕ)). (names, g.F.Facts.asked c.lines_names.new.facts))
    c.lines_names.result)
    (task-where setting c.args.made.now.suffixes c.args.plan.now c.args.n c.args.oodate.now
    c.args.made.now.mode c.args._flags.now (g.F.Facts.asked c.args.facts.now))
    told

pub returns-clause-questions : goal.returns-clause-questions
returns-clause-questions g c =
    let manner = manner_of c.args.made.now.mode c.args._flags.now
    (node_at c.args.plan.now c.args.n).marks in
    rw (c.in_ok-locals.ensures, c.commands.ensures) at (c.lines_names.ensures.questions manner)
