-- How a node is judged, and what the test went by.
use Rattle.std.specs.Prelude.{◌≡◌, ℕ, ◌<◌, List, [], Option, Some, None, length}
use Rattle.mk_oodate.specs.declared.reason.Age.{Age}
use Rattle.mk_oodate.specs.declared.reason.NodeMode.{NodeMode}
use Rattle.mk_plan.specs.Plans.{node_at}
use Rattle.mk_world.specs.Looks.{Seen}
use Rattle.mk_world.specs.declared.command.Task.{Task}
use Rattle.mk_world.specs.declared.time.When.{When}
use Rattle.mk_decision.specs.Ages.{source_ages}
use Rattle.mk_decision.specs.Decisions.{Work, IsJudged, IsRefused, decided}
use Rattle.mk_decision.specs.Metas.{MetaSight}
use Rattle.mk_decision.specs.Reasons.{reason, times_by, value_in}
use Rattle.mk_decision.specs.declared.decision.Decision.{Decision}
use Rattle.mk_decision.specs.declared.decision.Decision.TheVariants as decision
use Rattle.mk_decision.specs.declared.judgement.Judgement.{Judgement}
use Rattle.mk_decision.specs.declared.judgement.Judgement.TheVariants.{Nothing, Refused, Judged}
use Rattle.mk_decision.specs.declared.reason.Found.{Found}

-- what is found of a node by its task, the time of its file, the ages of its sources, and what was
-- seen in meta mode
abbrev pub found_by : NodeMode → Task → When → List Age → Option MetaSight → Found
found_by mode task target ages meta = record {
  why = reason mode task target ages meta;
  times = times_by target ages meta;
  value = value_in meta;
}

-- A node with commands was judged by these looks: it has this task, and is out of date for the
-- reason that was found, or is not. The times and the value of the meta file are those that were
-- seen.
pub record IsFound (work : Work) (node : ℕ) (seen : List Seen) (task : Task) (found : Found)
    : Type 0
  where
    pub commands : 0 < length (node_at work.plan node).commands
    pub judged : IsJudged work node seen task found.why
    pub times : found.times ≡ times_by judged.sight.target
        (source_ages work.plan node judged.sight.sources) judged.meta
    pub value : found.value ≡ value_in judged.meta

-- how a node is judged: without commands nothing is looked at
abbrev pub IsJudgement : Work → ℕ → List Seen → Judgement → Type 0
IsJudgement work node seen Nothing = ((node_at work.plan node).commands ≡ []) × (seen ≡ [])
IsJudgement work node seen (Refused number what) = IsRefused work node seen number what
IsJudgement work node seen (Judged task found) = IsFound work node seen task found

-- what is decided of a node that is so judged
abbrev pub decision_by : Judgement → Decision
decision_by Nothing = decision.Keep
decision_by (Refused number what) = decision.Refuse number what
decision_by (Judged task found) = decided task found.why
