-- What is judged by the same files is judged the same.
use Rattle.std.specs.Prelude.{◌≡◌, ℕ, List, Option}
use Rattle.std.specs.List.{AllByRecursion}
use Rattle.mk_decision.specs.Decisions.{IsJudged, Work}
use Rattle.mk_explain.specs.Turns.{IsAnswered, IsExplained}
use Rattle.mk_explain.specs.declared.reason.Reason.{Reason}
use Rattle.mk_oodate.specs.declared.reason.Why.{Why}
use Rattle.mk_world.specs.History.{FileMap}
use Rattle.mk_world.specs.Looks.{Seen}
use Rattle.mk_world.specs.declared.command.Task.{Task}

-- these looks are answered by these files
abbrev pub AreAnswered : FileMap → List Seen → Type 0
AreAnswered files seen = AllByRecursion (IsAnswered files) seen

-- Two judgements of a node by looks at the same files have the same task and the same reason.
abbrev pub JudgementsAreByFiles : Type 0
JudgementsAreByFiles =
    (work : Work) (node : ℕ) (files : FileMap) (one other : List Seen) (task again : Task) (why reason : Option Why)
    → AreAnswered files one → AreAnswered files other → IsJudged work node one task why
    → IsJudged work node other again reason → (again ≡ task) × (reason ≡ why)

-- Two explanations of a plan by looks at the same files tell the same reasons of the same nodes.
abbrev pub ExplanationsAreByFiles : Type 0
ExplanationsAreByFiles =
    (work : Work) (files : FileMap) (reasons again : List Reason)
    → IsExplained (AreAnswered files) work reasons → IsExplained (AreAnswered files) work again
    → again ≡ reasons
