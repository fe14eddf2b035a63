-- The newest known time that was told. Looks for `exists` do not count for it.
use Rattle.std.specs.Prelude.{ℕ, ◌≤◌, nat_lt, List, [], ◌∷◌, ◌++◌, map, Option, Some, None}
use Rattle.std.specs.Prelude.{if◌then◌else◌}
use Rattle.std.proofs.Common.{inl, inr}
use Rattle.mk_oodate.specs.declared.reason.Times.{Times}
use Rattle.mk_oodate.specs.declared.reason.Why.{Why}
use Rattle.mk_world.specs.Looks.{Seen}
use Rattle.mk_world.specs.declared.command.Task.{Task}
use Rattle.mk_world.specs.declared.command.TaskLine.{TaskLine}
use Rattle.mk_world.specs.declared.time.When.{When}
use Rattle.mk_world.specs.declared.time.When.TheVariants.{Missing, At, Unknown}
use Rattle.mk_decision.specs.Decisions.{Work, IsBegun, IsDecision, IsJudged, Sight}
use Rattle.mk_decision.specs.Judgements.{IsJudgement}
use Rattle.mk_decision.specs.Metas.{MetaSight, times_in}
use Rattle.mk_decision.specs.declared.decision.Decision.{Decision}
use Rattle.mk_decision.specs.declared.decision.Decision.TheVariants as decision
use Rattle.mk_decision.specs.declared.judgement.Judgement.{Judgement}
use Rattle.mk_decision.specs.declared.judgement.Judgement.TheVariants.{Nothing, Refused, Judged}
use Rattle.mk_decision.specs.declared.sight.Sighting.{Sighting}

-- a time is raised to one that was told, where this is known and newer
abbrev pub raised : ℕ → When → ℕ
raised newest Missing = newest
raised newest Unknown = newest
raised newest (At time) = if nat_lt newest time.0 then time.0 else newest

abbrev pub raised_all : ℕ → List When → ℕ
raised_all newest [] = newest
raised_all newest (when ∷ whens) = raised_all (raised newest when) whens

-- what was told of a node's file, and of the nodes that count for it
abbrev pub node_whens : When → List Sighting → List When
node_whens target sources = target ∷ map (λ (one : Sighting). one.when) sources

-- of its meta file and of the paths that its records name, where these were looked at
abbrev pub meta_whens : Option MetaSight → List When
meta_whens None = []
meta_whens (Some sight) = sight.when
    ∷ (times_in sight.paths.reads ++ (times_in sight.paths.misses ++ times_in sight.paths.left))

-- the same by the times that the test went by
abbrev pub times_whens : Times → List When
times_whens times = times.meta ∷ (times.reads ++ (times.misses ++ times.left))

abbrev pub sight_whens : {work : Work} {node : ℕ} {seen : List Seen} → Sight work node seen
    → List When
sight_whens sight = node_whens sight.target sight.sources

-- all that was told for a judgement of a node that has a task
abbrev pub judged_whens : {work : Work} {node : ℕ} {seen : List Seen} {task : Task} {why : Option Why}
    → IsJudged work node seen task why → List When
judged_whens judged = sight_whens judged.sight ++ meta_whens judged.meta

-- all that was told for the decision to start a node's lines
abbrev pub begun_whens : {work : Work} {node : ℕ} {seen : List Seen} {lines : List TaskLine}
    → IsBegun work node seen lines → List When
begun_whens begun = judged_whens begun.2

-- all that was told for a judgement
abbrev pub judgement_whens : (work : Work) (node : ℕ) (seen : List Seen) (judgement : Judgement)
    → IsJudgement work node seen judgement → List When
judgement_whens work node seen Nothing is = []
judgement_whens work node seen (Refused number what) is = sight_whens is.0
judgement_whens work node seen (Judged task found) is = judged_whens is.judged

-- what was told behind the looks at a node's file and at the nodes that count for it
abbrev pub later_whens : Judgement → List When
later_whens Nothing = []
later_whens (Refused number what) = []
later_whens (Judged task found) = times_whens found.times

-- all that was told for a decision
abbrev pub decision_whens : (work : Work) (node : ℕ) (seen : List Seen) (decided : Decision)
    → IsDecision work node seen decided → List When
decision_whens work node seen decision.Keep (lines, inl none) = []
decision_whens work node seen decision.Keep (lines, inr kept) = judged_whens kept.2
decision_whens work node seen (decision.Refuse number what) is = sight_whens is.0
decision_whens work node seen (decision.Make task why) is = begun_whens is.0

-- a decision, and a time that is not before any known one that was told for it
abbrev pub IsDecidedUpTo : Work → ℕ → List Seen → Decision → ℕ → Type 0
IsDecidedUpTo work node seen decided newest =
    (is : IsDecision work node seen decided)
    × (raised_all 0 (decision_whens work node seen decided is) ≤ newest)
