-- How a node is judged, by looks, and what is decided of it.
use Rattle.std.proofs.Common.{◌≡◌, ◌≢◌, ◌⊎◌, ℕ, ◌<◌, List, [], ◌++◌, map, length, Option, Some, None}
use Rattle.std.proofs.Common.{inl, inr, Result, Ok, Err, IfOk, IfErr, append_assoc, sym, refl, ap, ◌∙◌}
use Rattle.std.proofs.lemmas.List.{append-nil}
use Rattle.mk_values.specs.Facts.{AnsweredBy, Answers}
use Rattle.mk_values.specs.declared.facts.Asked.{Asked}
use Rattle.mk_values.specs.declared.fault.ExpandFault.TheVariants as expand
use Rattle.mk_oodate.specs.declared.reason.Why.{Why}
use Rattle.mk_plan.specs.Asking.{as_asked}
use Rattle.mk_plan.specs.Plans.{node_at}
use Rattle.mk_plan.specs.Refusals.{IsFree, IsOwn, IsTaskFault, RefusedBehind}
use Rattle.mk_plan.specs.declared.fault.TaskFault.{TaskFault}
use Rattle.mk_plan.proofs.TaskLemmas.{task_of-length, task_of-with}
use Rattle.mk_world.specs.Looks.{Dated, Seen, dated}
use Rattle.mk_world.specs.Talks.{Meaning}
use Rattle.mk_world.specs.declared.command.Task.{Task}
use Rattle.mk_world.specs.declared.fault.WorldFault.{WorldFault}
use Rattle.mk_world.specs.declared.fault.WorldFault.TheVariants as world
use Rattle.mk_world.specs.declared.history.History.{History}
use Rattle.mk_world.specs.declared.time.When.{When}
use Rattle.mk_decision.specs.Ages.{IsWalk, source_ages}
use Rattle.mk_decision.specs.Decisions.{Work, Sight, HasTask, IsDecision, IsJudged, asked_questions, asked_task, decided, mode_at, newer_of, setting_by}
use Rattle.mk_decision.specs.Judgements.{IsFound, IsJudgement, decision_by, found_by}
use Rattle.mk_decision.specs.declared.decision.Decision.{Decision}
use Rattle.mk_decision.specs.Looks.{LooksAt}
use Rattle.mk_decision.specs.Metas.{MetaSight, meta_looks}
use Rattle.mk_decision.specs.Newest.{decision_whens, judged_whens, judgement_whens, later_whens, meta_whens, node_whens, raised_all, times_whens}
use Rattle.mk_decision.specs.Reasons.{IsMetaSight, times_by}
use Rattle.mk_meta.specs.TrueHistory.{meta_path}
use Rattle.mk_decision.proofs.LookLemmas.{looks-then}
use Rattle.mk_decision.proofs.NewestLemmas.{raised-behind, raised-meta}
use Rattle.mk_decision.specs.Sights.{seen_of}
use Rattle.mk_decision.specs.declared.judgement.Judgement.{Judgement}
use Rattle.mk_decision.specs.declared.judgement.Judgement.TheVariants.{Nothing, Refused, Judged}
use Rattle.mk_decision.specs.declared.sight.Sighting.{Sighting}

-- the looks at a node's target and sources, by their times, and those for `exists`
abbrev pub sight-of : (work : Work) (n : ℕ) (target : When) (sources : List Sighting)
    (asked : List Dated) → IsWalk work.plan n target sources
    → Sight work n (seen_of work.plan n target sources ++ map dated asked)
sight-of work n target sources asked walk =
    record { target = target; sources = sources; asked = asked; are = refl; walk = walk }

-- how a node is judged by looks at its target and sources and by more, and the newest time of these
abbrev pub IsJudgedOn : Meaning → Work → Option History → Option History → ℕ → When → List Sighting
    → Judgement → Type 0
IsJudgedOn meaning work a b n target sources judgement =
    (more : List Seen) × LooksAt meaning a b more
    × (is : IsJudgement work n (seen_of work.plan n target sources ++ more) judgement)
    × ((k : ℕ) → raised_all k
    (judgement_whens work n (seen_of work.plan n target sources ++ more) judgement is)
    ≡ raised_all k (node_whens target sources ++ later_whens judgement))

abbrev pub IsJudgedBy : Meaning → Work → Option History → Option History → ℕ → When
    → List Sighting → Result Judgement WorldFault → Type 0
IsJudgedBy meaning work a b n target sources result =
    IfOk result (λ judgement. IsJudgedOn meaning work a b n target sources judgement)

-- what was asked behind a fault
pub asked-behind : {X : Type 0} → (asked : List Asked) (result : Result X TaskFault)
    (questions : Answers → List Asked) (answers : Answers) → AnsweredBy answers asked
    → RefusedBehind asked result questions
    → IfErr result (λ fault. IsFree fault ⊎ (questions answers ≡ asked))
asked-behind asked (Ok made) questions answers answered behind = tt
asked-behind asked (Err fault) questions answers answered behind = behind answers answered

-- the judgement of a node whose task has a fault
pub judged-fault : (meaning : Meaning) (work : Work) (a b : Option History) (n : ℕ)
    (fault : TaskFault) (result : Result Judgement WorldFault) (target : When) (sources : List Sighting)
    (asked : List Dated) → IsWalk work.plan n target sources → LooksAt meaning a b (map dated asked)
    → IsTaskFault fault (asked_task work n (newer_of work n target sources) asked)
    → IsFree fault ⊎ (asked_questions work n (newer_of work n target sources) asked ≡ map as_asked asked)
    → ((result ≡ Err world.NoMemory) × (fault.what ≢ expand.Failed))
    ⊎ (((result ≡ Err world.Failed) × (fault.what ≡ expand.Failed))
    ⊎ ((result ≡ Ok (Refused fault.line fault.what)) × IsOwn fault))
    → IsJudgedBy meaning work a b n target sources result
judged-fault meaning work a b n fault result target sources asked walk looked is all (inl none) =
    rw none.0 tt
judged-fault meaning work a b n fault result target sources asked walk looked is all (inr (inl failed)) =
    rw failed.0 tt
judged-fault meaning work a b n fault result target sources asked walk looked (inl free) all
    (inr (inr told)) = absurd (told.1 free)
judged-fault meaning work a b n fault result target sources asked walk looked (inr is) (inl free)
    (inr (inr told)) = absurd (told.1 free)
judged-fault meaning work a b n fault result target sources asked walk looked (inr is) (inr all)
    (inr (inr told)) =
    rw told.0 (
      map dated asked,
      looked,
      (sight-of work n target sources asked walk, (is, all)),
      λ k. ap (raised_all k) (sym (append-nil (node_whens target sources))),
    )

-- where no task was found, nothing more was told
pub fault-newest : (fault : TaskFault) (result : Result Judgement WorldFault) (newest : ℕ)
    → ((result ≡ Err world.NoMemory) × (fault.what ≢ expand.Failed))
    ⊎ (((result ≡ Err world.Failed) × (fault.what ≡ expand.Failed))
    ⊎ ((result ≡ Ok (Refused fault.line fault.what)) × IsOwn fault))
    → IfOk result (λ judgement. newest ≡ raised_all newest (later_whens judgement))
fault-newest fault result newest (inl none) = rw none.0 tt
fault-newest fault result newest (inr (inl failed)) = rw failed.0 tt
fault-newest fault result newest (inr (inr told)) = rw told.0 refl

-- the judgement of a node that has a task
pub judged-task : (meaning : Meaning) (work : Work) (a b c : Option History) (n : ℕ) (task : Task)
    (judgement : Judgement) (target : When) (sources : List Sighting)
    (asked : List Dated) (meta : Option MetaSight) → IsWalk work.plan n target sources
    → LooksAt meaning a b (map dated asked) → 0 < length (node_at work.plan n).commands
    → HasTask work n target sources asked task
    → IsMetaSight work.mode.ignore_paths (mode_at work n) task target (source_ages work.plan n sources)
    meta → LooksAt meaning b c (meta_looks (meta_path (node_at work.plan n).name) meta)
    → judgement ≡ Judged task (found_by (mode_at work n) task target (source_ages work.plan n sources) meta)
    → IsJudgedOn meaning work a c n target sources judgement
judged-task meaning work a b c n task judgement target sources asked meta walk looked some has opened
    seen is =
    rw is (
      map dated asked ++ last,
      looks-then meaning a b c (map dated asked) last looked seen,
      record { commands = some; judged = judged; times = refl; value = refl },
      λ k. raised-behind k (node_whens target sources) (meta_whens meta)
          (times_whens (times_by target (source_ages work.plan n sources) meta))
          (λ j. raised-meta j target (source_ages work.plan n sources) meta),
    )
  where
    last : List Seen
    last = meta_looks (meta_path (node_at work.plan n).name) meta

    judged : IsJudged work n (seen_of work.plan n target sources ++ (map dated asked ++ last)) task
        (found_by (mode_at work n) task target (source_ages work.plan n sources) meta).why
    judged = record {
      first = seen_of work.plan n target sources ++ map dated asked;
      sight = sight-of work n target sources asked walk;
      meta = meta;
      are = sym (append_assoc (seen_of work.plan n target sources) (map dated asked) last);
      has = has;
      opened = opened;
      reason = refl;
    }

-- a decision by looks, for which these times were told
abbrev pub IsDecidedBy : Work → ℕ → List Seen → Decision → List When → Type 0
IsDecidedBy work n seen decision whens =
    (is : IsDecision work n seen decision) × (decision_whens work n seen decision is ≡ whens)

-- the decision of a node that was judged and has a task
task-decided : (work : Work) (n : ℕ) (seen : List Seen) (task : Task) (why : Option Why)
    → 0 < length (node_at work.plan n).commands → (judged : IsJudged work n seen task why)
    → IsDecidedBy work n seen (decided task why) (judged_whens judged)
task-decided work n seen task None some judged = ((task.lines, inr (some, task, judged, refl)), refl)
task-decided work n seen task (Some why) some judged =
    let sight = judged.sight in
    let newer = newer_of work n sight.target sight.sources in (
      (
        (task, why, judged, refl),
        rw (task_of-length (setting_by work sight.asked) work.suffixes work.plan n newer work.mode
            work.flags [] (map as_asked sight.asked) task judged.has) some,
        task_of-with (setting_by work sight.asked) work.suffixes work.plan n newer work.mode work.flags []
            (map as_asked sight.asked) task judged.has,
        judged,
      ),
      refl,
    )

-- what is decided of a node that was judged
pub judged-decided : (work : Work) (n : ℕ) (seen : List Seen) (judgement : Judgement)
    → (is : IsJudgement work n seen judgement)
    → IsDecidedBy work n seen (decision_by judgement) (judgement_whens work n seen judgement is)
judged-decided work n seen Nothing is = (([], inl is), refl)
judged-decided work n seen (Refused number what) is = (is, refl)
judged-decided work n seen (Judged task found) is =
    task-decided work n seen task found.why is.commands is.judged
