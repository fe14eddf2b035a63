-- Explanations by looks at the same files are the same.
use Rattle.std.proofs.Common.{◌≡◌, ◌∙◌, ℕ, ◌+◌, List, [], ◌∷◌, ◌++◌, length, Option, Some, None}
use Rattle.std.proofs.Common.{inl, inr, refl, sym, ap, subst, arith}
use Rattle.mk_decision.specs.Ages.{source_ages}
use Rattle.mk_decision.specs.Decisions.{Work}
use Rattle.mk_decision.specs.Reasons.{times_by, value_in}
use Rattle.mk_explain.specs.Lines.{line_of, names_of}
use Rattle.mk_explain.specs.Turns.{AreTurns, IsAnswered, IsQuiet, IsTold, IsTurn, Turn, behind, looks_of, quiet, reasons_of, tells}
use Rattle.mk_explain.specs.declared.reason.Reason.{Reason}
use Rattle.mk_oodate.specs.declared.reason.Why.{Why}
use Rattle.mk_plan.specs.Plans.{node_at}
use Rattle.mk_world.specs.History.{FileMap}
use Rattle.mk_world.specs.Looks.{Seen}
use Rattle.mk_same.proofs.JudgedLemmas.{all-parts, judged-same}
use Rattle.mk_same.specs.Judged.{AreAnswered, ExplanationsAreByFiles, JudgementsAreByFiles}

pub judgements_are_by_files : JudgementsAreByFiles
judgements_are_by_files work node files one other task again why reason answered fits judged also =
    let same = judged-same files work node one other task again why reason answered fits judged also in
    (same.task_is, same.why_is)

abbrev pub seen_in : Turn → List Seen
seen_in (quiet seen) = seen
seen_in (tells seen reason) = seen

abbrev pub reasons_in : Turn → List Reason
reasons_in (quiet seen) = []
reasons_in (tells seen reason) = reason ∷ []

abbrev reason_of : ℕ → Why → List ℕ → Reason
reason_of node why line = record { node = node; why = why; line = line }

some-why : (one other : Why) → ◌≡◌ {A = Option Why} (Some one) (Some other) → one ≡ other
some-why one other is = cc

-- of a node that is told, nothing is told, too: not by the same files
quiet-tells : (work : Work) (node : ℕ) (files : FileMap) (one other : List Seen) (reason : Reason)
    → AreAnswered files one → AreAnswered files other → IsQuiet work node one → IsTold work node other reason → ⊥
quiet-tells work node files one other reason answered fits (inl none) told =
    let some = told.commands in
    let empty : length (node_at work.plan node).commands ≡ 0 = ap length none.0 in omega (arith, some, empty)
quiet-tells work node files one other reason answered fits (inr (some, task, judged)) told =
    let same = judged-same files work node one other task told.task None (Some reason.why) answered fits judged
    told.judged in
    let wrong = same.why_is in cc

told-same : (work : Work) (node : ℕ) (files : FileMap) (one other : List Seen) (reason again : Reason)
    → AreAnswered files one → AreAnswered files other → IsTold work node one reason → IsTold work node other again
    → again ≡ reason
told-same work node files one other reason again answered fits told also =
    let same = judged-same files work node one other told.task also.task (Some reason.why) (Some again.why) answered
    fits told.judged also.judged in
    let why = some-why again.why reason.why same.why_is in
    let first_ages = source_ages work.plan node told.judged.sight.sources in
    let later_ages = source_ages work.plan node also.judged.sight.sources in
    let line : again.line ≡ reason.line =
    also.line
    ∙ ap (λ t. line_of (names_of work node) t (value_in also.judged.meta)
    (times_by also.judged.sight.target later_ages also.judged.meta) again.why) same.task_is
    ∙ ap (λ m. line_of (names_of work node) told.task (value_in m)
    (times_by also.judged.sight.target later_ages m) again.why) same.meta
    ∙ ap (λ w. line_of (names_of work node) told.task (value_in told.judged.meta)
    (times_by w later_ages told.judged.meta) again.why) same.target
    ∙ ap (λ a. line_of (names_of work node) told.task (value_in told.judged.meta)
    (times_by told.judged.sight.target a told.judged.meta) again.why) same.ages
    ∙ ap (λ w. line_of (names_of work node) told.task (value_in told.judged.meta)
    (times_by told.judged.sight.target first_ages told.judged.meta) w) why
    ∙ sym told.line in
    ap (λ n. reason_of n again.why again.line) (also.place ∙ sym told.place)
    ∙ ap (λ w. reason_of reason.node w again.line) why
    ∙ ap (λ l. reason_of reason.node reason.why l) line

-- one turn

record SameTurn (work : Work) (node : ℕ) (one other : Turn) : Type 0 where
  reasons : reasons_in other ≡ reasons_in one
  work_is : behind work node other ≡ behind work node one

turn-same : (work : Work) (node : ℕ) (files : FileMap) (one other : Turn) → AreAnswered files (seen_in one)
    → AreAnswered files (seen_in other) → IsTurn work node one → IsTurn work node other
    → SameTurn work node one other
turn-same work node files (quiet one) (quiet other) answered fits is also =
    record { reasons = refl; work_is = refl }
turn-same work node files (quiet one) (tells other again) answered fits is also =
    absurd (quiet-tells work node files one other again answered fits is also)
turn-same work node files (tells one reason) (quiet other) answered fits is also =
    absurd (quiet-tells work node files other one reason fits answered also is)
turn-same work node files (tells one reason) (tells other again) answered fits is also = record {
  reasons = ap (λ it. it ∷ []) (told-same work node files one other reason again answered fits is also);
  work_is = refl;
}

pub looks-first : (files : FileMap) (one : Turn) (turns : List Turn) → AreAnswered files (looks_of (one ∷ turns))
    → AreAnswered files (seen_in one) × AreAnswered files (looks_of turns)
looks-first files (quiet seen) turns answered = all-parts (IsAnswered files) seen (looks_of turns) answered
looks-first files (tells seen reason) turns answered = all-parts (IsAnswered files) seen (looks_of turns) answered

pub reasons-first : (one : Turn) (turns : List Turn) → reasons_of (one ∷ turns) ≡ reasons_in one ++ reasons_of turns
reasons-first (quiet seen) turns = refl
reasons-first (tells seen reason) turns = refl

turns-same : (work : Work) (node : ℕ) (files : FileMap) (one other : List Turn) → length other ≡ length one
    → AreAnswered files (looks_of one) → AreAnswered files (looks_of other) → AreTurns work node one
    → AreTurns work node other → reasons_of other ≡ reasons_of one
turns-same work node files [] [] long answered fits is also = refl
turns-same work node files [] (other ∷ others) long answered fits is also = absurd (omega (arith, long))
turns-same work node files (one ∷ ones) [] long answered fits is also = absurd (omega (arith, long))
turns-same work node files (one ∷ ones) (other ∷ others) long answered fits is also =
    let here = looks-first files one ones answered in
    let there = looks-first files other others fits in
    let same = turn-same work node files one other here.0 there.0 is.0 also.0 in
    let shorter : length others ≡ length ones = omega (arith, long) in
    let rest = turns-same (behind work node one) (node + 1) files ones others shorter here.1 there.1 is.1
    (subst (λ w. AreTurns w (node + 1) others) same.work_is also.1) in
    reasons-first other others
    ∙ ap (λ l. l ++ reasons_of others) same.reasons
    ∙ ap (λ l. reasons_in one ++ l) rest
    ∙ sym (reasons-first one ones)

pub explanations_are_by_files : ExplanationsAreByFiles
explanations_are_by_files work files reasons again is also =
    also.told
    ∙ turns-same work 0 files is.turns also.turns (also.all ∙ sym is.all) is.looked also.looked is.are also.are
    ∙ sym is.told
