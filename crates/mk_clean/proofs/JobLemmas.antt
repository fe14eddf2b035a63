-- A job on files is the one talk of its lines that finds them so.
use Rattle.std.proofs.Common.{◌≡◌, ◌∙◌, List, [], ◌∷◌, ◌++◌, Bool, true, false, if◌then◌else◌, refl, sym, ap₂, subst}
use Rattle.std.proofs.lemmas.Bool.{false≢true}
use Rattle.mk_clean.specs.Jobs.{goes_on, job, SameJobs}
use Rattle.mk_meta.specs.TrueHistory.{deeds_of_job}
use Rattle.mk_world.specs.Deeds.{Store, Meets, after_deed, after_deeds}
use Rattle.mk_world.specs.Outer.{nothing_over}
use Rattle.mk_world.specs.Talks.{NextOf, Talks, Doing, Meaning, does}
use Rattle.mk_world.specs.declared.command.Cmd.{Cmd}
use Rattle.mk_world.specs.declared.command.TaskLine.{TaskLine}
use Rattle.mk_world.specs.declared.step.Deed.{Deed}
use Rattle.mk_world.proofs.OuterLemmas.{meets_on_both}
use Rattle.mk_world.proofs.TalkLemmas.{does-is, doings_equal}

-- whole talks of the lines that ran, whatever map they were on
abbrev pub JobTalks : NextOf → (TaskLine → Cmd) → List TaskLine → List Doing → Type 0
JobTalks next command [] [] = Unit {0}
JobTalks next command [] (x ∷ xs) = ⊥
JobTalks next command (line ∷ lines) [] = ⊥
JobTalks next command (line ∷ lines) (x ∷ xs) =
    Talks next (command line) [] x.deeds x.status x.output
    × (goes_on line x ≡ true → JobTalks next command lines xs) × (goes_on line x ≡ false → xs ≡ [])

abbrev pub IsJob : NextOf → (TaskLine → Cmd) → List TaskLine → Store → List Doing → Type 0
IsJob next command lines store xs = JobTalks next command lines xs × Meets store (deeds_of_job xs)

pub meets_first : (store : Store) (xs ys : List Deed) → Meets store (xs ++ ys)
    → Meets store xs × Meets (after_deeds store xs) ys
meets_first store [] ys meets = (tt, meets)
meets_first store (x ∷ xs) ys meets =
    let rest = meets_first (after_deed store x) xs ys meets.1 in ((meets.0, rest.0), rest.1)

pub meets_both : (store : Store) (xs ys : List Deed) → Meets store xs → Meets (after_deeds store xs) ys
    → Meets store (xs ++ ys)
meets_both store [] ys first second = second
meets_both store (x ∷ xs) ys first second =
    (first.0, meets_both (after_deed store x) xs ys first.1 second)

job_turn : (meaning : Meaning) (command : TaskLine → Cmd) (line : TaskLine) (lines : List TaskLine)
    (store : Store) (x : Doing) (xs : List Doing) (b : Bool) → goes_on line x ≡ b
    → Talks meaning.next (command line) [] x.deeds x.status x.output → Meets store x.deeds
    → IsJob meaning.next command lines (after_deeds store x.deeds) xs
    → IsJob meaning.next command (line ∷ lines) store (x ∷ (if b then xs else []))
job_turn meaning command line lines store x xs true is talks meets rest = (
  (talks, (λ goes. rest.0), (λ fails. absurd (false≢true (sym fails ∙ is)))),
  meets_both store x.deeds (deeds_of_job xs) meets rest.1,
)
job_turn meaning command line lines store x xs false is talks meets rest = (
  (talks, (λ goes. absurd (false≢true (sym is ∙ goes))), (λ fails. refl)),
  meets_both store x.deeds [] meets tt,
)

-- the job that is computed is one
pub job_is : (meaning : Meaning) (command : TaskLine → Cmd) (lines : List TaskLine) (store : Store)
    → IsJob meaning.next command lines store (job meaning command lines store)
job_is meaning command [] store = (tt, tt)
job_is meaning command (line ∷ lines) store =
    let x = does meaning (command line) store in
    let is = does-is meaning (command line) store in
    job_turn meaning command line lines store x
    (job meaning command lines (after_deeds store x.deeds)) (goes_on line x) refl is.0 is.1
    (job_is meaning command lines (after_deeds store x.deeds))

same_end : (b : Bool) (xs ys : List Doing) → (b ≡ false → xs ≡ []) → (b ≡ false → ys ≡ [])
    → (b ≡ true → xs ≡ ys) → xs ≡ ys
same_end true xs ys first second both = both refl
same_end false xs ys first second both = first refl ∙ sym (second refl)

-- and there is one alone
pub one_job : (next : NextOf) (command : TaskLine → Cmd) (lines : List TaskLine) (store : Store)
    (xs ys : List Doing) → IsJob next command lines store xs → IsJob next command lines store ys
    → xs ≡ ys
one_job next command [] store [] [] one other = refl
one_job next command [] store [] (y ∷ ys) one other = absurd other.0
one_job next command [] store (x ∷ xs) ys one other = absurd one.0
one_job next command (line ∷ lines) store [] ys one other = absurd one.0
one_job next command (line ∷ lines) store (x ∷ xs) [] one other = absurd other.0
one_job next command (line ∷ lines) store (x ∷ xs) (y ∷ ys) one other =
    let first = meets_first store x.deeds (deeds_of_job xs) one.1 in
    let second = meets_first store y.deeds (deeds_of_job ys) other.1 in
    let same : x ≡ y =
    doings_equal next (command line) [] store x y (one.0.0, first.0) (other.0.0, second.0) in
    ap₂ (λ u v. u ∷ v) same (same_end (goes_on line x) xs ys one.0.2
    (λ fails. other.0.2 (subst (λ z. goes_on line z ≡ false) same fails))
    (λ goes. one_job next command lines (after_deeds store x.deeds) xs ys (one.0.1 goes, first.1) (
      other.0.1 (subst (λ z. goes_on line z ≡ true) same goes),
      subst (λ (z : Doing). Meets (after_deeds store z.deeds) (deeds_of_job ys)) (sym same) second.1,
    )))

-- a talk whose steps are right on a map is the job on that map
pub job_told : (meaning : Meaning) (command : TaskLine → Cmd) (lines : List TaskLine) (store : Store)
    (xs : List Doing) → JobTalks meaning.next command lines xs → Meets store (deeds_of_job xs)
    → job meaning command lines store ≡ xs
job_told meaning command lines store xs talks meets =
    one_job meaning.next command lines store (job meaning command lines store) xs
    (job_is meaning command lines store) (talks, meets)

-- two maps that agree on what a job takes from outside give the same job
pub job_agree : SameJobs
job_agree meaning command lines first second agree =
    let is = job_is meaning command lines first in
    job_told meaning command lines second (job meaning command lines first) is.0
    (meets_on_both nothing_over first second (deeds_of_job (job meaning command lines first)) agree is.1)
