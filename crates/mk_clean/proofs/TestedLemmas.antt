-- A node for which the test gives no reason may be kept.
use Rattle.std.proofs.Common.{◌≡◌, ◌∙◌, ℕ, List, [], ◌∷◌, not, Bool, true, false, if◌then◌else◌, Option, Some, refl, sym, ap, ap₂, subst}
use Rattle.std.specs.List.{AllByRecursion, AllZip}
use Rattle.mk_clean.proofs.KeptLemmas.{kept_stands, went_on}
use Rattle.mk_clean.specs.Clean.{AllWell, Plan, doings_on}
use Rattle.mk_clean.specs.Jobs.{goes_on, job}
use Rattle.mk_clean.specs.Kept.{seen_at}
use Rattle.mk_clean.specs.Tested.{NoReasonMayKeep, HasTask}
use Rattle.mk_clean.specs.Turns.{Build, MayKeep, seen_by, doings_seen}
use Rattle.mk_meta.specs.Jobs.{command_in, is_empty, working}
use Rattle.mk_meta.specs.TrueHistory.{IsTrue, WentWell, deeds_of_job}
use Rattle.mk_meta.specs.declared.meta.Meta.{Meta}
use Rattle.mk_oodate.proofs.FreshLemmas.{no_reason_is_fresh, fresh_at_paths}
use Rattle.mk_oodate.specs.Fresh.{AreTheSame, IsBefore, IsFresh, IsOlderThan}
use Rattle.mk_oodate.specs.declared.reason.Times.{Times}
use Rattle.mk_world.specs.Deeds.{Store, after_deeds}
use Rattle.mk_world.specs.History.{contents}
use Rattle.mk_world.specs.Outer.{nothing_over, over_deeds}
use Rattle.mk_world.specs.Talks.{NextOf, Meaning, Doing, does}
use Rattle.mk_world.specs.declared.command.Cmd.{Cmd}
use Rattle.mk_world.specs.declared.command.Task.{Task}
use Rattle.mk_world.specs.declared.command.TaskLine.{TaskLine}
use Rattle.mk_world.specs.declared.history.File.{File}
use Rattle.mk_world.specs.declared.history.Happening.{Happening}
use Rattle.mk_world.specs.declared.time.Time.{Time}
use Rattle.mk_world.specs.declared.time.When.{When}
use Rattle.mk_world.specs.declared.time.When.TheVariants as when

pub before_older : (time : When) (stamp : Time) → IsBefore time (when.At stamp) → IsOlderThan stamp time
before_older (when.At one) stamp before = before
before_older when.Missing stamp before = absurd before
before_older when.Unknown stamp before = absurd before

-- lines that run alike

pub record RunsAlike (line other : TaskLine) : Type 0 where
  pub text : line.text ≡ other.text
  pub ignore : line.ignore ≡ other.ignore

abbrev with_line : Bool → TaskLine → List TaskLine → List TaskLine
with_line does_work line lines = if does_work then line ∷ lines else lines

with_alike : (does_work : Bool) (line other : TaskLine) (lines others : List TaskLine)
    → RunsAlike line other → AllZip RunsAlike lines others
    → AllZip RunsAlike (with_line does_work line lines) (with_line does_work other others)
with_alike true line other lines others alike rest = (alike, rest)
with_alike false line other lines others alike rest = rest

working_alike : (lines others : List TaskLine) → AllByRecursion (λ line. line.compared ≡ true) lines
    → AreTheSame lines others → AllZip RunsAlike (working lines) (working others)
working_alike [] [] compared same = tt
working_alike [] (other ∷ others) compared same = absurd same
working_alike (line ∷ lines) [] compared same = absurd same
working_alike (line ∷ lines) (other ∷ others) compared same =
    let both = same.0 compared.0 in
    subst (λ works. AllZip RunsAlike (working (line ∷ lines)) (with_line works other (working others)))
    (ap (λ text. not (is_empty text)) both.0)
    (with_alike (not (is_empty line.text)) line other (working lines) (working others)
    (record { text = both.0; ignore = both.1 }) (working_alike lines others compared.1 same.1))

goes_alike : (line other : TaskLine) (doing : Doing) → RunsAlike line other
    → goes_on line doing ≡ goes_on other doing
goes_alike line other doing alike = ap (λ ignore. goes_on (record other { ignore = ignore }) doing) alike.ignore

well_alike : (lines others : List TaskLine) (doings : List Doing) → AllZip RunsAlike lines others
    → AllWell others doings → AllWell lines doings
well_alike [] others doings alike well = tt
well_alike (line ∷ lines) [] doings alike well = absurd alike
well_alike (line ∷ lines) (other ∷ others) [] alike well = well
well_alike (line ∷ lines) (other ∷ others) (doing ∷ doings) alike well =
    (goes_alike line other doing alike.0 ∙ well.0, well_alike lines others doings alike.1 well.1)

-- the job of lines that run alike is one
job_alike : (meaning : Meaning) (first second : TaskLine → Cmd) (lines others : List TaskLine)
    (store : Store)
    → ((line other : TaskLine) → RunsAlike line other → first line ≡ second other)
    → AllZip RunsAlike lines others → job meaning first lines store ≡ job meaning second others store
job_alike meaning first second [] [] store commands alike = refl
job_alike meaning first second [] (other ∷ others) store commands alike = absurd alike
job_alike meaning first second (line ∷ lines) [] store commands alike = absurd alike
job_alike meaning first second (line ∷ lines) (other ∷ others) store commands alike =
    let cmd : first line ≡ second other = commands line other alike.0 in
    (ap (λ one. does meaning one store
    ∷ (if goes_on line (does meaning one store)
    then job meaning first lines (after_deeds store (does meaning one store).deeds) else [])) cmd)
    ∙ ap₂ (λ goes rest. does meaning (second other) store ∷ (if goes then rest else []))
    (goes_alike line other (does meaning (second other) store) alike.0)
    (job_alike meaning first second lines others
    (after_deeds store (does meaning (second other) store).deeds) commands alike.1)

all_well : (next : NextOf) (meta : Meta) (lines : List TaskLine) (doings : List Doing)
    → AllZip (WentWell next meta) lines doings → AllWell lines doings
all_well next meta [] doings well = tt
all_well next meta (line ∷ lines) [] well = absurd well
all_well next meta (line ∷ lines) (doing ∷ doings) well =
    (went_on next meta line doing well.0, all_well next meta lines doings well.1)

-- The job of a task that is as recorded does on the files that looks saw what the recorded job did.
pub recorded_same : (meaning : Meaning) (meta : Meta) (plan : Plan) (node : ℕ) (task : Task)
    (files : Store) (doings : List Doing) → HasTask plan node task → task.exports ≡ meta.exports
    → task.cwd ≡ meta.cwd → AreTheSame task.lines meta.lines
    → job meaning (command_in meta) (working meta.lines) files ≡ doings
    → doings_on meaning plan node files ≡ doings
recorded_same meaning meta plan node task files doings has exports directory lines job_is =
    ap (λ some. job meaning plan.command some files) has.lines
    ∙ (job_alike meaning plan.command (command_in meta) (working task.lines) (working meta.lines) files
    (λ line other same. has.command line
    ∙ (λ i. record { text = same.text i; cwd = directory i; exports = exports i }))
    (working_alike task.lines meta.lines has.compared lines)
    ∙ job_is)

-- By looks that saw each recorded path as the job of a fresh target left it, its node may be kept.
pub fresh_may_keep : (meaning : Meaning) (base : List File) (meta : Meta) (events : List Happening)
    (is : IsTrue meaning.next meta events) (plan : Plan) (build : Build) (node : ℕ) (task : Task)
    (times : Times) → HasTask plan node task → IsFresh meta task times
    → (later : List ℕ → List Happening)
    → ((path : List ℕ) → (contents (seen_at base is later) path ≡ seen_by build node path))
    → (job meaning (command_in meta) (working meta.lines) (contents (seen_at base is later)) ≡ is.doings)
    → ((stands : Option (List ℕ))
    → over_deeds nothing_over (deeds_of_job is.doings) meta.target ≡ Some stands
    → contents (seen_at base is later) meta.target ≡ stands)
    → MayKeep meaning plan build node
fresh_may_keep meaning base meta events is plan build node task times has fresh later files_are job_is stands =
    let alike = working_alike task.lines meta.lines has.compared fresh.lines in
    let files : seen_by build node ≡ contents (seen_at base is later) = λ i path. sym (files_are path) i in
    let same : doings_seen meaning plan build node ≡ is.doings =
    recorded_same meaning meta plan node task (seen_by build node) is.doings has fresh.exports
    fresh.directory fresh.lines
    (ap (job meaning (command_in meta) (working meta.lines)) files ∙ job_is) in
    let name : (plan.node node).name ≡ meta.target = has.name ∙ sym fresh.target in
    record {
      well = subst (λ lines. AllWell lines (doings_seen meaning plan build node)) (sym has.lines)
          (subst (AllWell (working task.lines)) (sym same)
          (well_alike (working task.lines) (working meta.lines) is.doings alike
          (all_well meaning.next meta (working meta.lines) is.doings is.well)));
      stands = λ bytes over.
          ap (seen_by build node) name
          ∙ (sym (files_are meta.target)
          ∙ stands bytes
          (subst (λ deeds. over_deeds nothing_over (deeds_of_job deeds) meta.target ≡ Some bytes) same
          (subst (λ path. over_deeds nothing_over (deeds_of_job (doings_seen meaning plan build node)) path
          ≡ Some bytes) name over)));
    }

pub no_reason_may_keep : NoReasonMayKeep
no_reason_may_keep meaning base meta events is plan build node task mode times has goes went none =
    let fresh = no_reason_is_fresh meta task mode times goes none in
    let untouched : IsBefore times.target (when.At (record { 0 = is.time })) =
    subst (IsBefore times.target) went.meta_file fresh.untouched in
    let stands = kept_stands meaning base meta events is went.later went.looks went.records went.lawful
    went.saw went.recorded
    (subst (IsOlderThan (record { 0 = is.time })) went.target
    (before_older times.target (record { 0 = is.time }) untouched))
    (fresh_at_paths went.looks [] went.records meta task times went.times_are fresh) in
    fresh_may_keep meaning base meta events is plan build node task times has fresh went.later
    (λ path. sym (went.files_are path)) stands.0 stands.1
