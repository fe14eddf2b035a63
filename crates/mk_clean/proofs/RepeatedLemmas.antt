-- A job whose reads and misses stand as it found them repeats itself; and exact records are those of its steps.
use Rattle.std.proofs.Common.{◌≡◌, ◌∙◌, ℕ, zero, suc, ◌+◌, List, [], ◌∷◌, ◌++◌, map, not, Option, Some, None, IfSome, Bool, true, false, cond, refl, sym, ap, subst, arith}
use Rattle.std.proofs.lemmas.List.{map-append}
use Rattle.std.specs.List.{AllByRecursion, AllZip, Contains}
use Rattle.mk_clean.proofs.KeptLemmas.{counted-all, missing-stood, older-stood, ops-numbered, repeats}
use Rattle.mk_clean.proofs.TestedLemmas.{recorded_same}
use Rattle.mk_clean.proofs.WalkLemmas.{Found}
use Rattle.mk_clean.specs.Kept.{seen_at}
use Rattle.mk_clean.specs.Repeated.{ExactRecordsAreOfSteps, IsAsRecorded, RecordedJobsRepeat}
use Rattle.mk_filemon.specs.Outer.{ops_of, outer_found, outer_missed}
use Rattle.mk_filemon.specs.Steps.{IsToldBy}
use Rattle.mk_filemon.specs.declared.record.Rec.{Rec}
use Rattle.mk_meta.specs.Jobs.{is_empty, numbered, records_from, records_of_job, working}
use Rattle.mk_meta.specs.TrueHistory.{WentWell, deeds_of_job, ops_of_children}
use Rattle.mk_meta.specs.declared.meta.Meta.{Meta}
use Rattle.mk_oodate.specs.Fresh.{IsOlderThan}
use Rattle.mk_world.specs.Calls.{when_of}
use Rattle.mk_world.specs.History.{FileMap, contents}
use Rattle.mk_world.specs.Records.{op_of}
use Rattle.mk_world.specs.Talks.{Doing, NextOf}
use Rattle.mk_world.specs.declared.command.Task.{Task}
use Rattle.mk_world.specs.declared.command.TaskLine.{TaskLine}
use Rattle.mk_world.specs.declared.step.Op.{Op}
use Rattle.mk_world.specs.declared.time.When.{When}
use Rattle.mk_world.specs.declared.time.When.TheVariants as when

contained : (Kind : List ℕ → Type 0) (paths : List (List ℕ)) (path : List ℕ) → AllByRecursion Kind paths
    → Contains paths path → Kind path
contained Kind [] path all has = absurd (omega (arith, has.1))
contained Kind (first ∷ paths) path all (zero, less, is) = subst Kind is all.0
contained Kind (first ∷ paths) path all (suc place, less, is) =
    contained Kind paths path all.1 (place, omega (arith, less), is)

found-so : (seen : FileMap) (meta : Meta) (records : List Rec) (task : Task)
    → IsAsRecorded meta records task (λ path. when_of (seen path))
    → (path : List ℕ) (bytes : Option (List ℕ)) → IsToldBy (ops_of records) path bytes
    → Found seen meta.stamp.0 path bytes
found-so seen meta records task told_so path (Some bytes) told =
    older-stood meta.stamp (seen path) bytes (when_of (seen path)) refl
    (contained (λ one. IsOlderThan meta.stamp (when_of (seen one))) (outer_found (ops_of records)) path
    (subst (AllByRecursion (λ one. IsOlderThan meta.stamp (when_of (seen one))))
    (counted-all (outer_found (ops_of records))) told_so.reads) told)
found-so seen meta records task told_so path None told =
    missing-stood meta.stamp.0 (seen path) (when_of (seen path)) refl
    (contained (λ one. when_of (seen one) ≡ when.Missing) (outer_missed (ops_of records)) path
    (subst (AllByRecursion (λ one. when_of (seen one) ≡ when.Missing))
    (counted-all (outer_missed (ops_of records))) told_so.misses) told)

pub recorded_jobs_repeat : RecordedJobsRepeat
recorded_jobs_repeat meaning base meta events is later records plan node task may recorded has told_so =
    let seen = seen_at base is later in
    recorded_same meaning meta plan node task (contents seen) is.doings has told_so.exports told_so.directory told_so.lines
    (repeats meaning base meta events is later records may recorded (found-so seen meta records task told_so))

-- exact records, line by line

records-next : (next : NextOf) (meta : Meta) (number : ℕ) (line : TaskLine) (lines : List TaskLine)
    → ((doings : List Doing) → AllZip (WentWell next meta) (working lines) doings
    → ops_of (records_from (number + 1) lines (ops_of_children doings))
    ≡ map op_of (deeds_of_job doings))
    → (empty : Bool) → is_empty line.text ≡ empty → (doings : List Doing)
    → AllZip (WentWell next meta) (cond (not empty) (line ∷ working lines) (working lines)) doings
    → ops_of (records_from number (line ∷ lines) (ops_of_children doings))
    ≡ map op_of (deeds_of_job doings)
records-next next meta number line lines rest true is [] well = refl
records-next next meta number line lines rest true is (x ∷ xs) well = rw is (rest (x ∷ xs) well)
records-next next meta number line lines rest false is [] well = absurd well
records-next next meta number line lines rest false is (x ∷ xs) well =
    let mine = map op_of x.deeds in
    let more = records_from (number + 1) lines (ops_of_children xs) in
    let split : ops_of (numbered number mine ++ more) ≡ mine ++ ops_of more =
    map-append (λ (one : Rec). one.op) (numbered number mine) more
    ∙ ap (λ l. l ++ ops_of more) (ops-numbered number mine) in
    rw is (split ∙ (ap (λ l. mine ++ l) (rest xs well.1)
    ∙ sym (map-append op_of x.deeds (deeds_of_job xs))))

records-of : (next : NextOf) (meta : Meta) (number : ℕ) (lines : List TaskLine) (doings : List Doing)
    → AllZip (WentWell next meta) (working lines) doings
    → ops_of (records_from number lines (ops_of_children doings)) ≡ map op_of (deeds_of_job doings)
records-of next meta number [] [] well = refl
records-of next meta number [] (x ∷ xs) well = absurd well
records-of next meta number (line ∷ lines) doings well =
    records-next next meta number line lines
    (λ more given. records-of next meta (number + 1) lines more given) (is_empty line.text) refl doings
    well

pub exact_records_are_of_steps : ExactRecordsAreOfSteps
exact_records_are_of_steps next meta events is records recorded exact =
    let all : records ≡ records_of_job meta.lines (ops_of_children is.doings) =
    subst (λ r. IfSome r (λ some. some ≡ records_of_job meta.lines (ops_of_children is.doings)))
    recorded exact in
    ap ops_of all ∙ records-of next meta 1 meta.lines is.doings is.well
