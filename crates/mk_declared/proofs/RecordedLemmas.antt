-- What is declared by exact records is declared of the jobs that they are of.
use Rattle.std.proofs.Common.{◌≡◌, ◌≢◌, ◌⊎◌, inl, inr, ℕ, ◌||◌, Bool, true, false, List, [], ◌∷◌, ◌++◌, map, Option, Some, None, refl, sym, ◌∙◌, ap, subst, if◌then◌else◌}
use Rattle.std.proofs.lemmas.Bool.{false≢true}
use Rattle.std.specs.List.{Contains, list_any}
use Rattle.std.specs.Str.{bytes_eq}
use Rattle.mk_clean.specs.Clean.{Changes, CleanJob, IsAmong, IsWell, LeavesIt, Plan, deeds_of, doings_on, is_changed}
use Rattle.mk_clean.specs.Declared.{IsDeclared, IsMadeBefore, IsOwn, IsPrivate, IsSource, LeavesFile}
use Rattle.mk_declared.proofs.PresentLemmas.{MadeOf, among-map, made-of}
use Rattle.mk_declared.specs.Present.{present_job, present_jobs}
use Rattle.mk_declared.specs.Recorded.{AreDeclaredBy, IsAlteredAlone, IsMadeFor, IsUnaltered, Recorded, RecordedJobsAreDeclared, is_altered}
use Rattle.mk_filemon.proofs.LookLemmas.{tell_written}
use Rattle.mk_filemon.proofs.PathLemmas.{among, among-once, bytes_eq-same, same_bytes}
use Rattle.mk_filemon.proofs.StepLemmas.{tell_outer_reads}
use Rattle.mk_filemon.specs.Outer.{left_written, once, outer_reads}
use Rattle.mk_filemon.specs.Steps.{stands_by}
use Rattle.mk_meta.specs.TrueHistory.{deeds_of_job}
use Rattle.mk_world.specs.Deeds.{Store}
use Rattle.mk_world.specs.Outer.{nothing_over, outer, over_deeds}
use Rattle.mk_world.specs.Records.{AreExact, op_of}
use Rattle.mk_world.specs.Talks.{Meaning}
use Rattle.mk_world.specs.declared.step.Deed.{Deed}
use Rattle.mk_world.specs.declared.step.Deed.TheVariants.{Read, Miss, Write, Delete, Move}
use Rattle.mk_world.specs.declared.step.Op.{Op}

or-apart : (one other rest : Bool) → ((one || other) || rest) ≡ (one || (other || rest))
or-apart true other rest = refl
or-apart false other rest = refl

-- records say of the steps whose records they are what these change
altered-is : (deeds : List Deed) (path : List ℕ) → is_altered (map op_of deeds) path ≡ is_changed deeds path
altered-is [] path = refl
altered-is (Read at bytes ∷ deeds) path = altered-is deeds path
altered-is (Miss at ∷ deeds) path = altered-is deeds path
altered-is (Write at bytes ∷ deeds) path = ap (λ rest. bytes_eq at path || rest) (altered-is deeds path)
altered-is (Delete at ∷ deeds) path = ap (λ rest. bytes_eq at path || rest) (altered-is deeds path)
altered-is (Move from to bytes ∷ deeds) path =
    or-apart (bytes_eq from path) (bytes_eq to path) (is_altered (map op_of deeds) path)
    ∙ ap (λ rest. bytes_eq from path || (bytes_eq to path || rest)) (altered-is deeds path)

-- a path among others, in both ways

is-among : (paths : List (List ℕ)) (path : List ℕ) → IsAmong path paths → among paths path ≡ true
is-among [] path there = absurd there
is-among (first ∷ paths) path (inl is) =
    let same : bytes_eq path first ≡ true = ap (bytes_eq path) (sym is) ∙ bytes_eq-same path in
    rw same refl
is-among (first ∷ paths) path (inr there) = later (bytes_eq path first) (is-among paths path there)
  where
    later : (t : Bool) → among paths path ≡ true → (if t then true else among paths path) ≡ true
    later true rest = refl
    later false rest = rest

stands-among : (paths : List (List ℕ)) (path : List ℕ) → among paths path ≡ true → IsAmong path paths
stands-among [] path there = absurd (false≢true there)
stands-among (first ∷ paths) path there = by (stands-among paths path) (bytes_eq path first) refl there
  where
    by : (among paths path ≡ true → IsAmong path paths) → (t : Bool) → bytes_eq path first ≡ t
        → (if t then true else among paths path) ≡ true → IsAmong path (first ∷ paths)
    by later true is here = inl (same_bytes path first is)
    by later false is rest = inr (later rest)

stands-is : (stands : Option (Option (List ℕ))) → stands_by stands ≡ true
    → (bytes : List ℕ) × (stands ≡ Some (Some bytes))
stands-is None is = absurd (false≢true is)
stands-is (Some None) is = absurd (false≢true is)
stands-is (Some (Some bytes)) is = (bytes, refl)

module _ (meaning : Meaning) (plan : Plan) (files : Store) (ops : Recorded)
    (exact : (node : ℕ) → IsAmong node plan.order
    → AreExact (ops node) (deeds_of_job (doings_on meaning plan node files)))
    (declared : AreDeclaredBy plan ops)
  where
    abbrev all : List CleanJob
    all = present_jobs meaning plan files

    abbrev here : ℕ → CleanJob
    here = present_job meaning plan files

    abbrev Of : CleanJob → Type 0
    Of = MadeOf here plan.order

    of : (one : CleanJob) → IsAmong one all → Of one
    of one among = made-of here plan.order one among

    changed-is : (node : ℕ) → IsAmong node plan.order → (path : List ℕ)
        → is_changed (deeds_of (here node)) path ≡ is_altered (ops node) path
    changed-is node among path =
        sym (altered-is (deeds_of (here node)) path) ∙ ap (λ some. is_altered some path) (sym (exact node among))

    leaves-alone : (one : CleanJob) → Of one → (path : List ℕ)
        → ((node : ℕ) → IsAmong node plan.order → node ≡ one.node → is_altered (ops node) path ≡ false)
        → LeavesIt one path
    leaves-alone one it path none =
        subst (λ job. LeavesIt job path) it.is
        (changed-is it.one it.among path ∙ none it.one it.among (ap (λ (job : CleanJob). job.node) it.is))

    read-is : (node : ℕ) → IsAmong node plan.order → (path : List ℕ)
        → IsAmong path (outer nothing_over (deeds_of (here node))) → IsAmong path (outer_reads (ops node))
    read-is node among path read =
        let deeds = deeds_of (here node) in
        let told : outer_reads (ops node) ≡ once (outer nothing_over deeds) =
        ap outer_reads (exact node among) ∙ tell_outer_reads deeds in
        subst (IsAmong path) (sym told)
        (stands-among (once (outer nothing_over deeds)) path
        (among-once (outer nothing_over deeds) path ∙ is-among (outer nothing_over deeds) path read))

    pub source : (path : List ℕ) → IsUnaltered plan ops path → IsSource plan all path
    source path unaltered = record {
      alone = λ one among. leaves-alone one (of one among) path (λ node there same. unaltered.alone node there);
      no_made = unaltered.no_made;
      no_meta = unaltered.no_meta;
    }

    reads : (node : ℕ) → IsAmong node plan.order → (path : List ℕ)
        → IsUnaltered plan ops path ⊎ IsMadeFor plan node path
        → IsSource plan all path ⊎ IsMadeBefore plan all (here node) path
    reads node among path (inl unaltered) = inl (source path unaltered)
    reads node among path (inr before) = inr (record {
      maker = here before.maker;
      among = among-map here plan.order before.maker before.among;
      made = before.made;
      name = before.name;
      depends = before.depends;
    })

    changes : (node : ℕ) → IsAmong node plan.order → (path : List ℕ)
        → (((plan.node node).made ≡ true) × ((plan.node node).name ≡ path)) ⊎ IsAlteredAlone plan ops node path
        → IsOwn plan (here node) path ⊎ IsPrivate plan all (here node) path
    changes node among path (inl own) = inl (record { made = own.0; name = own.1 })
    changes node among path (inr alone) = inr (record {
      no_node = alone.no_node;
      alone = λ other there apart.
          leaves-alone other (of other there) path
          (λ one is same. alone.alone one is (λ also. apart (sym same ∙ also)));
    })

    leaves : (node : ℕ) → IsAmong node plan.order → (plan.node node).made ≡ true → LeavesFile plan (here node)
    leaves node among made =
        let deeds = deeds_of (here node) in
        let name = (plan.node node).name in
        let left : Contains (left_written (map op_of deeds)) name =
        subst (λ some. Contains (left_written some) name) (exact node among) (declared.leaves node among made) in
        let stands = stands-is (over_deeds nothing_over deeds name) ((tell_written deeds name).0 left) in
        record { bytes = stands.0; is = stands.1 }

    pub declared_by : IsDeclared plan all
    declared_by = record {
      reads = λ one among path read.
          let it = of one among in
          subst (λ job. IsSource plan all path ⊎ IsMadeBefore plan all job path) it.is
          (reads it.one it.among path (declared.reads it.one it.among path
          (read-is it.one it.among path
          (subst (λ job. IsAmong path (outer nothing_over (deeds_of job))) (sym it.is) read))));
      changes = λ one among path changed.
          let it = of one among in
          subst (λ job. IsOwn plan job path ⊎ IsPrivate plan all job path) it.is
          (changes it.one it.among path (declared.changes it.one it.among path
          (sym (changed-is it.one it.among path)
          ∙ subst (λ job. Changes job path) (sym it.is) changed)));
      leaves = λ one among well made.
          let it = of one among in
          subst (LeavesFile plan) it.is
          (leaves it.one it.among (subst (λ job. (plan.node job.node).made ≡ true) (sym it.is) made));
      no_meta = λ one among path meta.
          leaves-alone one (of one among) path
          (λ node there same. declared.no_meta node there path meta);
    }

pub recorded_jobs_are_declared : RecordedJobsAreDeclared
recorded_jobs_are_declared = declared_by
