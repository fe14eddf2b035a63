-- Judgements by looks at the same files are the same.
use Rattle.std.proofs.Common.{◌≡◌, ◌∙◌, ◌⊎◌, ℕ, zero, suc, ◌==◌, not, List, [], ◌∷◌, ◌++◌, map, slice_get, Bool, true, false, Option, Some, None, Result, Ok, if◌then◌else◌}
use Rattle.std.proofs.Common.{inl, inr, refl, sym, ap, ap₂, subst, eqb-true}
use Rattle.std.proofs.lemmas.Bool.{false≢true}
use Rattle.std.specs.List.{AllByRecursion}
use Rattle.mk_decision.specs.Ages.{AreSeen, HasNoFile, age, age_of, counted, decisive, source_ages}
use Rattle.mk_decision.specs.Decisions.{IsJudged, Work, asked_task, mode_at, newer_of, setting_by, source_names}
use Rattle.mk_decision.specs.Metas.{IsValueOf, MetaSight, meta_looks, paths_in}
use Rattle.mk_decision.specs.Reasons.{IsMetaSight, reason, records_asked}
use Rattle.mk_decision.specs.Sights.{look_at, looks_of, seen_of}
use Rattle.mk_decision.specs.Tests.{newer_names}
use Rattle.mk_decision.specs.declared.sight.Sighting.{Sighting}
use Rattle.mk_values.specs.Facts.{Answers}
use Rattle.mk_values.specs.declared.facts.Asked.{Asked}
use Rattle.mk_explain.specs.Turns.{IsAnswered}
use Rattle.mk_meta.proofs.MetaLemmas.{meta_in-again}
use Rattle.mk_meta.specs.Reading.{meta_in}
use Rattle.mk_meta.specs.TrueHistory.{meta_path}
use Rattle.mk_meta.specs.declared.meta.Meta.{Meta}
use Rattle.mk_oodate.specs.Lists.{left_paths, missed_paths, read_paths}
use Rattle.mk_oodate.specs.declared.reason.Age.{Age}
use Rattle.mk_oodate.specs.declared.reason.NodeMode.{NodeMode}
use Rattle.mk_oodate.specs.declared.reason.Why.{Why}
use Rattle.mk_plan.specs.Asking.{as_asked}
use Rattle.mk_plan.specs.Plans.{node_at}
use Rattle.mk_plan.specs.declared.plan.PlanNode.{PlanNode}
use Rattle.mk_world.specs.Calls.{when_of}
use Rattle.mk_world.specs.History.{FileMap}
use Rattle.mk_world.specs.Looks.{Dated, Seen, dated, is_missing}
use Rattle.mk_world.specs.declared.command.Task.{Task}
use Rattle.mk_world.specs.declared.time.When.{When}
use Rattle.mk_same.proofs.TaskLemmas.{tasks_are_by_answers}
use Rattle.mk_same.specs.Judged.{AreAnswered}

pub all-parts : {A : Type 0} (P : A → Type 0) (items more : List A) → AllByRecursion P (items ++ more)
    → AllByRecursion P items × AllByRecursion P more
all-parts P [] more all = (tt, all)
all-parts P (item ∷ items) more all =
    let rest = all-parts P items more all.1 in ((all.0, rest.0), rest.1)

same-ok : {A E : Type 0} (one other : A) → ◌≡◌ {A = Result A E} (Ok one) (Ok other) → one ≡ other
same-ok one other is = cc

abbrev dated_at : List ℕ → When → Dated
dated_at path when = record { path = path; when = when }

abbrev sighted : ℕ → When → Sighting
sighted place when = record { place = place; when = when }

-- sightings that differ in the times of phony nodes alone, which do not count
abbrev SameSeen : List PlanNode → List Sighting → List Sighting → Type 0
SameSeen nodes [] [] = Unit {0}
SameSeen nodes [] (other ∷ others) = ⊥
SameSeen nodes (one ∷ ones) [] = ⊥
SameSeen nodes (one ∷ ones) (other ∷ others) =
    (other.place ≡ one.place)
    × (((node_at nodes one.place).marks.phony ≡ true) ⊎ (other.when ≡ one.when)) × SameSeen nodes ones others

-- ages

age-same : (nodes : List PlanNode) (one other : List Sighting) → SameSeen nodes one other → (place : ℕ)
    → age nodes other place ≡ age nodes one place
age-same nodes [] [] same place = refl
age-same nodes [] (other ∷ others) same place = absurd same
age-same nodes (one ∷ ones) [] same place = absurd same
age-same nodes (one ∷ ones) (other ∷ others) same place =
    ap (λ p. if p == place then age_of (node_at nodes place) other.when (age nodes others)
    else age nodes others place) same.0
    ∙ by (one.place == place) refl (age-same nodes ones others same.2)
  where
    ages : ((p : ℕ) → age nodes others p ≡ age nodes ones p) → age nodes others ≡ age nodes ones
    ages rest = λ i. λ p. rest p i

    here : one.place ≡ place → ((p : ℕ) → age nodes others p ≡ age nodes ones p)
        → ((node_at nodes one.place).marks.phony ≡ true) ⊎ (other.when ≡ one.when)
        → age_of (node_at nodes place) other.when (age nodes others)
        ≡ age_of (node_at nodes place) one.when (age nodes ones)
    here at rest (inl phony) =
        let is = subst (λ p. (node_at nodes p).marks.phony ≡ true) at phony in rw is refl
    here at rest (inr when) = ap₂ (age_of (node_at nodes place)) when (ages rest)

    by : (b : Bool) → (one.place == place) ≡ b → ((p : ℕ) → age nodes others p ≡ age nodes ones p)
        → (if one.place == place then age_of (node_at nodes place) other.when (age nodes others)
        else age nodes others place)
        ≡ (if one.place == place then age_of (node_at nodes place) one.when (age nodes ones)
        else age nodes ones place)
    by true is rest =
        subst (λ b. (if b then age_of (node_at nodes place) other.when (age nodes others) else age nodes others place)
        ≡ (if b then age_of (node_at nodes place) one.when (age nodes ones) else age nodes ones place)) (sym is)
        (here (eqb-true one.place place is) rest same.1)
    by false is rest =
        subst (λ b. (if b then age_of (node_at nodes place) other.when (age nodes others) else age nodes others place)
        ≡ (if b then age_of (node_at nodes place) one.when (age nodes ones) else age nodes ones place)) (sym is)
        (rest place)

ages-same : (nodes : List PlanNode) (node : ℕ) (one other : List Sighting) → SameSeen nodes one other
    → source_ages nodes node other ≡ source_ages nodes node one
ages-same nodes node one other same =
    ap (λ (ages : ℕ → Age). map ages (node_at nodes node).sources) (λ i. λ p. age-same nodes one other same p i)

counted-phony : (node : PlanNode) (when : When) → node.marks.phony ≡ true → counted node when ≡ []
counted-phony node when is = rw is refl

module _ (files : FileMap) where
  one-look : (nodes : List PlanNode) (one : Sighting) → AreAnswered files (look_at nodes one)
      → (node_at nodes one.place).marks.phony ≡ false → one.when ≡ when_of (files (node_at nodes one.place).name)
  one-look nodes one answered plain =
      (subst (λ b. AreAnswered files (if b then []
      else dated (record { path = (node_at nodes one.place).name; when = one.when }) ∷ [])) plain answered).0

  same-when : (nodes : List PlanNode) (place : ℕ) (when other : When)
      → AreAnswered files (look_at nodes (sighted place when))
      → AreAnswered files (look_at nodes (sighted place other))
      → ((node_at nodes place).marks.phony ≡ true) ⊎ (other ≡ when)
  same-when nodes place when other answered also = by (node_at nodes place).marks.phony refl
    where
      by : (b : Bool) → (node_at nodes place).marks.phony ≡ b
          → ((node_at nodes place).marks.phony ≡ true) ⊎ (other ≡ when)
      by true is = inl is
      by false is =
          inr (one-look nodes (sighted place other) also is ∙ sym (one-look nodes (sighted place when) answered is))

  target-same : (nodes : List PlanNode) (node : ℕ) (one other : When) → HasNoFile (node_at nodes node) one
      → HasNoFile (node_at nodes node) other → AreAnswered files (look_at nodes (sighted node one))
      → AreAnswered files (look_at nodes (sighted node other)) → other ≡ one
  target-same nodes node one other none also answered fits = by (same-when nodes node one other answered fits)
    where
      by : ((node_at nodes node).marks.phony ≡ true) ⊎ (other ≡ one) → other ≡ one
      by (inl phony) = also phony ∙ sym (none phony)
      by (inr same) = same

  -- what was seen of the nodes that count
  are-same : (nodes : List PlanNode) (place : ℕ) (wanted : List ℕ) (one other : List Sighting)
      → AreSeen nodes place wanted one → AreSeen nodes place wanted other
      → AreAnswered files (looks_of nodes one) → AreAnswered files (looks_of nodes other) → SameSeen nodes one other
  are-same nodes zero wanted one other is also answered fits =
      subst (λ l. SameSeen nodes l other) (sym is) (subst (SameSeen nodes []) (sym also) tt)
  are-same nodes (suc place) wanted one other (inl is) (inl also) answered fits =
      are-same nodes place wanted one other is.1 also.1 answered fits
  are-same nodes (suc place) wanted one other (inl is) (inr also) answered fits =
      absurd (false≢true (sym is.0 ∙ also.0))
  are-same nodes (suc place) wanted one other (inr is) (inl also) answered fits =
      absurd (false≢true (sym also.0 ∙ is.0))
  are-same nodes (suc place) wanted one other (inr (counts, when, more, one_is, rest))
      (inr (too, again, others, other_is, then_rest)) answered fits =
      subst (λ l. SameSeen nodes l other) (sym one_is) (subst (SameSeen nodes (sighted place when ∷ more)) (sym other_is) (
        refl,
        which,
        by which (λ wanted_now is also. are-same nodes place wanted_now more others is also here.1 there.1),
      ))
    where
      here : AreAnswered files (look_at nodes (sighted place when)) × AreAnswered files (looks_of nodes more)
      here = all-parts (IsAnswered files) (look_at nodes (sighted place when)) (looks_of nodes more)
          (subst (λ l. AreAnswered files (looks_of nodes l)) one_is answered)

      there : AreAnswered files (look_at nodes (sighted place again)) × AreAnswered files (looks_of nodes others)
      there = all-parts (IsAnswered files) (look_at nodes (sighted place again)) (looks_of nodes others)
          (subst (λ l. AreAnswered files (looks_of nodes l)) other_is fits)

      which : ((node_at nodes place).marks.phony ≡ true) ⊎ (again ≡ when)
      which = same-when nodes place when again here.0 there.0

      by : ((node_at nodes place).marks.phony ≡ true) ⊎ (again ≡ when)
          → ((wanted_now : List ℕ) → AreSeen nodes place wanted_now more → AreSeen nodes place wanted_now others
          → SameSeen nodes more others) → SameSeen nodes more others
      by (inl phony) next =
          next wanted
          (subst (λ l. AreSeen nodes place (l ++ wanted) more) (counted-phony (node_at nodes place) when phony) rest)
          (subst (λ l. AreSeen nodes place (l ++ wanted) others) (counted-phony (node_at nodes place) again phony)
          then_rest)
      by (inr same) next =
          next (counted (node_at nodes place) when ++ wanted) rest
          (subst (λ w. AreSeen nodes place (counted (node_at nodes place) w ++ wanted) others) same then_rest)

  -- tasks

  asked-fits : (asked : List Dated) → AreAnswered files (map dated asked)
      → (place : ℕ) (one : Asked) → slice_get (map as_asked asked) place ≡ Some one
      → one.answer ≡ not (is_missing (when_of (files one.path)))
  asked-fits [] answered place one is = absurd cc
  asked-fits (first ∷ asked) answered zero one is =
      let same : as_asked first ≡ one = cc in
      subst (λ (it : Asked). it.answer ≡ not (is_missing (when_of (files it.path)))) same
      (ap (λ when. not (is_missing when)) answered.0)
  asked-fits (first ∷ asked) answered (suc place) one is = asked-fits asked answered.1 place one is

  task-same : (work : Work) (node : ℕ) (newer : List (List ℕ)) (one other : List Dated) (task again : Task)
      → AreAnswered files (map dated one) → AreAnswered files (map dated other)
      → asked_task work node newer one ≡ Ok (task, map as_asked one)
      → asked_task work node newer other ≡ Ok (again, map as_asked other) → again ≡ task
  task-same work node newer one other task again answered fits is also =
      let answers : Answers = λ place path. not (is_missing (when_of (files path))) in
      let first = tasks_are_by_answers (setting_by work one) answers work.suffixes work.plan node newer work.mode
      work.flags [] (task, map as_asked one) is (asked-fits one answered) in
      let second = tasks_are_by_answers (setting_by work other) answers work.suffixes work.plan node newer work.mode
      work.flags [] (again, map as_asked other) also (asked-fits other fits) in
      ap (λ (it : Task × List Asked). it.0) (same-ok (again, map as_asked other) (task, map as_asked one)
      (sym second ∙ first))

  -- meta files

  value-same : (bytes : Option (List ℕ)) (one other : Option Meta) → IsValueOf bytes one → IsValueOf bytes other
      → other ≡ one
  value-same None one other is also = also ∙ sym is
  value-same (Some text) None None is also = refl
  value-same (Some text) None (Some other) is also = absurd (is other also.0 also.1)
  value-same (Some text) (Some one) None is also = absurd (also one is.0 is.1)
  value-same (Some text) (Some one) (Some other) is also =
      sym (meta_in-again other also.0) ∙ ap meta_in (sym also.1 ∙ is.1) ∙ meta_in-again one is.0

  dates-same : (one other : List Dated) → paths_in other ≡ paths_in one → AreAnswered files (map dated one)
      → AreAnswered files (map dated other) → other ≡ one
  dates-same [] [] same answered fits = refl
  dates-same [] (other ∷ others) same answered fits = absurd cc
  dates-same (one ∷ ones) [] same answered fits = absurd cc
  dates-same (one ∷ ones) (other ∷ others) same answered fits =
      let path : other.path ≡ one.path = cc in
      let rest : paths_in others ≡ paths_in ones = cc in
      let when : other.when ≡ one.when =
      fits.0 ∙ ap (λ p. when_of (files p)) path ∙ sym answered.0 in
      ap₂ (λ p w. dated_at p w ∷ others) path when
      ∙ ap (λ l. one ∷ l) (dates-same ones others rest answered.1 fits.1)

  dates-parts : (one other : List Dated) → AreAnswered files (map dated (one ++ other))
      → AreAnswered files (map dated one) × AreAnswered files (map dated other)
  dates-parts [] other answered = (tt, answered)
  dates-parts (first ∷ one) other answered =
      let rest = dates-parts one other answered.1 in ((answered.0, rest.0), rest.1)

  abbrev sight_of : Option (List ℕ) → Option Meta → When → List Dated → List Dated → List Dated → MetaSight
  sight_of bytes value when reads misses left = record {
    bytes = bytes;
    value = value;
    when = when;
    paths = record { reads = reads; misses = misses; left = left };
  }

  meta-same : (ignored : List (List ℕ)) (mode : NodeMode) (task : Task) (target : When) (ages : List Age)
      (path : List ℕ) (one other : Option MetaSight) → IsMetaSight ignored mode task target ages one
      → IsMetaSight ignored mode task target ages other → AreAnswered files (meta_looks path one)
      → AreAnswered files (meta_looks path other) → other ≡ one
  meta-same ignored mode task target ages path None None is also answered fits = refl
  meta-same ignored mode task target ages path None (Some other) is also answered fits =
      absurd (false≢true (sym is ∙ also.0))
  meta-same ignored mode task target ages path (Some one) None is also answered fits =
      absurd (false≢true (sym also ∙ is.0))
  meta-same ignored mode task target ages path (Some one) (Some other) is also answered fits =
      ap (λ bytes. Some (sight_of bytes other.value other.when other.paths.reads other.paths.misses other.paths.left))
      bytes
      ∙ ap (λ value. Some (sight_of one.bytes value other.when other.paths.reads other.paths.misses other.paths.left))
      value
      ∙ ap (λ when. Some (sight_of one.bytes one.value when other.paths.reads other.paths.misses other.paths.left)) when
      ∙ ap (λ reads. Some (sight_of one.bytes one.value one.when reads other.paths.misses other.paths.left)) reads
      ∙ ap (λ misses. Some (sight_of one.bytes one.value one.when one.paths.reads misses other.paths.left)) misses
      ∙ ap (λ left. Some (sight_of one.bytes one.value one.when one.paths.reads one.paths.misses left)) left
    where
      bytes : other.bytes ≡ one.bytes
      bytes = fits.0 ∙ sym answered.0

      when : other.when ≡ one.when
      when = fits.1.0 ∙ sym answered.1.0

      value : other.value ≡ one.value
      value = value-same one.bytes one.value other.value is.1
          (subst (λ b. IsValueOf b other.value) bytes also.1)

      records : records_asked mode task target ages other ≡ records_asked mode task target ages one
      records =
          ap (λ b. records_asked mode task target ages (sight_of b other.value other.when [] [] [])) bytes
          ∙ ap (λ v. records_asked mode task target ages (sight_of one.bytes v other.when [] [] [])) value
          ∙ ap (λ w. records_asked mode task target ages (sight_of one.bytes one.value w [] [] [])) when

      here : AreAnswered files (map dated one.paths.reads)
          × AreAnswered files (map dated (one.paths.misses ++ one.paths.left))
      here = dates-parts one.paths.reads (one.paths.misses ++ one.paths.left) answered.1.1

      there : AreAnswered files (map dated other.paths.reads)
          × AreAnswered files (map dated (other.paths.misses ++ other.paths.left))
      there = dates-parts other.paths.reads (other.paths.misses ++ other.paths.left) fits.1.1

      here_last : AreAnswered files (map dated one.paths.misses) × AreAnswered files (map dated one.paths.left)
      here_last = dates-parts one.paths.misses one.paths.left here.1

      there_last : AreAnswered files (map dated other.paths.misses) × AreAnswered files (map dated other.paths.left)
      there_last = dates-parts other.paths.misses other.paths.left there.1

      reads : other.paths.reads ≡ one.paths.reads
      reads = dates-same one.paths.reads other.paths.reads
          (also.2.reads ∙ ap (read_paths ignored) records ∙ sym is.2.reads) here.0 there.0

      misses : other.paths.misses ≡ one.paths.misses
      misses = dates-same one.paths.misses other.paths.misses
          (also.2.misses ∙ ap (missed_paths ignored) records ∙ sym is.2.misses) here_last.0 there_last.0

      left : other.paths.left ≡ one.paths.left
      left = dates-same one.paths.left other.paths.left
          (also.2.left ∙ ap (left_paths ignored) records ∙ sym is.2.left) here_last.1 there_last.1

  -- the looks of a judgement, part by part
  record LookedAt (work : Work) (node : ℕ) (seen : List Seen) (task : Task) (why : Option Why)
      (judged : IsJudged work node seen task why) : Type 0
    where
      target : AreAnswered files (look_at work.plan (sighted node judged.sight.target))
      sources : AreAnswered files (looks_of work.plan judged.sight.sources)
      asked : AreAnswered files (map dated judged.sight.asked)
      meta : AreAnswered files (meta_looks (meta_path (node_at work.plan node).name) judged.meta)

  looked-at : (work : Work) (node : ℕ) (seen : List Seen) (task : Task) (why : Option Why)
      → (judged : IsJudged work node seen task why) → AreAnswered files seen → LookedAt work node seen task why judged
  looked-at work node seen task why judged answered =
      let plan = work.plan in
      let sight = judged.sight in
      let whole = all-parts (IsAnswered files) judged.first
      (meta_looks (meta_path (node_at plan node).name) judged.meta)
      (subst (AreAnswered files) judged.are answered) in
      let first = all-parts (IsAnswered files) (seen_of plan node sight.target sight.sources) (map dated sight.asked)
      (subst (AreAnswered files) sight.are whole.0) in
      let times = all-parts (IsAnswered files) (look_at plan (sighted node sight.target)) (looks_of plan sight.sources)
      first.0 in
      record { target = times.0; sources = times.1; asked = first.1; meta = whole.1 }

  -- what two judgements have in common
  pub record SameJudged (work : Work) (node : ℕ) (one other : List Seen) (task again : Task) (why then_why : Option Why)
      (judged : IsJudged work node one task why) (also : IsJudged work node other again then_why) : Type 0
    where
      pub target : also.sight.target ≡ judged.sight.target
      pub ages : source_ages work.plan node also.sight.sources ≡ source_ages work.plan node judged.sight.sources
      pub task_is : again ≡ task
      pub meta : also.meta ≡ judged.meta
      pub why_is : then_why ≡ why

  pub judged-same : (work : Work) (node : ℕ) (one other : List Seen) (task again : Task) (why then_why : Option Why)
      → AreAnswered files one → AreAnswered files other → (judged : IsJudged work node one task why)
      → (also : IsJudged work node other again then_why)
      → SameJudged work node one other task again why then_why judged also
  judged-same work node one other task again why then_why answered fits judged also = record {
    target = target;
    ages = ages;
    task_is = task_is;
    meta = meta;
    why_is = also.reason
        ∙ ap (λ t. reason mode t also.sight.target later_ages also.meta) task_is
        ∙ ap (λ w. reason mode task w later_ages also.meta) target
        ∙ ap (λ a. reason mode task judged.sight.target a also.meta) ages
        ∙ ap (λ m. reason mode task judged.sight.target first_ages m) meta
        ∙ sym judged.reason;
  }
    where
      mode : NodeMode
      mode = mode_at work node

      first_ages : List Age
      first_ages = source_ages work.plan node judged.sight.sources

      later_ages : List Age
      later_ages = source_ages work.plan node also.sight.sources

      here : LookedAt work node one task why judged
      here = looked-at work node one task why judged answered

      there : LookedAt work node other again then_why also
      there = looked-at work node other again then_why also fits

      target : also.sight.target ≡ judged.sight.target
      target = target-same work.plan node judged.sight.target also.sight.target judged.sight.walk.0
          also.sight.walk.0 here.target there.target

      ages : source_ages work.plan node also.sight.sources ≡ source_ages work.plan node judged.sight.sources
      ages = ages-same work.plan node judged.sight.sources also.sight.sources
          (are-same work.plan node (decisive (node_at work.plan node) judged.sight.target) judged.sight.sources
          also.sight.sources judged.sight.walk.1
          (subst (λ w. AreSeen work.plan node (decisive (node_at work.plan node) w) also.sight.sources) target
          also.sight.walk.1) here.sources there.sources)

      newer : newer_of work node also.sight.target also.sight.sources
          ≡ newer_of work node judged.sight.target judged.sight.sources
      newer = ap₂ (λ w a. newer_names w (source_names work node) a) target ages

      task_is : again ≡ task
      task_is = task-same work node (newer_of work node judged.sight.target judged.sight.sources) judged.sight.asked
          also.sight.asked task again here.asked there.asked judged.has
          (subst (λ l. asked_task work node l also.sight.asked ≡ Ok (again, map as_asked also.sight.asked)) newer
          also.has)

      meta : also.meta ≡ judged.meta
      meta = meta-same work.mode.ignore_paths mode task judged.sight.target first_ages
          (meta_path (node_at work.plan node).name) judged.meta also.meta judged.opened
          (subst (λ a. IsMetaSight work.mode.ignore_paths mode task judged.sight.target a also.meta) ages
          (subst (λ w. IsMetaSight work.mode.ignore_paths mode task w later_ages also.meta) target
          (subst (λ t. IsMetaSight work.mode.ignore_paths mode t also.sight.target later_ages also.meta) task_is
          also.opened))) here.meta there.meta
