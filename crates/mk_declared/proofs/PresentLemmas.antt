-- Where all made files stand as their jobs would leave them, the clean build does what these jobs do.
use Rattle.std.proofs.Common.{◌≡◌, ◌≢◌, ◌⊎◌, inl, inr, ℕ, ◌||◌, Bool, true, false, List, [], ◌∷◌, ◌++◌, map, Option, Some, None, refl, sym, ◌∙◌, ap, ap₂, subst, append_assoc, if◌then◌else◌}
use Rattle.std.proofs.lemmas.Bool.{false≢true}
use Rattle.std.proofs.lemmas.List.{append-nil}
use Rattle.mk_clean.proofs.CleanLemmas.{after_over, agree_on, among_first, among_last, before_among, over_changed, unchanged}
use Rattle.mk_clean.proofs.JobLemmas.{job_agree}
use Rattle.mk_clean.specs.Clean.{AllWell, Changes, CleanJob, DependsOn, IsAmong, IsWell, LeavesIt, Plan, StandsBefore, after_by, clean_build, clean_files, cleared, deeds_of, doings_on, files_by, is_changed, jobs_by, lines_in}
use Rattle.mk_clean.specs.Declared.{AreWellMade, IsDeclared, IsMadeBefore, IsOwn, IsPrivate, IsSource, LeavesFile}
use Rattle.mk_meta.specs.TrueHistory.{deeds_of_job}
use Rattle.mk_world.specs.Deeds.{Store, after_deeds}
use Rattle.mk_world.specs.Outer.{nothing_over, outer, over_deeds}
use Rattle.mk_world.specs.Talks.{Doing, Meaning}
use Rattle.mk_declared.specs.Present.{IsPresent, PresentJobsAreClean, Stands, at, present_job, present_jobs}

pub among-map : {A B : Type 0} (make : A → B) (all : List A) (one : A) → IsAmong one all → IsAmong (make one) (map make all)
among-map make [] one among = absurd among
among-map make (first ∷ more) one (inl is) = inl (ap make is)
among-map make (first ∷ more) one (inr among) = inr (among-map make more one among)

-- one of those that are made of others
pub record MadeOf {A B : Type 0} (make : A → B) (all : List A) (made : B) : Type 0 where
  pub one : A
  pub among : IsAmong one all
  pub is : make one ≡ made

later-made : {A B : Type 0} {make : A → B} {all : List A} {made : B} (first : A) → MadeOf make all made
    → MadeOf make (first ∷ all) made
later-made first it = record { one = it.one; among = inr it.among; is = it.is }

pub made-of : {A B : Type 0} (make : A → B) (all : List A) (made : B) → IsAmong made (map make all) → MadeOf make all made
made-of make [] made among = absurd among
made-of make (first ∷ more) made (inl is) = record { one = first; among = inl refl; is = sym is }
made-of make (first ∷ more) made (inr among) = later-made first (made-of make more made among)

-- a declaration is of what jobs do, and not of the files before them
module _ (plan : Plan) (files : Store) (all : List CleanJob) (declared : IsDeclared plan (map (at files) all)) where
  present : (one : CleanJob) → IsAmong one all → IsAmong (at files one) (map (at files) all)
  present one among = among-map (at files) all one among

  source-at : (path : List ℕ) → IsSource plan (map (at files) all) path → IsSource plan all path
  source-at path is = record {
    alone = λ one among. is.alone (at files one) (present one among);
    no_made = is.no_made;
    no_meta = is.no_meta;
  }

  before-at : (one : CleanJob) (path : List ℕ) → IsMadeBefore plan (map (at files) all) (at files one) path
      → IsMadeBefore plan all one path
  before-at one path is =
      let maker = made-of (at files) all is.maker is.among in record {
        maker = maker.one;
        among = maker.among;
        made = subst (λ (it : CleanJob). (plan.node it.node).made ≡ true) (sym maker.is) is.made;
        name = subst (λ (it : CleanJob). (plan.node it.node).name ≡ path) (sym maker.is) is.name;
        depends = subst (λ (it : CleanJob). DependsOn plan one.node it.node) (sym maker.is) is.depends;
      }

  declared-at : IsDeclared plan all
  declared-at = record {
    reads = λ one among path taken. reads one path (declared.reads (at files one) (present one among) path taken);
    changes = λ one among path changes.
        changed one path (declared.changes (at files one) (present one among) path changes);
    leaves = λ one among well made.
        let it = declared.leaves (at files one) (present one among) well made in record { bytes = it.bytes; is = it.is };
    no_meta = λ one among. declared.no_meta (at files one) (present one among);
  }
    where
      reads : (one : CleanJob) (path : List ℕ)
          → IsSource plan (map (at files) all) path ⊎ IsMadeBefore plan (map (at files) all) (at files one) path
          → IsSource plan all path ⊎ IsMadeBefore plan all one path
      reads one path (inl is) = inl (source-at path is)
      reads one path (inr is) = inr (before-at one path is)

      changed : (one : CleanJob) (path : List ℕ)
          → IsOwn plan (at files one) path ⊎ IsPrivate plan (map (at files) all) (at files one) path
          → IsOwn plan one path ⊎ IsPrivate plan all one path
      changed one path (inl is) = inl (record { made = is.made; name = is.name })
      changed one path (inr is) = inr (record {
        no_node = is.no_node;
        alone = λ other among apart. is.alone (at files other) (present other among) apart;
      })

module _ (meaning : Meaning) (plan : Plan) (files : Store) (declared : IsDeclared plan (present_jobs meaning plan files))
    (well_made : AreWellMade plan (present_jobs meaning plan files))
    (stands : (node : ℕ) → IsAmong node plan.order → (plan.node node).made ≡ true → Stands meaning plan files node)
  where
    abbrev all : List CleanJob
    all = present_jobs meaning plan files

    abbrev here : ℕ → CleanJob
    here = present_job meaning plan files

    -- the file that a made node leaves stands
    leaves : (node : ℕ) → IsAmong node plan.order → (plan.node node).made ≡ true → LeavesFile plan (here node)
    leaves node among made = declared.leaves (here node) (among-map here plan.order node among)
        (stands node among made).well made

    changes-own : (node : ℕ) → IsAmong node plan.order → (plan.node node).made ≡ true
        → Changes (here node) (plan.node node).name
    changes-own node among made =
        over_changed (plan.node node).name (Some (leaves node among made).bytes) (deeds_of (here node))
        (leaves node among made).is

    -- a job changes no made file but its own
    leaves-other : (node other : ℕ) → IsAmong node plan.order → IsAmong other plan.order
        → (plan.node other).made ≡ true → other ≢ node → LeavesIt (here node) (plan.node other).name
    leaves-other node other among other_among made apart =
        by (is_changed (deeds_of (here node)) (plan.node other).name) refl
      where
        never : IsOwn plan (here node) (plan.node other).name
            ⊎ IsPrivate plan all (here node) (plan.node other).name → ⊥
        never (inl own) = apart (sym (well_made.names (here node) (here other) (among-map here plan.order node among)
            (among-map here plan.order other other_among) own.name))
        never (inr own) = false≢true
            (sym (own.alone (here other) (among-map here plan.order other other_among) apart)
            ∙ changes-own other other_among made)

        by : (b : Bool) → is_changed (deeds_of (here node)) (plan.node other).name ≡ b
            → LeavesIt (here node) (plan.node other).name
        by true changes = absurd (never (declared.changes (here node) (among-map here plan.order node among)
            (plan.node other).name changes))
        by false is = is

    -- what stands in the clean build behind the jobs of these nodes, as far as jobs to come take it from outside
    record Behind (store : Store) (done : List ℕ) : Type 0 where
      sources : (path : List ℕ) → IsSource plan all path → store path ≡ files path
      makers : (node : ℕ) → IsAmong node done → (plan.node node).made ≡ true
          → store (plan.node node).name ≡ files (plan.node node).name

    -- a job that stands before another is that of an earlier node
    before-done : (done todo : List ℕ) (node : ℕ) (maker : CleanJob)
        → (StandsBefore (here node) (here node) (map here (done ++ node ∷ todo)) → ⊥)
        → StandsBefore maker (here node) (map here (done ++ node ∷ todo)) → IsAmong maker.node done
    before-done [] todo node maker once (inl first) = absurd (once (inl (refl, first.1)))
    before-done [] todo node maker once (inr before) =
        absurd (once (inl (refl, (before_among maker (here node) (map here todo) before).1)))
    before-done (first ∷ done) todo node maker once (inl is) = inl (ap (λ (it : CleanJob). it.node) is.0)
    before-done (first ∷ done) todo node maker once (inr before) =
        inr (before-done done todo node maker (λ twice. once (inr twice)) before)

    among-middle : (done todo : List ℕ) (node : ℕ) → IsAmong node (done ++ node ∷ todo)
    among-middle done todo node = among_last done (node ∷ todo) node (inl refl)

    among-last : (done : List ℕ) (last node : ℕ) → IsAmong node (done ++ last ∷ []) → IsAmong node done ⊎ (node ≡ last)
    among-last [] last node (inl is) = inr is
    among-last [] last node (inr past) = absurd past
    among-last (first ∷ done) last node (inl is) = inl (inl is)
    among-last (first ∷ done) last node (inr among) = by (among-last done last node among)
      where
        by : IsAmong node done ⊎ (node ≡ last) → IsAmong node (first ∷ done) ⊎ (node ≡ last)
        by (inl there) = inl (inr there)
        by (inr is) = inr is

    -- one job
    module _ (done todo : List ℕ) (node : ℕ) (order : plan.order ≡ done ++ node ∷ todo) (store : Store)
        (behind : Behind store done)
      where
        node-among : IsAmong node plan.order
        node-among = subst (IsAmong node) (sym order) (among-middle done todo node)

        done-among : (other : ℕ) → IsAmong other done → IsAmong other plan.order
        done-among other among = subst (IsAmong other) (sym order) (among_first done (node ∷ todo) other among)

        once : StandsBefore (here node) (here node) all → ⊥
        once twice = well_made.once (here node) (here node) twice refl

        earlier : (maker : CleanJob) → IsAmong maker all → DependsOn plan node maker.node → IsAmong maker.node done
        earlier maker among depends =
            before-done done todo node maker
            (λ twice. once (subst (λ l. StandsBefore (here node) (here node) (map here l)) (sym order) twice))
            (subst (λ l. StandsBefore maker (here node) (map here l)) order
            (well_made.ordered (here node) maker (among-map here plan.order node node-among) among depends))

        read : (path : List ℕ) → IsSource plan all path ⊎ IsMadeBefore plan all (here node) path
            → files path ≡ store path
        read path (inl source) = sym (behind.sources path source)
        read path (inr made) =
            subst (λ p. files p ≡ store p) made.name
            (sym (behind.makers made.maker.node (earlier made.maker made.among made.depends) made.made))

        same : doings_on meaning plan node store ≡ doings_on meaning plan node files
        same = job_agree meaning plan.command (plan.node node).lines files store
            (agree_on files store (outer nothing_over (deeds_of (here node)))
            (λ path taken. read path (declared.reads (here node) (among-map here plan.order node node-among) path taken)))

        abbrev after : Store
        after = after_deeds store (deeds_of (here node))

        after-is : after_by meaning plan.command (lines_in plan) node store ≡ after
        after-is = ap (λ doings. after_deeds store (deeds_of_job doings)) same

        apart : (other : ℕ) → IsAmong other done → other ≢ node
        apart other among is =
            once (subst (λ l. StandsBefore (here node) (here node) (map here l)) (sym order)
            (twice done (subst (λ n. IsAmong n done) is among)))
          where
            twice : (done : List ℕ) → IsAmong node done
                → StandsBefore (here node) (here node) (map here (done ++ node ∷ todo))
            twice [] among = absurd among
            twice (first ∷ done) (inl same) =
                inl (ap here same, among-map here (done ++ node ∷ todo) node (among-middle done todo node))
            twice (first ∷ done) (inr among) = inr (twice done among)

        next : Behind after (done ++ node ∷ [])
        next = record {
          sources = λ path source.
              unchanged store (deeds_of (here node)) path
              (source.alone (here node) (among-map here plan.order node node-among))
              ∙ behind.sources path source;
          makers = λ other among made. by other made (among-last done node other among);
        }
          where
            by : (other : ℕ) → (plan.node other).made ≡ true → IsAmong other done ⊎ (other ≡ node)
                → after (plan.node other).name ≡ files (plan.node other).name
            by other made (inl among) =
                unchanged store (deeds_of (here node)) (plan.node other).name
                (leaves-other node other node-among (done-among other among) made (apart other among))
                ∙ behind.makers other among made
            by other made (inr is) = subst (λ n. after (plan.node n).name ≡ files (plan.node n).name) (sym is)
                (own (subst (λ n. (plan.node n).made ≡ true) is made))
              where
                own : (plan.node node).made ≡ true → after (plan.node node).name ≡ files (plan.node node).name
                own made =
                    let left = leaves node node-among made in
                    after_over store (deeds_of (here node)) (plan.node node).name (Some left.bytes) left.is
                    ∙ sym ((stands node node-among made).left (Some left.bytes) left.is)

    -- the jobs of these nodes, and what stands behind them
    record Walked (store : Store) (done todo : List ℕ) : Type 0 where
      jobs : map (at files) (jobs_by meaning plan.command (lines_in plan) todo store) ≡ map here todo
      behind : Behind (files_by meaning plan.command (lines_in plan) todo store) (done ++ todo)

    walk : (done todo : List ℕ) → plan.order ≡ done ++ todo → (store : Store) → Behind store done
        → Walked store done todo
    walk done [] order store behind =
        record { jobs = refl; behind = subst (Behind store) (sym (append-nil done)) behind }
    walk done (node ∷ todo) order store behind =
        let step = after-is done todo node order store behind in
        let rest = walk (done ++ node ∷ []) todo (order ∙ sym (append_assoc done (node ∷ []) todo))
        (after_by meaning plan.command (lines_in plan) node store)
        (subst (λ s. Behind s (done ++ node ∷ [])) (sym step) (next done todo node order store behind)) in
        record {
          jobs = ap₂ (λ doings (more : List CleanJob). record { node = node; before = files; doings = doings } ∷ more)
              (same done todo node order store behind) rest.jobs;
          behind = subst (Behind (files_by meaning plan.command (lines_in plan) (node ∷ todo) store))
              (append_assoc done (node ∷ []) todo) rest.behind;
        }

    cleared-source : (path : List ℕ) → IsSource plan all path → cleared plan files path ≡ files path
    cleared-source path source =
        ap (λ b. if b || plan.is_meta path then None else files path) source.no_made
        ∙ ap (λ b. if b then None else files path) source.no_meta

    walked : Walked (cleared plan files) [] plan.order
    walked = walk [] plan.order refl (cleared plan files)
        (record { sources = cleared-source; makers = λ node among. absurd among })

    is-present : IsPresent meaning plan files
    is-present = record {
      jobs = walked.jobs;
      declared = declared-at plan files (clean_build meaning plan files)
          (subst (IsDeclared plan) (sym walked.jobs) declared);
      same = walked.behind.makers;
    }

pub present-clean : PresentJobsAreClean
present-clean meaning plan files declared well_made stands = is-present meaning plan files declared well_made stands
