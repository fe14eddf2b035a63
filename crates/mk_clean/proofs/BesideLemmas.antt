-- A build beside the clean build: at each moment, what each job has done so far is the beginning of what it
-- does in the clean build.
use Rattle.std.proofs.Common.{◌≡◌, ◌≢◌, ◌⊎◌, inl, inr, ⊎_elim, ℕ, ◌==◌, List, [], ◌∷◌, ◌++◌, Option, Some, None, Bool, true, false, if◌then◌else◌, ◌||◌, refl, sym, ◌∙◌, ap, subst, append-nil, eqb-true}
use Rattle.std.proofs.lemmas.Bool.{eqb-false, false≢true}
use Rattle.std.proofs.lemmas.Slice.Eq.{bytes_eq-Decides}
use Rattle.std.specs.Str.{bytes_eq}
use Rattle.mk_clean.proofs.CleanLemmas.{after_over, after_none, put_elsewhere, bool_two, over_changed, changed_first, changed_last, step_elsewhere, doings_in_clean, untouched, left_by, left_at_end, job_of_node, before_among, agree_on, among_first, among_last}
use Rattle.mk_clean.proofs.JobLemmas.{JobTalks, IsJob, job_is, job_agree}
use Rattle.mk_clean.specs.Clean.{Plan, lines_in, IsAmong, DependsOn, CleanJob, deeds_of, doings_on, cleared, clean_build, clean_files, AllWell, IsWell, is_changed, Changes, LeavesIt, StandsBefore}
use Rattle.mk_clean.specs.Declared.{IsSource, IsMadeBefore, IsOwn, IsPrivate, IsDeclared, AreWellMade}
use Rattle.mk_clean.specs.Jobs.{goes_on}
use Rattle.mk_clean.specs.Same.{BuildsAreClean}
use Rattle.mk_clean.specs.Turns.{Stage, waiting, between, inside, settled, failed, Build, first_build, Turn, looks_at, keeps, begins, starts_line, steps, ends_line, fails, settles, removes, puts_meta, with_stage, started, stepped, line_ended, with_look, at_stage, after_turn, after_turns, SourcesSettled, seen_by, doings_seen, MayKeep, IsAsked, MayStep, ended_with, HasEnded, MayEndLine, MayFail, MayTurn, MayTurns}
use Rattle.mk_meta.specs.TrueHistory.{deeds_of_job}
use Rattle.mk_world.proofs.TalkLemmas.{deed_at-told, more-not_over, same_request}
use Rattle.mk_world.specs.Deeds.{Store, Spot, saw, changes, put, put_all, after_deed, after_deeds, IsRight, Meets}
use Rattle.mk_world.specs.Outer.{Over, nothing_over, over_spot, over_spots, over_deed, over_deeds, or_stood, outer_at, outer_spot, outer, AgreeOn}
use Rattle.mk_world.specs.Talks.{NextOf, Meaning, Doing, Talks, answer, looked, moved, deed_on}
use Rattle.mk_world.specs.declared.command.Cmd.{Cmd}
use Rattle.mk_world.specs.declared.command.TaskLine.{TaskLine}
use Rattle.mk_world.specs.declared.step.Answer.{Answer}
use Rattle.mk_world.specs.declared.step.Deed.{Deed}
use Rattle.mk_world.specs.declared.step.Next.TheVariants.{More, Over as Ended}
use Rattle.mk_world.specs.declared.step.Request.{Request}
use Rattle.mk_world.specs.declared.step.Request.TheVariants as ask

-- what holds at each moment

-- what a job changed so far stands
abbrev pub Stands : List Deed → Store → Type 0
Stands deeds files =
    (path : List ℕ) (bytes : Option (List ℕ)) → over_deeds nothing_over deeds path ≡ Some bytes
    → files path ≡ bytes

-- the rest of a job of the clean build, behind these steps and before these lines
pub record Ahead (next : NextOf) (plan : Plan) (one : CleanJob) (deeds : List Deed)
    (lines : List TaskLine) : Type 0
  where
    pub rest : List Doing
    pub talks : JobTalks next plan.command lines rest
    pub is : deeds_of one ≡ deeds ++ deeds_of_job rest
    pub meets : Meets (after_deeds one.before deeds) (deeds_of_job rest)
    -- where the rest goes well, all does, and the other way round
    pub success : AllWell lines rest → IsWell plan one
    pub back : IsWell plan one → AllWell lines rest

-- the same inside a line, whose command was answered so
pub record AheadInside (next : NextOf) (plan : Plan) (one : CleanJob) (deeds : List Deed)
    (seen : List Answer) (line : TaskLine) (lines : List TaskLine) : Type 0
  where
    pub todo : List Deed
    pub status : ℕ
    pub output : List ℕ
    pub rest : List Doing
    pub talks : Talks next (plan.command line) seen todo status output
    pub goes : goes_on line (ended_with status output) ≡ true → JobTalks next plan.command lines rest
    pub stops : goes_on line (ended_with status output) ≡ false → rest ≡ []
    pub is : deeds_of one ≡ deeds ++ (todo ++ deeds_of_job rest)
    pub meets : Meets (after_deeds one.before deeds) (todo ++ deeds_of_job rest)
    pub success : goes_on line (ended_with status output) ≡ true → AllWell lines rest → IsWell plan one
    pub back : IsWell plan one → (goes_on line (ended_with status output) ≡ true) × AllWell lines rest

-- the made file of a job that is settled has the bytes of the clean build
abbrev pub HasItsFile : Plan → CleanJob → Store → Type 0
HasItsFile plan one files =
    (plan.node one.node).made ≡ true → (bytes : Option (List ℕ))
    → over_deeds nothing_over (deeds_of one) (plan.node one.node).name ≡ Some bytes
    → files (plan.node one.node).name ≡ bytes

abbrev pub JobIs : NextOf → Plan → Build → CleanJob → Stage → Type 0
JobIs next plan build one waiting = Unit {0}
JobIs next plan build one (between deeds lines) =
    SourcesSettled plan build one.node × Ahead next plan one deeds lines × Stands deeds build.files
JobIs next plan build one (inside deeds seen line lines) =
    SourcesSettled plan build one.node × AheadInside next plan one deeds seen line lines
    × Stands deeds build.files
JobIs next plan build one settled = IsWell plan one × HasItsFile plan one build.files
JobIs next plan build one failed = Unit {0}

abbrev pub IsPlanned : List CleanJob → ℕ → Type 0
IsPlanned all node = (one : CleanJob) × IsAmong one all × (one.node ≡ node)

-- a node that has begun has a job in the clean build
abbrev pub PlannedAt : List CleanJob → ℕ → Stage → Type 0
PlannedAt all node waiting = Unit {0}
PlannedAt all node (between deeds lines) = IsPlanned all node
PlannedAt all node (inside deeds seen line lines) = IsPlanned all node
PlannedAt all node settled = Unit {0}
PlannedAt all node failed = IsPlanned all node

pub record Beside (next : NextOf) (plan : Plan) (store : Store) (all : List CleanJob) (build : Build)
    : Type 0
  where
    pub jobs : (one : CleanJob) → IsAmong one all → JobIs next plan build one (build.stage one.node)
    pub sources : (path : List ℕ) → ((one : CleanJob) → IsAmong one all → LeavesIt one path)
        → plan.is_made path ≡ false → plan.is_meta path ≡ false → build.files path ≡ store path
    pub planned : (node : ℕ) → PlannedAt all node (build.stage node)
    -- looks at what a job takes from outside saw what the clean build has there
    pub looked : (one : CleanJob) → IsAmong one all → (path : List ℕ)
        → IsAmong path (outer nothing_over (deeds_of one)) → (bytes : Option (List ℕ))
        → build.looks one.node path ≡ Some bytes → one.before path ≡ bytes
    pub looked_own : (one : CleanJob) → IsAmong one all → build.stage one.node ≡ waiting
        → Changes one (plan.node one.node).name → (bytes : Option (List ℕ))
        → build.looks one.node (plan.node one.node).name ≡ Some bytes
        → build.files (plan.node one.node).name ≡ bytes

-- the next step of a command

abbrev AgreeAt : Store → Store → Option Spot → Type 0
AgreeAt first second sees = (spot : Spot) → sees ≡ Some spot → first spot.path ≡ second spot.path

looked_same : (first second : Store) (path : List ℕ) (one other : Option (List ℕ)) → first path ≡ one
    → second path ≡ other → AgreeAt first second (saw (looked path one))
    → looked path one ≡ looked path other
looked_same first second path None other is also agree =
    ap (looked path) (sym is ∙ (agree _ refl ∙ also))
looked_same first second path (Some bytes) other is also agree =
    ap (looked path) (sym is ∙ (agree _ refl ∙ also))

moved_same : (first second : Store) (from to : List ℕ) (one other : Option (List ℕ)) → first from ≡ one
    → second from ≡ other → AgreeAt first second (saw (moved from to one))
    → moved from to one ≡ moved from to other
moved_same first second from to None other is also agree =
    ap (moved from to) (sym is ∙ (agree _ refl ∙ also))
moved_same first second from to (Some bytes) other is also agree =
    ap (moved from to) (sym is ∙ (agree _ refl ∙ also))

-- a request does the same on two maps that agree where it looks
deed_same : (request : Request) (first second : Store)
    → AgreeAt first second (saw (deed_on request first))
    → deed_on request first ≡ deed_on request second
deed_same (ask.Look path) first second agree =
    looked_same first second path (first path) (second path) refl refl agree
deed_same (ask.Write path bytes) first second agree = refl
deed_same (ask.Delete path) first second agree = refl
deed_same (ask.Move from to) first second agree =
    moved_same first second from to (first from) (second from) refl refl agree

-- A child that stands before the rest of what it does in the clean build does the next step of it, where
-- the files agree on what that step saw.
next_deed : (next : NextOf) (cmd : Cmd) (seen : List Answer) (deed : Deed) (todo rest : List Deed)
    (status : ℕ) (output : List ℕ) (files clean : Store)
    → IsRight files deed → IsAsked next cmd seen deed
    → Talks next cmd seen todo status output → Meets clean (todo ++ rest)
    → ((first : Deed) (more : List Deed) → todo ≡ first ∷ more → AgreeAt clean files (saw first))
    → (more : List Deed) × (todo ≡ deed ∷ more)
    × Talks next cmd (seen ++ answer deed ∷ []) more status output
next_deed next cmd seen deed [] rest status output files clean right asked talks meets agree =
    let clash : Ended status output ≡ More asked.request = sym talks ∙ asked.next_is in
    absurd (more-not_over (Ended status output) asked.request clash tt)
next_deed next cmd seen deed (first ∷ more) rest status output files clean right asked talks meets agree =
    let requests : asked.request ≡ talks.0 =
    same_request (next cmd seen) asked.request talks.0 asked.next_is talks.2 in
    let mine : deed ≡ deed_on asked.request files =
    asked.deed_is
    ∙ deed_at-told files asked.request asked.stands (subst (IsRight files) asked.deed_is right) in
    let its : first ≡ deed_on talks.0 clean =
    talks.3 ∙ deed_at-told clean talks.0 talks.1 (subst (IsRight clean) talks.3 meets.0) in
    let both : deed_on talks.0 clean ≡ deed_on talks.0 files =
    deed_same talks.0 clean files
    (λ spot sees. agree first more refl spot (ap saw its ∙ sees)) in
    let same : first ≡ deed =
    its ∙ (both ∙ (ap (λ request. deed_on request files) (sym requests) ∙ sym mine)) in (
      more,
      ap (λ one. one ∷ more) same,
      subst (λ one. Talks next cmd (seen ++ answer one ∷ []) more status output) same talks.4,
    )

-- what a step takes from outside belongs to what all of them take

outer_behind : (over : Over) (deeds more : List Deed) (path : List ℕ)
    → IsAmong path (outer (over_deeds over deeds) more) → IsAmong path (outer over (deeds ++ more))
outer_behind over [] more path among = among
outer_behind over (deed ∷ deeds) more path among =
    among_last (outer_spot over (saw deed)) (outer (over_deed over deed) (deeds ++ more)) path
    (outer_behind (over_deed over deed) deeds more path among)

outer_here : (over : Over) (spot : Spot) → over spot.path ≡ None
    → IsAmong spot.path (outer_spot over (Some spot))
outer_here over spot is = subst (λ one. IsAmong spot.path (outer_at one spot.path)) (sym is) (inl refl)

-- stages and changes

abbrev IsOver_ : Option (Option (List ℕ)) → Type 0
IsOver_ over = ((bytes : Option (List ℕ)) × (over ≡ Some bytes)) ⊎ (over ≡ None)

option_two : (over : Option (Option (List ℕ))) → IsOver_ over
option_two None = inr refl
option_two (Some bytes) = inl (bytes, refl)

pub stage_other : (node other : ℕ) (stage : Stage) (stages : ℕ → Stage) → (node == other) ≡ false
    → with_stage node stage stages other ≡ stages other
stage_other node other stage stages differ = ap (λ here. if here then stage else stages other) differ

pub stage_own : (node other : ℕ) (stage : Stage) (stages : ℕ → Stage) → (node == other) ≡ true
    → with_stage node stage stages other ≡ stage
stage_own node other stage stages same = ap (λ here. if here then stage else stages other) same

settled_stays : (node other : ℕ) (stage : Stage) (stages : ℕ → Stage) → stages node ≢ settled
    → stages other ≡ settled → with_stage node stage stages other ≡ settled
settled_stays node other stage stages running is =
    ⊎_elim (λ same. absurd (running (ap stages (eqb-true node other same) ∙ is)))
    (λ differ. stage_other node other stage stages differ ∙ is) (bool_two (node == other))

not_settled_waiting : waiting ≢ settled
not_settled_waiting is = cc

not_settled_between : (deeds : List Deed) (lines : List TaskLine) → between deeds lines ≢ settled
not_settled_between deeds lines is = cc

not_settled_inside : (deeds : List Deed) (seen : List Answer) (line : TaskLine) (lines : List TaskLine)
    → inside deeds seen line lines ≢ settled
not_settled_inside deeds seen line lines is = cc

not_waiting_between : (deeds : List Deed) (lines : List TaskLine) → between deeds lines ≢ waiting
not_waiting_between deeds lines is = cc

not_waiting_inside : (deeds : List Deed) (seen : List Answer) (line : TaskLine) (lines : List TaskLine)
    → inside deeds seen line lines ≢ waiting
not_waiting_inside deeds seen line lines is = cc

not_waiting_failed : failed ≢ waiting
not_waiting_failed is = cc

none_over : (bytes : Option (List ℕ)) (path : List ℕ) → nothing_over path ≡ Some bytes → ⊥
none_over bytes path is = cc

after_last : (store : Store) (deeds : List Deed) (deed : Deed)
    → after_deeds store (deeds ++ deed ∷ []) ≡ after_deed (after_deeds store deeds) deed
after_last store [] deed = refl
after_last store (first ∷ deeds) deed = after_last (after_deed store first) deeds deed

append_one : (deeds : List Deed) (deed : Deed) (more : List Deed)
    → deeds ++ deed ∷ more ≡ (deeds ++ deed ∷ []) ++ more
append_one [] deed more = refl
append_one (first ∷ deeds) deed more = ap (λ all. first ∷ all) (append_one deeds deed more)

over_last : (over : Over) (deeds : List Deed) (deed : Deed)
    → over_deeds over (deeds ++ deed ∷ []) ≡ over_deed (over_deeds over deeds) deed
over_last over [] deed = refl
over_last over (first ∷ deeds) deed = over_last (over_deed over first) deeds deed

stands_at : (here : Bool) (put_there bytes : Option (List ℕ)) (over : Option (Option (List ℕ)))
    (stood : Option (List ℕ)) → (over ≡ Some bytes → stood ≡ bytes)
    → (if here then Some put_there else over) ≡ Some bytes
    → (if here then put_there else stood) ≡ bytes
stands_at true put_there bytes over stood stands is = cc
stands_at false put_there bytes over stood stands is = stands is

stands_put : (over : Over) (store : Store) (spots : List Spot)
    → ((path : List ℕ) (bytes : Option (List ℕ)) → over path ≡ Some bytes → store path ≡ bytes)
    → (path : List ℕ) (bytes : Option (List ℕ)) → over_spots over spots path ≡ Some bytes
    → put_all store spots path ≡ bytes
stands_put over store [] stands = stands
stands_put over store (spot ∷ spots) stands =
    stands_put (over_spot over spot) (put store spot) spots
    (λ path bytes is.
    stands_at (bytes_eq spot.path path) spot.bytes bytes (over path) (store path) (stands path bytes) is)

pub job_nil : (next : NextOf) (command : TaskLine → Cmd) (rest : List Doing)
    → JobTalks next command [] rest → rest ≡ []
job_nil next command [] talks = refl
job_nil next command (one ∷ rest) talks = absurd talks

-- one turn

module _ (meaning : Meaning) (plan : Plan) (store : Store)
    (declared : IsDeclared plan (clean_build meaning plan store))
    (well_made : AreWellMade plan (clean_build meaning plan store))
  where
    abbrev pub all : List CleanJob
    all = clean_build meaning plan store

    abbrev pub IsBeside : Build → Type 0
    IsBeside build = Beside meaning.next plan store all build

    -- no two jobs change one path
    apart : (one other : CleanJob) → IsAmong one all → IsAmong other all → one.node ≢ other.node
        → (path : List ℕ) → Changes one path → Changes other path → ⊥
    apart one other has_one has_other differ path changes also =
        by (declared.changes one has_one path changes) (declared.changes other has_other path also)
      where
        by : IsOwn plan one path ⊎ IsPrivate plan all one path
            → IsOwn plan other path ⊎ IsPrivate plan all other path → ⊥
        by (inl own) (inl theirs) =
            differ (well_made.names one other has_one has_other (own.name ∙ sym theirs.name))
        by (inl own) (inr theirs) = false≢true (sym (theirs.alone one has_one differ) ∙ changes)
        by (inr own) theirs =
            false≢true (sym (own.alone other has_other (λ same. differ (sym same))) ∙ also)

    later_leaves : (maker later : CleanJob) → StandsBefore maker later all → (path : List ℕ)
        → Changes maker path → LeavesIt later path
    later_leaves maker later before path changes =
        ⊎_elim (λ also. absurd (apart maker later (before_among maker later all before).0
        (before_among maker later all before).1 (well_made.once maker later before) path changes also))
        (λ leaves. leaves) (bool_two (is_changed (deeds_of later) path))

    cleared_at : (path : List ℕ) → plan.is_made path ≡ false → plan.is_meta path ≡ false
        → cleared plan store path ≡ store path
    cleared_at path no_made no_meta =
        ap (λ made. if made || plan.is_meta path then None else store path) no_made
        ∙ ap (λ is_meta. if is_meta then None else store path) no_meta

    -- where what a job depends on is settled, it finds outside what it finds in the clean build
    reads_are_right : (build : Build) → IsBeside build → (one : CleanJob) → IsAmong one all
        → SourcesSettled plan build one.node → (path : List ℕ)
        → IsAmong path (outer nothing_over (deeds_of one)) → one.before path ≡ build.files path
    reads_are_right build beside one among settled_are path reads =
        by (declared.reads one among path reads)
      where
        by : IsSource plan all path ⊎ IsMadeBefore plan all one path → one.before path ≡ build.files path
        by (inl is) =
            (untouched meaning plan.command (lines_in plan) path plan.order (cleared plan store) is.alone).1 one
            among
            ∙ (cleared_at path is.no_made is.no_meta
            ∙ sym (beside.sources path is.alone is.no_made is.no_meta))
        by (inr is) =
            let made_it = subst (JobIs meaning.next plan build is.maker)
            (settled_are is.maker.node is.depends) (beside.jobs is.maker is.among) in
            let file = declared.leaves is.maker is.among made_it.0 is.made in
            let now : build.files (plan.node is.maker.node).name ≡ Some file.bytes =
            made_it.1 is.made (Some file.bytes) file.is in
            let before : one.before (plan.node is.maker.node).name ≡ Some file.bytes =
            left_by meaning plan.command (lines_in plan) (plan.node is.maker.node).name (Some file.bytes) is.maker
            file.is plan.order (cleared plan store)
            (λ later stands. later_leaves is.maker later stands (plan.node is.maker.node).name
            (over_changed (plan.node is.maker.node).name (Some file.bytes) (deeds_of is.maker) file.is))
            one (well_made.ordered one is.maker among is.among is.depends) in
            subst (λ at. one.before at ≡ build.files at) is.name (before ∙ sym now)

    -- a job that a turn does not touch is as before
    job_moves : (build next : Build) (one : CleanJob) (stage : Stage)
        → ((node : ℕ) → build.stage node ≡ settled → next.stage node ≡ settled)
        → ((path : List ℕ) → Changes one path → next.files path ≡ build.files path)
        → JobIs meaning.next plan build one stage → JobIs meaning.next plan next one stage
    job_moves build next one waiting stays same is = tt
    job_moves build next one (between deeds lines) stays same is = (
      (λ node depends. stays node (is.0 node depends)),
      is.1,
      (λ path bytes over. same path (subst (λ deeds. is_changed deeds path ≡ true) (sym is.1.is)
          (changed_first path deeds (deeds_of_job is.1.rest) (over_changed path bytes deeds over)))
          ∙ is.2 path bytes over),
    )
    job_moves build next one (inside deeds seen line lines) stays same is = (
      (λ node depends. stays node (is.0 node depends)),
      is.1,
      (λ path bytes over. same path (subst (λ deeds. is_changed deeds path ≡ true) (sym is.1.is)
          (changed_first path deeds (is.1.todo ++ deeds_of_job is.1.rest)
          (over_changed path bytes deeds over))) ∙ is.2 path bytes over),
    )
    job_moves build next one settled stays same is = (
      is.0,
      (λ made bytes over. same (plan.node one.node).name
          (over_changed (plan.node one.node).name bytes (deeds_of one) over) ∙ is.1 made bytes over),
    )
    job_moves build next one failed stays same is = tt

    -- a turn of a node that changes no more than its job does
    turn_of : (build : Build) (node : ℕ) (stage : Stage) (files : Store) → stage ≢ waiting
        → build.stage node ≢ settled → IsBeside build
        → ((one : CleanJob) → IsAmong one all → one.node ≢ node → (path : List ℕ) → Changes one path
        → files path ≡ build.files path)
        → ((path : List ℕ) → ((one : CleanJob) → IsAmong one all → LeavesIt one path)
        → plan.is_meta path ≡ false → files path ≡ build.files path)
        → ((one : CleanJob) → IsAmong one all → one.node ≡ node
        → ((other : ℕ) → build.stage other ≡ settled → with_stage node stage build.stage other ≡ settled)
        → JobIs meaning.next plan (at_stage build node stage files) one stage)
        → PlannedAt all node stage → IsBeside (at_stage build node stage files)
    turn_of build node stage files begun running beside others free own planned = record {
      jobs = λ one among. ⊎_elim
          (λ same. subst (JobIs meaning.next plan (at_stage build node stage files) one)
          (sym (stage_own node one.node stage build.stage same))
          (own one among (sym (eqb-true node one.node same)) stays))
          (λ differ. subst (JobIs meaning.next plan (at_stage build node stage files) one)
          (sym (stage_other node one.node stage build.stage differ))
          (job_moves build (at_stage build node stage files) one (build.stage one.node) stays
          (others one among (λ is. eqb-false node one.node differ (sym is))) (beside.jobs one among)))
          (bool_two (node == one.node));
      sources = λ path leave no_made no_meta.
          free path leave no_meta ∙ beside.sources path leave no_made no_meta;
      planned = λ other. ⊎_elim
          (λ same. subst (PlannedAt all other) (sym (stage_own node other stage build.stage same))
          (subst (λ k. PlannedAt all k stage) (eqb-true node other same) planned))
          (λ differ. subst (PlannedAt all other) (sym (stage_other node other stage build.stage differ))
          (beside.planned other))
          (bool_two (node == other));
      looked = beside.looked;
      looked_own = λ one among waits changes bytes saw_it. ⊎_elim
          (λ same. absurd (begun (sym (stage_own node one.node stage build.stage same) ∙ waits)))
          (λ differ. others one among (λ is. eqb-false node one.node differ (sym is))
          (plan.node one.node).name changes
          ∙ beside.looked_own one among (sym (stage_other node one.node stage build.stage differ) ∙ waits)
          changes bytes saw_it)
          (bool_two (node == one.node));
    }
      where
        stays : (other : ℕ) → build.stage other ≡ settled
            → with_stage node stage build.stage other ≡ settled
        stays other is = settled_stays node other stage build.stage running is

    -- a node is kept
    keeps_turn : (build : Build) (node : ℕ) → IsBeside build → MayTurn meaning plan build (keeps node)
        → IsBeside (after_turn plan build (keeps node))
    keeps_turn build node beside may =
        turn_of build node settled build.files (λ is. not_settled_waiting (sym is))
        (λ is. not_settled_waiting (sym may.0 ∙ is)) beside (λ one among differ path changes. refl)
        (λ path leave no_meta. refl)
        (λ one among is stays. kept_own one among (subst (λ k. build.stage k ≡ waiting) (sym is) may.0)
        (subst (SourcesSettled plan build) (sym is) may.1)
        (subst (MayKeep meaning plan build) (sym is) may.2)) tt
      where
        seen_right : (one : CleanJob) → IsAmong one all → SourcesSettled plan build one.node
            → (path : List ℕ) → IsAmong path (outer nothing_over (deeds_of one))
            → IsOver_ (build.looks one.node path) → one.before path ≡ seen_by build one.node path
        seen_right one among settled_are path reads (inl over) =
            beside.looked one among path reads over.0 over.1
            ∙ sym (ap (λ stands. or_stood stands (build.files path)) over.1)
        seen_right one among settled_are path reads (inr none) =
            reads_are_right build beside one among settled_are path reads
            ∙ sym (ap (λ stands. or_stood stands (build.files path)) none)

        own_right : (one : CleanJob) → IsAmong one all → build.stage one.node ≡ waiting
            → Changes one (plan.node one.node).name
            → IsOver_ (build.looks one.node (plan.node one.node).name)
            → build.files (plan.node one.node).name ≡ seen_by build one.node (plan.node one.node).name
        own_right one among waits changes (inl over) =
            beside.looked_own one among waits changes over.0 over.1
            ∙ sym (ap (λ stands. or_stood stands (build.files (plan.node one.node).name)) over.1)
        own_right one among waits changes (inr none) =
            sym (ap (λ stands. or_stood stands (build.files (plan.node one.node).name)) none)

        kept_own : (one : CleanJob) → IsAmong one all → build.stage one.node ≡ waiting
            → SourcesSettled plan build one.node → MayKeep meaning plan build one.node
            → IsWell plan one × HasItsFile plan one build.files
        kept_own one among waits settled_are keep =
            let ran : one.doings ≡ doings_on meaning plan one.node one.before =
            doings_in_clean meaning plan.command (lines_in plan) plan.order (cleared plan store) one among in
            let agree : AgreeOn one.before (seen_by build one.node) (outer nothing_over (deeds_of one)) =
            agree_on one.before (seen_by build one.node) (outer nothing_over (deeds_of one))
            (λ path reads.
            seen_right one among settled_are path reads (option_two (build.looks one.node path))) in
            let same : doings_seen meaning plan build one.node ≡ doings_on meaning plan one.node one.before =
            job_agree meaning plan.command (plan.node one.node).lines one.before (seen_by build one.node)
            (subst (λ doings. AgreeOn one.before (seen_by build one.node)
            (outer nothing_over (deeds_of_job doings))) ran agree) in (
              subst (AllWell (plan.node one.node).lines) (same ∙ sym ran) keep.well,
              (λ made bytes over. own_right one among waits
                  (over_changed (plan.node one.node).name bytes (deeds_of one) over)
                  (option_two (build.looks one.node (plan.node one.node).name))
                  ∙ keep.stands bytes
                  (subst (λ doings. over_deeds nothing_over (deeds_of_job doings) (plan.node one.node).name
                  ≡ Some bytes) (ran ∙ sym same) over)),
            )

    -- a node is looked at
    looks_turn : (build : Build) (node : ℕ) (path : List ℕ) → IsBeside build
        → MayTurn meaning plan build (looks_at node path)
        → IsBeside (after_turn plan build (looks_at node path))
    looks_turn build node path beside may = record {
      jobs = λ one among. job_moves build (after_turn plan build (looks_at node path)) one
          (build.stage one.node) (λ other is. is) (λ at changes. refl) (beside.jobs one among);
      sources = beside.sources;
      planned = beside.planned;
      looked = λ one among at reads bytes saw_it. look one at bytes (one.before at ≡ bytes)
          (λ same here stood. ap one.before (sym here)
          ∙ (reads_are_right build beside one among (subst (SourcesSettled plan build) same may.1) path
          (subst (λ other. IsAmong other (outer nothing_over (deeds_of one))) (sym here) reads) ∙ stood))
          (beside.looked one among at reads bytes) saw_it;
      looked_own = λ one among waits changes bytes saw_it.
          look one (plan.node one.node).name bytes (build.files (plan.node one.node).name ≡ bytes)
          (λ same here stood. ap build.files (sym here) ∙ stood)
          (beside.looked_own one among waits changes bytes) saw_it;
    }
      where
        at_path : (here : Bool) (bytes : Option (List ℕ)) (over : Option (Option (List ℕ))) (P : Type 0)
            → (here ≡ true → build.files path ≡ bytes → P) → (over ≡ Some bytes → P)
            → (if here then Some (build.files path) else over) ≡ Some bytes → P
        at_path true bytes over P new old is =
            let stood : build.files path ≡ bytes = cc in new refl stood
        at_path false bytes over P new old is = old is

        at_node : (mine : Bool) (at : List ℕ) (bytes : Option (List ℕ)) (over : Over) (P : Type 0)
            → (mine ≡ true → path ≡ at → build.files path ≡ bytes → P) → (over at ≡ Some bytes → P)
            → (if mine then (λ other. if bytes_eq path other then Some (build.files path) else over other)
            else over) at ≡ Some bytes → P
        at_node true at bytes over P new old is =
            at_path (bytes_eq path at) bytes (over at) P
            (λ here stood. new refl ((bytes_eq-Decides path at).0 here) stood) old is
        at_node false at bytes over P new old is = old is

        look : (one : CleanJob) (at : List ℕ) (bytes : Option (List ℕ)) (P : Type 0)
            → (node ≡ one.node → path ≡ at → build.files path ≡ bytes → P)
            → (build.looks one.node at ≡ Some bytes → P)
            → with_look node path (build.files path) build.looks one.node at ≡ Some bytes → P
        look one at bytes P new old is =
            at_node (node == one.node) at bytes (build.looks one.node) P
            (λ mine here stood. new (eqb-true node one.node mine) here stood) old is

    begins_turn : (build : Build) (node : ℕ) → IsBeside build → MayTurn meaning plan build (begins node)
        → IsBeside (after_turn plan build (begins node))
    begins_turn build node beside may =
        turn_of build node (between [] (plan.node node).lines) build.files
        (λ is. not_waiting_between _ _ is) (λ is. not_settled_waiting (sym may.0 ∙ is)) beside
        (λ one among differ path changes. refl) (λ path leave no_meta. refl)
        (λ one among is stays. (
          (λ other depends. stays other (may.1 other (subst (λ k. DependsOn plan k other) is depends))),
          subst (λ k. Ahead meaning.next plan one [] (plan.node k).lines) is (first one among),
          (λ path bytes over. absurd (none_over bytes path over)),
        ))
        (job_of_node meaning plan.command (lines_in plan) node plan.order (cleared plan store) may.2)
      where
        first : (one : CleanJob) → IsAmong one all
            → Ahead meaning.next plan one [] (plan.node one.node).lines
        first one among =
            let is : IsJob meaning.next plan.command (plan.node one.node).lines one.before one.doings =
            subst (IsJob meaning.next plan.command (plan.node one.node).lines one.before)
            (sym (doings_in_clean meaning plan.command (lines_in plan) plan.order (cleared plan store) one among))
            (job_is meaning plan.command (plan.node one.node).lines one.before) in
            record {
              rest = one.doings;
              talks = is.0;
              is = refl;
              meets = is.1;
              success = λ well. well;
              back = λ well. well;
            }

    pub job_at : (build : Build) → IsBeside build → (node : ℕ) (stage : Stage) → build.stage node ≡ stage
        → (one : CleanJob) → IsAmong one all → one.node ≡ node → JobIs meaning.next plan build one stage
    job_at build beside node stage at one among is =
        subst (JobIs meaning.next plan build one) (ap build.stage is ∙ at) (beside.jobs one among)

    starts_turn : (build : Build) (node : ℕ) → IsBeside build
        → MayTurn meaning plan build (starts_line node)
        → IsBeside (after_turn plan build (starts_line node))
    starts_turn build node beside may =
        subst (λ stage. IsBeside (at_stage build node (started stage) build.files)) (sym may.3)
        (turn_of build node (inside may.0 [] may.1 may.2) build.files
        (λ is. not_waiting_inside may.0 [] may.1 may.2 is)
        (λ is. not_settled_between may.0 (may.1 ∷ may.2) (sym may.3 ∙ is)) beside
        (λ one among differ path changes. refl) (λ path leave no_meta. refl)
        (λ one among is stays.
        let old = job_at build beside node (between may.0 (may.1 ∷ may.2)) may.3 one among is in (
          (λ other depends. stays other (old.0 other depends)),
          first one old.1.rest old.1.talks old.1.is old.1.meets old.1.success old.1.back,
          old.2,
        ))
        (subst (PlannedAt all node) may.3 (beside.planned node)))
      where
        first : (one : CleanJob) (rest : List Doing)
            → JobTalks meaning.next plan.command (may.1 ∷ may.2) rest
            → deeds_of one ≡ may.0 ++ deeds_of_job rest
            → Meets (after_deeds one.before may.0) (deeds_of_job rest)
            → (AllWell (may.1 ∷ may.2) rest → IsWell plan one)
            → (IsWell plan one → AllWell (may.1 ∷ may.2) rest)
            → AheadInside meaning.next plan one may.0 [] may.1 may.2
        first one [] talks is meets success back = absurd talks
        first one (doing ∷ rest) talks is meets success back = record {
          todo = doing.deeds;
          status = doing.status;
          output = doing.output;
          rest = rest;
          talks = talks.0;
          goes = talks.1;
          stops = talks.2;
          is = is ∙ refl;
          meets = meets;
          success = λ well others. success (well, others);
          back = back;
        }

    ends_turn : (build : Build) (node : ℕ) → IsBeside build → MayTurn meaning plan build (ends_line node)
        → IsBeside (after_turn plan build (ends_line node))
    ends_turn build node beside may = by (build.stage node) refl may
      where
        last : (one : CleanJob) (deeds : List Deed) (seen : List Answer) (line : TaskLine)
            (lines : List TaskLine) (end : HasEnded meaning.next plan seen line)
            (todo : List Deed) (status : ℕ) (output : List ℕ) (rest : List Doing)
            → Talks meaning.next (plan.command line) seen todo status output
            → (goes_on line (ended_with status output) ≡ true
            → JobTalks meaning.next plan.command lines rest)
            → deeds_of one ≡ deeds ++ (todo ++ deeds_of_job rest)
            → Meets (after_deeds one.before deeds) (todo ++ deeds_of_job rest)
            → (goes_on line (ended_with status output) ≡ true → AllWell lines rest → IsWell plan one)
            → (IsWell plan one → (goes_on line (ended_with status output) ≡ true) × AllWell lines rest)
            → Ahead meaning.next plan one deeds lines
        last one deeds seen line lines end (deed ∷ todo) status output rest talks goes is meets success back =
            let clash : Ended end.status end.output ≡ More talks.0 = sym end.next_is ∙ talks.2 in
            absurd (more-not_over (Ended end.status end.output) talks.0 clash tt)
        last one deeds seen line lines end [] status output rest talks goes is meets success back =
            let ends : Ended end.status end.output ≡ Ended status output = sym end.next_is ∙ talks in
            let same : end.status ≡ status = cc in
            let well : goes_on line (ended_with status output) ≡ true =
            subst (λ code. goes_on line (ended_with code output) ≡ true) same end.well in
            record {
              rest = rest;
              talks = goes well;
              is = is;
              meets = meets;
              success = success well;
              back = λ all_well. (back all_well).1;
            }

        by : (stage : Stage) → build.stage node ≡ stage → MayEndLine meaning.next plan stage
            → IsBeside (at_stage build node (line_ended stage) build.files)
        by waiting at end = absurd end
        by (between deeds lines) at end = absurd end
        by settled at end = absurd end
        by failed at end = absurd end
        by (inside deeds seen line lines) at end =
            turn_of build node (between deeds lines) build.files (λ is. not_waiting_between _ _ is)
            (λ is. not_settled_inside deeds seen line lines (sym at ∙ is)) beside
            (λ one among differ path changes. refl) (λ path leave no_meta. refl)
            (λ one among is stays.
            let old = job_at build beside node (inside deeds seen line lines) at one among is in (
              (λ other depends. stays other (old.0 other depends)),
              last one deeds seen line lines end old.1.todo old.1.status old.1.output old.1.rest old.1.talks
                  old.1.goes old.1.is old.1.meets old.1.success old.1.back,
              old.2,
            ))
            (subst (PlannedAt all node) at (beside.planned node))

    fails_turn : (build : Build) (node : ℕ) → IsBeside build → MayTurn meaning plan build (fails node)
        → IsBeside (after_turn plan build (fails node))
    fails_turn build node beside may = by (build.stage node) refl may
      where
        by : (stage : Stage) → build.stage node ≡ stage → MayFail meaning.next plan stage
            → IsBeside (at_stage build node failed build.files)
        by waiting at end = absurd end
        by (between deeds lines) at end = absurd end
        by settled at end = absurd end
        by failed at end = absurd end
        by (inside deeds seen line lines) at end =
            turn_of build node failed build.files not_waiting_failed
            (λ is. not_settled_inside deeds seen line lines (sym at ∙ is)) beside
            (λ one among differ path changes. refl) (λ path leave no_meta. refl) (λ one among is stays. tt)
            (subst (PlannedAt all node) at (beside.planned node))

    settles_turn : (build : Build) (node : ℕ) → IsBeside build → MayTurn meaning plan build (settles node)
        → IsBeside (after_turn plan build (settles node))
    settles_turn build node beside may =
        turn_of build node settled build.files (λ is. not_settled_waiting (sym is))
        (λ is. not_settled_between may.0 [] (sym may.1 ∙ is)) beside
        (λ one among differ path changes. refl) (λ path leave no_meta. refl)
        (λ one among is stays.
        let old = job_at build beside node (between may.0 []) may.1 one among is in
        let whole : deeds_of one ≡ may.0 =
        old.1.is
        ∙ (ap (λ rest. may.0 ++ deeds_of_job rest)
        (job_nil meaning.next plan.command old.1.rest old.1.talks) ∙ append-nil may.0) in (
          old.1.success tt,
          (λ made bytes over. old.2 (plan.node one.node).name bytes
              (subst (λ deeds. over_deeds nothing_over deeds (plan.node one.node).name ≡ Some bytes) whole over)),
        )) tt

    -- the next step of a job is the next of its job in the clean build
    record Rest (one : CleanJob) (deeds : List Deed) (seen : List Answer) (line : TaskLine)
        (lines : List TaskLine) (deed : Deed) : Type 0
      where
        pub todo : List Deed
        pub rest : List Doing
        pub status : ℕ
        pub output : List ℕ
        pub talks : Talks meaning.next (plan.command line) (seen ++ answer deed ∷ []) todo status output
        pub goes : goes_on line (ended_with status output) ≡ true
            → JobTalks meaning.next plan.command lines rest
        pub stops : goes_on line (ended_with status output) ≡ false → rest ≡ []
        pub is : deeds_of one ≡ deeds ++ deed ∷ (todo ++ deeds_of_job rest)
        pub meets : Meets (after_deeds one.before deeds) (deed ∷ (todo ++ deeds_of_job rest))
        pub success : goes_on line (ended_with status output) ≡ true → AllWell lines rest
            → IsWell plan one
        pub back : IsWell plan one
            → (goes_on line (ended_with status output) ≡ true) × AllWell lines rest

    rest_of : (build : Build) → IsBeside build → (deed : Deed) (one : CleanJob) → IsAmong one all
        → (deeds : List Deed) (seen : List Answer) (line : TaskLine) (lines : List TaskLine)
        → JobIs meaning.next plan build one (inside deeds seen line lines)
        → MayStep meaning.next plan build.files deed (inside deeds seen line lines)
        → Rest one deeds seen line lines deed
    rest_of build beside deed one among deeds seen line lines is may =
        let ahead = is.1 in
        let next = next_deed meaning.next (plan.command line) seen deed ahead.todo (deeds_of_job ahead.rest)
        ahead.status ahead.output build.files (after_deeds one.before deeds) may.0 may.1 ahead.talks
        ahead.meets
        (λ first more cut spot sees.
        agrees spot more first cut sees (option_two (over_deeds nothing_over deeds spot.path))) in
        record {
          todo = next.0;
          rest = ahead.rest;
          status = ahead.status;
          output = ahead.output;
          talks = next.2;
          goes = ahead.goes;
          stops = ahead.stops;
          is = ahead.is ∙ ap (λ todo. deeds ++ (todo ++ deeds_of_job ahead.rest)) next.1;
          meets = subst (λ todo. Meets (after_deeds one.before deeds) (todo ++ deeds_of_job ahead.rest))
              next.1 ahead.meets;
          success = ahead.success;
          back = ahead.back;
        }
      where
        agrees : (spot : Spot) (more : List Deed) (first : Deed) → is.1.todo ≡ first ∷ more
            → saw first ≡ Some spot → IsOver_ (over_deeds nothing_over deeds spot.path)
            → after_deeds one.before deeds spot.path ≡ build.files spot.path
        agrees spot more first cut sees (inl over) =
            after_over one.before deeds spot.path over.0 over.1 ∙ sym (is.2 spot.path over.0 over.1)
        agrees spot more first cut sees (inr none) =
            after_none one.before deeds spot.path none
            ∙ reads_are_right build beside one among is.0 spot.path
            (subst (λ deeds. IsAmong spot.path (outer nothing_over deeds))
            (sym (is.1.is ∙ ap (λ todo. deeds ++ (todo ++ deeds_of_job is.1.rest)) cut))
            (outer_behind nothing_over deeds (first ∷ (more ++ deeds_of_job is.1.rest)) spot.path
            (among_first (outer_spot (over_deeds nothing_over deeds) (saw first)) _ spot.path
            (subst (λ sight. IsAmong spot.path (outer_spot (over_deeds nothing_over deeds) sight)) (sym sees)
            (outer_here (over_deeds nothing_over deeds) spot none)))))

    steps_turn : (build : Build) (node : ℕ) (deed : Deed) → IsBeside build
        → MayTurn meaning plan build (steps node deed)
        → IsBeside (after_turn plan build (steps node deed))
    steps_turn build node deed beside may = by (build.stage node) refl may
      where
        -- so it changes what its job changes
        changes_it : (one : CleanJob) (deeds more : List Deed) → deeds_of one ≡ deeds ++ deed ∷ more
            → (path : List ℕ) → is_changed (deed ∷ []) path ≡ true → Changes one path
        changes_it one deeds more is path changed =
            subst (λ all. is_changed all path ≡ true) (sym is)
            (changed_last path deeds (deed ∷ more) (changed_first path (deed ∷ []) more changed))

        left_alone : (path : List ℕ) → (is_changed (deed ∷ []) path ≡ true → ⊥)
            → after_deed build.files deed path ≡ build.files path
        left_alone path no_change =
            ⊎_elim (λ changed. absurd (no_change changed))
            (λ leaves. put_elsewhere build.files path (changes deed) (step_elsewhere path deed leaves))
            (bool_two (is_changed (deed ∷ []) path))

        by : (stage : Stage) → build.stage node ≡ stage
            → MayStep meaning.next plan build.files deed stage
            → IsBeside (at_stage build node (stepped deed stage) (after_deed build.files deed))
        by waiting at step = absurd step
        by (between deeds lines) at step = absurd step
        by settled at step = absurd step
        by failed at step = absurd step
        by (inside deeds seen line lines) at step =
            let own = subst (PlannedAt all node) at (beside.planned node) in
            let mine = rest_of build beside deed own.0 own.1 deeds seen line lines
            (job_at build beside node (inside deeds seen line lines) at own.0 own.1 own.2) step in
            turn_of build node (inside (deeds ++ deed ∷ []) (seen ++ answer deed ∷ []) line lines)
            (after_deed build.files deed)
            (λ is. not_waiting_inside (deeds ++ deed ∷ []) (seen ++ answer deed ∷ []) line lines is)
            (λ is. not_settled_inside deeds seen line lines (sym at ∙ is)) beside
            (λ one among differ path changed.
            left_alone path (λ is. apart own.0 one own.1 among (λ same. differ (sym same ∙ own.2)) path
            (changes_it own.0 deeds (mine.todo ++ deeds_of_job mine.rest) mine.is path is) changed))
            (λ path leave no_meta.
            left_alone path (λ is. false≢true (sym (leave own.0 own.1)
            ∙ changes_it own.0 deeds (mine.todo ++ deeds_of_job mine.rest) mine.is path is)))
            (λ one among is stays.
            let old = job_at build beside node (inside deeds seen line lines) at one among is in
            let its = rest_of build beside deed one among deeds seen line lines old step in (
              (λ other depends. stays other (old.0 other depends)),
              record {
                todo = its.todo;
                status = its.status;
                output = its.output;
                rest = its.rest;
                talks = its.talks;
                goes = its.goes;
                stops = its.stops;
                is = its.is ∙ append_one deeds deed (its.todo ++ deeds_of_job its.rest);
                meets = subst (λ files. Meets files (its.todo ++ deeds_of_job its.rest))
                    (sym (after_last one.before deeds deed)) its.meets.1;
                success = its.success;
                back = its.back;
              },
              (λ path bytes over. stands_put (over_deeds nothing_over deeds) build.files (changes deed) old.2
                  path bytes (ap (λ all. all path) (sym (over_last nothing_over deeds deed)) ∙ over)),
            ))
            (own.0, own.1, own.2)

    puts_turn : (build : Build) (path : List ℕ) (bytes : Option (List ℕ)) → IsBeside build
        → MayTurn meaning plan build (puts_meta path bytes)
        → IsBeside (after_turn plan build (puts_meta path bytes))
    puts_turn build path bytes beside may = record {
      jobs = λ one among. job_moves build (after_turn plan build (puts_meta path bytes)) one
          (build.stage one.node) (λ other is. is)
          (λ at changes. away at (λ meta. false≢true (sym (declared.no_meta one among at meta) ∙ changes))
          (bool_two (bytes_eq path at)))
          (beside.jobs one among);
      sources = λ at leave no_made no_meta. away at (λ meta. false≢true (sym no_meta ∙ meta))
          (bool_two (bytes_eq path at)) ∙ beside.sources at leave no_made no_meta;
      planned = beside.planned;
      looked = beside.looked;
      looked_own = λ one among waits changes found saw_it.
          away (plan.node one.node).name
          (λ meta. false≢true (sym (declared.no_meta one among (plan.node one.node).name meta) ∙ changes))
          (bool_two (bytes_eq path (plan.node one.node).name))
          ∙ beside.looked_own one among waits changes found saw_it;
    }
      where
        away : (at : List ℕ) → (plan.is_meta at ≡ true → ⊥)
            → ((bytes_eq path at ≡ true) ⊎ (bytes_eq path at ≡ false))
            → put build.files (record { path = path; bytes = bytes }) at ≡ build.files at
        away at no_meta (inl same) =
            absurd (no_meta (ap plan.is_meta (sym ((bytes_eq-Decides path at).0 same)) ∙ may))
        away at no_meta (inr differ) = ap (λ here. if here then bytes else build.files at) differ

    -- the made file of a node that has failed is no other job's, and no source
    removes_turn : (build : Build) (node : ℕ) → IsBeside build → MayTurn meaning plan build (removes node)
        → IsBeside (after_turn plan build (removes node))
    removes_turn build node beside may = record {
      jobs = λ one among. ⊎_elim
          (λ same. subst (JobIs meaning.next plan next one)
          (sym (ap build.stage (sym (eqb-true node one.node same)) ∙ may.0)) tt)
          (λ differ. job_moves build next one (build.stage one.node) (λ other is. is)
          (λ at changes. other_stays one among (λ is. eqb-false node one.node differ (sym is)) at changes)
          (beside.jobs one among))
          (bool_two (node == one.node));
      sources = λ at leave no_made no_meta.
          away at (λ same. false≢true (sym no_made ∙ (ap plan.is_made (sym same) ∙ made)))
          (bool_two (bytes_eq name at))
          ∙ beside.sources at leave no_made no_meta;
      planned = beside.planned;
      looked = beside.looked;
      looked_own = λ one among waits changes bytes saw_it.
          other_stays one among
          (λ is. not_waiting_failed (sym may.0 ∙ (ap build.stage (sym is) ∙ waits)))
          (plan.node one.node).name changes
          ∙ beside.looked_own one among waits changes bytes saw_it;
    }
      where
        next : Build
        next = after_turn plan build (removes node)

        name : List ℕ
        name = (plan.node node).name

        own : IsPlanned all node
        own = subst (PlannedAt all node) may.0 (beside.planned node)

        made : plan.is_made name ≡ true
        made = subst (λ k. plan.is_made (plan.node k).name ≡ true) own.2
            (well_made.is_made own.0 own.1 (subst (λ k. (plan.node k).made ≡ true) (sym own.2) may.1))

        called : plan.is_node name ≡ true
        called = subst (λ k. plan.is_node (plan.node k).name ≡ true) own.2 (well_made.is_node own.0 own.1)

        away : (at : List ℕ) → (name ≡ at → ⊥) → ((bytes_eq name at ≡ true) ⊎ (bytes_eq name at ≡ false))
            → next.files at ≡ build.files at
        away at apart (inl same) = absurd (apart ((bytes_eq-Decides name at).0 same))
        away at apart (inr differ) = ap (λ here. if here then None else build.files at) differ

        other_stays : (one : CleanJob) → IsAmong one all → one.node ≢ node → (at : List ℕ) → Changes one at
            → next.files at ≡ build.files at
        other_stays one among differ at changes =
            away at (λ same. by same (declared.changes one among at changes)) (bool_two (bytes_eq name at))
          where
            by : name ≡ at → IsOwn plan one at ⊎ IsPrivate plan all one at → ⊥
            by same (inl its) =
                differ (well_made.names one own.0 among own.1
                (its.name ∙ (sym same ∙ ap (λ k. (plan.node k).name) (sym own.2))) ∙ own.2)
            by same (inr its) = false≢true (sym its.no_node ∙ (ap plan.is_node (sym same) ∙ called))

    pub turn_keeps : (build : Build) (turn : Turn) → IsBeside build → MayTurn meaning plan build turn
        → IsBeside (after_turn plan build turn)
    turn_keeps build (looks_at node path) beside may = looks_turn build node path beside may
    turn_keeps build (keeps node) beside may = keeps_turn build node beside may
    turn_keeps build (begins node) beside may = begins_turn build node beside may
    turn_keeps build (starts_line node) beside may = starts_turn build node beside may
    turn_keeps build (steps node deed) beside may = steps_turn build node deed beside may
    turn_keeps build (ends_line node) beside may = ends_turn build node beside may
    turn_keeps build (fails node) beside may = fails_turn build node beside may
    turn_keeps build (settles node) beside may = settles_turn build node beside may
    turn_keeps build (removes node) beside may = removes_turn build node beside may
    turn_keeps build (puts_meta path bytes) beside may = puts_turn build path bytes beside may

    pub turns_keep : (build : Build) (turns : List Turn) → IsBeside build
        → MayTurns meaning plan build turns → IsBeside (after_turns plan build turns)
    turns_keep build [] beside may = beside
    turns_keep build (turn ∷ turns) beside may =
        turns_keep (after_turn plan build turn) turns (turn_keeps build turn beside may.0) may.1

    pub at_first : IsBeside (first_build store)
    at_first = record {
      jobs = λ one among. tt;
      sources = λ path leave no_made no_meta. refl;
      planned = λ node. tt;
      looked = λ one among path reads bytes saw_it. absurd (none_over bytes path saw_it);
      looked_own = λ one among waits changes bytes saw_it.
          absurd (none_over bytes (plan.node one.node).name saw_it);
    }

    pub job_settled : (turns : List Turn) → MayTurns meaning plan (first_build store) turns
        → ((one : CleanJob) → IsAmong one all
        → (after_turns plan (first_build store) turns).stage one.node ≡ settled)
        → (one : CleanJob) → IsAmong one all
        → IsWell plan one × HasItsFile plan one (after_turns plan (first_build store) turns).files
    job_settled turns may settled_are one among =
        subst (JobIs meaning.next plan (after_turns plan (first_build store) turns) one)
        (settled_are one among)
        ((turns_keep (first_build store) turns at_first may).jobs one among)

    -- a file that a job leaves stands at the end of the clean build
    pub made_at_end : (one : CleanJob) → IsAmong one all → IsWell plan one
        → (plan.node one.node).made ≡ true → (files : Store) → HasItsFile plan one files
        → files (plan.node one.node).name ≡ clean_files meaning plan store (plan.node one.node).name
    made_at_end one among well made files has =
        let file = declared.leaves one among well made in
        has made (Some file.bytes) file.is
        ∙ sym (left_at_end meaning plan.command (lines_in plan) (plan.node one.node).name (Some file.bytes) one
        file.is plan.order (cleared plan store)
        (λ later stands. later_leaves one later stands (plan.node one.node).name
        (over_changed (plan.node one.node).name (Some file.bytes) (deeds_of one) file.is)) among)

pub builds_clean : BuildsAreClean
builds_clean meaning plan store declared well_made turns may settled_are = record {
  well = λ one among. (job_settled meaning plan store declared well_made turns may settled_are one among).0;
  same = λ one among made.
      let is = job_settled meaning plan store declared well_made turns may settled_are one among in
      made_at_end meaning plan store declared well_made one among is.0 made
      (after_turns plan (first_build store) turns).files is.1;
}
