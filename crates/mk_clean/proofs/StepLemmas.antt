-- Each step of a build is one of the clean build.
use Rattle.std.proofs.Common.{◌≡◌, ◌⊎◌, inl, inr, ⊎_elim, ℕ, ◌==◌, List, [], ◌∷◌, ◌++◌, Bool, true, false, if◌then◌else◌, refl, sym, ◌∙◌, ap, subst, append-nil, append_assoc, eqb-true}
use Rattle.std.proofs.lemmas.Bool.{false≢true}
use Rattle.mk_clean.proofs.BesideLemmas.{PlannedAt, Beside, stage_own, stage_other, job_nil, job_at, turn_keeps, turns_keep, at_first}
use Rattle.mk_clean.proofs.CleanLemmas.{bool_two}
use Rattle.mk_clean.specs.Clean.{Plan, IsAmong, CleanJob, deeds_of, AllWell, IsWell, clean_build}
use Rattle.mk_clean.specs.Declared.{IsDeclared, AreWellMade}
use Rattle.mk_clean.specs.Jobs.{goes_on}
use Rattle.mk_clean.specs.Same.{own_step, steps_of, AreFirstSteps, AreAllSteps, DoesCleanSteps, StepsAreClean}
use Rattle.mk_clean.specs.Turns.{Stage, waiting, between, inside, settled, failed, Build, first_build, Turn, looks_at, keeps, begins, starts_line, steps, ends_line, fails, settles, removes, puts_meta, with_stage, started, stepped, line_ended, after_turn, after_turns, ended_with, HasFailed, MayStep, MayEndLine, MayFail, MayTurn, MayTurns}
use Rattle.mk_meta.specs.TrueHistory.{deeds_of_job}
use Rattle.mk_world.specs.Deeds.{Store}
use Rattle.mk_world.proofs.TalkLemmas.{more-not_over}
use Rattle.mk_world.specs.Talks.{Doing, Meaning, Talks}
use Rattle.mk_world.specs.declared.command.TaskLine.{TaskLine}
use Rattle.mk_world.specs.declared.step.Answer.{Answer}
use Rattle.mk_world.specs.declared.step.Deed.{Deed}
use Rattle.mk_world.specs.declared.step.Next.TheVariants.{More, Over as Ended}

-- what a node's job has done, by its stage
abbrev pub Tells : Plan → List CleanJob → ℕ → List Deed → Stage → Type 0
Tells plan all node done waiting = done ≡ []
Tells plan all node done (between deeds lines) = done ≡ deeds
Tells plan all node done (inside deeds seen line lines) = done ≡ deeds
Tells plan all node done settled = (done ≡ []) ⊎ AreAllSteps all node done
Tells plan all node done failed = (is : AreAllSteps all node done) × (IsWell plan is.one → ⊥)

module _ (meaning : Meaning) (plan : Plan) (store : Store)
    (declared : IsDeclared plan (clean_build meaning plan store))
    (well_made : AreWellMade plan (clean_build meaning plan store))
  where
    abbrev all : List CleanJob
    all = clean_build meaning plan store

    abbrev IsBeside : Build → Type 0
    IsBeside build = Beside meaning.next plan store all build

    abbrev Told : ℕ → List Deed → Stage → Type 0
    Told node done stage = Tells plan all node done stage

    -- a turn that is no step of the node
    moved : (build : Build) (other : ℕ) (stage : Stage) (node : ℕ) (done : List Deed)
        → Told node done (build.stage node) → (other ≡ node → Told node done stage)
        → Told node (done ++ []) (with_stage other stage build.stage node)
    moved build other stage node done tells own =
        subst (λ deeds. Told node deeds (with_stage other stage build.stage node))
        (sym (append-nil done))
        (⊎_elim
        (λ same. subst (Told node done) (sym (stage_own other node stage build.stage same))
        (own (eqb-true other node same)))
        (λ differ. subst (Told node done) (sym (stage_other other node stage build.stage differ)) tells)
        (bool_two (other == node)))

    at_own : (build : Build) (other : ℕ) (stage : Stage) (node : ℕ) (done : List Deed)
        → build.stage other ≡ stage → other ≡ node → Told node done (build.stage node)
        → Told node done stage
    at_own build other stage node done at same tells =
        subst (Told node done) (ap build.stage (sym same) ∙ at) tells

    ended_tells : (stage : Stage) (node : ℕ) (done : List Deed) → MayEndLine meaning.next plan stage
        → Told node done stage → Told node done (line_ended stage)
    ended_tells waiting node done may tells = absurd may
    ended_tells (between deeds lines) node done may tells = tells
    ended_tells (inside deeds seen line lines) node done may tells = tells
    ended_tells settled node done may tells = absurd may
    ended_tells failed node done may tells = absurd may

    stepped_tells : (stage : Stage) (deed : Deed) (node : ℕ) (done : List Deed) (files : Store)
        → MayStep meaning.next plan files deed stage
        → Told node done stage → Told node (done ++ deed ∷ []) (stepped deed stage)
    stepped_tells waiting deed node done files may tells = absurd may
    stepped_tells (between deeds lines) deed node done files may tells = absurd may
    stepped_tells (inside deeds seen line lines) deed node done files may tells =
        ap (λ some. some ++ deed ∷ []) tells
    stepped_tells settled deed node done files may tells = absurd may
    stepped_tells failed deed node done files may tells = absurd may

    settled_tells : (build : Build) → IsBeside build → (node : ℕ) (deeds done : List Deed)
        → build.stage node ≡ between deeds [] → done ≡ deeds → AreAllSteps all node done
    settled_tells build beside node deeds done at is =
        let own = subst (PlannedAt all node) at (beside.planned node) in
        let job = job_at meaning plan store declared well_made build beside node (between deeds []) at own.0
        own.1 own.2 in
        record {
          one = own.0;
          among = own.1;
          node_is = own.2;
          are = job.1.is
              ∙ (ap (λ rest. deeds ++ deeds_of_job rest)
              (job_nil meaning.next plan.command job.1.rest job.1.talks)
              ∙ (append-nil deeds ∙ sym is));
        }

    -- a line that fails does so in the clean build, where nothing of its job is behind it
    fail_tells : (one : CleanJob) (deeds : List Deed) (seen : List Answer) (line : TaskLine)
        (lines : List TaskLine) (node : ℕ) (done : List Deed) → IsAmong one all → one.node ≡ node → done ≡ deeds
        → (todo : List Deed) (status : ℕ) (output : List ℕ) (rest : List Doing)
        → Talks meaning.next (plan.command line) seen todo status output
        → (goes_on line (ended_with status output) ≡ false → rest ≡ [])
        → deeds_of one ≡ deeds ++ (todo ++ deeds_of_job rest)
        → (IsWell plan one → (goes_on line (ended_with status output) ≡ true) × AllWell lines rest)
        → HasFailed meaning.next plan seen line → Told node done failed
    fail_tells one deeds seen line lines node done among is same (deed ∷ todo) status output rest talks stops are back end =
        let clash : Ended end.status end.output ≡ More talks.0 = sym end.next_is ∙ talks.2 in
        absurd (more-not_over (Ended end.status end.output) talks.0 clash tt)
    fail_tells one deeds seen line lines node done among is same [] status output rest talks stops are back end =
        let ends : Ended end.status end.output ≡ Ended status output = sym end.next_is ∙ talks in
        let code : end.status ≡ status = cc in
        let bad : goes_on line (ended_with status output) ≡ false =
        subst (λ c. goes_on line (ended_with c output) ≡ false) code end.bad in (
          record {
            one = one;
            among = among;
            node_is = is;
            are = are ∙ (ap (λ l. deeds ++ deeds_of_job l) (stops bad) ∙ (append-nil deeds ∙ sym same));
          },
          (λ well. false≢true (sym bad ∙ (back well).0)),
        )

    failed_tells : (build : Build) → IsBeside build → (node : ℕ) (done : List Deed) (stage : Stage)
        → build.stage node ≡ stage → MayFail meaning.next plan stage → Told node done stage
        → Told node done failed
    failed_tells build beside node done waiting at may tells = absurd may
    failed_tells build beside node done (between deeds lines) at may tells = absurd may
    failed_tells build beside node done settled at may tells = absurd may
    failed_tells build beside node done failed at may tells = absurd may
    failed_tells build beside node done (inside deeds seen line lines) at may tells =
        let own = subst (PlannedAt all node) at (beside.planned node) in
        let job = job_at meaning plan store declared well_made build beside node
        (inside deeds seen line lines) at own.0 own.1 own.2 in
        fail_tells own.0 deeds seen line lines node done own.1 own.2 tells job.1.todo job.1.status job.1.output
        job.1.rest job.1.talks job.1.stops job.1.is job.1.back may

    step_told : (build : Build) (other : ℕ) (deed : Deed) (node : ℕ) (done : List Deed)
        → MayStep meaning.next plan build.files deed (build.stage other)
        → Told node done (build.stage node)
        → Told node (done ++ (if other == node then deed ∷ [] else []))
        (with_stage other (stepped deed (build.stage other)) build.stage node)
    step_told build other deed node done may tells = by (other == node) refl
      where
        by : (here : Bool) → (other == node) ≡ here
            → Told node (done ++ (if here then deed ∷ [] else []))
            (with_stage other (stepped deed (build.stage other)) build.stage node)
        by true is =
            subst (Told node (done ++ deed ∷ []))
            (sym (stage_own other node (stepped deed (build.stage other)) build.stage is))
            (stepped_tells (build.stage other) deed node done build.files may
            (subst (λ k. Told node done (build.stage k)) (sym (eqb-true other node is)) tells))
        by false is =
            subst (λ deeds. Told node deeds
            (with_stage other (stepped deed (build.stage other)) build.stage node)) (sym (append-nil done))
            (subst (Told node done)
            (sym (stage_other other node (stepped deed (build.stage other)) build.stage is)) tells)

    turn_told : (build : Build) (turn : Turn) → IsBeside build → MayTurn meaning plan build turn
        → (node : ℕ) (done : List Deed) → Told node done (build.stage node)
        → Told node (done ++ own_step node turn) ((after_turn plan build turn).stage node)
    turn_told build (looks_at other path) beside may node done tells =
        subst (λ deeds. Told node deeds (build.stage node)) (sym (append-nil done)) tells
    turn_told build (keeps other) beside may node done tells =
        moved build other settled node done tells
        (λ same. inl (at_own build other waiting node done may.0 same tells))
    turn_told build (begins other) beside may node done tells =
        moved build other (between [] (plan.node other).lines) node done tells
        (λ same. at_own build other waiting node done may.0 same tells)
    turn_told build (starts_line other) beside may node done tells =
        moved build other (started (build.stage other)) node done tells
        (λ same. subst (λ stage. Told node done (started stage)) (sym may.3)
        (at_own build other (between may.0 (may.1 ∷ may.2)) node done may.3 same tells))
    turn_told build (steps other deed) beside may node done tells =
        step_told build other deed node done may tells
    turn_told build (ends_line other) beside may node done tells =
        moved build other (line_ended (build.stage other)) node done tells
        (λ same. ended_tells (build.stage other) node done may
        (at_own build other (build.stage other) node done refl same tells))
    turn_told build (fails other) beside may node done tells =
        moved build other failed node done tells
        (λ same. failed_tells build beside node done (build.stage node) refl
        (subst (λ k. MayFail meaning.next plan (build.stage k)) same may) tells)
    turn_told build (removes other) beside may node done tells =
        subst (λ deeds. Told node deeds (build.stage node)) (sym (append-nil done)) tells
    turn_told build (settles other) beside may node done tells =
        moved build other settled node done tells
        (λ same. inr (settled_tells build beside node may.0 done (ap build.stage (sym same) ∙ may.1)
        (at_own build other (between may.0 []) node done may.1 same tells)))
    turn_told build (puts_meta path bytes) beside may node done tells =
        subst (λ deeds. Told node deeds (build.stage node)) (sym (append-nil done)) tells

    turns_told : (build : Build) (turns : List Turn) → IsBeside build
        → MayTurns meaning plan build turns → (node : ℕ) (done : List Deed)
        → Told node done (build.stage node)
        → Told node (done ++ steps_of node turns) ((after_turns plan build turns).stage node)
    turns_told build [] beside may node done tells =
        subst (λ deeds. Told node deeds (build.stage node)) (sym (append-nil done)) tells
    turns_told build (turn ∷ turns) beside may node done tells =
        subst (λ deeds. Told node deeds
        ((after_turns plan (after_turn plan build turn) turns).stage node))
        (append_assoc done (own_step node turn) (steps_of node turns))
        (turns_told (after_turn plan build turn) turns
        (turn_keeps meaning plan store declared well_made build turn beside may.0) may.1 node
        (done ++ own_step node turn) (turn_told build turn beside may.0 node done tells))

    first_steps : (build : Build) → IsBeside build → (node : ℕ) (done : List Deed) (stage : Stage)
        → build.stage node ≡ stage → Told node done stage
        → (done ≡ []) ⊎ AreFirstSteps all node done
    first_steps build beside node done waiting at tells = inl tells
    first_steps build beside node done (between deeds lines) at tells =
        let own = subst (PlannedAt all node) at (beside.planned node) in
        let job = job_at meaning plan store declared well_made build beside node (between deeds lines) at own.0
        own.1 own.2 in
        inr (record {
          one = own.0;
          among = own.1;
          node_is = own.2;
          rest = deeds_of_job job.1.rest;
          are = job.1.is ∙ ap (λ some. some ++ deeds_of_job job.1.rest) (sym tells);
        })
    first_steps build beside node done (inside deeds seen line lines) at tells =
        let own = subst (PlannedAt all node) at (beside.planned node) in
        let job = job_at meaning plan store declared well_made build beside node
        (inside deeds seen line lines) at own.0 own.1 own.2 in
        inr (record {
          one = own.0;
          among = own.1;
          node_is = own.2;
          rest = job.1.todo ++ deeds_of_job job.1.rest;
          are = job.1.is ∙ ap (λ some. some ++ (job.1.todo ++ deeds_of_job job.1.rest)) (sym tells);
        })
    first_steps build beside node done settled at (inl none) = inl none
    first_steps build beside node done settled at (inr whole) =
        inr (record {
          one = whole.one;
          among = whole.among;
          node_is = whole.node_is;
          rest = [];
          are = whole.are ∙ sym (append-nil done);
        })
    first_steps build beside node done failed at whole =
        inr (record {
          one = whole.0.one;
          among = whole.0.among;
          node_is = whole.0.node_is;
          rest = [];
          are = whole.0.are ∙ sym (append-nil done);
        })

    pub clean_steps : (turns : List Turn) → MayTurns meaning plan (first_build store) turns
        → DoesCleanSteps plan all turns (after_turns plan (first_build store) turns)
    clean_steps turns may =
        let first = at_first meaning plan store declared well_made in
        let last = turns_keep meaning plan store declared well_made (first_build store) turns first may in
        record {
          begun = λ node. first_steps (after_turns plan (first_build store) turns) last node
              (steps_of node turns) ((after_turns plan (first_build store) turns).stage node) refl
              (turns_told (first_build store) turns first may node [] refl);
          whole = λ node is. subst (Told node (steps_of node turns)) is
              (turns_told (first_build store) turns first may node [] refl);
          broken = λ node is. subst (Told node (steps_of node turns)) is
              (turns_told (first_build store) turns first may node [] refl);
        }

pub steps_clean : StepsAreClean
steps_clean meaning plan store declared well_made turns may =
    clean_steps meaning plan store declared well_made turns may
