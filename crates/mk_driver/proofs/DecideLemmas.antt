-- A build so far, and the decision of a node.
use Rattle.std.proofs.Common.{◌≡◌, ◌∙◌, ℕ, ◌<◌, ◌≤◌, List, [], ◌∷◌, ◌++◌, length, get_or, set, Option, Some, None, false}
use Rattle.std.proofs.Common.{inl, inr, refl, sym, ap, subst, append_assoc, arith}
use Rattle.std.proofs.lemmas.List.{append-nil}
use Rattle.mk_values.specs.declared.fault.ExpandFault.{ExpandFault}
use Rattle.mk_plan.specs.Deciding.{may_decide}
use Rattle.mk_plan.specs.declared.plan.NodeState.{NodeState}
use Rattle.mk_plan.specs.declared.plan.NodeState.TheVariants.{Undecided, Open, Settled, Failed}
use Rattle.mk_world.specs.Calls.{Adds}
use Rattle.mk_world.specs.Looks.{LooksAll, OwnLook, Seen, answered}
use Rattle.mk_world.specs.Talks.{Meaning}
use Rattle.mk_world.specs.Told.{Told}
use Rattle.mk_world.specs.declared.history.History.{History}
use Rattle.mk_world.specs.declared.command.TaskLine.{TaskLine}
use Rattle.mk_decision.specs.Decisions.{Work, IsKept, IsBegun, IsRefused}
use Rattle.mk_decision.specs.Newest.{begun_whens, raised_all}
use Rattle.mk_trace.specs.Builds.{Build, Moment, moment, rules_of, or_next}
use Rattle.mk_decision.specs.Looks.{LooksAt}
use Rattle.mk_trace.specs.Calls.{Called, ChangeItem, LookItem, NoItem, NoneLeft, PartItem}
use Rattle.mk_trace.specs.Items.{Item, head, cut_head, changes, keeps, looks, refuses, reported_all}
use Rattle.mk_trace.specs.declared.collected.Collected.{Collected}
use Rattle.mk_driver.specs.Jobs.{AreApart}
use Rattle.mk_driver.specs.Metas.{HasOpened, HeadWritten, IsUnopened, NoHead}
use Rattle.mk_driver.specs.Progress.{AreUnknown, HaltedAt, IsGoing, IsLookedAt, IsBehind}
use Rattle.mk_child.specs.declared.halt.Halt.{Halt}
use Rattle.mk_driver.proofs.LineLemmas.{halted}
use Rattle.mk_trace.specs.Growth.{Known, HasTasks, SoFar}
use Rattle.mk_trace.specs.Steps.{GoesOn, PrintsOwn}
use Rattle.mk_trace.specs.Runs as run
use Rattle.mk_trace.specs.declared.event.Event.{Event}
use Rattle.mk_trace.specs.declared.event.Event.TheVariants as event
use Rattle.mk_driver.specs.declared.job.Job.{Job}
use Rattle.mk_trace.specs.declared.result.Failure.{Failure}
use Rattle.mk_trace.specs.declared.result.Failure.TheVariants.{Expand}
use Rattle.mk_trace.proofs.CallLemmas.{called-none}
use Rattle.mk_trace.proofs.MakeLemmas.{silent, so_far-called, so_far-nothing, so_far-own, so_far-weaken}
use Rattle.mk_trace.proofs.WorldLemmas.{called-look, called-nothing}
use Rattle.mk_driver.proofs.NodeLemmas.{unknown-begun}
use Rattle.mk_driver.proofs.StepLemmas.{behind-begun, first_bytes, first_path, go_on-cut_head, go_on-head, go_on-keeps, go_on-looks, go_on-refuses, has-before, other_node, seen-nothing, with_task}

-- one question more
so_far-question : (meaning : Meaning) (work : Work) (known : Known) (nodes : List NodeState)
    (jobs : List Job) (failure : Option Failure) (n : ℕ) (last : Option ℕ)
    (first now next : Moment) (seen : List Seen) (one : Option Seen)
    → SoFar meaning work false first now last known (IsLookedAt known nodes jobs failure n seen)
    → may_decide (rules_of work) nodes ≡ Some n
    → Adds meaning now.history next.history (OwnLook one)
    → next.events ≡ now.events → next.out ≡ now.out
    → SoFar meaning work false first next last known
    (IsLookedAt known nodes jobs failure n (seen ++ answered (one ∷ [])))
so_far-question meaning work known nodes jobs failure n last first now next seen None so may adds events
    out =
    subst (λ l. SoFar meaning work false first next last known (IsLookedAt known nodes jobs failure n l))
    (sym (append-nil seen))
    (so_far-nothing meaning work first now next last known (IsLookedAt known nodes jobs failure n seen) so
    (called-nothing meaning now.history next.history adds) events out)
so_far-question meaning work known nodes jobs failure n last first now next seen (Some one) so may adds
    events out =
    let call : Called meaning now.history next.history (LookItem n one) =
    called-look meaning now.history next.history n one adds in
    so_far-called meaning work false first now next last last known known
    (IsLookedAt known nodes jobs failure n seen) (IsLookedAt known nodes jobs failure n (seen ++ one ∷ []))
    (LookItem n one) so call (rw call.is_own tt) (events ∙ rw call.is_own (sym (append-nil now.events)))
    (λ tasks has. has)
    (λ tasks build has is. rw call.is_own
    (go_on-looks work known nodes jobs failure n tasks one may build seen is))
    (λ tasks build has is. rw call.is_own
    (silent work tasks now next last (looks n one ∷ []) out refl (λ outputs p. refl)))

none-asked : (meaning : Meaning) (a b : Option History) → Told a b (LooksAll meaning [])
    → Called meaning a b NoItem
none-asked meaning a None told = called-nothing meaning a None tt
none-asked meaning None (Some y) told = absurd told
none-asked meaning (Some x) (Some y) same =
    subst (λ h. Called meaning (Some x) (Some h) NoItem) (sym same) (called-none meaning (Some x))

answered-one : (one : Option Seen) (more : List (Option Seen))
    → answered (one ∷ more) ≡ answered (one ∷ []) ++ answered more
answered-one None more = refl
answered-one (Some one) more = refl

-- questions, one after the other
so_far-questions : (meaning : Meaning) (work : Work) (known : Known) (nodes : List NodeState)
    (jobs : List Job) (failure : Option Failure) (n : ℕ) (last : Option ℕ) (first : Moment)
    (out : Option (List ℕ)) (events : List Event) (questions : List (Option Seen))
    (a b : Option History) (seen : List Seen) → Told a b (LooksAll meaning questions)
    → SoFar meaning work false first (moment a out events) last known
    (IsLookedAt known nodes jobs failure n seen)
    → may_decide (rules_of work) nodes ≡ Some n
    → SoFar meaning work false first (moment b out events) last known
    (IsLookedAt known nodes jobs failure n (seen ++ answered questions))
so_far-questions meaning work known nodes jobs failure n last first out events [] a b seen told so may =
    subst (λ l. SoFar meaning work false first (moment b out events) last known
    (IsLookedAt known nodes jobs failure n l)) (sym (append-nil seen))
    (so_far-nothing meaning work first (moment a out events) (moment b out events) last known
    (IsLookedAt known nodes jobs failure n seen) so (none-asked meaning a b told) refl refl)
so_far-questions meaning work known nodes jobs failure n last first out events (one ∷ more) a None seen
    told so may =
    subst (λ l. SoFar meaning work false first (moment None out events) last known
    (IsLookedAt known nodes jobs failure n l))
    (append_assoc seen (answered (one ∷ [])) (answered more)
    ∙ ap (λ l. seen ++ l) (sym (answered-one one more)))
    (so_far-questions meaning work known nodes jobs failure n last first out events more None None
    (seen ++ answered (one ∷ [])) tt
    (so_far-question meaning work known nodes jobs failure n last first (moment a out events)
    (moment None out events) seen one so may tt refl refl) may)
so_far-questions meaning work known nodes jobs failure n last first out events (one ∷ more) None (Some y)
    seen told so may = absurd told
so_far-questions meaning work known nodes jobs failure n last first out events (one ∷ more) (Some x)
    (Some y) seen told so may =
    subst (λ l. SoFar meaning work false first (moment (Some y) out events) last known
    (IsLookedAt known nodes jobs failure n l))
    (append_assoc seen (answered (one ∷ [])) (answered more)
    ∙ ap (λ l. seen ++ l) (sym (answered-one one more)))
    (so_far-questions meaning work known nodes jobs failure n last first out events more (Some told.0)
    (Some y) (seen ++ answered (one ∷ [])) told.2
    (so_far-question meaning work known nodes jobs failure n last first (moment (Some x) out events)
    (moment (Some told.0) out events) seen one so may told.1 refl refl) may)

-- a node was looked at
pub so_far-looks : (meaning : Meaning) (work : Work) (known : Known) (nodes : List NodeState)
    (jobs : List Job) (failure : Option Failure) (n : ℕ) (seen : List Seen) (last : Option ℕ)
    (first : Moment) (history later : Option History) (out : Option (List ℕ)) (events : List Event)
    → SoFar meaning work false first (moment history out events) last known
    (IsGoing known nodes run.anything jobs failure)
    → get_or nodes n Failed ≡ Undecided → may_decide (rules_of work) nodes ≡ Some n
    → LooksAt meaning history later seen
    → SoFar meaning work false first (moment later out events) last known
    (IsLookedAt known nodes jobs failure n seen)
so_far-looks meaning work known nodes jobs failure n seen last first history later out events so undecided
    may looked =
    subst (λ l. SoFar meaning work false first (moment later out events) last known
    (IsLookedAt known nodes jobs failure n l)) (sym looked.are)
    (so_far-questions meaning work known nodes jobs failure n last first out events looked.questions
    history later [] looked.told
    (so_far-weaken meaning work false first (moment history out events) last known known
    (IsGoing known nodes run.anything jobs failure) (IsLookedAt known nodes jobs failure n []) so
    (λ tasks has. has)
    (λ tasks build has is. seen-nothing known nodes jobs failure n tasks build undecided is)) may)

-- a kept node
pub so_far-keeps : (meaning : Meaning) (work : Work) (known : Known) (nodes : List NodeState)
    (jobs : List Job) (failure : Option Failure) (n : ℕ) (lines : List TaskLine)
    (seen : List Seen) (last : Option ℕ) (first now next : Moment)
    → SoFar meaning work false first now last known (IsLookedAt known nodes jobs failure n seen)
    → n < length nodes → get_or nodes n Failed ≡ Undecided
    → may_decide (rules_of work) nodes ≡ Some n → AreApart n jobs → AreUnknown known nodes
    → IsKept work n seen lines
    → next.history ≡ now.history → next.events ≡ now.events ++ event.Kept n ∷ []
    → next.out ≡ now.out
    → (more : Known) × AreUnknown more (set nodes n Settled)
    × SoFar meaning work false first next last more
    (IsGoing more (set nodes n Settled) run.anything jobs failure)
so_far-keeps meaning work known nodes jobs failure n lines seen last first now next so within undecided
    may apart unknown kept history events out =
    let more = with_task known n lines in (
      more,
      unknown-begun known more nodes n Settled within (λ is. cc)
          (λ one other. rw (other_node n one other) refl) unknown,
      so_far-own meaning work first now next last known more
          (IsLookedAt known nodes jobs failure n seen)
          (IsGoing more (set nodes n Settled) run.anything jobs failure) (keeps n ∷ []) so tt refl
          (λ stand. (tt, tt)) refl history events out
          (λ tasks has. has-before known n lines tasks (unknown n undecided) has)
          (λ tasks build has is. go_on-keeps work known nodes jobs failure n lines tasks seen build
          within may apart has is kept)
          (λ tasks build has is outputs p. refl),
    )

-- a refused node
pub so_far-refuses : (meaning : Meaning) (work : Work) (known : Known) (nodes : List NodeState)
    (jobs : List Job) (failure : Option Failure) (n number : ℕ) (what : ExpandFault)
    (seen : List Seen) (last : Option ℕ) (first now next : Moment)
    → SoFar meaning work false first now last known (IsLookedAt known nodes jobs failure n seen)
    → n < length nodes → may_decide (rules_of work) nodes ≡ Some n
    → IsRefused work n seen number what
    → next.history ≡ now.history → next.events ≡ now.events ++ event.Refused n number ∷ []
    → next.out ≡ now.out
    → SoFar meaning work false first next last known
    (IsGoing known (set nodes n Failed) run.anything jobs
    (or_next failure (Some (Expand n number what))))
so_far-refuses meaning work known nodes jobs failure n number what seen last first now next so within
    may refused history events out =
    so_far-own meaning work first now next last known known (IsLookedAt known nodes jobs failure n seen)
    (IsGoing known (set nodes n Failed) run.anything jobs
    (or_next failure (Some (Expand n number what)))) (refuses n number what ∷ []) so tt refl
    (λ stand. (tt, tt)) refl history events out (λ tasks has. has)
    (λ tasks build has is. go_on-refuses work known nodes jobs failure n number what tasks seen build
    within may is refused)
    (λ tasks build has is outputs p. refl)

-- the lines of a node without a meta file are to be started
so_far-plain : (meaning : Meaning) (work : Work) (known : Known) (nodes : List NodeState)
    (jobs : List Job) (failure : Option Failure) (n : ℕ) (lines : List TaskLine) (seen : List Seen)
    (last : Option ℕ) (first now next : Moment) (collected : Collected)
    → SoFar meaning work false first now last known (IsLookedAt known nodes jobs failure n seen)
    → n < length nodes → get_or nodes n Failed ≡ Undecided
    → may_decide (rules_of work) nodes ≡ Some n → AreApart n jobs → AreUnknown known nodes
    → IsBegun work n seen lines → 0 < length lines
    → NoHead meaning work now.history next.history n collected
    → next.events ≡ now.events → next.out ≡ now.out
    → SoFar meaning work false first next last (with_task known n lines)
    (IsBehind work (with_task known n lines) (set nodes n Open) jobs failure n lines collected 0)
so_far-plain meaning work known nodes jobs failure n lines seen last first now next collected so within
    undecided may apart unknown begun some no_head events out =
    let more = with_task known n lines in
    so_far-weaken meaning work false first next last known more
    (IsLookedAt known nodes jobs failure n seen)
    (IsBehind work more (set nodes n Open) jobs failure n lines collected 0)
    (so_far-nothing meaning work first now next last known (IsLookedAt known nodes jobs failure n seen) so
    no_head.call events out)
    (λ tasks has. has-before known n lines tasks (unknown n undecided) has)
    (λ tasks build has is. rw no_head.is (behind-begun work known nodes jobs failure n lines _ tasks seen _
    build within may apart has (rw no_head.no_meta refl) is begun some))

pub less-behind : (a b c : ℕ) → a ≤ b → b < c → a < c
less-behind a b c least less = omega (arith, least, less)

-- and those of one with a meta file, whose head was written
so_far-head : (meaning : Meaning) (work : Work) (known : Known) (nodes : List NodeState)
    (jobs : List Job) (failure : Option Failure) (n : ℕ) (lines : List TaskLine) (seen : List Seen)
    (last : Option ℕ) (first now next : Moment) (newest : ℕ) (collected : Collected)
    → SoFar meaning work false first now last known (IsLookedAt known nodes jobs failure n seen)
    → n < length nodes → get_or nodes n Failed ≡ Undecided
    → may_decide (rules_of work) nodes ≡ Some n → AreApart n jobs → AreUnknown known nodes
    → (begun : IsBegun work n seen lines) → 0 < length lines → raised_all 0 (begun_whens begun) ≤ newest
    → HeadWritten meaning work now.history next.history n newest collected
    → next.events ≡ now.events → next.out ≡ now.out
    → SoFar meaning work false first next last (with_task known n lines)
    (IsBehind work (with_task known n lines) (set nodes n Open) jobs failure n lines collected 0)
so_far-head meaning work known nodes jobs failure n lines seen last first now next newest collected so
    within undecided may apart unknown begun some least written events out =
    let more = with_task known n lines in
    let change = head (first_path work n) (first_bytes work n) written.writes.time in
    let call = written.writes.call in
    rw written.writes.is (so_far-called meaning work false first now next last last known more
    (IsLookedAt known nodes jobs failure n seen)
    (IsBehind work more (set nodes n Open) jobs failure n lines _ 0)
    (ChangeItem n change) so call (rw call.is_own tt) (events ∙ rw call.is_own (sym (append-nil now.events)))
    (λ tasks has. has-before known n lines tasks (unknown n undecided) has)
    (λ tasks build has is. rw call.is_own (go_on-head work known nodes jobs failure n written.writes.time lines
    tasks seen build within may apart has written.in_meta is begun some
    (less-behind _ newest written.writes.time least written.writes.later)))
    (λ tasks build has is. rw call.is_own (silent work tasks now next last (changes n change ∷ []) out refl
    (λ outputs p. refl))))

-- the job of a node was opened, and its lines are to be started
pub so_far-opened : (meaning : Meaning) (work : Work) (known : Known) (nodes : List NodeState)
    (jobs : List Job) (failure : Option Failure) (n : ℕ) (lines : List TaskLine) (seen : List Seen)
    (last : Option ℕ) (first now next : Moment) (newest : ℕ) (collected : Collected)
    → SoFar meaning work false first now last known (IsLookedAt known nodes jobs failure n seen)
    → n < length nodes → get_or nodes n Failed ≡ Undecided
    → may_decide (rules_of work) nodes ≡ Some n → AreApart n jobs → AreUnknown known nodes
    → (begun : IsBegun work n seen lines) → 0 < length lines → raised_all 0 (begun_whens begun) ≤ newest
    → HasOpened meaning work now.history next.history n newest collected
    → next.events ≡ now.events → next.out ≡ now.out
    → (more : Known) × AreUnknown more (set nodes n Open)
    × SoFar meaning work false first next last more
    (IsBehind work more (set nodes n Open) jobs failure n lines collected 0)
so_far-opened meaning work known nodes jobs failure n lines seen last first now next newest collected so
    within undecided may apart unknown begun some least opened events out = (
      with_task known n lines,
      unknown-begun known (with_task known n lines) nodes n Open within (λ is. cc)
          (λ one other. rw (other_node n one other) refl) unknown,
      by opened,
    )
  where
    by : HasOpened meaning work now.history next.history n newest collected
        → SoFar meaning work false first next last (with_task known n lines)
        (IsBehind work (with_task known n lines) (set nodes n Open) jobs failure n lines collected 0)
    by (inl written) = so_far-head meaning work known nodes jobs failure n lines seen last first now next
        newest collected so within undecided may apart unknown begun some least written events out
    by (inr none) = so_far-plain meaning work known nodes jobs failure n lines seen last first now next
        collected so within undecided may apart unknown begun some none events out

-- or a part of a head stands, and the outside has ended the build
pub so_far-cut_head : (meaning : Meaning) (work : Work) (known : Known) (nodes : List NodeState)
    (jobs : List Job) (failure : Option Failure) (n : ℕ) (lines : List TaskLine) (seen : List Seen)
    (last : Option ℕ) (first now next : Moment)
    → SoFar meaning work false first now last known (IsLookedAt known nodes jobs failure n seen)
    → get_or nodes n Failed ≡ Undecided
    → may_decide (rules_of work) nodes ≡ Some n → AreUnknown known nodes
    → IsBegun work n seen lines → 0 < length lines
    → IsUnopened meaning work now.history next.history n
    → next.events ≡ now.events → next.out ≡ now.out
    → SoFar meaning work false first next last (with_task known n lines) (λ tasks build. Unit {0})
so_far-cut_head meaning work known nodes jobs failure n lines seen last first now next so undecided may
    unknown begun some part events out =
    let more = with_task known n lines in
    let call = part.call in
    so_far-called meaning work false first now next last last known more
    (IsLookedAt known nodes jobs failure n seen) (λ tasks build. Unit {0})
    (PartItem n (λ cut time. cut_head (first_path work n) cut time) (first_bytes work n)) so call
    (stay call.own call.is_own) (events ∙ told call.own call.is_own)
    (λ tasks has. has-before known n lines tasks (unknown n undecided) has)
    (λ tasks build has is. goes tasks build has is call.own call.is_own)
    (λ tasks build has is. quiet tasks call.own call.is_own)
  where
    Part : List Item → Type 0
    Part = PartItem n (λ cut time. cut_head (first_path work n) cut time) (first_bytes work n)

    stay : (own : List Item) → Part own → NoneLeft own
    stay own (inl none) = rw none tt
    stay own (inr is) = rw is.3 tt

    told : (own : List Item) → Part own → now.events ≡ now.events ++ reported_all own
    told own (inl none) = rw none (sym (append-nil now.events))
    told own (inr is) = rw is.3 (sym (append-nil now.events))

    goes : (tasks : run.Tasks) (build : Build) → HasTasks tasks (with_task known n lines)
        → IsLookedAt known nodes jobs failure n seen tasks build → (own : List Item) → Part own
        → GoesOn work tasks build own (λ tasks build. Unit {0})
    goes tasks build has is own (inl none) = rw none (record { makes = tt; stands = tt })
    goes tasks build has is own (inr cut) = rw cut.3 (go_on-cut_head work known nodes jobs failure n cut.1
        cut.0 lines tasks seen build may has part.in_meta is begun some cut.2)

    quiet : (tasks : run.Tasks) (own : List Item) → Part own
        → PrintsOwn work tasks false now next last last own
    quiet tasks own (inl none) = rw none (silent work tasks now next last [] out refl (λ outputs p. refl))
    quiet tasks own (inr cut) = rw cut.3 (silent work tasks now next last
        (changes n (cut_head (first_path work n) cut.0 cut.1) ∷ []) out refl (λ outputs p. refl))

-- the job of a node was not opened
pub halted-opening : (meaning : Meaning) (work : Work) (halt : Halt) (known : Known)
    (nodes : List NodeState) (jobs : List Job) (failure : Option Failure) (n : ℕ)
    (lines : List TaskLine) (seen : List Seen) (last : Option ℕ) (first : Moment)
    (history later : Option History) (out : Option (List ℕ)) (events : List Event)
    → SoFar meaning work false first (moment history out events) last known
    (IsLookedAt known nodes jobs failure n seen)
    → get_or nodes n Failed ≡ Undecided
    → may_decide (rules_of work) nodes ≡ Some n → AreUnknown known nodes
    → IsBegun work n seen lines → 0 < length lines → IsUnopened meaning work history later n
    → HaltedAt meaning work halt later events first out
halted-opening meaning work halt known nodes jobs failure n lines seen last first history later out events
    so undecided may unknown begun some part =
    halted meaning work halt first later out events last (with_task known n lines) _
    (so_far-cut_head meaning work known nodes jobs failure n lines seen last first
    (moment history out events) (moment later out events) so undecided may unknown begun some part refl
    refl)
