-- How each kind of item leaves a build.
use Rattle.std.proofs.Common.{◌≡◌, ◌≢◌, ◌∙◌, ℕ, ◌<◌, ◌≤◌, ◌==◌, List, [], ◌∷◌, ◌++◌, length, get_or, set, Option, Some, None, Bool, true, false, if◌then◌else◌}
use Rattle.std.proofs.Common.{inl, inr, refl, sym, ap, subst, arith}
use Rattle.std.proofs.lemmas.Grind.{common_steps}
use Rattle.std.proofs.lemmas.Bool.Decides.{nat_tests}
use Rattle.std.proofs.lemmas.Bool.{cases_eq}
use Rattle.mk_values.specs.declared.fault.ExpandFault.{ExpandFault}
use Rattle.mk_plan.specs.Deciding.{may_decide, open_jobs}
use Rattle.mk_plan.specs.declared.plan.NodeState.{NodeState}
use Rattle.mk_plan.specs.declared.plan.NodeState.TheVariants.{Undecided, Open, Settled, Failed}
use Rattle.mk_world.specs.Looks.{Seen}
use Rattle.mk_world.specs.declared.command.Cmd.{Cmd}
use Rattle.mk_world.specs.declared.command.TaskLine.{TaskLine}
use Rattle.mk_decision.specs.Decisions.{Work, IsKept, IsBegun, IsRefused}
use Rattle.mk_decision.specs.Newest.{begun_whens, raised_all}
use Rattle.mk_meta.specs.Texts.{head as head_of}
use Rattle.mk_meta.specs.TrueHistory.{meta_path}
use Rattle.mk_plan.specs.Plans.{node_at}
use Rattle.mk_trace.specs.Builds.{Build, Duty, Own, begin, rules_of, build_after, or_next, opening, with_ticket, with_collected, IsCommandOf, command_of, IsHead}
use Rattle.mk_trace.specs.Collected.{begun, has_meta}
use Rattle.mk_trace.specs.Items.{head, cut_head, looks, keeps, refuses, starts, waits, changes}
use Rattle.mk_world.specs.Sinks.{Begins}
use Rattle.mk_driver.specs.Jobs.{AreApart, HasLine}
use Rattle.mk_driver.specs.Progress.{AreRunning, IsGoing, IsLookedAt, IsSeen, IsPoised, IsBehind, IsRunning}
use Rattle.mk_trace.specs.Growth.{Known, HasTasks}
use Rattle.mk_trace.specs.Runs as run
use Rattle.mk_trace.specs.Steps.{GoesOn}
use Rattle.mk_driver.specs.declared.job.Job.{Job}
use Rattle.mk_trace.specs.declared.collected.Collected.{Collected}
use Rattle.mk_trace.specs.declared.result.Failure.{Failure}
use Rattle.mk_trace.specs.declared.result.Failure.TheVariants.{Expand}
use Rattle.mk_driver.proofs.NodeLemmas.{fresh-but, fresh-own, fresh-set}

pub same_node : (n : ℕ) → (n == n) ≡ true
same_node n = grind (arith, nat_tests, common_steps)

pub other_node : (n node : ℕ) → node ≢ n → (node == n) ≡ false
other_node n node other = grind (arith, nat_tests, common_steps)

-- the same is kept of the jobs of all nodes but one
abbrev pub AgreeBut : ℕ → Known → Known → (ℕ → ℕ) → (ℕ → ℕ) → (ℕ → Own) → (ℕ → Own) → Type 0
AgreeBut n known more started now_started own now_own = (one : ℕ) → one ≢ n
    → (now_started one ≡ started one) × (now_own one ≡ own one) × (more one ≡ known one)

-- jobs of other nodes run as before
pub running-apart : (known more : Known) (started now_started : ℕ → ℕ) (own now_own : ℕ → Own)
    (n : ℕ) (jobs : List Job) → AreApart n jobs
    → AgreeBut n known more started now_started own now_own
    → AreRunning known started own jobs → AreRunning more now_started now_own jobs
running-apart known more started now_started own now_own n [] apart agree are = tt
running-apart known more started now_started own now_own n (job ∷ jobs) apart agree are =
    let same = agree job.node apart.0 in (
      record {
        number_is = same.0 ∙ are.0.number_is;
        own_is = same.1 ∙ are.0.own_is;
        task = same.2 ∙ are.0.task;
      },
      running-apart known more started now_started own now_own n jobs apart.1 agree are.1,
    )

pub running-take : (known : Known) (started : ℕ → ℕ) (own : ℕ → Own) (front back : List Job) (job : Job)
    → AreRunning known started own (front ++ job ∷ back)
    → IsRunning known started own job × AreRunning known started own (front ++ back)
running-take known started own [] back job are = are
running-take known started own (first ∷ front) back job are =
    let more = running-take known started own front back job are.1 in (more.0, (are.0, more.1))

pub running-add : (known : Known) (started : ℕ → ℕ) (own : ℕ → Own) (jobs : List Job) (job : Job)
    → AreRunning known started own jobs → IsRunning known started own job
    → AreRunning known started own (jobs ++ job ∷ [])
running-add known started own [] job are is = (is, tt)
running-add known started own (first ∷ jobs) job are is =
    (are.0, running-add known started own jobs job are.1 is)

-- nothing is seen of a node that is undecided
pub seen-nothing : (known : Known) (nodes : List NodeState) (jobs : List Job)
    (failure : Option Failure) (n : ℕ) (tasks : run.Tasks) (build : Build)
    → get_or nodes n Failed ≡ Undecided
    → IsGoing known nodes run.anything jobs failure tasks build
    → IsLookedAt known nodes jobs failure n [] tasks build
seen-nothing known nodes jobs failure n tasks build undecided is =
    let fresh = is.stands.fresh n (λ none. cc) undecided in
    record {
      nodes_are = is.nodes_are;
      due_is = is.due_is;
      stands = record {
        running = is.stands.running;
        failed = is.stands.failed;
        duty_is = is.stands.duty_is;
        fresh = fresh-but nodes build.seen build.own n is.stands.fresh;
      };
      now = fresh.0;
      collected_is = fresh.1;
    }

-- one look more
seen-one : (work : Work) (known : Known) (nodes : List NodeState) (jobs : List Job)
    (failure : Option Failure) (n : ℕ) (tasks : run.Tasks) (build : Build) (seen : List Seen)
    (one : Seen) → IsLookedAt known nodes jobs failure n seen tasks build
    → IsLookedAt known nodes jobs failure n (seen ++ one ∷ []) tasks
    (build_after work tasks build (looks n one))
seen-one work known nodes jobs failure n tasks build seen one is = record {
  nodes_are = is.nodes_are;
  due_is = is.due_is;
  stands = record {
    running = is.stands.running;
    failed = is.stands.failed;
    duty_is = rw is.stands.duty_is refl;
    fresh = λ node other undecided.
        let was = is.stands.fresh node other undecided in
        (rw (other_node n node (λ same. other (ap (λ k. Some k) (sym same)))) was.0, was.1);
  };
  now = rw (same_node n, is.now) refl;
  collected_is = is.collected_is;
}

pub go_on-looks : (work : Work) (known : Known) (nodes : List NodeState) (jobs : List Job)
    (failure : Option Failure) (n : ℕ) (tasks : run.Tasks) (one : Seen)
    → may_decide (rules_of work) nodes ≡ Some n → (build : Build) (seen : List Seen)
    → IsLookedAt known nodes jobs failure n seen tasks build
    → GoesOn work tasks build (looks n one ∷ [])
    (IsLookedAt known nodes jobs failure n (seen ++ one ∷ []))
go_on-looks work known nodes jobs failure n tasks one may build seen is = record {
  makes = (tt, rw is.stands.duty_is tt, (λ due. (is.due_is, rw is.nodes_are may)), tt);
  stands = seen-one work known nodes jobs failure n tasks build seen one is;
}

-- the task of one more node is known
abbrev pub with_task : Known → ℕ → List TaskLine → Known
with_task known n lines = λ one. if one == n then Some lines else known one

pub has-before : (known : Known) (n : ℕ) (lines : List TaskLine) (tasks : run.Tasks)
    → known n ≡ None → HasTasks tasks (with_task known n lines) → HasTasks tasks known
has-before known n lines tasks unknown has node own is = elim (cases_eq node n) [
  | inl same ↦ absurd (none-some (sym (ap known same ∙ unknown) ∙ is))
  | inr other ↦ has node own (rw (other_node n node other) is)
]
  where
    none-some : None ≡ Some own → ⊥
    none-some is = cc

-- a kept node is settled
pub go_on-keeps : (work : Work) (known : Known) (nodes : List NodeState) (jobs : List Job)
    (failure : Option Failure) (n : ℕ) (lines : List TaskLine) (tasks : run.Tasks)
    (seen : List Seen) (build : Build)
    → n < length nodes → may_decide (rules_of work) nodes ≡ Some n → AreApart n jobs
    → HasTasks tasks (with_task known n lines)
    → IsLookedAt known nodes jobs failure n seen tasks build → IsKept work n seen lines
    → GoesOn work tasks build (keeps n ∷ [])
    (IsGoing (with_task known n lines) (set nodes n Settled) run.anything jobs failure)
go_on-keeps work known nodes jobs failure n lines tasks seen build within may apart has is kept =
    let mine : with_task known n lines n ≡ Some lines = rw (same_node n) refl in
    let task : tasks n ≡ lines = has n lines mine in record {
      makes = (
        ((is.due_is, rw is.nodes_are may), tt),
        is.stands.duty_is,
        subst (λ l. IsKept work n l (tasks n)) (sym is.now)
            (subst (IsKept work n seen) (sym task) kept),
        tt,
      );
      stands = record {
        nodes_are = ap (λ l. set l n Settled) is.nodes_are;
        due_is = refl;
        stands = record {
          running = running-apart known (with_task known n lines) build.run.started
              build.run.started build.own build.own n jobs apart
              (λ one other. (refl, refl, rw (other_node n one other) refl)) is.stands.running;
          failed = is.stands.failed;
          duty_is = is.stands.duty_is;
          fresh = fresh-set nodes build.seen build.own n Settled within (λ is. cc) is.stands.fresh;
        };
      };
    }

-- a refused node has failed
pub go_on-refuses : (work : Work) (known : Known) (nodes : List NodeState) (jobs : List Job)
    (failure : Option Failure) (n number : ℕ) (what : ExpandFault) (tasks : run.Tasks)
    (seen : List Seen) (build : Build)
    → n < length nodes → may_decide (rules_of work) nodes ≡ Some n
    → IsLookedAt known nodes jobs failure n seen tasks build → IsRefused work n seen number what
    → GoesOn work tasks build (refuses n number what ∷ [])
    (IsGoing known (set nodes n Failed) run.anything jobs
    (or_next failure (Some (Expand n number what))))
go_on-refuses work known nodes jobs failure n number what tasks seen build within may is refused =
    record {
      makes = (
        ((is.due_is, rw is.nodes_are may), tt),
        is.stands.duty_is,
        subst (λ l. IsRefused work n l number what) (sym is.now) refused,
        tt,
      );
      stands = record {
        nodes_are = ap (λ l. set l n Failed) is.nodes_are;
        due_is = refl;
        stands = record {
          running = is.stands.running;
          failed = ap (λ f. or_next f (Some (Expand n number what))) is.stands.failed;
          duty_is = is.stands.duty_is;
          fresh = fresh-set nodes build.seen build.own n Failed within (λ is. cc) is.stands.fresh;
        };
      };
    }

-- the lines of a node are to be started, and it has a token
pub behind-begun : (work : Work) (known : Known) (nodes : List NodeState) (jobs : List Job)
    (failure : Option Failure) (n : ℕ) (lines : List TaskLine) (collected : Collected)
    (tasks : run.Tasks) (seen : List Seen) (duty : Duty) (build : Build)
    → n < length nodes → may_decide (rules_of work) nodes ≡ Some n → AreApart n jobs
    → HasTasks tasks (with_task known n lines) → duty ≡ opening work n 1
    → IsSeen known nodes jobs failure n seen duty collected tasks build → IsBegun work n seen lines
    → 0 < length lines
    → IsBehind work (with_task known n lines) (set nodes n Open) jobs failure n lines collected 0 tasks
    build
behind-begun work known nodes jobs failure n lines collected tasks seen duty build within may apart has
    duty_is is begun some =
    let mine : with_task known n lines n ≡ Some lines = rw (same_node n) refl in
    let task : tasks n ≡ lines = has n lines mine in (
      (λ more. record {
        nodes_are = ap (λ l. set l n Open) is.nodes_are;
        may = subst (run.MayStart (rules_of work) tasks build.run n 1) (sym is.due_is)
            (rw is.nodes_are may, refl, rw task some);
        reason = λ first. subst (λ l. IsBegun work n l lines) (sym is.now) begun;
        task = mine;
        collected_is = is.collected_is;
        stands = record {
          running = running-apart known (with_task known n lines) build.run.started
              build.run.started build.own build.own n jobs apart
              (λ one other. (refl, refl, rw (other_node n one other) refl)) is.stands.running;
          failed = is.stands.failed;
          duty_is = is.stands.duty_is ∙ duty_is;
          fresh = fresh-set nodes build.seen build.own n Open within (λ is. cc) is.stands.fresh;
        };
      }),
      (λ none. absurd (none_left (length lines) some none)),
    )
  where
    none_left : (k : ℕ) → 0 < k → k ≤ 0 → ⊥
    none_left k some none = omega arith

-- a head was written: what the job has collected is new
seen-head : (work : Work) (known : Known) (nodes : List NodeState) (jobs : List Job)
    (failure : Option Failure) (n time : ℕ) (path bytes : List ℕ) (tasks : run.Tasks) (build : Build)
    (seen : List Seen) → AreApart n jobs → IsLookedAt known nodes jobs failure n seen tasks build
    → IsSeen known nodes jobs failure n seen (begin n) (begun time) tasks
    (build_after work tasks build (changes n (head path bytes time)))
seen-head work known nodes jobs failure n time path bytes tasks build seen apart is = record {
  nodes_are = is.nodes_are;
  due_is = is.due_is;
  stands = record {
    running = running-apart known known build.run.started build.run.started build.own
        (with_collected build.own n (begun time)) n jobs apart
        (λ one other. (refl, rw (other_node n one other) refl, refl)) is.stands.running;
    failed = is.stands.failed;
    duty_is = refl;
    fresh = fresh-own (Some n) nodes build.seen build.own (with_collected build.own n (begun time))
        (λ node other undecided.
        rw (other_node n node (λ same. other (ap (λ k. Some k) (sym same)))) refl) is.stands.fresh;
  };
  now = is.now;
  collected_is = rw (same_node n) refl;
}

-- the head of the meta file of a node that is out of date
abbrev pub first_bytes : Work → ℕ → List ℕ
first_bytes work n = head_of (node_at work.plan n).name

abbrev pub first_path : Work → ℕ → List ℕ
first_path work n = meta_path (node_at work.plan n).name

-- what was seen of a node and its lines, by another name
begun-moved : (work : Work) (n : ℕ) (seen other : List Seen) (lines more : List TaskLine)
    → other ≡ seen → more ≡ lines → (begun : IsBegun work n seen lines)
    → (moved : IsBegun work n other more) × (begun_whens moved ≡ begun_whens begun)
begun-moved work n seen other lines more same task begun =
    subst (λ o. (moved : IsBegun work n o more) × (begun_whens moved ≡ begun_whens begun)) (sym same)
    (subst (λ m. (moved : IsBegun work n seen m) × (begun_whens moved ≡ begun_whens begun)) (sym task)
    (begun, refl))

is-head : (work : Work) (known : Known) (nodes : List NodeState) (jobs : List Job)
    (failure : Option Failure) (n : ℕ) (lines : List TaskLine) (tasks : run.Tasks)
    (seen : List Seen) (build : Build) → may_decide (rules_of work) nodes ≡ Some n
    → HasTasks tasks (with_task known n lines) → has_meta work n ≡ true
    → IsLookedAt known nodes jobs failure n seen tasks build → (begun : IsBegun work n seen lines)
    → 0 < length lines → (is : IsHead work tasks build n (first_path work n) (first_bytes work n))
    × (begun_whens is.reason ≡ begun_whens begun)
is-head work known nodes jobs failure n lines tasks seen build may has in_meta is begun_now some =
    let mine : with_task known n lines n ≡ Some lines = rw (same_node n) refl in
    let task : tasks n ≡ lines = has n lines mine in
    let moved = begun-moved work n seen (build.seen n) lines (tasks n) is.now task begun_now in (
      record {
        may = (is.due_is, rw is.nodes_are may);
        reason = moved.0;
        some = rw task some;
        in_meta = in_meta;
        path_is = refl;
        bytes_are = refl;
      },
      moved.1,
    )

-- the job of a node was opened with a head
pub go_on-head : (work : Work) (known : Known) (nodes : List NodeState) (jobs : List Job)
    (failure : Option Failure) (n time : ℕ) (lines : List TaskLine) (tasks : run.Tasks)
    (seen : List Seen) (build : Build)
    → n < length nodes → may_decide (rules_of work) nodes ≡ Some n → AreApart n jobs
    → HasTasks tasks (with_task known n lines) → has_meta work n ≡ true
    → IsLookedAt known nodes jobs failure n seen tasks build → (begun_now : IsBegun work n seen lines)
    → 0 < length lines → raised_all 0 (begun_whens begun_now) < time
    → GoesOn work tasks build (changes n (head (first_path work n) (first_bytes work n) time) ∷ [])
    (IsBehind work (with_task known n lines) (set nodes n Open) jobs failure n lines (begun time) 0)
go_on-head work known nodes jobs failure n time lines tasks seen build within may apart has in_meta is
    begun_now some later =
    let change = head (first_path work n) (first_bytes work n) time in
    let new = is-head work known nodes jobs failure n lines tasks seen build may has in_meta is begun_now some in
    record {
      makes = (
        tt,
        is.stands.duty_is,
        (new.0, subst (λ l. raised_all 0 l < time) (sym new.1) later),
        tt,
      );
      stands = behind-begun work known nodes jobs failure n lines (begun time) tasks seen (begin n)
          (build_after work tasks build (changes n change)) within may apart has (rw in_meta refl)
          (seen-head work known nodes jobs failure n time (first_path work n) (first_bytes work n) tasks
          build seen apart is) begun_now some;
    }

-- or a part of one stands
pub go_on-cut_head : (work : Work) (known : Known) (nodes : List NodeState) (jobs : List Job)
    (failure : Option Failure) (n time : ℕ) (part : List ℕ) (lines : List TaskLine)
    (tasks : run.Tasks) (seen : List Seen) (build : Build)
    → may_decide (rules_of work) nodes ≡ Some n
    → HasTasks tasks (with_task known n lines) → has_meta work n ≡ true
    → IsLookedAt known nodes jobs failure n seen tasks build → IsBegun work n seen lines
    → 0 < length lines → Begins part (first_bytes work n)
    → GoesOn work tasks build (changes n (cut_head (first_path work n) part time) ∷ [])
    (λ tasks build. Unit {0})
go_on-cut_head work known nodes jobs failure n time part lines tasks seen build may has in_meta is
    begun_now some begins =
    record {
      makes = (
        tt,
        is.stands.duty_is,
        (
          first_bytes work n,
          (is-head work known nodes jobs failure n lines tasks seen build may has in_meta is begun_now some).0,
          begins,
        ),
        tt,
      );
      stands = tt;
    }

-- the child of a poised line runs
pub go_on-starts : (work : Work) (known : Known) (nodes : List NodeState) (jobs : List Job)
    (failure : Option Failure) (job : Job) (one : TaskLine) (cmd : Cmd) (tasks : run.Tasks)
    (build : Build) → HasTasks tasks known → AreApart job.node jobs
    → IsPoised work known nodes jobs failure job.node job.task.lines job.collected job.number tasks
    build
    → HasLine job.task.lines job.number one → cmd ≡ command_of work one
    → GoesOn work tasks build (starts job.node job.number job.ticket job.collected.owner cmd ∷ [])
    (IsGoing known nodes run.anything (jobs ++ job ∷ []) failure)
go_on-starts work known nodes jobs failure job one cmd tasks build has apart is line command =
    let n = job.node in
    let task : tasks n ≡ job.task.lines = has n job.task.lines is.task in
    let line_is : run.line_of (tasks n) job.number ≡ Some one = rw task line.line in
    let child : run.has_child (run.line_of (tasks n) job.number) ≡ true =
    rw (line_is, line.child) refl in
    let begun_now : ℕ → ℕ = λ k. if k == n then job.number else build.run.started k in
    let own_now : ℕ → Own = with_ticket build.own n job.ticket in
    record {
      makes = (
        (is.may, tt),
        is.stands.duty_is,
        (
          (λ first. subst (IsBegun work n (build.seen n)) (sym task) (is.reason first)),
          subst (λ l. IsCommandOf work l cmd) (sym line_is) (line.child, command),
          ap (λ (k : Collected). k.owner) (sym is.collected_is),
        ),
        tt,
      );
      stands = record {
        nodes_are = is.nodes_are;
        due_is = rw child refl;
        stands = record {
          running = running-add known begun_now own_now jobs job
              (running-apart known known build.run.started begun_now build.own own_now n jobs apart
              (λ k other. (
                rw (other_node n k other) refl,
                rw (other_node n k other) refl,
                refl,
              )) is.stands.running)
              (record {
                number_is = rw (same_node n) refl;
                own_is = rw (same_node n, is.collected_is) refl;
                task = is.task;
              });
          failed = is.stands.failed;
          duty_is = refl;
          fresh = fresh-own None nodes build.seen build.own own_now
              (λ node other undecided. kept node (node == n)) is.stands.fresh;
        };
      };
    }
  where
    kept : (node : ℕ) (same : Bool)
        → (if same then record { ticket = job.ticket; collected = (build.own node).collected }
        else build.own node).collected ≡ (build.own node).collected
    kept node true = refl
    kept node false = refl

-- make waits for a child
pub go_on-waits : (work : Work) (known : Known) (nodes : List NodeState) (jobs : List Job)
    (failure : Option Failure) (tasks : run.Tasks) (build : Build)
    → may_decide (rules_of work) nodes ≡ None → 0 < open_jobs nodes
    → IsGoing known nodes run.anything jobs failure tasks build
    → GoesOn work tasks build (waits ∷ []) (IsGoing known nodes run.child jobs failure)
go_on-waits work known nodes jobs failure tasks build none some is = record {
  makes = (
    ((is.due_is, rw is.nodes_are none, rw is.nodes_are some), tt),
    is.stands.duty_is,
    tt,
    tt,
  );
  stands = record {
    nodes_are = is.nodes_are;
    due_is = refl;
    stands = record {
      running = is.stands.running;
      failed = is.stands.failed;
      duty_is = is.stands.duty_is;
      fresh = is.stands.fresh;
    };
  };
}
