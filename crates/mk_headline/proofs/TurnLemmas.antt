-- Each item of a build is lawful turns.
use Rattle.std.proofs.Common.{◌≡◌, ◌≢◌, ◌∙◌, ℕ, zero, suc, ◌+◌, ◌-◌, ◌<◌, ◌==◌, ◌&&◌, ◌||◌, not, nat_le, List, [], ◌∷◌, ◌++◌, length, map, drop, set, slice_get, Option, Some, None, Bool, true, false, if◌then◌else◌}
use Rattle.std.proofs.Common.{inl, inr, refl, sym, ap, subst, arith, eq-eqb, leb-true}
use Rattle.std.proofs.lemmas.Bool.{cases_eq, false≢true}
use Rattle.std.proofs.lemmas.List.{map-append}
use Rattle.std.specs.List.{list_any}
use Rattle.mk_clean.specs.Clean.{Plan}
use Rattle.mk_clean.specs.Jobs.{goes_on}
use Rattle.mk_clean.specs.Turns as turn
use Rattle.mk_clean.specs.Turns.{Stage, waiting, between, inside, settled, failed, Turn, after_turn, after_turns, with_stage, ended_with, MayStep, MayEndLine, MayFail, SourcesSettled, MayTurns}
use Rattle.mk_decision.specs.Decisions.{Work}
use Rattle.mk_headline.proofs.PlanLemmas.{meta_path-is}
use Rattle.mk_headline.proofs.StageLemmas.{working-line, working-empty, working-past, going-back, sound-open, sound-undecided, sound-start, AreOfNodes, InLine, FitsNode, fits-quiet, quiet-same, quiet-settled, quiet-waits, quiet-starts, quiet-passes, quiet-ends, quiet-steps, may-append, after-append, own-stage, other-stage, Ready}
use Rattle.mk_headline.specs.Plans.{clean_plan, has_job, is_meta_path, makes_file}
use Rattle.mk_headline.specs.Turned.{begun_by, settled_by, ended_by, put_by, IsTurned}
use Rattle.mk_meta.specs.Jobs.{is_empty, working}
use Rattle.mk_meta.specs.TrueHistory.{meta_path}
use Rattle.mk_plan.specs.Deciding.{is_failed, is_stopped}
use Rattle.mk_plan.specs.Plans.{node_at}
use Rattle.mk_plan.specs.declared.plan.NodeState.{NodeState}
use Rattle.mk_plan.specs.declared.plan.NodeState.TheVariants.{Undecided, Open, Settled, Failed}
use Rattle.mk_trace.proofs.BegunLemmas.{Steady, start-within}
use Rattle.mk_trace.proofs.TrueChildren.{child_in-contains, step-child, end-child}
use Rattle.mk_trace.proofs.TrueRuns.{slice-same, ended_run, IsFree, taken-due}
use Rattle.mk_trace.specs.Builds.{Build, Own, remove, MayFollow, MayChange, IsCommandOf, command_of, build_after, rules_of, own_changed, with_collected, with_ticket}
use Rattle.mk_trace.specs.Collected.{with_end}
use Rattle.mk_trace.specs.declared.collected.Collected.{Collected}
use Rattle.mk_trace.specs.Items.{Change, gone, head, whole, cut_head, cut_whole, Item, looks, keeps, refuses, starts, passes, waits, steps, ends, changes, path_of, happened, reported, Fits}
use Rattle.mk_trace.specs.Runs as run
use Rattle.mk_trace.specs.Together.{HasChild, IsNotDue, AreTogether}
use Rattle.mk_world.proofs.ChangeLemmas.{contents-effected_all}
use Rattle.mk_world.proofs.ChildLemmas.{child_in-last, child_in-stepped, child_in-ticket}
use Rattle.mk_world.specs.Calls.{EndsAs}
use Rattle.mk_world.specs.Deeds.{Store, IsRight, changes as changes_of, put, put_all}
use Rattle.mk_world.specs.History.{State as Stand, MayAll as MayHappen, after_all as stand_after, FileMap, at_time, effected_all, contents, child_in, IsStep}
use Rattle.mk_world.specs.Looks.{Seen}
use Rattle.mk_world.specs.Talks.{Meaning, answer}
use Rattle.mk_world.specs.declared.command.Cmd.{Cmd}
use Rattle.mk_values.specs.declared.fault.ExpandFault.{ExpandFault}
use Rattle.mk_world.specs.declared.command.TaskLine.{TaskLine}
use Rattle.mk_world.specs.declared.history.Child.{Child}
use Rattle.mk_world.specs.declared.step.Deed.{Deed}
use Rattle.mk_world.specs.declared.step.Ended.{Ended}
use Rattle.mk_world.specs.declared.step.Next.TheVariants.{Over as Ended_with}

-- of all nodes, this one and the others
pub each-node : (n : ℕ) (P : ℕ → Type 0) → P n → ((node : ℕ) → node ≢ n → P node) → (node : ℕ) → P node
each-node n P mine others node = elim (cases_eq node n) [
  | inl same ↦ subst P (sym same) mine
  | inr other ↦ others node other
]

-- failures

both-false : (a b : Bool) → (a || b) ≡ false → (a ≡ false) × (b ≡ false)
both-false true b is = absurd cc
both-false false b is = (refl, is)

neither : (a b : Bool) → a ≡ false → b ≡ false → (a || b) ≡ false
neither true b first second = absurd cc
neither false b first second = second

pub none_failed-set : (nodes : List NodeState) (n : ℕ) (state : NodeState) → is_failed state ≡ false
    → list_any is_failed nodes ≡ false → list_any is_failed (set nodes n state) ≡ false
none_failed-set [] n state is none = refl
none_failed-set (one ∷ nodes) zero state is none =
    neither _ _ is (both-false (is_failed one) (list_any is_failed nodes) none).1
none_failed-set (one ∷ nodes) (suc n) state is none =
    let parts = both-false (is_failed one) (list_any is_failed nodes) none in
    neither _ _ parts.0 (none_failed-set nodes n state is parts.1)

goes-on : (line : TaskLine) (status : ℕ) (output : List ℕ) → run.fails (Some line) status ≡ false
    → goes_on line (ended_with status output) ≡ true
goes-on line status output well = by (status == 0) line.ignore well
  where
    by : (ends_well ignore : Bool) → (not ends_well && not ignore) ≡ false → (ignore || ends_well) ≡ true
    by true true given = refl
    by true false given = refl
    by false true given = refl
    by false false given = absurd cc

goes-not : (line : TaskLine) (status : ℕ) (output : List ℕ) → run.fails (Some line) status ≡ true
    → goes_on line (ended_with status output) ≡ false
goes-not line status output bad = by (status == 0) line.ignore bad
  where
    by : (ends_well ignore : Bool) → (not ends_well && not ignore) ≡ true → (ignore || ends_well) ≡ false
    by true true given = absurd cc
    by true false given = absurd cc
    by false true given = absurd cc
    by false false given = refl

pub slice-here : (all : List NodeState) (k : ℕ) (stands : NodeState) → k < length all
    → slice_get (set all k stands) k ≡ Some stands
slice-here [] k stands less = absurd (omega (arith, less))
slice-here (one ∷ all) zero stands less = refl
slice-here (one ∷ all) (suc k) stands less = slice-here all k stands (omega (arith, less))

command-line : (work : Work) (one : Option TaskLine) (cmd : Cmd) → IsCommandOf work one cmd
    → (line : TaskLine) × (one ≡ Some line) × (is_empty line.text ≡ false) × (cmd ≡ command_of work line)
command-line work None cmd is = absurd is
command-line work (Some line) cmd is = (line, refl, is.0, is.1)

no-line : (has : Bool) (node number other line : ℕ)
    → (if has then run.anything else run.close node number) ≡ run.line other line → ⊥
no-line true node number other line is = absurd cc
no-line false node number other line is = absurd cc

no-child-due : (state : run.State) (n number status : ℕ) (has : Bool)
    → run.MayEnd state n number status (if has then run.anything else run.close n number) → has ≡ false
no-child-due state n number status true may = absurd may
no-child-due state n number status false may = refl

tickets-kept : (own : ℕ → Own) (n : ℕ) (collected : Collected) (node : ℕ)
    → (with_collected own n collected node).ticket ≡ (own node).ticket
tickets-kept own n collected node = by (node == n)
  where
    by : (b : Bool)
        → (if b then record { ticket = (own node).ticket; collected = collected } else own node).ticket
        ≡ (own node).ticket
    by true = refl
    by false = refl

no-open : (nodes : List NodeState) (n : ℕ) (stands : NodeState) (P : Type 0)
    → slice_get (set nodes n Open) n ≡ Some stands → (Open ≡ stands → ⊥) → P
no-open nodes n stands P is never = absurd (never (slice-same nodes n Open stands is))

module _ (meaning : Meaning) (work : Work) (tasks : run.Tasks) where
  abbrev plan : Plan
  plan = clean_plan work tasks

  -- an item as turns: they may be made, and behind them all is as behind the item
  pub record Turning (build : Build) (stand : Stand) (clean : turn.Build) (item : Item) : Type 0 where
    pub now : List Turn
    pub turned : IsTurned tasks build item now
    pub may : MayTurns meaning plan clean now
    pub files : contents (stand_after stand (happened item)).files ≡ (after_turns plan clean now).files
    pub nodes : (node : ℕ) → FitsNode meaning work tasks (build_after work tasks build item).run
        (build_after work tasks build item).own (stand_after stand (happened item)).children node
        ((after_turns plan clean now).stage node)
    pub looks : ((node : ℕ) (seen : Seen) → item ≡ looks node seen → ⊥)
        → (after_turns plan clean now).looks ≡ clean.looks

  abbrev FitsAllNodes : Build → Stand → turn.Build → Type 0
  FitsAllNodes build stand clean =
      (node : ℕ) → FitsNode meaning work tasks build.run build.own stand.children node (clean.stage node)

  -- looks

  abbrev pub look-passed : (build : Build) (stand : Stand) (clean : turn.Build) (n : ℕ) (seen : Seen)
      → contents stand.files ≡ clean.files → FitsAllNodes build stand clean
      → Turning build stand clean (looks n seen)
  look-passed build stand clean n seen files nodes = record {
    now = [];
    turned = inl refl;
    may = tt;
    files = files;
    nodes = nodes;
    looks = λ none. refl;
  }

  abbrev pub look-taken : (build : Build) (stand : Stand) (clean : turn.Build) (n : ℕ) (seen : Seen)
      → contents stand.files ≡ clean.files → FitsAllNodes build stand clean
      → clean.stage n ≡ waiting → SourcesSettled plan clean n
      → Turning build stand clean (looks n seen)
  look-taken build stand clean n seen files nodes idle sources = record {
    now = turn.looks_at n (path_of seen) ∷ [];
    turned = inr refl;
    may = ((idle, sources), tt);
    files = files;
    nodes = nodes;
    looks = λ none. absurd (none n seen refl);
  }

  -- a node is kept
  fits-kept : (state : run.State) (own : ℕ → Own) (children : List Child) (n : ℕ) (stage : Stage)
      → stage ≡ settled → FitsNode meaning work tasks (run.settle state n Settled) own children n stage
  fits-kept state own children n stage is = record {
    undecided = λ given. let same = slice-same state.nodes n Settled Undecided given in absurd cc;
    decided = λ going given. is;
    running = λ child has here. let same = slice-same state.nodes n Settled Open has.0 in absurd cc;
    due = λ number given. absurd cc;
  }

  -- it has failed
  fits-failed : (state : run.State) (own : ℕ → Own) (children : List Child) (n : ℕ) (stage : Stage)
      → FitsNode meaning work tasks (run.settle state n Failed) own children n stage
  fits-failed state own children n stage = record {
    undecided = λ given. let same = slice-same state.nodes n Failed Undecided given in absurd cc;
    decided = λ going given. let same = slice-same state.nodes n Failed Settled given in absurd cc;
    running = λ child has here. let same = slice-same state.nodes n Failed Open has.0 in absurd cc;
    due = λ number given. absurd cc;
  }

  -- or its job ends early, since a failure has stopped the run
  fits-stopped : (state : run.State) (own : ℕ → Own) (children : List Child) (n : ℕ) (stage : Stage)
      → slice_get state.nodes n ≡ Some Open → is_stopped (rules_of work) state.nodes ≡ true
      → FitsNode meaning work tasks (run.settle state n Settled) own children n stage
  fits-stopped state own children n stage opens stops = record {
    undecided = λ given. let same = slice-same state.nodes n Settled Undecided given in absurd cc;
    decided = λ going given.
        absurd (false≢true
        (sym (going-back (rules_of work) state.nodes n Settled (sound-open state.nodes n opens) going) ∙ stops));
    running = λ child has here. let same = slice-same state.nodes n Settled Open has.0 in absurd cc;
    due = λ number given. absurd cc;
  }

  pub kept : (build : Build) (stand : Stand) (clean : turn.Build) (n : ℕ)
      → contents stand.files ≡ clean.files → FitsAllNodes build stand clean
      → build.run.due ≡ run.anything → slice_get build.run.nodes n ≡ Some Undecided
      → clean.stage n ≡ waiting → SourcesSettled plan clean n
      → turn.MayKeep meaning plan clean n → Turning build stand clean (keeps n)
  kept build stand clean n files nodes due undecided idle sources keep = record {
    now = turn.keeps n ∷ [];
    turned = refl;
    may = ((idle, sources, keep), tt);
    files = files;
    nodes = each-node n _
        (fits-kept build.run build.own stand.children n _ (own-stage meaning work tasks n settled clean.stage))
        (λ node other.
        fits-quiet meaning work tasks build.run (run.settle build.run n Settled) build.own build.own
        stand.children stand.children node (clean.stage node) _
        (other-stage meaning work tasks n node settled clean.stage other)
        (quiet-settled meaning work tasks build.run build.own stand.children n node Settled other due
        (sound-undecided build.run.nodes n undecided)) (nodes node));
    looks = λ none. refl;
  }

  -- a node is refused, and has no turn
  pub refused : (build : Build) (stand : Stand) (clean : turn.Build) (n number : ℕ) (what : ExpandFault)
      → contents stand.files ≡ clean.files → FitsAllNodes build stand clean
      → build.run.due ≡ run.anything → slice_get build.run.nodes n ≡ Some Undecided
      → Turning build stand clean (refuses n number what)
  refused build stand clean n number what files nodes due undecided = record {
    now = [];
    turned = refl;
    may = tt;
    files = files;
    nodes = each-node n _ (fits-failed build.run build.own stand.children n (clean.stage n))
        (λ node other.
        fits-quiet meaning work tasks build.run (run.settle build.run n Failed) build.own build.own
        stand.children stand.children node (clean.stage node) (clean.stage node) refl
        (quiet-settled meaning work tasks build.run build.own stand.children n node Failed other due
        (sound-undecided build.run.nodes n undecided)) (nodes node));
    looks = λ none. refl;
  }

  pub waited : (build : Build) (stand : Stand) (clean : turn.Build)
      → contents stand.files ≡ clean.files → FitsAllNodes build stand clean
      → build.run.due ≡ run.anything → Turning build stand clean waits
  waited build stand clean files nodes due = record {
    now = [];
    turned = refl;
    may = tt;
    files = files;
    nodes = λ node.
        fits-quiet meaning work tasks build.run _ build.own build.own stand.children stand.children node
        (clean.stage node) (clean.stage node) refl
        (quiet-waits meaning work tasks build.run build.own stand.children node due) (nodes node);
    looks = λ none. refl;
  }

  -- a line begins
  pub started : (build : Build) (stand : Stand) (clean : turn.Build) (n number ticket owner : ℕ) (cmd : Cmd)
      → contents stand.files ≡ clean.files → FitsAllNodes build stand clean
      → AreTogether work tasks build.run build.own stand.children → Steady build.run.nodes build.run.due
      → run.MayStart (rules_of work) tasks build.run n number build.run.due
      → IsCommandOf work (run.line_of (tasks n) number) cmd → child_in stand.children ticket ≡ None
      → Ready meaning work tasks n number clean (begun_by n number)
      → Turning build stand clean (starts n number ticket owner cmd)
  started build stand clean n number ticket owner cmd files nodes together steady may is none begun = record {
    now = begun_by n number ++ turn.starts_line n ∷ [];
    turned = refl;
    may = may-append meaning work tasks clean (begun_by n number) (turn.starts_line n ∷ []) begun.may (
      (begun.deeds, line.0, working (drop (begun.place + 1) (tasks n)), begun.stage_is ∙ ap (λ l. between begun.deeds l) lines),
      tt,
    );
    files = files ∙ (sym begun.files
        ∙ sym (ap (λ (c : turn.Build). c.files) behind));
    nodes = each-node n _ mine
        (λ node other.
        fits-quiet meaning work tasks build.run (run.start_line tasks build.run n number) build.own
        (with_ticket build.own n ticket) stand.children (stand.children ++ new ∷ []) node
        (clean.stage node) _
        (ap (λ (c : turn.Build). c.stage node) behind
        ∙ (other-stage meaning work tasks n node _ first.stage other ∙ begun.others node other))
        (quiet-starts meaning work tasks build.run build.own stand.children n node number ticket owner cmd
        other may (sound-start (rules_of work) tasks build.run n number build.run.due steady may) together)
        (nodes node));
    looks = λ no_look. ap (λ (c : turn.Build). c.looks) behind ∙ begun.looks;
  }
    where
      first : turn.Build
      first = after_turns plan clean (begun_by n number)

      new : Child
      new = record { ticket = ticket; owner = owner; cmd = cmd; deeds = [] }

      line : (line : TaskLine) × (run.line_of (tasks n) number ≡ Some line) × (is_empty line.text ≡ false)
          × (cmd ≡ command_of work line)
      line = command-line work (run.line_of (tasks n) number) cmd is

      at_place : slice_get (tasks n) begun.place ≡ Some line.0
      at_place =
          let is = begun.number_is in
          let same : number - 1 ≡ begun.place = omega (arith, is) in
          subst (λ k. slice_get (tasks n) k ≡ Some line.0) same line.1

      lines : working (drop begun.place (tasks n)) ≡ line.0 ∷ working (drop (begun.place + 1) (tasks n))
      lines = working-line (tasks n) begun.place line.0 at_place line.2

      behind : after_turns plan clean (begun_by n number ++ turn.starts_line n ∷ [])
          ≡ after_turn plan first (turn.starts_line n)
      behind = after-append meaning work tasks clean (begun_by n number) (turn.starts_line n ∷ [])

      stage_is : (after_turns plan clean (begun_by n number ++ turn.starts_line n ∷ [])).stage n
          ≡ inside begun.deeds [] line.0 (working (drop number (tasks n)))
      stage_is =
          ap (λ (c : turn.Build). c.stage n) behind
          ∙ (own-stage meaning work tasks n (turn.started (first.stage n)) first.stage
          ∙ (ap turn.started (begun.stage_is ∙ ap (λ l. between begun.deeds l) lines)
          ∙ ap (λ k. inside begun.deeds [] line.0 (working (drop k (tasks n)))) (sym begun.number_is)))

      ticket_is : with_ticket build.own n ticket n ≡ record { ticket = ticket; collected = (build.own n).collected }
      ticket_is = rw (eq-eqb n n refl) refl

      mine : FitsNode meaning work tasks (run.start_line tasks build.run n number)
          (with_ticket build.own n ticket) (stand.children ++ new ∷ []) n
          ((after_turns plan clean (begun_by n number ++ turn.starts_line n ∷ [])).stage n)
      mine = record {
        undecided = λ given. no-open build.run.nodes n Undecided _ given (λ same. absurd cc);
        decided = λ going given. no-open build.run.nodes n Settled _ given (λ same. absurd cc);
        running = λ child has here.
            let found : Some new ≡ Some child =
            sym (child_in-last stand.children new none)
            ∙ (ap (λ (o : Own). child_in (stand.children ++ new ∷ []) o.ticket) (sym ticket_is) ∙ here) in
            let same : new ≡ child = cc in
            let counts : (if n == n then number else build.run.started n) ≡ number =
            rw (eq-eqb n n refl) refl in
            subst (λ k. InLine meaning work tasks n k child
            ((after_turns plan clean (begun_by n number ++ turn.starts_line n ∷ [])).stage n)) (sym counts)
            (subst (λ c. InLine meaning work tasks n number c
            ((after_turns plan clean (begun_by n number ++ turn.starts_line n ∷ [])).stage n)) same
            (record {
              deeds = begun.deeds;
              line = line.0;
              line_is = line.1;
              has = begun.has;
              later = let is = begun.number_is in omega (arith, is);
              cmd = line.3;
              stage_is = stage_is;
            }));
        due = λ other given.
            absurd (no-line (run.has_child (run.line_of (tasks n) number)) n number n other given);
      }

  -- behind the last line a node is settled

  abbrev settles_if : Bool → ℕ → List Turn
  settles_if over n = if over then turn.settles n ∷ [] else []

  record EndedBy (n number : ℕ) (state : run.State) (own : ℕ → Own) (children : List Child)
      (clean : turn.Build) (turns : List Turn) (over stops : Bool) : Type 0
    where
      may : MayTurns meaning plan clean turns
      files : (after_turns plan clean turns).files ≡ clean.files
      looks : (after_turns plan clean turns).looks ≡ clean.looks
      mine : FitsNode meaning work tasks (ended_run state n number false (over || stops)) own children n
          ((after_turns plan clean turns).stage n)
      others : (node : ℕ) → node ≢ n → (after_turns plan clean turns).stage node ≡ clean.stage node

  ended-by : (n number : ℕ) (state : run.State) (own : ℕ → Own) (children : List Child)
      (clean : turn.Build) (deeds : List Deed) (over stops : Bool) → nat_le (length (tasks n)) number ≡ over
      → is_stopped (rules_of work) state.nodes ≡ stops
      → 0 < number → slice_get state.nodes n ≡ Some Open → has_job (node_at work.plan n) ≡ true
      → clean.stage n ≡ between deeds (working (drop number (tasks n)))
      → EndedBy n number state own children clean (settles_if over n) over stops
  ended-by n number state own children clean deeds true stops over stopped later opens has is =
      let past = working-past (tasks n) number (leb-true (length (tasks n)) number over) in
      record {
        may = ((deeds, is ∙ ap (λ l. between deeds l) past), tt);
        files = refl;
        looks = refl;
        mine = fits-kept state own children n _ (own-stage meaning work tasks n settled clean.stage);
        others = λ node other. other-stage meaning work tasks n node settled clean.stage other;
      }
  ended-by n number state own children clean deeds false true over stopped later opens has is = record {
    may = tt;
    files = refl;
    looks = refl;
    mine = fits-stopped state own children n (clean.stage n) opens stopped;
    others = λ node other. refl;
  }
  ended-by n number state own children clean deeds false false over stopped later opens has is = record {
    may = tt;
    files = refl;
    looks = refl;
    mine = record {
      undecided = λ given. let clash : Some Open ≡ Some Undecided = sym opens ∙ given in absurd cc;
      decided = λ going given. let clash : Some Open ≡ Some Settled = sym opens ∙ given in absurd cc;
      running = λ child has_child here. absurd (has_child.1 refl);
      due = λ other given.
          let same : number + 1 ≡ other = cc in
          record {
            place = number;
            number_is = sym same;
            has = has;
            later = later;
            deeds = deeds;
            stage_is = is;
          };
    };
    others = λ node other. refl;
  }

  -- an empty line begins and ends
  pub passed : (build : Build) (stand : Stand) (clean : turn.Build) (n number : ℕ)
      → contents stand.files ≡ clean.files → FitsAllNodes build stand clean
      → Steady build.run.nodes build.run.due
      → run.MayAll (rules_of work) tasks build.run (reported (passes n number))
      → Ready meaning work tasks n number clean (begun_by n number)
      → Turning build stand clean (passes n number)
  passed build stand clean n number files nodes steady may begun = record {
    now = begun_by n number ++ settled_by tasks n number;
    turned = refl;
    may = may-append meaning work tasks clean (begun_by n number) (settled_by tasks n number) begun.may end.may;
    files = files ∙ (sym begun.files
        ∙ (sym end.files ∙ sym (ap (λ (c : turn.Build). c.files) behind)));
    nodes = each-node n _
        (subst (FitsNode meaning work tasks (build_after work tasks build (passes n number)).run build.own
        stand.children n) (sym (ap (λ (c : turn.Build). c.stage n) behind)) end.mine)
        (λ node other.
        fits-quiet meaning work tasks build.run (build_after work tasks build (passes n number)).run
        build.own build.own stand.children stand.children node (clean.stage node) _
        (ap (λ (c : turn.Build). c.stage node) behind
        ∙ (end.others node other ∙ begun.others node other))
        (quiet-passes meaning work tasks build.run build.own stand.children n node number
        (over || is_stopped (rules_of work) begun_run.nodes) other may.0
        (sound-start (rules_of work) tasks build.run n number build.run.due steady may.0)) (nodes node));
    looks = λ no_look. ap (λ (c : turn.Build). c.looks) behind ∙ (end.looks ∙ begun.looks);
  }
    where
      begun_run : run.State
      begun_run = run.start_line tasks build.run n number

      over : Bool
      over = nat_le (length (tasks n)) number

      first : turn.Build
      first = after_turns plan clean (begun_by n number)

      behind : after_turns plan clean (begun_by n number ++ settled_by tasks n number)
          ≡ after_turns plan first (settled_by tasks n number)
      behind = after-append meaning work tasks clean (begun_by n number) (settled_by tasks n number)

      none : run.has_child (run.line_of (tasks n) number) ≡ false
      none = no-child-due begun_run n number 0 (run.has_child (run.line_of (tasks n) number)) may.1.0

      lines : (one : Option TaskLine) → slice_get (tasks n) begun.place ≡ one → run.has_child one ≡ false
          → working (drop begun.place (tasks n)) ≡ working (drop (begun.place + 1) (tasks n))
      lines None at_place given = past-both (tasks n) begun.place at_place
        where
          past-both : (all : List TaskLine) (place : ℕ) → slice_get all place ≡ None
              → working (drop place all) ≡ working (drop (place + 1) all)
          past-both [] zero is = refl
          past-both [] (suc place) is =
              let next : suc (place + 1) ≡ suc place + 1 = omega arith in
              subst (λ k. working (drop (suc place) []) ≡ working (drop k [])) next refl
          past-both (one ∷ all) zero is = absurd cc
          past-both (one ∷ all) (suc place) is =
              let next : suc (place + 1) ≡ suc place + 1 = omega arith in
              subst (λ k. working (drop place all) ≡ working (drop k (one ∷ all))) next
              (past-both all place is)
      lines (Some line) at_place given =
          working-empty (tasks n) begun.place line at_place (empty (is_empty line.text) given)
        where
          empty : (b : Bool) → not b ≡ false → b ≡ true
          empty true is = refl
          empty false is = absurd cc

      stage_is : first.stage n ≡ between begun.deeds (working (drop number (tasks n)))
      stage_is =
          let is = begun.number_is in
          let same : number - 1 ≡ begun.place = omega (arith, is) in
          begun.stage_is
          ∙ (ap (λ l. between begun.deeds l)
          (lines (run.line_of (tasks n) number) (ap (slice_get (tasks n)) (sym same)) none)
          ∙ ap (λ k. between begun.deeds (working (drop k (tasks n)))) (sym begun.number_is))

      end : EndedBy n number begun_run build.own stand.children first (settled_by tasks n number) over
          (is_stopped (rules_of work) begun_run.nodes)
      end =
          let is = begun.number_is in
          ended-by n number begun_run build.own stand.children first begun.deeds over
          (is_stopped (rules_of work) begun_run.nodes) refl refl (omega (arith, is))
          (slice-here build.run.nodes n Open
          (start-within (rules_of work) tasks build.run n number build.run.due steady may.0)) begun.has
          stage_is

  -- the child of a line is taken in
  pub taken : (build : Build) (stand : Stand) (clean : turn.Build) (n number owner : ℕ) (ended : Ended)
      → contents stand.files ≡ clean.files → FitsAllNodes build stand clean
      → AreTogether work tasks build.run build.own stand.children → IsFree build.run.due
      → run.MayEnd build.run n number ended.status build.run.due
      → (build.own n).ticket ≡ ended.ticket.0
      → Fits meaning stand (ends n number owner ended)
      → Turning build stand clean (ends n number owner ended)
  taken build stand clean n number owner ended files nodes together free_due may mine_is fits =
      by (run.fails (run.line_of (tasks n) number) ended.status) refl
    where
      due : (build.run.due ≡ run.child) × (slice_get build.run.nodes n ≡ Some Open) × (build.run.started n ≡ number)
      due = taken-due build.run n number ended.status build.run.due free_due may

      has : HasChild build.run n
      has = (due.1, subst (IsNotDue n) (sym due.0) tt)

      over : Bool
      over = nat_le (length (tasks n)) number

      own_then : ℕ → Own
      own_then = with_collected build.own n (with_end (build.own n).collected number ended)

      left : List Child
      left = (stand_after stand (happened (ends n number owner ended))).children

      child : (child : Child) × (child_in stand.children ended.ticket.0 ≡ Some child)
          × (child.owner ≡ owner) × EndsAs meaning ended child
      child = end-child meaning ended owner (child_in stand.children ended.ticket.0) fits

      line : InLine meaning work tasks n (build.run.started n) child.0 (clean.stage n)
      line = (nodes n).running child.0 has (ap (child_in stand.children) mine_is ∙ child.1)

      line_is : run.line_of (tasks n) number ≡ Some line.line
      line_is = ap (run.line_of (tasks n)) (sym due.2) ∙ line.line_is

      first : turn.Build
      first = after_turn plan clean (turn.ends_line n)

      stage_is : first.stage n ≡ between line.deeds (working (drop number (tasks n)))
      stage_is =
          own-stage meaning work tasks n (turn.line_ended (clean.stage n)) clean.stage
          ∙ (ap turn.line_ended line.stage_is
          ∙ ap (λ k. between line.deeds (working (drop k (tasks n)))) due.2)

      later : 0 < number
      later = subst (λ k. 0 < k) due.2 line.later

      stops : Bool
      stops = is_stopped (rules_of work) build.run.nodes

      end : EndedBy n number build.run own_then left first (settled_by tasks n number) over stops
      end = ended-by n number build.run own_then left first line.deeds over stops refl refl later due.1 line.has
          stage_is

      run_is : (fails : Bool) → run.fails (run.line_of (tasks n) number) ended.status ≡ fails
          → (build_after work tasks build (ends n number owner ended)).run
          ≡ ended_run build.run n number fails (over || stops)
      run_is fails is = ap (λ f. ended_run build.run n number f (over || stops)) is

      next_is : meaning.next (plan.command line.line) (map answer child.0.deeds)
          ≡ Ended_with ended.status ended.output
      next_is = ap (λ c. meaning.next c (map answer child.0.deeds)) (sym line.cmd) ∙ child.3.over

      -- of other nodes
      others : (node : ℕ) (stage : Stage) → node ≢ n → stage ≡ clean.stage node
          → FitsNode meaning work tasks (build_after work tasks build (ends n number owner ended)).run
          own_then left node stage
      others node stage other same =
          fits-quiet meaning work tasks build.run (build_after work tasks build (ends n number owner ended)).run
          build.own own_then stand.children left node (clean.stage node) stage same
          (quiet-ends meaning work tasks build.run build.own own_then stand.children n node number
          ended.ticket.0 (run.fails (run.line_of (tasks n) number) ended.status)
          (over || stops) other due.0 has mine_is
          (tickets-kept build.own n (with_end (build.own n).collected number ended) node) together) (nodes node)

      by : (fails : Bool) → run.fails (run.line_of (tasks n) number) ended.status ≡ fails
          → Turning build stand clean (ends n number owner ended)
      by false well = record {
        now = turn.ends_line n ∷ settled_by tasks n number;
        turned = ap (λ f. ended_by tasks n number f) (sym well);
        may = (
          subst (MayEndLine meaning.next plan) (sym line.stage_is)
              (record {
                status = ended.status;
                output = ended.output;
                next_is = next_is;
                well = goes-on line.line ended.status ended.output
                    (subst (λ one. run.fails one ended.status ≡ false) line_is well);
              }),
          end.may,
        );
        files = files ∙ sym end.files;
        nodes = each-node n _
            (subst (λ r. FitsNode meaning work tasks r own_then left n
            ((after_turns plan first (settled_by tasks n number)).stage n)) (sym (run_is false well)) end.mine)
            (λ node other.
            others node _ other
            (end.others node other
            ∙ other-stage meaning work tasks n node (turn.line_ended (clean.stage n)) clean.stage other));
        looks = λ no_look. end.looks;
      }
      by true bad = record {
        now = turn.fails n ∷ [];
        turned = ap (λ f. ended_by tasks n number f) (sym bad);
        may = (
          subst (MayFail meaning.next plan) (sym line.stage_is)
              (record {
                status = ended.status;
                output = ended.output;
                next_is = next_is;
                bad = goes-not line.line ended.status ended.output
                    (subst (λ one. run.fails one ended.status ≡ true) line_is bad);
              }),
          tt,
        );
        files = files;
        nodes = each-node n _
            (subst (λ r. FitsNode meaning work tasks r own_then left n
            (with_stage n failed clean.stage n)) (sym (run_is true bad))
            (fits-failed build.run own_then left n (with_stage n failed clean.stage n)))
            (λ node other.
            others node _ other (other-stage meaning work tasks n node failed clean.stage other));
        looks = λ no_look. refl;
      }

  -- a child does a step
  pub stepped-on : (build : Build) (stand : Stand) (clean : turn.Build) (ticket owner time : ℕ) (deed : Deed)
      → contents stand.files ≡ clean.files → FitsAllNodes build stand clean
      → AreOfNodes build.run build.own stand.children
      → MayHappen meaning stand (happened (steps ticket owner deed time))
      → Turning build stand clean (steps ticket owner deed time)
  stepped-on build stand clean ticket owner time deed files nodes of_nodes may = record {
    now = turn.steps n deed ∷ [];
    turned = (n, has, mine_is, refl);
    may = (
      subst (MayStep meaning.next plan clean.files deed) (sym line.stage_is) (
        subst (λ store. IsRight store deed) files step.right,
        record {
          request = step.request;
          stands = step.stands;
          next_is = ap (λ c. meaning.next c (map answer child.0.deeds)) (sym line.cmd) ∙ step.asked;
          deed_is = step.done;
        },
      ),
      tt,
    );
    files = contents-effected_all stand.files (changes_of deed) time
        ∙ ap (λ store. put_all store (changes_of deed)) files;
    nodes = each-node n _ mine
        (λ node other.
        fits-quiet meaning work tasks build.run build.run build.own build.own stand.children left node
        (clean.stage node) _
        (other-stage meaning work tasks n node (turn.stepped deed (clean.stage n)) clean.stage other)
        (quiet-steps meaning work tasks build.run build.own stand.children n node ticket deed other has
        mine_is of_nodes) (nodes node));
    looks = λ no_look. refl;
  }
    where
      left : List Child
      left = (stand_after stand (happened (steps ticket owner deed time))).children

      child : (child : Child) × (child_in stand.children ticket ≡ Some child)
          × IsStep meaning.next (contents stand.files) owner deed child
      child = step-child meaning.next (contents stand.files) owner deed (child_in stand.children ticket) may.0.1

      step : IsStep meaning.next (contents stand.files) owner deed child.0
      step = child.2

      found : (n : ℕ) × HasChild build.run n × ((build.own n).ticket ≡ child.0.ticket)
      found = of_nodes.node child.0 (child_in-contains stand.children ticket child.0 child.1)

      n : ℕ
      n = found.0

      has : HasChild build.run n
      has = found.1

      mine_is : (build.own n).ticket ≡ ticket
      mine_is = found.2 ∙ child_in-ticket ticket stand.children child.0 child.1

      line : InLine meaning work tasks n (build.run.started n) child.0 (clean.stage n)
      line = (nodes n).running child.0 has (ap (child_in stand.children) mine_is ∙ child.1)

      mine : FitsNode meaning work tasks build.run build.own left n
          (with_stage n (turn.stepped deed (clean.stage n)) clean.stage n)
      mine = record {
        undecided = λ given. let clash : Some Open ≡ Some Undecided = sym has.0 ∙ given in absurd cc;
        decided = λ going given. let clash : Some Open ≡ Some Settled = sym has.0 ∙ given in absurd cc;
        running = λ one again here.
            let now : Some (record child.0 { deeds = child.0.deeds ++ deed ∷ [] }) ≡ Some one =
            sym (child_in-stepped ticket deed stand.children child.0 child.1)
            ∙ (ap (child_in left) (sym mine_is) ∙ here) in
            let same : record child.0 { deeds = child.0.deeds ++ deed ∷ [] } ≡ one = cc in
            subst (λ c. InLine meaning work tasks n (build.run.started n) c
            (with_stage n (turn.stepped deed (clean.stage n)) clean.stage n)) same
            (record {
              deeds = line.deeds ++ deed ∷ [];
              line = line.line;
              line_is = line.line_is;
              has = line.has;
              later = line.later;
              cmd = line.cmd;
              stage_is = own-stage meaning work tasks n (turn.stepped deed (clean.stage n)) clean.stage
                  ∙ (ap (turn.stepped deed) line.stage_is
                  ∙ ap (λ seen. inside (line.deeds ++ deed ∷ []) seen line.line
                  (working (drop (build.run.started n) (tasks n))))
                  (sym (map-append answer child.0.deeds (deed ∷ []))));
            });
        due = λ number given. absurd (subst (IsNotDue n) given has.1 refl);
      }

  -- make changes a meta file

  put-files : (files : FileMap) (store : Store) (path bytes : List ℕ) (time : ℕ) → contents files ≡ store
      → contents (effected_all files (at_time time (record { path = path; bytes = Some bytes } ∷ [])))
      ≡ put store (record { path = path; bytes = Some bytes })
  put-files files store path bytes time is =
      contents-effected_all files (record { path = path; bytes = Some bytes } ∷ []) time
      ∙ ap (λ s. put s (record { path = path; bytes = Some bytes })) is

  put-turn : (build : Build) (stand : Stand) (clean : turn.Build) (n : ℕ) (change : Change)
      (path bytes : List ℕ) → FitsAllNodes build stand clean
      → path ≡ meta_path (node_at work.plan n).name
      → put_by n change ≡ turn.puts_meta path (Some bytes) ∷ []
      → contents (stand_after stand (happened (changes n change))).files
      ≡ put clean.files (record { path = path; bytes = Some bytes })
      → ((node : ℕ) → (own_changed build.own n change node).ticket ≡ (build.own node).ticket)
      → (stand_after stand (happened (changes n change))).children ≡ stand.children
      → Turning build stand clean (changes n change)
  put-turn build stand clean n change path bytes nodes path_is puts files tickets children = record {
    now = turn.puts_meta path (Some bytes) ∷ [];
    turned = sym puts;
    may = (ap is_meta_path path_is ∙ meta_path-is (node_at work.plan n).name, tt);
    files = files;
    nodes = λ node.
        subst (λ l. FitsNode meaning work tasks build.run (own_changed build.own n change) l node (clean.stage node))
        (sym children)
        (fits-quiet meaning work tasks build.run build.run build.own (own_changed build.own n change)
        stand.children stand.children node (clean.stage node) (clean.stage node) refl
        (quiet-same meaning work tasks build.run build.own (own_changed build.own n change) stand.children node
        (tickets node)) (nodes node));
    looks = λ no_look. refl;
  }

  -- make removes the target of a node that has failed
  pub record Removing (build : Build) (clean : turn.Build) (n : ℕ) : Type 0 where
    pub stage_is : clean.stage n ≡ failed
    pub shut : slice_get build.run.nodes n ≡ Some Failed
    pub makes : makes_file (node_at work.plan n) ≡ true

  gone-turn : (build : Build) (stand : Stand) (clean : turn.Build) (n time : ℕ) (path : List ℕ)
      → contents stand.files ≡ clean.files → FitsAllNodes build stand clean → Removing build clean n
      → path ≡ (node_at work.plan n).name → Turning build stand clean (changes n (gone path time))
  gone-turn build stand clean n time path files nodes removing path_is = record {
    now = turn.removes n ∷ [];
    turned = refl;
    may = ((removing.stage_is, removing.makes), tt);
    files = contents-effected_all stand.files (record { path = path; bytes = None } ∷ []) time
        ∙ (ap (λ store. put store (record { path = path; bytes = None })) files
        ∙ ap (λ at. put clean.files (record { path = at; bytes = None })) path_is);
    nodes = nodes;
    looks = λ no_look. refl;
  }

  pub changed-by : (build : Build) (stand : Stand) (clean : turn.Build) (n : ℕ) (change : Change)
      → contents stand.files ≡ clean.files → FitsAllNodes build stand clean
      → (build.duty ≡ remove n → Removing build clean n) → MayFollow work build.duty (changes n change)
      → MayChange work tasks build n change → Turning build stand clean (changes n change)
  changed-by build stand clean n (gone path time) files nodes removing follow may =
      gone-turn build stand clean n time path files nodes (removing follow) may
  changed-by build stand clean n (head path bytes time) files nodes removing follow may =
      put-turn build stand clean n (head path bytes time) path bytes nodes may.0.path_is refl
      (put-files stand.files clean.files path bytes time files)
      (λ node. tickets-kept build.own n _ node) refl
  changed-by build stand clean n (whole path bytes time) files nodes removing follow may =
      put-turn build stand clean n (whole path bytes time) path bytes nodes may.0.path_is refl
      (put-files stand.files clean.files path bytes time files) (λ node. refl) refl
  changed-by build stand clean n (cut_head path part time) files nodes removing follow may =
      put-turn build stand clean n (cut_head path part time) path part nodes may.1.path_is refl
      (put-files stand.files clean.files path part time files) (λ node. refl) refl
  changed-by build stand clean n (cut_whole path part time) files nodes removing follow may =
      put-turn build stand clean n (cut_whole path part time) path part nodes may.1.path_is refl
      (put-files stand.files clean.files path part time files) (λ node. refl) refl
