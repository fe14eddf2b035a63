-- Nodes that are settled or have failed stay so, and which node a run goes on with.
use Rattle.std.proofs.Common.{◌≡◌, ◌≢◌, ◌∙◌, ◌⊎◌, ℕ, zero, suc, ◌+◌, ◌==◌, ◌&&◌, ◌||◌, not, nat_le, List, [], ◌∷◌, length, set, slice_get, Option, Some, None, Bool, true, false, if◌then◌else◌}
use Rattle.std.proofs.Common.{inl, inr, refl, sym, ap, subst, ne_eqb}
use Rattle.std.proofs.lemmas.Bool.{cases_eq}
use Rattle.mk_plan.specs.Deciding.{Rules, is_stopped}
use Rattle.mk_plan.specs.declared.plan.NodeState.{NodeState}
use Rattle.mk_plan.specs.declared.plan.NodeState.TheVariants.{Undecided, Open, Settled, Failed}
use Rattle.mk_world.specs.declared.command.TaskLine.{TaskLine}
use Rattle.mk_decision.specs.Decisions.{Work}
use Rattle.mk_trace.proofs.BegunLemmas.{may-undecided, Steady, end-open, steady-after}
use Rattle.mk_trace.specs.Builds.{Duty, free, remove, begin, date, close, behind_end, closing, is_removed}
use Rattle.mk_trace.specs.Collected.{has_meta}
use Rattle.mk_trace.specs.Runs as run
use Rattle.mk_trace.specs.Together.{HasChild, IsNotDue}
use Rattle.mk_trace.specs.declared.event.Event.{Event}
use Rattle.mk_trace.specs.declared.event.Event.TheVariants.{Kept, Refused, Shown, Start, End, Wait}

pub slice-other : (nodes : List NodeState) (n node : ℕ) (state : NodeState) → node ≢ n
    → slice_get (set nodes n state) node ≡ slice_get nodes node
slice-other [] n node state other = refl
slice-other (one ∷ nodes) zero zero state other = absurd (other refl)
slice-other (one ∷ nodes) zero (suc node) state other = refl
slice-other (one ∷ nodes) (suc n) zero state other = refl
slice-other (one ∷ nodes) (suc n) (suc node) state other =
    slice-other nodes n node state (λ same. other (ap suc same))

pub slice-same : (nodes : List NodeState) (n : ℕ) (state stands : NodeState)
    → slice_get (set nodes n state) n ≡ Some stands → state ≡ stands
slice-same [] n state stands is = cc
slice-same (one ∷ nodes) zero state stands is = cc
slice-same (one ∷ nodes) (suc n) state stands is = slice-same nodes n state stands is

-- a node that is neither to be decided nor open
pub record IsShut (nodes : List NodeState) (node : ℕ) : Type 0 where
  pub decided : slice_get nodes node ≡ Some Undecided → ⊥
  pub over : slice_get nodes node ≡ Some Open → ⊥

-- a node that is to be decided, or is open
abbrev pub CanAct : List NodeState → ℕ → Type 0
CanAct nodes node = (slice_get nodes node ≡ Some Undecided) ⊎ (slice_get nodes node ≡ Some Open)

pub shut-not : (nodes : List NodeState) (node : ℕ) → IsShut nodes node → CanAct nodes node → ⊥
shut-not nodes node shut (inl is) = shut.decided is
shut-not nodes node shut (inr is) = shut.over is

pub start-acts : (rules : Rules) (tasks : run.Tasks) (state : run.State) (n number : ℕ) (due : run.Due)
    → Steady state.nodes due → run.MayStart rules tasks state n number due → CanAct state.nodes n
start-acts rules tasks state n number run.anything steady may = inl (may-undecided rules state.nodes n may.0)
start-acts rules tasks state n number run.child steady may = absurd may
start-acts rules tasks state n number (run.line one next) steady may =
    inr (subst (λ k. slice_get state.nodes k ≡ Some Open) (sym may.0) steady)
start-acts rules tasks state n number (run.close one last) steady may = absurd may

-- of another node than the one that goes on, no line is due
pub not-due : (rules : Rules) (tasks : run.Tasks) (state : run.State) (n number node : ℕ) (due : run.Due)
    → node ≢ n → run.MayStart rules tasks state n number due → IsNotDue node due
not-due rules tasks state n number node run.anything other may = tt
not-due rules tasks state n number node run.child other may = tt
not-due rules tasks state n number node (run.line one next) other may = λ same. other (same ∙ sym may.0)
not-due rules tasks state n number node (run.close one last) other may = absurd may

shut-set : (nodes : List NodeState) (n node : ℕ) (stands : NodeState) → CanAct nodes n
    → IsShut nodes node → IsShut (set nodes n stands) node
shut-set nodes n node stands acts shut =
    let other : node ≢ n = λ same. shut-not nodes node shut (subst (CanAct nodes) (sym same) acts) in
    record {
      decided = λ is. shut.decided (sym (slice-other nodes n node stands other) ∙ is);
      over = λ is. shut.over (sym (slice-other nodes n node stands other) ∙ is);
    }

-- a node that is settled now
pub shut-settled : (nodes : List NodeState) (n : ℕ) → IsShut (set nodes n Settled) n
shut-settled nodes n = record {
  decided = λ is. let same = slice-same nodes n Settled Undecided is in absurd cc;
  over = λ is. let same = slice-same nodes n Settled Open is in absurd cc;
}

-- a run behind the end of a line
abbrev pub ended_run : run.State → ℕ → ℕ → Bool → Bool → run.State
ended_run state n number failed stops =
    if failed then run.settle state n Failed
    else (if stops then run.settle state n Settled
    else record { nodes = state.nodes; started = state.started; due = run.line n (number + 1) })

shut-ended : (state : run.State) (n number node : ℕ) (failed stops : Bool) → CanAct state.nodes n
    → IsShut state.nodes node → IsShut (ended_run state n number failed stops).nodes node
shut-ended state n number node true stops acts shut = shut-set state.nodes n node Failed acts shut
shut-ended state n number node false true acts shut = shut-set state.nodes n node Settled acts shut
shut-ended state n number node false false acts shut = shut

pub shut-after : (rules : Rules) (tasks : run.Tasks) (state : run.State) (event : Event) (node : ℕ)
    → Steady state.nodes state.due → run.May rules tasks state event → IsShut state.nodes node
    → IsShut (run.after rules tasks state event).nodes node
shut-after rules tasks state (Kept n) node steady may shut =
    shut-set state.nodes n node Settled (inl (may-undecided rules state.nodes n may.1)) shut
shut-after rules tasks state (Refused n number) node steady may shut =
    shut-set state.nodes n node Failed (inl (may-undecided rules state.nodes n may.1)) shut
shut-after rules tasks state (Shown n number) node steady may shut = absurd may
shut-after rules tasks state (Start n number) node steady may shut =
    shut-set state.nodes n node Open (start-acts rules tasks state n number state.due steady may) shut
shut-after rules tasks state (End n number status) node steady may shut =
    shut-ended state n number node (run.fails (run.line_of (tasks n) number) status)
    (nat_le (length (tasks n)) number || is_stopped rules state.nodes)
    (inr (end-open state n number status state.due steady may)) shut
shut-after rules tasks state Wait node steady may shut = shut

pub shut-all : (rules : Rules) (tasks : run.Tasks) (state : run.State) (events : List Event) (node : ℕ)
    → Steady state.nodes state.due → run.MayAll rules tasks state events → IsShut state.nodes node
    → IsShut (run.after_all rules tasks state events).nodes node
shut-all rules tasks state [] node steady may shut = shut
shut-all rules tasks state (event ∷ events) node steady may shut =
    shut-all rules tasks (run.after rules tasks state event) events node
    (steady-after rules tasks state event steady may.0) may.1
    (shut-after rules tasks state event node steady may.0 shut)

-- no line is due to end between items
abbrev pub IsFree : run.Due → Type 0
IsFree run.anything = Unit {0}
IsFree run.child = Unit {0}
IsFree (run.line node number) = Unit {0}
IsFree (run.close node number) = ⊥

pub free-ended : (state : run.State) (n number : ℕ) (failed stops : Bool)
    → IsFree (ended_run state n number failed stops).due
free-ended state n number true stops = tt
free-ended state n number false true = tt
free-ended state n number false false = tt

-- what is taken in between items is the child of a node
pub taken-due : (state : run.State) (n number status : ℕ) (due : run.Due) → IsFree due
    → run.MayEnd state n number status due
    → (due ≡ run.child) × (slice_get state.nodes n ≡ Some Open) × (state.started n ≡ number)
taken-due state n number status run.anything free_due may = absurd may
taken-due state n number status run.child free_due may = (refl, may.0, may.1)
taken-due state n number status (run.line one next) free_due may = absurd may
taken-due state n number status (run.close one last) free_due may = absurd free_due

-- which nodes have a child behind the end of a line
pub ended-open : (state : run.State) (n number node : ℕ) (failed stops : Bool)
    → HasChild (ended_run state n number failed stops) node
    → (node ≢ n) × (slice_get state.nodes node ≡ Some Open)
ended-open state n number node true stops has =
    let other : node ≢ n = λ same.
    let fails = slice-same state.nodes n Failed Open
    (subst (λ k. slice_get (set state.nodes n Failed) k ≡ Some Open) same has.0) in absurd cc in
    (other, sym (slice-other state.nodes n node Failed other) ∙ has.0)
ended-open state n number node false true has =
    let other : node ≢ n = λ same.
    let settles = slice-same state.nodes n Settled Open
    (subst (λ k. slice_get (set state.nodes n Settled) k ≡ Some Open) same has.0) in absurd cc in
    (other, sym (slice-other state.nodes n node Settled other) ∙ has.0)
ended-open state n number node false false has = (has.1, has.0)

pub ended-started : (state : run.State) (n number node : ℕ) (failed stops : Bool)
    → (ended_run state n number failed stops).started node ≡ state.started node
ended-started state n number node true stops = refl
ended-started state n number node false true = refl
ended-started state n number node false false = refl

-- the line that is due then
pub ended-line : (state : run.State) (n number node next : ℕ) (failed stops : Bool)
    → (ended_run state n number failed stops).due ≡ run.line node next
    → (node ≡ n) × (next ≡ number + 1) × (failed ≡ false)
ended-line state n number node next true stops is = absurd cc
ended-line state n number node next false true is = absurd cc
ended-line state n number node next false false is = (cc, cc, refl)

-- a job that is over is settled
pub ended-shut : (state : run.State) (n number : ℕ) (failed stops : Bool) → failed ≡ false → stops ≡ true
    → IsShut (ended_run state n number failed stops).nodes n
ended-shut state n number true stops well over = absurd cc
ended-shut state n number false true well over = shut-settled state.nodes n
ended-shut state n number false false well over = absurd cc

-- duties

-- the meta file of a job that is over is to be written
abbrev pub IsDue : Duty → ℕ → Type 0
IsDue duty node = (duty ≡ date node) ⊎ (duty ≡ close node)

dated-due : (n node : ℕ) (b : Bool) → IsDue (if b then date n else free) node → (node ≡ n) × (b ≡ true)
dated-due n node true (inl is) = (cc, refl)
dated-due n node true (inr is) = absurd cc
dated-due n node false (inl is) = absurd cc
dated-due n node false (inr is) = absurd cc

both-parts : (a b : Bool) → (a && b) ≡ true → (a ≡ true) × (b ≡ true)
both-parts true b is = (refl, is)
both-parts false b is = absurd cc

pub closing-due : (work : Work) (n node : ℕ) (over : Bool) → IsDue (closing work n over) node
    → (node ≡ n) × (over ≡ true) × (has_meta work n ≡ true)
closing-due work n node over due =
    let is = dated-due n node (over && has_meta work n) due in
    let parts = both-parts over (has_meta work n) is.1 in
    (is.0, parts.0, parts.1)

closing-by : (n node : ℕ) (b : Bool) → (if b then date n else free) ≡ begin node → ⊥
closing-by n node true is = absurd cc
closing-by n node false is = absurd cc

pub closing-begins : (work : Work) (n node : ℕ) (over : Bool) → closing work n over ≡ begin node → ⊥
closing-begins work n node over is = closing-by n node (over && has_meta work n) is

removes-by : (n node : ℕ) (b : Bool) → IsDue (if b then remove n else free) node → ⊥
removes-by n node true (inl is) = absurd cc
removes-by n node true (inr is) = absurd cc
removes-by n node false (inl is) = absurd cc
removes-by n node false (inr is) = absurd cc

removes-begins : (n node : ℕ) (b : Bool) → (if b then remove n else free) ≡ begin node → ⊥
removes-begins n node true is = absurd cc
removes-begins n node false is = absurd cc

pub end-due : (work : Work) (n node : ℕ) (failed over : Bool) → IsDue (behind_end work n failed over) node
    → (node ≡ n) × (failed ≡ false) × (over ≡ true) × (has_meta work n ≡ true)
end-due work n node true over due = absurd (removes-by n node (is_removed work n) due)
end-due work n node false over due =
    let is = closing-due work n node over due in (is.0, refl, is.1, is.2)

pub end-begins : (work : Work) (n node : ℕ) (failed over : Bool)
    → behind_end work n failed over ≡ begin node → ⊥
end-begins work n node true over is = removes-begins n node (is_removed work n) is
end-begins work n node false over is = closing-begins work n node over is

-- a line that has not failed ended well
pub went-well : (one : Option TaskLine) (line : TaskLine) (status : ℕ) → one ≡ Some line
    → run.fails one status ≡ false → (status ≡ 0) ⊎ (line.ignore ≡ true)
went-well None line status is well = absurd cc
went-well (Some one) line status is well = elim (cases_eq status 0) [
  | inl ends_well ↦ inl ends_well
  | inr other ↦
      inr (ap (λ (l : TaskLine). l.ignore) (same is)
      ∙ ignored (status == 0) one.ignore (ne_eqb status 0 other) well)
]
  where
    same : Some one ≡ Some line → line ≡ one
    same given = cc

    ignored : (ends_well ignore : Bool) → ends_well ≡ false → (not ends_well && not ignore) ≡ false
        → ignore ≡ true
    ignored true ignore fails given = absurd cc
    ignored false true fails given = refl
    ignored false false fails given = absurd cc
