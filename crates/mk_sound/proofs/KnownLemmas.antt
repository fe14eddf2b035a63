-- The nodes whose lines are known to be those of the clean build: the open ones, and those that are settled.
use Rattle.std.proofs.Common.{◌≡◌, ◌⊎◌, ◌∙◌, ℕ, zero, suc, Bool, true, false, ◌&&◌, nat_le, List, [], ◌∷◌, length, map, slice_get, Some, if◌then◌else◌}
use Rattle.std.proofs.Common.{inl, inr, sym, ap}
use Rattle.mk_decision.specs.Decisions.{Work}
use Rattle.mk_headline.specs.Plans.{has_job}
use Rattle.mk_plan.specs.Plans.{node_at}
use Rattle.mk_plan.specs.declared.plan.NodeState.{NodeState}
use Rattle.mk_plan.specs.declared.plan.NodeState.TheVariants.{Undecided, Open, Settled}
use Rattle.mk_trace.specs.Builds.{Build, Duty, free, remove, begin, date, close, stop, behind_end, behind_look, build_after, duty_after, first_build, is_removed, rules_of}
use Rattle.mk_trace.specs.Collected.{has_meta}
use Rattle.mk_trace.specs.Items.{Change, gone, head, whole, cut_head, cut_whole, Item, looks, keeps, refuses, starts, passes, waits, steps, ends, changes, leaves}
use Rattle.mk_trace.specs.Runs as run
use Rattle.mk_trace.specs.TrueBuilds.{IsOpenJob}
use Rattle.mk_sound.proofs.AgreeLemmas.{item-of, node_of, nodes-other}

pub record Known (work : Work) (lines tasks : run.Tasks) (build : Build) : Type 0 where
  pub in_hand : (node : ℕ) → IsOpenJob build node → tasks node ≡ lines node
  pub done : (node : ℕ) → has_job (node_at work.plan node) ≡ true
      → slice_get build.run.nodes node ≡ Some Settled → tasks node ≡ lines node

-- at first all nodes are undecided

undecided : (before : List (List ℕ)) (node : ℕ) (stands : NodeState)
    → slice_get (map (λ (one : List ℕ). Undecided) before) node ≡ Some stands → stands ≡ Undecided
undecided [] node stands is = cc
undecided (one ∷ before) zero stands is = cc
undecided (one ∷ before) (suc node) stands is = undecided before node stands is

-- what make has to do for a node
abbrev IsDutyFor : ℕ → Duty → Type 0
IsDutyFor node duty = (duty ≡ begin node) ⊎ ((duty ≡ date node) ⊎ (duty ≡ close node))

none-free : {P : Type 0} (node : ℕ) → IsDutyFor node free → P
none-free node (inl is) = absurd cc
none-free node (inr (inl is)) = absurd cc
none-free node (inr (inr is)) = absurd cc

none-remove : {P : Type 0} (node other : ℕ) → IsDutyFor node (remove other) → P
none-remove node other (inl is) = absurd cc
none-remove node other (inr (inl is)) = absurd cc
none-remove node other (inr (inr is)) = absurd cc

none-stop : {P : Type 0} (node : ℕ) → IsDutyFor node stop → P
none-stop node (inl is) = absurd cc
none-stop node (inr (inl is)) = absurd cc
none-stop node (inr (inr is)) = absurd cc

pub known-first : (work : Work) (lines tasks : run.Tasks) → Known work lines tasks (first_build work)
known-first work lines tasks = record {
  in_hand = opens;
  done = λ node has is. let clash : Settled ≡ Undecided = undecided (rules_of work).before node Settled is in absurd cc;
}
  where
    opens : (node : ℕ) → IsOpenJob (first_build work) node → tasks node ≡ lines node
    opens node (inl is) = let clash : Open ≡ Undecided = undecided (rules_of work).before node Open is in absurd cc
    opens node (inr duty) = none-free node duty

-- what make has to do for a node it had to before an item that is not of this node

look-back : (node : ℕ) (duty : Duty) → IsDutyFor node (behind_look duty) → IsDutyFor node duty
look-back node free is = is
look-back node (remove other) is = is
look-back node (begin other) is = is
look-back node (date other) (inl is) = absurd cc
look-back node (date other) (inr (inl is)) = absurd cc
look-back node (date other) (inr (inr is)) = inr (inl cc)
look-back node (close other) is = is
look-back node stop is = is

closing-node : {P : Type 0} (node other : ℕ) (due : Bool) → (other ≡ node → ⊥)
    → IsDutyFor node (if due then date other else free) → P
closing-node node other true apart (inl is) = absurd cc
closing-node node other true apart (inr (inl is)) = absurd (apart cc)
closing-node node other true apart (inr (inr is)) = absurd cc
closing-node node other false apart is = none-free node is

removing-node : {P : Type 0} (node other : ℕ) (due : Bool) → IsDutyFor node (if due then remove other else free) → P
removing-node node other true is = none-remove node other is
removing-node node other false is = none-free node is

ending-node : {P : Type 0} (work : Work) (node other : ℕ) (failed over : Bool) → (other ≡ node → ⊥)
    → IsDutyFor node (behind_end work other failed over) → P
ending-node work node other true over apart is = removing-node node other (is_removed work other) is
ending-node work node other false over apart is = closing-node node other (over && has_meta work other) apart is

change-node : (duty : Duty) (node other : ℕ) (change : Change) → (node_of (changes other change) ≡ Some node → ⊥)
    → (work : Work) (tasks : run.Tasks) → IsDutyFor node (duty_after work tasks duty (changes other change))
    → IsDutyFor node duty
change-node duty node other (gone path time) away work tasks is = none-free node is
change-node duty node other (head path bytes time) away work tasks (inl is) = absurd (away cc)
change-node duty node other (head path bytes time) away work tasks (inr (inl is)) = absurd cc
change-node duty node other (head path bytes time) away work tasks (inr (inr is)) = absurd cc
change-node duty node other (whole path bytes time) away work tasks is = none-free node is
change-node duty node other (cut_head path part time) away work tasks is = none-stop node is
change-node duty node other (cut_whole path part time) away work tasks is = none-stop node is

duty-back : (work : Work) (tasks : run.Tasks) (duty : Duty) (item : Item) (node : ℕ)
    → (node_of item ≡ Some node → ⊥) → IsDutyFor node (duty_after work tasks duty item) → IsDutyFor node duty
duty-back work tasks duty (looks other seen) node away is = look-back node duty is
duty-back work tasks duty (keeps other) node away is = is
duty-back work tasks duty (refuses other number what) node away is = is
duty-back work tasks duty (starts other number ticket owner cmd) node away is = none-free node is
duty-back work tasks duty (passes other number) node away is =
    closing-node node other (nat_le (length (tasks other)) number && has_meta work other) (λ same. away (ap Some same)) is
duty-back work tasks duty waits node away is = is
duty-back work tasks duty (steps ticket owner deed time) node away is = is
duty-back work tasks duty (ends other number owner ended) node away is =
    ending-node work node other (run.fails (run.line_of (tasks other) number) ended.status)
    (nat_le (length (tasks other)) number) (λ same. away (ap Some same)) is
duty-back work tasks duty (changes other change) node away is = change-node duty node other change away work tasks is
duty-back work tasks duty (leaves ticket owner) node away is = is

-- what is known behind an item, where it is known of the item's own node
pub known-next : (work : Work) (lines tasks : run.Tasks) (build : Build) (item : Item) → Known work lines tasks build
    → ((node : ℕ) → node_of item ≡ Some node → IsOpenJob (build_after work tasks build item) node
    → tasks node ≡ lines node)
    → ((node : ℕ) → node_of item ≡ Some node → has_job (node_at work.plan node) ≡ true
    → slice_get (build_after work tasks build item).run.nodes node ≡ Some Settled → tasks node ≡ lines node)
    → Known work lines tasks (build_after work tasks build item)
known-next work lines tasks build item known opens dones = record {
  in_hand = λ node is. open-by node is (item-of item node);
  done = λ node has is. done-by node has is (item-of item node);
}
  where
    back : (node : ℕ) → (node_of item ≡ Some node → ⊥) → IsOpenJob (build_after work tasks build item) node
        → IsOpenJob build node
    back node away (inl is) = inl (sym (nodes-other work tasks build item node away) ∙ is)
    back node away (inr duty) = inr (duty-back work tasks build.duty item node away duty)

    open-by : (node : ℕ) → IsOpenJob (build_after work tasks build item) node
        → (node_of item ≡ Some node) ⊎ (node_of item ≡ Some node → ⊥) → tasks node ≡ lines node
    open-by node is (inl of) = opens node of is
    open-by node is (inr away) = known.in_hand node (back node away is)

    done-by : (node : ℕ) → has_job (node_at work.plan node) ≡ true
        → slice_get (build_after work tasks build item).run.nodes node ≡ Some Settled
        → (node_of item ≡ Some node) ⊎ (node_of item ≡ Some node → ⊥) → tasks node ≡ lines node
    done-by node has is (inl of) = dones node of has is
    done-by node has is (inr away) = known.done node has (sym (nodes-other work tasks build item node away) ∙ is)
