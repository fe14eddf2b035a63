-- Meta files that tell what happened, from before the questions that lead to a build.
use Rattle.std.proofs.Common.{◌≡◌, ◌∙◌, ◌⊎◌, List, [], ◌∷◌, ◌++◌, Some}
use Rattle.std.proofs.Common.{inl, inr, refl, sym, ap, subst, append_assoc}
use Rattle.std.specs.List.{AllByRecursion}
use Rattle.mk_meta.specs.TrueHistory.{IsTrueHistory}
use Rattle.mk_world.proofs.CallLemmas.{after_all-append}
use Rattle.mk_world.proofs.LawLemmas.{runs_stay_lawful}
use Rattle.mk_world.specs.History.{State as Stand, after as stand_next, after_all as stand_after, first_state, state_of}
use Rattle.mk_world.specs.Lawful.{IsLawful}
use Rattle.mk_world.specs.Runs.{Run}
use Rattle.mk_world.specs.Talks.{Meaning}
use Rattle.mk_world.specs.declared.history.File.{File}
use Rattle.mk_world.specs.declared.history.Happening.{Happening}
use Rattle.mk_world.specs.declared.history.Happening.TheVariants as world
use Rattle.mk_world.specs.declared.history.History.{History}
use Rattle.mk_decision.specs.Decisions.{Work}
use Rattle.mk_trace.proofs.QuestionLemmas.{questions-keep-truth}
use Rattle.mk_trace.proofs.TrueBuildLemmas.{Longer, parts}
use Rattle.mk_trace.specs.Items.{Item, looks, keeps, refuses, starts, passes, waits, steps, ends, changes, leaves, changed, path_of, happened, happened_all, Happened}
use Rattle.mk_trace.specs.Runs as run
use Rattle.mk_trace.specs.TrueBuilds.{IsApart, IsQuestion, LeavesFiles, StaysTrue, behind, longer}

pub all-first : {A : Type 0} (P : A → Type 0) (items more : List A) → AllByRecursion P (items ++ more)
    → AllByRecursion P items
all-first P [] more all = tt
all-first P (item ∷ items) more all = (all.0, all-first P items more all.1)

pub all-append : {A : Type 0} (P : A → Type 0) (items more : List A) → AllByRecursion P items
    → AllByRecursion P more → AllByRecursion P (items ++ more)
all-append P [] more all then_all = then_all
all-append P (item ∷ items) more all then_all = (all.0, all-append P items more all.1 then_all)

pub cancel-front : {A : Type 0} (front one other : List A) → front ++ one ≡ front ++ other → one ≡ other
cancel-front [] one other same = same
cancel-front (item ∷ front) one other same =
    let rest : front ++ one ≡ front ++ other = cc in
    cancel-front front one other rest

-- an item tells of one event at most
abbrev AtMostOne : List Happening → Type 0
AtMostOne events = (events ≡ []) ⊎ ((event : Happening) × (events ≡ event ∷ []))

at-most-one : (item : Item) → AtMostOne (happened item)
at-most-one (looks node seen) = inr (world.Look (path_of seen), refl)
at-most-one (keeps node) = inl refl
at-most-one (refuses node number what) = inl refl
at-most-one (starts node number ticket owner cmd) = inr (world.Start ticket owner cmd, refl)
at-most-one (passes node number) = inl refl
at-most-one waits = inl refl
at-most-one (steps ticket owner deed time) = inr (world.Step ticket owner deed time, refl)
at-most-one (ends node number owner ended) = inr (world.End ended.ticket.0 owner, refl)
at-most-one (changes node change) = inr (changed change, refl)
at-most-one (leaves ticket owner) = inr (world.Left ticket owner, refl)

-- where items are parted, so that the events of the first ones are these
record Cut (items : List Item) (front : List Happening) : Type 0 where
  so_far : List Item
  later : List Item
  are : items ≡ so_far ++ later
  happened_is : happened_all so_far ≡ front

-- Items may be parted wherever their events are.
cut-items : (items : List Item) (front back : List Happening) → happened_all items ≡ front ++ back
    → Cut items front
cut-items [] [] back same = record { so_far = []; later = []; are = refl; happened_is = refl }
cut-items [] (event ∷ front) back same = cc
cut-items (item ∷ items) [] back same =
    record { so_far = []; later = item ∷ items; are = refl; happened_is = refl }
cut-items (item ∷ items) (event ∷ front) back same =
    by (at-most-one item) (cut-items items (event ∷ front) back) (cut-items items front back)
  where
    by : AtMostOne (happened item)
        → (happened_all items ≡ event ∷ (front ++ back) → Cut items (event ∷ front))
        → (happened_all items ≡ front ++ back → Cut items front) → Cut (item ∷ items) (event ∷ front)
    by (inl none) if_none if_one =
        let rest = if_none (ap (λ l. l ++ happened_all items) (sym none) ∙ same) in record {
          so_far = item ∷ rest.so_far;
          later = rest.later;
          are = ap (λ l. item ∷ l) rest.are;
          happened_is = ap (λ l. l ++ happened_all rest.so_far) none ∙ rest.happened_is;
        }
    by (inr one) if_none if_one =
        let all : one.0 ∷ happened_all items ≡ event ∷ (front ++ back) =
        ap (λ l. l ++ happened_all items) (sym one.1) ∙ same in
        let first : one.0 ≡ event = cc in
        let tail : happened_all items ≡ front ++ back = cc in
        let rest = if_one tail in record {
          so_far = item ∷ rest.so_far;
          later = rest.later;
          are = ap (λ l. item ∷ l) rest.are;
          happened_is =
              ap (λ l. l ++ happened_all rest.so_far) one.1
              ∙ (ap (λ e. e ∷ happened_all rest.so_far) first
              ∙ ap (λ l. event ∷ l) rest.happened_is);
        }

pub questions-children : (state : Stand) (events : List Happening) → AllByRecursion IsQuestion events
    → (stand_after state events).children ≡ state.children
questions-children state [] are = refl
questions-children state (world.Look path ∷ events) are =
    questions-children (stand_next state (world.Look path)) events are.1
questions-children state (world.Ask cmd asked ∷ events) are =
    questions-children (stand_next state (world.Ask cmd asked)) events are.1
questions-children state (world.Edit path bytes time ∷ events) are = absurd are.0
questions-children state (world.Stamp path bytes time ∷ events) are = absurd are.0
questions-children state (world.Put path bytes time ∷ events) are = absurd are.0
questions-children state (world.Gone path time ∷ events) are = absurd are.0
questions-children state (world.Start ticket owner cmd ∷ events) are = absurd are.0
questions-children state (world.Step ticket owner deed time ∷ events) are = absurd are.0
questions-children state (world.End ticket owner ∷ events) are = absurd are.0
questions-children state (world.Left ticket owner ∷ events) are = absurd are.0

abbrev history_of : List File → List Happening → History
history_of base events = record { base = base; events = events }

pub same-history : (one other : History) → one.base ≡ other.base → one.events ≡ other.events → one ≡ other
same-history one other base events =
    ap (λ b. history_of b one.events) base ∙ ap (λ e. history_of other.base e) events

-- make looked and asked, and nothing else happened
pub record OnlyAsked (meaning : Meaning) (old new : History) : Type 0 where
  pub run : Run meaning old new
  pub questions : AllByRecursion IsQuestion run.events

pub asked-none : (meaning : Meaning) (old new : History) → new.base ≡ old.base → new.events ≡ old.events ++ []
    → OnlyAsked meaning old new
asked-none meaning old new base events = record {
  run = record { events = []; base = base; longer = events; lawful = tt };
  questions = tt;
}

-- Meta files stay true while make only asks, as far as no command that it asks changes a file.
pub asked-true : (meaning : Meaning) (old new : History) → OnlyAsked meaning old new
    → IsTrueHistory meaning.next old → (so_far later : List Happening)
    → new.events ≡ old.events ++ (so_far ++ later) → AllByRecursion LeavesFiles so_far
    → IsTrueHistory meaning.next (longer old so_far)
asked-true meaning old new asked truth so_far later events leave =
    let same : asked.run.events ≡ so_far ++ later =
    cancel-front old.events asked.run.events (so_far ++ later) (sym asked.run.longer ∙ events) in
    questions-keep-truth meaning old so_far
    (all-first IsQuestion so_far later (subst (AllByRecursion IsQuestion) same asked.questions)) leave truth

-- And so they do in a build that comes then, as far as its jobs keep apart, too.
pub built-true : (meaning : Meaning) (work : Work) (tasks : run.Tasks) (items : List Item)
    (old planned new : History) → OnlyAsked meaning old planned
    → Happened meaning items planned new → StaysTrue meaning work tasks items planned
    → IsLawful meaning old → (state_of old).children ≡ [] → IsTrueHistory meaning.next old
    → (so_far later : List Happening) → new.events ≡ old.events ++ (so_far ++ later)
    → AllByRecursion LeavesFiles so_far
    → ((done rest : List Item) → items ≡ done ++ rest → longer old so_far ≡ behind planned done
    → IsApart work tasks done)
    → IsTrueHistory meaning.next (longer old so_far)
built-true meaning work tasks items old planned new asked happens stays lawful idle truth so_far later events
    leave apart =
    by (parts so_far later asked.run.events (happened_all items) parted)
  where
    parted : so_far ++ later ≡ asked.run.events ++ happened_all items
    parted =
        cancel-front old.events (so_far ++ later) (asked.run.events ++ happened_all items)
        (sym events ∙ (happens.events ∙ (ap (λ l. l ++ happened_all items) asked.run.longer
        ∙ append_assoc old.events asked.run.events (happened_all items))))

    planned_idle : (state_of planned).children ≡ []
    planned_idle =
        ap (λ base. (stand_after (first_state base) planned.events).children) asked.run.base
        ∙ (ap (λ l. (stand_after (first_state old.base) l).children) asked.run.longer
        ∙ (ap (λ (s : Stand). s.children)
        (after_all-append (first_state old.base) old.events asked.run.events)
        ∙ (questions-children (state_of old) asked.run.events asked.questions ∙ idle)))

    in_build : (between : List Happening) → so_far ≡ asked.run.events ++ between
        → happened_all items ≡ between ++ later → IsTrueHistory meaning.next (longer old so_far)
    in_build between is then_is =
        let cut = cut-items items between later then_is in
        let leave_asked = all-first LeavesFiles asked.run.events between
        (subst (AllByRecursion LeavesFiles) is leave) in
        let planned_is : longer old asked.run.events ≡ planned =
        same-history (longer old asked.run.events) planned (sym asked.run.base) (sym asked.run.longer) in
        let planned_true = subst (IsTrueHistory meaning.next) planned_is
        (questions-keep-truth meaning old asked.run.events asked.questions leave_asked truth) in
        let here : longer old so_far ≡ behind planned cut.so_far =
        same-history (longer old so_far) (behind planned cut.so_far) (sym asked.run.base)
        (ap (λ l. old.events ++ l) is
        ∙ (sym (append_assoc old.events asked.run.events between)
        ∙ (ap (λ l. l ++ between) (sym asked.run.longer)
        ∙ ap (λ l. planned.events ++ l) (sym cut.happened_is)))) in
        subst (IsTrueHistory meaning.next) (sym here)
        (stays (runs_stay_lawful meaning old planned asked.run lawful) planned_idle planned_true cut.so_far
        cut.later cut.are (apart cut.so_far cut.later cut.are here))

    by : Longer so_far asked.run.events later (happened_all items)
        ⊎ Longer asked.run.events so_far (happened_all items) later
        → IsTrueHistory meaning.next (longer old so_far)
    by (inl built) = in_build built.between built.is built.then_is
    by (inr asking) =
        questions-keep-truth meaning old so_far
        (all-first IsQuestion so_far asking.between
        (subst (AllByRecursion IsQuestion) asking.is asked.questions)) leave truth
