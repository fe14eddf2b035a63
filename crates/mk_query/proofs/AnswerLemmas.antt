-- Nodes that are kept, one after the other, and how a query ends behind them.
use Rattle.std.proofs.Common.{◌≡◌, ℕ, ◌+◌, ◌<◌, ◌≤◌, List, [], ◌∷◌, ◌++◌, length, map, Option, Result, Ok, Err, IfOk, IfErr}
use Rattle.std.proofs.Common.{refl, sym, ◌∙◌, ap, subst, append_assoc, arith}
use Rattle.std.proofs.lemmas.List.{append-nil}
use Rattle.mk_decision.proofs.LookLemmas.{looks-none, looks-then}
use Rattle.mk_decision.specs.Decisions.{HasTask, IsBegun, IsKept, Sight, Work, newer_of, setting_by}
use Rattle.mk_decision.specs.Looks.{LooksAt}
use Rattle.mk_decision.specs.Sights.{SawSome}
use Rattle.mk_plan.proofs.TaskLemmas.{task_of-length}
use Rattle.mk_plan.specs.Asking.{as_asked}
use Rattle.mk_query.specs.Answers.{Answered, AreKept, IsOutOfDate, StandsBy, all_seen, answer_of, kept_events, last_events, of_world}
use Rattle.mk_query.specs.Causes.{EndsBy}
use Rattle.mk_world.specs.Causes.{HasCause}
use Rattle.mk_query.specs.declared.result.QueryResult.{QueryResult}
use Rattle.mk_query.specs.declared.result.QueryResult.TheVariants.{World, NoMemory}
use Rattle.mk_trace.specs.declared.event.Event.{Event}
use Rattle.mk_trace.specs.declared.event.Event.TheVariants.{Kept}
use Rattle.mk_world.specs.Looks.{Seen}
use Rattle.mk_world.specs.Talks.{Meaning}
use Rattle.mk_world.specs.declared.command.Task.{Task}
use Rattle.mk_world.specs.declared.command.TaskLine.{TaskLine}
use Rattle.mk_world.specs.declared.fault.WorldFault.{WorldFault}
use Rattle.mk_world.specs.declared.fault.WorldFault.TheVariants as world
use Rattle.mk_world.specs.declared.history.History.{History}

-- The nodes before a place are kept by these looks, of which the events tell.
pub record KeptSoFar (meaning : Meaning) (work : Work) (before now : Option History) (place : ℕ)
    (events : List Event) : Type 0
  where
    pub kept : List (List Seen)
    pub are_kept : AreKept work 0 kept
    pub looked : LooksAt meaning before now (all_seen kept)
    pub count : length kept ≡ place
    pub told : events ≡ kept_events 0 kept

are-kept-then : (work : Work) (place : ℕ) (kept : List (List Seen)) (seen : List Seen)
    (lines : List TaskLine) → AreKept work place kept → IsKept work (place + length kept) seen lines
    → AreKept work place (kept ++ seen ∷ [])
are-kept-then work place [] seen lines are is =
    let here : place + 0 ≡ place = omega arith in
    ((lines, subst (λ n. IsKept work n seen lines) here is), tt)
are-kept-then work place (first ∷ kept) seen lines are is =
    let next : place + length (first ∷ kept) ≡ place + 1 + length kept = omega arith in (
      are.0,
      are-kept-then work (place + 1) kept seen lines are.1
          (subst (λ n. IsKept work n seen lines) next is),
    )

events-then : (place : ℕ) (kept : List (List Seen)) (seen : List Seen)
    → kept_events place (kept ++ seen ∷ []) ≡ kept_events place kept ++ Kept (place + length kept) ∷ []
events-then place [] seen =
    let here : place ≡ place + 0 = omega arith in ap (λ n. Kept n ∷ []) here
events-then place (first ∷ kept) seen =
    let next : place + 1 + length kept ≡ place + length (first ∷ kept) = omega arith in
    ap (λ l. Kept place ∷ l) (events-then (place + 1) kept seen
    ∙ ap (λ n. kept_events (place + 1) kept ++ Kept n ∷ []) next)

all-seen-then : (kept : List (List Seen)) (seen : List Seen)
    → all_seen (kept ++ seen ∷ []) ≡ all_seen kept ++ seen
all-seen-then [] seen = append-nil seen
all-seen-then (first ∷ kept) seen =
    ap (λ l. first ++ l) (all-seen-then kept seen) ∙ sym (append_assoc first (all_seen kept) seen)

length-then : (kept : List (List Seen)) (seen : List Seen) → length (kept ++ seen ∷ []) ≡ length kept + 1
length-then [] seen = refl
length-then (first ∷ kept) seen = let rest = length-then kept seen in omega (arith, rest)

pub kept-none : (meaning : Meaning) (work : Work) (told : Option History)
    → KeptSoFar meaning work told told 0 []
kept-none meaning work told =
    record { kept = []; are_kept = tt; looked = looks-none meaning told; count = refl; told = refl }

pub kept-more : (meaning : Meaning) (work : Work) (a b c : Option History) (place : ℕ)
    (events : List Event) (seen : List Seen) (lines : List TaskLine)
    → KeptSoFar meaning work a b place events → LooksAt meaning b c seen → IsKept work place seen lines
    → KeptSoFar meaning work a c (place + 1) (events ++ Kept place ∷ [])
kept-more meaning work a b c place events seen lines so_far looked is =
    let count = so_far.count in
    let at : 0 + length so_far.kept ≡ place = omega (arith, count) in record {
      kept = so_far.kept ++ seen ∷ [];
      are_kept = are-kept-then work 0 so_far.kept seen lines so_far.are_kept
          (subst (λ n. IsKept work n seen lines) (sym at) is);
      looked = subst (LooksAt meaning a c) (sym (all-seen-then so_far.kept seen))
          (looks-then meaning a b c (all_seen so_far.kept) seen so_far.looked looked);
      count = length-then so_far.kept seen ∙ ap (λ n. n + 1) so_far.count;
      told = ap (λ l. l ++ Kept place ∷ []) so_far.told
          ∙ (ap (λ n. kept_events 0 so_far.kept ++ Kept n ∷ []) (sym at)
          ∙ sym (events-then 0 so_far.kept seen));
    }

-- a node that is to be made has commands
pub out-of-date : (work : Work) (n : ℕ) (seen first : List Seen) (task : Task) → n < length work.plan
    → IsBegun work n seen task.lines → 0 < length task.lines → (sight : Sight work n first)
    → HasTask work n sight.target sight.sources sight.asked task → IsOutOfDate work n seen
out-of-date work n seen first task within begun some sight has =
    let newer = newer_of work n sight.target sight.sources in
    record {
      within = within;
      commands = subst (λ k. 0 < k) (task_of-length (setting_by work sight.asked) work.suffixes work.plan n
          newer work.mode work.flags [] (map as_asked sight.asked) task has) some;
      lines = task.lines;
      begun = begun;
    }

-- an answer behind what was kept
pub answered-by : (meaning : Meaning) (work : Work) (a b c : Option History) (place : ℕ)
    (events : List Event) (seen : List Seen) (result : QueryResult) → place ≤ length work.plan
    → KeptSoFar meaning work a b place events → LooksAt meaning b c seen
    → StandsBy work place seen result
    → Answered meaning work a c result (events ++ last_events result)
answered-by meaning work a b c place events seen result within so_far looked stands = (
  record {
    kept = so_far.kept;
    last = seen;
    within = subst (λ n. n ≤ length work.plan) (sym so_far.count) within;
    are_kept = so_far.are_kept;
    stands = subst (λ n. StandsBy work n seen result) (sym so_far.count) stands;
    events_are = ap (λ l. l ++ last_events result) so_far.told;
  },
  looks-then meaning a b c (all_seen so_far.kept) seen so_far.looked looked,
)

-- an answer that adds no event
pub answered-silent : (meaning : Meaning) (work : Work) (a b c : Option History) (place : ℕ)
    (events : List Event) (seen : List Seen) (result : QueryResult) → last_events result ≡ []
    → place ≤ length work.plan → KeptSoFar meaning work a b place events → LooksAt meaning b c seen
    → StandsBy work place seen result → Answered meaning work a c result events
answered-silent meaning work a b c place events seen result none within so_far looked stands =
    subst (Answered meaning work a c result) (ap (λ l. events ++ l) none ∙ append-nil events)
    (answered-by meaning work a b c place events seen result within so_far looked stands)

-- a fault of the world, or want of memory, behind what was kept
pub answered-fault : (meaning : Meaning) (work : Work) (a b c : Option History) (place : ℕ)
    (events : List Event) (fault : WorldFault) → place ≤ length work.plan
    → KeptSoFar meaning work a b place events
    → SawSome meaning b c → Answered meaning work a c (of_world fault) events
answered-fault meaning work a b c place events world.Failed within so_far some =
    answered-silent meaning work a b c place events some.seen World refl within so_far some.looked tt
answered-fault meaning work a b c place events world.NoMemory within so_far some =
    answered-silent meaning work a b c place events some.seen NoMemory refl within so_far some.looked tt

-- whatever the fault is
pub if_err-all : {T E : Type 0} {P : E → Type 0} (result : Result T E) → ((fault : E) → P fault)
    → IfErr result P
if_err-all (Ok given) holds = tt
if_err-all (Err fault) holds = holds fault

-- a query that was answered, or stopped
pub answered-went : (meaning : Meaning) (work : Work) (a b : Option History) (events : List Event)
    (went : Result QueryResult WorldFault) → IfOk went (λ answer. Answered meaning work a b answer events)
    → IfErr went (λ fault. Answered meaning work a b (of_world fault) events)
    → Answered meaning work a b (answer_of went) events
answered-went meaning work a b events (Ok answer) answered halted = answered
answered-went meaning work a b events (Err fault) answered halted = halted

of-world-fails : (fault : WorldFault) → of_world fault ≡ World → fault ≡ world.Failed
of-world-fails world.Failed is = refl
of-world-fails world.NoMemory is = cc

-- the count of faults over a query
pub ends-by : (before after : ℕ) (went : Result QueryResult WorldFault)
    → HasCause world.Failed before after went → IfOk went (λ answer. answer ≡ World → ⊥)
    → EndsBy before after (answer_of went)
ends-by before after (Ok answer) cause never = record {
  kept = cause.kept;
  answered = λ rose. let is = cause.answered rose in absurd cc;
  rose = λ is. absurd (never is);
}
ends-by before after (Err fault) cause never = record {
  kept = cause.kept;
  answered = λ rose. let is = cause.answered rose in
      let failed : fault ≡ world.Failed = cc in ap of_world failed;
  rose = λ is. cause.rose (ap (λ f. Err f) (of-world-fails fault is));
}
