-- Tickets that are sought.
use Rattle.std.proofs.Common.{◌≡◌, ◌≢◌, ◌∙◌, ℕ, zero, suc, ◌+◌, ◌<◌, ◌≤◌, ◌==◌, nat_le, nat_eq, ◌||◌, List, [], ◌∷◌, ◌++◌, length, drop, take, get_or, Bool, true, false, if◌then◌else◌}
use Rattle.std.proofs.Common.{refl, sym, ap, subst, arith}
use Rattle.std.specs.List.{list_any, remove}
use Rattle.std.proofs.lemmas.Bool.Decides.{nat_tests}
use Rattle.std.proofs.lemmas.Grind.{common_steps}
use Rattle.std.proofs.lemmas.List.{drop_more, take-append-drop}
use Rattle.mk_sched.specs.Counts.{times}
use Rattle.mk_driver.specs.Jobs.{IsJobTaken, from_on, tickets_of}
use Rattle.mk_driver.specs.declared.job.Job.{Job}

from_on-less : (one : ℕ) (tickets : List ℕ) → from_on (one + 1) tickets ≤ from_on one tickets
from_on-less one [] = omega arith
from_on-less one (ticket ∷ tickets) =
    let more = from_on-less one tickets in
    by (nat_le (one + 1) ticket) (nat_le one ticket) refl refl more
  where
    by : (a b : Bool) → nat_le (one + 1) ticket ≡ a → nat_le one ticket ≡ b
        → from_on (one + 1) tickets ≤ from_on one tickets
        → (if a then 1 else 0) + from_on (one + 1) tickets
        ≤ (if b then 1 else 0) + from_on one tickets
    by true true x y more = omega (arith, more)
    by false b x y more = omega (arith, more)
    by true false x y more = absurd (grind (arith, nat_tests, common_steps))

held-step : (one ticket : ℕ) (tickets : List ℕ) (a b : Bool) → nat_le (one + 1) ticket ≡ a
    → nat_le one ticket ≡ b → from_on (one + 1) tickets + 1 ≤ from_on one tickets
    → ((if a then 1 else 0) + from_on (one + 1) tickets) + 1
    ≤ (if b then 1 else 0) + from_on one tickets
held-step one ticket tickets true true x y more = omega (arith, more)
held-step one ticket tickets false b x y more = omega (arith, more)
held-step one ticket tickets true false x y more = absurd (grind (arith, nat_tests, common_steps))

held-by : (one ticket : ℕ) (tickets : List ℕ) (same : Bool) → nat_eq one ticket ≡ same
    → (same || list_any (nat_eq one) tickets) ≡ true
    → (list_any (nat_eq one) tickets ≡ true → from_on (one + 1) tickets + 1 ≤ from_on one tickets)
    → from_on (one + 1) (ticket ∷ tickets) + 1 ≤ from_on one (ticket ∷ tickets)
held-by one ticket tickets true is held behind =
    let equal : one ≡ ticket = grind (arith, nat_tests, common_steps) in
    let here : nat_le one ticket ≡ true = grind (arith, nat_tests, common_steps) in
    let next : nat_le (one + 1) ticket ≡ false = grind (arith, nat_tests, common_steps) in
    let more = from_on-less one tickets in
    rw (here, next) (omega (arith, more))
held-by one ticket tickets false other held behind =
    held-step one ticket tickets (nat_le (one + 1) ticket) (nat_le one ticket) refl refl (behind held)

-- of the tickets from a held one on, there is one less behind it
pub held-less : (one : ℕ) (tickets : List ℕ) → list_any (nat_eq one) tickets ≡ true
    → from_on (one + 1) tickets + 1 ≤ from_on one tickets
held-less one [] held = cc
held-less one (ticket ∷ tickets) held =
    held-by one ticket tickets (nat_eq one ticket) refl held (held-less one tickets)

pub from_on-few : (one : ℕ) (tickets : List ℕ) → from_on one tickets ≤ length tickets
from_on-few one [] = omega arith
from_on-few one (ticket ∷ tickets) =
    by (nat_le one ticket) (from_on-few one tickets)
  where
    by : (b : Bool) → from_on one tickets ≤ length tickets
        → (if b then 1 else 0) + from_on one tickets ≤ suc (length tickets)
    by true more = omega (arith, more)
    by false more = omega (arith, more)

-- the job of a ticket stands behind a place
pub place-within : (ticket place : ℕ) (jobs : List Job)
    → 0 < times ticket (tickets_of (drop place jobs)) → place < length jobs
place-within ticket zero [] some = absurd (omega arith)
place-within ticket (suc place) [] some = absurd (omega arith)
place-within ticket zero (job ∷ jobs) some = omega arith
place-within ticket (suc place) (job ∷ jobs) some =
    let more = place-within ticket place jobs some in omega (arith, more)

-- and not at it
pub place-behind : (ticket place : ℕ) (jobs : List Job) (job : Job)
    → job ≡ get_or jobs place job → job.ticket ≢ ticket
    → 0 < times ticket (tickets_of (drop place jobs))
    → 0 < times ticket (tickets_of (drop (place + 1) jobs))
place-behind ticket place jobs job is other some =
    let within = place-within ticket place jobs some in
    let all : drop place jobs ≡ job ∷ drop (place + 1) jobs =
    drop_more jobs place job within ∙ ap (λ j. j ∷ drop (place + 1) jobs) (sym is) in
    let different : (job.ticket == ticket) ≡ false = grind (arith, nat_tests, common_steps) in
    let here : 0 < (if job.ticket == ticket then 1 else 0) + times ticket (tickets_of (drop (place + 1) jobs)) =
    subst (λ l. 0 < times ticket (tickets_of l)) all some in
    let rest : 0 < 0 + times ticket (tickets_of (drop (place + 1) jobs)) = rw different at here in
    omega (arith, rest)

next-place : (place : ℕ) → suc place ≡ place + 1
next-place place = omega arith

-- the job at a place is taken out
pub job-taken : (ticket place : ℕ) (jobs now : List Job) (job : Job)
    → place < length jobs → job ≡ get_or jobs place job → job.ticket ≡ ticket
    → now ≡ remove jobs place → IsJobTaken ticket jobs job now
job-taken ticket place jobs now job within is same now_is = record {
  front = take place jobs;
  back = drop (place + 1) jobs;
  was = sym (take-append-drop place jobs)
      ∙ ap (λ l. take place jobs ++ l)
      (drop_more jobs place job within ∙ ap (λ j. j ∷ drop (place + 1) jobs) (sym is));
  now = now_is ∙ ap (λ k. take place jobs ++ drop k jobs) (next-place place);
  ticket_is = same;
}
