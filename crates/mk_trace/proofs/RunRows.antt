-- Runs that are legal, and runs that are not.
use Rattle.std.proofs.Common.{ℕ, [], ◌∷◌, codes, true, false, refl, arith}
use Rattle.mk_plan.specs.Deciding.{Rules}
use Rattle.mk_trace.specs.Runs.{Tasks, IsCutRun, IsLegalRun}
use Rattle.mk_trace.specs.declared.event.Event.TheVariants.{Kept, Start, End, Wait}

-- two nodes by themselves and one behind both, with so many jobs
abbrev two_and_one : ℕ → Rules
two_and_one jobs =
    record { before = [] ∷ [] ∷ (0 ∷ 1 ∷ []) ∷ []; jobs = jobs; keep_going = false }

-- one line each
abbrev one_line : Tasks
one_line node = record { text = codes "x"; ignore = false; silent = true; always = false; compared = true } ∷ []

-- both are started before one is waited for
two_at_once : IsLegalRun (two_and_one 2) one_line
    (Start 0 1 ∷ Start 1 1 ∷ Wait ∷ End 0 1 0 ∷ Wait ∷ End 1 1 0 ∷ Kept 2 ∷ [])
two_at_once = record {
  each = (
    (refl, refl, omega arith),
    (
      (refl, refl, omega arith),
      (
        (refl, refl, omega arith),
        ((refl, refl), ((refl, refl, omega arith), ((refl, refl), ((refl, refl), tt)))),
      ),
    ),
  );
  over = record { due = refl; none_open = refl; none_ready = refl };
}

-- one failure stops the run, and what runs is taken in
taken_in : IsLegalRun (two_and_one 2) one_line
    (Start 0 1 ∷ Start 1 1 ∷ Wait ∷ End 0 1 3 ∷ Wait ∷ End 1 1 0 ∷ [])
taken_in = record {
  each = (
    (refl, refl, omega arith),
    (
      (refl, refl, omega arith),
      (
        (refl, refl, omega arith),
        ((refl, refl), ((refl, refl, omega arith), ((refl, refl), tt))),
      ),
    ),
  );
  over = record { due = refl; none_open = refl; none_ready = refl };
}

-- behind a failure all is made that does not need the failed node
kept_going : IsLegalRun (record { before = [] ∷ [] ∷ (0 ∷ 1 ∷ []) ∷ []; jobs = 1; keep_going = true })
    one_line
    (Start 0 1 ∷ Wait ∷ End 0 1 3 ∷ Start 1 1 ∷ Wait ∷ End 1 1 0 ∷ [])
kept_going = record {
  each = (
    (refl, refl, omega arith),
    (
      (refl, refl, omega arith),
      (
        (refl, refl),
        ((refl, refl, omega arith), ((refl, refl, omega arith), ((refl, refl), tt))),
      ),
    ),
  );
  over = record { due = refl; none_open = refl; none_ready = refl };
}

-- make does not wait while a node may be decided
no_early_wait : IsCutRun (two_and_one 2) one_line (Start 0 1 ∷ Wait ∷ []) → ⊥
no_early_wait run = cc (run.1.0.1)

-- with one job it does
one_at_a_time : IsCutRun (two_and_one 1) one_line (Start 0 1 ∷ Wait ∷ [])
one_at_a_time = ((refl, refl, omega arith), ((refl, refl, omega arith), tt))
