-- Questions of `exists` in a world.
use Rattle.std.proofs.Common.{◌≡◌, ℕ, zero, suc, not, List, [], ◌∷◌, ◌++◌, map, Option, Some, None}
use Rattle.std.proofs.Common.{refl, sym, ap, ◌∙◌, subst}
use Rattle.std.proofs.lemmas.List.{append-nil}
use Rattle.std.specs.Option.{option_map}
use Rattle.mk_values.specs.Facts.{AnsweredBy}
use Rattle.mk_values.specs.declared.facts.Asked.{Asked}
use Rattle.mk_world.specs.Calls.{AddsEvents, Adds, OwnNothing, OwnTime}
use Rattle.mk_world.specs.History.{after_all, state_of, tickets_of}
use Rattle.mk_world.specs.Looks.{Dated, DatesAll, DatesOnce, LooksAll, OwnLook, dated, is_missing}
use Rattle.mk_world.specs.Runs.{Same}
use Rattle.mk_world.specs.Talks.{Meaning}
use Rattle.mk_world.specs.Told.{Told}
use Rattle.mk_world.specs.declared.history.History.{History}
use Rattle.mk_world.specs.declared.time.When.{When}
use Rattle.mk_world.proofs.IdleLemmas.{IsIdle, adds_alone, same_idle}
use Rattle.mk_plan.specs.Asking.{Asking, AskingBeside, answers_by, as_asked}

same_history : (old new : History) → Same old new → new ≡ old
same_history old new same = rw (same.base, same.events) refl

-- a refused question
pub asking-refused : (meaning : Meaning) (a b : Option History) (asked : List Asked)
    → IsIdle a → Adds meaning a b OwnNothing → Asking a b asked asked
asking-refused meaning a b asked idle adds = record {
  looked = [];
  added = sym (append-nil asked);
  told = from a b (same_idle meaning a b idle adds);
}
  where
    from : (a b : Option History) → Told a b Same → Told a b (DatesAll [])
    from a None same = tt
    from None (Some y) same = absurd same
    from (Some x) (Some y) same = same_history x y same

once : (meaning : Meaning) (path : List ℕ) (when : When) (old new : History)
    → tickets_of (state_of old).children ≡ []
    → AddsEvents meaning (OwnTime path when) old new
    → DatesOnce (record { path = path; when = when }) old new
once meaning path when old new idle adds =
    let alone = adds_alone
    (λ state own is none. subst (λ l. (after_all state l).children ≡ []) (sym is.0) none)
    idle adds in
    record {
      base = alone.base;
      event = alone.events ∙ ap (λ l. old.events ++ l) alone.is_own.0;
      told = alone.is_own.1;
    }

-- a question that was answered
pub asking-timed : (meaning : Meaning) (path : List ℕ) (when : When) (a b : Option History)
    (asked : List Asked) → IsIdle a → Adds meaning a b (OwnTime path when)
    → Asking a b asked (asked ++ record { path = path; answer = not (is_missing when) } ∷ [])
asking-timed meaning path when a b asked idle adds = record {
  looked = record { path = path; when = when } ∷ [];
  added = refl;
  told = from a b idle adds;
}
  where
    from : (a b : Option History) → IsIdle a → Adds meaning a b (OwnTime path when)
        → Told a b (DatesAll (record { path = path; when = when } ∷ []))
    from a None idle adds = tt
    from None (Some y) idle adds = absurd adds
    from (Some x) (Some y) idle adds = (y, once meaning path when x y (idle x refl) adds, refl)

one_question : (meaning : Meaning) (one : Option Dated) (a b : Option History)
    → Adds meaning a b (OwnLook (option_map dated one))
    → Told a b (LooksAll meaning (map (option_map dated) (one ∷ [])))
one_question meaning one a None adds = tt
one_question meaning one None (Some y) adds = absurd adds
one_question meaning one (Some x) (Some y) adds = (y, adds, refl)

-- while children may run
pub beside-refused : (meaning : Meaning) (a b : Option History) (asked : List Asked)
    → Adds meaning a b OwnNothing → AskingBeside meaning a b asked asked
beside-refused meaning a b asked adds = record {
  questions = None ∷ [];
  added = sym (append-nil asked);
  told = one_question meaning None a b adds;
}

pub beside-timed : (meaning : Meaning) (path : List ℕ) (when : When) (a b : Option History)
    (asked : List Asked) → Adds meaning a b (OwnTime path when)
    → AskingBeside meaning a b asked
    (asked ++ record { path = path; answer = not (is_missing when) } ∷ [])
beside-timed meaning path when a b asked adds = record {
  questions = Some (record { path = path; when = when }) ∷ [];
  added = refl;
  told = one_question meaning (Some (record { path = path; when = when })) a b adds;
}

-- looks answer what was asked
pub answered-all : (looked : List Dated) → AnsweredBy (answers_by looked) (map as_asked looked)
answered-all [] place one is = absurd cc
answered-all (first ∷ looked) zero one is = by (as_asked first) one is
  where
    by : (asked one : Asked) → Some asked ≡ Some one → one.answer ≡ asked.answer
    by asked one is = cc
answered-all (first ∷ looked) (suc place) one is = answered-all looked place one is
