-- Looks, one behind the other.
use Rattle.std.proofs.Common.{◌≡◌, ◌∙◌, ℕ, List, [], ◌∷◌, ◌++◌, map, Option, Some, None}
use Rattle.std.proofs.Common.{refl, sym, ap}
use Rattle.std.specs.Option.{option_map}
use Rattle.mk_world.proofs.LookLemmas as world
use Rattle.mk_world.specs.Calls.{Adds, OwnNothing, OwnRead, OwnTime}
use Rattle.mk_world.specs.Looks.{Dated, LooksAll, OwnLook, Seen, answered, dated, read}
use Rattle.mk_world.specs.Talks.{Meaning}
use Rattle.mk_world.specs.Told.{Told}
use Rattle.mk_world.specs.declared.history.History.{History}
use Rattle.mk_world.specs.declared.time.When.{When}
use Rattle.mk_decision.specs.Looks.{LooksAt}

told-once : (meaning : Meaning) (one : Option Seen) (a b : Option History)
    → Adds meaning a b (OwnLook one) → Told a b (LooksAll meaning (one ∷ []))
told-once meaning one a None adds = tt
told-once meaning one None (Some y) adds = absurd adds
told-once meaning one (Some x) (Some y) adds = (y, adds, refl)

pub looks-none : (meaning : Meaning) (told : Option History) → LooksAt meaning told told []
looks-none meaning told = record { questions = []; are = refl; told = world.looks-none meaning told }

pub looks-then : (meaning : Meaning) (a b c : Option History) (first more : List Seen)
    → LooksAt meaning a b first → LooksAt meaning b c more → LooksAt meaning a c (first ++ more)
looks-then meaning a b c first more one next = record {
  questions = one.questions ++ next.questions;
  are = ap (λ l. l ++ more) one.are ∙ (ap (λ l. answered one.questions ++ l) next.are
      ∙ sym (world.answered-append one.questions next.questions));
  told = world.looks-then meaning a b c one.questions next.questions one.told next.told;
}

-- a call that looks once at a file's time
pub looks-timed : (meaning : Meaning) (a b : Option History) (path : List ℕ) (when : When)
    → Adds meaning a b (OwnTime path when)
    → LooksAt meaning a b (dated (record { path = path; when = when }) ∷ [])
looks-timed meaning a b path when adds =
    let one : Seen = dated (record { path = path; when = when }) in
    record { questions = Some one ∷ []; are = refl; told = told-once meaning (Some one) a b adds }

-- a call that was refused
pub looks-refused : (meaning : Meaning) (a b : Option History) → Adds meaning a b OwnNothing
    → LooksAt meaning a b []
looks-refused meaning a b adds =
    record { questions = None ∷ []; are = refl; told = told-once meaning None a b adds }

answered-dated : (questions : List (Option Dated))
    → map dated (answered questions) ≡ answered (map (option_map dated) questions)
answered-dated [] = refl
answered-dated (None ∷ more) = answered-dated more
answered-dated (Some one ∷ more) = ap (λ l. dated one ∷ l) (answered-dated more)

-- the questions of `exists` are looks
pub looks-asked : (meaning : Meaning) (questions : List (Option Dated)) (a b : Option History)
    → Told a b (LooksAll meaning (map (option_map dated) questions))
    → LooksAt meaning a b (map dated (answered questions))
looks-asked meaning questions a b told = record {
  questions = map (option_map dated) questions;
  are = answered-dated questions;
  told = told;
}

-- a call that reads once
pub looks-read : (meaning : Meaning) (a b : Option History) (path : List ℕ)
    (bytes : Option (List ℕ)) → Adds meaning a b (OwnRead path bytes)
    → LooksAt meaning a b (read path bytes ∷ [])
looks-read meaning a b path bytes adds = record {
  questions = Some (read path bytes) ∷ [];
  are = refl;
  told = told-once meaning (Some (read path bytes)) a b adds;
}
