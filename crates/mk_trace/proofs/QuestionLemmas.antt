-- Questions leave meta files true.
use Rattle.std.proofs.Common.{◌≡◌, ℕ, List, [], ◌∷◌, ◌++◌, Some, refl, sym, ap, subst, append_assoc}
use Rattle.std.proofs.lemmas.List.{append-nil}
use Rattle.std.specs.List.{AllByRecursion}
use Rattle.mk_meta.specs.Texts.{meta_text}
use Rattle.mk_meta.specs.TrueHistory.{job_event, LeavesAlone, IsTrueHistory, meta_path}
use Rattle.mk_world.specs.History.{State as Stand, after as stand_next, after_all as stand_after, contents, effects, first_state, state_of}
use Rattle.mk_world.specs.Talks.{NextOf, Meaning}
use Rattle.mk_world.specs.declared.history.Happening.{Happening}
use Rattle.mk_world.specs.declared.history.Happening.TheVariants as world
use Rattle.mk_world.specs.declared.history.History.{History}
use Rattle.mk_world.proofs.CallLemmas.{after_all-append}
use Rattle.mk_trace.proofs.TrueTexts.{true-same}
use Rattle.mk_trace.specs.TrueBuilds.{IsQuestion, LeavesFiles, QuestionsKeepTruth, longer}

question-leaves : (event : Happening) → IsQuestion event → LeavesFiles event
    → (path : List ℕ) → LeavesAlone path (effects event)
question-leaves (world.Look at) is leaves path = tt
question-leaves (world.Ask cmd asked) is leaves path = subst (LeavesAlone path) (sym leaves) tt
question-leaves (world.Edit at bytes time) is leaves path = absurd is
question-leaves (world.Stamp at bytes time) is leaves path = absurd is
question-leaves (world.Put at bytes time) is leaves path = absurd is
question-leaves (world.Gone at time) is leaves path = absurd is
question-leaves (world.Start ticket owner cmd) is leaves path = absurd is
question-leaves (world.Step ticket owner deed time) is leaves path = absurd is
question-leaves (world.End ticket owner) is leaves path = absurd is
question-leaves (world.Left ticket owner) is leaves path = absurd is

question-no_job : (stamp : ℕ) (event : Happening) → IsQuestion event → job_event stamp event ≡ []
question-no_job stamp (world.Look at) is = refl
question-no_job stamp (world.Ask cmd asked) is = refl
question-no_job stamp (world.Edit at bytes time) is = absurd is
question-no_job stamp (world.Stamp at bytes time) is = absurd is
question-no_job stamp (world.Put at bytes time) is = absurd is
question-no_job stamp (world.Gone at time) is = absurd is
question-no_job stamp (world.Start ticket owner cmd) is = absurd is
question-no_job stamp (world.Step ticket owner deed time) is = absurd is
question-no_job stamp (world.End ticket owner) is = absurd is
question-no_job stamp (world.Left ticket owner) is = absurd is

one-keeps : (next : NextOf) (old : History) (event : Happening) → IsQuestion event → LeavesFiles event
    → IsTrueHistory next old → IsTrueHistory next (longer old (event ∷ []))
one-keeps next old event is leaves truth = λ meta lawful stands.
    let state_is : state_of (longer old (event ∷ [])) ≡ stand_next (state_of old) event =
    after_all-append (first_state old.base) old.events (event ∷ []) in
    (true-same next old.events (state_of old).files (λ stamp. Unit {0}) (λ stamp. Unit {0}) event
    (λ target. question-leaves event is leaves (meta_path target))
    (λ stamp over. (tt, question-no_job stamp event is))
    (λ one one_is one_stands. (truth one one_is one_stands, tt)) meta lawful
    (subst (λ (s : Stand). contents s.files (meta_path meta.target) ≡ Some (meta_text meta)) state_is stands)).0

pub questions-keep-truth : QuestionsKeepTruth
questions-keep-truth meaning old [] are leave truth =
    subst (λ events. IsTrueHistory meaning.next (record { base = old.base; events = events }))
    (sym (append-nil old.events)) truth
questions-keep-truth meaning old (event ∷ more) are leave truth =
    subst (λ events. IsTrueHistory meaning.next (record { base = old.base; events = events }))
    (append_assoc old.events (event ∷ []) more)
    (questions-keep-truth meaning (longer old (event ∷ [])) more are.1 leave.1
    (one-keeps meaning.next old event are.0 leave.0 truth))
