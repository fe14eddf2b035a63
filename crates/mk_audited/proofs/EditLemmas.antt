-- Edits leave meta files as they are.
use Rattle.std.proofs.Common.{◌≡◌, ◌∙◌, ℕ, true, List, [], ◌∷◌, ◌++◌, refl, sym, ap, subst, append_assoc}
use Rattle.std.proofs.lemmas.Bool.{false≢true}
use Rattle.std.proofs.lemmas.List.{append-nil}
use Rattle.std.specs.List.{AllByRecursion}
use Rattle.std.specs.Option.{option_map}
use Rattle.mk_clean.proofs.WalkLemmas.{left_alone}
use Rattle.mk_headline.proofs.PlanLemmas.{meta_path-is}
use Rattle.mk_headline.specs.Plans.{is_meta_path}
use Rattle.mk_meta.specs.TrueHistory.{IsTrue, LeavesAlone, NoneChanges, job_event, meta_path}
use Rattle.mk_meta.specs.declared.meta.Meta.{Meta}
use Rattle.mk_sound.specs.Files.{IsTrueStart}
use Rattle.mk_trace.proofs.TrueTexts.{true-more}
use Rattle.mk_world.proofs.CallLemmas.{after_all-append}
use Rattle.mk_world.specs.History.{Filed, State as Stand, after, after_all, contents, effects, files_of, first_state, state_of}
use Rattle.mk_world.specs.Talks.{NextOf}
use Rattle.mk_world.specs.declared.history.Happening.{Happening}
use Rattle.mk_world.specs.declared.history.Happening.TheVariants as world
use Rattle.mk_world.specs.declared.history.History.{History}
use Rattle.mk_audited.specs.Runs.{AreEdited, EditsKeepTrueStarts, IsEdit}

-- an edit is of another path than a meta file's, and of no job
edit-leaves : (path : List ℕ) → is_meta_path path ≡ true → (event : Happening) → IsEdit event
    → LeavesAlone path (effects event)
edit-leaves path is (world.Edit other bytes time) edit =
    (λ same. false≢true (sym edit ∙ (ap is_meta_path same ∙ is)), tt)
edit-leaves path is (world.Look other) edit = absurd edit
edit-leaves path is (world.Stamp other bytes time) edit = absurd edit
edit-leaves path is (world.Put other bytes time) edit = absurd edit
edit-leaves path is (world.Gone other time) edit = absurd edit
edit-leaves path is (world.Ask cmd steps) edit = absurd edit
edit-leaves path is (world.Start ticket owner cmd) edit = absurd edit
edit-leaves path is (world.Step ticket owner deed time) edit = absurd edit
edit-leaves path is (world.End ticket owner) edit = absurd edit
edit-leaves path is (world.Left ticket owner) edit = absurd edit

edit-owns : (stamp : ℕ) (event : Happening) → IsEdit event → job_event stamp event ≡ []
edit-owns stamp (world.Edit other bytes time) edit = refl
edit-owns stamp (world.Look other) edit = absurd edit
edit-owns stamp (world.Stamp other bytes time) edit = absurd edit
edit-owns stamp (world.Put other bytes time) edit = absurd edit
edit-owns stamp (world.Gone other time) edit = absurd edit
edit-owns stamp (world.Ask cmd steps) edit = absurd edit
edit-owns stamp (world.Start ticket owner cmd) edit = absurd edit
edit-owns stamp (world.Step ticket owner deed time) edit = absurd edit
edit-owns stamp (world.End ticket owner) edit = absurd edit
edit-owns stamp (world.Left ticket owner) edit = absurd edit

edits-leave : (path : List ℕ) → is_meta_path path ≡ true → (events : List Happening) → AllByRecursion IsEdit events
    → NoneChanges path events
edits-leave path is [] are = tt
edits-leave path is (event ∷ events) are = (edit-leaves path is event are.0, edits-leave path is events are.1)

-- a true meta file stays true behind edits
true-behind : (next : NextOf) (one : Meta) (events edits : List Happening) → AllByRecursion IsEdit edits
    → IsTrue next one events → IsTrue next one (events ++ edits)
true-behind next one events [] are is = subst (IsTrue next one) (sym (append-nil events)) is
true-behind next one events (event ∷ edits) are is =
    subst (IsTrue next one) (append_assoc events (event ∷ []) edits)
    (true-behind next one (events ++ event ∷ []) edits are.1
    (true-more next one events event
    (edit-leaves (meta_path one.target) (meta_path-is one.target) event are.0) (edit-owns one.stamp.0 event are.0) is))

-- an edit starts and ends no child
edit-children : (state : Stand) (event : Happening) → IsEdit event → (after state event).children ≡ state.children
edit-children state (world.Edit other bytes time) edit = refl
edit-children state (world.Look other) edit = absurd edit
edit-children state (world.Stamp other bytes time) edit = absurd edit
edit-children state (world.Put other bytes time) edit = absurd edit
edit-children state (world.Gone other time) edit = absurd edit
edit-children state (world.Ask cmd steps) edit = absurd edit
edit-children state (world.Start ticket owner cmd) edit = absurd edit
edit-children state (world.Step ticket owner deed time) edit = absurd edit
edit-children state (world.End ticket owner) edit = absurd edit
edit-children state (world.Left ticket owner) edit = absurd edit

edits-children : (state : Stand) (events : List Happening) → AllByRecursion IsEdit events
    → (after_all state events).children ≡ state.children
edits-children state [] are = refl
edits-children state (event ∷ events) are =
    edits-children (after state event) events are.1 ∙ edit-children state event are.0

-- how things stand behind edits
edited-state : (old new : History) (edited : AreEdited old new)
    → state_of new ≡ after_all (state_of old) edited.edits
edited-state old new edited =
    ap (λ b. after_all (first_state b) new.events) edited.base
    ∙ (ap (after_all (first_state old.base)) edited.events
    ∙ after_all-append (first_state old.base) old.events edited.edits)

pub edited-children : (old new : History) → AreEdited old new → (state_of new).children ≡ (state_of old).children
edited-children old new edited =
    ap (λ (s : Stand). s.children) (edited-state old new edited)
    ∙ edits-children (state_of old) edited.edits edited.are

-- a path that nothing changes stands as it did
unchanged : (path : List ℕ) (state : Stand) (events : List Happening) → NoneChanges path events
    → (after_all state events).files path ≡ state.files path
unchanged path state [] none = refl
unchanged path state (event ∷ events) none =
    unchanged path (after state event) events none.1 ∙ left_alone path state.files (effects event) none.0

meta-files : (old new : History) → AreEdited old new → (path : List ℕ) → is_meta_path path ≡ true
    → files_of new path ≡ files_of old path
meta-files old new edited path is =
    ap (λ (s : Stand). contents s.files path) (edited-state old new edited)
    ∙ ap (option_map (λ (file : Filed). file.bytes))
    (unchanged path (state_of old) edited.edits (edits-leave path is edited.edits edited.are))

pub edits_keep_true_starts : EditsKeepTrueStarts
edits_keep_true_starts meaning old new start edited lawful = record {
  lawful = lawful;
  idle = edited-children old new edited ∙ start.idle;
  truth = λ one one_lawful stands.
      subst (IsTrue meaning.next one) (sym edited.events)
      (true-behind meaning.next one old.events edited.edits edited.are
      (start.truth one one_lawful
      (sym (meta-files old new edited (meta_path one.target) (meta_path-is one.target)) ∙ stands)));
}
