-- What `ask` and `remove` add in a world that runs no child.
use Rattle.std.proofs.Common.{◌≡◌, ℕ, List, [], ◌++◌, Option, Some, None, inl, inr}
use Rattle.std.proofs.Common.{refl, sym, ◌∙◌, ap, subst}
use Rattle.std.proofs.lemmas.List.{append-nil}
use Rattle.mk_world.specs.Calls.{AddsEvents, Adds, IsAsk, OwnAsk, OwnGone, OwnUnanswered}
use Rattle.mk_world.specs.History.{State, MayAll, after_all, state_of, tickets_of}
use Rattle.mk_world.specs.Runs.{Asked, Ran, RanAtMost, Removed}
use Rattle.mk_world.specs.Talks.{Meaning}
use Rattle.mk_world.specs.Told.{Told}
use Rattle.mk_world.specs.declared.command.Cmd.{Cmd}
use Rattle.mk_world.specs.declared.history.Happening.{Happening}
use Rattle.mk_world.specs.declared.history.History.{History}
use Rattle.mk_world.specs.declared.step.Ended.{Ended}
use Rattle.mk_world.proofs.ChangeLemmas.{files_of-asked, files_of-gone}
use Rattle.mk_world.proofs.IdleLemmas.{IsIdle, adds_alone}

-- a command that was run where no child runs
ran_as : (meaning : Meaning) (cmd : Cmd) (old new : History) (own : List Happening)
    → new.base ≡ old.base → new.events ≡ old.events ++ own → MayAll meaning (state_of old) own
    → IsAsk cmd own → Ran meaning cmd old new
ran_as meaning cmd old new own base events lawful is =
    let event = events ∙ ap (λ l. old.events ++ l) is.1 in
    let may = subst (MayAll meaning (state_of old)) is.1 lawful in record {
      steps = is.0;
      base = base;
      event = event;
      lawful = may.0;
      files = files_of-asked meaning old new cmd is.0 base event may.0.1;
    }

asked_alone : {meaning : Meaning} {cmd : Cmd} {ended : Ended} {old new : History}
    → tickets_of (state_of old).children ≡ []
    → AddsEvents meaning (OwnAsk meaning cmd ended) old new → Asked meaning cmd ended old new
asked_alone {meaning} {cmd} {ended} {old} {new} idle adds =
    let alone = adds_alone
    (λ state own is none. subst (λ l. (after_all state l).children ≡ []) (sym is.0.1) none)
    idle adds in record {
      ran = ran_as meaning cmd old new alone.own alone.base alone.events alone.lawful
          alone.is_own.0;
      answered = alone.is_own.1;
    }

ran_at_most : (meaning : Meaning) (cmd : Cmd) (old new : History) (own : List Happening)
    → new.base ≡ old.base → new.events ≡ old.events ++ own → MayAll meaning (state_of old) own
    → OwnUnanswered cmd (state_of old) own → RanAtMost meaning cmd old new
ran_at_most meaning cmd old new own base events lawful (inl is) =
    inl (record { base = base; events = events ∙ ap (λ l. old.events ++ l) is ∙ append-nil old.events })
ran_at_most meaning cmd old new own base events lawful (inr is) =
    inr (ran_as meaning cmd old new own base events lawful is)

idle_unanswered : (cmd : Cmd) (state : State) (own : List Happening) → OwnUnanswered cmd state own
    → state.children ≡ [] → (after_all state own).children ≡ []
idle_unanswered cmd state own (inl is) none =
    subst (λ l. (after_all state l).children ≡ []) (sym is) none
idle_unanswered cmd state own (inr is) none =
    subst (λ l. (after_all state l).children ≡ []) (sym is.1) none

unanswered_alone : {meaning : Meaning} {cmd : Cmd} {old new : History}
    → tickets_of (state_of old).children ≡ []
    → AddsEvents meaning (OwnUnanswered cmd) old new → RanAtMost meaning cmd old new
unanswered_alone {meaning} {cmd} {old} {new} idle adds =
    let alone = adds_alone (idle_unanswered cmd) idle adds in
    ran_at_most meaning cmd old new alone.own alone.base alone.events alone.lawful alone.is_own

removed_alone : {meaning : Meaning} {path : List ℕ} {old new : History}
    → tickets_of (state_of old).children ≡ [] → AddsEvents meaning (OwnGone path) old new
    → Removed path old new
removed_alone {meaning} {path} {old} {new} idle adds =
    let alone = adds_alone
    (λ state own is none. subst (λ l. (after_all state l).children ≡ []) (sym is.1) none)
    idle adds in
    let event = alone.events ∙ ap (λ l. old.events ++ l) alone.is_own.1 in record {
      time = alone.is_own.0;
      base = alone.base;
      event = event;
      files = files_of-gone old new path alone.is_own.0 alone.base event;
    }

-- a command that a world without children ran and answered
pub asked_idle : (meaning : Meaning) (cmd : Cmd) (ended : Ended) (before after : Option History)
    → IsIdle before → Adds meaning before after (OwnAsk meaning cmd ended)
    → Told before after (Asked meaning cmd ended)
asked_idle meaning cmd ended before None idle adds = tt
asked_idle meaning cmd ended None (Some new) idle adds = absurd adds
asked_idle meaning cmd ended (Some old) (Some new) idle adds = asked_alone (idle old refl) adds

-- a refused `ask` of a world without children
pub unanswered_idle : (meaning : Meaning) (cmd : Cmd) (before after : Option History)
    → IsIdle before → Adds meaning before after (OwnUnanswered cmd)
    → Told before after (RanAtMost meaning cmd)
unanswered_idle meaning cmd before None idle adds = tt
unanswered_idle meaning cmd None (Some new) idle adds = absurd adds
unanswered_idle meaning cmd (Some old) (Some new) idle adds = unanswered_alone (idle old refl) adds

-- a removal in a world without children
pub removed_idle : (meaning : Meaning) (path : List ℕ) (before after : Option History)
    → IsIdle before → Adds meaning before after (OwnGone path)
    → Told before after (Removed path)
removed_idle meaning path before None idle adds = tt
removed_idle meaning path None (Some new) idle adds = absurd adds
removed_idle meaning path (Some old) (Some new) idle adds = removed_alone (idle old refl) adds
