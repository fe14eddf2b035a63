-- A veil that tells runs no child.
use Rattle.std.specs.Prelude.{◌≡◌, ℕ, Bool, true, false, not, List, [], ◌∷◌, ◌++◌, map, flat_map}
use Rattle.std.specs.Prelude.{Option, Some, None, refl}
use Rattle.std.specs.Prelude.{if◌then◌else◌}
use Rattle.std.proofs.Common.{sym, ap, ◌∙◌, subst}
use Rattle.mk_world.specs.History.{Effect, State, after, after_all, effects, first_state, state_of}
use Rattle.mk_world.specs.History.{tickets_of}
use Rattle.mk_world.specs.declared.history.Happening.{Happening}
use Rattle.mk_world.specs.declared.history.Happening.TheVariants.{Edit, Look}
use Rattle.mk_world.specs.declared.history.History.{History}
use Rattle.mk_veil.specs.Veiled.{Paths, are_none, bare, edit_of, seen, told_by, veiled, visible}

after-append : (state : State) (first second : List Happening)
    → after_all state (first ++ second) ≡ after_all (after_all state first) second
after-append state [] second = refl
after-append state (event ∷ first) second = after-append (after state event) first second

edits-idle : (state : State) (all : List Effect) (more : List Happening)
    → (after_all state (map edit_of all ++ more)).children
    ≡ (after_all (after_all state (map edit_of all)) more).children
edits-idle state all more =
    ap (λ (s : State). s.children) (after-append state (map edit_of all) more)

edits-children : (state : State) (all : List Effect)
    → (after_all state (map edit_of all)).children ≡ state.children
edits-children state [] = refl
edits-children state (effect ∷ all) = edits-children (after state (edit_of effect)) all

seen-children : (hidden : Paths) (state : State) (events : List Happening)
    → (after_all state (flat_map (seen hidden) events)).children ≡ state.children
seen-children hidden state [] = refl
seen-children hidden state (event ∷ events) =
    let first = map edit_of (visible hidden (effects event)) in
    edits-idle state (visible hidden (effects event)) (flat_map (seen hidden) events)
    ∙ seen-children hidden (after_all state first) events
    ∙ edits-children state (visible hidden (effects event))

looks-children : (state : State) (looked : Paths)
    → (after_all state (map Look looked)).children ≡ state.children
looks-children state [] = refl
looks-children state (path ∷ looked) = looks-children (after state (Look path)) looked

pub veiled-idle : (hidden looked : Paths) (history : History)
    → (state_of (veiled hidden looked history)).children ≡ []
veiled-idle hidden looked history =
    let start = first_state (bare hidden history.base) in
    let past = flat_map (seen hidden) history.events in
    ap (λ (s : State). s.children) (after-append start past (map Look looked))
    ∙ looks-children (after_all start past) looked
    ∙ seen-children hidden start history.events

abbrev IsNone : Option History → Type 0
IsNone None = Unit {0}
IsNone (Some history) = ⊥

abbrev Idles : List ℕ → Option History → Type 0
Idles kids None = Unit {0}
Idles kids (Some history) = tickets_of (state_of history).children ≡ kids

pub told-idle : (hidden looked : Paths) (silent : Bool) (below : Option History) (history : History) (kids : List ℕ)
    → (silent ≡ false → kids ≡ []) → told_by hidden looked silent below ≡ Some history
    → tickets_of (state_of history).children ≡ kids
told-idle hidden looked silent None history kids none is = absurd (subst IsNone is tt)
told-idle hidden looked true (Some below) history kids none is = absurd (subst IsNone is tt)
told-idle hidden looked false (Some below) history kids none is = by (are_none (state_of below).children) is
  where
    by : (a : Bool) → (if not a then None else Some (veiled hidden looked below)) ≡ Some history
        → tickets_of (state_of history).children ≡ kids
    by false is = absurd (subst IsNone is tt)
    by true is =
        subst (Idles kids) is (ap tickets_of (veiled-idle hidden looked below) ∙ sym (none refl))
