-- Steps with their times.
use Rattle.std.proofs.Common.{◌≡◌, ℕ, ◌+◌, ◌<◌, List, [], ◌∷◌, ◌++◌, length, map, take, get_or}
use Rattle.std.proofs.Common.{refl, sym, ◌∙◌, ap, subst, arith, append_assoc}
use Rattle.std.proofs.lemmas.List.{append-nil, take_more}
use Rattle.mk_world.specs.Deeds.{changes}
use Rattle.mk_world.specs.History.{FileMap, NotEarlier, at_time, last_time, timed_effects}
use Rattle.mk_world.specs.declared.history.Timed.{Timed}
use Rattle.mk_world.specs.declared.step.Deed.{Deed}
use Rattle.mk_world.proofs.ChangeLemmas.{NotEarlier-append, last_time-append}
use Rattle.mk_commands.specs.Changes.{changed, changed_all}
use Rattle.mk_commands.specs.Clock.{numbers, time_of, timed}
use Rattle.mk_commands.specs.declared.change.Change.{Change}
use Rattle.mk_commands.proofs.StepLemmas.{NotEarlier-step, last_time-step}

pub changed_all-append : (files : FileMap) (first second : List Change)
    → changed_all files (first ++ second) ≡ changed_all (changed_all files first) second
changed_all-append files [] second = refl
changed_all-append files (change ∷ first) second =
    changed_all-append (changed files change) first second

timed_effects-append : (first second : List Timed)
    → timed_effects (first ++ second) ≡ timed_effects first ++ timed_effects second
timed_effects-append [] second = refl
timed_effects-append (step ∷ first) second =
    let own = at_time step.time (changes step.deed) in
    ap (λ l. own ++ l) (timed_effects-append first second)
    ∙ sym (append_assoc own (timed_effects first) (timed_effects second))

-- one step more
pub timed_effects-more : (steps : List Timed) (i : ℕ) (step : Timed) → i < length steps
    → step ≡ get_or steps i step
    → timed_effects (take (i + 1) steps)
    ≡ timed_effects (take i steps) ++ at_time step.time (changes step.deed)
timed_effects-more steps i step within is =
    ap timed_effects (take_more steps i step within)
    ∙ timed_effects-append (take i steps) (get_or steps i step ∷ [])
    ∙ ap (λ s. timed_effects (take i steps) ++ timed_effects (s ∷ [])) (sym is)
    ∙ ap (λ l. timed_effects (take i steps) ++ l) (append-nil (at_time step.time (changes step.deed)))

pub deeds-timed : (clock : ℕ) (deeds : List Deed)
    → map (λ (step : Timed). step.deed) (timed clock deeds) ≡ deeds
deeds-timed clock [] = refl
deeds-timed clock (deed ∷ deeds) = ap (λ l. deed ∷ l) (deeds-timed (time_of clock deed) deeds)

-- the clock after all steps
pub last_time-timed : (clock : ℕ) (deeds : List Deed)
    → last_time clock (timed_effects (timed clock deeds)) ≡ clock + numbers deeds
last_time-timed clock [] = omega arith
last_time-timed clock (deed ∷ deeds) =
    let time = time_of clock deed in
    let rest = timed_effects (timed time deeds) in
    let behind : last_time clock (at_time time (changes deed) ++ rest) ≡ time + numbers deeds =
    last_time-append clock (at_time time (changes deed)) rest
    ∙ ap (λ n. last_time n rest) (last_time-step clock deed)
    ∙ last_time-timed time deeds in
    behind ∙ omega arith

-- no step takes an earlier time than those before it
pub NotEarlier-timed : (clock : ℕ) (deeds : List Deed) → NotEarlier clock (timed_effects (timed clock deeds))
NotEarlier-timed clock [] = tt
NotEarlier-timed clock (deed ∷ deeds) =
    let time = time_of clock deed in
    let rest = timed_effects (timed time deeds) in
    NotEarlier-append clock (at_time time (changes deed)) rest (NotEarlier-step clock deed)
    (subst (λ n. NotEarlier n rest) (sym (last_time-step clock deed)) (NotEarlier-timed time deeds))
