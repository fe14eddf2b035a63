-- Events, one after the other.
use Rattle.std.proofs.Common.{◌≡◌, ℕ, Bool, true, List, Some, option_and_then, sym, ◌∙◌, ap}
use Rattle.mk_strace.specs.declared.trace.Event.{Event}
use Rattle.mk_recorder.specs.States.{State, state_by, appeared, acted_known, step}

pub step-done : (event : Event) (rest : List Event) (old new : State) (process other : List ℕ)
    (fine : Bool) → process ≡ event.process → other ≡ event.process → fine ≡ true
    → state_by fine new ≡ appeared process rest old
    → acted_known other event.act new ≡ step event rest old
step-done event rest old new process other fine process_is other_is fine_is appeared_is =
    let is : Some new ≡ appeared event.process rest old =
    sym (ap (λ one. state_by one new) fine_is) ∙ appeared_is
    ∙ ap (λ one. appeared one rest old) process_is in
    ap (λ one. acted_known one event.act new) other_is
    ∙ ap (option_and_then (acted_known event.process event.act)) is
