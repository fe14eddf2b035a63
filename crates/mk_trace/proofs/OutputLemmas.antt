-- What a build has printed, when more follows.
use Rattle.std.proofs.Common.{◌≡◌, ◌∙◌, ℕ, ◌<◌, ◌≤◌, List, [], ◌∷◌, ◌++◌, length, get_or, Bool, true, false, if◌then◌else◌}
use Rattle.std.proofs.Common.{refl, ap, arith}
use Rattle.std.proofs.lemmas.List.{get_or_append_left}
use Rattle.mk_trace.specs.Output.{Job, Printed, printed_after, printed_all, with_piece, echo}
use Rattle.mk_trace.specs.Runs.{line_of, has_child}
use Rattle.mk_trace.specs.declared.event.Event.{Event}
use Rattle.mk_trace.specs.declared.event.Event.TheVariants.{Kept, Refused, Shown, Start, End, Wait}

pub printed_all-append : (job : Job) (outputs : List (List ℕ)) (printed : Printed)
    (events more : List Event)
    → printed_all job outputs printed (events ++ more)
    ≡ printed_all job outputs (printed_all job outputs printed events) more
printed_all-append job outputs printed [] more = refl
printed_all-append job outputs printed (event ∷ events) more =
    printed_all-append job outputs (printed_after job outputs printed event) events more

end-rises : (job : Job) (outputs : List (List ℕ)) (printed : Printed) (node number : ℕ) (b : Bool)
    (piece : List ℕ)
    → printed.ended ≤ (if b then with_piece job printed node piece else printed).ended
end-rises job outputs printed node number true piece =
    omega arith
end-rises job outputs printed node number false piece = omega arith

after-rises : (job : Job) (outputs : List (List ℕ)) (printed : Printed) (event : Event)
    → printed.ended ≤ (printed_after job outputs printed event).ended
after-rises job outputs printed (Kept node) = omega arith
after-rises job outputs printed (Refused node number) = omega arith
after-rises job outputs printed (Shown node number) = omega arith
after-rises job outputs printed (Start node number) = omega arith
after-rises job outputs printed (End node number status) =
    end-rises job outputs printed node number (has_child (line_of (job.tasks node) number)) _
after-rises job outputs printed Wait = omega arith

all-rises : (job : Job) (outputs : List (List ℕ)) (printed : Printed) (events : List Event)
    → printed.ended ≤ (printed_all job outputs printed events).ended
all-rises job outputs printed [] = omega arith
all-rises job outputs printed (event ∷ events) =
    let here = after-rises job outputs printed event in
    let more = all-rises job outputs (printed_after job outputs printed event) events in
    omega arith

end-same : (job : Job) (outputs more : List (List ℕ)) (printed : Printed) (node number : ℕ) (b : Bool)
    (text : List ℕ)
    → (if b then with_piece job printed node (text ++ get_or outputs printed.ended []) else printed).ended
    ≤ length outputs
    → (if b then with_piece job printed node (text ++ get_or (outputs ++ more) printed.ended [])
    else printed)
    ≡ (if b then with_piece job printed node (text ++ get_or outputs printed.ended []) else printed)
end-same job outputs more printed node number true text few =
    let within : printed.ended < length outputs = omega arith in
    ap (λ o. with_piece job printed node (text ++ o))
    (get_or_append_left outputs more [] printed.ended within)
end-same job outputs more printed node number false text few = refl

after-same : (job : Job) (outputs more : List (List ℕ)) (printed : Printed) (event : Event)
    → (printed_after job outputs printed event).ended ≤ length outputs
    → printed_after job (outputs ++ more) printed event ≡ printed_after job outputs printed event
after-same job outputs more printed (Kept node) few = refl
after-same job outputs more printed (Refused node number) few = refl
after-same job outputs more printed (Shown node number) few = refl
after-same job outputs more printed (Start node number) few = refl
after-same job outputs more printed (End node number status) few =
    end-same job outputs more printed node number (has_child (line_of (job.tasks node) number))
    (echo (line_of (job.tasks node) number)) few
after-same job outputs more printed Wait few = refl

-- outputs of later ends change nothing before them
pub printed_all-same : (job : Job) (outputs more : List (List ℕ)) (printed : Printed)
    (events : List Event)
    → (printed_all job outputs printed events).ended ≤ length outputs
    → printed_all job (outputs ++ more) printed events ≡ printed_all job outputs printed events
printed_all-same job outputs more printed [] few = refl
printed_all-same job outputs more printed (event ∷ events) few =
    let rises = all-rises job outputs (printed_after job outputs printed event) events in
    let early : (printed_after job outputs printed event).ended ≤ length outputs = omega arith in
    ap (λ p. printed_all job (outputs ++ more) p events)
    (after-same job outputs more printed event early)
    ∙ printed_all-same job outputs more (printed_after job outputs printed event) events few
