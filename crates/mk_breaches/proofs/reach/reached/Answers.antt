use Rattle.std.proofs.Common.{◌≡◌, ◌≤◌, ◌∙◌, ℕ, List, Some, ap, ap₂, subst, sym, length, arith, add-one}
use Rattle.std.specs.List.{slice_get}
use Rattle.mk_breaches.specs.Breaches.{sources_at}
use Rattle.mk_breaches.specs.Walks.{met_too}
use Rattle.mk_breaches.proofs.BreachLemmas.{none-past}
use Rattle.mk_breaches.proofs.WalkLemmas.{Walk, past-end, walk-begins, walk-ends, walk-goes, walk-runs_out}
use Rattle.mk_breaches.proofs.reach.reached.Goals as goal

pub loop-next-init : goal.loop-next-init
loop-next-init c =
    let count = length c.args.nodes.now in
    walk-begins (sources_at c.args.nodes.now) count c.args.n _
    (c.in_ok-meet.ensures
    ∙ ap₂ (λ (met sources : List ℕ). met_too count met sources) c.new-met.ensures.empty c.sources_at.ensures)

pub loop-next-preserved : goal.loop-next-preserved
loop-next-preserved c =
    let count = length c.args.nodes.now in
    let at : slice_get c.loop-next.met.keys c.loop-next.next ≡ Some c.in-Some.one.now =
    sym c.in-Some.ensures.key in
    rw add-one
    (walk-goes (sources_at c.args.nodes.now) count c.args.n c.loop-next.next c.in-Some.one.now _ _
    c.loop-next.invariant at
    (c.in_ok-meet-2.ensures ∙ ap (met_too count c.loop-next.met.keys) c.sources_at-in-loop-next.ensures))

pub returns-in_default : goal.returns-in_default
returns-in_default c =
    let over : length c.loop-next.met.keys ≤ c.loop-next.next =
    past-end c.loop-next.met.keys c.loop-next.next c.in_default.ensures.key in
    walk-ends (sources_at c.args.nodes.now) (length c.args.nodes.now) c.args.n c.loop-next.next c.loop-next.met.keys
    (none-past c.args.nodes.now) c.loop-next.invariant over

pub returns : goal.returns
returns c =
    let sources = sources_at c.args.nodes.now in
    let count = length c.args.nodes.now in
    let last : c.loop-next.next ≡ count = omega arith in
    walk-runs_out sources count c.args.n c.loop-next.met.keys (none-past c.args.nodes.now)
    (subst (λ next. Walk sources count c.args.n c.loop-next.met.keys next) last c.loop-next.invariant)
