use Rattle.std.proofs.Common.{rules, ◌≡◌, ◌<◌, Some, length, slice_get, sym, ap, ◌∙◌}
use Rattle.std.proofs.lemmas.Option.{slice_get-get_or}
use Rattle.mk_memworld.specs.Children.{without_first}
use Rattle.mk_memworld.proofs.TicketLemmas.{found-first}
use Rattle.mk_memworld.proofs.world.place_in.Goals as goal

pub returns-then-ticket-clause-taken : goal.returns-then-ticket-clause-taken
returns-then-ticket-clause-taken c =
    let tickets = c.args.kids.now.tickets in
    let place = c.loop-place.place in
    let within : place < length tickets = search rules in
    let at : slice_get tickets place ≡ Some c.args.ticket =
    slice_get-get_or tickets place 0 within ∙ ap Some (sym c.ticket.ensures ∙ c.if-ticket.true) in
    let first = found-first c.args.ticket place tickets at c.loop-place.invariant in
    rw first.0 at

pub returns-then-ticket-clause-first : goal.returns-then-ticket-clause-first
returns-then-ticket-clause-first c =
    let tickets = c.args.kids.now.tickets in
    let place = c.loop-place.place in
    let within : place < length tickets = search rules in
    let same = sym c.ticket.ensures ∙ c.if-ticket.true in
    let at : slice_get tickets place ≡ Some c.args.ticket =
    slice_get-get_or tickets place 0 within ∙ ap Some same in
    let first = found-first c.args.ticket place tickets at c.loop-place.invariant in
    ap (λ ticket. without_first ticket tickets) same ∙ first.1
