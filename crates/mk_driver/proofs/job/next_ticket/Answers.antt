use Rattle.std.proofs.Common.{◌≡◌, ◌+◌, ◌<◌, ◌^◌, nat_eq, true, length, sym, ◌∙◌, arith}
use Rattle.std.specs.List.{list_any}
use Rattle.mk_driver.specs.Jobs.{from_on}
use Rattle.mk_driver.proofs.TicketLemmas.{from_on-few, held-less}
use Rattle.mk_driver.proofs.job.next_ticket.Goals as goal

pub held-init : goal.held-init
held-init g c =
    let few = from_on-few c.ticket_behind-ticket.result c.args.kids.now.tickets in
    let all : length c.args.kids.now.tickets < 256 = c.requires in
    let room = c.ticket_behind-ticket.ensures in
    omega (arith, few, all, room)

pub overflow_add-ticket : goal.overflow_add-ticket
overflow_add-ticket g c =
    let tickets = c.args.kids.now.tickets in
    let held : list_any (nat_eq c.held.ticket) tickets ≡ true =
    sym c.is_held.ensures ∙ c.held-test.true in
    let less = held-less c.held.ticket tickets held in
    let room : c.held.ticket + from_on c.held.ticket tickets < 2 ^ 32 = c.held.invariant in
    omega (arith, less, room)

pub held-smaller : goal.held-smaller
held-smaller g c =
    let tickets = c.args.kids.now.tickets in
    let held : list_any (nat_eq c.held.ticket) tickets ≡ true =
    sym c.is_held.ensures ∙ c.held-test.true in
    let less = held-less c.held.ticket tickets held in
    omega (arith, less)

pub held-preserved : goal.held-preserved
held-preserved g c =
    let tickets = c.args.kids.now.tickets in
    let held : list_any (nat_eq c.held.ticket) tickets ≡ true =
    sym c.is_held.ensures ∙ c.held-test.true in
    let less = held-less c.held.ticket tickets held in
    let room : c.held.ticket + from_on c.held.ticket tickets < 2 ^ 32 = c.held.invariant in
    omega (arith, less, room)
