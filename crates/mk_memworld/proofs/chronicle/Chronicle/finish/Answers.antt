use Rattle.std.proofs.Common.{◌≡◌, ◌++◌, Some, IsSomeAnd, map, sym, ap, ◌∙◌, subst}
use Rattle.std.specs.Option.{option_copied}
use Rattle.mk_world.specs.Records.{op_of}
use Rattle.mk_world.specs.History.{child_in, state_of}
use Rattle.mk_world.specs.declared.history.History.{History}
use Rattle.mk_commands.specs.Rest.{doing_of}
use Rattle.mk_memworld.specs.Chronicle.{with_events}
use Rattle.mk_memworld.specs.Endings.{to_end}
use Rattle.mk_memworld.specs.Running.{ended_of}
use Rattle.mk_world.proofs.ChildLemmas.{child_in-ticket}
use Rattle.mk_memworld.proofs.EndingLemmas.{ended_by-is, told_by-is}
use Rattle.mk_memworld.proofs.chronicle.Chronicle.finish.Goals as goal

pub returns-clause-history : goal.returns-clause-history
returns-clause-history c =
    let old = c.args.self.now in
    let new = c.end.new.self in
    let ticket = c.args.ticket in
    let child = c.unwrap-child.result.now in
    let rest = doing_of c.args.rest in
    let held : child_in (state_of old).children ticket ≡ Some child =
    ap (λ cs. child_in cs ticket) (sym (c.deref.ensures.value ∙ c.self.invariant.children
    ∙ ap (λ (h : History). (state_of h).children) c.self.view_is))
    ∙ sym c.find.ensures ∙ ap option_copied c.unwrap-child.ensures in
    ended_by-is old new ticket child rest held c.requires.is_rest
    (subst (λ found. IsSomeAnd found
    (λ one. new ≡ with_events old (to_end (state_of old) one rest))) held c.in_ok-end.ensures.ok)

pub returns-clause-told : goal.returns-clause-told
returns-clause-told c =
    let old = c.args.self.now in
    let ticket = c.args.ticket in
    let child = c.unwrap-child.result.now in
    let rest = c.args.rest in
    let held : child_in (state_of old).children ticket ≡ Some child =
    ap (λ cs. child_in cs ticket) (sym (c.deref.ensures.value ∙ c.self.invariant.children
    ∙ ap (λ (h : History). (state_of h).children) c.self.view_is))
    ∙ sym c.find.ensures ∙ ap option_copied c.unwrap-child.ensures in
    let named = child_in-ticket ticket (state_of old).children child held in
    told_by-is old ticket child (doing_of rest) _ held c.requires.is_rest
    (ap (ended_of ticket rest.status rest.output) (c.in_ok-records.ensures
    ∙ ap (λ ds. map op_of (ds ++ c.as_slice-2.result.now)) c.as_slice.ensures.value
    ∙ ap (λ ds. map op_of (child.deeds ++ ds)) c.as_slice-2.ensures.value)
    ∙ ap (λ one. ended_of one rest.status rest.output (map op_of (child.deeds ++ rest.deeds)))
    (sym named))
