use Rattle.std.proofs.Common.{◌≡◌, Some, length, position, refl, sym, ◌∙◌, ap}
use Rattle.std.proofs.lemmas.Option.{slice_get_read}
use Rattle.mk_memworld.proofs.ChildLemmas.{StandsAt-within, found-at, has_ticket, place-some, place-stands, removed-at}
use Rattle.mk_memworld.proofs.chronicle.take_child.Goals as goal

pub unwrap-place-requires : goal.unwrap-place-requires
unwrap-place-requires c =
    place-some c.args.ticket c.args.children.now.items c.place_of.result c.requires
    (c.place_of.ensures ∙ ap (position (has_ticket c.args.ticket)) c.deref.ensures.value)

pub returns-clause-child : goal.returns-clause-child
returns-clause-child c =
    let children = c.args.children.now.items in
    let place = c.unwrap-place.result in
    let found : position (has_ticket c.args.ticket) children ≡ Some place =
    sym (c.place_of.ensures ∙ ap (position (has_ticket c.args.ticket)) c.deref.ensures.value)
    ∙ c.unwrap-place.ensures in
    let stands = place-stands c.args.ticket place children c.requires found in
    sym (found-at c.args.ticket place children stands)
    ∙ slice_get_read children (length children) place c.remove.result refl
    (StandsAt-within c.args.ticket place children stands) c.remove.ensures.value

pub returns-clause-others : goal.returns-clause-others
returns-clause-others c =
    let children = c.args.children.now.items in
    let found : position (has_ticket c.args.ticket) children ≡ Some c.unwrap-place.result =
    sym (c.place_of.ensures ∙ ap (position (has_ticket c.args.ticket)) c.deref.ensures.value)
    ∙ c.unwrap-place.ensures in
    c.remove.ensures.items ∙ removed-at c.args.ticket c.unwrap-place.result children
    (place-stands c.args.ticket c.unwrap-place.result children c.requires found)
