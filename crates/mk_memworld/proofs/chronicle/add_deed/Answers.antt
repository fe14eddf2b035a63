use Rattle.std.proofs.Common.{◌≡◌, [], ◌∷◌, ◌++◌, Some, length, position, refl, sym, ◌∙◌, ap, slice_get, slice_set}
use Rattle.std.proofs.lemmas.Option.{slice_get_read}
use Rattle.mk_memworld.proofs.ChildLemmas.{StandsAt-within, has_ticket, place-some, place-stands, stepped-at}
use Rattle.mk_memworld.proofs.chronicle.add_deed.Goals as goal

pub unwrap-place-requires : goal.unwrap-place-requires
unwrap-place-requires c =
    place-some c.args.ticket c.args.children.now.items c.place_of.result c.requires
    (c.place_of.ensures ∙ ap (position (has_ticket c.args.ticket)) c.deref.ensures.value)

pub returns-clause-ok : goal.returns-clause-ok
returns-clause-ok c =
    let children = c.args.children.now.items in
    let place = c.unwrap-place.result in
    let child = c.index_mut.result.now in
    let found : position (has_ticket c.args.ticket) children ≡ Some place =
    sym (c.place_of.ensures ∙ ap (position (has_ticket c.args.ticket)) c.deref.ensures.value)
    ∙ c.unwrap-place.ensures in
    let stands = place-stands c.args.ticket place children c.requires found in
    let within = StandsAt-within c.args.ticket place children stands in
    let at : slice_get children place ≡ Some child =
    slice_get_read children (length children) place child refl within c.index_mut.ensures.value in
    ap (λ deeds. slice_set children place (record child { deeds = deeds }))
    (c.in_ok-push.ensures.ok ∙ ap (λ d. child.deeds ++ d ∷ []) c.in_ok-copy.ensures)
    ∙ stepped-at c.args.ticket place c.args.deed.now children child stands at
