use Rattle.std.proofs.Common.{sym, ◌∙◌}
use Rattle.mk_mods.proofs.ResultLemmas.{room_behind-item}
use Rattle.mk_pieces.specs.Limits.{max_text}
use Rattle.mk_mods.proofs.results.Results.room_behind.Goals as goal

pub returns-in-Some : goal.returns-in-Some
returns-in-Some c =
    let are = sym c.as_slice.ensures.value ∙ c.in-Some.ensures.cases.0 in
    let found = rw c.bytes.ensures.value at c.room_behind.ensures in
    rw (← c.self.view_is)
    (room_behind-item max_text c.self.inside.room c.self.inside.separator c.self.inside.items
    c.in-Some.field-0-1.now c.in-Some.left.now c.args.item.now c.room_behind.result are
    c.self.invariant found)
