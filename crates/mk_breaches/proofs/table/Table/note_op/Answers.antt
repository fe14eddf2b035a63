use Rattle.std.proofs.Common.{◌≡◌, ℕ, List, true, ap, ap₂, ◌∙◌, sym}
use Rattle.std.proofs.lemmas.Result.{on_ok_weaker}
use Rattle.mk_breaches.specs.Held.{rows_in}
use Rattle.mk_breaches.specs.Rows.{Rows, noted_op, noted_path}
use Rattle.mk_breaches.proofs.table.Table.note_op.Goals as goal
use Rattle.mk_world.specs.declared.step.Op.TheVariants.{Move}

pub returns-in_ok-note_path-in-Move : goal.returns-in_ok-note_path-in-Move
returns-in_ok-note_path-in-Move c =
    let op : c.args.op.now ≡ Move c.in-Move.from c.in-Move.to = cc in
    let old = rows_in c.args.self.now in
    on_ok_weaker c.note_path-in-Move.result
    (λ is. is
    ∙ ap₂ (λ (rows : Rows) (to : List ℕ). noted_path c.args.n true rows to)
    (c.in_ok-note_path-in-Move.ensures ∙ ap (noted_path c.args.n true old) c.bytes.ensures.value)
    c.bytes-in-Move.ensures.value
    ∙ ap (noted_op c.args.n old) (sym op))
    c.note_path-in-Move.ensures
