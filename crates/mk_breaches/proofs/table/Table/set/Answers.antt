use Rattle.mk_breaches.proofs.RowLemmas.{rows_in-set}
use Rattle.mk_breaches.proofs.table.Table.set.Goals as goal

pub returns : goal.returns
returns c =
    rows_in-set c.args.self.now (record { rows = c.insert.new.self }) c.args.path c.args.row
    c.in_ok-insert.ensures.entries
