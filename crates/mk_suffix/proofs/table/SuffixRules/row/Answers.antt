use Rattle.mk_suffix.proofs.TableLemmas.{row_found, row_missing}
use Rattle.mk_suffix.proofs.table.SuffixRules.row.Goals as goal

pub returns-in-Some : goal.returns-in-Some
returns-in-Some c =
    let inside = c.self.inside in
    let found = rw c.in-Some.is at c.get.ensures.value in
    rw (c.as_slice.ensures.value, ← c.self.view_is)
    (row_found inside.graph.now inside.suffixes.now inside.rows.entries c.args.to.now
    c.in-Some.row.now c.self.invariant.0 found)

pub returns-in-None : goal.returns-in-None
returns-in-None c =
    let inside = c.self.inside in
    let found = rw c.in-None.is at c.get.ensures.value in
    rw (c.as_slice-in-None.ensures.value, c.self.invariant.1, ← c.self.view_is)
    (row_missing inside.graph.now inside.suffixes.now inside.rows.entries c.args.to.now
    c.self.invariant.0 found)
