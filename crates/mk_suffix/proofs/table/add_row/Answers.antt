use Rattle.std.proofs.Common.{◌≡◌, ◌∙◌, Some, sym, subst}
use Rattle.std.specs.Option.{option_map}
use Rattle.mk_depline.specs.Lines.{rule_named}
use Rattle.mk_suffix.proofs.TableLemmas.{before_more, before_there}
use Rattle.mk_suffix.proofs.table.add_row.Goals as goal

pub returns-then-contains_key : goal.returns-then-contains_key
returns-then-contains_key c =
    let known = c.args.known.now in
    let to = c.in-Some.to.now in
    let second = rw c.in-Some.is at c.second_part.ensures in
    before_there c.args.graph.now known c.args.n c.args.rows.now.entries to c.requires.before
    (subst (λ x. Some to ≡ option_map (λ parts. parts.1) (rule_named known x))
    c.name.ensures.value second) (sym c.contains_key.ensures ∙ c.if-contains_key.true)

pub returns : goal.returns
returns c =
    let nodes = c.args.graph.now in
    let known = c.args.known.now in
    let to = c.in-Some.to.now in
    let second = rw c.in-Some.is at c.second_part.ensures in
    before_more nodes known c.args.n c.args.rows.now c.insert.new.self to c.in_ok-row.row
    c.requires.before
    (rw (← c.in_ok-from_slice.ensures.items) c.in_ok-insert.ensures.updates)
    c.in_ok-row.ensures
    (sym (subst (λ x. Some to ≡ option_map (λ parts. parts.1) (rule_named known x))
    c.name.ensures.value second))
