use Rattle.std.proofs.Common.{[], refl, sym, ◌∙◌}
use Rattle.std.proofs.lemmas.Option.{get_or_from_slice_get}
use Rattle.mk_graph.proofs.StepViewLemmas.{entered_is}
use Rattle.mk_graph.proofs.walk.Walk.enter.Goals as goal

pub returns : goal.returns
returns c =
    let there = get_or_from_slice_get c.args.preds.now c.args.n c.get.result.now [] c.get.ensures in
    entered_is c.args.preds.now c.args.self.now c.self.inside.marks.items
    c.self.inside.path.items c.push.new.self.items _ _ c.args.n (sym c.self.view_is)
    c.in_ok-push.ensures.items (c.as_slice-self-inside.ensures.value ∙ sym there) refl
