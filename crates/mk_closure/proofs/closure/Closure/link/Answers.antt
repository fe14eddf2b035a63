use Rattle.std.proofs.Common.{◌≡◌, ◌∙◌, ◌-◌, true, false, [], length, sym, arith}
use Rattle.std.proofs.lemmas.Grind.{common_steps}
use Rattle.std.proofs.lemmas.Option.{get_or_from_slice_get}
use Rattle.std.proofs.lemmas.Result.{err_from_is_err_and}
use Rattle.mk_closure.proofs.LinkLemmas.{AreBelow-at, linked-end, linked-decided, linked-next}
use Rattle.mk_closure.proofs.LinkLemmas.{linked-refused}
use Rattle.mk_closure.proofs.PartLemmas.{IsGrown-then}
use Rattle.mk_closure.specs.Parts.{is_open}
use Rattle.mk_closure.proofs.closure.Closure.link.Goals as goal

pub returns-then-not-is_open-clause-linked : goal.returns-then-not-is_open-clause-linked
returns-then-not-is_open-clause-linked c =
    let decided : is_open c.links.self c.links.target ≡ false = grind (arith, common_steps) in
    c.links.invariant.leads
    ∙ linked-decided c.links.self c.links.target c.args.chain.now c.links.links decided

pub link_to-requires-clause-rule : goal.link_to-requires-clause-rule
link_to-requires-clause-rule c =
    rw c.links.invariant.grown.nodes
    (AreBelow-at (length c.args.self.now.nodes) c.args.chain.now.rules _ c.get-rule.result.now
    c.requires.chain.rules c.get-rule.ensures)

pub returns-in_err-target-clause-refused : goal.returns-in_err-target-clause-refused
returns-in_err-target-clause-refused c =
    let p = err_from_is_err_and c.from_residual.result c.from_residual.ensures.1 in
    let opened : is_open c.links.self c.links.target ≡ true = grind (arith, common_steps) in
    let chain = c.args.chain.now in
    let left = c.links.links - 1 in
    let rule = get_or_from_slice_get chain.rules left c.get-rule.result.now 0 c.get-rule.ensures in
    let name = get_or_from_slice_get chain.names left c.get.result.now [] c.get.ensures in
    rw (p.1, p.2, c.links.invariant.leads)
    (linked-refused c.links.self c.links.target chain c.links.links left c.get-rule.result.now
    c.bytes.result.now c.in_err-target.field-0.0 (omega arith) opened (sym rule)
    (c.bytes.ensures.value ∙ sym name) c.in_err-target.ensures.refused)

pub links-preserved : goal.links-preserved
links-preserved c =
    let opened : is_open c.links.self c.links.target ≡ true = grind (arith, common_steps) in
    let chain = c.args.chain.now in
    let left = c.links.links - 1 in
    let rule = get_or_from_slice_get chain.rules left c.get-rule.result.now 0 c.get-rule.ensures in
    let name = get_or_from_slice_get chain.names left c.get.result.now [] c.get.ensures in
    record {
      within = c.in_ok-target.ensures.within;
      links = omega arith;
      grown = IsGrown-then c.args.self.now c.links.self c.link_to.new.self c.links.invariant.grown
          c.in_ok-target.ensures.grown;
      leads = c.links.invariant.leads
          ∙ linked-next c.links.self c.links.target chain c.links.links left c.get-rule.result.now
          c.bytes.result.now c.link_to.new.self c.in_ok-target.target (omega arith) opened
          (sym rule) (c.bytes.ensures.value ∙ sym name) c.in_ok-target.ensures.linked;
    }

pub returns-clause-linked : goal.returns-clause-linked
returns-clause-linked c =
    c.links.invariant.leads
    ∙ linked-end c.links.self c.links.target c.args.chain.now c.links.links (omega arith)
