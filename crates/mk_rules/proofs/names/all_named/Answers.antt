use Rattle.std.proofs.Common.{◌≡◌, ◌<◌, ◌∙◌, [], Ok, length, get_or, ap, refl, arith}
use Rattle.std.proofs.lemmas.Grind.{common_steps}
use Rattle.std.proofs.lemmas.List.{drop_more}
use Rattle.mk_rules.specs.Names as spec
use Rattle.mk_rules.proofs.FoldLemmas.{below_grown}
use Rattle.mk_rules.proofs.names.all_named.Goals as goal

pub loop-name-preserved : goal.loop-name-preserved
loop-name-preserved c =
    let l = c.loop-name in
    let names = c.args.names.now in
    let within : l.name-index < length names = grind (arith, common_steps) in
    let here : c.bytes.result.now ≡ get_or names l.name-index [] = grind (arith, common_steps) in
    let done : spec.named l.graph (get_or names l.name-index []) ≡ Ok (c.named.new.graph, c.in_ok-named.field-0) =
    rw (← here) c.in_ok-named.ensures.done in
    record {
      named = l.invariant.named
          ∙ ap (spec.all_named l.graph l.nodes) (drop_more names l.name-index [] within)
          ∙ rw (done, c.in_ok-push.ensures.ok) refl;
      below = rw c.in_ok-push.ensures.ok (below_grown (length l.graph) (length c.named.new.graph)
          c.in_ok-named.field-0 l.nodes l.invariant.below c.named.ensures.longer
          c.in_ok-named.ensures.within);
      longer = omega (arith, l.invariant.longer, c.named.ensures.longer);
    }
