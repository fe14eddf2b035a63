use Rattle.std.proofs.Common.{◌≡◌, ◌∙◌, ◌+◌, ◌∷◌, drop, get_or, Some, None, refl, sym, ap, subst, arith}
use Rattle.std.proofs.lemmas.Grind.{common_steps}
use Rattle.mk_suffix.proofs.FoundLemmas.{Found-then}
use Rattle.mk_suffix.proofs.ExtendsLemmas.{Extends-row}
use Rattle.mk_suffix.proofs.LookLemmas.{OnErr-looked, ByLooks-none, ByLooks-then}
use Rattle.mk_suffix.proofs.TableLemmas.{froms_item, leads_to, no_source, rule_item}
use Rattle.mk_suffix.specs.Chains.{first_of, rule_between}
use Rattle.mk_suffix.specs.Extends.{Extends, NoneFound, Found}
use Rattle.mk_suffix.specs.Found.{is_there, place_of}
use Rattle.mk_suffix.specs.Search.{Way}
use Rattle.mk_suffix.specs.Table.{froms, seen_row}
use Rattle.mk_suffix.proofs.search.extend.Goals as goal

pub loop-source-init : goal.loop-source-init
loop-source-init g c =
    let nodes = c.args.rules.now.nodes in
    record {
      idle = c.requires.idle;
      extends = Extends-row nodes c.args.rules.now.seeking.suffixes c.args.search.now c.args.search.now
          c.args.at c.requires.ways c.suffix.result.now c.suffix.ensures
          (seen_row c.row-source-items.result.now) c.row-source-items.ensures;
      told = ByLooks-none _
          (λ files. NoneFound (is_there (place_of files nodes c.args.rules.now.seeking)) c.args.base.now c.args.search.now
          c.args.search.now) (λ files own. refl);
      faults = refl;
    }

pub reach-requires-clause-known : goal.reach-requires-clause-known
reach-requires-clause-known g c =
    (rule_item c.args.rules.now.nodes c.args.rules.now.seeking.suffixes c.suffix.result.now
    c.row-source-items.result.now c.loop-source.source-index no_source c.loop-source-test.true
    c.row-source-items.ensures).among

pub reach-requires-clause-rule : goal.reach-requires-clause-rule
reach-requires-clause-rule g c =
    let nodes = c.args.rules.now.nodes in
    let known = c.args.rules.now.seeking.suffixes in
    let source = get_or c.row-source-items.result.now c.loop-source.source-index no_source in
    subst (λ x. rule_between nodes known source.suffix.now x ≡ Some source.rule)
    (c.suffix.ensures ∙ ap (λ (way : Way). first_of way.suffixes)
    (sym c.loop-source.invariant.extends.same))
    (rule_item nodes known c.suffix.result.now c.row-source-items.result.now
    c.loop-source.source-index no_source c.loop-source-test.true c.row-source-items.ensures).rule_is

pub reach-requires-clause-within : goal.reach-requires-clause-within
reach-requires-clause-within g c =
    let nodes = c.args.rules.now.nodes in
    let known = c.args.rules.now.seeking.suffixes in
    let source = get_or c.row-source-items.result.now c.loop-source.source-index no_source in
    (leads_to nodes known source.suffix.now c.suffix.result.now source.rule
    (rule_item nodes known c.suffix.result.now c.row-source-items.result.now
    c.loop-source.source-index no_source c.loop-source-test.true c.row-source-items.ensures).rule_is).within

pub returns-in_err-hit-clause-refused : goal.returns-in_err-hit-clause-refused
returns-in_err-hit-clause-refused g c =
    OnErr-looked _ _ _ (ByLooks-then _ _ _
    (λ files. NoneFound (is_there (place_of files c.args.rules.now.nodes c.args.rules.now.seeking)) c.args.base.now c.args.search.now
    c.loop-source.search)
    (λ files. Unit {0}) (λ files. Unit {0})
    c.loop-source.invariant.told c.in_err-hit.ensures.refused (λ files first second. tt))

pub returns-in-Some-clause-went : goal.returns-in-Some-clause-went
returns-in-Some-clause-went g c =
    let those = froms (seen_row c.row-source-items.result.now) in
    let i = c.loop-source.source-index in
    let source = get_or c.row-source-items.result.now c.loop-source.source-index no_source in
    let are : drop i those ≡ source.suffix.now ∷ drop (i + 1) those =
    froms_item c.row-source-items.result.now i no_source c.loop-source-test.true in
    let went = c.in_ok-hit.ensures.goes_on c.args.search.now (drop (i + 1) those)
    (subst (Extends c.args.rules.now.nodes c.args.rules.now.seeking.suffixes c.args.search.now
    c.loop-source.search c.args.at) are
    c.loop-source.invariant.extends) in
    rw c.in-Some.is at went

pub returns-in-Some-clause-told : goal.returns-in-Some-clause-told
returns-in-Some-clause-told g c =
    let told = rw c.in-Some.is at c.in_ok-hit.ensures.told in
    ByLooks-then _ _ _
    (λ files. NoneFound (is_there (place_of files c.args.rules.now.nodes c.args.rules.now.seeking)) c.args.base.now c.args.search.now
    c.loop-source.search)
    (λ files. Found (place_of files c.args.rules.now.nodes c.args.rules.now.seeking) c.args.base.now c.loop-source.search
    c.reach.new.search (Some c.in-Some.hit))
    (λ files. Found (place_of files c.args.rules.now.nodes c.args.rules.now.seeking) c.args.base.now c.args.search.now
    c.reach.new.search (Some c.in-Some.hit))
    c.loop-source.invariant.told told
    (λ files first second. Found-then (place_of files c.args.rules.now.nodes c.args.rules.now.seeking) c.args.base.now
    c.args.search.now c.loop-source.search c.reach.new.search (Some c.in-Some.hit) first second)

pub loop-source-preserved : goal.loop-source-preserved
loop-source-preserved g c =
    let those = froms (seen_row c.row-source-items.result.now) in
    let i = c.loop-source.source-index in
    let source = get_or c.row-source-items.result.now c.loop-source.source-index no_source in
    let are : drop i those ≡ source.suffix.now ∷ drop (i + 1) those =
    froms_item c.row-source-items.result.now i no_source c.loop-source-test.true in
    let went = c.in_ok-hit.ensures.goes_on c.args.search.now (drop (i + 1) those)
    (subst (Extends c.args.rules.now.nodes c.args.rules.now.seeking.suffixes c.args.search.now
    c.loop-source.search c.args.at) are
    c.loop-source.invariant.extends) in
    let told = rw c.in_default.is at c.in_ok-hit.ensures.told in
    record {
      idle = c.in_ok-hit.ensures.idle;
      extends = rw c.in_default.is at went;
      told = ByLooks-then _ _ _
          (λ files. NoneFound (is_there (place_of files c.args.rules.now.nodes c.args.rules.now.seeking)) c.args.base.now
          c.args.search.now c.loop-source.search)
          (λ files. Found (place_of files c.args.rules.now.nodes c.args.rules.now.seeking) c.args.base.now
          c.loop-source.search c.reach.new.search None)
          (λ files. NoneFound (is_there (place_of files c.args.rules.now.nodes c.args.rules.now.seeking)) c.args.base.now
          c.args.search.now c.reach.new.search)
          c.loop-source.invariant.told told
          (λ files first second. Found-then (place_of files c.args.rules.now.nodes c.args.rules.now.seeking)
          c.args.base.now c.args.search.now c.loop-source.search c.reach.new.search None first second);
      faults = grind (arith, common_steps);
    }
