use Rattle.std.proofs.Common.{◌≡◌, ◌∙◌, [], ◌∷◌, false, Some, None, ap, arith}
use Rattle.std.proofs.lemmas.Grind.{common_steps}
use Rattle.std.specs.List.{list_any}
use Rattle.std.specs.Option.{option_map}
use Rattle.mk_suffix.proofs.FirstLemmas.{Leads-first, Leads-went}
use Rattle.mk_suffix.proofs.FoundLemmas.{own_none}
use Rattle.mk_suffix.proofs.MadeLemmas.{AreWays-first, IsFor-placed}
use Rattle.mk_suffix.proofs.FirstLemmas.{answer-hit, answer-none}
use Rattle.mk_suffix.proofs.LookLemmas.{OnErr-looked, ByLooks-map, ByLooks-none, ByLooks-then}
use Rattle.mk_suffix.specs.Chains.{placed_chain, with_source, first_found}
use Rattle.mk_suffix.specs.Extends.{Found}
use Rattle.mk_suffix.specs.Found.{is_there, place_of}
use Rattle.mk_suffix.specs.Search.{own_way, reached, is_source}
use Rattle.mk_suffix.specs.SearchView.{way_of}
use Rattle.mk_suffix.proofs.search.first_found.Goals as goal

pub suffixes-init : goal.suffixes-init
suffixes-init g c =
    let base = c.args.base.now in
    let own = c.args.own.now in
    rw c.in_ok-search.ensures (record {
      idle = c.requires.idle;
      ways = AreWays-first c.args.rules.now.nodes own;
      place = omega arith;
      leads = Leads-first c.args.rules.now.nodes c.args.rules.now.seeking.suffixes own;
      told = ByLooks-none _
          (λ files. list_any (is_source (is_there (place_of files c.args.rules.now.nodes c.args.rules.now.seeking)) base own)
          (reached (own_way own ∷ [])) ≡ false)
          (λ files. own_none (is_there (place_of files c.args.rules.now.nodes c.args.rules.now.seeking)) base own);
      faults = grind (arith, common_steps);
    })

pub returns-in_err-search-clause-refused : goal.returns-in_err-search-clause-refused
returns-in_err-search-clause-refused g c =
    OnErr-looked _ _ _ (ByLooks-none _ (λ files. Unit {0}) (λ files. tt))

pub returns-in_err-hit-clause-refused : goal.returns-in_err-hit-clause-refused
returns-in_err-hit-clause-refused g c =
    OnErr-looked _ _ _ (ByLooks-then _ _ _
    (λ files. list_any (is_source (is_there (place_of files c.args.rules.now.nodes c.args.rules.now.seeking)) c.args.base.now c.args.own.now)
    (reached c.suffixes.search) ≡ false)
    (λ files. Unit {0}) (λ files. Unit {0})
    c.suffixes.invariant.told c.in_err-hit.ensures.refused (λ files first second. tt))

pub returns-in_err-chain-clause-refused : goal.returns-in_err-chain-clause-refused
returns-in_err-chain-clause-refused g c =
    OnErr-looked _ _ _ (ByLooks-then _ _ _
    (λ files. list_any (is_source (is_there (place_of files c.args.rules.now.nodes c.args.rules.now.seeking)) c.args.base.now c.args.own.now)
    (reached c.suffixes.search) ≡ false)
    (λ files. Found (place_of files c.args.rules.now.nodes c.args.rules.now.seeking) c.args.base.now c.suffixes.search
    c.extend.new.search c.in_ok-hit.field-0)
    (λ files. Unit {0})
    c.suffixes.invariant.told c.in_ok-hit.ensures.told (λ files first second. tt))

pub returns-in-Some-clause-told : goal.returns-in-Some-clause-told
returns-in-Some-clause-told g c =
    let nodes = c.args.rules.now.nodes in
    let known = c.args.rules.now.seeking.suffixes in
    let base = c.args.base.now in
    let own = c.args.own.now in
    let hit = rw c.in-Some.is at c.in_ok-hit.ensures.went in
    let told = rw c.in-Some.is at c.in_ok-hit.ensures.told in
    ByLooks-then _ _ _
    (λ files. list_any (is_source (is_there (place_of files nodes c.args.rules.now.seeking)) base own) (reached c.suffixes.search)
    ≡ false)
    (λ files. Found (place_of files nodes c.args.rules.now.seeking) base c.suffixes.search c.extend.new.search
    (Some c.in-Some.hit))
    (λ files. option_map (placed_chain (place_of files nodes c.args.rules.now.seeking) nodes base)
    (first_found (is_there (place_of files nodes c.args.rules.now.seeking)) nodes known base own)
    ≡ Some c.with_source.result)
    c.suffixes.invariant.told told
    (λ files none met. answer-hit nodes known own (place_of files nodes c.args.rules.now.seeking) base c.suffixes.search
    c.extend.new.search c.suffixes.at c.in-Some.hit c.with_source.result
    (omega (arith, c.suffixes-test.true, c.len.ensures)) c.suffixes.invariant.leads hit
    (c.with_source.ensures ∙ ap (with_source (Some c.in-Some.hit.source)) c.in_ok-chain.ensures)
    none met)

pub with_source-requires : goal.with_source-requires
with_source-requires g c = rw c.in_ok-chain.ensures (omega arith)

pub returns-in-Some-clause-made : goal.returns-in-Some-clause-made
returns-in-Some-clause-made g c =
    let hit = rw c.in-Some.is at c.in_ok-hit.ensures.went in
    IsFor-placed c.args.rules.now.nodes c.args.base.now
    (way_of c.extend.new.search c.in-Some.hit.step) c.in-Some.hit.source c.with_source.result hit.made
    (c.with_source.ensures ∙ ap (with_source (Some c.in-Some.hit.source)) c.in_ok-chain.ensures)

pub suffixes-preserved : goal.suffixes-preserved
suffixes-preserved g c =
    let nodes = c.args.rules.now.nodes in
    let known = c.args.rules.now.seeking.suffixes in
    let base = c.args.base.now in
    let own = c.args.own.now in
    let went = rw c.in_default.is at c.in_ok-hit.ensures.went in
    let told = rw c.in_default.is at c.in_ok-hit.ensures.told in
    record {
      idle = c.in_ok-hit.ensures.idle;
      ways = went.ways;
      place = omega (arith, c.suffixes-test.true, c.len.ensures, went.longer);
      leads = Leads-went nodes known own c.suffixes.search c.extend.new.search c.suffixes.at
          (omega (arith, c.suffixes-test.true, c.len.ensures)) c.suffixes.invariant.leads went;
      told = ByLooks-then _ _ _
          (λ files. list_any (is_source (is_there (place_of files nodes c.args.rules.now.seeking)) base own)
          (reached c.suffixes.search) ≡ false)
          (λ files. Found (place_of files nodes c.args.rules.now.seeking) base c.suffixes.search c.extend.new.search None)
          (λ files. list_any (is_source (is_there (place_of files nodes c.args.rules.now.seeking)) base own)
          (reached c.extend.new.search) ≡ false)
          c.suffixes.invariant.told told (λ files none met. met own ∙ none);
      faults = grind (arith, common_steps);
    }

pub returns-clause-told : goal.returns-clause-told
returns-clause-told g c =
    let nodes = c.args.rules.now.nodes in
    let known = c.args.rules.now.seeking.suffixes in
    let base = c.args.base.now in
    let own = c.args.own.now in
    ByLooks-map _ _
    (λ files. list_any (is_source (is_there (place_of files nodes c.args.rules.now.seeking)) base own) (reached c.suffixes.search)
    ≡ false)
    (λ files. option_map (placed_chain (place_of files nodes c.args.rules.now.seeking) nodes base)
    (first_found (is_there (place_of files nodes c.args.rules.now.seeking)) nodes known base own) ≡ None)
    c.suffixes.invariant.told
    (λ files none. answer-none nodes known own (place_of files nodes c.args.rules.now.seeking) base c.suffixes.search
    c.suffixes.at (omega (arith, c.suffixes-test.false, c.len.ensures, c.suffixes.invariant.place))
    c.suffixes.invariant.leads none)
