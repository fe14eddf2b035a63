use Rattle.std.proofs.Common.{◌≡◌, Some, sym}
use Rattle.std.specs.Option.{option_map}
use Rattle.mk_suffix.proofs.FirstLemmas.{choice-own}
use Rattle.mk_suffix.proofs.LookLemmas.{ByLooks-map}
use Rattle.mk_suffix.specs.Chains.{choice, first_found, placed_chain}
use Rattle.mk_suffix.specs.Found.{is_there, place_of}
use Rattle.mk_suffix.specs.Names.{suffix_of}
use Rattle.mk_suffix.proofs.search.resolve.Goals as goal

pub returns-clause-told : goal.returns-clause-told
returns-clause-told g c =
    let nodes = c.args.rules.now.nodes in
    let seeking = c.args.rules.now.seeking in
    let name = c.args.name.now in
    let own = c.in-Some.own.now in
    let base = c.without_end.result.now in
    let suffix_is : suffix_of seeking.suffixes name ≡ Some own =
    sym (rw (c.as_slice.ensures.value, c.suffixes.ensures) at c.in-Some.ensures.value) in
    ByLooks-map _ _
    (λ files. option_map (placed_chain (place_of files nodes seeking) nodes base)
    (first_found (is_there (place_of files nodes seeking)) nodes seeking.suffixes base own)
    ≡ c.in_ok-chain.chain)
    (λ files. choice files nodes seeking name ≡ c.in_ok-chain.chain)
    c.in_ok-chain.ensures.told
    (λ files is. choice-own files nodes seeking name own base c.in_ok-chain.chain suffix_is
    c.without_end.ensures is)
