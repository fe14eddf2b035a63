use Rattle.std.proofs.Common.{sym, ◌∙◌, ap, arith}
use Rattle.mk_suffix.proofs.WayLemmas.{as_many_ways, own_way_is, way_is}
use Rattle.mk_suffix.specs.Chains.{first_of}
use Rattle.mk_suffix.specs.Search.{Way, way_at}
use Rattle.mk_suffix.proofs.step.Search.suffix.Goals as goal

pub returns-then-at-eq0 : goal.returns-then-at-eq0
returns-then-at-eq0 c =
    let ways = c.args.self.now in
    let first = own_way_is c.self.inside.own.now c.self.inside.steps ways c.self.invariant
    c.self.view_is in
    sym (ap (λ at. first_of (way_at ways at).suffixes) c.if-at-eq0.true
    ∙ ap (λ (way : Way). first_of way.suffixes) first)

pub get-requires : goal.get-requires
get-requires c =
    let many = as_many_ways c.self.inside.own.now c.self.inside.steps c.args.self.now
    c.self.invariant c.self.view_is in
    omega (arith, many, c.requires, c.if-at-eq0.false)

pub returns : goal.returns
returns c =
    let at = way_is c.self.inside.own.now c.self.inside.steps c.args.self.now c.self.invariant
    c.self.view_is c.args.at c.get.result.now c.if-at-eq0.false c.requires c.get.ensures in
    sym (ap (λ (way : Way). first_of way.suffixes) at)
