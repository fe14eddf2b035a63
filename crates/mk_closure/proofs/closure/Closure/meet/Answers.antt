use Rattle.std.proofs.Common.{◌≡◌, ◌∙◌, ◌+◌, ◌<◌, true, false, length, get_or, refl, sym, ap, subst, arith}
use Rattle.std.proofs.lemmas.Grind.{common_steps}
use Rattle.mk_closure.proofs.PartLemmas.{AreMade-at, IsHeld-with, met_count-more}
use Rattle.mk_closure.specs.Parts.{State, open_part, part_at, met_count, IsMade}
use Rattle.mk_closure.specs.declared.part.Part.{Part}
use Rattle.mk_closure.proofs.closure.Closure.meet.Goals as goal

pub invariant_of-self : goal.invariant_of-self
invariant_of-self c =
    let read : c.index_mut.result.now ≡ get_or c.self.inside.parts.items c.args.n open_part =
    grind (arith, common_steps) in
    let nodes = length c.self.inside.graph.now in
    let names = length c.self.inside.parts.items in
    IsHeld-with (record {
      nodes = c.self.inside.graph.now;
      added = c.self.inside.added;
      parts = c.self.inside.parts.items;
    }) c.args.n (record { way = c.index_mut.result.now.way; met = true }) c.self.invariant
    (subst (λ (p : Part). IsMade nodes names p.way) (sym read)
    (AreMade-at nodes names c.self.inside.parts.items c.args.n c.self.invariant.made))

pub returns-clause-count : goal.returns-clause-count
returns-clause-count c =
    let less : c.args.n < length c.self.inside.parts.items =
    subst (λ (s : State). c.args.n < length s.parts) (sym c.self.view_is) c.requires.within in
    let new : (get_or c.self.inside.parts.items c.args.n open_part).met ≡ false =
    subst (λ (s : State). (part_at s c.args.n).met ≡ false) (sym c.self.view_is) c.requires.new in
    met_count-more c.self.inside.parts.items c.args.n
    (record { way = c.index_mut.result.now.way; met = true }) refl new less
    ∙ ap (λ (s : State). 1 + met_count s.parts) c.self.view_is
