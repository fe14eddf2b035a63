use Rattle.std.proofs.Common.{◌≡◌, ◌<◌, length, get_or, sym, ap, subst, arith}
use Rattle.std.proofs.lemmas.Grind.{common_steps}
use Rattle.mk_closure.proofs.PartLemmas.{IsHeld-with, IsGrown-with}
use Rattle.mk_closure.specs.Parts.{State, open_part, with_part, IsMade, IsGrown}
use Rattle.mk_closure.specs.declared.part.Part.{Part}
use Rattle.mk_closure.proofs.closure.Closure.make.Goals as goal

pub invariant_of-self : goal.invariant_of-self
invariant_of-self c =
    IsHeld-with (record {
      nodes = c.self.inside.graph.now;
      added = c.self.inside.added;
      parts = c.self.inside.parts.items;
    }) c.args.n (record { way = c.args.way; met = c.index_mut.result.now.met }) c.self.invariant
    (subst (λ (s : State). IsMade (length s.nodes) (length s.parts) c.args.way)
    (sym c.self.view_is) c.requires.made)

pub returns-clause-grown : goal.returns-clause-grown
returns-clause-grown c =
    let read : c.index_mut.result.now ≡ get_or c.self.inside.parts.items c.args.n open_part =
    grind (arith, common_steps) in
    let less : c.args.n < length c.self.inside.parts.items =
    subst (λ (s : State). c.args.n < length s.parts) (sym c.self.view_is) c.requires.within in
    let inside : State = record {
      nodes = c.self.inside.graph.now;
      added = c.self.inside.added;
      parts = c.self.inside.parts.items;
    } in
    let part : Part = record { way = c.args.way; met = c.index_mut.result.now.met } in
    subst (λ (s : State). IsGrown s (with_part inside c.args.n part)) c.self.view_is
    (IsGrown-with inside c.args.n part (ap (λ (p : Part). p.met) read) less)
