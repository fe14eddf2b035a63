use Rattle.std.proofs.Common.{◌≡◌, ◌<◌, length, get_or, sym, ap, ◌∙◌, subst, arith}
use Rattle.std.proofs.lemmas.Grind.{common_steps}
use Rattle.mk_closure.proofs.PartLemmas.{AreMade-at, met_count-less}
use Rattle.mk_closure.specs.Parts.{State, open_part, met_count, IsMade}
use Rattle.mk_closure.specs.declared.part.Part.{Part}
use Rattle.mk_pool.specs.declared.pool.TheConstants.{MAX_NAMES}
use Rattle.mk_closure.proofs.closure.Closure.part.Goals as goal

pub returns-clause-made : goal.returns-clause-made
returns-clause-made c =
    let read : c.index.result.now ≡ get_or c.self.inside.parts.items c.args.n open_part =
    grind (arith, common_steps) in
    let nodes = length c.self.inside.graph.now in
    let names = length c.self.inside.parts.items in
    subst (λ (s : State). IsMade (length s.nodes) (length s.parts) c.index.result.now.way)
    c.self.view_is
    (subst (λ (p : Part). IsMade nodes names p.way) (sym read)
    (AreMade-at nodes names c.self.inside.parts.items c.args.n c.self.invariant.made))

pub returns-clause-room : goal.returns-clause-room
returns-clause-room c = λ new.
    let read : c.index.result.now ≡ get_or c.self.inside.parts.items c.args.n open_part =
    grind (arith, common_steps) in
    let within : c.args.n < length c.self.inside.parts.items =
    subst (λ (s : State). c.args.n < length s.parts) (sym c.self.view_is) c.requires in
    let less = met_count-less c.self.inside.parts.items c.args.n within
    (sym (ap (λ (p : Part). p.met) read) ∙ new) in
    let limit = c.self.invariant.limit in
    let room : met_count c.self.inside.parts.items < MAX_NAMES = omega (arith, less, limit) in
    subst (λ (s : State). met_count s.parts < MAX_NAMES) c.self.view_is room
