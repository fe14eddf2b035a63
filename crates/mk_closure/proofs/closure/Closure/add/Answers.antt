use Rattle.std.proofs.Common.{◌≡◌, ◌<◌, [], ◌∷◌, ◌++◌, length, sym, subst, arith}
use Rattle.std.proofs.lemmas.Grind.{common_steps}
use Rattle.mk_closure.proofs.PartLemmas.{IsHeld-name}
use Rattle.mk_closure.specs.Parts.{State, open_part}
use Rattle.mk_pool.specs.declared.pool.TheConstants.{MAX_NAMES}
use Rattle.mk_closure.proofs.closure.Closure.add.Goals as goal

pub invariant_of-self-2 : goal.invariant_of-self-2
invariant_of-self-2 c =
    let added : c.intern.new.self ≡ c.self.inside.added ++ c.args.name.now ∷ [] =
    grind (arith, common_steps) in
    let parts : c.push.new.self.items ≡ c.self.inside.parts.items ++ open_part ∷ [] =
    grind (arith, common_steps) in
    let room : length c.self.inside.parts.items < MAX_NAMES =
    subst (λ (s : State). length s.parts < MAX_NAMES) (sym c.self.view_is) c.requires.room in
    rw (added, parts) (IsHeld-name (record {
      nodes = c.self.inside.graph.now;
      added = c.self.inside.added;
      parts = c.self.inside.parts.items;
    }) c.args.name.now c.self.invariant room)
