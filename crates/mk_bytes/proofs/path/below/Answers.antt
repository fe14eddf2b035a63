use Rattle.std.proofs.Common.{◌<◌, drop, length, sym, ◌∙◌, arith}
use Rattle.std.proofs.lemmas.Grind.{common_steps}
use Rattle.mk_bytes.specs.Paths.{seen}
use Rattle.mk_bytes.proofs.PathLemmas.{below-no_names}
use Rattle.mk_bytes.proofs.path.below.Goals as goal

pub returns-in_default : goal.returns-in_default
returns-in_default c =
    let l = c.loop-name in
    let left = seen (drop l.name-index c.args.dir.now) in
    let some : 0 < length left = grind (arith, common_steps) in
    let none : length (seen l.rest.now) < 1 = grind (arith, common_steps) in
    sym (below-no_names left (seen l.rest.now) some none) ∙ l.invariant
