use Rattle.std.proofs.Common.{◌≡◌, ◌∙◌, ◌∷◌, ◌++◌, true, sym, ap, arith}
use Rattle.std.proofs.lemmas.Grind.{common_steps}
use Rattle.std.specs.List.{list_all}
use Rattle.mk_bytes.proofs.PathLemmas.{clean-names}
use Rattle.mk_bytes.specs.Bytes.{slash}
use Rattle.mk_bytes.specs.Paths.{clean, is_name, names_on}
use Rattle.mk_dirs.proofs.places.below.Goals as goal

pub returns-then-are_names : goal.returns-then-are_names
returns-then-are_names c =
    let path = c.push_both.new.self in
    let is : path ≡ c.args.dir.now ++ slash ∷ c.args.name.now = grind (arith, common_steps) in
    let names : list_all is_name (names_on path) ≡ true = grind (arith, common_steps) in
    sym (ap (clean c.args.cwd.now) (sym is) ∙ clean-names c.args.cwd.now path names)
