use Rattle.std.proofs.Common.{◌^◌, ◌<◌, List, ℕ, IsTrue, codes, sym, subst, ◌∙◌, arith}
use Rattle.mk_bytes.specs.declared.pair.Pair.{Pair}
use Rattle.mk_memworld.specs.Base.{are_clean}
use Rattle.mk_generate.proofs.CleanLemmas.{files-clean}
use Rattle.mk_generate.proofs.inside.new_world.Goals as goal

pub new-requires-3-clause-clean : goal.new-requires-3-clause-clean
new-requires-3-clause-clean c =
    let few : c.args.n < 2 ^ 32 = omega arith in
    let directory = c.cwd.view_is ∙ c.in_ok-cwd.ensures in
    let P : List ℕ → List Pair → Type 0 = λ cwd files. IsTrue (are_clean cwd files) in
    subst (λ cwd. P cwd c.in_ok-files.field-0) (sym directory)
    (subst (P (codes "/w")) (sym c.in_ok-files.ensures) (files-clean c.args.n few))
