use Rattle.std.proofs.Common.{◌≡◌, ◌+◌, ◌∷◌, drop, Some, None, arith}
use Rattle.std.proofs.lemmas.Grind.{common_steps}
use Rattle.std.proofs.lemmas.List.{drop_all}
use Rattle.mk_dirs.proofs.LookLemmas.{OnErr-looked, ByLooks-map, ByLooks-then}
use Rattle.mk_dirs.proofs.PlaceLemmas.{first_below-next, first_below-hit, first_below-end}
use Rattle.mk_dirs.specs.Places.{found_below, first_below}
use Rattle.mk_dirs.proofs.places.first_below.Goals as goal

pub returns-in_err-path-clause-refused : goal.returns-in_err-path-clause-refused
returns-in_err-path-clause-refused g c =
    let all = c.args.dirs.now in
    OnErr-looked _ _ _ (ByLooks-then _ _ _
    (λ files. first_below files c.args.cwd.now all c.args.name.now
    ≡ first_below files c.args.cwd.now (drop c.loop-dir.dir-index all) c.args.name.now)
    (λ files. Unit {0}) (λ files. Unit {0})
    c.loop-dir.invariant.told c.in_err-path.ensures.refused (λ files first second. tt))

pub returns-in-Some-clause-told : goal.returns-in-Some-clause-told
returns-in-Some-clause-told g c =
    let all = c.args.dirs.now in
    let cwd = c.args.cwd.now in
    let name = c.args.name.now in
    let i = c.loop-dir.dir-index in
    let dir = c.bytes.result.now in
    let are : drop i all ≡ dir ∷ drop (i + 1) all = grind (arith, common_steps) in
    let told = rw c.in-Some.is at c.in_ok-path.ensures.told in
    ByLooks-then _ _ _
    (λ files. first_below files cwd all name ≡ first_below files cwd (drop i all) name)
    (λ files. Some c.in-Some.path ≡ found_below files cwd dir name)
    (λ files. Some c.in-Some.path ≡ first_below files cwd all name)
    c.loop-dir.invariant.told told
    (λ files so_far is. first_below-hit files cwd name all (drop i all) so_far dir
    (drop (i + 1) all) c.in-Some.path are is)

pub loop-dir-preserved : goal.loop-dir-preserved
loop-dir-preserved g c =
    let all = c.args.dirs.now in
    let cwd = c.args.cwd.now in
    let name = c.args.name.now in
    let i = c.loop-dir.dir-index in
    let dir = c.bytes.result.now in
    let are : drop i all ≡ dir ∷ drop (i + 1) all = grind (arith, common_steps) in
    let told = rw c.in_default.is at c.in_ok-path.ensures.told in
    record {
      idle = c.in_ok-path.ensures.idle;
      told = ByLooks-then _ _ _
          (λ files. first_below files cwd all name ≡ first_below files cwd (drop i all) name)
          (λ files. None ≡ found_below files cwd dir name)
          (λ files. first_below files cwd all name ≡ first_below files cwd (drop (i + 1) all) name)
          c.loop-dir.invariant.told told
          (λ files so_far is. first_below-next files cwd name all (drop i all) so_far dir
          (drop (i + 1) all) are is);
      faults = grind (arith, common_steps);
    }

pub returns-clause-told : goal.returns-clause-told
returns-clause-told g c =
    let all = c.args.dirs.now in
    let cwd = c.args.cwd.now in
    let name = c.args.name.now in
    let i = c.loop-dir.dir-index in
    ByLooks-map _ _
    (λ files. first_below files cwd all name ≡ first_below files cwd (drop i all) name)
    (λ files. None ≡ first_below files cwd all name)
    c.loop-dir.invariant.told
    (λ files so_far. first_below-end files cwd name all (drop i all) so_far
    (drop_all i all (omega arith)))
