use Rattle.std.proofs.Common.{[], refl, sym, ◌∙◌, ap}
use Rattle.std.proofs.lemmas.List.{append-nil, drop_all}
use Rattle.fmrun.specs.Deeds.{are_looks}
use Rattle.fmrun.proofs.look.look_at_all.Goals as goal

-- behind the last path there is no look more
pub returns : goal.returns
returns g c =
    let looks = c.args.looks.now in
    ap (λ sights. are_looks looks sights) (sym (append-nil c.loop-path.sights))
    ∙ c.loop-path.invariant []
    ∙ rw (drop_all c.loop-path.path-index looks c.loop-path-test.false) refl
