use Rattle.std.proofs.Common.{[], ◌∷◌, ◌∙◌, ap}
use Rattle.mk_suffix.proofs.WayLemmas.{ways_from-none}
use Rattle.mk_suffix.specs.Search.{own_way}
use Rattle.mk_suffix.specs.SearchView.{ways_from}
use Rattle.mk_suffix.proofs.step.Search.new.Goals as goal

pub returns : goal.returns
returns c =
    let first = own_way c.args.own.now ∷ [] in
    ap (ways_from first) c.in_ok-new.ensures.empty ∙ ways_from-none first
