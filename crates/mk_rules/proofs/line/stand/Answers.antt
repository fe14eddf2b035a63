use Rattle.std.proofs.Common.{◌≡◌, length}
use Rattle.std.proofs.lemmas.List.{length-set}
use Rattle.mk_rules.proofs.FoldLemmas.{below_listed}
use Rattle.mk_rules.proofs.line.stand.Goals as goal

pub returns-clause-within : goal.returns-clause-within
returns-clause-within c =
    let same : length c.mark.new.self ≡ length c.args.graph.now =
    rw c.mark.ensures.value (length-set _ _ _) in
    rw (same, c.in_ok-list.ensures.ok)
    (below_listed c.args.listed (length c.args.graph.now) c.args.n c.args.stood.now
    c.requires.stood c.requires.node)
