use Rattle.mk_graph.proofs.WhereLemmas.{found-all, missing-all}
use Rattle.mk_graph.proofs.graph.Graph.node_of.Goals as goal

pub returns-clause-found : goal.returns-clause-found
returns-clause-found c =
    found-all c.find.result c.args.self.now c.args.name.now c.len.ensures.graph c.find.ensures.value
    c.find.ensures.within

pub returns-clause-missing : goal.returns-clause-missing
returns-clause-missing c =
    missing-all c.find.result c.args.self.now c.args.name.now c.find.ensures.named
