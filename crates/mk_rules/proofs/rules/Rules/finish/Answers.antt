use Rattle.mk_rules.proofs.rules.Rules.finish.Goals as goal

pub end_graph-main-requires : goal.end_graph-main-requires
end_graph-main-requires c = c.self.invariant.0.targets
