use Rattle.std.proofs.Common.{refl, arith}
use Rattle.mk_rules.proofs.FoldLemmas.{ruled_grown}
use Rattle.mk_rules.proofs.KeepLemmas.{passed-commanded}
use Rattle.mk_rules.specs.View.{ruled_in}
use Rattle.mk_rules.proofs.rules.Rules.add_command.Goals as goal

pub invariant_of-self-2 : goal.invariant_of-self-2
invariant_of-self-2 c =
    let inside = c.self.inside in
    let graph = c.add_to_all.new.graph in (
      ruled_grown
          (ruled_in inside.graph inside.suffixes inside.paths inside.main inside.targets
          inside.everywhere inside.one_job inside.delete_on_error inside.group.keys)
          (ruled_in graph inside.suffixes inside.paths inside.main inside.targets
          inside.everywhere inside.one_job inside.delete_on_error inside.group.keys)
          c.self.invariant.0 (omega (arith, c.in_ok-add_to_all.ensures.length)) refl refl,
      rw (c.in_ok-add_to_all.ensures.ok)
          (passed-commanded c.args.text.now inside.graph inside.targets c.as_slice.result.now
          inside.passed c.self.invariant.0.targets c.self.invariant.1),
    )
