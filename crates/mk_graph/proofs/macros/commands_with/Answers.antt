use Rattle.mk_graph.proofs.MacroLemmas.{all_commands-joined}
use Rattle.mk_graph.specs.Macros.{macros_of}
use Rattle.mk_graph.proofs.macros.commands_with.Goals as goal

pub returns : goal.returns
returns c =
    all_commands-joined (macros_of c.args.nodes.now) c.args.own.now c.args.taken.now
    c.in_ok-commands.commands c.push_all_before.new.commands c.push_copies.new.texts
    c.push_all_behind.new.commands c.as_slice-2.result.now c.as_slice.result.now
    c.as_slice-3.result.now c.in_ok-commands.ensures.empty c.in_ok-push_all_before.ensures
    c.in_ok-push_copies.ensures c.in_ok-push_all_behind.ensures c.as_slice.ensures.value
    c.as_slice-2.ensures.value c.as_slice-3.ensures.value
