use Rattle.std.proofs.lemmas.Result.{IfOk-weaker}
use Rattle.mk_blocks.proofs.nesting.take_line.Goals as goal

pub returns-in-ElseIf : goal.returns-in-ElseIf
returns-in-ElseIf c = rw c.in-ElseIf.is (c.branch-blocks.ensures c.args.number)

pub returns-in-Else : goal.returns-in-Else
returns-in-Else c =
    rw c.in-Else.is
    (IfOk-weaker c.last_branch.result _ _ (λ fault goes. goes c.args.number) c.last_branch.ensures)

pub returns-in-EndIf : goal.returns-in-EndIf
returns-in-EndIf c = rw c.in-EndIf.is (c.end_if.ensures c.args.number)

pub returns-in-EndFor : goal.returns-in-EndFor
returns-in-EndFor c = rw c.in-EndFor.is (c.end_for.ensures c.args.number)

pub returns-in-Break : goal.returns-in-Break
returns-in-Break c = rw c.in-Break.is (c.end_loop.ensures c.args.number)
