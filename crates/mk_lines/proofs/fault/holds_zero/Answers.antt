use Rattle.std.proofs.Common.{◌∙◌}
use Rattle.mk_lines.proofs.CommentLemmas.{list_any-found}
use Rattle.mk_lines.proofs.fault.holds_zero.Goals as goal

pub returns : goal.returns
returns c = c.is_some.ensures ∙ list_any-found 0 c.args.line.now c.memchr.result c.memchr.ensures
