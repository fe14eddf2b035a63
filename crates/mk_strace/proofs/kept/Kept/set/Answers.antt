use Rattle.std.proofs.Common.{◌∙◌, ap}
use Rattle.mk_strace.specs.Held.{texts_in}
use Rattle.mk_strace.specs.Kept.{with_text}
use Rattle.mk_strace.proofs.KeptLemmas.{texts_in-updates}
use Rattle.mk_strace.proofs.kept.Kept.set.Goals as goal

pub returns : goal.returns
returns c =
    texts_in-updates c.args.self.now
    (record c.args.self.now { texts = c.insert.new.self })
    c.in_ok-process.process.items c.args.text c.in_ok-insert.ensures.updates
    ∙ ap (λ process. with_text (texts_in c.args.self.now) process c.args.text)
    c.in_ok-process.ensures.items
