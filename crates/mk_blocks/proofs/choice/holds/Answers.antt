use Rattle.std.proofs.Common.{refl}
use Rattle.std.proofs.lemmas.Result.{err_from_is_err_and}
use Rattle.mk_blocks.specs.Ties.{sorted}
use Rattle.mk_blocks.specs.declared.fault.FileFault.TheVariants.{TooManyLines}
use Rattle.mk_blocks.proofs.RunLemmas.{counted-then, counted-not}
use Rattle.mk_blocks.proofs.TieLemmas.{Does-is, Does-refuse}
use Rattle.mk_blocks.proofs.choice.holds.Goals as goal

pub returns-in_err-count_line : goal.returns-in_err-count_line
returns-in_err-count_line g c =
    let ties = g.L.Language.ties in
    let language = c.args.language.now in
    let p = err_from_is_err_and c.from_residual.result c.from_residual.ensures.1 in
    rw (p.1, p.2) (record {
      does = Does-refuse ties sorted language TooManyLines TooManyLines _ refl
          (λ answers. counted-not (ties.state language) c.args.count.now _
          c.in_err-count_line.ensures.err);
      later = tt;
    })

pub returns-clause-does : goal.returns-clause-does
returns-clause-does g c =
    let ties = g.L.Language.ties in
    Does-is ties sorted _
    (λ answers. counted-then (ties.state c.args.language.now) c.args.count.now
    c.count_line.new.count _ c.in_ok-count_line.ensures.ok)
    (c.condition.ensures c.count_line.new.count)
