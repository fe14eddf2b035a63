use Rattle.std.proofs.Common.{refl, arith}
use Rattle.std.proofs.lemmas.Result.{err_from_is_err_and}
use Rattle.mk_blocks.specs.Blocks.{parse}
use Rattle.mk_blocks.specs.Ties.{sorted}
use Rattle.mk_blocks.specs.declared.fault.FileFault.TheVariants.{TooManyLines}
use Rattle.mk_blocks.proofs.LineLemmas.{line-counted, line-full, line_next}
use Rattle.mk_blocks.proofs.FitLemmas.{Fits-less, IsInside-same}
use Rattle.mk_blocks.proofs.TieLemmas.{Does-refuse, first-err, first-ok}
use Rattle.mk_blocks.proofs.reading.plain_line.Goals as goal

pub returns-in_err-count_line : goal.returns-in_err-count_line
returns-in_err-count_line g c =
    let ties = g.L.Language.ties in
    let p = err_from_is_err_and c.from_residual.result c.from_residual.ensures.1 in
    let place = c.args.place.now in
    rw (p.1, p.2) (record {
      does = Does-refuse ties sorted c.args.language.now TooManyLines TooManyLines _ refl
          (line-full ties c.args.file.now place.loops place.depth c.args.line.now
          (parse ties.kind place.cursor)
          c.args.language.now c.args.count.now c.in_err-count_line.ensures.err);
      place = tt;
      falls = tt;
      later = tt;
    })

pub returns-in_err-step : goal.returns-in_err-step
returns-in_err-step g c =
    let ties = g.L.Language.ties in
    let p = err_from_is_err_and c.from_residual-in_err-step.result
    c.from_residual-in_err-step.ensures.1 in
    let place = c.args.place.now in
    let q = parse ties.kind place.cursor in
    rw (p.1, p.2) (record {
      does = first-err ties sorted
          (line_next ties c.args.file.now place.loops place.depth c.args.line.now q c.args.language.now
          c.args.count.now)
          (line-counted ties c.args.file.now place.loops place.depth c.args.line.now q
          c.args.language.now c.args.count.now c.count_line.new.count c.in_ok-count_line.ensures.ok)
          (c.in_err-step.ensures c.count_line.new.count);
      place = tt;
      falls = tt;
      later = tt;
    })

pub returns-clause-does : goal.returns-clause-does
returns-clause-does g c =
    let ties = g.L.Language.ties in
    let place = c.args.place.now in
    let q = parse ties.kind place.cursor in
    first-ok ties sorted
    (line_next ties c.args.file.now place.loops place.depth c.args.line.now q c.args.language.now
    c.args.count.now)
    (line-counted ties c.args.file.now place.loops place.depth c.args.line.now q
    c.args.language.now c.args.count.now c.count_line.new.count c.in_ok-count_line.ensures.ok)
    _ (λ answers. refl) (c.in_ok-step.ensures c.count_line.new.count)

pub returns-clause-place : goal.returns-clause-place
returns-clause-place g c =
    let place = c.args.place.now in
    record {
      inside = IsInside-same g.L.Language.ties.kind place.loops place.depth place.depth _ _ refl
          c.requires.inside;
      fits = Fits-less place.loops place.depth _ _ place.depth c.requires.fits (omega arith)
          (omega arith);
    }
