use Rattle.std.proofs.Common.{refl, arith}
use Rattle.std.proofs.lemmas.Result.{err_from_is_err_and}
use Rattle.mk_blocks.specs.Blocks.{parse}
use Rattle.mk_blocks.specs.Ties.{sorted}
use Rattle.mk_blocks.specs.declared.fault.FileFault.TheVariants.{TooManyLines}
use Rattle.mk_blocks.proofs.LineLemmas.{stop-counted, stop-full}
use Rattle.mk_blocks.proofs.FitLemmas.{Fits-behind, Fits-few, IsBehind-same}
use Rattle.mk_blocks.proofs.TieLemmas.{Does-here, Does-refuse, Does-want}
use Rattle.mk_blocks.proofs.looping.stop.Goals as goal

pub returns-in_err-count_line : goal.returns-in_err-count_line
returns-in_err-count_line g c =
    let ties = g.L.Language.ties in
    let p = err_from_is_err_and c.from_residual.result c.from_residual.ensures.1 in
    let place = c.args.place.now in
    rw (p.1, p.2) (record {
      does = λ line. Does-refuse ties sorted c.args.language.now TooManyLines TooManyLines _ refl
          (stop-full ties c.args.file.now place.loops place.depth line
          (parse ties.kind place.cursor)
          c.args.language.now c.args.count.now c.in_err-count_line.ensures.err);
      place = tt;
      falls = tt;
      later = tt;
    })

pub skip_block-requires : goal.skip_block-requires
skip_block-requires g c =
    let place = c.args.place.now in
    let few = Fits-few place.loops place.depth _ c.requires.fits in
    omega (arith, few)

pub returns-in_err-skip_block : goal.returns-in_err-skip_block
returns-in_err-skip_block g c =
    let p = err_from_is_err_and c.from_residual-in_err-skip_block.result
    c.from_residual-in_err-skip_block.ensures.1 in
    rw (p.1, p.2) (record {
      does = λ line. Does-want g.L.Language.ties sorted _ _ _ refl;
      place = tt;
      falls = tt;
      later = tt;
    })

pub returns-clause-does : goal.returns-clause-does
returns-clause-does g c = λ line.
    let ties = g.L.Language.ties in
    let place = c.args.place.now in
    Does-here ties sorted c.args.language.now _ _
    (stop-counted ties c.args.file.now place.loops place.depth line
    (parse ties.kind place.cursor)
    c.args.language.now c.args.count.now c.count_line.new.count c.in_ok-count_line.ensures.ok)

pub returns-clause-place : goal.returns-clause-place
returns-clause-place g c =
    let kind = g.L.Language.ties.kind in
    let place = c.args.place.now in
    record {
      behind = IsBehind-same kind place.loops place.depth _ _ c.in_ok-skip_block.ensures.behind
          c.requires.inside;
      fits = Fits-behind place.loops place.depth _ _ c.requires.fits
          (omega (arith, c.in_ok-skip_block.ensures.shorter));
    }
