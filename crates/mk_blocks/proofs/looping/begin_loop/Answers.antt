use Rattle.std.proofs.Common.{refl}
use Rattle.std.proofs.lemmas.Result.{err_from_is_err_and}
use Rattle.mk_blocks.specs.Blocks.{parse}
use Rattle.mk_blocks.specs.Ties.{sorted}
use Rattle.mk_blocks.specs.declared.fault.FileFault.TheVariants.{TooManyLines}
use Rattle.mk_blocks.proofs.LineLemmas.{for-counted, for-full, for_next}
use Rattle.mk_blocks.proofs.FitLemmas.{IsInside-same}
use Rattle.mk_blocks.proofs.TieLemmas.{Does-err, Does-ok, Does-refuse, first-err, first-then}
use Rattle.mk_blocks.proofs.looping.begin_loop.Goals as goal

pub returns-in_err-count_line : goal.returns-in_err-count_line
returns-in_err-count_line g c =
    let ties = g.L.Language.ties in
    let place = c.args.place.now in
    let p = err_from_is_err_and c.from_residual.result c.from_residual.ensures.1 in
    rw (p.1, p.2) (record {
      does = Does-refuse ties sorted c.args.language.now TooManyLines TooManyLines _ refl
          (for-full ties c.args.file.now place.loops place.depth c.args.line.now
          (parse ties.kind place.cursor)
          c.args.language.now c.args.count.now c.in_err-count_line.ensures.err);
      place = tt;
      falls = tt;
      later = tt;
    })

pub returns-in_err-header : goal.returns-in_err-header
returns-in_err-header g c =
    let ties = g.L.Language.ties in
    let place = c.args.place.now in
    let q = parse ties.kind place.cursor in
    let p = err_from_is_err_and c.from_residual-in_err-header.result
    c.from_residual-in_err-header.ensures.1 in
    rw (p.1, p.2) (record {
      does = first-err ties sorted
          (for_next ties c.args.file.now place.loops place.depth c.args.line.now q c.args.language.now
          c.args.count.now)
          (for-counted ties c.args.file.now place.loops place.depth c.args.line.now q c.args.language.now
          c.args.count.now c.count_line.new.count c.in_ok-count_line.ensures.ok)
          (c.in_err-header.ensures c.count_line.new.count);
      place = tt;
      falls = tt;
      later = tt;
    })

pub enter_loop-requires-clause-inside : goal.enter_loop-requires-clause-inside
enter_loop-requires-clause-inside g c =
    let place = c.args.place.now in
    IsInside-same g.L.Language.ties.kind place.loops place.depth place.depth _ _ refl
    c.requires.inside

pub returns-in_err-enter_loop : goal.returns-in_err-enter_loop
returns-in_err-enter_loop g c =
    let ties = g.L.Language.ties in
    let place = c.args.place.now in
    let q = parse ties.kind place.cursor in
    let p = err_from_is_err_and c.from_residual-in_err-enter_loop.result
    c.from_residual-in_err-enter_loop.ensures.1 in
    rw (p.1, p.2) (record {
      does = first-then ties sorted
          (for_next ties c.args.file.now place.loops place.depth c.args.line.now q c.args.language.now
          c.args.count.now)
          (for-counted ties c.args.file.now place.loops place.depth c.args.line.now q c.args.language.now
          c.args.count.now c.count_line.new.count c.in_ok-count_line.ensures.ok)
          (c.in_ok-header.ensures c.count_line.new.count)
          (Does-err ties sorted c.in_err-enter_loop.ensures.does);
      place = tt;
      falls = tt;
      later = tt;
    })

pub returns-clause-does : goal.returns-clause-does
returns-clause-does g c =
    let ties = g.L.Language.ties in
    let place = c.args.place.now in
    let q = parse ties.kind place.cursor in
    first-then ties sorted
    (for_next ties c.args.file.now place.loops place.depth c.args.line.now q c.args.language.now
    c.args.count.now)
    (for-counted ties c.args.file.now place.loops place.depth c.args.line.now q c.args.language.now
    c.args.count.now c.count_line.new.count c.in_ok-count_line.ensures.ok)
    (c.in_ok-header.ensures c.count_line.new.count)
    (Does-ok ties sorted _ (λ answers. refl) c.in_ok-enter_loop.ensures.does)
