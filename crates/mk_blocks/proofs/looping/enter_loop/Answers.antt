use Rattle.std.proofs.Common.{◌<◌, refl, sym, ◌∙◌, arith}
use Rattle.std.proofs.lemmas.Result.{err_from_is_err_and}
use Rattle.mk_turns.specs.Turns.{turn_count}
use Rattle.mk_turns.proofs.TurnLemmas.{turns-first}
use Rattle.mk_blocks.specs.Blocks.{parse}
use Rattle.mk_blocks.specs.Skips as skips
use Rattle.mk_blocks.specs.Ties.{sorted}
use Rattle.mk_blocks.specs.declared.fault.FileFault.TheVariants.{TooManyLines}
use Rattle.mk_blocks.proofs.LoopLemmas.{begun-place, no-turns, turn-full, turn-left}
use Rattle.mk_blocks.proofs.FitLemmas.{Fits-few, Fits-less}
use Rattle.mk_blocks.proofs.TieLemmas.{Does-here, Does-refuse, Does-want}
use Rattle.mk_blocks.proofs.looping.enter_loop.Goals as goal

pub skip_block-requires : goal.skip_block-requires
skip_block-requires g c =
    let place = c.args.place.now in
    let few = Fits-few place.loops place.depth _ c.requires.fits in
    omega (arith, few)

pub returns-in_err-skip_block : goal.returns-in_err-skip_block
returns-in_err-skip_block g c =
    let p = err_from_is_err_and c.from_residual.result c.from_residual.ensures.1 in
    rw (p.1, p.2) (record {
      does = Does-want g.L.Language.ties sorted _ _ _ refl;
      place = tt;
      falls = tt;
      later = tt;
    })

pub returns-then-turn_count-eq0-clause-does : goal.returns-then-turn_count-eq0-clause-does
unfolding skips.outside_of
returns-then-turn_count-eq0-clause-does g c =
    let ties = g.L.Language.ties in
    let place = c.args.place.now in
    let q = parse ties.kind place.cursor in
    Does-here ties sorted c.args.language.now _ _
    (λ answers. rw c.in_ok-skip_block.ensures.behind
    (no-turns ties c.args.file.now place.loops place.depth q c.args.header.names c.args.header.words
    c.args.language.now c.args.count.now (sym c.turn_count.ensures
    ∙ c.if-turn_count-eq0.true) answers))

pub returns-then-turn_count-eq0-clause-place : goal.returns-then-turn_count-eq0-clause-place
unfolding skips.outside_of
returns-then-turn_count-eq0-clause-place g c =
    let place = c.args.place.now in
    record {
      inside = rw c.in_ok-skip_block.ensures.behind c.requires.inside;
      fits = Fits-less place.loops place.depth _ _ place.depth c.requires.fits
          (omega (arith, c.in_ok-skip_block.ensures.shorter)) (omega
          (arith, c.in_ok-skip_block.ensures.shorter));
    }

pub returns-in-Err : goal.returns-in-Err
returns-in-Err g c =
    let ties = g.L.Language.ties in
    let place = c.args.place.now in
    let some : 0 < turn_count c.args.header.names c.args.header.words =
    omega (arith, c.turn_count.ensures, c.if-turn_count-eq0.false) in
    record {
      does = Does-refuse ties sorted c.args.language.now TooManyLines TooManyLines _ refl
          (turn-full ties c.args.file.now place.loops place.depth (parse ties.kind place.cursor) _ _
          _
          c.args.language.now c.args.count.now
          (turns-first c.args.header.names c.args.header.words some)
          (rw c.in-Err.is at c.count_line.ensures.err));
      place = tt;
      falls = tt;
      later = tt;
    }

pub returns-in_err-begin_turn : goal.returns-in_err-begin_turn
returns-in_err-begin_turn g c =
    let p = err_from_is_err_and c.from_residual-in_err-begin_turn.result
    c.from_residual-in_err-begin_turn.ensures.1 in
    rw (p.1, p.2) (record {
      does = Does-want g.L.Language.ties sorted _ _ _ refl;
      place = tt;
      falls = tt;
      later = tt;
    })

pub returns-clause-does : goal.returns-clause-does
returns-clause-does g c =
    let ties = g.L.Language.ties in
    let place = c.args.place.now in
    let some : 0 < turn_count c.args.header.names c.args.header.words =
    omega (arith, c.turn_count.ensures, c.if-turn_count-eq0.false) in
    Does-here ties sorted c.args.language.now _ _
    (turn-left ties c.args.file.now place.loops place.depth place.cursor _ c.args.language.now
    c.args.count.now c.count_line.new.count c.in_ok-begin_turn.ensures refl c.copy.ensures refl
    (turns-first c.args.header.names c.args.header.words some)
    (rw c.in_default.is at c.count_line.ensures.ok))

pub returns-clause-place : goal.returns-clause-place
returns-clause-place g c =
    let ties = g.L.Language.ties in
    begun-place ties.kind c.in_ok-begin_turn.ensures
    (rw c.copy.ensures c.requires.inside) (rw c.copy.ensures c.requires.fits)
