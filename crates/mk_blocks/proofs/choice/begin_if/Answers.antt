use Rattle.std.proofs.Common.{◌≡◌, refl, ap, ◌∙◌, arith, add-one}
use Rattle.std.proofs.lemmas.Result.{err_from_is_err_and}
use Rattle.mk_blocks.specs.Blocks.{closed, parse}
use Rattle.mk_blocks.specs.Calls.{files_in}
use Rattle.mk_blocks.specs.Places.{outside}
use Rattle.mk_blocks.specs.Skips.{outside_of}
use Rattle.mk_blocks.specs.Ties.{sorted}
use Rattle.mk_blocks.proofs.FitLemmas.{Fits-few, Fits-less, IsInside-same}
use Rattle.mk_blocks.proofs.TieLemmas.{Does-bind, Does-err, Does-ok}
use Rattle.mk_blocks.proofs.choice.begin_if.Goals as goal

pub choose-requires : goal.choose-requires
choose-requires g c =
    let place = c.args.place.now in
    let few = Fits-few place.loops place.depth _ c.requires.fits in
    omega (arith, few)

pub returns-in_err-place : goal.returns-in_err-place
returns-in_err-place g c =
    let ties = g.L.Language.ties in
    let loops = c.args.place.now.loops in
    let p = err_from_is_err_and c.from_residual.result c.from_residual.ensures.1 in
    rw (p.1, p.2) (record {
      does = Does-err ties sorted (Does-bind ties sorted
          (λ answers. outside (ties.meaning answers) (files_in ties c.args.file.now answers)
          c.args.file.now.name.now ties.kind loops) c.in_err-place.ensures.does);
      place = tt;
      falls = tt;
      later = tt;
    })

pub returns-clause-does : goal.returns-clause-does
returns-clause-does g c =
    let ties = g.L.Language.ties in
    let loops = c.args.place.now.loops in
    Does-ok ties sorted _ (λ answers. refl) (Does-bind ties sorted
    (λ answers. outside (ties.meaning answers) (files_in ties c.args.file.now answers)
    c.args.file.now.name.now ties.kind loops) c.in_ok-place.ensures.does)

pub returns-clause-place : goal.returns-clause-place
unfolding outside_of
returns-clause-place g c =
    let kind = g.L.Language.ties.kind in
    let place = c.args.place.now in
    let q = parse kind place.cursor in
    let same : closed (outside_of c.in_ok-place.field-0 (parse kind c.choose.new.cursor).endings)
    ≡ closed (outside_of place.depth (closed q.endings).endings) =
    ap closed (c.in_ok-place.ensures.behind ∙ rw add-one refl) in
    record {
      inside = IsInside-same kind place.loops place.depth _ _ _ same c.requires.inside;
      fits = Fits-less place.loops place.depth _ _ _ c.requires.fits
          (omega (arith, c.in_ok-place.ensures.inner, c.in_ok-place.ensures.shorter))
          (omega (arith, c.in_ok-place.ensures.shorter));
    }
