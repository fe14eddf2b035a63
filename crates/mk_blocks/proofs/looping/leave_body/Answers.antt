use Rattle.std.proofs.Common.{◌+◌, length, refl, sym, ap, subst, ◌∙◌, arith}
use Rattle.std.proofs.lemmas.Result.{err_from_is_err_and}
use Rattle.mk_turns.specs.OpenLoops.{turns_behind}
use Rattle.mk_turns.proofs.TurnLemmas.{next-turns, other-turn}
use Rattle.mk_blocks.specs.Blocks.{parse}
use Rattle.mk_blocks.specs.Calls.{Begins, behind_left, files_in, left_in}
use Rattle.mk_blocks.specs.Runs.{after, run_at}
use Rattle.mk_blocks.specs.Places.{FitsBehind, IsBehind}
use Rattle.mk_blocks.specs.Ties.{sorted}
use Rattle.mk_blocks.specs.declared.fault.FileFault.TheVariants.{TooManyLines}
use Rattle.mk_blocks.proofs.LoopLemmas.{begun-place, ends-loop, ends-turn, turn-full, turn-left}
use Rattle.mk_blocks.proofs.FitLemmas.{Fits-few, Fits-less}
use Rattle.mk_blocks.proofs.PlaceLemmas.{outside-none}
use Rattle.mk_blocks.proofs.TieLemmas.{Does-here, Does-refuse, Does-want}
use Rattle.mk_blocks.proofs.looping.leave_body.Goals as goal

pub returns-in_default-clause-does : goal.returns-in_default-clause-does
returns-in_default-clause-does g c = λ file language.
    let ties = g.L.Language.ties in
    Does-here ties sorted language _ _
    (λ answers. rw c.in_default.ensures.none
    (outside-none (ties.meaning answers) (files_in ties file answers)
    file.name.now
    ties.kind (after c.args.goes_on (run_at (ties.state language) c.args.count.now))))

pub returns-in_err-count_line : goal.returns-in_err-count_line
returns-in_err-count_line g c =
    let ties = g.L.Language.ties in
    let place = c.args.place.now in
    let e = c.in-Some.entered in
    let outer = c.pop.new.self in
    let popped = c.in-Some.ensures.some in
    let more = sym c.has_next.ensures ∙ c.if-has_next.true in
    let p = err_from_is_err_and c.from_residual.result c.from_residual.ensures.1 in
    rw (p.1, p.2) (record {
      does = λ file language. Does-refuse ties sorted language TooManyLines TooManyLines _ refl
          (λ answers. ap (λ loops. behind_left ties file loops c.args.goes_on
          language
          c.args.count.now answers) popped
          ∙ ends-turn ties file e outer c.args.goes_on language c.args.count.now
          more answers
          ∙ turn-full ties file outer e.depth (parse ties.kind e.body) (turns_behind e) _ _
          language c.args.count.now (other-turn e c.args.goes_on more)
          c.in_err-count_line.ensures.err
          answers);
      place = tt;
      falls = tt;
      later = tt;
    })

pub returns-in_err-begin_turn : goal.returns-in_err-begin_turn
returns-in_err-begin_turn g c =
    let p = err_from_is_err_and c.from_residual-in_err-begin_turn.result
    c.from_residual-in_err-begin_turn.ensures.1 in
    rw (p.1, p.2) (record {
      does = λ file language. Does-want g.L.Language.ties sorted _ _ _ refl;
      place = tt;
      falls = tt;
      later = tt;
    })

pub returns-then-has_next-clause-does : goal.returns-then-has_next-clause-does
returns-then-has_next-clause-does g c = λ file language.
    let ties = g.L.Language.ties in
    let place = c.args.place.now in
    let e = c.in-Some.entered in
    let outer = c.pop.new.self in
    let popped = c.in-Some.ensures.some in
    let more = sym c.has_next.ensures ∙ c.if-has_next.true in
    Does-here ties sorted language _ _
    (λ answers. ap (λ loops. behind_left ties file loops c.args.goes_on
    language
    c.args.count.now answers) popped
    ∙ ends-turn ties file e outer c.args.goes_on language c.args.count.now
    more answers
    ∙ turn-left ties file outer e.depth e.body (turns_behind e) language
    c.args.count.now c.count_line.new.count c.in_ok-begin_turn.ensures refl c.next_turn.ensures.body
    c.next_turn.ensures.depth (next-turns e c.next_turn.result c.args.goes_on c.next_turn.ensures
    more)
    c.in_ok-count_line.ensures.ok answers)

pub returns-then-has_next-clause-place : goal.returns-then-has_next-clause-place
returns-then-has_next-clause-place g c =
    let ties = g.L.Language.ties in
    let place = c.args.place.now in
    let e = c.in-Some.entered in
    let outer = c.pop.new.self in
    let popped = c.in-Some.ensures.some in
    let behind = subst (λ loops. IsBehind ties.kind loops
    (parse ties.kind place.cursor)) popped c.requires.behind in
    let fits = subst (λ loops. FitsBehind loops (length place.cursor)) popped c.requires.fits in
    begun-place ties.kind c.in_ok-begin_turn.ensures
    (rw (c.next_turn.ensures.depth, c.next_turn.ensures.body) behind.1)
    (rw (c.next_turn.ensures.depth, c.next_turn.ensures.body) fits.1)

pub returns-then-has_next-clause-falls : goal.returns-then-has_next-clause-falls
returns-then-has_next-clause-falls g c =
    let ties = g.L.Language.ties in
    let place = c.args.place.now in
    let e = c.in-Some.entered in
    let outer = c.pop.new.self in
    let popped = c.in-Some.ensures.some in
    let behind = subst (λ loops. IsBehind ties.kind loops
    (parse ties.kind place.cursor)) popped c.requires.behind in
    let fits = subst (λ loops. FitsBehind loops (length place.cursor)) popped c.requires.fits in
    let few = Fits-few outer e.depth (length e.body + 1) fits.1 in
    let begins : Begins c.next_turn.result _ c.begin_turn.new.place = c.in_ok-begin_turn.ensures in
    let loops = ap length begins.loops in
    let cursor = ap length (begins.cursor ∙ c.next_turn.ensures.body) in
    omega (
      arith,
      few,
      loops,
      cursor,
      ap length popped,
      c.in_ok-count_line.ensures.ok.0,
      c.in_ok-count_line.ensures.ok.1,
    )

pub returns-clause-does : goal.returns-clause-does
returns-clause-does g c = λ file language.
    let ties = g.L.Language.ties in
    let place = c.args.place.now in
    let e = c.in-Some.entered in
    let outer = c.pop.new.self in
    let popped = c.in-Some.ensures.some in
    let behind = subst (λ loops. IsBehind ties.kind loops
    (parse ties.kind place.cursor)) popped c.requires.behind in
    let fits = subst (λ loops. FitsBehind loops (length place.cursor)) popped c.requires.fits in
    Does-here ties sorted language _ _
    (λ answers. ap (λ loops. behind_left ties file loops c.args.goes_on
    language
    c.args.count.now answers) popped
    ∙ ends-loop ties file e outer c.args.goes_on language c.args.count.now
    (sym c.has_next.ensures ∙ c.if-has_next.false) answers
    ∙ ap (λ q. left_in ties file outer e.depth q language c.args.count.now
    answers)
    (sym behind.0))

pub returns-clause-place : goal.returns-clause-place
returns-clause-place g c =
    let ties = g.L.Language.ties in
    let place = c.args.place.now in
    let e = c.in-Some.entered in
    let outer = c.pop.new.self in
    let popped = c.in-Some.ensures.some in
    let behind = subst (λ loops. IsBehind ties.kind loops
    (parse ties.kind place.cursor)) popped c.requires.behind in
    let fits = subst (λ loops. FitsBehind loops (length place.cursor)) popped c.requires.fits in
    record {
      inside = rw behind.0 behind.1;
      fits = Fits-less outer e.depth (length e.body + 1) (length place.cursor) e.depth fits.1
          (omega (arith, fits.0)) (omega (arith, fits.0));
    }
