use Rattle.std.proofs.Common.{◌≡◌, ◌-◌, ◌<◌, ◌≤◌, ◌==◌, ◌||◌, ◌&&◌, not, ℕ, Bool, true, false, length, get_or, take, refl, arith}
use Rattle.std.proofs.lemmas.Bool.Decides.{nat_tests}
use Rattle.std.proofs.lemmas.Grind.{common_steps}
use Rattle.mk_decision.specs.Ages.{is_one_of}
use Rattle.mk_decision.proofs.RisingLemmas.{before_last, last-counts, none_behind, one-apart, rise-before}
use Rattle.mk_decision.proofs.wanted.without_last.Goals as goal

pub returns-in-len1-up-clause-rising : goal.returns-in-len1-up-clause-rising
returns-in-len1-up-clause-rising c =
    let some = c.in-len1-up.len_at_least in
    rise-before c.args.places.now (omega arith) c.requires.rising

pub returns-in-len1-up-clause-others : goal.returns-in-len1-up-clause-others
returns-in-len1-up-clause-others c = λ one.
    let places = c.args.places.now in
    let some = c.in-len1-up.len_at_least in
    let apart = one-apart places one (omega arith) in
    let is = c.if-last-place.true in
    let before = before_last places one (omega arith) c.requires.rising in
    by one (is_one_of (take (length places - 1) places) one) refl apart before (grind (arith, nat_tests, common_steps))
  where
    by : (one : ℕ) (b : Bool)
        → is_one_of (take (length c.args.places.now - 1) c.args.places.now) one ≡ b
        → is_one_of c.args.places.now one ≡ (is_one_of (take (length c.args.places.now - 1) c.args.places.now) one
        || (get_or c.args.places.now (length c.args.places.now - 1) 0 == one))
        → (is_one_of (take (length c.args.places.now - 1) c.args.places.now) one ≡ true
        → one < get_or c.args.places.now (length c.args.places.now - 1) 0)
        → get_or c.args.places.now (length c.args.places.now - 1) 0 ≡ c.args.place
        → is_one_of (take (length c.args.places.now - 1) c.args.places.now) one
        ≡ (is_one_of c.args.places.now one && not (c.args.place == one))
    by one true is apart before last =
        let low = before is in
        grind (arith, nat_tests, common_steps)
    by one false is apart before last = grind (arith, nat_tests, common_steps)

pub returns-in_default-2-clause-others : goal.returns-in_default-2-clause-others
returns-in_default-2-clause-others c = λ one.
    let places = c.args.places.now in
    let some = c.in-len1-up.len_at_least in
    let other = c.if-last-place.false in
    let low = c.requires.most (get_or places (length places - 1) 0) (last-counts places (omega arith)) in
    by one (is_one_of places one) refl (none_behind places one (omega arith) c.requires.rising)
    (omega (arith, low, other))
  where
    by : (one : ℕ) (b : Bool) → is_one_of c.args.places.now one ≡ b
        → (is_one_of c.args.places.now one ≡ true
        → one ≤ get_or c.args.places.now (length c.args.places.now - 1) 0)
        → get_or c.args.places.now (length c.args.places.now - 1) 0 < c.args.place
        → is_one_of c.args.places.now one ≡ (is_one_of c.args.places.now one && not (c.args.place == one))
    by one true is low less =
        let most = low is in
        grind (arith, nat_tests, common_steps)
    by one false is low less = grind (arith, nat_tests, common_steps)
