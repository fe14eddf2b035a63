-- How deep a condition is that a text is written by.
use Rattle.std.proofs.Common.{inl, inr, ℕ, zero, suc, ◌+◌, ◌*◌, ◌≤◌, Bool, true, false, List, []}
use Rattle.std.proofs.Common.{Option, Some, None, nat_le, arith}
use Rattle.std.proofs.lemmas.Bool.{cond_both}
use Rattle.mk_ast.specs.Tree.{Tree}
use Rattle.mk_cond.specs.Cond.{Cond, Conds, Side, no_more, cond_then}
use Rattle.mk_cond.specs.Conditions.{joined, max_open}
use Rattle.mk_cond.specs.Depth.{larger, depth, depth_among}
use Rattle.mk_cond.specs.Grammar.{Rule, IsBoth, IsSides, IsAsked, IsCall}
use Rattle.mk_cond.specs.Grammar.{IsSidesOrWord, IsTermOf, IsTerm, IsMore, IsJoined, IsPartOf, IsOr}
use Rattle.mk_cond.specs.Grammar.{IsNegated, IsUnit, IsCondition}
use Rattle.mk_cond.specs.Terms.{called, begins_side, skip_blanks, asked}
use Rattle.mk_cond.specs.declared.cond.Form.{Form}
use Rattle.mk_cond.specs.declared.cond.Form.TheVariants as form
use Rattle.mk_cond.specs.declared.cond.Fun.{Fun}
use Rattle.mk_cond.specs.declared.read.Joint.{Joint}
use Rattle.mk_cond.specs.declared.read.Joint.TheVariants.{Or, And}

larger-within : (m n most : ℕ) → m ≤ most → n ≤ most → larger m n ≤ most
larger-within m n most first second =
    cond_both (nat_le m n) n m (λ k. k ≤ most) (λ _. second) (λ _. first)

-- what a rule gives is so deep at most
abbrev Within : Rule → ℕ → Type 0
Within Is most = (c : Cond) (bytes rest : List ℕ) → Is c bytes rest → depth c ≤ most

both-within : (left : Side) → Within (IsBoth left) 0
unfolding depth
both-within left c bytes rest is = rw is.3 (omega arith)

asked-within : (f : Form) (word : Tree) → depth (asked f word) ≤ 1
unfolding depth
asked-within form.If word = omega arith
asked-within form.Def word = omega arith
asked-within form.Ndef word = omega arith
asked-within form.Make word = omega arith
asked-within form.Nmake word = omega arith
asked-within form.Inner word = omega arith

sides-within : Within IsSides 1
unfolding depth
sides-within c bytes rest (left, behind, side, inl is) =
    let none = both-within left c behind rest is in omega (arith, none)
sides-within c bytes rest (left, behind, side, inr is) = rw is.0 (omega arith)

answered-within : (f : Form) (word : Tree) → Within (IsAsked f word) 1
answered-within form.If word c bytes rest is = rw is.0 (asked-within form.If word)
answered-within form.Def word c bytes rest is = rw is.0 (asked-within form.Def word)
answered-within form.Ndef word c bytes rest is = rw is.0 (asked-within form.Ndef word)
answered-within form.Make word c bytes rest is = rw is.0 (asked-within form.Make word)
answered-within form.Nmake word c bytes rest is = rw is.0 (asked-within form.Nmake word)
answered-within form.Inner word c bytes rest (inl is) =
    let none = both-within _ c bytes rest is in omega (arith, none)
answered-within form.Inner word c bytes rest (inr is) = rw is.0 (asked-within form.Inner word)

call-within : (fun : Fun) → Within (IsCall fun) 1
unfolding depth
call-within fun c bytes rest is = rw is.1 (omega arith)

side_or_word-within : (f : Form) (b : Bool) → Within (IsSidesOrWord f b) 1
side_or_word-within f true c bytes rest is = sides-within c bytes rest is
side_or_word-within f false c bytes rest is = answered-within f is.0 c is.1 rest is.3

term_of-within : (f : Form) (r : Option Fun) → Within (IsTermOf f r) 1
term_of-within f (Some fun) c bytes rest is = call-within fun c bytes rest is
term_of-within f None c bytes rest is =
    side_or_word-within f (begins_side bytes) c bytes rest is

term-within : (f : Form) → Within (IsTerm f) 1
term-within f c bytes rest is = term_of-within f (called bytes) c bytes rest is.2

more-within : (joint : Joint) (Parts : Rule) (most : ℕ) → Within Parts most
    → (conds : Conds) (bytes rest : List ℕ) → IsMore joint Parts conds bytes rest
    → depth_among conds ≤ most
unfolding depth
more-within joint Parts most within no_more bytes rest is = omega arith
more-within joint Parts most within (cond_then c conds) bytes rest is =
    larger-within (depth c) (depth_among conds) most
    (within c is.0 is.1 is.3)
    (more-within joint Parts most within conds (skip_blanks is.1) rest is.4)

joined-deep : (joint : Joint) (first : Cond) (more : Conds) (most : ℕ) → depth first ≤ most
    → depth_among more ≤ most → depth (joined joint first more) ≤ most + 1
unfolding depth
joined-deep joint first no_more most one others = omega (arith, one)
joined-deep Or first (cond_then c more) most one others =
    let all = larger-within (depth first) (depth_among (cond_then c more)) most one others in
    omega (arith, all)
joined-deep And first (cond_then c more) most one others =
    let all = larger-within (depth first) (depth_among (cond_then c more)) most one others in
    omega (arith, all)

joined-within : (joint : Joint) (Parts : Rule) (most : ℕ) → Within Parts most
    → Within (IsJoined joint Parts) (most + 1)
joined-within joint Parts most within c bytes rest is =
    let one = within is.0 bytes is.2 is.4 in
    let others = more-within joint Parts most within is.1 (skip_blanks is.2) rest is.5 in
    rw is.3 (joined-deep joint is.0 is.1 most one others)

or-within : (Units : Rule) (most : ℕ) → Within Units most → Within (IsOr Units) (most + 2)
or-within Units most within c bytes rest is =
    let deep = joined-within Or (IsPartOf Or Units) (most + 1)
    (joined-within And Units most within) c bytes rest is in
    omega (arith, deep)

negated-within : (Units : Rule) (most : ℕ) → Within Units most → Within (IsNegated Units) (most + 1)
unfolding depth
negated-within Units most within c bytes rest is =
    let inner = within is.0 is.1 rest is.4 in rw is.2 (omega (arith, inner))

unit-within : (f : Form) (room : ℕ) → Within (IsUnit f room) (2 * room + 1)
unfolding IsUnit
unit-within f zero c bytes rest is = term-within f c (skip_blanks bytes) rest is
unit-within f (suc room) c bytes rest (inl is) =
    let deep = term-within f c (skip_blanks bytes) rest is in omega (arith, deep)
unit-within f (suc room) c bytes rest (inr (inl is)) =
    let deep = negated-within (IsUnit f room) (2 * room + 1) (unit-within f room) c
    (skip_blanks bytes) rest is in omega (arith, deep)
unit-within f (suc room) c bytes rest (inr (inr is)) =
    let deep = or-within (IsUnit f room) (2 * room + 1) (unit-within f room) c is.0
    _ is.2 in omega (arith, deep)

-- 256 parentheses and `!`, each with `||` and `&&` inside
pub IsCondition-deep : (f : Form) (c : Cond) (text : List ℕ) → IsCondition f c text → depth c ≤ 515
IsCondition-deep f c text is =
    or-within (IsUnit f max_open) (2 * max_open + 1) (unit-within f max_open) c text [] is
