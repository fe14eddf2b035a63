-- Lines that are passed over, one by one.
use Rattle.std.proofs.Common.{◌≡◌, ℕ, zero, suc, ◌+◌, ◌-◌, ◌≤◌, Bool, true, false, if◌then◌else◌}
use Rattle.std.proofs.Common.{List, [], ◌∷◌, Option, Some, None, option_map, length, drop}
use Rattle.std.proofs.Common.{slice_get, refl, sym, ap, ◌∙◌, arith, add-one}
use Rattle.mk_lines.specs.declared.line.LogLine.{LogLine}
use Rattle.mk_blocks.specs.Blocks.{Parsed, parsed, none, is_closer, is_else, closed, put, parse}
use Rattle.mk_blocks.specs.Skips.{Branch, closes_here, depth_behind, ends_here, next_branch}
use Rattle.mk_blocks.specs.Skips.{outside_of}
use Rattle.mk_blocks.specs.declared.kind.LineKind.{LineKind}
use Rattle.mk_blocks.specs.declared.kind.LineKind.TheVariants as kind

pub parse-first : (kind : List ℕ → LineKind) (lines : List LogLine) (l : LogLine) (k : LineKind)
    → Some l ≡ slice_get lines 0 → k ≡ kind l.text
    → parse kind lines ≡ put k l (parse kind (drop 1 lines))
unfolding parse
parse-first kind [] l k some same = absurd cc
parse-first kind (x ∷ xs) l k some same =
    let e : x ≡ l = cc in rw (same, e) refl

pub parse-none : (kind : List ℕ → LineKind) (lines : List LogLine)
    → None ≡ slice_get lines 0 → parse kind lines ≡ parsed none []
unfolding parse
parse-none kind [] over = refl
parse-none kind (x ∷ xs) over = absurd cc

pub parse-end : (kind : List ℕ → LineKind) (lines : List LogLine)
    → None ≡ slice_get lines 0 → parse kind (drop 1 lines) ≡ parsed none []
unfolding parse
parse-end kind [] over = refl
parse-end kind (x ∷ xs) over = absurd cc

pub some-first : (kind : List ℕ → LineKind) (lines : List LogLine) (k : LineKind)
    → Some k ≡ option_map (λ l. kind l.text) (slice_get lines 0)
    → (l : LogLine) × (parse kind lines ≡ put k l (parse kind (drop 1 lines)))
    × (length (drop 1 lines) + 1 ≡ length lines)
unfolding parse
some-first kind [] k some = absurd cc
some-first kind (x ∷ xs) k some =
    let e : kind x.text ≡ k = cc in (x, rw e refl, omega arith)

pub one-taken : (lines : List LogLine) (l : LogLine)
    → Some l ≡ slice_get lines 0 → length (drop 1 lines) + 1 ≡ length lines
one-taken [] l some = absurd cc
one-taken (x ∷ xs) l some = omega arith

pub none-first : (kind : List ℕ → LineKind) (lines : List LogLine)
    → None ≡ option_map (λ l. kind l.text) (slice_get lines 0) → None ≡ slice_get lines 0
none-first kind [] over = refl
none-first kind (x ∷ xs) over = absurd cc

outside_of-nothing : (depth : ℕ) → outside_of depth [] ≡ []
unfolding outside_of closed
outside_of-nothing zero = refl
outside_of-nothing (suc depth) = outside_of-nothing depth

pub outside-none : (kind : List ℕ → LineKind) (lines : List LogLine) (depth : ℕ)
    → None ≡ slice_get lines 0 → outside_of depth (parse kind lines).endings ≡ []
outside-none kind lines depth over =
    ap (λ p. outside_of depth p.endings) (parse-none kind lines over) ∙ outside_of-nothing depth

pub outside-put : (depth : ℕ) (k : LineKind) (l : LogLine) (p : Parsed)
    → ends_here depth k ≡ false
    → outside_of depth (put k l p).endings ≡ outside_of (depth_behind k depth) p.endings
unfolding outside_of closed
outside-put depth kind.Plain l p not_here = refl
outside-put depth kind.Uncounted l p not_here = refl
outside-put depth kind.Break l p not_here = refl
outside-put depth kind.Include l p not_here = refl
outside-put depth kind.If l p not_here = rw add-one refl
outside-put depth kind.For l p not_here = rw add-one refl
outside-put zero kind.ElseIf l p not_here = absurd cc
outside-put zero kind.Else l p not_here = absurd cc
outside-put zero kind.EndIf l p not_here = absurd cc
outside-put zero kind.EndFor l p not_here = absurd cc
outside-put (suc depth) kind.ElseIf l p not_here = refl
outside-put (suc depth) kind.Else l p not_here = refl
outside-put (suc depth) kind.EndIf l p not_here =
    let e : suc depth - 1 ≡ depth = omega arith in rw e refl
outside-put (suc depth) kind.EndFor l p not_here =
    let e : suc depth - 1 ≡ depth = omega arith in rw e refl

-- a line that does not close the block
pub closed-put : (depth : ℕ) (k : LineKind) (l : LogLine) (p : Parsed)
    → closes_here depth k ≡ false
    → closed (outside_of depth (put k l p).endings)
    ≡ closed (outside_of (depth_behind k depth) p.endings)
unfolding outside_of closed
closed-put zero kind.ElseIf l p not_here = refl
closed-put zero kind.Else l p not_here = refl
closed-put zero kind.EndIf l p not_here = absurd cc
closed-put zero kind.EndFor l p not_here = absurd cc
closed-put zero kind.Plain l p not_here = refl
closed-put zero kind.Uncounted l p not_here = refl
closed-put zero kind.Break l p not_here = refl
closed-put zero kind.Include l p not_here = refl
closed-put zero kind.If l p not_here = refl
closed-put zero kind.For l p not_here = refl
closed-put (suc depth) k l p not_here = ap closed (outside-put (suc depth) k l p refl)

-- the line that does
pub closed-here : (depth : ℕ) (k : LineKind) (l : LogLine) (p : Parsed)
    → closes_here depth k ≡ true → closed (outside_of depth (put k l p).endings) ≡ p
unfolding outside_of closed
closed-here zero kind.EndIf l p here = refl
closed-here zero kind.EndFor l p here = refl
closed-here zero kind.ElseIf l p here = absurd cc
closed-here zero kind.Else l p here = absurd cc
closed-here zero kind.Plain l p here = absurd cc
closed-here zero kind.Uncounted l p here = absurd cc
closed-here zero kind.Break l p here = absurd cc
closed-here zero kind.Include l p here = absurd cc
closed-here zero kind.If l p here = absurd cc
closed-here zero kind.For l p here = absurd cc
closed-here (suc depth) k l p here = absurd cc

-- what follows a branch

abbrev pub Found : Type 0
Found = Option Branch × Parsed

abbrev pub found : Option Branch → Parsed → Found
found branch q = (branch, q)

pub nowhere : {x : Branch} {q z : Parsed} → found None z ≡ found (Some x) q → ⊥
nowhere {x = x} is = let first : None ≡ Some x = ap (λ (f : Found). f.0) is in absurd cc

pub none_inv : (b : Bool) (x : Branch) (y z q : Parsed)
    → (if b then found None y else found (Some x) z) ≡ found None q → (b ≡ true) × (y ≡ q)
none_inv true x y z q is = (refl, ap (λ (f : Found). f.1) is)
none_inv false x y z q is = absurd (nowhere (sym is))

pub some_inv : (b : Bool) (x w : Branch) (y z q : Parsed)
    → (if b then found None y else found (Some x) z) ≡ found (Some w) q
    → (b ≡ false) × (x ≡ w) × (z ≡ q)
some_inv true x w y z q is = absurd (nowhere is)
some_inv false x w y z q is =
    let first : Some x ≡ Some w = ap (λ (f : Found). f.0) is in
    let same : x ≡ w = cc in
    (refl, same, ap (λ (f : Found). f.1) is)

-- the line that ends the branch and closes its block
pub branch-closed : (depth : ℕ) (k : LineKind) (l : LogLine) (p : Parsed)
    → ends_here depth k ≡ true → is_closer k ≡ true
    → next_branch (outside_of depth (put k l p).endings) ≡ found None p
unfolding outside_of
branch-closed zero kind.EndIf l p here closer = refl
branch-closed zero kind.EndFor l p here closer = refl
branch-closed zero kind.ElseIf l p here closer = absurd cc
branch-closed zero kind.Else l p here closer = absurd cc
branch-closed zero kind.Plain l p here closer = absurd cc
branch-closed zero kind.Uncounted l p here closer = absurd cc
branch-closed zero kind.Break l p here closer = absurd cc
branch-closed zero kind.Include l p here closer = absurd cc
branch-closed zero kind.If l p here closer = absurd cc
branch-closed zero kind.For l p here closer = absurd cc
branch-closed (suc depth) k l p here closer = absurd cc

-- the line that ends it and begins another one
pub branch-next : (depth : ℕ) (k : LineKind) (l : LogLine) (p : Parsed)
    → ends_here depth k ≡ true → is_closer k ≡ false
    → next_branch (outside_of depth (put k l p).endings) ≡ found (Some (is_else k, l)) p
unfolding outside_of
branch-next zero kind.ElseIf l p here other = refl
branch-next zero kind.Else l p here other = refl
branch-next zero kind.EndIf l p here other = absurd cc
branch-next zero kind.EndFor l p here other = absurd cc
branch-next zero kind.Plain l p here other = absurd cc
branch-next zero kind.Uncounted l p here other = absurd cc
branch-next zero kind.Break l p here other = absurd cc
branch-next zero kind.Include l p here other = absurd cc
branch-next zero kind.If l p here other = absurd cc
branch-next zero kind.For l p here other = absurd cc
branch-next (suc depth) k l p here other = absurd cc

pub drop-shorter : {A : Type 0} {n : ℕ} (xs : List A) → length xs ≤ n → length (drop 1 xs) ≤ n
drop-shorter [] short = short
drop-shorter (x ∷ xs) short = omega arith
