use Rattle.std.proofs.Common.{◌≡◌, ◌+◌, ◌-◌, Some, None, length, drop, slice_get, refl, sym, ap}
use Rattle.std.proofs.Common.{◌∙◌, arith}
use Rattle.std.proofs.lemmas.List.{length-drop}
use Rattle.std.proofs.lemmas.Result.{err_from_is_err_and}
use Rattle.mk_blocks.specs.Blocks as tree
use Rattle.mk_blocks.specs.Skips as spec
use Rattle.mk_blocks.proofs.SkipLemmas.{parse-first, parse-end, outside-none, outside-put}
use Rattle.mk_blocks.proofs.SkipLemmas.{one-taken, branch-closed, branch-next}
use Rattle.mk_blocks.proofs.skip.next_branch.Goals as goal

pub lines-init : goal.lines-init
unfolding spec.outside_of
lines-init g c = record { behind = refl; room = omega arith }

pub returns-in_err-line : goal.returns-in_err-line
returns-in_err-line g c =
    let p = err_from_is_err_and c.from_residual.result c.from_residual.ensures.1 in
    rw p.1 (record { behind = tt; shorter = tt })

pub returns-in_default-clause-behind : goal.returns-in_default-clause-behind
returns-in_default-clause-behind g c =
    let kind = g.L.Language.ties.kind in
    let over : None ≡ slice_get c.lines.cursor 0 = sym c.in_default.is
    ∙ c.in_ok-line.ensures.first in
    rw (
      c.in_ok-line.ensures.rest,
      parse-end kind c.lines.cursor over,
      ← c.lines.invariant.behind,
      outside-none kind c.lines.cursor c.lines.depth over,
    ) refl

pub returns-then-is_closer-clause-behind : goal.returns-then-is_closer-clause-behind
returns-then-is_closer-clause-behind g c =
    let kind = g.L.Language.ties.kind in
    let l = c.in-Some.line in
    let k = c.kind-kind.result in
    let first = parse-first kind c.lines.cursor l k (sym c.in-Some.is ∙ c.in_ok-line.ensures.first)
    (c.kind-kind.ensures ∙ ap kind c.bytes.ensures) in
    rw (c.in_ok-line.ensures.rest, ← c.lines.invariant.behind, first)
    (branch-closed c.lines.depth k l _ (sym c.ends_here.ensures ∙ c.if-ends_here.true)
    (sym c.is_closer.ensures ∙ c.if-is_closer.true))

pub returns-then-ends_here-clause-behind : goal.returns-then-ends_here-clause-behind
returns-then-ends_here-clause-behind g c =
    let kind = g.L.Language.ties.kind in
    let l = c.in-Some.line in
    let k = c.kind-kind.result in
    let first = parse-first kind c.lines.cursor l k (sym c.in-Some.is ∙ c.in_ok-line.ensures.first)
    (c.kind-kind.ensures ∙ ap kind c.bytes.ensures) in
    rw (c.in_ok-line.ensures.rest, ← c.lines.invariant.behind, first, c.is_else.ensures)
    (branch-next c.lines.depth k l _ (sym c.ends_here.ensures ∙ c.if-ends_here.true)
    (sym c.is_closer.ensures ∙ c.if-is_closer.false))

pub lines-smaller : goal.lines-smaller
lines-smaller g c =
    let less : length c.next_line.new.self + 1 ≡ length c.lines.cursor =
    rw c.in_ok-line.ensures.rest
    (one-taken c.lines.cursor c.in-Some.line (sym c.in-Some.is ∙ c.in_ok-line.ensures.first)) in
    omega arith

pub lines-preserved : goal.lines-preserved
lines-preserved g c =
    let kind = g.L.Language.ties.kind in
    let l = c.in-Some.line in
    let k = c.kind-kind.result in
    let some : Some l ≡ slice_get c.lines.cursor 0 = sym c.in-Some.is
    ∙ c.in_ok-line.ensures.first in
    let first = parse-first kind c.lines.cursor l k some (c.kind-kind.ensures
    ∙ ap kind c.bytes.ensures) in
    let behind = outside-put c.lines.depth k l (tree.parse kind (drop 1 c.lines.cursor))
    (sym c.ends_here.ensures ∙ c.if-ends_here.false) in
    let less : length c.next_line.new.self + 1 ≡ length c.lines.cursor =
    rw c.in_ok-line.ensures.rest (one-taken c.lines.cursor l some) in
    record {
      behind = rw (c.depth_behind-depth.ensures.value, c.in_ok-line.ensures.rest, ← behind, ← first)
          c.lines.invariant.behind;
      room = omega arith;
    }

pub depth_behind-depth-requires : goal.depth_behind-depth-requires
depth_behind-depth-requires g c =
    let less : length c.next_line.new.self + 1 ≡ length c.lines.cursor =
    rw c.in_ok-line.ensures.rest
    (one-taken c.lines.cursor c.in-Some.line (sym c.in-Some.is ∙ c.in_ok-line.ensures.first)) in
    omega (arith, less, c.lines.invariant.room, c.requires)

pub returns-then-is_closer-clause-shorter : goal.returns-then-is_closer-clause-shorter
returns-then-is_closer-clause-shorter g c =
    let less : length c.next_line.new.self + 1 ≡ length c.lines.cursor =
    rw c.in_ok-line.ensures.rest
    (one-taken c.lines.cursor c.in-Some.line (sym c.in-Some.is ∙ c.in_ok-line.ensures.first)) in
    omega (arith, less, c.lines.invariant.room)

pub returns-then-ends_here-clause-shorter : goal.returns-then-ends_here-clause-shorter
returns-then-ends_here-clause-shorter g c =
    let less : length c.next_line.new.self + 1 ≡ length c.lines.cursor =
    rw c.in_ok-line.ensures.rest
    (one-taken c.lines.cursor c.in-Some.line (sym c.in-Some.is ∙ c.in_ok-line.ensures.first)) in
    omega (arith, less, c.lines.invariant.room)

pub returns-in_default-clause-shorter : goal.returns-in_default-clause-shorter
returns-in_default-clause-shorter g c =
    let none : length c.next_line.new.self ≡ length c.lines.cursor - 1 =
    rw c.in_ok-line.ensures.rest (length-drop 1 c.lines.cursor) in
    omega (arith, none, c.lines.invariant.room)
