use Rattle.std.proofs.Common.{◌≡◌, drop, length, ◌+◌, ◌-◌, refl, sym, ◌∙◌, arith}
use Rattle.std.proofs.lemmas.List.{length-drop}
use Rattle.std.proofs.lemmas.Result.{err_from_is_err_and}
use Rattle.mk_blocks.specs.Blocks as tree
use Rattle.mk_blocks.specs.Skips.{outside_of}
use Rattle.mk_blocks.proofs.SkipLemmas.{parse-end, some-first, none-first, outside-none, closed-put}
use Rattle.mk_blocks.proofs.SkipLemmas.{closed-here}
use Rattle.mk_blocks.proofs.skip.skip_block.Goals as goal

pub returns-in_default-clause-behind : goal.returns-in_default-clause-behind
unfolding tree.closed
returns-in_default-clause-behind g c =
    let kind = g.L.Language.ties.kind in
    let over = none-first kind c.lines.cursor (sym c.in_default.is ∙ c.in_ok-kind.ensures.first) in
    rw (
      c.in_ok-kind.ensures.rest,
      parse-end kind c.lines.cursor over,
      ← c.lines.invariant.behind,
      outside-none kind c.lines.cursor c.lines.depth over,
    ) refl

pub returns-then-closes_here-clause-behind : goal.returns-then-closes_here-clause-behind
returns-then-closes_here-clause-behind g c =
    let kind = g.L.Language.ties.kind in
    let first = some-first kind c.lines.cursor c.in-Some.kind (sym c.in-Some.is
    ∙ c.in_ok-kind.ensures.first) in
    rw (c.in_ok-kind.ensures.rest, ← c.lines.invariant.behind, first.1)
    (sym (closed-here c.lines.depth c.in-Some.kind first.0 _ (sym c.closes_here.ensures
    ∙ c.if-closes_here.true)))

pub lines-preserved : goal.lines-preserved
lines-preserved g c =
    let kind = g.L.Language.ties.kind in
    let first = some-first kind c.lines.cursor c.in-Some.kind (sym c.in-Some.is
    ∙ c.in_ok-kind.ensures.first) in
    let not_here = sym c.closes_here.ensures ∙ c.if-closes_here.false in
    let behind = closed-put c.lines.depth c.in-Some.kind first.0 (tree.parse kind
    (drop 1 c.lines.cursor)) not_here in
    let less : length c.next_kind.new.cursor + 1 ≡ length c.lines.cursor =
    rw c.in_ok-kind.ensures.rest first.2 in
    record {
      behind = rw (
        c.depth_behind-depth.ensures.value,
        c.in_ok-kind.ensures.rest,
        ← behind,
        ←
            first.1,
      ) c.lines.invariant.behind;
      shorter = omega arith;
      room = omega arith;
    }

pub lines-init : goal.lines-init
unfolding outside_of
lines-init g c = record { behind = refl; shorter = omega arith; room = omega arith }

pub returns-in_err-kind : goal.returns-in_err-kind
returns-in_err-kind g c =
    let p = err_from_is_err_and c.from_residual.result c.from_residual.ensures.1 in
    rw p.1 (record { behind = tt; shorter = tt })

pub returns-in_default-clause-shorter : goal.returns-in_default-clause-shorter
returns-in_default-clause-shorter g c =
    let none : length c.next_kind.new.cursor ≡ length c.lines.cursor - 1 =
    rw c.in_ok-kind.ensures.rest (length-drop 1 c.lines.cursor) in
    omega (arith, none, c.lines.invariant.shorter)

pub returns-then-closes_here-clause-shorter : goal.returns-then-closes_here-clause-shorter
returns-then-closes_here-clause-shorter g c =
    let first = some-first g.L.Language.ties.kind c.lines.cursor c.in-Some.kind (sym c.in-Some.is
    ∙ c.in_ok-kind.ensures.first) in
    let less : length c.next_kind.new.cursor + 1 ≡ length c.lines.cursor =
    rw c.in_ok-kind.ensures.rest first.2 in
    omega (arith, less, c.lines.invariant.shorter)

pub depth_behind-depth-requires : goal.depth_behind-depth-requires
depth_behind-depth-requires g c =
    let first = some-first g.L.Language.ties.kind c.lines.cursor c.in-Some.kind (sym c.in-Some.is
    ∙ c.in_ok-kind.ensures.first) in
    let less : length c.next_kind.new.cursor + 1 ≡ length c.lines.cursor =
    rw c.in_ok-kind.ensures.rest first.2 in
    omega (arith, less, c.lines.invariant.room, c.requires)

pub lines-smaller : goal.lines-smaller
lines-smaller g c =
    let first = some-first g.L.Language.ties.kind c.lines.cursor c.in-Some.kind (sym c.in-Some.is
    ∙ c.in_ok-kind.ensures.first) in
    let less : length c.next_kind.new.cursor + 1 ≡ length c.lines.cursor =
    rw c.in_ok-kind.ensures.rest first.2 in
    omega (arith, less)
