use Rattle.std.proofs.Common.{◌≡◌, ◌≤◌, length, Ok}
use Rattle.mk_blocks.specs.Blocks.{closed, parse, put}
use Rattle.mk_blocks.specs.Calls.{left_at, unchosen_at}
use Rattle.mk_blocks.specs.Ties.{Does, sorted}
use Rattle.mk_blocks.specs.declared.kind.LineKind.TheVariants.{If}
use Rattle.mk_blocks.proofs.choice.choose.Given as goal

-- no condition held so far, and the branches that are left may be chosen
abbrev pub invariant-branches : goal.invariant-branches
invariant-branches g l =
    let ties = g.L.Language.ties in
    record {
      so_far : Does ties sorted l.fn.language l.language
          (λ answers given. unchosen_at ties l.file l.loops l.depth
          (parse ties.kind l.cursor).endings
          l.language l.count answers)
          (Ok (tt {0})) (left_at ties l.file l.loops l.depth (put If l.line
          (parse ties.kind l.fn.cursor))
          l.fn.language l.fn.count);
      behind : closed (parse ties.kind l.cursor).endings ≡ closed
          (parse ties.kind l.fn.cursor).endings;
      shorter : length l.cursor ≤ length l.fn.cursor;
      later : l.fn.count ≤ l.count;
    }

abbrev pub decreases-branches : goal.decreases-branches
decreases-branches g l = length l.cursor
