use Rattle.std.proofs.Common.{◌≡◌, ◌++◌, drop, map, length}
use Rattle.mk_for.specs.Turns.{line_in, words_of, body_of}
use Rattle.mk_for.proofs.unrolling.turn.Given as goal

-- the lines so far, and those that are left
abbrev pub invariant-loop-line : goal.invariant-loop-line
invariant-loop-line l =
    l.lines
    ++ map (line_in l.names (words_of (length l.names) l.words l.k)) (drop l.line-index l.body)
    ≡ body_of l.body l.names l.words l.k
