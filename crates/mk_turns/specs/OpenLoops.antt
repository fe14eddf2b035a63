-- Loops whose bodies are being read, and their turns.
use Rattle.std.specs.Prelude.{◌≡◌, ◌+◌, ◌-◌, Bool, ◌&&◌, nat_lt, List, [], ◌∷◌, ◌++◌}
use Rattle.mk_turns.specs.Turns.{Turn, turn_at, turn_count, turns_from}
use Rattle.mk_turns.specs.declared.loops.OpenLoop.{OpenLoop}

-- the turn of a loop that is being read, and those that follow it
abbrev pub turn_of : OpenLoop → Turn
turn_of open_loop = turn_at open_loop.header.names open_loop.header.words open_loop.turn

abbrev pub turns_behind : OpenLoop → List Turn
turns_behind open_loop =
    turns_from open_loop.header.names open_loop.header.words (open_loop.turn + 1)
    (turn_count open_loop.header.names open_loop.header.words - (open_loop.turn + 1))

-- the turns that are being read, the outermost first, where the innermost loop stands first
abbrev pub turns_in : List OpenLoop → List Turn
turns_in [] = []
turns_in (open_loop ∷ outer) = turns_in outer ++ turn_of open_loop ∷ []

-- another turn follows the one that was read, unless a `.break` ended the loop
abbrev pub has_next : OpenLoop → Bool → Bool
has_next open_loop goes_on =
    goes_on && nat_lt (open_loop.turn + 1)
    (turn_count open_loop.header.names open_loop.header.words)

-- a loop in its next turn
pub record IsNext (open_loop next : OpenLoop) : Type 0 where
  pub body : next.body ≡ open_loop.body
  pub names : next.header.names ≡ open_loop.header.names
  pub words : next.header.words ≡ open_loop.header.words
  pub turn : next.turn ≡ open_loop.turn + 1
  pub depth : next.depth ≡ open_loop.depth
