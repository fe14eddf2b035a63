-- Where a command stands, by the answers to its requests so far.
use Rattle.std.specs.Prelude.{ℕ, List, [], ◌∷◌, Option, Some, None}
use Rattle.mk_world.specs.declared.step.Answer.{Answer}
use Rattle.mk_world.specs.declared.step.Answer.TheVariants.{Found, Missing, Stands, Done}
use Rattle.mk_world.specs.declared.step.Request.{Request}
use Rattle.mk_world.specs.declared.step.Request.TheVariants.{Look, Write, Delete, Move}

-- It asks for more, or it is at its end and leaves the other answers to the commands after it.
pub data Turn : Type 0 where
  asks : Request → Turn
  ends : ℕ → List ℕ → List Answer → Turn

-- a command, by what it makes of the answers
abbrev pub Talk : Type 0
Talk = List Answer → Turn

-- the end, with a status and an output
abbrev pub stops : ℕ → List ℕ → Talk
stops status output answers = ends status output answers

-- A request is made where there is no answer yet; else its answer decides how to go on.
abbrev pub asked : Request → (Answer → Talk) → Talk
asked request go_on [] = asks request
asked request go_on (answer ∷ answers) = go_on answer answers

-- a command that is done with this answer
abbrev pub done : Answer → Talk
done answer = stops 0 []

-- a file is written, and the command is done
abbrev pub writes : List ℕ → List ℕ → Talk
writes path bytes = asked (Write path bytes) done

-- a file is removed, and the command is done
abbrev pub deletes : List ℕ → Talk
deletes path = asked (Delete path) done

-- the bytes that a look has found
abbrev pub found : Answer → Option (List ℕ)
found (Found bytes) = Some bytes
found Missing = None
found Stands = None
found Done = None

-- a look, after which the command goes on by the bytes that stand there, if any
abbrev pub looks : List ℕ → (Option (List ℕ) → Talk) → Talk
looks path go_on = asked (Look path) (λ answer. go_on (found answer))

-- a file that is missing gives status 1, and nothing more is done
abbrev pub or_fails : (List ℕ → Talk) → Option (List ℕ) → Talk
or_fails go_on None = stops 1 []
or_fails go_on (Some bytes) = go_on bytes

-- a look at a file that has to stand
abbrev pub reads : List ℕ → (List ℕ → Talk) → Talk
reads path go_on = looks path (or_fails go_on)

-- a move from a file that is missing by now gives status 1
abbrev pub moved : Answer → Talk
moved Stands = stops 0 []
moved Missing = stops 1 []
moved (Found bytes) = stops 1 []
moved Done = stops 1 []

-- a file is given another path, and the command is done
abbrev pub moves : List ℕ → List ℕ → Talk
moves from to = asked (Move from to) moved
