-- Where a command stands, as contracts see it.
use Rattle.std.specs.Prelude.{ℕ, List, [], ◌∷◌, ◌++◌, unwrap_or}
use Rattle.mk_world.specs.declared.step.Answer.{Answer}
use Rattle.mk_commands.specs.Turns as spec
use Rattle.mk_commands.specs.declared.turn.Turn.{Turn}
use Rattle.mk_commands.specs.declared.turn.Turn.TheVariants.{Asks, Ends}

abbrev pub turn_of : Turn → spec.Turn
turn_of (Asks request) = spec.asks request
turn_of (Ends status output rest) = spec.ends status output rest.now

-- all bytes that looks have found, in order
abbrev pub contents_of : List Answer → List ℕ
contents_of [] = []
contents_of (answer ∷ answers) = unwrap_or (spec.found answer) [] ++ contents_of answers
