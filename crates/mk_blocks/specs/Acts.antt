-- What a reading does outside.
use Rattle.std.specs.Prelude.{ℕ, List}
use Rattle.mk_world.specs.declared.command.Cmd.{Cmd}

pub data Act : Type 0 where
  -- it writes a message, with these bytes
  wrote : (message : List ℕ) → Act
  -- it looks for the bytes of a path
  looked : (path : List ℕ) → Act
  -- it asks for the time of a path, to tell whether a file is there
  dated : (path : List ℕ) → Act
  -- it asks for the names in a directory
  listed : (dir : List ℕ) → Act
  -- it has a command run
  ran : (cmd : Cmd) → Act
