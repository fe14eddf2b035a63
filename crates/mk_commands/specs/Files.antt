-- What the files that are kept stand for.
use Rattle.std.specs.Prelude.{ℕ, Option, Some, None}
use Rattle.std.specs.HashMap.{spare}
use Rattle.std.specs.Map.{lookup}
use Rattle.std.specs.Str.{bytes_eq}
use Rattle.mk_world.specs.History.{FileMap, Filed}
use Rattle.mk_commands.specs.declared.files.Files.{Files}
use Rattle.mk_commands.specs.declared.files.Stored.{Stored}

abbrev pub as_filed : Option Stored → Option Filed
as_filed None = None
as_filed (Some file) = Some (record { bytes = file.bytes; time = file.time })

abbrev pub no_files : FileMap
no_files = λ path. None

-- the file at each path
abbrev pub files_in : Files → FileMap
files_in files = λ path. as_filed (lookup (λ key. bytes_eq path key.items) files.stored.entries)

-- for how many new paths there is room
abbrev pub room_in : Files → ℕ
room_in files = spare files.stored
