-- What the directories that are kept stand for.
use Rattle.std.specs.Map.{lookup}
use Rattle.std.specs.Str.{bytes_eq}
use Rattle.mk_filemon.specs.Log.{Directories}
use Rattle.mk_filemon.specs.declared.directory.Directories.{Directories as Kept}

-- the directory of each process
abbrev pub directories_in : Kept → Directories
directories_in kept =
    λ process. lookup (λ key. bytes_eq process key.items) kept.directories.entries
