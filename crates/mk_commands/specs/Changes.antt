-- Changes of the files, with all the memory that they take, as contracts see them.
use Rattle.std.specs.Prelude.{◌≡◌, ℕ, List, [], ◌∷◌, Some, None}
use Rattle.mk_world.specs.History.{FileMap, Effect, effected, effected_all}
use Rattle.mk_commands.specs.declared.change.Change.{Change}
use Rattle.mk_commands.specs.declared.change.Change.TheVariants.{Nothing, Write, Delete, Move}
use Rattle.mk_commands.specs.declared.files.Stored.{Stored}

-- a file has these bytes from now on
abbrev pub written : FileMap → List ℕ → Stored → FileMap
written files path file =
    effected files (record { path = path; bytes = Some file.bytes; time = file.time })

-- a file is missing from now on
abbrev pub deleted : FileMap → List ℕ → FileMap
deleted files path = effected files (record { path = path; bytes = None; time = 0 })

-- the files after a change
abbrev pub changed : FileMap → Change → FileMap
changed files Nothing = files
changed files (Write path file) = written files path.items file
changed files (Delete path) = deleted files path
changed files (Move from to file) = written (deleted files from) to.items file

abbrev pub changed_all : FileMap → List Change → FileMap
changed_all files [] = files
changed_all files (change ∷ changes) = changed_all (changed files change) changes

-- a change that has these effects, whatever the files are
abbrev pub HasEffects : Change → List Effect → Type 0
HasEffects change effects = (files : FileMap) → changed files change ≡ effected_all files effects

abbrev pub HaveEffects : List Change → List Effect → Type 0
HaveEffects changes effects =
    (files : FileMap) → changed_all files changes ≡ effected_all files effects
