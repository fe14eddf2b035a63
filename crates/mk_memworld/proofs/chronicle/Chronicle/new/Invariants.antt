use Rattle.std.proofs.Common.{◌≡◌, map, drop}
use Rattle.mk_world.specs.History.{effected_all, last_time, of_file}
use Rattle.mk_commands.specs.Files.{files_in, no_files}
use Rattle.mk_memworld.proofs.chronicle.Chronicle.new.Given as goal

-- the files so far are written, and the rest follow
abbrev pub invariant-loop-file : goal.invariant-loop-file
invariant-loop-file l = record {
  files : effected_all (files_in l.files) (map of_file (drop l.file-index l.file-items))
      ≡ effected_all no_files (map of_file l.file-items);
  clock : last_time l.clock (map of_file (drop l.file-index l.file-items))
      ≡ last_time 0 (map of_file l.file-items);
}
