use Rattle.std.proofs.Common.{◌≡◌, ◌++◌, take}
use Rattle.std.specs.Process.{command_program, command_args}
use Rattle.mk_realworld.proofs.shell.add_words.Given as goal

-- the words so far stand behind those that were there
abbrev pub invariant-loop-word : goal.invariant-loop-word
invariant-loop-word l = record {
  program : command_program l.shell ≡ command_program l.fn.shell;
  words : command_args l.shell ≡ command_args l.fn.shell ++ take l.word-index l.words;
}
