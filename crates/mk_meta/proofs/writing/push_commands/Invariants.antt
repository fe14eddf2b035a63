use Rattle.std.proofs.Common.{◌≡◌, ◌++◌, take, flat_map}
use Rattle.mk_meta.specs.Texts.{command_line}
use Rattle.mk_meta.proofs.writing.push_commands.Given as goal

-- the lines so far stand at the end
abbrev pub invariant-loop-line : goal.invariant-loop-line
invariant-loop-line l = l.text ≡ l.fn.text ++ flat_map command_line (take l.line-index l.lines)
