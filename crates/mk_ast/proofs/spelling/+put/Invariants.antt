use Rattle.mk_ast.proofs.SpelledLists.{Wrote, parts_text, mods_text}
use Rattle.std.proofs.Common.{◌++◌}
use Rattle.mk_ast.proofs.spelling.+put.Given as goal

-- what is written so far, and the parts that are left
abbrev pub invariant-put_tree-loop-part : goal.invariant-put_tree-loop-part
invariant-put_tree-loop-part l =
    Wrote parts_text (l.initial.out ++ parts_text l.part-items) l.out l.part-items l.part-index

-- what is written so far, and the modifiers that are left
abbrev pub invariant-put_mods-loop-one : goal.invariant-put_mods-loop-one
invariant-put_mods-loop-one l =
    Wrote mods_text (l.initial.out ++ mods_text l.one-items) l.out l.one-items l.one-index
