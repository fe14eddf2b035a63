use Rattle.std.proofs.Common.{◌≡◌, drop}
use Rattle.mk_ast.specs.Rows.{word_among}
use Rattle.mk_ast.proofs.row.word_among.Given as goal

-- no word so far fits, so those that are left decide
abbrev pub invariant-loop-word : goal.invariant-loop-word
invariant-loop-word l = word_among l.round (drop l.word-index l.words) l.text
    ≡ word_among l.round l.words l.text
