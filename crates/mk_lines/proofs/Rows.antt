-- Rows that the definitions compute.
use Rattle.std.proofs.Common.{◌≡◌, [], ◌∷◌, ◌++◌, Ok, Err, refl, codes}
use Rattle.mk_bytes.specs.Bytes.{tab, newline}
use Rattle.mk_lines.specs.declared.fault.LineFault.TheVariants.{Zero}
use Rattle.mk_lines.specs.Comment.{cut_comment, before_comment, unescaped}
use Rattle.mk_lines.specs.Faults.{logical_lines}
use Rattle.mk_lines.specs.Lines.{physical_lines, line_groups, joined}

-- a line that is continued by one which begins with a tab, and a line behind them
continued_line : logical_lines
    (codes "a \\" ++ newline ∷ tab ∷ codes "b" ++ newline ∷ codes "c")
    ≡ Ok (record { first = 1; text = codes "a  b" } ∷ record { first = 3; text = codes "c" } ∷ [])
unfolding physical_lines line_groups joined
continued_line = refl

two_backslashes_at_the_end : logical_lines (codes "A=\\\\")
    ≡ Ok (record { first = 1; text = codes "A=\\\\" } ∷ [])
unfolding physical_lines line_groups joined
two_backslashes_at_the_end = refl

one_backslash_at_the_end : logical_lines (codes "A=\\")
    ≡ Ok (record { first = 1; text = codes "A=" } ∷ [])
unfolding physical_lines line_groups joined
one_backslash_at_the_end = refl

-- the newline behind the backslash begins no further line
backslash_and_newline_at_the_end : logical_lines (codes "a\\" ++ newline ∷ [])
    ≡ Ok (record { first = 1; text = codes "a" } ∷ [])
unfolding physical_lines line_groups joined
backslash_and_newline_at_the_end = refl

zero_in_a_continuation : logical_lines (codes "a\\" ++ newline ∷ 0 ∷ []) ≡ Err (Zero 2)
unfolding physical_lines line_groups joined
zero_in_a_continuation = refl

escaped_hash_and_comment : cut_comment (codes "A=x\\#y  # z") ≡ codes "A=x#y"
unfolding before_comment unescaped
escaped_hash_and_comment = refl

comment_after_two_backslashes : cut_comment (codes "A=x\\\\#y") ≡ codes "A=x\\\\"
unfolding before_comment unescaped
comment_after_two_backslashes = refl

hash_after_three_backslashes : cut_comment (codes "A=x\\\\\\#y") ≡ codes "A=x\\\\#y"
unfolding before_comment unescaped
hash_after_three_backslashes = refl

escaped_hash_after_a_bracket : cut_comment (codes "A=[\\#]") ≡ codes "A=[#]"
unfolding before_comment unescaped
escaped_hash_after_a_bracket = refl

hash_after_a_bracket : cut_comment (codes "${A:[#]} # two") ≡ codes "${A:[#]}"
unfolding before_comment unescaped
hash_after_a_bracket = refl
