-- Conditions that people write, read.
use Rattle.std.proofs.Common.{◌≡◌, ℕ, List, [], true, false, Ok, Err, refl, codes}
use Rattle.mk_ast.specs.Tree.{Tree, end, part, plain, escaped, short, ref, no_mods}
use Rattle.mk_ast.specs.Text.{text_at}
use Rattle.mk_ast.specs.Rows.{is_word, is_left_out_word}
use Rattle.mk_ast.specs.Rows as rows
use Rattle.mk_ast.specs.References.{mods_at, ref_at}
use Rattle.mk_ast.specs.declared.fault.TreeFault.TheVariants.{UnknownModifier, BadModifier, Unclosed}
use Rattle.mk_cond.specs.Cond.{Cond, any, all, negate, test, both, no_more, cond_then}
use Rattle.mk_cond.specs.Terms.{begins, is_call, skip_blanks, unquoted}
use Rattle.mk_cond.specs.Conditions.{more_at, inner_at, condition_of}
use Rattle.mk_cond.specs.Truth.{truth, compare, no_number}
use Rattle.mk_cond.specs.declared.cond.CmpOp.TheVariants.{Equal, NotEqual, Less, GreaterOrEqual}
use Rattle.mk_cond.specs.declared.cond.Form.TheVariants.{If, Ndef, Make as IfMake, Nmake, Inner}
use Rattle.mk_cond.specs.declared.cond.Fun.TheVariants.{Defined, Make, Empty, Exists}
use Rattle.mk_cond.specs.declared.fault.CondFault.TheVariants.{Bad, Tree as OfTree}

abbrev bytes : List ℕ → Tree
bytes text = part (plain text) end

abbrev asks : List ℕ → Cond
asks name = test Defined (bytes name)

nothing_behind_a_sign : condition_of If (codes "a &&") ≡ Err (Bad 4)
unfolding text_at more_at inner_at skip_blanks begins is_call
nothing_behind_a_sign = refl

a_lone_ampersand : condition_of If (codes "a & b") ≡ Err (Bad 2)
unfolding text_at more_at inner_at skip_blanks begins is_call
a_lone_ampersand = refl

a_lone_equals_sign : condition_of If (codes "1 = 2") ≡ Err (Bad 2)
unfolding text_at more_at inner_at skip_blanks begins is_call
a_lone_equals_sign = refl

an_open_quote : condition_of If (codes "\"x") ≡ Err (Bad 2)
unfolding text_at more_at inner_at skip_blanks begins is_call
an_open_quote = refl

nothing : condition_of If [] ≡ Err (Bad 0)
unfolding text_at more_at inner_at skip_blanks begins is_call
nothing = refl

parentheses_do_not_nest_in_an_argument : condition_of If (codes "exists(a(b))") ≡ Err (Bad 11)
unfolding text_at more_at inner_at skip_blanks begins is_call
parentheses_do_not_nest_in_an_argument = refl

a_quote_behind_a_dollar_is_a_name : condition_of If (codes "\"a$\"") ≡ Err (Bad 4)
unfolding text_at more_at inner_at skip_blanks begins is_call
a_quote_behind_a_dollar_is_a_name = refl

empty_without_its_parenthesis : condition_of If (codes "empty(X") ≡ Err (Bad 7)
unfolding text_at more_at inner_at skip_blanks begins is_call mods_at ref_at
empty_without_its_parenthesis = refl

a_fault_of_a_modifier_in_empty
    : condition_of If (codes "empty(X:S/a") ≡ Err (OfTree (BadModifier 8))
unfolding text_at more_at inner_at skip_blanks begins is_call mods_at ref_at rows.begins is_word
    is_left_out_word
a_fault_of_a_modifier_in_empty = refl

an_open_reference_in_empty : condition_of If (codes "empty(${X)") ≡ Err (OfTree (Unclosed 6))
unfolding text_at more_at inner_at skip_blanks begins is_call mods_at ref_at
an_open_reference_in_empty = refl

a_right_side_is_read_though_the_left_decides
    : condition_of If (codes "1 || ${X:Z}") ≡ Err (OfTree (UnknownModifier 9))
unfolding text_at more_at inner_at skip_blanks begins is_call mods_at ref_at rows.begins is_word
    is_left_out_word
a_right_side_is_read_though_the_left_decides = refl

no_left_side : condition_of Inner (codes " == \"y\"") ≡ Err (Bad 1)
unfolding text_at more_at inner_at skip_blanks begins is_call
no_left_side = refl

a_word_is_no_left_side : condition_of If (codes "a == b") ≡ Err (Bad 2)
unfolding text_at more_at inner_at skip_blanks begins is_call
a_word_is_no_left_side = refl

a_word_is_a_left_side_in_a_name
    : condition_of Inner (codes "a == b")
    ≡ Ok (both (unquoted (bytes (codes "a"))) Equal (unquoted (bytes (codes "b"))))
unfolding text_at more_at inner_at skip_blanks begins is_call
a_word_is_a_left_side_in_a_name = refl

a_word_alone_asks_in_a_name : condition_of Inner (codes "a ") ≡ Ok (asks (codes "a"))
unfolding text_at more_at inner_at skip_blanks begins is_call
a_word_alone_asks_in_a_name = refl

not_stands_for_the_comparison
    : condition_of If (codes "!$a != b")
    ≡ Ok (negate (both (unquoted (part (short 97) end)) NotEqual (unquoted (bytes (codes "b")))))
unfolding text_at more_at inner_at skip_blanks begins is_call
not_stands_for_the_comparison = refl

and_binds_closer
    : condition_of If (codes "a || b && c")
    ≡ Ok (any (cond_then (asks (codes "a"))
    (cond_then
    (all (cond_then (asks (codes "b")) (cond_then (asks (codes "c")) no_more))) no_more)))
unfolding text_at more_at inner_at skip_blanks begins is_call
and_binds_closer = refl

a_function_without_its_parenthesis_is_a_word
    : condition_of If (codes "defined") ≡ Ok (asks (codes "defined"))
unfolding text_at more_at inner_at skip_blanks begins is_call
a_function_without_its_parenthesis_is_a_word = refl

functions_come_first
    : condition_of IfMake (codes "defined (a)||exists( )")
    ≡ Ok (any (cond_then (asks (codes "a"))
    (cond_then (test Exists (bytes (codes " "))) no_more)))
unfolding text_at more_at inner_at skip_blanks begins is_call
functions_come_first = refl

a_word_turned_round : condition_of Ndef (codes "a") ≡ Ok (negate (asks (codes "a")))
unfolding text_at more_at inner_at skip_blanks begins is_call
a_word_turned_round = refl

a_target_turned_round
    : condition_of Nmake (codes "(a)") ≡ Ok (negate (test Make (bytes (codes "a"))))
unfolding text_at more_at inner_at skip_blanks begins is_call
a_target_turned_round = refl

empty_has_one_round_reference
    : condition_of If (codes "empty( X )")
    ≡ Ok (test Empty (part (ref true (bytes (codes " X ")) no_mods) end))
unfolding text_at more_at inner_at skip_blanks begins is_call mods_at ref_at
empty_has_one_round_reference = refl

an_escaped_quote
    : condition_of If (codes "\"\\\"a\" >= -1")
    ≡ Ok (both (record { text = part (escaped 34) (bytes (codes "a")); quoted = true })
    GreaterOrEqual (unquoted (bytes (codes "-1"))))
unfolding text_at more_at inner_at skip_blanks begins is_call
an_escaped_quote = refl

a_sign_without_a_digit_begins_a_word : condition_of If (codes "-a") ≡ Ok (asks (codes "-a"))
unfolding text_at more_at inner_at skip_blanks begins is_call
a_sign_without_a_digit_begins_a_word = refl

-- Values

numbers_are_compared_by_value : compare (codes "10") false Equal (codes "0xa") false ≡ Ok true
numbers_are_compared_by_value = refl

quoted_texts_have_no_order : compare (codes "a") true Less (codes "b") true ≡ Err no_number
quoted_texts_have_no_order = refl

a_quoted_number_is_a_text : compare (codes "1") true Equal (codes "1.0") false ≡ Ok false
a_quoted_number_is_a_text = refl

zero_is_false : truth (codes "0.0") false ≡ false
zero_is_false = refl

a_quoted_zero_is_true : truth (codes "0.0") true ≡ true
a_quoted_zero_is_true = refl

nothing_is_false : truth [] false ≡ false
nothing_is_false = refl
