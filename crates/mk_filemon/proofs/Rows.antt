-- Rows that the definitions compute.
use Rattle.std.proofs.Common.{◌≡◌, [], ◌∷◌, Some, None, refl, codes}
use Rattle.std.specs.Fmt.{digits}
use Rattle.mk_world.specs.declared.step.Op.TheVariants.{Read, Miss, Write, Delete, Move}
use Rattle.mk_filemon.specs.Escapes.{part_behind, cut_at}
use Rattle.mk_filemon.specs.Log.{logged, cut_at_gap}
use Rattle.mk_filemon.specs.Outer.{outer_reads, outer_found, left_written}
use Rattle.mk_filemon.specs.Records.{record_text, record_in}

quotes_and_escapes : record_text 2 (Move (codes "a'b") (codes "c\\")) ≡ codes "M 2 'a\\'b' 'c\\\\'"
unfolding digits
quotes_and_escapes = refl

line_0_is_none : record_in (codes "R 0 a") ≡ None
unfolding part_behind cut_at digits
line_0_is_none = refl

a_move_is_read : record_in (codes "M 2 'a\\'b' 'c'")
    ≡ Some (record { line = 2; op = Move (codes "a'b") (codes "c") })
unfolding part_behind cut_at digits
a_move_is_read = refl

own_files_are_not_outer : outer_reads
    (Read (codes "a") ∷ Write (codes "t") ∷ Read (codes "t") ∷ Read (codes "a") ∷ [])
    ≡ codes "a" ∷ []
own_files_are_not_outer = refl

found_in_the_order_of_reads : outer_found
    (Miss (codes "p") ∷ Read (codes "q") ∷ Read (codes "p") ∷ []) ≡ codes "p" ∷ codes "q" ∷ []
found_in_the_order_of_reads = refl

a_deleted_file_is_not_left : left_written
    (Write (codes "t") ∷ Write (codes "s") ∷ Delete (codes "s") ∷ []) ≡ codes "t" ∷ []
a_deleted_file_is_not_left = refl

a_log : logged (codes "/w") (codes "C 5 /w/d\nR 5 f\nM 5 'p' 'q'\nQ 5 z\n# N 05 g")
    ≡ Some (Read (codes "d/f") ∷ Move (codes "d/p") (codes "d/q") ∷ Miss (codes "d/g") ∷ [])
unfolding cut_at cut_at_gap
a_log = refl

a_part_with_its_end : logged (codes "/w")
    (codes "# recorder r\nC 5 /w\nR 5 f\n# Bye bye 5 0 2\n") ≡ Some (Read (codes "f") ∷ [])
unfolding cut_at cut_at_gap digits
a_part_with_its_end = refl

a_part_that_is_cut : logged (codes "/w") (codes "# recorder r\nC 5 /w\nR 5 f\n") ≡ None
unfolding cut_at
a_part_that_is_cut = refl

a_part_without_a_line : logged (codes "/w") (codes "# recorder r\nR 5 f\n# Bye bye 5 0 2\n") ≡ None
unfolding cut_at digits
a_part_without_a_line = refl

an_end_that_is_cut : logged (codes "/w") (codes "# recorder r\nR 5 f\n# Bye bye 5 0 1") ≡ None
unfolding cut_at digits
an_end_that_is_cut = refl

a_head_that_is_cut : logged (codes "/w") (codes "R 5 f\n# rec") ≡ None
unfolding cut_at
a_head_that_is_cut = refl
