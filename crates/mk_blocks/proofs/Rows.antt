-- Worked rows over a small language.
use Rattle.std.proofs.Common.{◌≡◌, ℕ, List, [], ◌∷◌, ◌++◌, map, Ok, Err, refl, codes}
use Rattle.mk_lines.specs.Lines.{physical_lines, line_groups, joined}
use Rattle.mk_for.specs.Substitution.{replaced_behind}
use Rattle.mk_turns.specs.Turns.{turns_from}
use Rattle.mk_blocks.specs.Acts.{wrote}
use Rattle.mk_blocks.specs.Blocks.{parse, closed, branches}
use Rattle.mk_blocks.specs.Meaning.{file_at, file_read, meaning, chosen}
use Rattle.mk_blocks.specs.Runs.{Reads, Run, run_at, all_turns}
use Rattle.mk_blocks.specs.OpenBlocks.{blocks_checked}
use Rattle.mk_blocks.specs.declared.fault.FileFault.{FileFault}
use Rattle.mk_blocks.specs.declared.fault.FileFault.TheVariants.{Bad, TooManyLines, TooManyFiles}
use Rattle.mk_blocks.specs.declared.fault.Wrong.TheVariants.{Zero, Block, Line}
use Rattle.mk_blocks.specs.declared.kind.BlockFault.TheVariants as fault
use Rattle.mk_blocks.proofs.Small.{small, kind_of, State, What, Pairs, count, form, stopped}

abbrev lines : List (List ℕ) → List ℕ
lines [] = []
lines (l ∷ ls) = l ++ 10 ∷ lines ls

abbrev Read : Type 0
Read = Reads What (Unit {0}) (Run State)

-- the reading of these lines where these files are there and so many lines were counted before
abbrev read_from : ℕ → Pairs → List (List ℕ) → Read
read_from counted files ls =
    file_read small kind_of (codes "m") (lines ls)
    (run_at (record { vars = []; files = files }) counted)

abbrev read : List (List ℕ) → Read
read ls = read_from 0 [] ls

abbrev gives : List (List ℕ) → State → ℕ → Read
gives messages s counted = record { acts = map wrote messages; answer = Ok (run_at s counted) }

abbrev fails : List (List ℕ) → FileFault What (Unit {0}) → Read
fails messages fault = record { acts = map wrote messages; answer = Err fault }

abbrev vars : Pairs → State
vars pairs = record { vars = (codes "E", []) ∷ pairs; files = [] }

-- a break ends the loop: two turns, two conditions and three lines are counted
row_break : read (codes ".for i in 1 2 3" ∷ codes ".if $i == 2" ∷ codes ".break" ∷ codes ".endif"
    ∷ codes "V+=$i" ∷ codes ".endfor" ∷ [])
    ≡ gives [] (vars ((codes "V", codes "1") ∷ [])) 7
unfolding physical_lines line_groups joined replaced_behind parse closed branches file_at meaning
    chosen all_turns blocks_checked turns_from
row_break = refl

-- a break ends the innermost loop alone
row_inner_break : read (codes ".for i in 1 2" ∷ codes ".for j in 1 2" ∷ codes ".break"
    ∷ codes ".endfor" ∷ codes "V+=$i" ∷ codes ".endfor" ∷ [])
    ≡ gives [] (vars ((codes "V", codes "1 2") ∷ (codes "V", codes "1") ∷ [])) 11
unfolding physical_lines line_groups joined replaced_behind parse closed branches file_at meaning
    chosen all_turns blocks_checked turns_from
row_inner_break = refl

-- the words of an inner loop name the outer one's
row_nested : read (codes ".for i in 1 2" ∷ codes ".for j in a $i" ∷ codes "V+=$i$j"
    ∷ codes ".endfor" ∷ codes ".endfor" ∷ [])
    ≡ gives [] (vars ((codes "V", codes "1a 11 2a 22") ∷ (codes "V", codes "1a 11 2a") ∷
    (codes "V", codes "1a 11") ∷ (codes "V", codes "1a") ∷ [])) 13
unfolding physical_lines line_groups joined replaced_behind parse closed branches file_at meaning
    chosen all_turns blocks_checked turns_from
row_nested = refl

-- a turn takes as many words as there are names
row_turns : read (codes ".for a b in 1 2 3 4" ∷ codes "V+=$b$a" ∷ codes ".endfor" ∷ [])
    ≡ gives [] (vars ((codes "V", codes "21 43") ∷ (codes "V", codes "21") ∷ [])) 5
unfolding physical_lines line_groups joined replaced_behind parse closed branches file_at meaning
    chosen all_turns blocks_checked turns_from
row_turns = refl

-- a loop without words has no turn
row_no_turns : read (codes ".for a in" ∷ codes ".if wrong wrong wrong wrong" ∷ codes ".endif"
    ∷ codes ".endfor" ∷ [])
    ≡ gives [] (vars ([])) 1
unfolding physical_lines line_groups joined replaced_behind parse closed branches file_at meaning
    chosen all_turns blocks_checked turns_from
row_no_turns = refl

-- words that are left over are a fault of the line of the loop
row_words_left : read (codes "V=1" ∷ codes ".for a b in 1 2 3" ∷ codes ".endfor" ∷ [])
    ≡ fails [] (Bad (codes "m") 2 (Line (count 3 2)))
unfolding physical_lines line_groups joined replaced_behind parse closed branches file_at meaning
    chosen all_turns blocks_checked turns_from
row_words_left = refl

-- behind the branch that is chosen no condition is evaluated, and no line is processed
row_chosen : read (codes ".if 1 == 2" ∷ codes "wrong" ∷ codes ".elif 1 == 1" ∷ codes "V=1"
    ∷ codes ".elif wrong wrong wrong wrong" ∷ codes "wrong" ∷ codes ".else" ∷ codes "wrong"
    ∷ codes ".endif" ∷ codes "W=1" ∷ [])
    ≡ gives [] (vars ((codes "W", codes "1") ∷ (codes "V", codes "1") ∷ [])) 4
unfolding physical_lines line_groups joined replaced_behind parse closed branches file_at meaning
    chosen all_turns blocks_checked turns_from
row_chosen = refl

-- where no condition holds, the branch of `.else` is read
row_else : read (codes ".if 1 == 2" ∷ codes "wrong" ∷ codes ".elif 1 == 3" ∷ codes "wrong"
    ∷ codes ".else" ∷ codes "V=1" ∷ codes ".endif" ∷ [])
    ≡ gives [] (vars ((codes "V", codes "1") ∷ [])) 3
unfolding physical_lines line_groups joined replaced_behind parse closed branches file_at meaning
    chosen all_turns blocks_checked turns_from
row_else = refl

-- where no condition holds and there is no `.else`, nothing is read
row_no_branch : read (codes ".if 1 == 2" ∷ codes ".for i in 1 2" ∷ codes ".if wrong"
    ∷ codes ".endif" ∷ codes ".endfor" ∷ codes ".endif" ∷ codes "V=1" ∷ [])
    ≡ gives [] (vars ((codes "V", codes "1") ∷ [])) 2
unfolding physical_lines line_groups joined replaced_behind parse closed branches file_at meaning
    chosen all_turns blocks_checked turns_from
row_no_branch = refl

-- lines keep their numbers in a loop, and a continued line has that of its first
row_numbers : read (codes ".for i in a b" ∷ codes ".info $i" ∷ codes ".info \\" ∷ codes " $i"
    ∷ codes ".endfor" ∷ [])
    ≡ gives (codes "m:2 a" ∷ codes "m:3  a" ∷ codes "m:2 b" ∷ codes "m:3  b" ∷ []) (vars ([])) 7
unfolding physical_lines line_groups joined replaced_behind parse closed branches file_at meaning
    chosen all_turns blocks_checked turns_from
row_numbers = refl

-- the messages before a fault are written
row_messages : read (codes ".info a" ∷ codes ".info b" ∷ codes ".error c" ∷ codes ".info d" ∷ [])
    ≡ fails (codes "m:1 a" ∷ codes "m:2 b" ∷ []) (Bad (codes "m") 3 (Line (stopped (codes "c"))))
unfolding physical_lines line_groups joined replaced_behind parse closed branches file_at meaning
    chosen all_turns blocks_checked turns_from
row_messages = refl

-- the faults of blocks come before all lines
row_blocks_first : read (codes ".info a" ∷ codes ".error b" ∷ codes ".if 1 == 1"
    ∷ codes ".for i in 1" ∷ [])
    ≡ fails [] (Bad (codes "m") 4 (Block fault.OpenBlock))
unfolding physical_lines line_groups joined replaced_behind parse closed branches file_at meaning
    chosen all_turns blocks_checked turns_from
row_blocks_first = refl

-- and the faults of lines before those of blocks
row_lines_first : read_from 0 [] (codes ".endif" ∷ (48 ∷ 0 ∷ []) ∷ [])
    ≡ fails [] (Bad (codes "m") 2 Zero)
unfolding physical_lines line_groups joined replaced_behind parse closed branches file_at meaning
    chosen all_turns blocks_checked turns_from
row_lines_first = refl

-- no branch stands behind `.else`
row_elif_after_else : read (codes ".if 1 == 1" ∷ codes ".else" ∷ codes ".elif 1 == 1"
    ∷ codes ".endif" ∷ [])
    ≡ fails [] (Bad (codes "m") 3 (Block fault.Else))
unfolding physical_lines line_groups joined replaced_behind parse closed branches file_at meaning
    chosen all_turns blocks_checked turns_from
row_elif_after_else = refl

-- nor in a loop inside the block
row_else_in_loop : read (codes ".if 1 == 1" ∷ codes ".for i in 1" ∷ codes ".else" ∷ codes ".endfor"
    ∷ codes ".endif" ∷ [])
    ≡ fails [] (Bad (codes "m") 3 (Block fault.Else))
unfolding physical_lines line_groups joined replaced_behind parse closed branches file_at meaning
    chosen all_turns blocks_checked turns_from
row_else_in_loop = refl

-- an if-block is ended where it is the innermost one
row_endif : read (codes ".if 1 == 1" ∷ codes ".for i in 1" ∷ codes ".endif" ∷ [])
    ≡ fails [] (Bad (codes "m") 3 (Block fault.EndIf))
unfolding physical_lines line_groups joined replaced_behind parse closed branches file_at meaning
    chosen all_turns blocks_checked turns_from
row_endif = refl

-- and so is a loop
row_endfor : read (codes ".endfor" ∷ [])
    ≡ fails [] (Bad (codes "m") 1 (Block fault.EndFor))
unfolding physical_lines line_groups joined replaced_behind parse closed branches file_at meaning
    chosen all_turns blocks_checked turns_from
row_endfor = refl

-- a `.break` stands in a loop
row_lone_break : read (codes ".if 1 == 1" ∷ codes ".break" ∷ codes ".endif" ∷ [])
    ≡ fails [] (Bad (codes "m") 2 (Block fault.Break))
unfolding physical_lines line_groups joined replaced_behind parse closed branches file_at meaning
    chosen all_turns blocks_checked turns_from
row_lone_break = refl

-- which may be outside the if-block round it
row_break_in_branch : read (codes ".for i in 1 2" ∷ codes ".if 1 == 1" ∷ codes ".break"
    ∷ codes ".endif" ∷ codes ".endfor" ∷ [])
    ≡ gives [] (vars ([])) 4
unfolding physical_lines line_groups joined replaced_behind parse closed branches file_at meaning
    chosen all_turns blocks_checked turns_from
row_break_in_branch = refl

-- the last line that may be counted; other lines do not count
row_limit : read_from 4194303 [] (codes "# a" ∷ codes "V=1" ∷ codes "# b" ∷ [])
    ≡ gives [] (vars ((codes "V", codes "1") ∷ [])) 4194304
unfolding physical_lines line_groups joined replaced_behind parse closed branches file_at meaning
    chosen all_turns blocks_checked turns_from
row_limit = refl

-- the line above the limit is not processed
row_over : read_from 4194303 [] (codes ".info a" ∷ codes ".error b" ∷ [])
    ≡ fails (codes "m:1 a" ∷ []) TooManyLines
unfolding physical_lines line_groups joined replaced_behind parse closed branches file_at meaning
    chosen all_turns blocks_checked turns_from
row_over = refl

-- a turn counts as a line
row_turn_over : read_from 4194302 [] (codes ".for i in a b" ∷ codes ".endfor" ∷ [])
    ≡ fails [] TooManyLines
unfolding physical_lines line_groups joined replaced_behind parse closed branches file_at meaning
    chosen all_turns blocks_checked turns_from
row_turn_over = refl

-- a file that includes itself
row_too_deep : read_from 0 ((codes "i", lines (codes ".include \"i\"" ∷ [])) ∷ [])
    (codes ".include \"i\"" ∷ [])
    ≡ fails [] TooManyFiles
unfolding physical_lines line_groups joined replaced_behind parse closed branches file_at meaning
    chosen all_turns blocks_checked turns_from
row_too_deep = refl

-- a missing file may be passed over
row_missing : read (codes ".-include \"none\"" ∷ [])
    ≡ gives [] (vars ([])) 1
unfolding physical_lines line_groups joined replaced_behind parse closed branches file_at meaning
    chosen all_turns blocks_checked turns_from
row_missing = refl

-- a file sets what stands behind its end, and the count goes on
row_included : read_from 0 ((codes "i", lines (codes "V=1" ∷ [])) ∷ []) (codes ".include \"i\""
    ∷ codes "W=2" ∷ [])
    ≡ gives [] (record {
      vars = (codes "E", []) ∷ (codes "W", codes "2") ∷ (codes "E", []) ∷
          (codes "V", codes "1") ∷ [];
      files = ((codes "i", lines (codes "V=1" ∷ [])) ∷ []);
    }) 3
unfolding physical_lines line_groups joined replaced_behind parse closed branches file_at meaning
    chosen all_turns blocks_checked turns_from
row_included = refl

-- a command makes the file that is included behind it, and a fault there has its own place
row_made : read (codes "V!=put i V?" ∷ codes ".include \"i\"" ∷ [])
    ≡ fails [] (Bad (codes "i") 1 (Line form))
unfolding physical_lines line_groups joined replaced_behind parse closed branches file_at meaning
    chosen all_turns blocks_checked turns_from
row_made = refl

-- an included file does not see the loop round its line
row_file_in_loop : read_from 0 ((codes "i", lines (codes ".info $i" ∷ [])) ∷ [])
    (codes ".for i in a b" ∷ codes ".include \"i\"" ∷ codes ".endfor" ∷ codes ".error c" ∷ [])
    ≡ fails (codes "i:1 " ∷ codes "i:1 " ∷ []) (Bad (codes "m") 4 (Line (stopped (codes "c"))))
unfolding physical_lines line_groups joined replaced_behind parse closed branches file_at meaning
    chosen all_turns blocks_checked turns_from
row_file_in_loop = refl
