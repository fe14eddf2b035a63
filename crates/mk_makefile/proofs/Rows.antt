-- Makefiles, read by the definitions.
use Rattle.std.proofs.Common.{◌≡◌, ℕ, ◌++◌, List, [], ◌∷◌, false, Option, Some, None, Result, Ok, Err}
use Rattle.std.proofs.Common.{refl}
use Rattle.std.specs.Prelude.{codes, if◌then◌else◌, is_some}
use Rattle.std.specs.Fmt.{digits}
use Rattle.std.specs.Str.{bytes_eq}
use Rattle.mk_bytes.specs.declared.kind.Kind.TheVariants.{Includes}
use Rattle.mk_cli.specs.declared.order.Order.{Order}
use Rattle.mk_ast.specs.Text.{text_at}
use Rattle.mk_ast.specs.Rows.{is_word, is_left_out_word}
use Rattle.mk_ast.specs.Rows as rows
use Rattle.mk_ast.specs.References.{mods_at, ref_at}
use Rattle.mk_cond.specs.Conditions.{more_at, inner_at}
use Rattle.mk_cond.specs.Terms.{begins, is_call, skip_blanks}
use Rattle.mk_values.specs.Chains.{all_modified, each_behind}
use Rattle.mk_values.specs.Conditions.{truth_of, any_truth, all_truth, without_front, without_back}
use Rattle.mk_values.specs.Parts as parts
use Rattle.mk_values.specs.Value.{found_at}
use Rattle.mk_values.specs.declared.fault.ExpandFault.TheVariants.{Undefined}
use Rattle.mk_glob.specs.Patterns.{parts_of}
use Rattle.mk_lines.specs.Comment.{before_comment, unescaped}
use Rattle.mk_lines.specs.Lines.{physical_lines, line_groups, joined}
use Rattle.mk_for.specs.Substitution.{replaced_behind}
use Rattle.mk_blocks.specs.Acts.{Act, wrote, looked, dated, listed, ran}
use Rattle.mk_blocks.specs.Blocks.{parse, closed, branches}
use Rattle.mk_blocks.specs.Meaning.{file_at, meaning, chosen}
use Rattle.mk_blocks.specs.Runs.{all_turns}
use Rattle.mk_blocks.specs.OpenBlocks.{blocks_checked}
use Rattle.mk_turns.specs.Turns.{turns_from}
use Rattle.mk_scopes.specs.declared.scopes.Env.{Env}
use Rattle.mk_scopes.specs.Scopes.{raw_value}
use Rattle.mk_graph.specs.declared.Made.{Made}
use Rattle.mk_depline.specs.Braces.{place_from, alternatives_from, spelled_in}
use Rattle.mk_directive.specs.Arguments.{in_at}
use Rattle.mk_makefile.specs.Acts.{asked_in}
use Rattle.mk_makefile.specs.Assignments.{equals_at}
use Rattle.mk_makefile.specs.Dependencies.{semicolon_from}
use Rattle.mk_makefile.specs.Questions.{Answers}
use Rattle.mk_makefile.specs.ReadFaults.{Reads}
use Rattle.mk_makefile.specs.Reading.{reading}
use Rattle.mk_makefile.specs.declared.fault.ReadFault.{ReadFault}
use Rattle.mk_makefile.specs.declared.fault.ReadFault.TheVariants.{Bad, Limit, NoFile}
use Rattle.mk_makefile.specs.declared.fault.What.{What}
use Rattle.mk_makefile.specs.declared.fault.What.TheVariants as what

abbrev lines : List (List ℕ) → List ℕ
lines [] = []
lines (l ∷ ls) = l ++ 10 ∷ lines ls

-- files, the same at all questions
abbrev Files : Type 0
Files = List (List ℕ × List ℕ)

abbrev bytes_at : Files → List ℕ → Option (List ℕ)
bytes_at [] path = None
bytes_at (file ∷ files) path = if bytes_eq file.0 path then Some file.1 else bytes_at files path

-- a command prints its own text in two lines
abbrev answers : Files → Answers
answers files = record {
  exists = λ place path. is_some (bytes_at files path);
  contents = λ place path. bytes_at files path;
  listings = λ place dir. None;
  outputs = λ place cmd. cmd.text ++ 10 ∷ cmd.text ++ 10 ∷ [];
}

abbrev env : Env
env = record { vars = []; cwd = codes "/w"; program = codes "bmake" }

abbrev order : Order
order = record {
  files = [];
  near = codes "near" ∷ [];
  system = codes "/sys" ∷ [];
  sets = [];
  prints = [];
  env_first = false;
  audit = false;
  explain = false;
  generate = None;
  flags = record {
    jobs = 1;
    keep_going = false;
    ignore = false;
    silent = false;
    dry = false;
    query = false;
    progress = false;
    requested = [];
  };
}

abbrev Found : Type 0
Found = Result (Option (List ℕ)) ReadFault

abbrev value_in : Result Made ReadFault → List ℕ → Found
value_in (Ok made) name = Ok (raw_value made.scopes name)
value_in (Err fault) name = Err fault

abbrev messages_in : List Act → List (List ℕ)
messages_in [] = []
messages_in (wrote message ∷ acts) = message ∷ messages_in acts
messages_in (looked path ∷ acts) = messages_in acts
messages_in (dated path ∷ acts) = messages_in acts
messages_in (listed dir ∷ acts) = messages_in acts
messages_in (ran cmd ∷ acts) = messages_in acts

abbrev shown : Reads Made → List ℕ → List (List ℕ) × Found
shown outcome name = (messages_in outcome.acts, value_in outcome.answer name)

-- the messages, and what `V` is set to by a makefile with these lines
abbrev read_with : Files → List (List ℕ) → List (List ℕ) × Found
read_with files ls =
    shown (reading (answers ((codes "makefile", lines ls) ∷ files)) env order) (codes "V")

abbrev read : List (List ℕ) → List (List ℕ) × Found
read ls = read_with [] ls

abbrev gives : List ℕ → List (List ℕ) × Found
gives value = ([], Ok (Some value))

abbrev says : List (List ℕ) → List ℕ → List (List ℕ) × Found
says messages value = (messages, Ok (Some value))

abbrev fails : ReadFault → List (List ℕ) × Found
fails fault = ([], Err fault)

abbrev bad : ℕ → What → List (List ℕ) × Found
bad number found = fails (Bad (codes "makefile") number found)

-- an assignment
row_set : read (codes "V = a  b # c" ∷ [])
    ≡ gives (codes "a  b")
unfolding physical_lines line_groups joined before_comment unescaped replaced_behind parse closed branches file_at meaning chosen all_turns blocks_checked turns_from equals_at in_at text_at mods_at ref_at rows.begins is_word is_left_out_word begins more_at inner_at is_call skip_blanks all_modified each_behind truth_of any_truth all_truth without_front without_back parts.joined found_at digits parts_of semicolon_from place_from alternatives_from spelled_in
row_set = refl

-- a break ends the loop in its second turn
row_break : read (codes ".for i in 1 2 3" ∷ codes ".if $i == 2" ∷ codes ".break" ∷ codes ".endif" ∷ codes "V+=$i" ∷ codes ".endfor" ∷ [])
    ≡ gives (codes "${:U1}")
unfolding physical_lines line_groups joined before_comment unescaped replaced_behind parse closed branches file_at meaning chosen all_turns blocks_checked turns_from equals_at in_at text_at mods_at ref_at rows.begins is_word is_left_out_word begins more_at inner_at is_call skip_blanks all_modified each_behind truth_of any_truth all_truth without_front without_back parts.joined found_at digits parts_of semicolon_from place_from alternatives_from spelled_in
row_break = refl

-- a value is expanded at once
row_now : read (codes "V=" ∷ codes ".for i in 1 2" ∷ codes "V:=$V$i" ∷ codes ".endfor" ∷ [])
    ≡ gives (codes "12")
unfolding physical_lines line_groups joined before_comment unescaped replaced_behind parse closed branches file_at meaning chosen all_turns blocks_checked turns_from equals_at in_at text_at mods_at ref_at rows.begins is_word is_left_out_word begins more_at inner_at is_call skip_blanks all_modified each_behind truth_of any_truth all_truth without_front without_back parts.joined found_at digits parts_of semicolon_from place_from alternatives_from spelled_in
row_now = refl

-- the output of a command: one final newline is dropped, and others are spaces
row_shell : read (codes "V!=a ${:Ub}" ∷ [])
    ≡ gives (codes "a b a b")
unfolding physical_lines line_groups joined before_comment unescaped replaced_behind parse closed branches file_at meaning chosen all_turns blocks_checked turns_from equals_at in_at text_at mods_at ref_at rows.begins is_word is_left_out_word begins more_at inner_at is_call skip_blanks all_modified each_behind truth_of any_truth all_truth without_front without_back parts.joined found_at digits parts_of semicolon_from place_from alternatives_from spelled_in
row_shell = refl

-- messages have their file and line
row_messages : read (codes "V=1" ∷ codes ".info a $V" ∷ codes ".warning b" ∷ [])
    ≡ says (codes "bmake: \"makefile\" line 2: a 1\n" ∷ codes "bmake: \"makefile\" line 3: warning: b\n" ∷ []) (codes "1")
unfolding physical_lines line_groups joined before_comment unescaped replaced_behind parse closed branches file_at meaning chosen all_turns blocks_checked turns_from equals_at in_at text_at mods_at ref_at rows.begins is_word is_left_out_word begins more_at inner_at is_call skip_blanks all_modified each_behind truth_of any_truth all_truth without_front without_back parts.joined found_at digits parts_of semicolon_from place_from alternatives_from spelled_in
row_messages = refl

-- the files, times, listings and commands that are asked for: none of a branch that is not chosen, and of places
-- where a file is sought all up to the one at which it is
abbrev asked_for : List (List ℕ) → List Act
asked_for ls = asked_in (reading (answers ((codes "makefile", lines ls) ∷ (codes "near/c", []) ∷ [])) env order).acts

row_asked : asked_for (codes ".if 0" ∷ codes "A!=a" ∷ codes ".endif" ∷ codes "B!=b" ∷ codes ".include \"c\"" ∷ [])
    ≡ looked (codes "makefile") ∷ ran (record { text = codes "b"; cwd = codes "/w"; exports = [] })
    ∷ looked (codes "c") ∷ looked (codes "near/c") ∷ []
unfolding physical_lines line_groups joined before_comment unescaped replaced_behind parse closed branches file_at meaning chosen all_turns blocks_checked turns_from equals_at in_at text_at mods_at ref_at rows.begins is_word is_left_out_word begins more_at inner_at is_call skip_blanks all_modified each_behind truth_of any_truth all_truth without_front without_back parts.joined found_at digits parts_of semicolon_from place_from alternatives_from spelled_in
row_asked = refl

-- a time between two commands
row_dated : asked_for (codes "A!=a" ∷ codes ".if exists(f)" ∷ codes ".endif" ∷ codes "B!=b" ∷ [])
    ≡ looked (codes "makefile") ∷ ran (record { text = codes "a"; cwd = codes "/w"; exports = [] })
    ∷ dated (codes "f") ∷ ran (record { text = codes "b"; cwd = codes "/w"; exports = [] }) ∷ []
unfolding physical_lines line_groups joined before_comment unescaped replaced_behind parse closed branches file_at meaning chosen all_turns blocks_checked turns_from equals_at in_at text_at mods_at ref_at rows.begins is_word is_left_out_word begins more_at inner_at is_call skip_blanks all_modified each_behind truth_of any_truth all_truth without_front without_back parts.joined found_at digits parts_of semicolon_from place_from alternatives_from spelled_in
row_dated = refl

-- the directories of patterns, those of targets first, before the command behind their line
row_listed : asked_for (codes "*.o t: d/*.c a" ∷ codes "B!=b" ∷ [])
    ≡ looked (codes "makefile") ∷ listed (codes ".") ∷ listed (codes "d")
    ∷ ran (record { text = codes "b"; cwd = codes "/w"; exports = [] }) ∷ []
unfolding physical_lines line_groups joined before_comment unescaped replaced_behind parse closed branches file_at meaning chosen all_turns blocks_checked turns_from equals_at in_at text_at mods_at ref_at rows.begins is_word is_left_out_word begins more_at inner_at is_call skip_blanks all_modified each_behind truth_of any_truth all_truth without_front without_back parts.joined found_at digits parts_of semicolon_from place_from alternatives_from spelled_in
row_listed = refl

-- of a line no target is left
row_none : read (codes "*.o: d/*.c" ∷ []) ≡ bad 1 what.NoTargets
unfolding physical_lines line_groups joined before_comment unescaped replaced_behind parse closed branches file_at meaning chosen all_turns blocks_checked turns_from equals_at in_at text_at mods_at ref_at rows.begins is_word is_left_out_word begins more_at inner_at is_call skip_blanks all_modified each_behind truth_of any_truth all_truth without_front without_back parts.joined found_at digits parts_of semicolon_from place_from alternatives_from spelled_in
row_none = refl

-- an error ends the reading, behind the messages before it
row_error : read (codes ".warning w" ∷ codes ".error e" ∷ [])
    ≡ (codes "bmake: \"makefile\" line 1: warning: w\n" ∷ [], Err (Bad (codes "makefile") 2 (what.Error (codes "e"))))
unfolding physical_lines line_groups joined before_comment unescaped replaced_behind parse closed branches file_at meaning chosen all_turns blocks_checked turns_from equals_at in_at text_at mods_at ref_at rows.begins is_word is_left_out_word begins more_at inner_at is_call skip_blanks all_modified each_behind truth_of any_truth all_truth without_front without_back parts.joined found_at digits parts_of semicolon_from place_from alternatives_from spelled_in
row_error = refl

-- files that are there
row_exists : read_with ((codes "a", []) ∷ []) (codes ".if exists(a) && !exists(b)" ∷ codes "V=1" ∷ codes ".endif" ∷ [])
    ≡ gives (codes "1")
unfolding physical_lines line_groups joined before_comment unescaped replaced_behind parse closed branches file_at meaning chosen all_turns blocks_checked turns_from equals_at in_at text_at mods_at ref_at rows.begins is_word is_left_out_word begins more_at inner_at is_call skip_blanks all_modified each_behind truth_of any_truth all_truth without_front without_back parts.joined found_at digits parts_of semicolon_from place_from alternatives_from spelled_in
row_exists = refl

-- targets so far, and the main one
row_target : read (codes ".if target(t) || make(t)" ∷ codes ".error a" ∷ codes ".endif" ∷ codes "t:" ∷ codes ".ifmake t" ∷ codes ".if target(t) && !commands(t)" ∷ codes "V=1" ∷ codes ".endif" ∷ codes ".endif" ∷ [])
    ≡ gives (codes "1")
unfolding physical_lines line_groups joined before_comment unescaped replaced_behind parse closed branches file_at meaning chosen all_turns blocks_checked turns_from equals_at in_at text_at mods_at ref_at rows.begins is_word is_left_out_word begins more_at inner_at is_call skip_blanks all_modified each_behind truth_of any_truth all_truth without_front without_back parts.joined found_at digits parts_of semicolon_from place_from alternatives_from spelled_in
row_target = refl

-- a condition on an undefined variable
row_undefined : read (codes ".if $X" ∷ codes ".endif" ∷ [])
    ≡ bad 1 (what.Expand Undefined)
unfolding physical_lines line_groups joined before_comment unescaped replaced_behind parse closed branches file_at meaning chosen all_turns blocks_checked turns_from equals_at in_at text_at mods_at ref_at rows.begins is_word is_left_out_word begins more_at inner_at is_call skip_blanks all_modified each_behind truth_of any_truth all_truth without_front without_back parts.joined found_at digits parts_of semicolon_from place_from alternatives_from spelled_in
row_undefined = refl

-- the place of a fault of a condition
row_bad_condition : read (codes "V=1" ∷ codes ".if  a &&" ∷ codes ".endif" ∷ [])
    ≡ bad 2 (what.Cond 4)
unfolding physical_lines line_groups joined before_comment unescaped replaced_behind parse closed branches file_at meaning chosen all_turns blocks_checked turns_from equals_at in_at text_at mods_at ref_at rows.begins is_word is_left_out_word begins more_at inner_at is_call skip_blanks all_modified each_behind truth_of any_truth all_truth without_front without_back parts.joined found_at digits parts_of semicolon_from place_from alternatives_from spelled_in
row_bad_condition = refl

-- names of `.undef` are not expanded
row_undef : read (codes "V=1" ∷ codes "N=V" ∷ codes ".undef ${N} W" ∷ [])
    ≡ gives (codes "1")
unfolding physical_lines line_groups joined before_comment unescaped replaced_behind parse closed branches file_at meaning chosen all_turns blocks_checked turns_from equals_at in_at text_at mods_at ref_at rows.begins is_word is_left_out_word begins more_at inner_at is_call skip_blanks all_modified each_behind truth_of any_truth all_truth without_front without_back parts.joined found_at digits parts_of semicolon_from place_from alternatives_from spelled_in
row_undef = refl

-- a variable is removed
row_undef_plain : read (codes "V=1" ∷ codes ".undef W V" ∷ codes "V?=2" ∷ [])
    ≡ gives (codes "2")
unfolding physical_lines line_groups joined before_comment unescaped replaced_behind parse closed branches file_at meaning chosen all_turns blocks_checked turns_from equals_at in_at text_at mods_at ref_at rows.begins is_word is_left_out_word begins more_at inner_at is_call skip_blanks all_modified each_behind truth_of any_truth all_truth without_front without_back parts.joined found_at digits parts_of semicolon_from place_from alternatives_from spelled_in
row_undef_plain = refl

-- a loop without `in`
row_for_form : read (codes ".for i 1 2" ∷ codes ".endfor" ∷ [])
    ≡ bad 1 what.ForForm
unfolding physical_lines line_groups joined before_comment unescaped replaced_behind parse closed branches file_at meaning chosen all_turns blocks_checked turns_from equals_at in_at text_at mods_at ref_at rows.begins is_word is_left_out_word begins more_at inner_at is_call skip_blanks all_modified each_behind truth_of any_truth all_truth without_front without_back parts.joined found_at digits parts_of semicolon_from place_from alternatives_from spelled_in
row_for_form = refl

-- words that are left over
row_for_count : read (codes ".for i j in 1 2 3" ∷ codes ".endfor" ∷ [])
    ≡ bad 1 (what.Count 3 2)
unfolding physical_lines line_groups joined before_comment unescaped replaced_behind parse closed branches file_at meaning chosen all_turns blocks_checked turns_from equals_at in_at text_at mods_at ref_at rows.begins is_word is_left_out_word begins more_at inner_at is_call skip_blanks all_modified each_behind truth_of any_truth all_truth without_front without_back parts.joined found_at digits parts_of semicolon_from place_from alternatives_from spelled_in
row_for_count = refl

-- a line out of its place comes before all others
row_misplaced : read (codes ".error a" ∷ codes ".else" ∷ [])
    ≡ bad 2 what.Else
unfolding physical_lines line_groups joined before_comment unescaped replaced_behind parse closed branches file_at meaning chosen all_turns blocks_checked turns_from equals_at in_at text_at mods_at ref_at rows.begins is_word is_left_out_word begins more_at inner_at is_call skip_blanks all_modified each_behind truth_of any_truth all_truth without_front without_back parts.joined found_at digits parts_of semicolon_from place_from alternatives_from spelled_in
row_misplaced = refl

-- a file beside the makefile
row_include : read_with ((codes "i", lines (codes "V=1" ∷ [])) ∷ []) (codes ".include \"${:Ui}\"" ∷ [])
    ≡ gives (codes "1")
unfolding physical_lines line_groups joined before_comment unescaped replaced_behind parse closed branches file_at meaning chosen all_turns blocks_checked turns_from equals_at in_at text_at mods_at ref_at rows.begins is_word is_left_out_word begins more_at inner_at is_call skip_blanks all_modified each_behind truth_of any_truth all_truth without_front without_back parts.joined found_at digits parts_of semicolon_from place_from alternatives_from spelled_in
row_include = refl

-- a file of `-I`, beside which it includes another one
row_include_near : read_with ((codes "near/i", lines (codes ".include \"j\"" ∷ [])) ∷ (codes "near/j", lines (codes "V=2" ∷ [])) ∷ []) (codes ".include \"i\"" ∷ [])
    ≡ gives (codes "2")
unfolding physical_lines line_groups joined before_comment unescaped replaced_behind parse closed branches file_at meaning chosen all_turns blocks_checked turns_from equals_at in_at text_at mods_at ref_at rows.begins is_word is_left_out_word begins more_at inner_at is_call skip_blanks all_modified each_behind truth_of any_truth all_truth without_front without_back parts.joined found_at digits parts_of semicolon_from place_from alternatives_from spelled_in
row_include_near = refl

-- a file in brackets is sought in the system directories alone
row_include_system : read_with ((codes "i", []) ∷ (codes "/sys/i", lines (codes "V=3" ∷ [])) ∷ []) (codes ".include <i>" ∷ [])
    ≡ gives (codes "3")
unfolding physical_lines line_groups joined before_comment unescaped replaced_behind parse closed branches file_at meaning chosen all_turns blocks_checked turns_from equals_at in_at text_at mods_at ref_at rows.begins is_word is_left_out_word begins more_at inner_at is_call skip_blanks all_modified each_behind truth_of any_truth all_truth without_front without_back parts.joined found_at digits parts_of semicolon_from place_from alternatives_from spelled_in
row_include_system = refl

-- a fault in an included file has its path
row_include_fault : read_with ((codes "near/i", lines (codes "V=1" ∷ codes "x" ∷ [])) ∷ []) (codes ".include \"i\"" ∷ [])
    ≡ fails (Bad (codes "near/i") 2 what.NoOperator)
unfolding physical_lines line_groups joined before_comment unescaped replaced_behind parse closed branches file_at meaning chosen all_turns blocks_checked turns_from equals_at in_at text_at mods_at ref_at rows.begins is_word is_left_out_word begins more_at inner_at is_call skip_blanks all_modified each_behind truth_of any_truth all_truth without_front without_back parts.joined found_at digits parts_of semicolon_from place_from alternatives_from spelled_in
row_include_fault = refl

-- a missing file
row_include_missing : read (codes ".include \"i\"" ∷ [])
    ≡ bad 1 (what.Include (codes "i"))
unfolding physical_lines line_groups joined before_comment unescaped replaced_behind parse closed branches file_at meaning chosen all_turns blocks_checked turns_from equals_at in_at text_at mods_at ref_at rows.begins is_word is_left_out_word begins more_at inner_at is_call skip_blanks all_modified each_behind truth_of any_truth all_truth without_front without_back parts.joined found_at digits parts_of semicolon_from place_from alternatives_from spelled_in
row_include_missing = refl

-- which may be passed over
row_include_optional : read (codes ".-include \"i\"" ∷ codes "V=1" ∷ [])
    ≡ gives (codes "1")
unfolding physical_lines line_groups joined before_comment unescaped replaced_behind parse closed branches file_at meaning chosen all_turns blocks_checked turns_from equals_at in_at text_at mods_at ref_at rows.begins is_word is_left_out_word begins more_at inner_at is_call skip_blanks all_modified each_behind truth_of any_truth all_truth without_front without_back parts.joined found_at digits parts_of semicolon_from place_from alternatives_from spelled_in
row_include_optional = refl

-- what names no file
row_include_form : read (codes ".-include i" ∷ [])
    ≡ bad 1 what.IncludeForm
unfolding physical_lines line_groups joined before_comment unescaped replaced_behind parse closed branches file_at meaning chosen all_turns blocks_checked turns_from equals_at in_at text_at mods_at ref_at rows.begins is_word is_left_out_word begins more_at inner_at is_call skip_blanks all_modified each_behind truth_of any_truth all_truth without_front without_back parts.joined found_at digits parts_of semicolon_from place_from alternatives_from spelled_in
row_include_form = refl

-- an included file closes the group
row_group : read_with ((codes "i", []) ∷ []) (codes "t:" ∷ codes "\ta" ∷ codes ".include \"i\"" ∷ codes "\tb" ∷ [])
    ≡ bad 4 what.LostCommand
unfolding physical_lines line_groups joined before_comment unescaped replaced_behind parse closed branches file_at meaning chosen all_turns blocks_checked turns_from equals_at in_at text_at mods_at ref_at rows.begins is_word is_left_out_word begins more_at inner_at is_call skip_blanks all_modified each_behind truth_of any_truth all_truth without_front without_back parts.joined found_at digits parts_of semicolon_from place_from alternatives_from spelled_in
row_group = refl

-- other directives do not
row_group_open : read (codes "t:" ∷ codes "\ta" ∷ codes ".if 1" ∷ codes ".undef A" ∷ codes "\tb" ∷ codes ".endif" ∷ codes "V=1" ∷ [])
    ≡ gives (codes "1")
unfolding physical_lines line_groups joined before_comment unescaped replaced_behind parse closed branches file_at meaning chosen all_turns blocks_checked turns_from equals_at in_at text_at mods_at ref_at rows.begins is_word is_left_out_word begins more_at inner_at is_call skip_blanks all_modified each_behind truth_of any_truth all_truth without_front without_back parts.joined found_at digits parts_of semicolon_from place_from alternatives_from spelled_in
row_group_open = refl

-- a file that includes itself
row_itself : read_with ((codes "i", lines (codes ".include \"i\"" ∷ [])) ∷ []) (codes ".include \"i\"" ∷ [])
    ≡ fails (Limit Includes 64)
unfolding physical_lines line_groups joined before_comment unescaped replaced_behind parse closed branches file_at meaning chosen all_turns blocks_checked turns_from equals_at in_at text_at mods_at ref_at rows.begins is_word is_left_out_word begins more_at inner_at is_call skip_blanks all_modified each_behind truth_of any_truth all_truth without_front without_back parts.joined found_at digits parts_of semicolon_from place_from alternatives_from spelled_in
row_itself = refl

-- no makefile
row_no_file : shown (reading (answers []) env order) (codes "V")
    ≡ fails (NoFile (codes "makefile"))
unfolding physical_lines line_groups joined before_comment unescaped replaced_behind parse closed branches file_at meaning chosen all_turns blocks_checked turns_from equals_at in_at text_at mods_at ref_at rows.begins is_word is_left_out_word begins more_at inner_at is_call skip_blanks all_modified each_behind truth_of any_truth all_truth without_front without_back parts.joined found_at digits parts_of semicolon_from place_from alternatives_from spelled_in
row_no_file = refl

-- the second default name
row_second : shown (reading (answers ((codes "Makefile", lines (codes "V=1" ∷ [])) ∷ [])) env order) (codes "V")
    ≡ gives (codes "1")
unfolding physical_lines line_groups joined before_comment unescaped replaced_behind parse closed branches file_at meaning chosen all_turns blocks_checked turns_from equals_at in_at text_at mods_at ref_at rows.begins is_word is_left_out_word begins more_at inner_at is_call skip_blanks all_modified each_behind truth_of any_truth all_truth without_front without_back parts.joined found_at digits parts_of semicolon_from place_from alternatives_from spelled_in
row_second = refl
