-- The makefile of a program by the definitions: what it says, its plan, its tasks, and its clean build.
use Rattle.std.specs.Fmt.{digits}
use Rattle.std.proofs.Common.{◌≡◌, ◌==◌, ℕ, zero, suc, List, [], ◌∷◌, true, false, Some, None, Ok, if◌then◌else◌}
use Rattle.std.proofs.Common.{refl, codes}
use Rattle.std.proofs.lemmas.Bool.{false≢true}
use Rattle.mk_ast.specs.References.{mods_at, ref_at}
use Rattle.mk_ast.specs.Rows as rows
use Rattle.mk_ast.specs.Rows.{is_word, is_left_out_word}
use Rattle.mk_ast.specs.Text.{text_at}
use Rattle.mk_blocks.specs.Acts.{looked}
use Rattle.mk_blocks.specs.Blocks.{parse, closed, branches}
use Rattle.mk_blocks.specs.Meaning.{file_at, meaning, chosen}
use Rattle.mk_blocks.specs.OpenBlocks.{blocks_checked}
use Rattle.mk_blocks.specs.Runs.{all_turns}
use Rattle.mk_turns.specs.Turns.{turns_from}
use Rattle.mk_bytes.specs.Bytes.{newline}
use Rattle.mk_closure.specs.Deciding.{linked}
use Rattle.mk_closure.specs.Walks.{walked, all_met}
use Rattle.mk_cond.specs.Conditions.{more_at, inner_at}
use Rattle.mk_cond.specs.Terms.{begins, is_call, skip_blanks}
use Rattle.mk_decision.specs.Decisions.{Work, source_names}
use Rattle.mk_decision.specs.Makers.{work_on}
use Rattle.mk_depline.specs.Braces.{place_from, alternatives_from, spelled_in}
use Rattle.mk_directive.specs.Arguments.{in_at}
use Rattle.mk_values.specs.Chains.{all_modified, each_behind}
use Rattle.mk_values.specs.Conditions.{truth_of, any_truth, all_truth, without_front, without_back}
use Rattle.mk_values.specs.Parts as parts
use Rattle.mk_values.specs.Value.{found_at}
use Rattle.mk_for.specs.Substitution.{replaced_behind}
use Rattle.mk_glob.specs.Patterns.{parts_of}
use Rattle.mk_graph.specs.Macros.{all_parted, parted}
use Rattle.mk_graph.specs.Marks.{marked, no_marks}
use Rattle.mk_graph.specs.Walks.{visited, all_visited}
use Rattle.mk_graph.specs.declared.Made.{Made}
use Rattle.mk_graph.specs.declared.attr.Attr.TheVariants.{Target, Phony}
use Rattle.mk_lines.specs.Comment.{before_comment, unescaped}
use Rattle.mk_lines.specs.Lines.{physical_lines, line_groups, joined}
use Rattle.mk_makefile.specs.Assignments.{equals_at}
use Rattle.mk_makefile.specs.Dependencies.{semicolon_from}
use Rattle.mk_commands.specs.Meaning.{language}
use Rattle.mk_plan.specs.Oodate.{refers}
use Rattle.mk_plan.specs.Plans.{planned}
use Rattle.mk_plan.specs.Tasks.{lines_from, setting_of, task_with}
use Rattle.mk_plan.specs.declared.plan.PlanNode.{PlanNode}
use Rattle.mk_reader.specs.OnMaps.{reading_on}
use Rattle.mk_suffix.specs.Chains.{all_extended}
use Rattle.mk_world.specs.Deeds.{Spot, Store, put_all}
use Rattle.mk_world.specs.declared.command.TaskLine.{TaskLine}
use Rattle.mk_clean.specs.Clean.{CleanJob}
use Rattle.mk_declared.specs.Testing.{is_declared, is_source}
use Rattle.std.specs.List.{AllByRecursion}
use Rattle.mk_decision.specs.Decisions.{mode_at}
use Rattle.mk_oodate.specs.Fresh.{GoesByRecords}
use Rattle.mk_plan.specs.Plans.{node_at}
use Rattle.mk_headline.specs.Plans.{clean_plan, has_job, is_meta_path, makes_file}
use Rattle.mk_headline.specs.Premises.{GoesByMetaMode}
use Rattle.mk_looks.specs.Looks.{looks_for_newer}
use Rattle.mk_plan.specs.Newer.{names_from, task_names}
use Rattle.mk_run.specs.CleanRuns.{bare, by_files, clean_files_of, clean_jobs_of, task_on}
use Rattle.mk_example.specs.Copies.{env}
use Rattle.mk_example.specs.Programs.{Sources, b_command, gen_command, makefile, order, program}

-- the makefile and the sources, and no `local.h`, whatever else stands

abbrev pub spots : Sources → List Spot
spots s =
    record { path = codes "local.h"; bytes = None } ∷ record { path = codes "b.c"; bytes = Some s.b }
    ∷ record { path = codes "a.c"; bytes = Some s.a } ∷ record { path = codes "spec"; bytes = Some s.spec }
    ∷ record { path = codes "makefile"; bytes = Some makefile } ∷ []

abbrev pub files : Store → Sources → Store
files others s = put_all others (spots s)

-- what the makefile leaves
abbrev pub made : Made
made = record {
  scopes = record {
    env = [];
    globals =
        record { name = codes ".CURDIR"; value = codes "/w" }
        ∷ record { name = codes ".newline"; value = newline ∷ [] }
        ∷ record { name = codes "MAKE"; value = codes "bmake" }
        ∷ record { name = codes ".TARGETS"; value = [] }
        ∷ record {
          name = codes ".MAKE.MODE";
          value = codes "meta curdirOk=yes missing-meta=yes missing-filemon=yes";
        } ∷ [];
    commands = [];
    env_first = false;
    cwd = codes "/w";
  };
  graph =
      record {
        name = codes "all";
        sources = 1 ∷ [];
        ordered = [];
        commands = [];
        marks = marked (marked no_marks Target) Phony;
      }
      ∷ record {
        name = codes "prog";
        sources = 2 ∷ 3 ∷ [];
        ordered = [];
        commands = codes "cat prog a.o b.o" ∷ [];
        marks = marked no_marks Target;
      }
      ∷ record {
        name = codes "a.o";
        sources = 4 ∷ 5 ∷ [];
        ordered = [];
        commands = codes "cat tmp a.c gen.h" ∷ codes "copy tmp a.o" ∷ [];
        marks = marked no_marks Target;
      }
      ∷ record {
        name = codes "b.o";
        sources = 6 ∷ [];
        ordered = [];
        commands = b_command ∷ [];
        marks = marked no_marks Target;
      }
      ∷ record { name = codes "a.c"; sources = []; ordered = []; commands = []; marks = no_marks }
      ∷ record {
        name = codes "gen.h";
        sources = 7 ∷ [];
        ordered = [];
        commands = gen_command ∷ [];
        marks = marked no_marks Target;
      }
      ∷ record { name = codes "b.c"; sources = []; ordered = []; commands = []; marks = no_marks }
      ∷ record { name = codes "spec"; sources = []; ordered = []; commands = []; marks = no_marks } ∷ [];
  suffixes = [];
  paths = [];
  main = codes "all" ∷ [];
  mode = record {
    meta = true;
    curdir_ok = true;
    missing_meta = true;
    missing_filemon = true;
    nofilemon = false;
    ignore_cmd = false;
    silent = false;
    one_job = false;
    delete_on_error = false;
    ignore_paths = [];
    exports = [];
  };
}

abbrev pub nodes : List PlanNode
nodes =
    record { name = codes "a.c"; sources = []; before = []; commands = []; implied = []; marks = no_marks }
    ∷ record { name = codes "spec"; sources = []; before = []; commands = []; implied = []; marks = no_marks }
    ∷ record {
      name = codes "gen.h";
      sources = 1 ∷ [];
      before = 1 ∷ [];
      commands = gen_command ∷ [];
      implied = [];
      marks = marked no_marks Target;
    }
    ∷ record {
      name = codes "a.o";
      sources = 0 ∷ 2 ∷ [];
      before = 0 ∷ 2 ∷ [];
      commands = codes "cat tmp a.c gen.h" ∷ codes "copy tmp a.o" ∷ [];
      implied = [];
      marks = marked no_marks Target;
    }
    ∷ record { name = codes "b.c"; sources = []; before = []; commands = []; implied = []; marks = no_marks }
    ∷ record {
      name = codes "b.o";
      sources = 4 ∷ [];
      before = 4 ∷ [];
      commands = b_command ∷ [];
      implied = [];
      marks = marked no_marks Target;
    }
    ∷ record {
      name = codes "prog";
      sources = 3 ∷ 5 ∷ [];
      before = 3 ∷ 5 ∷ [];
      commands = codes "cat prog a.o b.o" ∷ [];
      implied = [];
      marks = marked no_marks Target;
    }
    ∷ record {
      name = codes "all";
      sources = 6 ∷ [];
      before = 6 ∷ [];
      commands = [];
      implied = [];
      marks = marked (marked no_marks Target) Phony;
    } ∷ []

pub planned-is : (others : Store) (s : Sources) → planned (files others s) made [] false ≡ Ok nodes
unfolding all_extended linked walked all_met visited all_visited
planned-is others s = refl

abbrev pub work : Work
work = work_on nodes made order.flags

abbrev pub start : Store → Sources → Store
start others s = bare nodes (files others s)

-- the makefile alone is asked for, and this is what it leaves
pub reading-is : (others : Store) (s : Sources)
    → reading_on language (files others s) (λ dir. None) env order
    ≡ record { acts = looked (codes "makefile") ∷ []; answer = Ok made }
unfolding physical_lines line_groups joined before_comment unescaped replaced_behind parse closed branches file_at meaning chosen all_turns blocks_checked turns_from equals_at in_at text_at mods_at ref_at rows.begins is_word is_left_out_word begins more_at inner_at is_call skip_blanks all_modified each_behind truth_of any_truth all_truth without_front without_back parts.joined found_at digits parts_of semicolon_from place_from alternatives_from spelled_in parted all_parted
reading-is others s = refl

pub clean-reading-is : (others : Store) (s : Sources)
    → reading_on language (start others s) (λ dir. None) env order
    ≡ record { acts = looked (codes "makefile") ∷ []; answer = Ok made }
unfolding physical_lines line_groups joined before_comment unescaped replaced_behind parse closed branches file_at meaning chosen all_turns blocks_checked turns_from equals_at in_at text_at mods_at ref_at rows.begins is_word is_left_out_word begins more_at inner_at is_call skip_blanks all_modified each_behind truth_of any_truth all_truth without_front without_back parts.joined found_at digits parts_of semicolon_from place_from alternatives_from spelled_in parted all_parted
clean-reading-is others s = refl

pub clean-planned-is : (others : Store) (s : Sources) → planned (start others s) made [] false ≡ Ok nodes
unfolding all_extended linked walked all_met visited all_visited
clean-planned-is others s = refl

abbrev line : List ℕ → TaskLine
line text = record { text = text; ignore = false; silent = false; always = false; compared = true }

-- the lines of each node
abbrev pub lines : ℕ → List TaskLine
lines node =
    if node == 2 then line gen_command ∷ []
    else if node == 3 then line (codes "cat tmp a.c gen.h") ∷ line (codes "copy tmp a.o") ∷ []
    else if node == 5 then line b_command ∷ []
    else if node == 6 then line (codes "cat prog a.o b.o") ∷ []
    else []

abbrev pub jobs : Store → Sources → List CleanJob
jobs others s = clean_jobs_of language work (start others s)

pub jobs-declared : (others : Store) (s : Sources)
    → is_declared (clean_plan work lines) 8 (jobs others s) ≡ true
unfolding lines_from text_at parts.joined
jobs-declared others s = refl

-- no job changes the makefile, a source or `local.h`, and no build leaves them
pub sources-are : (others : Store) (s : Sources)
    → AllByRecursion (λ spot. is_source (clean_plan work lines) (jobs others s) spot.path ≡ true) (spots s)
unfolding lines_from text_at parts.joined
sources-are others s = (refl, (refl, (refl, (refl, (refl, tt)))))

pub prog-is : (others : Store) (s : Sources)
    → clean_files_of language work (start others s) (codes "prog") ≡ Some (program s)
unfolding lines_from text_at parts.joined
prog-is others s = refl

-- the task of each node with commands at its turn
abbrev pub HasTheTask : Store → Sources → CleanJob → Type 0
HasTheTask others s one =
    task_on work one.node one.before
    ≡ Ok (task_with work.variables work.mode.exports (node_at work.plan one.node).name (lines one.node), [])

-- and no name of the newer sources in its commands
abbrev pub LooksForNone : CleanJob → Type 0
LooksForNone one =
    looks_for_newer (task_names (setting_of work.variables work.lists (by_files one.before)) work.suffixes work.plan
    one.node (source_names work one.node) work.mode work.flags []) ≡ false

pub tasks-are : (others : Store) (s : Sources)
    → AllByRecursion (λ one. HasTheTask others s one × LooksForNone one) (jobs others s)
unfolding lines_from names_from text_at parts.joined refers
tasks-are others s = ((refl, refl), ((refl, refl), ((refl, refl), ((refl, refl), tt))))

-- the build goes by meta mode
pub by-meta-mode : GoesByMetaMode work lines
by-meta-mode = record {
  by_records = records;
  compared = compared;
  none_ignored = refl;
  no_meta_names = names;
}
  where
    records : (node : ℕ) → makes_file (node_at nodes node) ≡ true → GoesByRecords (mode_at work node)
    records zero makes = absurd (false≢true makes)
    records (suc zero) makes = absurd (false≢true makes)
    records (suc (suc (suc (suc zero)))) makes = absurd (false≢true makes)
    records (suc (suc (suc (suc (suc (suc (suc zero))))))) makes = absurd (false≢true makes)
    records (suc (suc (suc (suc (suc (suc (suc (suc node)))))))) makes = absurd (false≢true makes)
    records node makes = record {
      meta = refl;
      missing_meta = refl;
      missing_filemon = refl;
      nofilemon = refl;
      ignore_cmd = refl;
      count_only = refl;
    }

    past : (node : ℕ) → makes_file (node_at nodes (suc (suc (suc (suc (suc (suc (suc node)))))))) ≡ true → ⊥
    past zero makes = false≢true makes
    past (suc node) makes = false≢true makes

    compared : (node : ℕ) → makes_file (node_at nodes node) ≡ true
        → AllByRecursion (λ (line : TaskLine). line.compared ≡ true) (lines node)
    compared (suc (suc (suc (suc (suc (suc (suc node))))))) makes = absurd (past node makes)
    compared (suc (suc zero)) makes = (refl, tt)
    compared (suc (suc (suc zero))) makes = (refl, (refl, tt))
    compared (suc (suc (suc (suc (suc zero))))) makes = (refl, tt)
    compared (suc (suc (suc (suc (suc (suc zero)))))) makes = (refl, tt)
    compared node makes = tt

    names : (node : ℕ) → has_job (node_at nodes node) ≡ true → is_meta_path (node_at nodes node).name ≡ false
    names (suc (suc (suc (suc (suc (suc (suc (suc node)))))))) has = absurd (false≢true has)
    names node has = refl
