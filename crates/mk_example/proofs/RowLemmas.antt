-- The example by the definitions: what its makefile says, its plan, its tasks, and its clean build.
use Rattle.std.specs.Fmt.{digits}
use Rattle.std.proofs.Common.{◌≡◌, ◌∙◌, ℕ, zero, suc, List, [], ◌∷◌, ◌++◌, Bool, true, false, Option, Some, None, Result, Ok, Err, if◌then◌else◌}
use Rattle.std.proofs.Common.{refl, sym, ap, codes, arith}
use Rattle.std.proofs.lemmas.Bool.{false≢true}
use Rattle.std.specs.Str.{bytes_eq}
use Rattle.mk_ast.specs.References.{mods_at, ref_at}
use Rattle.mk_ast.specs.Rows as rows
use Rattle.mk_ast.specs.Rows.{is_word, is_left_out_word}
use Rattle.mk_ast.specs.Text.{text_at}
use Rattle.mk_blocks.specs.Acts.{Act, wrote, looked, dated, listed, ran}
use Rattle.mk_blocks.specs.Blocks.{parse, closed, branches}
use Rattle.mk_blocks.specs.Meaning.{file_at, meaning, chosen}
use Rattle.mk_blocks.specs.OpenBlocks.{blocks_checked}
use Rattle.mk_blocks.specs.Outcomes.{Outcome, followed, ◌>>=◌}
use Rattle.mk_blocks.specs.Runs.{all_turns, run_at}
use Rattle.mk_turns.specs.Turns.{turns_from}
use Rattle.mk_bytes.specs.Bytes.{newline}
use Rattle.mk_cli.specs.Orders.{no_order}
use Rattle.mk_closure.specs.Deciding.{linked}
use Rattle.mk_closure.specs.Walks.{walked, all_met}
use Rattle.mk_cond.specs.Conditions.{more_at, inner_at}
use Rattle.mk_cond.specs.Terms.{begins, is_call, skip_blanks}
use Rattle.mk_decision.specs.Decisions.{Work, asked_task}
use Rattle.mk_decision.specs.Makers.{work_on}
use Rattle.mk_depline.specs.Braces.{place_from, alternatives_from, spelled_in}
use Rattle.mk_directive.specs.Arguments.{in_at}
use Rattle.mk_values.specs.Chains.{all_modified, each_behind}
use Rattle.mk_values.specs.Conditions.{truth_of, any_truth, all_truth, without_front, without_back}
use Rattle.mk_values.specs.Parts as parts
use Rattle.mk_values.specs.Value.{found_at}
use Rattle.mk_filemon.proofs.PathLemmas.{same_bytes}
use Rattle.mk_for.specs.Substitution.{replaced_behind}
use Rattle.mk_glob.specs.Patterns.{parts_of}
use Rattle.mk_graph.specs.Macros.{all_parted, parted}
use Rattle.mk_graph.specs.Marks.{marked, no_marks}
use Rattle.mk_graph.specs.Walks.{visited, all_visited}
use Rattle.mk_graph.specs.declared.Made.{Made}
use Rattle.mk_graph.specs.declared.attr.Attr.TheVariants.{Target}
use Rattle.mk_lines.specs.Comment.{before_comment, unescaped}
use Rattle.mk_lines.specs.Lines.{physical_lines, line_groups, joined}
use Rattle.mk_makefile.specs.Acts.{asked_in}
use Rattle.mk_makefile.specs.Assignments.{equals_at}
use Rattle.mk_makefile.specs.Dependencies.{semicolon_from}
use Rattle.mk_makefile.specs.Orders.{first_moment}
use Rattle.mk_makefile.specs.Questions.{Answers}
use Rattle.mk_makefile.specs.Reading.{all_read, run_read, reading}
use Rattle.mk_commands.specs.Meaning.{language}
use Rattle.mk_plan.specs.Oodate.{refers}
use Rattle.mk_plan.specs.PlanLaws.{plan_names}
use Rattle.mk_plan.specs.Plans.{planned}
use Rattle.mk_plan.specs.Tasks.{lines_from, task_with}
use Rattle.mk_plan.specs.declared.plan.PlanNode.{PlanNode}
use Rattle.mk_pool.specs.Pool.{AreDistinct}
use Rattle.mk_reader.specs.OnMaps.{reading_on}
use Rattle.mk_run.specs.CleanRuns.{bare}
use Rattle.mk_suffix.specs.Chains.{all_extended}
use Rattle.mk_world.specs.Deeds.{Store, put}
use Rattle.mk_world.specs.Looks.{Dated}
use Rattle.mk_world.specs.declared.command.TaskLine.{TaskLine}
use Rattle.mk_example.specs.Copies.{env, makefile}

-- the files: the makefile and the source, whatever else stands

abbrev pub with_file : Store → List ℕ → List ℕ → Store
with_file files path bytes = put files (record { path = path; bytes = Some bytes })

abbrev pub files : Store → List ℕ → Store
files others bytes = with_file (with_file others (codes "makefile") makefile) (codes "a") bytes

-- what stands at a path may be put there
pub put-there : (all : Store) (path bytes : List ℕ) → all path ≡ Some bytes → with_file all path bytes ≡ all
put-there all path bytes is = λ i. λ other. there other (bytes_eq path other) refl i
  where
    there : (other : List ℕ) (b : Bool) → bytes_eq path other ≡ b
        → (if bytes_eq path other then Some bytes else all other) ≡ all other
    there other true same = rw same (sym is ∙ ap all (same_bytes path other same))
    there other false same = rw same refl

-- what is read

-- the answers of a world whose first file is the makefile
abbrev pub answers : Answers → Answers
answers others = record {
  exists = others.exists;
  contents = λ place path. first_is place path;
  listings = others.listings;
  outputs = others.outputs;
}
  where
    first_is : ℕ → List ℕ → Option (List ℕ)
    first_is zero path = Some makefile
    first_is (suc place) path = others.contents (suc place) path

-- what the makefile leaves
abbrev pub made : Made
made = record {
  scopes = record {
    env = [];
    globals =
        record { name = codes ".CURDIR"; value = codes "/w" }
        ∷ record { name = codes ".newline"; value = newline ∷ [] }
        ∷ record { name = codes "MAKE"; value = codes "bmake" }
        ∷ record { name = codes ".TARGETS"; value = [] }
        ∷ record {
          name = codes ".MAKE.MODE";
          value = codes "meta curdirOk=yes missing-meta=yes missing-filemon=yes";
        } ∷ [];
    commands = [];
    env_first = false;
    cwd = codes "/w";
  };
  graph =
      record {
        name = codes "t";
        sources = 1 ∷ [];
        ordered = [];
        commands = codes "copy a t" ∷ [];
        marks = marked no_marks Target;
      }
      ∷ record { name = codes "a"; sources = []; ordered = []; commands = []; marks = no_marks } ∷ [];
  suffixes = [];
  paths = [];
  main = codes "t" ∷ [];
  mode = record {
    meta = true;
    curdir_ok = true;
    missing_meta = true;
    missing_filemon = true;
    nofilemon = false;
    ignore_cmd = false;
    silent = false;
    one_job = false;
    delete_on_error = false;
    ignore_paths = [];
    exports = [];
  };
}

-- the makefile alone is asked for, and this is what it leaves
pub reading-is : (others : Answers)
    → reading (answers others) env no_order ≡ record { acts = looked (codes "makefile") ∷ []; answer = Ok made }
unfolding physical_lines line_groups joined before_comment unescaped replaced_behind parse closed branches file_at meaning chosen all_turns blocks_checked turns_from equals_at in_at text_at mods_at ref_at rows.begins is_word is_left_out_word begins more_at inner_at is_call skip_blanks all_modified each_behind truth_of any_truth all_truth without_front without_back parts.joined found_at digits parts_of semicolon_from place_from alternatives_from spelled_in parted all_parted
reading-is others = refl

abbrev pub nodes : List PlanNode
nodes =
    record {
      name = codes "a";
      sources = [];
      before = [];
      commands = [];
      implied = [];
      marks = no_marks;
    }
    ∷ record {
      name = codes "t";
      sources = 0 ∷ [];
      before = 0 ∷ [];
      commands = codes "copy a t" ∷ [];
      implied = [];
      marks = marked no_marks Target;
    } ∷ []

abbrev pub work : Work
work = work_on nodes made no_order.flags

pub planned-is : (others : Store) (bytes : List ℕ) → planned (files others bytes) made [] false ≡ Ok nodes
unfolding all_extended linked walked all_met visited all_visited
planned-is others bytes = refl

-- the lines of its task
abbrev pub lines : List TaskLine
lines = record { text = codes "copy a t"; ignore = false; silent = false; always = false; compared = true } ∷ []

pub task-is : (newer : List (List ℕ)) (asked : List Dated)
    → asked_task work 1 newer asked ≡ Ok (task_with work.variables work.mode.exports (codes "t") lines, [])
unfolding lines_from text_at parts.joined refers
task-is newer asked = refl

-- what the clean build reads and plans

pub clean-reading-is : (others : Store) (bytes : List ℕ)
    → reading_on language (bare nodes (files others bytes)) (λ dir. None) env no_order
    ≡ record { acts = looked (codes "makefile") ∷ []; answer = Ok made }
unfolding physical_lines line_groups joined before_comment unescaped replaced_behind parse closed branches file_at meaning chosen all_turns blocks_checked turns_from equals_at in_at text_at mods_at ref_at rows.begins is_word is_left_out_word begins more_at inner_at is_call skip_blanks all_modified each_behind truth_of any_truth all_truth without_front without_back parts.joined found_at digits parts_of semicolon_from place_from alternatives_from spelled_in parted all_parted
clean-reading-is others bytes = refl

pub clean-planned-is : (others : Store) (bytes : List ℕ)
    → planned (bare nodes (files others bytes)) made [] false ≡ Ok nodes
unfolding all_extended linked walked all_met visited all_visited
clean-planned-is others bytes = refl

-- the first that reading asks for is the makefile, whatever is answered

abbrev pub BeginsWith : {A E : Type 0} → List ℕ → Outcome A E → Type 0
BeginsWith path outcome = (rest : List Act) × (asked_in outcome.acts ≡ looked path ∷ rest)

asked-append : (acts more : List Act) → asked_in (acts ++ more) ≡ asked_in acts ++ asked_in more
asked-append [] more = refl
asked-append (wrote message ∷ acts) more = asked-append acts more
asked-append (looked path ∷ acts) more = ap (λ l. looked path ∷ l) (asked-append acts more)
asked-append (dated path ∷ acts) more = ap (λ l. dated path ∷ l) (asked-append acts more)
asked-append (listed dir ∷ acts) more = ap (λ l. listed dir ∷ l) (asked-append acts more)
asked-append (ran cmd ∷ acts) more = ap (λ l. ran cmd ∷ l) (asked-append acts more)

begins-then : {A B E : Type 0} (path : List ℕ) (acts rest : List Act) (answer : Result A E) (next : A → Outcome B E)
    → asked_in acts ≡ looked path ∷ rest → BeginsWith path (followed acts answer next)
begins-then path acts rest (Ok given) next is = (
  rest ++ asked_in (next given).acts,
  asked-append acts (next given).acts ∙ ap (λ l. l ++ asked_in (next given).acts) is,
)
begins-then path acts rest (Err fault) next is = (rest, is)

begins-behind : {A B E : Type 0} (path : List ℕ) (outcome : Outcome A E) (next : A → Outcome B E)
    → BeginsWith path outcome → BeginsWith path (outcome >>= next)
begins-behind path outcome next begins =
    begins-then path outcome.acts begins.0 outcome.answer next begins.1

pub reading-first : (others : Answers) → BeginsWith (codes "makefile") (reading others env no_order)
reading-first others =
    begins-behind (codes "makefile") (run_read others (run_at (first_moment env no_order) 0)) _
    (begins-behind (codes "makefile") (all_read others (run_at (first_moment env no_order) 0)) _ (_, refl))

-- no two nodes have one name
pub planned-differ : AreDistinct (plan_names nodes)
planned-differ zero zero d less within same = absurd (omega (arith, less))
planned-differ zero (suc zero) d less within same =
    absurd (false≢true (ap (bytes_eq (codes "t")) same))
planned-differ zero (suc (suc j)) d less within same = absurd (omega (arith, within))
planned-differ (suc i) j d less within same = absurd (omega (arith, less, within))
