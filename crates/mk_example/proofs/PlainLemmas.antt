-- The files of the example are plain, and so they are sound.
use Rattle.std.specs.Fmt.{digits}
use Rattle.std.proofs.Common.{◌≡◌, ◌∙◌, ℕ, zero, suc, ◌-◌, nat_lt, List, [], ◌∷◌, Bool, true, false, None, Ok, get_or, if◌then◌else◌}
use Rattle.std.proofs.Common.{inl, inr, refl, sym, ap, subst, codes, arith}
use Rattle.std.proofs.lemmas.Bool.{false≢true}
use Rattle.std.specs.List.{AllByRecursion}
use Rattle.mk_ast.specs.References.{mods_at, ref_at}
use Rattle.mk_ast.specs.Rows as rows
use Rattle.mk_ast.specs.Rows.{is_word, is_left_out_word}
use Rattle.mk_ast.specs.Text.{text_at}
use Rattle.mk_blocks.specs.Acts.{looked}
use Rattle.mk_blocks.specs.Blocks.{parse, closed, branches}
use Rattle.mk_blocks.specs.Meaning.{file_at, meaning, chosen}
use Rattle.mk_blocks.specs.OpenBlocks.{blocks_checked}
use Rattle.mk_blocks.specs.Runs.{all_turns}
use Rattle.mk_clean.specs.Clean.{IsAmong}
use Rattle.mk_clean.specs.Declared.{IsDeclared}
use Rattle.mk_cli.specs.Orders.{no_order}
use Rattle.mk_closure.specs.Deciding.{Walk, linked}
use Rattle.mk_closure.specs.Names.{name_in}
use Rattle.mk_closure.specs.Parts.{State}
use Rattle.mk_closure.specs.Walks.{walked, all_met}
use Rattle.mk_closure.specs.Walks as walk
use Rattle.mk_closure.specs.declared.part.Way.TheVariants.{Own}
use Rattle.mk_commands.specs.Meaning.{language}
use Rattle.mk_cond.specs.Conditions.{more_at, inner_at}
use Rattle.mk_cond.specs.Terms.{begins, is_call, skip_blanks}
use Rattle.mk_decision.specs.Decisions.{source_names}
use Rattle.mk_depline.specs.Braces.{place_from, alternatives_from, spelled_in}
use Rattle.mk_directive.specs.Arguments.{in_at}
use Rattle.mk_example.proofs.CopyLemmas.{by-meta-mode, declared, jobs-are}
use Rattle.mk_example.proofs.RowLemmas.{files, lines, made, nodes, planned-is, put-there, with_file, work}
use Rattle.mk_example.specs.Copies.{CopiedFilesAreSound, env, makefile}
use Rattle.mk_for.specs.Substitution.{replaced_behind}
use Rattle.mk_glob.specs.Patterns.{parts_of}
use Rattle.mk_graph.specs.Macros.{all_parted, parted}
use Rattle.mk_graph.specs.Nodes.{node_at as graph_node}
use Rattle.mk_graph.specs.declared.Made.{Made}
use Rattle.mk_headline.specs.Plans.{clean_plan, has_job}
use Rattle.mk_lines.specs.Comment.{before_comment, unescaped}
use Rattle.mk_lines.specs.Lines.{physical_lines, line_groups, joined}
use Rattle.mk_looks.specs.Looks.{looks_for_newer}
use Rattle.mk_makefile.specs.Assignments.{equals_at}
use Rattle.mk_makefile.specs.Dependencies.{semicolon_from}
use Rattle.mk_makefile.specs.ReadFaults.{Reads}
use Rattle.mk_plain.proofs.PlainLemmas.{plain_files_are_sound}
use Rattle.mk_plain.specs.Names.{AreMadeAlike, IsMadeAlike}
use Rattle.mk_plain.specs.Plain.{ArePlain, HasPlainTask, IsAskedPlainly}
use Rattle.mk_plan.specs.Newer.{names_from, task_names}
use Rattle.mk_plan.specs.Oodate.{refers}
use Rattle.mk_plan.specs.Plans.{node_at, seeking_of}
use Rattle.mk_plan.specs.Tasks.{lines_from, setting_of, task_with}
use Rattle.mk_reader.specs.OnMaps.{reading_on}
use Rattle.mk_run.specs.CleanRuns.{bare, by_files, task_on}
use Rattle.mk_sound.specs.Files.{AreSound}
use Rattle.mk_suffix.specs.Chains.{all_extended}
use Rattle.mk_turns.specs.Turns.{turns_from}
use Rattle.mk_values.specs.Chains.{all_modified, each_behind}
use Rattle.mk_values.specs.Conditions.{truth_of, any_truth, all_truth, without_front, without_back}
use Rattle.mk_values.specs.Parts as parts
use Rattle.mk_values.specs.Value.{found_at}
use Rattle.mk_world.specs.Deeds.{Store}

-- what is read on the files as they stand
present-reading-is : (others : Store) (bytes : List ℕ)
    → reading_on language (files others bytes) (λ dir. None) env no_order
    ≡ record { acts = looked (codes "makefile") ∷ []; answer = Ok made }
unfolding physical_lines line_groups joined before_comment unescaped replaced_behind parse closed branches file_at meaning chosen all_turns blocks_checked turns_from equals_at in_at text_at mods_at ref_at rows.begins is_word is_left_out_word begins more_at inner_at is_call skip_blanks all_modified each_behind truth_of any_truth all_truth without_front without_back parts.joined found_at digits parts_of semicolon_from place_from alternatives_from spelled_in parted all_parted
present-reading-is others bytes = refl

present-task-is : (others : Store) (bytes : List ℕ)
    → task_on work 1 (files others bytes) ≡ Ok (task_with work.variables work.mode.exports (codes "t") lines, [])
unfolding lines_from text_at parts.joined refers
present-task-is others bytes = refl

no-newer : (others : Store) (bytes : List ℕ)
    → looks_for_newer (task_names (setting_of work.variables work.lists (by_files (files others bytes))) work.suffixes
    work.plan 1 (source_names work 1) work.mode work.flags []) ≡ false
unfolding lines_from names_from text_at parts.joined refers
no-newer others bytes = refl

-- the closure of its target
abbrev closure : State
closure = record {
  nodes = made.graph;
  added = [];
  parts = record { way = Own; met = true } ∷ record { way = Own; met = true } ∷ [];
}

closure-is : (others : Store) (bytes : List ℕ)
    → walk.closed (files others bytes) made.graph (seeking_of made) (codes "t" ∷ []) ≡ Ok closure
unfolding all_extended linked walked all_met
closure-is others bytes = refl

same-state : (one other : State) → ◌≡◌ {A = Walk} (Ok one) (Ok other) → one ≡ other
same-state one other is = cc

-- a source, or a name of no node, is found alike
source-alike : (others : Store) (bytes : List ℕ)
    → IsMadeAlike (files others bytes) (bare nodes (files others bytes)) made (codes "a") 1
source-alike others bytes = inr (inr tt, inl (inr (refl, tt)))

none-alike : (others : Store) (bytes : List ℕ) (name : List ℕ) → name ≡ []
    → IsMadeAlike (files others bytes) (bare nodes (files others bytes)) made name 1
none-alike others bytes name is =
    subst (λ it. IsMadeAlike (files others bytes) (bare nodes (files others bytes)) made it 1) (sym is)
    (inr (inr tt, inl (inr (refl, tt))))

past-alike : (others : Store) (bytes : List ℕ) (n : ℕ) (name : List ℕ) → name ≡ []
    → IsMadeAlike (files others bytes) (bare nodes (files others bytes)) made name (suc (suc n))
past-alike others bytes n name is =
    subst (λ it. IsMadeAlike (files others bytes) (bare nodes (files others bytes)) made it (suc (suc n))) (sym is)
    (inr (inr tt, inl (inr (refl, tt))))

past-name : (n : ℕ) → name_in closure (suc (suc n)) ≡ []
past-name n = by (nat_lt (suc (suc n)) 2)
  where
    by : (b : Bool)
        → (if b then (graph_node made.graph (suc (suc n))).name else get_or {A = List ℕ} [] (suc (suc n) - 2) []) ≡ []
    by true = refl
    by false = refl

names-alike : (others : Store) (bytes : List ℕ) (n : ℕ) (name : List ℕ) → IsAmong name (name_in closure n ∷ [] ∷ [])
    → IsMadeAlike (files others bytes) (bare nodes (files others bytes)) made name n
names-alike others bytes zero name among = inl refl
names-alike others bytes (suc zero) name (inl is) =
    subst (λ it. IsMadeAlike (files others bytes) (bare nodes (files others bytes)) made it 1) (sym is)
    (source-alike others bytes)
names-alike others bytes (suc zero) name (inr (inl is)) = none-alike others bytes name is
names-alike others bytes (suc zero) name (inr (inr past)) = absurd past
names-alike others bytes (suc (suc n)) name (inl is) = past-alike others bytes n name (is ∙ past-name n)
names-alike others bytes (suc (suc n)) name (inr (inl is)) = past-alike others bytes n name is
names-alike others bytes (suc (suc n)) name (inr (inr past)) = absurd past

all-alike : (others : Store) (bytes : List ℕ)
    → AreMadeAlike (files others bytes) (bare nodes (files others bytes)) made (codes "t" ∷ [])
all-alike others bytes s is n name among =
    names-alike others bytes n name
    (subst (λ (it : State). IsAmong name (name_in it n ∷ [] ∷ []))
    (same-state s closure (sym is ∙ closure-is others bytes)) among)

tasks-plain : (others : Store) (bytes : List ℕ) (node : ℕ) → has_job (node_at nodes node) ≡ true
    → HasPlainTask work (λ n. lines) (files others bytes) node
tasks-plain others bytes zero has = absurd (false≢true has)
tasks-plain others bytes (suc zero) has =
    record { task = present-task-is others bytes; no_newer = no-newer others bytes }
tasks-plain others bytes (suc (suc node)) has = absurd (false≢true has)

plain : (others : Store) (bytes : List ℕ)
    → ArePlain language env no_order (files others bytes) made (λ dir. None) work (λ n. lines)
plain others bytes = record {
  read = ap (λ (it : Reads Made). it.answer) (present-reading-is others bytes);
  planned = planned-is others bytes;
  work_is = refl;
  asks = subst (λ (it : Reads Made). AllByRecursion
      (IsAskedPlainly (files others bytes) (bare nodes (files others bytes)) (λ dir. None)) it.acts)
      (sym (present-reading-is others bytes)) (refl, tt);
  names = all-alike others bytes;
  tasks = tasks-plain others bytes;
}

sound : (others : Store) (bytes : List ℕ) → AreSound language env no_order (files others bytes)
sound others bytes =
    (plain_files_are_sound language env no_order (files others bytes) made (λ dir. None) work (λ n. lines)
    (plain others bytes) (omega arith) (by-meta-mode (λ n. lines) refl)
    (subst (IsDeclared (clean_plan work (λ n. lines))) (sym (jobs-are others bytes))
    (declared others bytes (λ n. lines)))).0

pub copied-files-sound : CopiedFilesAreSound
copied-files-sound bytes all makefile_is source_is =
    subst (AreSound language env no_order)
    (ap (λ it. with_file it (codes "a") bytes) (put-there all (codes "makefile") makefile makefile_is)
    ∙ put-there all (codes "a") bytes source_is)
    (sound all bytes)
