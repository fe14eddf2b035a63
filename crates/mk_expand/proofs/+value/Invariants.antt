use Rattle.std.proofs.Common.{◌≡◌, ◌+◌, ◌*◌, ◌≤◌, drop, take, length, false, Ok}
use Rattle.mk_ast.specs.View.{mods_view, tree_view}
use Rattle.mk_cond.specs.View.{cond_view}
use Rattle.mk_cond.specs.Walk.{behind_all, step_size, step_walk, weight}
use Rattle.mk_pieces.specs.Pieces.{texts_of}
use Rattle.mk_mods.specs.Pieces.{end_of}
use Rattle.mk_values.specs.Calls.{Asks, Extends, Keeps, at, here}
use Rattle.mk_values.specs.Chains.{all_modified, each_behind}
use Rattle.mk_values.specs.Conditions.{truth_of}
use Rattle.mk_values.specs.Facts.{Answers, AnsweredBy}
use Rattle.mk_values.specs.Parts.{joined, tree_value}
use Rattle.mk_values.specs.Substitutions.{old_in_tree}
use Rattle.mk_values.specs.Value.{found_at}
use Rattle.mk_values.specs.View.{chain_view}
use Rattle.mk_values.proofs.WalkLemmas.{done, walked}
use Rattle.mk_expand.proofs.+value.Given as goal

abbrev pub decreases-evaluation::found : goal.decreases-evaluation::found
decreases-evaluation::found g l = 4096 * l.room

abbrev pub decreases-evaluation::append_reference : goal.decreases-evaluation::append_reference
decreases-evaluation::append_reference g l = 4096 * l.room + 1

abbrev pub decreases-evaluation::append_part : goal.decreases-evaluation::append_part
decreases-evaluation::append_part g l = 4096 * l.room + 2

abbrev pub decreases-evaluation::joined : goal.decreases-evaluation::joined
decreases-evaluation::joined g l = 4096 * l.room + 3

abbrev pub decreases-evaluation::tree_value : goal.decreases-evaluation::tree_value
decreases-evaluation::tree_value g l = 4096 * l.room + 4

abbrev pub decreases-evaluation::text_value : goal.decreases-evaluation::text_value
decreases-evaluation::text_value g l = 4096 * l.room + 5

abbrev pub decreases-evaluation::opened_value : goal.decreases-evaluation::opened_value
decreases-evaluation::opened_value g l = 4096 * l.room + 6

abbrev pub decreases-evaluation::known_value : goal.decreases-evaluation::known_value
decreases-evaluation::known_value g l = 4096 * l.room + 7

abbrev pub decreases-evaluation::variable : goal.decreases-evaluation::variable
decreases-evaluation::variable g l = 4096 * l.room + 8

abbrev pub decreases-evaluation::named : goal.decreases-evaluation::named
decreases-evaluation::named g l = 4096 * l.room + 2069

abbrev pub decreases-evaluation::plain_reference : goal.decreases-evaluation::plain_reference
decreases-evaluation::plain_reference g l = 4096 * l.room + 2070

abbrev pub decreases-evaluation::reference : goal.decreases-evaluation::reference
decreases-evaluation::reference g l = 4096 * l.room + 2070

abbrev pub decreases-evaluation::found_inside : goal.decreases-evaluation::found_inside
decreases-evaluation::found_inside g l = 4096 * l.room + 2071

abbrev pub decreases-words::append_new : goal.decreases-words::append_new
decreases-words::append_new g l = 4096 * l.room + 3

abbrev pub decreases-words::old_text : goal.decreases-words::old_text
decreases-words::old_text g l = 4096 * l.room + 5

abbrev pub decreases-words::new_text : goal.decreases-words::new_text
decreases-words::new_text g l = 4096 * l.room + 5

abbrev pub decreases-words::substitution : goal.decreases-words::substitution
decreases-words::substitution g l = 4096 * l.room + 6

abbrev pub decreases-words::suffix : goal.decreases-words::suffix
decreases-words::suffix g l = 4096 * l.room + 6

abbrev pub decreases-words::range : goal.decreases-words::range
decreases-words::range g l = 4096 * l.room + 6

abbrev pub decreases-words::modifier : goal.decreases-words::modifier
decreases-words::modifier g l = 4096 * l.room + 7

abbrev pub decreases-modifiers::word_modified : goal.decreases-modifiers::word_modified
decreases-modifiers::word_modified g l = 4096 * l.room + 8

abbrev pub decreases-modifiers::word_result : goal.decreases-modifiers::word_result
decreases-modifiers::word_result g l = 4096 * l.room + 5

abbrev pub decreases-modifiers::each_behind : goal.decreases-modifiers::each_behind
decreases-modifiers::each_behind g l = 4096 * l.room + 6

abbrev pub decreases-modifiers::all_results : goal.decreases-modifiers::all_results
decreases-modifiers::all_results g l = 4096 * l.room + 7

abbrev pub decreases-modifiers::each : goal.decreases-modifiers::each
decreases-modifiers::each g l = 4096 * l.room + 8

abbrev pub decreases-modifiers::chosen : goal.decreases-modifiers::chosen
decreases-modifiers::chosen g l = 4096 * l.room + 2060

abbrev pub decreases-modifiers::choose : goal.decreases-modifiers::choose
decreases-modifiers::choose g l = 4096 * l.room + 2061

abbrev pub decreases-modifiers::given_modified : goal.decreases-modifiers::given_modified
decreases-modifiers::given_modified g l = 4096 * l.room + 2061

abbrev pub decreases-modifiers::if_undefined : goal.decreases-modifiers::if_undefined
decreases-modifiers::if_undefined g l = 4096 * l.room + 5

abbrev pub decreases-modifiers::if_defined : goal.decreases-modifiers::if_defined
decreases-modifiers::if_defined g l = 4096 * l.room + 5

abbrev pub decreases-modifiers::modified : goal.decreases-modifiers::modified
decreases-modifiers::modified g l = 4096 * l.room + 2062

abbrev pub decreases-modifiers::all_modified : goal.decreases-modifiers::all_modified
decreases-modifiers::all_modified g l = 4096 * l.room + 2063

abbrev pub decreases-modifiers::default_found : goal.decreases-modifiers::default_found
decreases-modifiers::default_found g l = 4096 * l.room + 5

abbrev pub decreases-modifiers::chained : goal.decreases-modifiers::chained
decreases-modifiers::chained g l = 4096 * l.room + 2064

abbrev pub decreases-conditions::side_value : goal.decreases-conditions::side_value
decreases-conditions::side_value g l = 4096 * l.room + 5

abbrev pub decreases-conditions::alone_truth : goal.decreases-conditions::alone_truth
decreases-conditions::alone_truth g l = 4096 * l.room + 6

abbrev pub decreases-conditions::both_truth : goal.decreases-conditions::both_truth
decreases-conditions::both_truth g l = 4096 * l.room + 6

abbrev pub decreases-conditions::test_truth : goal.decreases-conditions::test_truth
decreases-conditions::test_truth g l = 4096 * l.room + 6

abbrev pub decreases-conditions::leaf_truth : goal.decreases-conditions::leaf_truth
decreases-conditions::leaf_truth g l = 4096 * l.room + 7

abbrev pub decreases-conditions::truth_of : goal.decreases-conditions::truth_of
decreases-conditions::truth_of g l = 4096 * l.room + 8

-- the text so far, and behind it the values of the parts that are left
abbrev pub invariant-evaluation::joined-loop-part : goal.invariant-evaluation::joined-loop-part
invariant-evaluation::joined-loop-part g l = record {
  value : (answers : Answers) → AnsweredBy answers (g.F.Facts.asked l.facts)
      → (joined (found_at l.room)
      (here l.names.scopes.now l.names.locals.now (g.F.Facts.lists l.facts) l.run l.keep answers)
      (at l.run (g.F.Facts.asked l.facts)) l.text (tree_view (drop l.part-index l.parts))).answer
      ≡ (joined (found_at l.room)
      (here l.names.scopes.now l.names.locals.now (g.F.Facts.lists l.initial.facts) l.initial.run l.keep answers)
      (at l.initial.run (g.F.Facts.asked l.initial.facts)) l.initial.text (tree_view l.parts)).answer;
  run : Keeps l.initial.run l.run;
  facts : Asks {A = Unit {0}} (g.F.Facts.leads l.initial.facts l.facts) (g.F.Facts.lists l.initial.facts) (g.F.Facts.lists l.facts)
      (g.F.Facts.asked l.initial.facts) (g.F.Facts.asked l.facts)
      (g.F.Facts.faults l.initial.facts) (g.F.Facts.faults l.facts) (Ok tt);
}

-- the text so far, and behind it the values of the parts that are left, with what is old in them
abbrev pub invariant-words::new_text-loop-part : goal.invariant-words::new_text-loop-part
invariant-words::new_text-loop-part g l = record {
  value : (answers : Answers) → AnsweredBy answers (g.F.Facts.asked l.facts)
      → (joined (found_at l.room)
      (here l.names.scopes.now l.names.locals.now (g.F.Facts.lists l.facts) l.run false answers)
      (at l.run (g.F.Facts.asked l.facts)) l.text
      (old_in_tree l.old (tree_view (drop l.part-index l.part-items)))).answer
      ≡ (tree_value (found_at l.room)
      (here l.names.scopes.now l.names.locals.now (g.F.Facts.lists l.initial.facts) l.initial.run false answers)
      (at l.initial.run (g.F.Facts.asked l.initial.facts)) (old_in_tree l.old (tree_view l.part-items))).answer;
  run : Keeps l.initial.run l.run;
  facts : Asks {A = Unit {0}} (g.F.Facts.leads l.initial.facts l.facts) (g.F.Facts.lists l.initial.facts) (g.F.Facts.lists l.facts)
      (g.F.Facts.asked l.initial.facts) (g.F.Facts.asked l.facts)
      (g.F.Facts.faults l.initial.facts) (g.F.Facts.faults l.facts) (Ok tt);
}

-- the chain so far, and the modifiers that are left
abbrev pub invariant-modifiers::all_modified-loop-one : goal.invariant-modifiers::all_modified-loop-one
invariant-modifiers::all_modified-loop-one g l = record {
  value : (answers : Answers) → AnsweredBy answers (g.F.Facts.asked l.facts)
      → (all_modified (found_at l.room)
      (here l.names.scopes.now l.names.locals.now (g.F.Facts.lists l.facts) l.run false answers)
      (at l.run (g.F.Facts.asked l.facts)) l.name (chain_view l.run.region.bytes l.chain)
      (mods_view (drop l.one-index l.one-items))).answer
      ≡ (all_modified (found_at l.room)
      (here l.names.scopes.now l.names.locals.now (g.F.Facts.lists l.initial.facts) l.initial.run false answers)
      (at l.initial.run (g.F.Facts.asked l.initial.facts)) l.name
      (chain_view l.initial.run.region.bytes l.initial.chain) (mods_view l.one-items)).answer;
  open_names : l.run.open_names ≡ l.initial.run.open_names;
  bound : l.run.bound.items ≡ l.initial.run.bound.items;
  begins : take l.len l.run.region.bytes ≡ take l.len l.initial.run.region.bytes;
  room : l.len ≤ length l.run.region.bytes;
  facts : Asks {A = Unit {0}} (g.F.Facts.leads l.initial.facts l.facts) (g.F.Facts.lists l.initial.facts) (g.F.Facts.lists l.facts)
      (g.F.Facts.asked l.initial.facts) (g.F.Facts.asked l.facts)
      (g.F.Facts.faults l.initial.facts) (g.F.Facts.faults l.facts) (Ok tt);
  within : end_of l.chain.val ≤ length l.run.region.bytes;
}

-- the results so far, and behind them those of the words that are left
abbrev pub invariant-modifiers::each_behind-loop-word : goal.invariant-modifiers::each_behind-loop-word
invariant-modifiers::each_behind-loop-word g l = record {
  value : (answers : Answers) → AnsweredBy answers (g.F.Facts.asked l.facts)
      → (each_behind (found_at l.room)
      (here l.names.scopes.now l.names.locals.now (g.F.Facts.lists l.facts) l.run false answers)
      (at l.run (g.F.Facts.asked l.facts)) l.variable (tree_view l.body) l.results
      (texts_of l.initial.run.region.bytes (drop l.word-index l.words))).answer
      ≡ (each_behind (found_at l.room)
      (here l.names.scopes.now l.names.locals.now (g.F.Facts.lists l.initial.facts) l.initial.run false answers)
      (at l.initial.run (g.F.Facts.asked l.initial.facts)) l.variable (tree_view l.body) l.initial.results
      (texts_of l.initial.run.region.bytes l.words)).answer;
  name : l.binding.name ≡ l.variable;
  run : Keeps l.initial.run l.run;
  facts : Asks {A = Unit {0}} (g.F.Facts.leads l.initial.facts l.facts) (g.F.Facts.lists l.initial.facts) (g.F.Facts.lists l.facts)
      (g.F.Facts.asked l.initial.facts) (g.F.Facts.asked l.facts)
      (g.F.Facts.faults l.initial.facts) (g.F.Facts.faults l.facts) (Ok tt);
}

-- the walk that is left, from the step that is next, comes to the truth of the whole condition
abbrev pub invariant-conditions::truth_of-steps : goal.invariant-conditions::truth_of-steps
invariant-conditions::truth_of-steps g l = record {
  value : (answers : Answers) → AnsweredBy answers (g.F.Facts.asked l.facts)
      → (walked (found_at l.room)
      (here l.names.scopes.now l.names.locals.now (g.F.Facts.lists l.facts) l.run false answers)
      (at l.run (g.F.Facts.asked l.facts)) (step_walk l.step (behind_all l.outer.items done))).answer
      ≡ (truth_of (found_at l.room)
      (here l.names.scopes.now l.names.locals.now (g.F.Facts.lists l.initial.facts) l.initial.run false answers)
      (at l.initial.run (g.F.Facts.asked l.initial.facts)) (cond_view l.cond)).answer;
  run : Keeps l.initial.run l.run;
  facts : Asks {A = Unit {0}} (g.F.Facts.leads l.initial.facts l.facts) (g.F.Facts.lists l.initial.facts) (g.F.Facts.lists l.facts)
      (g.F.Facts.asked l.initial.facts) (g.F.Facts.asked l.facts)
      (g.F.Facts.faults l.initial.facts) (g.F.Facts.faults l.facts) (Ok tt);
}

abbrev pub decreases-conditions::truth_of-steps : goal.decreases-conditions::truth_of-steps
decreases-conditions::truth_of-steps g l = weight l.outer.items + step_size l.step
