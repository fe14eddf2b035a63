-- Where reading stands, and what a step does there.
use Rattle.std.specs.Prelude.{ℕ, Bool, false, List, length}
use Rattle.mk_blocks.specs.Outcomes.{Outcome, done}
use Rattle.mk_cli.specs.declared.order.Order.{Order}
use Rattle.mk_values.specs.declared.facts.Asked.{Asked}
use Rattle.mk_makefile.specs.declared.state.Draft.{Draft}
use Rattle.mk_scopes.specs.Scopes.{Variables}
use Rattle.mk_makefile.specs.Notes.{questions_in}
use Rattle.mk_makefile.specs.Questions.{listings_in, readings_in, runnings_in, times_in}
use Rattle.mk_makefile.specs.declared.fault.What.{What}
use Rattle.mk_makefile.specs.declared.state.State.{State}

-- What the lines so far leave under the orders of a command line, and how much was asked: the
-- questions of `exists`, and the numbers of files that were read, of directories that were listed
-- and of commands that were run.
pub record Moment : Type 0 where
  pub made : Draft
  pub in_group : Bool
  pub order : Order
  pub asked : List Asked
  pub read : ℕ
  pub listed : ℕ
  pub ran : ℕ

abbrev pub moment_of : State → Order → Moment
moment_of s order = record {
  made = s.made;
  in_group = s.in_group;
  order = order;
  asked = times_in (questions_in s.notes.items);
  read = length (readings_in (questions_in s.notes.items));
  listed = length (listings_in (questions_in s.notes.items));
  ran = length (runnings_in (questions_in s.notes.items));
}

-- What a step gives and where reading stands behind it, or what is wrong.
abbrev pub Doing : Type 0 → Type 0
Doing A = Outcome (A × Moment) What

abbrev pub given : {A : Type 0} → A → Moment → Doing A
given a s = done (a, s)

-- nothing but another moment
abbrev pub stands : Moment → Doing (Unit {0})
stands s = done (tt, s)

-- no command line follows any more
abbrev pub closed : Moment → Moment
closed s = record s { in_group = false }

abbrev pub with_variables : Moment → Variables → Moment
with_variables s variables = record s { made = record s.made { scopes = variables } }
