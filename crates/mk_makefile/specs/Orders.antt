-- What the words of a command line set before any makefile is read.
use Rattle.std.specs.Prelude.{false, List, [], ◌∷◌, codes}
use Rattle.mk_blocks.specs.Outcomes.{◌>>=◌}
use Rattle.mk_cli.specs.declared.order.Order.{Order}
use Rattle.mk_cli.specs.declared.order.Set.{Set}
use Rattle.mk_values.specs.Locals.{spaced}
use Rattle.mk_scopes.specs.Scopes.{first_scopes}
use Rattle.mk_scopes.specs.declared.scopes.Class.{Class}
use Rattle.mk_scopes.specs.declared.scopes.Class.TheVariants.{Global, Command}
use Rattle.mk_scopes.specs.declared.scopes.Env.{Env}
use Rattle.mk_rules.specs.Rules.{no_rules}
use Rattle.mk_makefile.specs.Moments.{Doing, Moment, stands}
use Rattle.mk_makefile.specs.Questions.{Answers}
use Rattle.mk_makefile.specs.Variables.{assigned_at, assigned_by, set_by}

-- the environment, no line, nothing exported, and no question
abbrev pub first_moment : Env → Order → Moment
first_moment env order = record {
  made = record {
    scopes = first_scopes env order.env_first;
    exports = [];
    rules = no_rules;
    file = [];
  };
  in_group = false;
  order = order;
  asked = [];
  read = 0;
  listed = 0;
  ran = 0;
}

-- The name of a variable of the command line is expanded, and that of `-D` is taken as it is.
abbrev pub set_of : Answers → Class → Set → Moment → Doing (Unit {0})
set_of answers Command set s = assigned_by answers Command set.op set.name set.value s
set_of answers Global set s = set_by answers Global set.op set.name set.value s

-- the assignments of a command line in order
abbrev pub all_set : Answers → List Set → Moment → Doing (Unit {0})
all_set answers [] s = stands s
all_set answers (set ∷ sets) s = set_of answers set.class set s >>= λ next. all_set answers sets next.1

-- the targets that were asked for, with one space between them
abbrev pub with_targets : Moment → Moment
with_targets s = assigned_at s Global (codes ".TARGETS") (spaced s.order.flags.requested)

-- All that a command line sets.
abbrev pub ordered : Answers → Moment → Doing (Unit {0})
ordered answers s = all_set answers s.order.sets s >>= λ next. stands (with_targets next.1)
