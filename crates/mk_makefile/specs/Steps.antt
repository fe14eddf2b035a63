-- What one logical line of a makefile does that is none of the blocks'.
use Rattle.std.specs.Prelude.{ℕ, true, false, List, [], ◌∷◌, Option, Some, None, Result, Ok, Err}
use Rattle.std.specs.Prelude.{codes}
use Rattle.std.specs.Prelude.{if◌then◌else◌}
use Rattle.mk_blocks.specs.Outcomes.{refused, ◌>>=◌}
use Rattle.mk_directive.specs.Directives.{Directed, directive_on}
use Rattle.mk_directive.specs.declared.directive.Directive.{Directive}
use Rattle.mk_directive.specs.declared.directive.Directive.TheVariants.{Undef, Error, Warning, Info}
use Rattle.mk_directive.specs.declared.directive.Directive.TheVariants.{Export, Unexport}
use Rattle.mk_ast.specs.declared.fault.AstFault.{AstFault}
use Rattle.mk_depline.specs.Lines.{dep_line}
use Rattle.mk_depline.specs.declared.fault.DepFault.{DepFault}
use Rattle.mk_depline.specs.declared.line.DepLine.{DepLine}
use Rattle.mk_values.specs.Texts.{of_tree}
use Rattle.mk_rules.specs.Rules.{Ruled, commanded}
use Rattle.mk_scopes.specs.declared.scopes.Class.TheVariants.{Global}
use Rattle.mk_makefile.specs.Assignments.{Parts, assignment}
use Rattle.mk_makefile.specs.Dependencies.{Parted, of_line, parted, ruled}
use Rattle.mk_makefile.specs.Exports.{exported_by, unexported_by}
use Rattle.mk_makefile.specs.Kinds.{command_in, plain_text, is_only_white}
use Rattle.mk_makefile.specs.Messages.{message, stop}
use Rattle.mk_makefile.specs.Moments.{Doing, Moment, closed, stands}
use Rattle.mk_makefile.specs.Questions.{Answers}
use Rattle.mk_makefile.specs.Variables.{assigned_by, undefined_by}
use Rattle.mk_makefile.specs.Values.{value}
use Rattle.mk_makefile.specs.Wildcards.{line_listed}
use Rattle.mk_makefile.specs.declared.fault.What.{What}
use Rattle.mk_makefile.specs.declared.fault.What.TheVariants.{Expand, LostCommand}

abbrev pub with_rules : Moment → Ruled → Moment
with_rules s rules = record s { made = record s.made { rules = rules } }

-- one more command of the last line's targets
abbrev pub with_command : Moment → List ℕ → Moment
with_command s command = with_rules s (commanded s.made.rules command)

-- A command line, without its tab, belongs to the group of the last dependency line; white space
-- alone is passed over.
abbrev pub command_read : List ℕ → Moment → Doing (Unit {0})
command_read command s =
    if is_only_white command then stands s
    else (if s.in_group then stands (with_command s command) else refused LostCommand)

-- a dependency line opens a group
abbrev pub opened : Result Ruled What → Moment → Doing (Unit {0})
opened (Ok rules) s = stands (record (with_rules s rules) { in_group = true })
opened (Err what) s = refused what

-- a line whose names are those of files
abbrev pub line_opened : Option (List ℕ) → DepLine → Moment → Doing (Unit {0})
line_opened command line s = opened (ruled s.made.rules command line) s

abbrev pub by_line : Answers → Option (List ℕ) → Result DepLine DepFault → Moment → Doing (Unit {0})
by_line answers command (Err fault) s = refused (of_line fault)
by_line answers command (Ok line) s =
    line_listed answers line s >>= λ found. line_opened command found.0 found.1

-- a line whose references are expanded
abbrev pub line_added : Answers → Option (List ℕ) → List ℕ → Moment → Doing (Unit {0})
line_added answers command text s =
    by_line answers command (dep_line text s.made.scopes.cwd s.made.rules.suffixes) s

abbrev pub by_parts : Answers → Result Parted AstFault → Moment → Doing (Unit {0})
by_parts answers (Err fault) s = refused (Expand (of_tree fault))
by_parts answers (Ok parts) s =
    value answers false parts.0 s >>= λ shown. line_added answers parts.1 shown.0 shown.1

-- A dependency line: what stands before its command is expanded.
abbrev pub dependency_read : Answers → List ℕ → Moment → Doing (Unit {0})
dependency_read answers line s = by_parts answers (parted line) s

-- an assignment closes the group and sets a global
abbrev pub assignment_read : Answers → Parts → Moment → Doing (Unit {0})
assignment_read answers parts s = assigned_by answers Global parts.1 parts.0 parts.2 (closed s)

abbrev pub by_assignment : Answers → List ℕ → Option Parts → Moment → Doing (Unit {0})
by_assignment answers line None s = dependency_read answers line s
by_assignment answers line (Some parts) s = assignment_read answers parts s

-- directives that are none of the blocks'
abbrev pub directed : Answers → List ℕ → ℕ → Directive → List ℕ → Moment → Doing (Unit {0})
directed answers file number Undef text s = stands (undefined_by text s)
directed answers file number Error text s = stop answers text s
directed answers file number Warning text s = message answers file number (codes "warning: ") text s
directed answers file number Info text s = message answers file number [] text s
directed answers file number Export text s = exported_by answers text s
directed answers file number Unexport text s = unexported_by answers text s
directed answers file number _ text s = stands s

abbrev pub by_directive : Answers → List ℕ → ℕ → List ℕ → Option Directed → Moment
    → Doing (Unit {0})
by_directive answers file number line None s = by_assignment answers line (assignment line) s
by_directive answers file number line (Some found) s = directed answers file number found.0 found.1 s

-- A line without its comment: nothing, a directive, an assignment, or else a dependency line.
abbrev pub plain_read : Answers → List ℕ → ℕ → List ℕ → Moment → Doing (Unit {0})
plain_read answers file number [] s = stands s
plain_read answers file number (byte ∷ line) s =
    by_directive answers file number (byte ∷ line) (directive_on (byte ∷ line)) s

abbrev pub by_command : Answers → List ℕ → ℕ → List ℕ → Option (List ℕ) → Moment → Doing (Unit {0})
by_command answers file number line None s = plain_read answers file number (plain_text line) s
by_command answers file number line (Some command) s = command_read command s

-- A logical line of the file of this name. A tab makes it a command line.
abbrev pub line_read : Answers → List ℕ → ℕ → List ℕ → Moment → Doing (Unit {0})
line_read answers file number line s = by_command answers file number line (command_in line) s
