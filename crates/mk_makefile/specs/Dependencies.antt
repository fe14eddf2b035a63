-- Dependency lines (make(1), "FILE DEPENDENCY SPECIFICATIONS"), and the commands on them.
use Rattle.std.specs.Prelude.{ℕ, zero, suc, ◌+◌, ◌==◌, nat_le, List, map, length, take, drop}
use Rattle.std.specs.Prelude.{get_or}
use Rattle.std.specs.Prelude.{Option, Some, None, Result, Ok, Err, if◌then◌else◌}
use Rattle.mk_ast.specs.References.{end_of_form}
use Rattle.mk_ast.specs.declared.fault.AstFault.{AstFault}
use Rattle.mk_bytes.specs.Agrees.{◌>>=◌}
use Rattle.mk_bytes.specs.Bytes.{dollar}
use Rattle.mk_bytes.specs.Paths.{clean}
use Rattle.mk_cli.specs.Assignments.{without_blanks_before}
use Rattle.mk_depline.specs.declared.fault.DepFault.{DepFault}
use Rattle.mk_depline.specs.declared.fault.DepFault.TheVariants as line
use Rattle.mk_depline.specs.declared.line.DepLine.{DepLine}
use Rattle.mk_rules.specs.Lines.{line_read}
use Rattle.mk_rules.specs.Rules.{Ruled, commanded}
use Rattle.mk_rules.specs.declared.fault.RuleFault.{RuleFault}
use Rattle.mk_rules.specs.declared.fault.RuleFault.TheVariants as rule
use Rattle.mk_makefile.specs.declared.fault.What.{What}
use Rattle.mk_makefile.specs.declared.fault.What.TheVariants as what

abbrev pub cleaned : List ℕ → List (List ℕ) → List (List ℕ)
cleaned cwd names = map (λ name. clean cwd name) names

-- The command on a line

abbrev pub semicolon : ℕ
semicolon = 59

abbrev pub byte_at : List ℕ → ℕ → ℕ
byte_at text at = get_or text at 0

-- the first `;` from a place on that stands in no reference, or the fault of a reference before it
unfoldable pub semicolon_from : ℕ → List ℕ → ℕ → Result (Option ℕ) AstFault
semicolon_from zero text at = Ok None
semicolon_from (suc room) text at =
    if nat_le (length text) at then Ok None
    else (if byte_at text at == semicolon then Ok (Some at)
    else (if byte_at text at == dollar
    then (end_of_form text at >>= λ next. semicolon_from room text next)
    else semicolon_from room text (at + 1)))

abbrev pub first_semicolon : List ℕ → Result (Option ℕ) AstFault
first_semicolon text = semicolon_from (suc (length text)) text 0

-- a line, and the command behind its `;`
abbrev pub Parted : Type 0
Parted = List ℕ × Option (List ℕ)

abbrev pub parted_at : List ℕ → Option ℕ → Parted
parted_at line None = (line, None)
parted_at line (Some at) = (take at line, Some (without_blanks_before (drop (at + 1) line)))

abbrev pub parted : List ℕ → Result Parted AstFault
parted line = first_semicolon line >>= λ at. Ok (parted_at line at)

-- The line itself, with its references expanded

abbrev pub of_line : DepFault → What
of_line line.NoOperator = what.NoOperator
of_line line.DoubleColon = what.DoubleColon
of_line line.NoTargets = what.NoTargets
of_line line.MixedSpecial = what.MixedSpecial
of_line line.Brace = what.Brace
of_line line.RuleSources = what.RuleSources
of_line line.NoMemory = what.TooManyNames

abbrev pub of_rule : RuleFault → What
of_rule rule.Operators = what.Operators
of_rule rule.TooManyNames = what.TooManyNames
of_rule rule.NoMemory = what.TooManyNames

abbrev pub wrong_by : {A E : Type 0} → (E → What) → Result A E → Result A What
wrong_by view (Ok given) = Ok given
wrong_by view (Err fault) = Err (view fault)

-- the command on a line is the first of its group
abbrev pub with_first : Option (List ℕ) → Ruled → Ruled
with_first None r = r
with_first (Some command) r = commanded r command

-- What a line and its command add.
abbrev pub ruled : Ruled → Option (List ℕ) → DepLine → Result Ruled What
ruled r command line =
    wrong_by of_rule (line_read r line) >>= λ next. Ok (with_first command next)
