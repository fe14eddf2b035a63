-- The lines on standard error.
use Rattle.std.specs.Prelude.{ℕ, List, [], ◌∷◌, ◌++◌, decimal, codes}
use Rattle.mk_ast.specs.declared.fault.TreeFault.{TreeFault}
use Rattle.mk_ast.specs.declared.fault.TreeFault.TheVariants as tree
use Rattle.mk_bytes.specs.Bytes.{newline, space}
use Rattle.mk_bytes.specs.declared.kind.Kind.{Kind}
use Rattle.mk_bytes.specs.declared.kind.Kind.TheVariants.{Names, Lines, Includes}
use Rattle.mk_values.specs.declared.fault.ExpandFault.{ExpandFault}
use Rattle.mk_values.specs.declared.fault.ExpandFault.TheVariants as expand
use Rattle.mk_makefile.specs.declared.fault.What.{What}
use Rattle.mk_makefile.specs.declared.fault.What.TheVariants as what
use Rattle.mk_modes.specs.Words.{word_at}
use Rattle.mk_modes.specs.declared.report.End.{End}
use Rattle.mk_modes.specs.declared.report.End.TheVariants.{Done, Usage, NoFile, Bad, Print}
use Rattle.mk_modes.specs.declared.report.End.TheVariants.{NoTarget, NoRule, Cycle, Limit, Expand}
use Rattle.mk_modes.specs.declared.report.End.TheVariants.{JobFailed, NotUpToDate, Breaches}
use Rattle.mk_modes.specs.declared.report.End.TheVariants.{WorldFault, SinkFault, NoMemory}

-- a fault of the grammar, with its place
abbrev pub tree_text : TreeFault → List ℕ
tree_text (tree.Unclosed at) = codes "unclosed reference at " ++ decimal at
tree_text (tree.UnknownModifier at) = codes "unknown modifier at " ++ decimal at
tree_text (tree.BadModifier at) = codes "bad modifier at " ++ decimal at
tree_text (tree.TooDeep at) = codes "nested too deeply at " ++ decimal at

abbrev pub fault_text : ExpandFault → List ℕ
fault_text (expand.Recursive name) = codes "variable " ++ (name ++ codes " is recursive")
fault_text expand.TooDeep = codes "nested too deeply"
fault_text expand.TooManyReferences = codes "too many references"
fault_text expand.TooLong = codes "value too long"
fault_text (expand.Tree fault) = tree_text fault
fault_text (expand.Cond at) = codes "bad condition at " ++ decimal at
fault_text expand.NoNumber = codes "not a number"
fault_text expand.Undefined = codes "undefined variable in condition"
fault_text expand.BadPlace = codes "bad word selection"
fault_text expand.Failed = codes "an outside call failed"
fault_text expand.NoMemory = codes "out of memory"

-- what is wrong with a line, where no number is shown
abbrev pub plain_text : What → List ℕ
plain_text what.TooLong = codes "line too long"
plain_text what.Zero = codes "zero byte"
plain_text what.LostCommand = codes "command without target"
plain_text what.EmptyName = codes "empty variable name"
plain_text what.ForForm = codes "bad .for"
plain_text what.Else = codes "misplaced .else"
plain_text what.Endif = codes "misplaced .endif"
plain_text what.Endfor = codes "misplaced .endfor"
plain_text what.Break = codes "misplaced .break"
plain_text what.OpenBlock = codes "block is not closed"
plain_text what.IncludeForm = codes "bad .include"
plain_text (what.Include file) = codes "can't find " ++ file
plain_text what.ExportForm = codes "bad .export"
plain_text what.NoOperator = codes "no operator"
plain_text what.DoubleColon = codes ":: is not supported"
plain_text what.NoTargets = codes "no targets"
plain_text what.MixedSpecial = codes "special target with others"
plain_text what.Operators = codes "inconsistent operators"
plain_text what.Brace = codes "open brace"
plain_text what.RuleSources = codes "rule with sources"
plain_text what.TooManyNames = codes "too many names"
plain_text (what.Error text) = text
plain_text (what.Cond at) = []
plain_text (what.Count words names) = []
plain_text (what.Expand fault) = []

-- what is wrong with a line
abbrev pub what_text : What → List ℕ
what_text (what.Cond at) = codes "bad condition at " ++ decimal at
what_text (what.Count words names) =
    codes ".for has " ++ (decimal words ++ (codes " words for " ++ (decimal names ++ codes " names")))
what_text (what.Expand fault) = fault_text fault
what_text wrong = plain_text wrong

abbrev pub place_text : List ℕ → List ℕ → List ℕ → List ℕ
place_text file number wrong =
    codes "\"" ++ (file ++ (codes "\" line " ++ (number ++ (codes ": " ++ wrong))))

abbrev pub bad_text : List ℕ → ℕ → What → List ℕ
bad_text file line wrong = place_text file (decimal line) (what_text wrong)

-- names, each behind a space
abbrev pub spaced : List (List ℕ) → List ℕ
spaced [] = []
spaced (name ∷ names) = (space ∷ []) ++ name ++ spaced names

abbrev pub kind_text : Kind → List ℕ
kind_text Names = codes "limit of names "
kind_text Lines = codes "limit of lines "
kind_text Includes = codes "limit of includes "

-- what is wrong with a command line of a target
abbrev pub command_text : List ℕ → List ℕ → List ℕ → List ℕ
command_text name number wrong =
    codes "target " ++ (name ++ (codes " command " ++ (number ++ (codes ": " ++ wrong))))

-- what stands between `bmake: ` and the newline of a line
abbrev pub text_of : List (List ℕ) → End → List ℕ
text_of words (Usage i) = codes "bad word: " ++ word_at words i
text_of words (NoFile file) = codes "no makefile " ++ file
text_of words (Bad file line wrong) = bad_text file line wrong
text_of words (Print i fault) = fault_text fault
text_of words NoTarget = codes "no target to make"
text_of words (NoRule name) = codes "don't know how to make " ++ name
text_of words (Cycle names) = codes "graph cycles through" ++ spaced names
text_of words (Limit kind most) = kind_text kind ++ decimal most
text_of words (Expand name number fault) = command_text name (decimal number) (fault_text fault)
text_of words (JobFailed name number status) =
    command_text name (decimal number) (codes "status " ++ decimal status)
text_of words (Breaches count) = codes "breaches " ++ decimal count
text_of words WorldFault = codes "an outside call failed"
text_of words NoMemory = codes "out of memory"
text_of words Done = []
text_of words (NotUpToDate name) = []
text_of words SinkFault = []

abbrev pub as_line : List ℕ → List ℕ
as_line text = codes "bmake: " ++ text ++ newline ∷ []

-- The line of an end. A run that went well has none, and neither has a query of what is out of date
-- or a run that could not write.
abbrev pub line_of : List (List ℕ) → End → List ℕ
line_of words Done = []
line_of words (NotUpToDate name) = []
line_of words SinkFault = []
line_of words end = as_line (text_of words end)

-- the place that a text shows, or 0 where it shows none
abbrev pub tree_place : TreeFault → ℕ
tree_place (tree.Unclosed at) = at
tree_place (tree.UnknownModifier at) = at
tree_place (tree.BadModifier at) = at
tree_place (tree.TooDeep at) = at

abbrev pub fault_place : ExpandFault → ℕ
fault_place (expand.Tree fault) = tree_place fault
fault_place (expand.Cond at) = at
fault_place fault = 0

abbrev pub what_place : What → ℕ
what_place (what.Expand fault) = fault_place fault
what_place (what.Cond at) = at
what_place (what.Count words names) = words
what_place wrong = 0

-- the number of names of a loop
abbrev pub name_count : What → ℕ
name_count (what.Count words names) = names
name_count wrong = 0
