-- The parts of a logical line, and what it is for the blocks of its file.
use Rattle.std.specs.Prelude.{ℕ, ◌==◌, Bool, true, List, [], ◌∷◌, drop, Option, Some, None}
use Rattle.std.specs.Prelude.{if◌then◌else◌}
use Rattle.std.specs.List.{prefix_len, list_all}
use Rattle.mk_blocks.specs.declared.kind.LineKind.{LineKind}
use Rattle.mk_blocks.specs.declared.kind.LineKind.TheVariants as kind
use Rattle.mk_bytes.specs.Bytes.{hash, space, tab}
use Rattle.mk_bytes.specs.Words.{is_white}
use Rattle.mk_directive.specs.Directives.{Directed, directive_on}
use Rattle.mk_directive.specs.Words.{without_blanks}
use Rattle.mk_directive.specs.declared.directive.Directive.{Directive}
use Rattle.mk_directive.specs.declared.directive.Directive.TheVariants as directive
use Rattle.mk_lines.specs.Comment.{cut_comment}

abbrev pub is_space : ℕ → Bool
is_space byte = byte == space

-- a line without the spaces that begin it
abbrev pub without_spaces : List ℕ → List ℕ
without_spaces line = drop (prefix_len is_space line) line

-- A line that is no command, without its comment, its final blanks and its leading spaces.
abbrev pub plain_text : List ℕ → List ℕ
plain_text line = without_spaces (cut_comment line)

-- a command line, without the tab that makes it one
abbrev pub command_in : List ℕ → Option (List ℕ)
command_in [] = None
command_in (byte ∷ rest) = if byte == tab then Some rest else None

-- white space alone
abbrev pub is_only_white : List ℕ → Bool
is_only_white text = list_all is_white text

-- nothing, or a comment
abbrev pub begins_comment : List ℕ → Bool
begins_comment [] = true
begins_comment (byte ∷ rest) = byte == hash

-- directives that are none of the blocks' are lines like others, but what says which variables are
-- exported counts nothing
abbrev pub kind_of : Directive → LineKind
kind_of (directive.If form) = kind.If
kind_of (directive.ElseIf form) = kind.ElseIf
kind_of directive.Else = kind.Else
kind_of directive.EndIf = kind.EndIf
kind_of directive.For = kind.For
kind_of directive.EndFor = kind.EndFor
kind_of directive.Break = kind.Break
kind_of directive.Include = kind.Include
kind_of directive.TryInclude = kind.Include
kind_of directive.Undef = kind.Plain
kind_of directive.Error = kind.Plain
kind_of directive.Warning = kind.Plain
kind_of directive.Info = kind.Plain
kind_of directive.Export = kind.Uncounted
kind_of directive.Unexport = kind.Uncounted

abbrev pub by_directive : List ℕ → Option Directed → LineKind
by_directive line (Some directed) = kind_of directed.0
by_directive line None =
    if begins_comment (without_blanks line) then kind.Uncounted else kind.Plain

abbrev pub plain_kind : List ℕ → LineKind
plain_kind line = by_directive line (directive_on line)

abbrev pub command_kind : List ℕ → LineKind
command_kind command = if is_only_white command then kind.Uncounted else kind.Plain

abbrev pub by_command : List ℕ → Option (List ℕ) → LineKind
by_command line None = plain_kind (without_spaces line)
by_command line (Some command) = command_kind command

-- What a logical line is for the blocks of its file. A line that is nothing counts nothing.
abbrev pub line_kind : List ℕ → LineKind
line_kind line = by_command line (command_in line)
