-- Directives: `.`, blanks if any, and a word of make(1) that no byte of a name follows.
use Rattle.std.specs.Prelude.{ℕ, Bool, false, ◌==◌, ◌&&◌, ◌||◌, nat_le, List, [], ◌∷◌, take, drop}
use Rattle.std.specs.Prelude.{Option, Some, None, if◌then◌else◌, codes}
use Rattle.std.specs.List.{prefix_len}
use Rattle.std.specs.Str.{bytes_eq}
use Rattle.mk_bytes.specs.Bytes as bytes
use Rattle.mk_cond.specs.declared.cond.Form.TheVariants as form
use Rattle.mk_bytes.specs.Texts.{without_blanks_before}
use Rattle.mk_directive.specs.declared.directive.Directive.{Directive}
use Rattle.mk_directive.specs.declared.directive.Directive.TheVariants.{If, ElseIf, Else, EndIf}
use Rattle.mk_directive.specs.declared.directive.Directive.TheVariants.{For, EndFor}
use Rattle.mk_directive.specs.declared.directive.Directive.TheVariants.{Break, Include, TryInclude}
use Rattle.mk_directive.specs.declared.directive.Directive.TheVariants.{Undef, Error, Warning, Info}
use Rattle.mk_directive.specs.declared.directive.Directive.TheVariants.{Export, Unexport}

-- a byte of a directive's word: lower-case letters and `-`
abbrev pub is_word_byte : ℕ → Bool
is_word_byte byte = (nat_le 97 byte && nat_le byte 122) || byte == bytes.minus

abbrev pub conditional : List ℕ → Option Directive
conditional word =
    if bytes_eq word (codes "if") then Some (If form.If)
    else (if bytes_eq word (codes "ifdef") then Some (If form.Def)
    else (if bytes_eq word (codes "ifndef") then Some (If form.Ndef)
    else (if bytes_eq word (codes "ifmake") then Some (If form.Make)
    else (if bytes_eq word (codes "ifnmake") then Some (If form.Nmake)
    else None))))

abbrev pub further_branch : List ℕ → Option Directive
further_branch word =
    if bytes_eq word (codes "elif") then Some (ElseIf form.If)
    else (if bytes_eq word (codes "elifdef") then Some (ElseIf form.Def)
    else (if bytes_eq word (codes "elifndef") then Some (ElseIf form.Ndef)
    else (if bytes_eq word (codes "elifmake") then Some (ElseIf form.Make)
    else (if bytes_eq word (codes "elifnmake") then Some (ElseIf form.Nmake)
    else None))))

abbrev pub of_block : List ℕ → Option Directive
of_block word =
    if bytes_eq word (codes "else") then Some Else
    else (if bytes_eq word (codes "endif") then Some EndIf
    else (if bytes_eq word (codes "for") then Some For
    else (if bytes_eq word (codes "endfor") then Some EndFor
    else (if bytes_eq word (codes "break") then Some Break
    else None))))

abbrev pub inclusion : List ℕ → Option Directive
inclusion word =
    if bytes_eq word (codes "include") then Some Include
    else (if bytes_eq word (codes "-include") || bytes_eq word (codes "sinclude")
    || bytes_eq word (codes "dinclude") then Some TryInclude
    else None)

abbrev pub other : List ℕ → Option Directive
other word =
    if bytes_eq word (codes "undef") then Some Undef
    else (if bytes_eq word (codes "error") then Some Error
    else (if bytes_eq word (codes "warning") then Some Warning
    else (if bytes_eq word (codes "info") then Some Info
    else (if bytes_eq word (codes "export") then Some Export
    else (if bytes_eq word (codes "unexport") then Some Unexport
    else None)))))

abbrev pub or_else : Option Directive → Option Directive → Option Directive
or_else None next = next
or_else (Some found) next = Some found

-- The directive of a word.
abbrev pub named : List ℕ → Option Directive
named word =
    or_else (conditional word) (or_else (further_branch word) (or_else (of_block word)
    (or_else (inclusion word) (other word))))

-- a byte behind such a word by which the line is none
abbrev pub is_name_byte : ℕ → Bool
is_name_byte byte =
    bytes.is_letter byte || bytes.is_digit byte || byte == bytes.underscore || byte == bytes.dot
    || byte == bytes.colon || byte == bytes.equals_sign || byte == bytes.plus
    || byte == bytes.question_mark

abbrev pub begins_with_name_byte : List ℕ → Bool
begins_with_name_byte [] = false
begins_with_name_byte (byte ∷ rest) = is_name_byte byte

abbrev pub word_len : List ℕ → ℕ
word_len text = prefix_len is_word_byte text

-- a directive, and what follows its word and the blanks behind that
abbrev pub Directed : Type 0
Directed = Directive × List ℕ

abbrev pub with_argument : Option Directive → List ℕ → Option Directed
with_argument None argument = None
with_argument (Some directive) argument = Some (directive, argument)

-- the directive behind the dot and its blanks
abbrev pub behind_dot : List ℕ → Option Directed
behind_dot text =
    if begins_with_name_byte (drop (word_len text) text) then None
    else with_argument (named (take (word_len text) text))
    (without_blanks_before (drop (word_len text) text))

-- The directive that a line is, without its comment and leading spaces.
abbrev pub directive_on : List ℕ → Option Directed
directive_on [] = None
directive_on (byte ∷ rest) = if byte == bytes.dot then behind_dot (without_blanks_before rest) else None
