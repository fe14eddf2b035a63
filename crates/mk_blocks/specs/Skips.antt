-- What stands behind lines that are passed over.
use Rattle.std.specs.Prelude.{ℕ, zero, suc, ◌+◌, ◌-◌, Bool, true, false, List, [], ◌∷◌, Option}
use Rattle.std.specs.Prelude.{Some, None, if◌then◌else◌}
use Rattle.mk_lines.specs.declared.line.LogLine.{LogLine}
use Rattle.mk_blocks.specs.Blocks.{Ending, Parsed, parsed, none, is_closer, is_else, closed}
use Rattle.mk_blocks.specs.declared.kind.LineKind.{LineKind}
use Rattle.mk_blocks.specs.declared.kind.LineKind.TheVariants as kind

-- the endings behind so many blocks that are open inside the present one
unfoldable pub outside_of : ℕ → List Ending → List Ending
outside_of zero endings = endings
outside_of (suc depth) endings = outside_of depth (closed endings).endings

-- the line of another branch, and whether it is an `.else`
abbrev pub Branch : Type 0
Branch = Bool × LogLine

-- the branch that the next ending begins, if it does, and what stands behind that line
abbrev pub next_branch : List Ending → Option Branch × Parsed
next_branch [] = (None, parsed none [])
next_branch (e ∷ endings) =
    if is_closer e.kind then (None, parsed e.block endings)
    else (Some (is_else e.kind, e.at), parsed e.block endings)

abbrev pub is_opener : LineKind → Bool
is_opener kind.If = true
is_opener kind.For = true
is_opener _ = false

-- lines that end the block of a branch
abbrev pub is_ending : LineKind → Bool
is_ending kind.ElseIf = true
is_ending kind.Else = true
is_ending kind.EndIf = true
is_ending kind.EndFor = true
is_ending _ = false

-- how many blocks are open behind a line of this kind
abbrev pub depth_behind : LineKind → ℕ → ℕ
depth_behind kind depth =
    if is_opener kind then depth + 1 else (if is_closer kind then depth - 1 else depth)

-- the line closes the present block
abbrev pub closes_here : ℕ → LineKind → Bool
closes_here zero kind = is_closer kind
closes_here (suc depth) kind = false

-- the line ends the present branch
abbrev pub ends_here : ℕ → LineKind → Bool
ends_here zero kind = is_ending kind
ends_here (suc depth) kind = false
