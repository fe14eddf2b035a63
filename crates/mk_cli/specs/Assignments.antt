-- Assignments: their sign is at the first `=` of the word, and blanks round the name and before
-- the value are dropped (make(1), "VARIABLE ASSIGNMENTS").
use Rattle.std.specs.Prelude.{ℕ, ◌-◌, Bool, true, false, ◌==◌, ◌||◌, nat_eq, List, [], ◌∷◌}
use Rattle.std.specs.Prelude.{length, take, position, Option, Some, None, is_some}
use Rattle.std.specs.Prelude.{if◌then◌else◌, codes}
use Rattle.std.specs.List.{ends_with, before_first, after_first}
use Rattle.std.specs.Str.{bytes_eq}
use Rattle.mk_bytes.specs.Bytes.{equals_sign}
pub use Rattle.mk_bytes.specs.Texts.{without_blanks_before, without_blanks_after, without_blanks}
use Rattle.mk_cli.specs.declared.order.AssignOp.{AssignOp}
use Rattle.mk_cli.specs.declared.order.AssignOp.TheVariants.{Plain, Append, Default, Now, Shell}
use Rattle.mk_cli.specs.declared.order.Set.{Set}
use Rattle.mk_scopes.specs.declared.scopes.Class.TheVariants.{Command}

-- the byte that makes a word an assignment
abbrev pub is_equals : ℕ → Bool
is_equals byte = byte == equals_sign

-- a word with an `=` after its first byte
abbrev pub is_assignment : List ℕ → Bool
is_assignment [] = false
is_assignment (byte ∷ rest) = is_some (position is_equals rest)

-- a text without its last byte
abbrev pub without_last : List ℕ → List ℕ
without_last text = take (length text - 1) text

-- what stands before an `=`, cut into the name and the rest of the sign
abbrev pub name_and_op : List ℕ → List ℕ × AssignOp
name_and_op text =
    if ends_with nat_eq text (codes "+") then (without_last text, Append)
    else (if ends_with nat_eq text (codes "?") then (without_last text, Default)
    else (if ends_with nat_eq text (codes ":") then (without_last text, Now)
    else (if ends_with nat_eq text (codes "!") then (without_last text, Shell)
    else (text, Plain))))

-- the sign `!=`, which takes the output of a command
abbrev pub is_shell : AssignOp → Bool
is_shell Shell = true
is_shell op = false

-- The assignment of the command line; one without a name is refused, and so is `!=`.
abbrev pub named : List ℕ → AssignOp → List ℕ → Option Set
named name op value =
    if bytes_eq name [] || is_shell op then None
    else Some (record { class = Command; op = op; name = name; value = value })

-- The assignment that a word with an `=` is, and nothing where it is refused.
abbrev pub assignment : List ℕ → Option Set
assignment word =
    let sign = name_and_op (before_first is_equals word) in
    named (without_blanks sign.0) sign.1
    (without_blanks_before (after_first is_equals word))
