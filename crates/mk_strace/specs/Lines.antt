-- The lines of a trace: a process, spaces, and what it did.
use Rattle.std.specs.Prelude.{ℕ, Bool, ◌||◌, nat_eq, List, [], ◌∷◌, ◌==◌, ◌-◌, codes, length, take}
use Rattle.std.specs.Prelude.{Option, Some, None, option_and_then, if◌then◌else◌}
use Rattle.std.specs.List.{starts_with, ends_with}
use Rattle.std.specs.Option.{option_map}
use Rattle.mk_filemon.specs.Escapes.{cut_at}
use Rattle.mk_strace.specs.Acts.{act_of, is_number}
use Rattle.mk_strace.specs.Scan.{behind, without_spaces}
use Rattle.mk_strace.specs.declared.act.Act.{Act}

-- what a line of a process is
pub data Line : Type 0 where
  Whole : Line
  Begun : List ℕ → Line
  Resumed : List ℕ → Line
  Ends : Line
  Takes : List ℕ → Line
  Signal : Line

abbrev pub with_process : List ℕ × List ℕ → Option (List ℕ × List ℕ)
with_process (process, rest) =
    if is_number process then Some (process, without_spaces rest) else None

abbrev pub parts_of : List ℕ → Option (List ℕ × List ℕ)
parts_of line = option_and_then with_process (cut_at 32 line)

-- a call that goes on behind lines of other processes
abbrev pub begun_in : List ℕ → Option (List ℕ)
begun_in text =
    if ends_with nat_eq text (codes " <unfinished ...>") then Some (take (length text - 17) text)
    else None

abbrev pub without_space : List ℕ → List ℕ
without_space [] = []
without_space (byte ∷ text) = if byte == 32 then text else byte ∷ text

abbrev pub is_end : List ℕ → Bool
is_end text = starts_with nat_eq text (codes "+++ exited with ")
    || starts_with nat_eq text (codes "+++ killed by ")

abbrev pub taken_by : List ℕ → Option (List ℕ)
taken_by text = option_and_then (λ rest. option_map (λ parts. parts.0) (cut_at 32 rest))
    (behind (codes "+++ superseded by execve in pid ") text)

abbrev pub begun_or_whole : Option (List ℕ) → Line
begun_or_whole None = Whole
begun_or_whole (Some start) = Begun start

abbrev pub kind_of_call : List ℕ → Line
kind_of_call text = begun_or_whole (begun_in text)

-- What a line is, behind its process.
abbrev pub kind_of : List ℕ → Option Line
kind_of text =
    if is_end text then Some Ends
    else (if starts_with nat_eq text (codes "+++ ") then option_map Takes (taken_by text)
    else (if starts_with nat_eq text (codes "--- ") then Some Signal
    else (if starts_with nat_eq text (codes "<... ")
    then option_map (λ rest. Resumed (without_space rest)) (behind (codes " resumed>") text)
    else Some (kind_of_call text))))

-- A call: its name, a bracket, its words and its result.
abbrev pub act_in : List ℕ → Option Act
act_in text = option_and_then (λ parts. act_of parts.0 parts.1) (cut_at 40 text)
