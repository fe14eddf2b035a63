use Rattle.std.proofs.Common.{◌≡◌, ◌||◌, ℕ, List}
use Rattle.mk_bytes.specs.Texts.{is_among}
use Rattle.mk_commands.proofs.BelowLemmas.{some_lead}
use Rattle.mk_commands.proofs.files.Files.names_below.Given as goal

-- the names so far, and those to which the paths lead that are left
abbrev pub invariant-loop-path : goal.invariant-loop-path
invariant-loop-path l =
    (name : List ℕ) → (is_among l.names name || some_lead l.dir name l.path-iterator)
    ≡ some_lead l.dir name l.initial.path-iterator
