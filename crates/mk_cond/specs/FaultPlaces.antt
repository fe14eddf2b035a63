-- Where the fault of a condition stands, by the bytes there.
use Rattle.std.specs.Prelude.{◌≡◌, ◌⊎◌, ◌≤◌, ℕ, List, Some, length, slice_get}
use Rattle.mk_bytes.specs.Bytes.{exclamation, round_open}
use Rattle.mk_ast.specs.FaultPlaces as references
use Rattle.mk_cond.specs.declared.fault.CondFault.{CondFault}
use Rattle.mk_cond.specs.declared.fault.CondFault.TheVariants.{Bad, Tree, TooDeep, NoMemory}

-- What does not fit stands in the text, or is its end. A fault of a reference stands where those of
-- references do. What is opened too deep is a `!` or a parenthesis.
abbrev pub StandsIn : List ℕ → CondFault → Type 0
StandsIn text (Bad at) = at ≤ length text
StandsIn text (Tree fault) = references.TreeStandsIn text fault
StandsIn text (TooDeep at) =
    (slice_get text at ≡ Some exclamation) ⊎ (slice_get text at ≡ Some round_open)
StandsIn text NoMemory = ⊥
