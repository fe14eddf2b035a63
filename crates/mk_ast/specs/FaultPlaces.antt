-- Where the fault of a text stands, by the bytes there.
use Rattle.std.specs.Prelude.{◌≡◌, ℕ, ◌+◌, List, Some, slice_get}
use Rattle.mk_bytes.specs.Bytes.{dollar, colon}
use Rattle.mk_ast.specs.declared.fault.AstFault.{AstFault}
use Rattle.mk_ast.specs.declared.fault.AstFault.TheVariants.{Unclosed, UnknownModifier, BadModifier}
use Rattle.mk_ast.specs.declared.fault.AstFault.TheVariants.{TooDeep, NoMemory}
use Rattle.mk_ast.specs.declared.fault.TreeFault.{TreeFault}
use Rattle.mk_ast.specs.declared.fault.TreeFault.TheVariants as tree

-- a place with a `:` directly before it
abbrev pub IsBehindColon : List ℕ → ℕ → Type 0
IsBehindColon text at = (before : ℕ) × (at ≡ before + 1) × (slice_get text before ≡ Some colon)

-- A fault of a reference stands at its `$`, and one of a modifier directly behind its `:`. Want of
-- memory stands nowhere: it is no fault of a text.
abbrev pub StandsIn : List ℕ → AstFault → Type 0
StandsIn text (Unclosed at) = slice_get text at ≡ Some dollar
StandsIn text (UnknownModifier at) = IsBehindColon text at
StandsIn text (BadModifier at) = IsBehindColon text at
StandsIn text (TooDeep at) = slice_get text at ≡ Some dollar
StandsIn text NoMemory = ⊥

-- the same of a fault of the grammar alone
abbrev pub TreeStandsIn : List ℕ → TreeFault → Type 0
TreeStandsIn text (tree.Unclosed at) = slice_get text at ≡ Some dollar
TreeStandsIn text (tree.UnknownModifier at) = IsBehindColon text at
TreeStandsIn text (tree.BadModifier at) = IsBehindColon text at
TreeStandsIn text (tree.TooDeep at) = slice_get text at ≡ Some dollar
