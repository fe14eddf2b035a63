-- The plain data that a chain of the code stands for.
use Rattle.std.specs.Prelude.{ℕ, List}
use Rattle.mk_mods.specs.Pieces.{seen}
use Rattle.mk_values.specs.Chains.{Chain}
use Rattle.mk_values.specs.declared.chain.Chain.{Chain as CodeChain}

abbrev pub chain_view : List ℕ → CodeChain → Chain
chain_view region chain = record { state = seen region chain.val; defined = chain.defined }
