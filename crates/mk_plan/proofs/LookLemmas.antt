-- Calls that only look, one after the other.
pub use Rattle.mk_suffix.proofs.LookLemmas.{state_of-looks, only_none, only_same, only_then}
pub use Rattle.mk_suffix.proofs.LookLemmas.{ByLooks-none, ByLooks-then, ByLooks-map, ByLooks-refused, ByLooks-told}
pub use Rattle.mk_suffix.proofs.LookLemmas.{ByLooks-timed, OnErr-looked}
