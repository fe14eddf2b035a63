-- Calls that only look, one after the other.
pub use Rattle.mk_dirs.proofs.LookLemmas.{state_of-looks, only_none, only_same, only_then}
pub use Rattle.mk_dirs.proofs.LookLemmas.{ByLooks-none, ByLooks-then, ByLooks-map, ByLooks-refused, ByLooks-told}
pub use Rattle.mk_dirs.proofs.LookLemmas.{ByLooks-timed, OnErr-looked}
