-- A raw value without any `$`, which is its own value.
use Rattle.std.specs.Prelude.{ℕ, List, [], Result, Ok}
use Rattle.mk_bytes.specs.Agrees.{◌>>=◌}
use Rattle.mk_values.specs.Chains.{defined_as}
use Rattle.mk_values.specs.Limits.{appended}
use Rattle.mk_values.specs.declared.chain.Found.{Found}
use Rattle.mk_values.specs.declared.fault.ExpandFault.{ExpandFault}

abbrev pub found_of : Result (List ℕ) ExpandFault → Result Found ExpandFault
found_of text = text >>= λ value. Ok (defined_as value)

abbrev pub plain_found : List ℕ → Result Found ExpandFault
plain_found raw = found_of (appended [] raw)
