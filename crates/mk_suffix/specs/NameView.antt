-- Slices that may be there, as lists.
use denote.Ref.{Bor}
use Rattle.std.specs.Prelude.{ℕ, List, Option, Some, None}

abbrev pub seen : Option (Bor (List ℕ)) → Option (List ℕ)
seen None = None
seen (Some text) = Some text.now
