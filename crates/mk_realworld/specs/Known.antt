-- What is known of the times of files, and when.
use Rattle.std.specs.Prelude.{ℕ, List, Option, None, ◌≡◌, ◌<◌}
use Rattle.std.specs.Map.{lookup}
use Rattle.std.specs.Str.{bytes_eq}
use Rattle.mk_realworld.specs.declared.file.Sight.{Sight}
use Rattle.mk_realworld.specs.declared.known.KnownTimes.{KnownTimes}

-- what was seen at each path, where it is known
abbrev pub Sights : Type 0
Sights = List ℕ → Option Sight

abbrev pub no_sights : Sights
no_sights = λ path. None

abbrev pub sights_in : KnownTimes → Sights
sights_in kept = λ path. lookup (λ key. bytes_eq path key.items) kept.sights.entries

-- nothing is known any more
abbrev pub IsForgotten : KnownTimes → Type 0
IsForgotten kept = sights_in kept ≡ no_sights
