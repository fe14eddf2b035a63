-- Ages that are known, by places.
use Rattle.std.specs.BTreeMap.{BTreeMap, get}
use Rattle.std.specs.Ordering.{nat_cmp}
use Rattle.std.specs.Prelude.{ℕ, ◌<◌, ◌==◌, Option, Some, None, if◌then◌else◌, length, get_or}
use Rattle.std.specs.Prelude.{unwrap_or}
use Rattle.mk_decision.specs.declared.age.Few.{Few}
use Rattle.mk_decision.specs.declared.age.Known.{Known}
use Rattle.mk_decision.specs.declared.age.Known.TheVariants as kind
use Rattle.mk_oodate.specs.declared.reason.Age.{Age}
use Rattle.mk_oodate.specs.declared.reason.Age.TheVariants.{Old}

-- all others are old
abbrev pub known_earlier : BTreeMap ℕ Age → ℕ → Age
known_earlier ages place = unwrap_or (get nat_cmp ages place) Old

abbrev pub known_last : Option (ℕ × Age) → ℕ → Age → Age
known_last None place earlier = earlier
known_last (Some last) place earlier = if last.0 == place then last.1 else earlier

abbrev pub known_few : Few → ℕ → Age
known_few ages place = known_last ages.last place (known_earlier ages.earlier place)

abbrev pub known : Known → ℕ → Age
known (kind.Few ages) place = known_few ages place
known (kind.Each ages) place = get_or ages.items place Old

-- a list of the ages of all places up to one takes no other
abbrev pub HasRoom : Known → ℕ → Type 0
HasRoom (kind.Few ages) place = Unit {0}
HasRoom (kind.Each ages) place = place < length ages.items
