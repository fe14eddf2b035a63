-- What an object tells of itself may be left out; then nothing is said of it.
use Rattle.std.specs.Prelude.{Option, Some, None}

-- Where it tells after a call, it told before, and what it told is so related.
abbrev pub Told : {A : Type 0} → Option A → Option A → (A → A → Type 0) → Type 0
Told before None Related = Unit {0}
Told None (Some after) Related = ⊥
Told (Some before) (Some after) Related = Related before after
