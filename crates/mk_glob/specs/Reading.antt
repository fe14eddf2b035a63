-- How the code reads a pattern: how its parts are seen, and what it remembers.
use Rattle.std.specs.Prelude.{ℕ, Bool, not, List, drop}
use Rattle.std.specs.List.{list_all}
use Rattle.mk_glob.specs.Patterns.{Class, any, only, within, outside, Part, many, one, is_close}
use Rattle.mk_glob.specs.declared.part.Class as coded_class
use Rattle.mk_glob.specs.declared.part.Class.TheVariants.{Any, Only, Within, Outside}
use Rattle.mk_glob.specs.declared.part.Part as coded_part
use Rattle.mk_glob.specs.declared.part.Part.TheVariants.{Star, One}

abbrev pub seen_class : coded_class.Class → Class
seen_class Any = any
seen_class (Only byte) = only byte
seen_class (Within members) = within members.now
seen_class (Outside members) = outside members.now

abbrev pub seen_part : coded_part.Part → Part
seen_part Star = many
seen_part (One class) = one (seen_class class)

abbrev pub no_close : List ℕ → Bool
no_close bytes = list_all (λ byte. not (is_close byte)) bytes

-- No `[` in these bytes begins a set: a set is a `[`, a first member, and a `]` behind them.
abbrev pub has_no_set : List ℕ → Bool
has_no_set bytes = no_close (drop 2 bytes)
