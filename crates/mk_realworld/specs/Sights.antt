-- What is seen at a path.
use Rattle.std.specs.Prelude.{ℕ, Bool, nat_lt, if◌then◌else◌}
use Rattle.mk_world.specs.declared.time.Time.{Time}
use Rattle.mk_world.specs.declared.time.When.{When}
use Rattle.mk_world.specs.declared.time.When.TheVariants.{Missing, At, Unknown}

-- The later of the times of a file's content and of its inode; unknown where one of them is.
abbrev pub later : When → When → When
later (At one) (At other) = if nat_lt one.0 other.0 then At other else At one
later one other = Unknown

-- A time that is later than a bound is one of the future, and counts as unknown.
abbrev pub settled : ℕ → When → When
settled bound (At time) = if nat_lt bound time.0 then Unknown else At time
settled bound when = when
