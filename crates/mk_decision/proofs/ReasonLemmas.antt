-- Reasons, as more is seen.
use Rattle.std.proofs.Common.{◌≡◌, ◌∙◌, ℕ, List, [], Bool, true, false, not, ◌||◌, Option, Some, None, is_some, refl, sym, if◌then◌else◌}
use Rattle.std.specs.Option.{option_or}
use Rattle.mk_meta.specs.declared.meta.Meta.{Meta}
use Rattle.mk_oodate.specs.Stale.{at_first, by_meta, given, is_newer, stale}
use Rattle.mk_oodate.specs.declared.reason.Age.{Age}
use Rattle.mk_oodate.specs.declared.reason.NodeMode.{NodeMode}
use Rattle.mk_oodate.specs.declared.reason.Why.{Why}
use Rattle.mk_oodate.specs.declared.reason.Why.TheVariants as why
use Rattle.mk_world.specs.Looks.{is_missing}
use Rattle.mk_world.specs.declared.command.Task.{Task}
use Rattle.mk_world.specs.declared.time.When.{When}
use Rattle.mk_decision.specs.Metas.{AreOf, IsValueOf, PathTimes, no_paths, records_in}
use Rattle.mk_decision.specs.Reasons.{IsMetaSight, by_times, first_times, is_opened, reason}
use Rattle.mk_decision.specs.declared.reason.Found.{Found}
use Rattle.mk_oodate.specs.declared.reason.Times.{Times}

pub none-from : (found : Option Why) → is_some found ≡ false → found ≡ None
none-from None is = refl
none-from (Some one) is = absurd cc

-- a reason by times stands, whatever more there is
or-stands : (first second third more : Option Why) (one : Why)
    → option_or first (option_or second (option_or third None)) ≡ Some one
    → option_or first (option_or second (option_or third more)) ≡ Some one
or-stands (Some x) second third more one is = is
or-stands None (Some x) third more one is = is
or-stands None None (Some x) more one is = is
or-stands None None None more one is = absurd cc

-- in meta mode or not, a reason by times is the reason
times-stand : (mode : NodeMode) (task : Task) (target : When) (ages : List Age) (one : Why)
    → by_times mode task target ages ≡ Some one → reason mode task target ages None ≡ Some one
times-stand mode task target ages one is =
    or-stands (given mode.always why.Always) (given (is_missing target) why.Missing)
    (at_first (is_newer target) why.Newer ages)
    (if mode.meta then by_meta None task mode (first_times target ages) else None) one is

-- not in meta mode, the reason is by times
times-alone : (mode : NodeMode) (task : Task) (target : When) (ages : List Age) → mode.meta ≡ false
    → by_times mode task target ages ≡ reason mode task target ages None
times-alone mode task target ages is = rw is refl

-- nothing is looked at in meta mode where the reason is by times
pub judged-by_times : (mode : NodeMode) (task : Task) (target : When) (ages : List Age)
    (found : Option Why) → found ≡ by_times mode task target ages
    → (not mode.meta || is_some found) ≡ true
    → (is_opened mode task target ages ≡ false) × (found ≡ reason mode task target ages None)
judged-by_times mode task target ages found is either = by mode.meta refl found is either
  where
    by : (meta : Bool) → mode.meta ≡ meta → (found : Option Why)
        → found ≡ by_times mode task target ages → (not meta || is_some found) ≡ true
        → (is_opened mode task target ages ≡ false) × (found ≡ reason mode task target ages None)
    by false off found is either =
        (rw off refl, is ∙ times-alone mode task target ages off)
    by true on None is either = absurd cc
    by true on (Some one) is either = (
      rw (on, ← is) refl,
      sym (times-stand mode task target ages one (sym is)),
    )

-- and else it is
pub opened-by_times : (mode : NodeMode) (task : Task) (target : When) (ages : List Age)
    (found : Option Why) → found ≡ by_times mode task target ages
    → (not mode.meta || is_some found) ≡ false → is_opened mode task target ages ≡ true
opened-by_times mode task target ages found is neither = by mode.meta refl found is neither
  where
    by : (meta : Bool) → mode.meta ≡ meta → (found : Option Why)
        → found ≡ by_times mode task target ages → (not meta || is_some found) ≡ false
        → is_opened mode task target ages ≡ true
    by false off found is neither = absurd cc
    by true on (Some one) is neither = absurd cc
    by true on None is neither = rw (on, ← is) refl

-- no record names no path
pub none-of : (ignored : List (List ℕ)) → AreOf ignored [] no_paths
none-of ignored = record { reads = refl; misses = refl; left = refl }

-- the meta file alone gives the reason
pub judged-by_file : (ignored : List (List ℕ)) (mode : NodeMode) (task : Task) (target : When)
    (ages : List Age) (bytes : Option (List ℕ)) (value : Option Meta) (when : When)
    (found : Option Why) → is_opened mode task target ages ≡ true → IsValueOf bytes value
    → found ≡ stale value task mode (record (first_times target ages) { meta = when })
    → is_some found ≡ true
    → IsMetaSight ignored mode task target ages
    (Some (record { bytes = bytes; value = value; when = when; paths = no_paths }))
judged-by_file ignored mode task target ages bytes value when found opened is_value is some =
    (opened, is_value, rw (← is, some) (none-of ignored))

-- the paths of its records are looked at where it gives none
pub judged-by_paths : (ignored : List (List ℕ)) (mode : NodeMode) (task : Task) (target : When)
    (ages : List Age) (bytes : Option (List ℕ)) (value : Option Meta) (when : When)
    (paths : PathTimes) → is_opened mode task target ages ≡ true → IsValueOf bytes value
    → stale value task mode (record (first_times target ages) { meta = when }) ≡ None
    → AreOf ignored (records_in mode task value) paths
    → IsMetaSight ignored mode task target ages
    (Some (record { bytes = bytes; value = value; when = when; paths = paths }))
judged-by_paths ignored mode task target ages bytes value when paths opened is_value none are =
    (opened, is_value, rw none are)

-- what was found is the same where its reason and its times are
pub found-is : (why other : Option Why) (times more : Times) (value : Option Meta) → why ≡ other
    → times ≡ more
    → let first : Found = record { why = why; times = times; value = value } in
    first ≡ record { why = other; times = more; value = value }
found-is why other times more value is are = rw (is, are) refl
