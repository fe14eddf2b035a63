-- When a target is out of date (make(1), "META MODE", and the rules of times), and why.
use Rattle.std.specs.Prelude.{ℕ, Bool, true, false, not, ◌==◌, ◌&&◌, ◌||◌, nat_le, nat_lt, List, []}
use Rattle.std.specs.Prelude.{◌∷◌, length, position, Option, Some, None, if◌then◌else◌}
use Rattle.std.specs.Option.{option_map, option_or}
use Rattle.std.specs.Str.{bytes_eq}
use Rattle.mk_bytes.specs.declared.pair.Pair.{Pair}
use Rattle.mk_filemon.specs.declared.record.Rec.{Rec}
use Rattle.mk_meta.specs.declared.meta.Meta.{Meta}
use Rattle.mk_world.specs.Looks.{is_missing}
use Rattle.mk_world.specs.declared.command.Task.{Task}
use Rattle.mk_world.specs.declared.command.TaskLine.{TaskLine}
use Rattle.mk_world.specs.declared.time.Time.{Time}
use Rattle.mk_world.specs.declared.time.When.{When}
use Rattle.mk_world.specs.declared.time.When.TheVariants as when
use Rattle.mk_oodate.specs.declared.reason.Age.{Age}
use Rattle.mk_oodate.specs.declared.reason.Age.TheVariants as age
use Rattle.mk_oodate.specs.declared.reason.NodeMode.{NodeMode}
use Rattle.mk_oodate.specs.declared.reason.Times.{Times}
use Rattle.mk_oodate.specs.declared.reason.Why.{Why}
use Rattle.mk_oodate.specs.declared.reason.Why.TheVariants as why

-- a source is new, or changed strictly later; an unknown time is later than all
abbrev pub is_newer : When → Age → Bool
is_newer target age.New = true
is_newer target age.Old = false
is_newer (when.At target) (age.At source) = nat_lt target.0 source.0
is_newer when.Missing (age.At source) = false
is_newer when.Unknown (age.At source) = false

-- one time is before another; an unknown one is before none, and behind each known one
abbrev pub is_older : When → When → Bool
is_older (when.At one) (when.At other) = nat_lt one.0 other.0
is_older (when.At one) when.Unknown = true
is_older (when.At one) when.Missing = false
is_older when.Missing other = false
is_older when.Unknown other = false

-- what a job read is gone, or was not changed before the job began
abbrev pub is_changed : Time → When → Bool
is_changed stamp when.Missing = true
is_changed stamp when.Unknown = true
is_changed stamp (when.At time) = nat_le stamp.0 time.0

abbrev pub same_flag : Bool → Bool → Bool
same_flag true other = other
same_flag false other = not other

-- a line that is not compared is the same as any other
abbrev pub same_line : TaskLine → TaskLine → Bool
same_line line other =
    not line.compared || (bytes_eq line.text other.text && same_flag line.ignore other.ignore)

abbrev pub same_lines : List TaskLine → List TaskLine → Bool
same_lines [] [] = true
same_lines [] (other ∷ others) = false
same_lines (line ∷ lines) [] = false
same_lines (line ∷ lines) (other ∷ others) = same_line line other && same_lines lines others

abbrev pub same_export : Pair → Pair → Bool
same_export one other = bytes_eq one.name other.name && bytes_eq one.value other.value

abbrev pub same_exports : List Pair → List Pair → Bool
same_exports [] [] = true
same_exports [] (other ∷ others) = false
same_exports (one ∷ pairs) [] = false
same_exports (one ∷ pairs) (other ∷ others) = same_export one other && same_exports pairs others

-- The exported variables count always; of the commands either their number alone, or their
-- directory and the lines.
abbrev pub same_commands : Bool → Task → Meta → Bool
same_commands true task meta = length task.lines == length meta.lines
same_commands false task meta = bytes_eq task.cwd meta.cwd && same_lines task.lines meta.lines

abbrev pub is_same : Bool → Task → Meta → Bool
is_same count_only task meta =
    same_exports task.exports meta.exports && same_commands count_only task meta

abbrev pub given : Bool → Why → Option Why
given holds reason = if holds then Some reason else None

-- the place of the first of which it holds
abbrev pub at_first : {A : Type 0} → (A → Bool) → (ℕ → Why) → List A → Option Why
at_first holds reason items = option_map reason (position holds items)

-- by records: without any there is a reason only where they must be there
abbrev pub by_records : NodeMode → Times → Time → Option (List Rec) → Option Why
by_records mode times stamp None = given mode.missing_filemon why.NoRecords
by_records mode times stamp (Some records) =
    option_or (at_first (is_changed stamp) why.Read times.reads)
    (option_or (at_first (λ when. not (is_missing when)) why.Appeared times.misses)
    (at_first is_missing why.Left times.left))

-- by the meta file of the target
abbrev pub by_contents : Task → NodeMode → Times → Meta → Option Why
by_contents task mode times meta =
    option_or (given (not (is_older times.target times.meta)) why.Touched)
    (option_or (given (not mode.ignore_cmd && not (is_same mode.count_only task meta)) why.Command)
    (if mode.nofilemon then None else by_records mode times meta.stamp meta.records))

-- in meta mode: without a meta file of this target nothing more is asked
abbrev pub by_meta : Option Meta → Task → NodeMode → Times → Option Why
by_meta None task mode times = given mode.missing_meta why.NoMeta
by_meta (Some meta) task mode times =
    if bytes_eq meta.target task.target then by_contents task mode times meta
    else given mode.missing_meta why.NoMeta

-- The first of the ten reasons that holds.
abbrev pub stale : Option Meta → Task → NodeMode → Times → Option Why
stale meta task mode times =
    option_or (given mode.always why.Always)
    (option_or (given (is_missing times.target) why.Missing)
    (option_or (at_first (is_newer times.target) why.Newer times.sources)
    (if mode.meta then by_meta meta task mode times else None)))
