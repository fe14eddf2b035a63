-- What calls did, by their words and their results.
use Rattle.std.specs.Prelude.{ℕ, Bool, true, false, not, ◌==◌, ◌&&◌, ◌||◌, nat_eq, nat_le, List, []}
use Rattle.std.specs.Prelude.{◌∷◌, codes, Option, Some, None, option_and_then, if◌then◌else◌}
use Rattle.std.specs.List.{starts_with, list_all}
use Rattle.std.specs.Option.{option_map}
use Rattle.std.specs.Str.{bytes_eq}
use Rattle.mk_bytes.specs.Bytes.{is_digit}
use Rattle.mk_strace.specs.Calls.{form_of}
use Rattle.mk_strace.specs.Names.{name_at, open_in}
use Rattle.mk_strace.specs.Opens.{how_of, sort_in}
use Rattle.mk_strace.specs.Scan.{cut, has}
use Rattle.mk_strace.specs.declared.scan.Mode.TheVariants.{Plain}
use Rattle.mk_strace.specs.declared.call.Call.{Call}
use Rattle.mk_strace.specs.declared.call.Call.TheVariants as call
use Rattle.mk_strace.specs.declared.call.Form.{Form}
use Rattle.mk_strace.specs.declared.how.Sort.{Sort}
use Rattle.mk_strace.specs.declared.how.Sort.TheVariants as sort
use Rattle.mk_strace.specs.declared.name.Name.{Name}
use Rattle.mk_strace.specs.declared.act.Act.{Act}
use Rattle.mk_strace.specs.declared.act.Act.TheVariants as act
use Rattle.mk_strace.specs.declared.act.Outcome.{Outcome}
use Rattle.mk_strace.specs.declared.act.Outcome.TheVariants.{Done, Missed, Failed}

-- nothing was there
abbrev pub is_miss : List ℕ → Bool
is_miss end = starts_with nat_eq end (codes "-1 ENOENT") || starts_with nat_eq end (codes "-1 ENOTDIR")

abbrev pub is_number : List ℕ → Bool
is_number text = not (bytes_eq text []) && list_all is_digit text

-- A result begins with `-` or `?` where the call failed, and else with a digit: `-` 45, `?` 63.
abbrev pub outcome_by : Bool → ℕ → Option Outcome
outcome_by missed first =
    if missed then Some Missed
    else (if first == 45 || first == 63 then Some Failed
    else (if nat_le 48 first && nat_le first 57 then Some Done else None))

abbrev pub outcome_of : List ℕ → Option Outcome
outcome_of [] = None
outcome_of (first ∷ text) = outcome_by (is_miss (first ∷ text)) first

-- a miss of such a call says something of the path that it names first
abbrev pub is_look : Call → Bool
is_look call.Points = false
is_look call.EntersOpen = false
is_look call.CutsOpen = false
is_look call.Lists = false
is_look call.Forks = false
is_look call.Parts = false
is_look call.Hides = false
is_look call.Other = false
is_look _ = true

abbrev pub missed : Form → List ℕ → Option Act
missed form words =
    if is_look form.call then option_map (λ name. act.Misses name.0) (name_at form.by_open words)
    else Some act.Nothing

abbrev pub opened : Name → List ℕ → List ℕ → Option Act
opened name words end =
    option_map (λ flags. act.Opens name (open_in end) (how_of flags.0)) (cut true Plain words)

-- a file that is cut at its beginning is new
abbrev pub cuts : Name → List ℕ → Act
cuts name words =
    if starts_with nat_eq words (codes "0)") then act.Makes name else act.Updates name

-- a device or a pipe is passed over
abbrev pub nodes : Name → List ℕ → Act
nodes name words =
    if has (codes "S_IF") words && not (has (codes "S_IFREG") words) then act.Nothing
    else act.Makes name

abbrev pub removes : Name → Bool → Act
removes name is_folder = act.Removes name is_folder

abbrev pub looks : Name → Sort → Act
looks name what = act.Looks name what

-- a call with one name, by the words behind the name
abbrev pub done_to : Call → Name → List ℕ → Act
done_to call.Makes name words = act.Makes name
done_to call.Runs name words = act.Runs name
done_to call.Looks name words = looks name (sort_in words)
done_to call.Asks name words = looks name sort.File
done_to call.Cuts name words = cuts name words
done_to call.Nodes name words = nodes name words
done_to call.Folders name words = act.MakesFolder name
done_to call.Removes name words = removes name (has (codes "AT_REMOVEDIR") words)
done_to call.RemovesFolder name words = removes name true
done_to call.Enters name words = act.Enters name
done_to _ name words = act.Nothing

abbrev pub moves : Name → Name → List ℕ → Act
moves from to words = act.Moves from to (has (codes "RENAME_EXCHANGE") words)

abbrev pub done_to_both : Call → Name → Name → List ℕ → Act
done_to_both call.Moves from to words = moves from to words
done_to_both _ from to words = act.Links from to

abbrev pub both : Form → Name → List ℕ → Option Act
both form from words =
    option_map (λ to. done_to_both form.call from to.0 to.1) (name_at form.by_open words)

-- a call whose names stand first
abbrev pub done_to_named_by : Call → Form → List ℕ → Name → List ℕ → Option Act
done_to_named_by call.Opens form end name rest = opened name rest end
done_to_named_by call.Moves form end name rest = both form name rest
done_to_named_by call.Links form end name rest = both form name rest
done_to_named_by what form end name rest = Some (done_to what name rest)

abbrev pub done_to_named : Form → List ℕ → Name × List ℕ → Option Act
done_to_named form end (name, rest) = done_to_named_by form.call form end name rest

abbrev pub done_by_names : Form → List ℕ → List ℕ → Option Act
done_by_names form words end =
    option_and_then (done_to_named form end) (name_at form.by_open words)

-- a symbolic link is made: where it leads stands before its name
abbrev pub pointed : Bool → List ℕ → Option Act
pointed by_open words = option_and_then
    (λ first. option_map (λ name. act.Makes name.0) (name_at by_open first.2))
    (cut true Plain words)

-- a file that is open and is cut at its beginning is empty
abbrev pub cuts_open : Name → List ℕ → Act
cuts_open name words =
    if starts_with nat_eq words (codes "0)") then act.Empties name else act.Updates name

abbrev pub done_in : Call → Name → List ℕ → Act
done_in call.Lists name words = act.Lists name
done_in call.CutsOpen name words = cuts_open name words
done_in _ name words = act.Enters name

abbrev pub done_to_open : Call → List ℕ → Option Act
done_to_open what words =
    option_map (λ first. done_in what (open_in first.0) first.2) (cut true Plain words)

-- what has names of its own for files or users is not seen by paths
abbrev pub is_hidden : List ℕ → Bool
is_hidden words = has (codes "CLONE_NEWNS") words || has (codes "CLONE_NEWUSER") words

abbrev pub hides : List ℕ → Option Act
hides name = Some (act.Hides name)

abbrev pub forked : List ℕ → List ℕ → List ℕ → Option Act
forked name words end =
    if is_hidden words then hides name
    else (if is_number end then Some (act.Forks end (has (codes "CLONE_FS") words)) else None)

abbrev pub parted : List ℕ → List ℕ → Option Act
parted name words =
    if is_hidden words || has (codes "CLONE_FS") words then hides name else Some act.Nothing

-- a call that went well
abbrev pub done_by : Call → Form → List ℕ → List ℕ → List ℕ → Option Act
done_by call.Points form name words end = pointed form.by_open words
done_by call.EntersOpen form name words end = done_to_open call.EntersOpen words
done_by call.CutsOpen form name words end = done_to_open call.CutsOpen words
done_by call.Lists form name words end = done_to_open call.Lists words
done_by call.Forks form name words end = forked name words end
done_by call.Parts form name words end = parted name words
done_by call.Hides form name words end = hides name
done_by call.Other form name words end = Some act.Nothing
done_by _ form name words end = done_by_names form words end

abbrev pub done : List ℕ → List ℕ → List ℕ → Option Act
done name words end = done_by (form_of name).call (form_of name) name words end

abbrev pub act_by : List ℕ → List ℕ → List ℕ → Option Outcome → Option Act
act_by name words end None = None
act_by name words end (Some Done) = done name words end
act_by name words end (Some Missed) = missed (form_of name) words
act_by name words end (Some Failed) = Some act.Nothing

-- What a call did, by its name, its words and its result; none where they have no known form.
abbrev pub act_of : List ℕ → List ℕ → Option Act
act_of name words = option_and_then
    (λ all. act_by name words all.2 (outcome_of all.2)) (cut false Plain words)
