-- What the acts of a process do to paths.
use Rattle.std.specs.Prelude.{ℕ, Bool, true, false, List, [], ◌∷◌, ◌++◌, flat_map, codes, length}
use Rattle.std.specs.Prelude.{drop}
use Rattle.std.specs.Prelude.{Option, Some, None, option_and_then, if◌then◌else◌}
use Rattle.mk_strace.specs.declared.act.Act.{Act}
use Rattle.mk_strace.specs.declared.act.Act.TheVariants as act
use Rattle.mk_strace.specs.declared.how.How.{How}
use Rattle.mk_strace.specs.declared.how.How.TheVariants as how
use Rattle.mk_strace.specs.declared.how.Sort.{Sort}
use Rattle.mk_strace.specs.declared.how.Sort.TheVariants as sort
use Rattle.mk_strace.specs.declared.name.Name.{Name}
use Rattle.mk_recorder.specs.Places.{place_of, is_elsewhere, is_path}
use Rattle.mk_recorder.specs.Tables.{Entry, known_in, paths_below}
use Rattle.mk_recorder.specs.declared.known.Touch.{Touch}
use Rattle.mk_recorder.specs.declared.known.Touch.TheVariants as touch
use Rattle.mk_recorder.specs.declared.place.Place.{Place}
use Rattle.mk_recorder.specs.declared.place.Place.TheVariants as place
use Rattle.mk_recorder.specs.declared.table.Touched.{Touched}

-- touches, where it is known where all names lead
abbrev pub Touches : Type 0
Touches = Option (List Touched)

abbrev pub touch_list : Bool → List Touched → Touches
touch_list clear touches = if clear then Some touches else None

abbrev pub touched : List ℕ → Touch → List Touched
touched path what = record { path = path; touch = what } ∷ []

abbrev pub touch_at : List Touched → Place → Touch → Touches
touch_at touches (place.At path) what = Some (touches ++ touched path what)
touch_at touches place.Nowhere what = Some touches
touch_at touches place.Unclear what = None

-- touches, and one more of what a name leads to
abbrev pub with_touch : List Touched → List ℕ → Name → Touch → Touches
with_touch touches directory name what = touch_at touches (place_of directory name) what

abbrev pub with_two : List Touched → List ℕ → Name → Touch → Name → Touch → Touches
with_two touches directory one first other second = option_and_then
    (λ more. with_touch more directory other second) (with_touch touches directory one first)

abbrev pub touch_by : How → Option Touch
touch_by how.Passes = None
touch_by how.Folder = Some touch.Folder
touch_by how.Makes = Some touch.Make
touch_by how.Updates = Some touch.Update
touch_by how.Overwrites = Some touch.Overwrite
touch_by how.ReadsOrMakes = Some touch.ReadOrMake
touch_by how.Reads = Some touch.Read

abbrev pub opened : List Touched → List ℕ → Name → Name → Option Touch → Touches
opened touches directory name real None = Some touches
opened touches directory name real (Some what) =
    if is_elsewhere real then Some touches else with_two touches directory name what real what

-- What opening a file does is done to the path by which it is named and to that of what is real.
abbrev pub with_open : List Touched → List ℕ → Name → Name → How → Touches
with_open touches directory name real by = opened touches directory name real (touch_by by)

abbrev pub with_miss : List Touched → List ℕ → Name → Touches
with_miss touches directory name =
    if is_path name then with_touch touches directory name touch.Miss else Some touches

abbrev pub with_look : List Touched → List ℕ → Name → Sort → Touches
with_look touches directory name sort.File = with_touch touches directory name touch.Look
with_look touches directory name sort.Folder = with_touch touches directory name touch.Folder
with_look touches directory name sort.Other = Some touches

abbrev pub with_removal : List Touched → List ℕ → Name → Bool → Touches
with_removal touches directory name is_folder =
    if is_folder then with_two touches directory name touch.Folder name touch.Remove
    else with_touch touches directory name touch.Remove

-- a file that is moved is read and taken away, and the other path is made
abbrev pub file_move : List ℕ → List ℕ → List Touched
file_move from to = touched from touch.Read ++ (touched from touch.Remove ++ touched to touch.Make)

-- where a path below a directory lies when the directory is moved
abbrev pub moved : List ℕ → List ℕ → List ℕ → List ℕ
moved from to path = to ++ drop (length from) path

abbrev pub moved_below : List ℕ → List ℕ → List ℕ → List Touched
moved_below from to path = file_move path (moved from to path)

abbrev pub all_moved : List ℕ → List ℕ → List (List ℕ) → List Touched
all_moved from to paths = flat_map (moved_below from to) paths

-- A directory that is moved counts as listed, and each file that is known below it is moved.
abbrev pub folder_move : List Entry → List ℕ → List ℕ → List Touched
folder_move table from to = all_moved from to (paths_below from table)
    ++ (touched from touch.List ++ (touched from touch.Remove
    ++ (touched to touch.Folder ++ touched to touch.Make)))

abbrev pub path_move : List Entry → List ℕ → List ℕ → List Touched
path_move table from to =
    if (known_in table from).folder then folder_move table from to else file_move from to

abbrev pub move_at : List Touched → List Entry → Place → Place → Touches
move_at touches table (place.At from) (place.At to) = Some (touches ++ path_move table from to)
move_at touches table from to = None

abbrev pub with_move : List Touched → List Entry → List ℕ → Name → Name → Touches
with_move touches table directory from to =
    move_at touches table (place_of directory from) (place_of directory to)

-- What is done behind some calls is not seen, which is told as a read of a path that is never
-- there.
abbrev pub hidden_path : List ℕ → List ℕ
hidden_path call = (codes "/what cannot be seen (" ++ call) ++ codes ")"

abbrev pub hidden : List ℕ → List Touched
hidden call = touched (hidden_path call) touch.Read

abbrev pub with_rest : List Touched → List ℕ → Act → Touches
with_rest touches directory (act.Enters name) = with_touch touches directory name touch.Folder
with_rest touches directory (act.Lists name) = with_touch touches directory name touch.List
with_rest touches directory (act.Empties name) = with_touch touches directory name touch.Empty
with_rest touches directory (act.Hides call) = Some (touches ++ hidden call)
with_rest touches directory _ = Some touches

abbrev pub with_act : List Touched → List ℕ → Act → Touches
with_act touches directory (act.Opens name real by) = with_open touches directory name real by
with_act touches directory (act.Misses name) = with_miss touches directory name
with_act touches directory (act.Runs name) = with_touch touches directory name touch.Run
with_act touches directory (act.Looks name what) = with_look touches directory name what
with_act touches directory (act.Makes name) = with_touch touches directory name touch.Make
with_act touches directory (act.Updates name) = with_touch touches directory name touch.Update
with_act touches directory (act.MakesFolder name) = with_touch touches directory name touch.NewFolder
with_act touches directory (act.Removes name is_folder) =
    with_removal touches directory name is_folder
with_act touches directory (act.Links from to) =
    with_two touches directory from touch.Read to touch.Make
with_act touches directory other = with_rest touches directory other

-- What an act does to paths, by what is known of them.
abbrev pub with_touches : List Touched → List Entry → List ℕ → Act → Touches
with_touches touches table directory (act.Moves from to false) =
    with_move touches table directory from to
with_touches touches table directory (act.Moves from to true) =
    with_two touches directory from touch.Update to touch.Update
with_touches touches table directory other = with_act touches directory other
