-- Where names lead.
use Rattle.std.specs.Prelude.{ℕ, Bool, true, false, not, ◌||◌, List, [], codes}
use Rattle.std.specs.Str.{bytes_eq}
use Rattle.mk_filemon.specs.Log.{directory_from}
use Rattle.mk_strace.specs.declared.name.Name.{Name}
use Rattle.mk_strace.specs.declared.name.Name.TheVariants.{Path, Here, Open, Nameless, Unclear}
use Rattle.mk_recorder.specs.Tables.{is_below}
use Rattle.mk_recorder.specs.declared.place.Place.{Place}
use Rattle.mk_recorder.specs.declared.place.Place.TheVariants as place

abbrev pub at : List ℕ → List ℕ → Place
at directory path = place.At (directory_from directory path)

-- Where a name leads from the directory of its process.
abbrev pub place_of : List ℕ → Name → Place
place_of directory (Path path) = at directory path
place_of directory (Here path) = at directory path
place_of directory (Open path) = at directory path
place_of directory Nameless = place.Nowhere
place_of directory Unclear = place.Unclear

abbrev pub is_at_or_below : List ℕ → List ℕ → Bool
is_at_or_below directory path = bytes_eq path directory || is_below directory path

-- What lies below /dev, /proc and /sys is no file of a command.
abbrev pub is_outside : List ℕ → Bool
is_outside path = is_at_or_below (codes "/dev") path
    || (is_at_or_below (codes "/proc") path || is_at_or_below (codes "/sys") path)

abbrev pub is_elsewhere : Name → Bool
is_elsewhere Nameless = true
is_elsewhere (Open path) = is_outside path
is_elsewhere (Path path) = false
is_elsewhere (Here path) = false
is_elsewhere Unclear = false

-- a name is a path that may be missed
abbrev pub is_path : Name → Bool
is_path (Open path) = false
is_path Nameless = false
is_path (Here path) = not (bytes_eq path [])
is_path (Path path) = true
is_path Unclear = true
