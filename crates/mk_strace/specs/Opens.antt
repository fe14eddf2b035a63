-- How files are opened, by the flags that strace shows (open(2)).
use Rattle.std.specs.Prelude.{ℕ, Bool, not, ◌&&◌, ◌||◌, List, codes, if◌then◌else◌}
use Rattle.mk_strace.specs.Scan.{has}
use Rattle.mk_strace.specs.declared.how.How.{How}
use Rattle.mk_strace.specs.declared.how.How.TheVariants as how
use Rattle.mk_strace.specs.declared.how.Sort.{Sort}
use Rattle.mk_strace.specs.declared.how.Sort.TheVariants as sort

abbrev pub is_folder : List ℕ → Bool
is_folder flags = has (codes "O_DIRECTORY") flags || has (codes "O_TMPFILE") flags

-- nothing of an old file stays: it is cut, or there is none
abbrev pub is_new : List ℕ → Bool
is_new flags =
    has (codes "O_TRUNC") flags || (has (codes "O_CREAT") flags && has (codes "O_EXCL") flags)

-- opened as touch(1) of GNU does, only for a new time
abbrev pub is_touched : List ℕ → Bool
is_touched flags = has (codes "O_WRONLY") flags
    && (has (codes "O_NONBLOCK") flags && not (has (codes "O_APPEND") flags))

-- What opening a file does to it. Where it is open for writing alone, nothing of it is read by
-- that.
abbrev pub how_of : List ℕ → How
how_of flags =
    if has (codes "O_PATH") flags then how.Passes
    else (if is_folder flags then how.Folder
    else (if is_new flags || is_touched flags then how.Makes
    else (if has (codes "O_RDWR") flags then how.Updates
    else (if has (codes "O_WRONLY") flags then how.Overwrites
    else (if has (codes "O_CREAT") flags then how.ReadsOrMakes
    else how.Reads)))))

-- What a look found, by the mode that is shown behind its path.
abbrev pub sort_in : List ℕ → Sort
sort_in words =
    if has (codes "_mode=S_IFREG") words then sort.File
    else (if has (codes "_mode=S_IFDIR") words then sort.Folder else sort.Other)
