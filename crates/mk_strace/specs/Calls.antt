-- The calls that say something of files, by their names.
use Rattle.std.specs.Prelude.{ℕ, Bool, true, false, List, codes, if◌then◌else◌}
use Rattle.std.specs.Str.{bytes_eq}
use Rattle.mk_strace.specs.declared.call.Call.{Call}
use Rattle.mk_strace.specs.declared.call.Call.TheVariants.{Opens, Makes, Runs, Looks, Asks}
use Rattle.mk_strace.specs.declared.call.Call.TheVariants.{Follows, Cuts, Nodes, Folders, Removes}
use Rattle.mk_strace.specs.declared.call.Call.TheVariants.{RemovesFolder, Moves, Links, Points}
use Rattle.mk_strace.specs.declared.call.Call.TheVariants.{Enters}
use Rattle.mk_strace.specs.declared.call.Call.TheVariants.{EntersOpen, Lists, Forks, Parts, Hides}
use Rattle.mk_strace.specs.declared.call.Call.TheVariants.{CutsOpen, Other}
use Rattle.mk_strace.specs.declared.call.Form.{Form}

abbrev pub with : Call → Bool → Form
with call by_open = record { call = call; by_open = by_open }

abbrev pub form_of_hidden : List ℕ → Form
form_of_hidden name =
    if bytes_eq name (codes "chroot") then with Hides false
    else (if bytes_eq name (codes "pivot_root") then with Hides false
    else (if bytes_eq name (codes "mount") then with Hides false
    else (if bytes_eq name (codes "setns") then with Hides false
    else (if bytes_eq name (codes "open_by_handle_at") then with Hides false
    else (if bytes_eq name (codes "io_uring_setup") then with Hides false
    else (if bytes_eq name (codes "move_mount") then with Hides false
    else with Other false))))))

abbrev pub form_of_process : List ℕ → Form
form_of_process name =
    if bytes_eq name (codes "fork") then with Forks false
    else (if bytes_eq name (codes "vfork") then with Forks false
    else (if bytes_eq name (codes "clone") then with Forks false
    else (if bytes_eq name (codes "clone3") then with Forks false
    else (if bytes_eq name (codes "unshare") then with Parts false
    else form_of_hidden name))))

abbrev pub form_of_place : List ℕ → Form
form_of_place name =
    if bytes_eq name (codes "chdir") then with Enters false
    else (if bytes_eq name (codes "fchdir") then with EntersOpen false
    else (if bytes_eq name (codes "getdents") then with Lists false
    else (if bytes_eq name (codes "getdents64") then with Lists false
    else (if bytes_eq name (codes "ftruncate") then with CutsOpen false
    else (if bytes_eq name (codes "ftruncate64") then with CutsOpen false
    else form_of_process name)))))

abbrev pub form_of_touch : List ℕ → Form
form_of_touch name =
    if bytes_eq name (codes "link") then with Links false
    else (if bytes_eq name (codes "linkat") then with Links true
    else (if bytes_eq name (codes "symlink") then with Points false
    else (if bytes_eq name (codes "symlinkat") then with Points true
    else (if bytes_eq name (codes "utime") then with Makes false
    else (if bytes_eq name (codes "utimes") then with Makes false
    else (if bytes_eq name (codes "utimensat") then with Makes true
    else (if bytes_eq name (codes "futimesat") then with Makes true
    else form_of_place name)))))))

abbrev pub form_of_move : List ℕ → Form
form_of_move name =
    if bytes_eq name (codes "mkdir") then with Folders false
    else (if bytes_eq name (codes "mkdirat") then with Folders true
    else (if bytes_eq name (codes "unlink") then with Removes false
    else (if bytes_eq name (codes "unlinkat") then with Removes true
    else (if bytes_eq name (codes "rmdir") then with RemovesFolder false
    else (if bytes_eq name (codes "rename") then with Moves false
    else (if bytes_eq name (codes "renameat") then with Moves true
    else (if bytes_eq name (codes "renameat2") then with Moves true
    else form_of_touch name)))))))

abbrev pub form_of_change : List ℕ → Form
form_of_change name =
    if bytes_eq name (codes "access") then with Asks false
    else (if bytes_eq name (codes "faccessat") then with Asks true
    else (if bytes_eq name (codes "faccessat2") then with Asks true
    else (if bytes_eq name (codes "readlink") then with Follows false
    else (if bytes_eq name (codes "readlinkat") then with Follows true
    else (if bytes_eq name (codes "truncate") then with Cuts false
    else (if bytes_eq name (codes "truncate64") then with Cuts false
    else (if bytes_eq name (codes "mknod") then with Nodes false
    else (if bytes_eq name (codes "mknodat") then with Nodes true
    else form_of_move name))))))))

abbrev pub form_of_look : List ℕ → Form
form_of_look name =
    if bytes_eq name (codes "stat") then with Looks false
    else (if bytes_eq name (codes "stat64") then with Looks false
    else (if bytes_eq name (codes "lstat") then with Looks false
    else (if bytes_eq name (codes "lstat64") then with Looks false
    else (if bytes_eq name (codes "newfstatat") then with Looks true
    else (if bytes_eq name (codes "fstatat64") then with Looks true
    else (if bytes_eq name (codes "statx") then with Looks true
    else form_of_change name))))))

-- The call of a name; one that is not known says nothing of files.
abbrev pub form_of : List ℕ → Form
form_of name =
    if bytes_eq name (codes "open") then with Opens false
    else (if bytes_eq name (codes "openat") then with Opens true
    else (if bytes_eq name (codes "openat2") then with Opens true
    else (if bytes_eq name (codes "creat") then with Makes false
    else (if bytes_eq name (codes "execve") then with Runs false
    else (if bytes_eq name (codes "execveat") then with Runs true
    else form_of_look name)))))
