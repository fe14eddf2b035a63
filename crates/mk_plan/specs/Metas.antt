-- Which nodes have a meta file (make(1), "META MODE").
use Rattle.std.specs.Prelude.{Bool, not, ◌&&◌, ◌||◌}
use Rattle.mk_graph.specs.declared.attr.Marks.{Marks}
use Rattle.mk_graph.specs.declared.mode.Mode.{Mode}

-- A node is in meta mode where `.MAKE.MODE` has `meta` and a true `curdirOk`, and it is not marked
-- `.NOMETA`; a phony node only where it is marked `.META`.
abbrev pub is_meta : Mode → Marks → Bool
is_meta mode marks =
    (mode.meta && mode.curdir_ok) && (not marks.no_meta && (not marks.phony || marks.meta))
