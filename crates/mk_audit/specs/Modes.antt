-- Whether a build goes by meta mode as an audit needs it.
use Rattle.std.specs.Prelude.{Bool, not, ◌&&◌, ◌||◌}
use Rattle.mk_graph.specs.declared.mode.Mode.{Mode}
use Rattle.mk_plan.specs.Lists.{is_nil}

-- meta files with records are kept, and must be there
abbrev pub is_recorded : Mode → Bool
is_recorded mode = (mode.meta && mode.curdir_ok) && (mode.missing_meta && mode.missing_filemon)

-- `.MAKE.MODE` has `meta`, `curdirOk`, `missing-meta` and `missing-filemon`, and neither
-- `nofilemon` nor `ignore-cmd`; and no path is ignored.
abbrev pub mode_is_full : Mode → Bool
mode_is_full mode =
    is_recorded mode && (not (mode.nofilemon || mode.ignore_cmd) && is_nil mode.ignore_paths)
