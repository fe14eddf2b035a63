use Rattle.std.proofs.Common.{◌≡◌, drop, true}
use Rattle.std.specs.List.{list_all}
use Rattle.mk_meta.specs.Lawful.{is_export_name}
use Rattle.mk_makefile.specs.Exports.{all_added}
use Rattle.mk_makefile.proofs.export.add_exports.Given as goal

-- the names that are left are still to be added, and may be
abbrev pub invariant-loop-name : goal.invariant-loop-name
invariant-loop-name l = record {
  same : all_added l.exports (drop l.name-index l.names) ≡ all_added l.fn.exports l.names;
  may : list_all is_export_name (drop l.name-index l.names) ≡ true;
}
