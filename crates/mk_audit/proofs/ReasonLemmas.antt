-- By which reasons a phony node is out of date.
use Rattle.std.proofs.Common.{◌≡◌, ◌∙◌, List, Option, Some, None, true, false, ap, refl}
use Rattle.std.specs.Option.{option_or}
use Rattle.std.specs.Prelude.{◌&&◌, not}
use Rattle.std.specs.Str.{bytes_eq}
use Rattle.mk_filemon.proofs.PathLemmas.{bytes_eq-same}
use Rattle.mk_filemon.specs.declared.record.Rec.{Rec}
use Rattle.mk_oodate.specs.Stale.{by_records, given, is_same}
use Rattle.mk_oodate.specs.declared.reason.NodeMode.{NodeMode}
use Rattle.mk_oodate.specs.declared.reason.Times.{Times}
use Rattle.mk_oodate.specs.declared.reason.Why.TheVariants.{Command}
use Rattle.mk_world.specs.declared.time.Time.{Time}
use Rattle.mk_audit.specs.Laws.{PhonyNodesAreByRecords}
use Rattle.mk_audit.specs.Reasons.{own_times, strict}

-- records ask for no time of the node's own
records-alone : (mode : NodeMode) (times : Times) (stamp : Time) (records : Option (List Rec))
    → by_records mode (own_times true times) stamp records ≡ by_records mode times stamp records
records-alone mode times stamp None = refl
records-alone mode times stamp (Some records) = refl

pub phony-by-records : PhonyNodesAreByRecords
phony-by-records mode task meta times in_meta own =
    let same : bytes_eq meta.target task.target ≡ true =
    ap (λ name. bytes_eq name task.target) own ∙ bytes_eq-same task.target in
    rw (in_meta, same)
    (ap (option_or (given (not mode.ignore_cmd && not (is_same false task meta)) Command))
    (records-alone (strict true mode) times meta.stamp meta.records))
