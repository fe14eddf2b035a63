use Rattle.std.proofs.Common.{◌≡◌, ◌∙◌, List, ◌++◌, Some, None, is_some, true, ap, sym}
use Rattle.mk_meta.specs.TrueHistory.{meta_path}
use Rattle.mk_world.proofs.SinkLemmas.{OnErr-from}
use Rattle.mk_oodate.specs.Stale.{stale}
use Rattle.mk_oodate.specs.declared.reason.Times.{Times}
use Rattle.mk_plan.specs.Plans.{node_at}
use Rattle.mk_world.specs.declared.fault.WorldFault.TheVariants.{Failed as failed}
use Rattle.mk_world.specs.declared.time.When.{When}
use Rattle.mk_decision.proofs.CauseLemmas.{cause-behind}
use Rattle.mk_decision.specs.Metas.{file_looks, no_paths, path_looks}
use Rattle.mk_decision.specs.Newest.{raised, raised_all}
use Rattle.mk_decision.specs.Reasons.{first_times, with_paths}
use Rattle.mk_decision.proofs.LookLemmas.{looks-then}
use Rattle.mk_decision.proofs.NewestLemmas.{raised-first}
use Rattle.mk_decision.proofs.ReasonLemmas.{found-is, judged-by_file, judged-by_paths, none-from}
use Rattle.mk_decision.proofs.SightLemmas.{some-behind}
use Rattle.mk_decision.proofs.reason.by_meta.Goals as goal

pub returns-then-is_some-clause-seen : goal.returns-then-is_some-clause-seen
returns-then-is_some-clause-seen g c =
    let file = c.in_ok-file.file in
    let seen = c.in_ok-file.ensures.seen in
    let times = c.args.times in
    let mode = c.args.mode.now in
    let task = c.args.task.now in
    let is : c.reason_by-why.result
    ≡ stale file.value task mode (record (first_times times.target times.sources) { meta = file.when }) =
    c.reason_by-why.ensures
    ∙ ap (λ (t : Times). stale file.value task mode (record t { meta = file.when })) c.requires.bare in
    let some : is_some c.reason_by-why.result ≡ true = sym c.is_some.ensures ∙ c.if-is_some.true in (
      Some (record { bytes = seen.0; value = file.value; when = file.when; paths = no_paths }),
      judged-by_file c.args.maker.now.made.now.mode.ignore_paths mode task times.target times.sources
          seen.0 file.value file.when c.reason_by-why.result c.requires.opened seen.1 is some,
      rw c.name.ensures at seen.2,
      found-is _ _ _ _ file.value is
          (ap (λ (t : Times). record t { meta = file.when }) c.requires.bare),
    )

pub returns-in_err-times-clause-some : goal.returns-in_err-times-clause-some
returns-in_err-times-clause-some g c =
    OnErr-from c.from_residual-in_err-times.result
    (some-behind g.W.World.meaning _ _ _ _ c.in_ok-file.ensures.seen.2 c.in_err-times.ensures.some)

pub returns-in_err-times-clause-cause : goal.returns-in_err-times-clause-cause
returns-in_err-times-clause-cause g c =
    cause-behind failed _ _ _ c.from_residual-in_err-times.result c.in_ok-file.ensures.cause
    c.in_err-times.ensures.cause c.from_residual-in_err-times.ensures.1

pub returns-clause-seen : goal.returns-clause-seen
returns-clause-seen g c =
    let file = c.in_ok-file.file in
    let seen = c.in_ok-file.ensures.seen in
    let more = c.in_ok-times.ensures.seen in
    let times = c.args.times in
    let mode = c.args.mode.now in
    let task = c.args.task.now in
    let path = meta_path (node_at c.args.maker.now.plan.now c.args.node).name in
    let is : c.reason_by-why.result
    ≡ stale file.value task mode (record (first_times times.target times.sources) { meta = file.when }) =
    c.reason_by-why.ensures
    ∙ ap (λ (t : Times). stale file.value task mode (record t { meta = file.when })) c.requires.bare in
    let none : c.reason_by-why.result ≡ None =
    none-from c.reason_by-why.result (sym c.is_some.ensures ∙ c.if-is_some.false) in
    let after = more.3
    ∙ ap (λ (t : Times). with_paths more.0 (record t { meta = file.when })) c.requires.bare in (
      Some (record { bytes = seen.0; value = file.value; when = file.when; paths = more.0 }),
      judged-by_paths c.args.maker.now.made.now.mode.ignore_paths mode task times.target times.sources
          seen.0 file.value file.when more.0 c.requires.opened seen.1 (sym is ∙ none) more.1,
      looks-then g.W.World.meaning _ _ _ (file_looks path seen.0 file.when) (path_looks more.0)
          (rw c.name.ensures at seen.2) more.2,
      found-is _ _ _ _ file.value
          (c.reason_by.ensures ∙ ap (stale file.value task mode) after) after,
    )

pub returns-then-is_some-clause-newest : goal.returns-then-is_some-clause-newest
returns-then-is_some-clause-newest g c =
    c.in_ok-file.ensures.newest ∙ raised-first _ c.args.times _ _ c.requires.bare

pub returns-clause-newest : goal.returns-clause-newest
returns-clause-newest g c =
    let after = c.in_ok-times.times in
    let paths : List When = after.reads ++ (after.misses ++ after.left) in
    let meta = ap (λ (t : Times). t.meta) c.in_ok-times.ensures.seen.3 in
    c.in_ok-times.ensures.newest ∙ ap (λ k. raised_all k paths)
    (c.in_ok-file.ensures.newest ∙ ap (raised c.args.newest.now.0) (sym meta))
