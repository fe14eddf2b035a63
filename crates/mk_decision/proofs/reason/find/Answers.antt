use Rattle.std.proofs.Common.{◌≡◌, ◌∙◌, ◌||◌, not, None, is_some, true, false, ap, refl, sym}
use Rattle.mk_oodate.specs.Stale.{stale}
use Rattle.mk_oodate.specs.declared.reason.Times.{Times}
use Rattle.mk_decision.specs.Newest.{raised_all, times_whens}
use Rattle.mk_decision.specs.Reasons.{by_times}
use Rattle.mk_decision.proofs.LookLemmas.{looks-none}
use Rattle.mk_decision.proofs.PieceLemmas.{if_ok}
use Rattle.mk_decision.proofs.ReasonLemmas.{found-is, judged-by_times}
use Rattle.mk_decision.proofs.reason.find.Goals as goal
use Rattle.mk_decision.proofs.reason.find.Goals.{then-not-mode-via-then-not-mode, then-not-mode-via-else-not-mode+then-is_some}

pub returns-then-not-mode-clause-seen : goal.returns-then-not-mode-clause-seen
returns-then-not-mode-clause-seen g c =
    let mode = c.node_mode-mode.result in
    let task = c.args.task.now in
    let found = c.by_times-why.result in
    let is : found ≡ by_times mode task c.args.target c.args.ages =
    c.by_times-why.ensures
    ∙ ap (stale None task (record mode { meta = false })) c.in_ok-times.ensures in
    let either : (not mode.meta || is_some found) ≡ true = elim c.then-not-mode.branch [
      | then-not-mode-via-then-not-mode w ↦ rw w.if-not-mode.true refl
      | then-not-mode-via-else-not-mode+then-is_some w ↦
          rw (w.if-not-mode.false, sym w.is_some.ensures ∙ w.if-is_some.true) refl
    ] in
    let judged = judged-by_times mode task c.args.target c.args.ages found is either in (
      None,
      rw c.node_mode-mode.ensures at judged.0,
      looks-none g.W.World.meaning _,
      rw c.node_mode-mode.ensures at (found-is _ _ _ _ None judged.1 c.in_ok-times.ensures),
    )

pub returns-clause-seen : goal.returns-clause-seen
returns-clause-seen g c =
    if_ok c.by_meta.result (λ why seen. (
      seen.0,
      rw (c.in_ok-times.ensures, c.node_mode-mode.ensures) at seen.1,
      seen.2,
      rw (c.in_ok-times.ensures, c.node_mode-mode.ensures) at seen.3,
    )) c.by_meta.ensures.seen

pub returns-then-not-mode-clause-newest : goal.returns-then-not-mode-clause-newest
returns-then-not-mode-clause-newest g c =
    sym (ap (λ (t : Times). raised_all c.args.newest.now.0 (times_whens t)) c.in_ok-times.ensures)
