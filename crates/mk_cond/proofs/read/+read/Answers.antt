use Rattle.std.proofs.Common.{◌≡◌, ◌-◌, ◌≤◌, [], ◌∷◌, ◌++◌, length, drop, Ok, refl, sym, ◌∙◌}
use Rattle.std.proofs.Common.{inr, arith, true, length-drop, length-append}
use Rattle.std.proofs.lemmas.Result.{err_from_is_err_and}
use Rattle.mk_bytes.specs.Agrees.{AgreesErr}
use Rattle.mk_bytes.proofs.AgreesLemmas.{AgreesErr-bind}
use Rattle.mk_cond.specs.Conditions.{begins_joint, parts_of, unit_at, inner_at}
use Rattle.mk_cond.specs.View.{cond_view, conds_view}
use Rattle.mk_cond.specs.declared.fault.CondFault.TheVariants.{NoMemory as no_memory}
use Rattle.mk_cond.proofs.Turns.{more_at-more, joined_at-first, after_conds-turn, after_conds-over}
use Rattle.mk_cond.proofs.Turns.{joined_all-push, inner_at-some}
use Rattle.mk_cond.proofs.read.+read.Goals as goal

pub joined_at-returns-then-not-begins_joint-clause-gives
    : goal.joined_at-returns-then-not-begins_joint-clause-gives
joined_at-returns-then-not-begins_joint-clause-gives t c =
    let s = c.skip_blanks-rest.result.now in
    let parts =
    parts_of c.args.joint (unit_at c.args.level.total c.args.level.form c.args.level.depth) in
    joined_at-first c.args.joint parts c.args.text.now c.in_ok-first.rest.now s
    (cond_view c.in_ok-first.first) c.in_ok-first.ensures.gives c.skip_blanks-rest.ensures.same
    ∙ after_conds-over c.args.joint parts (length s) s (conds_view (c.in_ok-first.first ∷ []))
    (sym c.begins_joint.ensures.same ∙ c.if-not-begins_joint.true)

pub joined_at-more-init : goal.joined_at-more-init
joined_at-more-init t c =
    let s = c.skip_blanks-rest.result.now in
    let parts =
    parts_of c.args.joint (unit_at c.args.level.total c.args.level.form c.args.level.depth) in
    let pushed : c.push.new.self ≡ c.in_ok-first.first ∷ [] =
    rw (c.in_ok-push.ensures.ok, c.in_ok-conds.ensures.empty) refl in
    let begins : begins_joint c.args.joint s ≡ true =
    sym c.begins_joint.ensures.same ∙ c.if-not-begins_joint.false in (
      length s,
      omega arith,
      begins,
      c.begins_joint.ensures.some c.if-not-begins_joint.false,
      rw pushed (omega arith),
      rw pushed
          (joined_at-first c.args.joint parts c.args.text.now c.in_ok-first.rest.now s
          (cond_view c.in_ok-first.first) c.in_ok-first.ensures.gives
          c.skip_blanks-rest.ensures.same),
      omega (arith, c.skip_blanks-rest.ensures.shorter, c.in_ok-first.ensures.shorter),
    )

pub joined_at-returns-in_err-next-clause-gives : goal.joined_at-returns-in_err-next-clause-gives
joined_at-returns-in_err-next-clause-gives t c =
    let is = err_from_is_err_and c.from_residual-in_err-next.result
    c.from_residual-in_err-next.ensures.1 in
    let i = c.more.invariant in
    let s = c.more.rest.now in
    let fault = c.in_err-next.field-0.0 in
    let parts =
    parts_of c.args.joint (unit_at c.args.level.total c.args.level.form c.args.level.depth) in
    let one : AgreesErr no_memory fault (parts (drop 2 s)) =
    rw (← c.skip.ensures) c.in_err-next.ensures.gives in
    rw (is.1, is.2, i.5, more_at-more c.args.joint parts i.0 s i.1 i.2)
    (AgreesErr-bind no_memory fault _ _ (AgreesErr-bind no_memory fault _ _ one))

pub joined_at-returns-then-not-begins_joint-2-clause-gives
    : goal.joined_at-returns-then-not-begins_joint-2-clause-gives
joined_at-returns-then-not-begins_joint-2-clause-gives t c =
    let i = c.more.invariant in
    let s = c.more.rest.now in
    let conds = c.more.conds in
    let next = c.in_ok-next.next in
    let behind = c.skip_blanks-rest-in-more.result.now in
    let joint = c.args.joint in
    let parts = parts_of joint (unit_at c.args.level.total c.args.level.form c.args.level.depth) in
    let one : parts (drop 2 s) ≡ Ok (cond_view next, c.in_ok-next.left.now) =
    rw (← c.skip.ensures) c.in_ok-next.ensures.gives in
    let left = c.in_ok-next.left.now in
    let turn = after_conds-turn joint parts i.0 s left behind conds next i.1 i.2 one
    c.skip_blanks-rest-in-more.ensures.same in
    let over = after_conds-over joint parts (i.0 - 1) behind (conds_view (conds ++ next ∷ []))
    (sym c.begins_joint-in-more.ensures.same ∙ c.if-not-begins_joint-2.true) in
    i.5 ∙ turn ∙ over
    ∙ rw (joined_all-push joint conds next i.4, c.join.ensures, c.in_ok-push-2.ensures.ok) refl

pub joined_at-more-preserved : goal.joined_at-more-preserved
joined_at-more-preserved t c =
    let i = c.more.invariant in
    let s = c.more.rest.now in
    let conds = c.more.conds in
    let next = c.in_ok-next.next in
    let left = c.in_ok-next.left.now in
    let behind = c.skip_blanks-rest-in-more.result.now in
    let joint = c.args.joint in
    let parts = parts_of joint (unit_at c.args.level.total c.args.level.form c.args.level.depth) in
    let one : parts (drop 2 s) ≡ Ok (cond_view next, left) =
    rw (← c.skip.ensures) c.in_ok-next.ensures.gives in
    let shorter : length left ≤ length (drop 2 s) =
    rw (← c.skip.ensures) c.in_ok-next.ensures.shorter in
    let blanks = c.skip_blanks-rest-in-more.ensures.shorter in
    let turn = after_conds-turn joint parts i.0 s left behind conds next i.1 i.2 one
    c.skip_blanks-rest-in-more.ensures.same in
    let pushed = c.in_ok-push-2.ensures.ok in (
      i.0 - 1,
      omega (arith, i.1, i.3, blanks, shorter, length-drop 2 s),
      sym c.begins_joint-in-more.ensures.same ∙ c.if-not-begins_joint-2.false,
      c.begins_joint-in-more.ensures.some c.if-not-begins_joint-2.false,
      rw pushed (omega (arith, length-append conds (next ∷ []))),
      i.5 ∙ rw pushed turn,
      omega (arith, i.6, blanks, shorter, length-drop 2 s),
    )

pub opened_at-returns-then-level-eq0-clause-gives
    : goal.opened_at-returns-then-level-eq0-clause-gives
unfolding inner_at
opened_at-returns-then-level-eq0-clause-gives t c = rw c.if-level-eq0.true (inr refl)

pub opened_at-returns-then-begins-clause-gives : goal.opened_at-returns-then-begins-clause-gives
opened_at-returns-then-begins-clause-gives t c =
    rw (
      inner_at-some c.args.level.total c.args.level.form c.args.level.depth c.if-level-eq0.false,
      sym c.begins.ensures ∙ c.if-begins.true,
      ← c.skip-behind.ensures,
    ) c.negated_at.ensures.gives

pub opened_at-returns-clause-gives : goal.opened_at-returns-clause-gives
opened_at-returns-clause-gives t c =
    rw (
      inner_at-some c.args.level.total c.args.level.form c.args.level.depth c.if-level-eq0.false,
      sym c.begins.ensures ∙ c.if-begins.false,
      ← c.skip-behind.ensures,
    ) c.grouped_at.ensures.gives
