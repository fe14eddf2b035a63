use Rattle.std.proofs.Common.{◌≡◌, ◌+◌, rules, refl, ap, ◌∙◌, arith}
use Rattle.mk_cond.proofs.Views.{views, view-Any, view-All, view-Test, view-Alone, view-Both}
use Rattle.mk_cond.specs.View.{cond_view}
use Rattle.mk_cond.specs.declared.cond.Cond.{the_lemmas}
use Rattle.mk_cond.specs.Walk.{behind_all, cond_size, turned, walk}
use Rattle.mk_cond.specs.declared.walk.Outer.TheVariants.{Not}
use Rattle.mk_cond.proofs.WalkLemmas.{behind_all-push, weight-push}
use Rattle.mk_cond.proofs.walk.entered.Goals as goal

pub returns-in-Any-clause-same : goal.returns-in-Any-clause-same
unfolding walk
returns-in-Any-clause-same c =
    rw (c.in-Any.is, view-Any c.in-Any.conds) (rw c.as_slice.ensures.value at c.any_of.ensures.same)

pub returns-in-Any-clause-less : goal.returns-in-Any-clause-less
unfolding cond_size
returns-in-Any-clause-less c =
    rw (c.in-Any.is, view-Any c.in-Any.conds) (rw c.as_slice.ensures.value at c.any_of.ensures.less)

pub returns-in-All-clause-same : goal.returns-in-All-clause-same
unfolding walk
returns-in-All-clause-same c =
    rw (c.in-All.is, view-All c.in-All.conds) (rw c.as_slice-in-All.ensures.value at c.all_of.ensures.same)

pub returns-in-All-clause-less : goal.returns-in-All-clause-less
unfolding cond_size
returns-in-All-clause-less c =
    rw (c.in-All.is, view-All c.in-All.conds) (rw c.as_slice-in-All.ensures.value at c.all_of.ensures.less)

pub returns-in_ok-push-in-Not-clause-same : goal.returns-in_ok-push-in-Not-clause-same
unfolding walk
returns-in_ok-push-in-Not-clause-same c = λ ways.
    let around = behind_all c.args.outer.now.items ways in
    let inner = cond_view c.deref.result.now in
    let same : walk inner (turned around) ≡ walk (cond_view c.args.cond.now) around =
    search (rules, the_lemmas, views) in
    rw c.in_ok-push-in-Not.ensures.items
    (ap (walk inner) (behind_all-push c.args.outer.now.items Not ways) ∙ same)

pub returns-in_ok-push-in-Not-clause-less : goal.returns-in_ok-push-in-Not-clause-less
unfolding cond_size
returns-in_ok-push-in-Not-clause-less c =
    let size : 2 + cond_size (cond_view c.deref.result.now) ≡ cond_size (cond_view c.args.cond.now) =
    search (rules, the_lemmas, views) in
    rw (c.in_ok-push-in-Not.ensures.items, weight-push c.args.outer.now.items Not, ← size)
    (omega arith)

pub returns-in-Test-clause-same : goal.returns-in-Test-clause-same
unfolding walk
returns-in-Test-clause-same c = λ ways. rw (c.in-Test.is, view-Test c.in-Test.fun c.in-Test.argument) refl

pub returns-in-Test-clause-less : goal.returns-in-Test-clause-less
unfolding cond_size
returns-in-Test-clause-less c = rw (c.in-Test.is, view-Test c.in-Test.fun c.in-Test.argument) (omega arith)

pub returns-in-Alone-clause-same : goal.returns-in-Alone-clause-same
unfolding walk
returns-in-Alone-clause-same c = λ ways. rw (c.in-Alone.is, view-Alone c.in-Alone.side) refl

pub returns-in-Alone-clause-less : goal.returns-in-Alone-clause-less
unfolding cond_size
returns-in-Alone-clause-less c = rw (c.in-Alone.is, view-Alone c.in-Alone.side) (omega arith)

pub returns-in-Both-clause-same : goal.returns-in-Both-clause-same
unfolding walk
returns-in-Both-clause-same c = λ ways. rw (c.in-Both.is, view-Both c.in-Both.left c.in-Both.op c.in-Both.right) refl

pub returns-in-Both-clause-less : goal.returns-in-Both-clause-less
unfolding cond_size
returns-in-Both-clause-less c = rw (c.in-Both.is, view-Both c.in-Both.left c.in-Both.op c.in-Both.right) (omega arith)
