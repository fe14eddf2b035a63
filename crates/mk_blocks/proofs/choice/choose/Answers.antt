use Rattle.std.proofs.Common.{◌≡◌, true, false, Some, None, option_map, refl, ap, ◌∙◌, arith}
use Rattle.std.proofs.Common.{add-one}
use Rattle.std.proofs.lemmas.Result.{err_from_is_err_and}
use Rattle.mk_turns.specs.OpenLoops.{turns_in}
use Rattle.mk_blocks.specs.Blocks.{parse}
use Rattle.mk_blocks.specs.Branches.{seen}
use Rattle.mk_blocks.specs.Calls.{files_in}
use Rattle.mk_blocks.specs.Runs.{run_at}
use Rattle.mk_blocks.specs.Skips as skips
use Rattle.mk_blocks.specs.Ties.{sorted}
use Rattle.mk_blocks.proofs.LineLemmas.{branch-asked, if-asked, if-false, if-true, if_next}
use Rattle.mk_blocks.proofs.FitLemmas.{behind-branch, behind-none}
use Rattle.mk_blocks.proofs.PlaceLemmas.{unchosen-else, unchosen-none}
use Rattle.mk_blocks.proofs.SkipLemmas.{found}
use Rattle.mk_blocks.proofs.TieLemmas.{Does-ok, Does-then, Does-want, first-err}
use Rattle.mk_blocks.proofs.TieLemmas.{first-ok}
use Rattle.mk_blocks.proofs.choice.choose.Goals as goal

pub returns-in_err-holds : goal.returns-in_err-holds
returns-in_err-holds g c =
    let ties = g.L.Language.ties in
    let q = parse ties.kind c.args.cursor.now in
    let p = err_from_is_err_and c.from_residual.result
    c.from_residual.ensures.1 in
    rw (p.1, p.2) (record {
      does = first-err ties sorted
          (if_next ties c.args.file.now c.args.loops.now c.args.depth c.args.line.now q
          c.args.language.now c.args.count.now)
          (if-asked ties c.args.file.now c.args.loops.now c.args.depth c.args.line.now q
          c.args.language.now c.args.count.now)
          c.in_err-holds.ensures.does;
      behind = tt;
      inner = tt;
      shorter = tt;
      later = tt;
    })

pub returns-then-branch-clause-does : goal.returns-then-branch-clause-does
returns-then-branch-clause-does g c =
    let ties = g.L.Language.ties in
    let q = parse ties.kind c.args.cursor.now in
    first-ok ties sorted (if_next ties c.args.file.now c.args.loops.now c.args.depth c.args.line.now
    q c.args.language.now c.args.count.now)
    (if-asked ties c.args.file.now c.args.loops.now c.args.depth c.args.line.now q
    c.args.language.now c.args.count.now)
    _ (if-true ties c.args.file.now c.args.loops.now c.args.depth c.args.line.now q
    c.args.language.now c.args.count.now c.holds.new.language c.holds.new.count _
    c.if-branch.true)
    c.in_ok-holds.ensures.does

pub branches-init : goal.branches-init
branches-init g c =
    let ties = g.L.Language.ties in
    let q = parse ties.kind c.args.cursor.now in
    record {
      so_far = first-ok ties sorted (if_next ties c.args.file.now c.args.loops.now c.args.depth
          c.args.line.now q c.args.language.now c.args.count.now)
          (if-asked ties c.args.file.now c.args.loops.now c.args.depth c.args.line.now q
          c.args.language.now c.args.count.now)
          tt (if-false ties c.args.file.now c.args.loops.now c.args.depth c.args.line.now q
          c.args.language.now c.args.count.now c.holds.new.language c.holds.new.count _
          c.if-branch.false)
          c.in_ok-holds.ensures.does;
      behind = refl;
      shorter = omega arith;
      later = c.in_ok-holds.ensures.later;
    }

pub returns-in_err-branch : goal.returns-in_err-branch
returns-in_err-branch g c =
    let ties = g.L.Language.ties in
    let p = err_from_is_err_and c.from_residual-in_err-branch.result
    c.from_residual-in_err-branch.ensures.1 in
    rw (p.1, p.2) (record {
      does = Does-then ties sorted c.branches.invariant.so_far
          (Does-want ties sorted c.branches.language _
          _ refl);
      behind = tt;
      inner = tt;
      shorter = tt;
      later = tt;
    })

pub returns-in_default-clause-does : goal.returns-in_default-clause-does
returns-in_default-clause-does g c =
    let ties = g.L.Language.ties in
    let p = parse ties.kind c.next_branch.new.cursor in
    let endings = (parse ties.kind c.branches.cursor).endings in
    let next : skips.next_branch endings ≡ found None p =
    c.in_ok-branch.ensures.behind ∙ ap (λ o. found (option_map seen o) p) c.in_default.is in
    Does-ok ties sorted _
    (λ answers. unchosen-none (ties.meaning answers) (files_in ties c.args.file.now answers)
    c.args.file.now.name.now (turns_in c.args.loops.now) c.args.depth endings p
    (run_at (ties.state c.branches.language) c.branches.count) next)
    c.branches.invariant.so_far

pub returns-in_default-clause-behind : goal.returns-in_default-clause-behind
unfolding skips.outside_of
returns-in_default-clause-behind g c =
    let kind = g.L.Language.ties.kind in
    let p = parse kind c.next_branch.new.cursor in
    let next : skips.next_branch (parse kind c.branches.cursor).endings ≡ found None p =
    c.in_ok-branch.ensures.behind ∙ ap (λ o. found (option_map seen o) p) c.in_default.is in
    let same = behind-none (parse kind c.branches.cursor).endings p next
    ∙ c.branches.invariant.behind in
    rw add-one (ap (λ z. skips.outside_of c.args.depth z.endings) same)

pub returns-then-branch-2-clause-does : goal.returns-then-branch-2-clause-does
returns-then-branch-2-clause-does g c =
    let ties = g.L.Language.ties in
    let branch = c.in-Some.branch in
    let l = branch.line in
    let p = parse ties.kind c.next_branch.new.cursor in
    let endings = (parse ties.kind c.branches.cursor).endings in
    let next : skips.next_branch endings ≡ found (Some (true, l)) p =
    c.in_ok-branch.ensures.behind ∙ ap (λ o. found (option_map seen o) p) c.in-Some.is
    ∙ ap (λ b. found (Some (b, l)) p) c.if-branch-2.true in
    Does-ok ties sorted _
    (λ answers. unchosen-else (ties.meaning answers) (files_in ties c.args.file.now answers)
    c.args.file.now.name.now (turns_in c.args.loops.now) c.args.depth endings l p
    (run_at (ties.state c.branches.language) c.branches.count) next)
    c.branches.invariant.so_far

pub returns-then-branch-2-clause-behind : goal.returns-then-branch-2-clause-behind
unfolding skips.outside_of
returns-then-branch-2-clause-behind g c =
    let ties = g.L.Language.ties in
    let branch = c.in-Some.branch in
    let l = branch.line in
    let p = parse ties.kind c.next_branch.new.cursor in
    let endings = (parse ties.kind c.branches.cursor).endings in
    let next : skips.next_branch endings ≡ found (Some (true, l)) p =
    c.in_ok-branch.ensures.behind ∙ ap (λ o. found (option_map seen o) p) c.in-Some.is
    ∙ ap (λ b. found (Some (b, l)) p) c.if-branch-2.true in
    let same = behind-branch endings (true, l) p next ∙ c.branches.invariant.behind in
    rw add-one (ap (λ z. skips.outside_of c.args.depth z.endings) same)

pub returns-in_err-held : goal.returns-in_err-held
returns-in_err-held g c =
    let ties = g.L.Language.ties in
    let branch = c.in-Some.branch in
    let l = branch.line in
    let p = parse ties.kind c.next_branch.new.cursor in
    let endings = (parse ties.kind c.branches.cursor).endings in
    let next : skips.next_branch endings ≡ found (Some (false, l)) p =
    c.in_ok-branch.ensures.behind ∙ ap (λ o. found (option_map seen o) p) c.in-Some.is
    ∙ ap (λ b. found (Some (b, l)) p) c.if-branch-2.false in
    let r = err_from_is_err_and c.from_residual-in_err-held.result
    c.from_residual-in_err-held.ensures.1 in
    rw (r.1, r.2) (record {
      does = Does-then ties sorted c.branches.invariant.so_far
          (first-err ties sorted (if_next ties c.args.file.now c.args.loops.now c.args.depth l p
          c.branches.language c.branches.count)
          (branch-asked ties c.args.file.now c.args.loops.now c.args.depth l p
          c.branches.language c.branches.count endings next)
          c.in_err-held.ensures.does);
      behind = tt;
      inner = tt;
      shorter = tt;
      later = tt;
    })

pub returns-then-branch-3-clause-does : goal.returns-then-branch-3-clause-does
returns-then-branch-3-clause-does g c =
    let ties = g.L.Language.ties in
    let branch = c.in-Some.branch in
    let l = branch.line in
    let p = parse ties.kind c.next_branch.new.cursor in
    let endings = (parse ties.kind c.branches.cursor).endings in
    let next : skips.next_branch endings ≡ found (Some (false, l)) p =
    c.in_ok-branch.ensures.behind ∙ ap (λ o. found (option_map seen o) p) c.in-Some.is
    ∙ ap (λ b. found (Some (b, l)) p) c.if-branch-2.false in
    Does-then ties sorted c.branches.invariant.so_far
    (first-ok ties sorted (if_next ties c.args.file.now c.args.loops.now c.args.depth l p
    c.branches.language c.branches.count)
    (branch-asked ties c.args.file.now c.args.loops.now c.args.depth l p
    c.branches.language c.branches.count endings next)
    _ (if-true ties c.args.file.now c.args.loops.now c.args.depth l p c.branches.language
    c.branches.count c.holds-held.new.language c.holds-held.new.count _
    c.if-branch-3.true)
    c.in_ok-held.ensures.does)

pub returns-then-branch-3-clause-behind : goal.returns-then-branch-3-clause-behind
unfolding skips.outside_of
returns-then-branch-3-clause-behind g c =
    let ties = g.L.Language.ties in
    let branch = c.in-Some.branch in
    let l = branch.line in
    let p = parse ties.kind c.next_branch.new.cursor in
    let endings = (parse ties.kind c.branches.cursor).endings in
    let next : skips.next_branch endings ≡ found (Some (false, l)) p =
    c.in_ok-branch.ensures.behind ∙ ap (λ o. found (option_map seen o) p) c.in-Some.is
    ∙ ap (λ b. found (Some (b, l)) p) c.if-branch-2.false in
    let same = behind-branch endings (false, l) p next ∙ c.branches.invariant.behind in
    rw add-one (ap (λ z. skips.outside_of c.args.depth z.endings) same)

pub branches-preserved : goal.branches-preserved
branches-preserved g c =
    let ties = g.L.Language.ties in
    let branch = c.in-Some.branch in
    let l = branch.line in
    let p = parse ties.kind c.next_branch.new.cursor in
    let endings = (parse ties.kind c.branches.cursor).endings in
    let next : skips.next_branch endings ≡ found (Some (false, l)) p =
    c.in_ok-branch.ensures.behind ∙ ap (λ o. found (option_map seen o) p) c.in-Some.is
    ∙ ap (λ b. found (Some (b, l)) p) c.if-branch-2.false in
    record {
      so_far = Does-then ties sorted c.branches.invariant.so_far
          (first-ok ties sorted (if_next ties c.args.file.now c.args.loops.now c.args.depth l p
          c.branches.language c.branches.count)
          (branch-asked ties c.args.file.now c.args.loops.now c.args.depth l p
          c.branches.language c.branches.count endings next)
          tt (if-false ties c.args.file.now c.args.loops.now c.args.depth l p c.branches.language
          c.branches.count c.holds-held.new.language c.holds-held.new.count _
          c.if-branch-3.false)
          c.in_ok-held.ensures.does);
      behind = behind-branch endings (false, l) p next ∙ c.branches.invariant.behind;
      shorter = omega (arith, c.in_ok-branch.ensures.shorter);
      later = omega (arith, c.in_ok-held.ensures.later, c.branches.invariant.later);
    }
