use Rattle.std.proofs.Common.{◌≡◌, ◌∙◌, true, Ok, sym, subst, arith}
use Rattle.std.proofs.lemmas.Grind.{common_steps}
use Rattle.std.proofs.lemmas.Result.{err_from_is_err_and}
use Rattle.mk_closure.proofs.WalkLemmas.{entered-means}
use Rattle.mk_closure.specs.Faults.{IsRefusedBy}
use Rattle.mk_closure.specs.Means.{means_of}
use Rattle.mk_closure.specs.Parts.{is_open}
use Rattle.mk_closure.specs.Walks as spec
use Rattle.mk_suffix.proofs.LookLemmas.{ByLooks-map}
use Rattle.mk_closure.proofs.closure.Closure.enter.Goals as goal

pub returns-in_err-meet_by-clause-refused : goal.returns-in_err-meet_by-clause-refused
returns-in_err-meet_by-clause-refused g c =
    let p = err_from_is_err_and c.from_residual-in_err-meet_by.result
    c.from_residual-in_err-meet_by.ensures.1 in
    let s = c.args.self.now in
    let n = c.args.n in
    let fault = c.in_err-meet_by.field-0.0 in
    let opened : is_open s n ≡ true = grind (arith, common_steps) in
    rw (p.1, p.2) (ByLooks-map _ _
    (λ files. means_of files c.args.rules.now.nodes c.args.rules.now.seeking c.name.result.now n
    ≡ c.in_ok-means.means)
    (λ files. IsRefusedBy fault (spec.entered files c.args.rules.now.seeking s n))
    c.in_ok-means.ensures.told
    (λ files is. subst (IsRefusedBy fault)
    (sym (entered-means files c.args.rules.now.seeking s n c.args.rules.now.nodes c.name.result.now
    c.in_ok-means.means c.requires.same c.name.ensures opened is))
    c.in_err-meet_by.ensures.refused))

pub returns-clause-entered : goal.returns-clause-entered
returns-clause-entered g c =
    let s = c.args.self.now in
    let n = c.args.n in
    let opened : is_open s n ≡ true = grind (arith, common_steps) in
    ByLooks-map _ _
    (λ files. means_of files c.args.rules.now.nodes c.args.rules.now.seeking c.name.result.now n
    ≡ c.in_ok-means.means)
    (λ files. spec.entered files c.args.rules.now.seeking s n ≡ Ok c.meet_by.new.self)
    c.in_ok-means.ensures.told
    (λ files is. entered-means files c.args.rules.now.seeking s n c.args.rules.now.nodes c.name.result.now
    c.in_ok-means.means c.requires.same c.name.ensures opened is
    ∙ c.in_ok-meet_by.ensures.decided)
