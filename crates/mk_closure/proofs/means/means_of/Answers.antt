use Rattle.std.proofs.Common.{◌≡◌, ◌∙◌, None, sym, subst}
use Rattle.mk_closure.proofs.MeansLemmas.{means-placed, HasChain-by}
use Rattle.mk_closure.specs.Made.{HasChain}
use Rattle.mk_closure.specs.Means as spec
use Rattle.mk_suffix.proofs.LookLemmas.{OnErr-looked, ByLooks-then}
use Rattle.mk_suffix.specs.Found.{place_of}
use Rattle.mk_closure.proofs.means.means_of.Goals as goal

pub returns-in_err-place-clause-refused : goal.returns-in_err-place-clause-refused
returns-in_err-place-clause-refused g c =
    OnErr-looked _ _ _ (ByLooks-then _ _ _
    (λ files. spec.chain_for files c.args.rules.now.nodes c.args.rules.now.seeking c.args.name.now c.args.n
    ≡ c.in_ok-chain.field-0)
    (λ files. Unit {0}) (λ files. Unit {0})
    c.in_ok-chain.ensures.told c.in_err-place.ensures.refused (λ files first second. tt))

pub returns-clause-told : goal.returns-clause-told
returns-clause-told g c =
    let nodes = c.args.rules.now.nodes in
    let seeking = c.args.rules.now.seeking in
    let name = c.args.name.now in
    let n = c.args.n in
    let told = rw c.in_default.is at c.in_ok-chain.ensures.told in
    ByLooks-then _ _ _
    (λ files. spec.chain_for files nodes seeking name n ≡ None)
    (λ files. c.in_ok-place.place ≡ place_of files nodes seeking name)
    (λ files. spec.means_of files nodes seeking name n ≡ c.means_by.result)
    told c.in_ok-place.ensures.told
    (λ files none is. means-placed files nodes seeking name n c.in_ok-place.place
    (rw c.graph.ensures at (sym c.has_commands.ensures ∙ c.if-has_commands.false)) none is
    ∙ sym c.means_by.ensures)

pub returns-clause-made : goal.returns-clause-made
returns-clause-made g c =
    subst (HasChain c.args.rules.now.nodes) (sym c.means_by.ensures)
    (HasChain-by c.args.rules.now.nodes c.args.name.now c.in_ok-place.place)
