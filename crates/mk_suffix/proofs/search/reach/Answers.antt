use Rattle.std.proofs.Common.{◌≡◌, ◌∙◌, [], ◌∷◌, ◌++◌, Some, None, false, is_some, rules, refl, sym, ap}
use Rattle.mk_suffix.proofs.FoundLemmas.{NoneFound-push}
use Rattle.mk_suffix.specs.SearchView.{way_of}
use Rattle.mk_bytes.proofs.RefusalLemmas.{refused_if}
use Rattle.mk_world.proofs.CauseLemmas.{HasCause-behind, HasCause-behind_ok, HasCause-other}
use Rattle.mk_world.proofs.CauseLemmas.{HasCause-passed_on, HasCause-stays}
use Rattle.mk_suffix.specs.Extends.{Found}
use Rattle.mk_suffix.specs.Found.{is_there, place_of}
use Rattle.mk_suffix.specs.declared.fault.SuffixFault.TheVariants.{Failed as failed, NoMemory as no_memory}
use Rattle.mk_suffix.proofs.LookLemmas.{OnErr-looked, ByLooks-none, ByLooks-map}
use Rattle.mk_suffix.proofs.ExtendsLemmas.{Extends-skip, Extends-push, IsHit-here}
use Rattle.mk_suffix.proofs.TableLemmas.{is_new, reached_before, step_by}
use Rattle.mk_suffix.proofs.search.reach.Goals as goal

pub returns-then-has_reached-clause-goes_on : goal.returns-then-has_reached-clause-goes_on
returns-then-has_reached-clause-goes_on g c = λ old more extends.
    let none = reached_before c.args.rules.now.nodes c.args.rules.now.seeking.suffixes c.args.search.now
    c.args.source.now.suffix.now c.args.at (sym c.has_reached.ensures ∙ c.if-has_reached.true) in
    Extends-skip c.args.rules.now.nodes c.args.rules.now.seeking.suffixes old c.args.search.now c.args.at c.args.source.now.suffix.now
    more extends none

pub returns-in-Some-clause-goes_on : goal.returns-in-Some-clause-goes_on
returns-in-Some-clause-goes_on g c = λ old more extends.
    let new = is_new c.args.rules.now.nodes c.args.rules.now.seeking.suffixes c.args.search.now c.args.source.now
    c.args.at c.requires.rule c.requires.within
    (sym c.has_reached.ensures ∙ c.if-has_reached.false) in
    IsHit-here c.args.rules.now.nodes c.args.rules.now.seeking.suffixes old c.args.search.now c.args.at c.args.source.now.suffix.now
    more extends (step_by c.args.source.now c.args.at) new c.requires.place

pub returns-clause-goes_on : goal.returns-clause-goes_on
returns-clause-goes_on g c = λ old more extends.
    let new = is_new c.args.rules.now.nodes c.args.rules.now.seeking.suffixes c.args.search.now c.args.source.now
    c.args.at c.requires.rule c.requires.within
    (sym c.has_reached.ensures ∙ c.if-has_reached.false) in
    rw (c.in_ok-push.ensures.ok)
    (Extends-push c.args.rules.now.nodes c.args.rules.now.seeking.suffixes old c.args.search.now c.args.at
    c.args.source.now.suffix.now more extends (step_by c.args.source.now c.args.at) new c.requires.place c.requires.known)

pub returns-then-has_reached-clause-told : goal.returns-then-has_reached-clause-told
returns-then-has_reached-clause-told g c = ByLooks-none _
    (λ files. Found (place_of files c.args.rules.now.nodes c.args.rules.now.seeking) c.args.base.now c.args.search.now
    c.args.search.now None) (λ files own. refl)

pub returns-then-has_reached-clause-refused : goal.returns-then-has_reached-clause-refused
returns-then-has_reached-clause-refused g c = tt

pub returns-then-has_reached-clause-cause : goal.returns-then-has_reached-clause-cause
returns-then-has_reached-clause-cause g c = HasCause-stays failed _ _

pub returns-then-has_reached-clause-idle : goal.returns-then-has_reached-clause-idle
returns-then-has_reached-clause-idle g c = c.requires.idle

pub returns-in_err-name-clause-goes_on : goal.returns-in_err-name-clause-goes_on
returns-in_err-name-clause-goes_on g c =
    refused_if _ _ c.from_residual.result c.from_residual.ensures.1

pub returns-in_err-name-clause-told : goal.returns-in_err-name-clause-told
returns-in_err-name-clause-told g c =
    refused_if _ _ c.from_residual.result c.from_residual.ensures.1

pub returns-in_err-name-clause-refused : goal.returns-in_err-name-clause-refused
returns-in_err-name-clause-refused g c =
    OnErr-looked _ _ _ (ByLooks-none _ (λ files. Unit {0}) (λ files. tt))

pub returns-in_err-name-clause-cause : goal.returns-in_err-name-clause-cause
returns-in_err-name-clause-cause g c =
    HasCause-other failed no_memory (λ is. cc) _ c.from_residual.result c.from_residual.ensures.1

pub returns-in_err-name-clause-idle : goal.returns-in_err-name-clause-idle
returns-in_err-name-clause-idle g c = c.requires.idle

pub returns-in_err-place-clause-goes_on : goal.returns-in_err-place-clause-goes_on
returns-in_err-place-clause-goes_on g c =
    refused_if _ _ c.from_residual-in_err-place.result c.from_residual-in_err-place.ensures.1

pub returns-in_err-place-clause-told : goal.returns-in_err-place-clause-told
returns-in_err-place-clause-told g c =
    refused_if _ _ c.from_residual-in_err-place.result c.from_residual-in_err-place.ensures.1

pub returns-in_err-place-clause-refused : goal.returns-in_err-place-clause-refused
returns-in_err-place-clause-refused g c =
    OnErr-looked _ _ _ c.in_err-place.ensures.refused

pub returns-in_err-place-clause-cause : goal.returns-in_err-place-clause-cause
returns-in_err-place-clause-cause g c =
    HasCause-passed_on failed _ _ c.from_residual-in_err-place.result
    c.from_residual-in_err-place.ensures.1
    c.in_err-place.ensures.cause

pub returns-in_err-place-clause-idle : goal.returns-in_err-place-clause-idle
returns-in_err-place-clause-idle g c = c.in_err-place.ensures.idle

pub returns-in-Some-clause-told : goal.returns-in-Some-clause-told
returns-in-Some-clause-told g c =
    let nodes = c.args.rules.now.nodes in
    let seeking = c.args.rules.now.seeking in
    let base = c.args.base.now in
    let ways = c.args.search.now in
    let name : c.bytes.result.now ≡ base ++ c.args.source.now.suffix.now =
    c.bytes.ensures.value ∙ c.in_ok-name.ensures in
    let told = rw c.in-Some.is at c.in_ok-place.ensures.told in
    ByLooks-map _ _
    (λ files. Some c.in-Some.place ≡ place_of files nodes seeking c.bytes.result.now)
    (λ files. Found (place_of files nodes seeking) base ways ways
    (Some (record { step = step_by c.args.source.now c.args.at; source = c.in-Some.place })))
    told
    (λ files is. (λ own. refl, ap (place_of files nodes seeking) (sym name) ∙ sym is))

pub returns-in-Some-clause-refused : goal.returns-in-Some-clause-refused
returns-in-Some-clause-refused g c = tt

pub returns-in-Some-clause-cause : goal.returns-in-Some-clause-cause
returns-in-Some-clause-cause g c =
    HasCause-behind_ok failed failed _ _ _ _ c.in_ok-place.ensures.cause (λ is. cc)

pub returns-in-Some-clause-idle : goal.returns-in-Some-clause-idle
returns-in-Some-clause-idle g c = c.in_ok-place.ensures.idle

pub returns-in_err-push-clause-goes_on : goal.returns-in_err-push-clause-goes_on
returns-in_err-push-clause-goes_on g c =
    refused_if _ _ c.from_residual-in_err-push.result c.from_residual-in_err-push.ensures.1

pub returns-in_err-push-clause-told : goal.returns-in_err-push-clause-told
returns-in_err-push-clause-told g c =
    refused_if _ _ c.from_residual-in_err-push.result c.from_residual-in_err-push.ensures.1

pub returns-in_err-push-clause-refused : goal.returns-in_err-push-clause-refused
returns-in_err-push-clause-refused g c =
    OnErr-looked _ _ _ (ByLooks-map _ _
    (λ files. c.in_ok-place.field-0 ≡ place_of files c.args.rules.now.nodes c.args.rules.now.seeking c.bytes.result.now)
    (λ files. Unit {0}) c.in_ok-place.ensures.told (λ files told. tt))

pub returns-in_err-push-clause-cause : goal.returns-in_err-push-clause-cause
returns-in_err-push-clause-cause g c =
    HasCause-behind failed no_memory (λ is. cc) _ _ c.from_residual-in_err-push.result c.from_residual-in_err-push.ensures.1
    c.in_ok-place.ensures.cause

pub returns-in_err-push-clause-idle : goal.returns-in_err-push-clause-idle
returns-in_err-push-clause-idle g c = c.in_ok-place.ensures.idle

pub returns-clause-told : goal.returns-clause-told
returns-clause-told g c =
    let nodes = c.args.rules.now.nodes in
    let seeking = c.args.rules.now.seeking in
    let base = c.args.base.now in
    let ways = c.args.search.now in
    let step = step_by c.args.source.now c.args.at in
    let name : c.bytes.result.now ≡ base ++ step.suffix.now =
    c.bytes.ensures.value ∙ c.in_ok-name.ensures in
    let told = rw c.in_default.is at c.in_ok-place.ensures.told in
    rw (c.in_ok-push.ensures.ok) (ByLooks-map _ _
    (λ files. None ≡ place_of files nodes seeking c.bytes.result.now)
    (λ files. Found (place_of files nodes seeking) base ways (ways ++ way_of ways step ∷ []) None)
    told
    (λ files is. NoneFound-push (is_there (place_of files nodes seeking)) base ways ways
    (way_of ways step) step.suffix.now refl
    (ap (is_there (place_of files nodes seeking)) (sym name) ∙ ap is_some (sym is)) (λ own. refl)))

pub returns-clause-refused : goal.returns-clause-refused
returns-clause-refused g c = tt

pub returns-clause-cause : goal.returns-clause-cause
returns-clause-cause g c =
    HasCause-behind_ok failed failed _ _ _ _ c.in_ok-place.ensures.cause (λ is. cc)

pub returns-clause-idle : goal.returns-clause-idle
returns-clause-idle g c = c.in_ok-place.ensures.idle
