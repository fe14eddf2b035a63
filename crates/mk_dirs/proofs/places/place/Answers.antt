use Rattle.std.proofs.Common.{◌≡◌, ◌∙◌, true, false, is_none, rules, sym}
use Rattle.mk_bytes.specs.Paths.{is_absolute}
use Rattle.mk_dirs.proofs.LookLemmas.{OnErr-looked, ByLooks-map, ByLooks-none, ByLooks-then}
use Rattle.mk_dirs.proofs.PlaceLemmas.{place-below}
use Rattle.mk_dirs.specs.Places.{first_below, place}
use Rattle.mk_dirs.proofs.places.place.Goals as goal

pub returns-in_err-from_bytes-clause-refused : goal.returns-in_err-from_bytes-clause-refused
returns-in_err-from_bytes-clause-refused g c =
    OnErr-looked _ _ _ (ByLooks-none _ (λ files. Unit {0}) (λ files. tt))

pub returns-in_err-from_bytes-2-clause-refused : goal.returns-in_err-from_bytes-2-clause-refused
returns-in_err-from_bytes-2-clause-refused g c =
    OnErr-looked _ _ _ (ByLooks-map _ _
    (λ files. c.in_ok-is_missing.field-0 ≡ is_none (files c.args.name.now))
    (λ files. Unit {0}) c.in_ok-is_missing.ensures.told (λ files is. tt))

pub returns-in_err-found-clause-refused : goal.returns-in_err-found-clause-refused
returns-in_err-found-clause-refused g c =
    OnErr-looked _ _ _ (ByLooks-then _ _ _
    (λ files. c.in_ok-is_missing.field-0 ≡ is_none (files c.args.name.now))
    (λ files. Unit {0}) (λ files. Unit {0})
    c.in_ok-is_missing.ensures.told c.in_err-found.ensures.refused (λ files first second. tt))

pub returns-clause-told : goal.returns-clause-told
returns-clause-told g c =
    let paths = c.args.paths.now in
    let cwd = c.args.cwd.now in
    let name = c.args.name.now in
    let missing : c.in_ok-is_missing.field-0 ≡ true = search rules in
    let relative : is_absolute name ≡ false = sym c.is_absolute.ensures ∙ c.if-is_absolute.false in
    ByLooks-then _ _ _
    (λ files. c.in_ok-is_missing.field-0 ≡ is_none (files name))
    (λ files. c.in_ok-found.found ≡ first_below files cwd c.as_slice.result.now name)
    (λ files. c.in_ok-found.found ≡ place files c.args.target paths cwd name)
    c.in_ok-is_missing.ensures.told c.in_ok-found.ensures.told
    (λ files none is. place-below files c.args.target paths cwd name c.in_ok-found.found
    c.if-target.false (sym none ∙ missing) relative (rw c.as_slice.ensures.value at is))
