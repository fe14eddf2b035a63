use Rattle.std.proofs.Common.{refl}
use Rattle.std.proofs.lemmas.Result.{err_from_is_err_and}
use Rattle.mk_makefile.specs.ReadFaults.{sorted}
use Rattle.mk_makefile.specs.Reading.{found_read}
use Rattle.mk_reader.proofs.TieLemmas.{does-as, first-refused, first-then, still-want, still-wrong}
use Rattle.mk_reader.proofs.reader.Reader.read_makefile.Goals as goal

pub returns-in_err-text : goal.returns-in_err-text
returns-in_err-text g c =
    let p = err_from_is_err_and c.from_residual.result c.from_residual.ensures.1 in
    rw (p.1, p.2) (first-refused _ sorted (λ answers. found_read answers c.args.file.now c.args.missing.now c.args.count.now) c.in_err-text.ensures)

pub returns-in_err-from_bytes-in-None : goal.returns-in_err-from_bytes-in-None
returns-in_err-from_bytes-in-None g c =
    let p = err_from_is_err_and c.from_residual-in_err-from_bytes-in-None.result
    c.from_residual-in_err-from_bytes-in-None.ensures.1 in
    rw (p.1, p.2) (first-then _ sorted (λ answers. found_read answers c.args.file.now c.args.missing.now c.args.count.now) c.in_ok-text.ensures (still-want _ sorted _ _ _ refl))

pub returns-in-Some : goal.returns-in-Some
returns-in-Some g c =
    first-then _ sorted (λ answers. found_read answers c.args.file.now c.args.missing.now c.args.count.now) c.in_ok-text.ensures
    (does-as _ sorted _ _ _ _ (λ answers. rw (c.in-Some.is, ← c.bytes.ensures.value) refl)
    c.read_whole.ensures)

pub returns-in_ok-from_bytes-in-None : goal.returns-in_ok-from_bytes-in-None
returns-in_ok-from_bytes-in-None g c =
    first-then _ sorted (λ answers. found_read answers c.args.file.now c.args.missing.now c.args.count.now) c.in_ok-text.ensures
    (still-wrong _ sorted _ _ _ _ refl
    (λ answers. rw (c.in-None.is, c.in_ok-from_bytes-in-None.ensures) refl))
