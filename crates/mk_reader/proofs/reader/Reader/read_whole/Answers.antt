use Rattle.std.proofs.Common.{refl}
use Rattle.std.proofs.lemmas.Result.{err_from_is_err_and}
use Rattle.mk_blocks.specs.Ties as blocks
use Rattle.mk_makefile.specs.ReadFaults.{file_fault, sorted}
use Rattle.mk_reader.proofs.FirstLemmas.{changed-first}
use Rattle.mk_reader.proofs.ReadLemmas.{sorted-file}
use Rattle.mk_reader.proofs.TieLemmas.{seen-given, seen-refused, still-want}
use Rattle.mk_reader.proofs.reader.Reader.read_whole.Goals as goal

pub returns-in_err-self : goal.returns-in_err-self
returns-in_err-self g c =
    let p = err_from_is_err_and c.from_residual.result c.from_residual.ensures.1 in
    rw (p.1, p.2) (still-want _ sorted _ _ _ refl)

pub returns-in_err-read_file : goal.returns-in_err-read_file
returns-in_err-read_file g c =
    let p = err_from_is_err_and c.from_residual-in_err-read_file.result
    c.from_residual-in_err-read_file.ensures.1 in
    rw (p.1, p.2)
    (changed-first _ sorted
    (seen-refused _ file_fault blocks.sorted sorted _ (sorted-file _) c.in_err-read_file.ensures.does)
    (record { world = refl; err = refl; state = refl; order = refl; same = refl }) refl refl
    (λ answers. rw c.in_ok-self.ensures refl))

pub returns : goal.returns
returns g c =
    changed-first _ sorted
    (seen-given _ file_fault blocks.sorted sorted tt (λ answers. refl) c.in_ok-read_file.ensures.does)
    (record { world = refl; err = refl; state = refl; order = refl; same = refl }) refl refl
    (λ answers. rw c.in_ok-self.ensures refl)
