use Rattle.std.proofs.Common.{refl}
use Rattle.mk_makefile.specs.ReadFaults.{of_what, sorted}
use Rattle.mk_makefile.specs.Refusals as refusals
use Rattle.mk_reader.proofs.TieLemmas.{seen-given}
use Rattle.mk_reader.proofs.reader.Reader.apply_words.Goals as goal

pub returns-in-Ok : goal.returns-in-Ok
returns-in-Ok g c =
    seen-given _ of_what refusals.sorted sorted _ (λ answers. refl) c.in-Ok.ensures
