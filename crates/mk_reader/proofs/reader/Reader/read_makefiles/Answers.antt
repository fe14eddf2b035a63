use Rattle.std.proofs.Common.{◌≡◌, []}
use Rattle.mk_makefile.specs.ReadFaults.{sorted}
use Rattle.mk_reader.proofs.ReadLemmas.{makefiles-none, makefiles-some}
use Rattle.mk_reader.proofs.TieLemmas.{does-as}
use Rattle.mk_reader.proofs.reader.Reader.read_makefiles.Goals as goal

pub returns-then-is_empty : goal.returns-then-is_empty
returns-then-is_empty g c =
    let none : c.args.files.now ≡ [] = c.is_empty.ensures.0 c.if-is_empty.true in
    does-as _ sorted _ _ _ _ (λ answers. makefiles-none answers c.args.files.now _ none)
    c.read_default.ensures

pub returns : goal.returns
returns g c =
    does-as _ sorted _ _ _ _
    (λ answers. makefiles-some answers c.args.files.now _ c.is_empty.result c.is_empty.ensures
    c.if-is_empty.false)
    c.read_files.ensures
