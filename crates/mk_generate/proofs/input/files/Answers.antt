use Rattle.std.proofs.Common.{◌∷◌, ◌++◌, [], map, codes, sym, ◌∙◌, ap, arith}
use Rattle.std.proofs.lemmas.List.FromFn.{map-range_with_len_more}
use Rattle.mk_generate.specs.Input as spec
use Rattle.mk_generate.proofs.input.files.Goals as goal

pub loop-i-preserved : goal.loop-i-preserved
loop-i-preserved c =
    let i = c.loop-i.i in
    let next = map-range_with_len_more spec.source_file 0 i i (omega arith) in
    let first = spec.file (codes "makefile") (spec.makefile_of c.args.n) in
    let file = c.in_ok-source_file.ensures in
    c.in_ok-push-2.ensures.ok ∙ ap (λ files. files ++ c.in_ok-source_file.field-0 ∷ []) c.loop-i.invariant
    ∙ ap (λ last. (first ∷ map spec.source_file (spec.below i)) ++ last ∷ []) file
    ∙ ap (λ files. first ∷ files) (sym next)
