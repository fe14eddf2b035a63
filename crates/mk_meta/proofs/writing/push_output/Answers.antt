use Rattle.std.proofs.Common.{◌∙◌, ap, codes, length, ◌++◌, ◌∷◌, []}
use Rattle.mk_bytes.specs.Bytes.{newline}
use Rattle.mk_meta.specs.Texts.{number_line}
use Rattle.mk_meta.proofs.LineLemmas.{pushed}
use Rattle.mk_meta.proofs.writing.push_output.Goals as goal

pub returns : goal.returns
returns c =
    pushed c.args.text.now (number_line (codes "OUTPUT ") (length c.args.output.now))
    (codes "-- command output --\n") c.args.output.now (newline ∷ []) c.push_number_line.new.text
    c.push.new.self c.push-2.new.self c.push-3.new.self
    (c.in_ok-push_number_line.ensures
    ∙ ap (λ count. c.args.text.now ++ number_line (codes "OUTPUT ") count) c.len.ensures.value)
    c.in_ok-push.ensures.ok
    (c.in_ok-push-2.ensures.ok ∙ ap (λ bytes. c.push.new.self ++ bytes) c.bytes.ensures.value)
    c.in_ok-push-3.ensures.ok
