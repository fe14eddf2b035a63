use Rattle.std.proofs.Common.{codes, flat_map, ◌++◌, sym, ◌∙◌, ap, append_assoc}
use Rattle.std.proofs.lemmas.Result.{on_ok_weaker}
use Rattle.mk_meta.specs.Texts.{record_line, records_lines}
use Rattle.mk_meta.proofs.writing.push_records.Goals as goal

pub returns-in_ok-push-in-Some : goal.returns-in_ok-push-in-Some
returns-in_ok-push-in-Some c =
    let marker = codes "-- filemon acquired metadata --\n" in
    on_ok_weaker c.push_each_record.result
    (λ is. is
    ∙ ap (λ records. c.push.new.self ++ flat_map record_line records) c.as_slice.ensures.value
    ∙ ap (λ text. text ++ flat_map record_line c.in-Some.records) c.in_ok-push-in-Some.ensures.ok
    ∙ append_assoc c.args.text.now marker (flat_map record_line c.in-Some.records)
    ∙ ap (λ records. c.args.text.now ++ records_lines records) (sym c.in-Some.is))
    c.push_each_record.ensures
