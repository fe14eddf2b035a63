-- The records and the last line, read and written.
use Rattle.std.proofs.Common.{◌≡◌, ℕ, ◌<◌, List, ◌++◌}
use Rattle.std.proofs.Common.{length}
use Rattle.std.proofs.Common.{codes, flat_map, Option, Some, None, IfSome}
use Rattle.std.proofs.Common.{refl, sym, ◌∙◌, ap, subst, arith}
use Rattle.std.specs.Fmt.{digits}
use Rattle.std.specs.List.{AllByRecursion}
use Rattle.mk_filemon.specs.Escapes.{cut_at, part_behind}
use Rattle.mk_filemon.specs.declared.record.Rec.{Rec}
use Rattle.mk_filemon.proofs.RecordLemmas.{option_map_some}
use Rattle.mk_meta.specs.Lawful.{IsOfLines}
use Rattle.mk_meta.specs.Reading.{Records, stripped, line_read}
use Rattle.mk_meta.specs.Reading.{record_of, all_of}
use Rattle.mk_meta.specs.Reading.{end_behind, some_records}
use Rattle.mk_meta.specs.Reading.{records_behind, records_at}
use Rattle.mk_meta.specs.Texts.{record_line, records_lines}
use Rattle.mk_meta.proofs.RecordLineLemmas.{record_line-again, record_line-written}
use Rattle.mk_meta.proofs.LineLemmas.{stripped-again, stripped-written}
use Rattle.mk_meta.proofs.ManyLemmas.{all-again, many-written}
use Rattle.mk_meta.proofs.FrontLemmas.{three}

-- the records and the last line
some_record : (one : Rec) → 0 < length (record_line one)
some_record one = omega arith

no_record : (count : ℕ) (rest : List ℕ)
    → line_read (record_of count) (codes "# end 3\n" ++ rest) ≡ None
unfolding cut_at part_behind digits
no_record count rest = refl

pub records-again : (count : ℕ) (records : Records) (rest : List ℕ)
    → IfSome records (AllByRecursion (IsOfLines count))
    → records_at count ((records_lines records ++ codes "# end 3\n") ++ rest) ≡ Some (records, rest)
records-again count None rest each = refl
records-again count (Some records) rest each =
    let marker = codes "-- filemon acquired metadata --\n" in
    let lines = flat_map record_line records in
    ap (records_at count) (three marker lines (codes "# end 3\n") rest)
    ∙ ap (records_behind count (marker ++ (lines ++ (codes "# end 3\n" ++ rest))))
    (stripped-again marker (lines ++ (codes "# end 3\n" ++ rest)))
    ∙ ap some_records (all-again (line_read (record_of count)) record_line (IsOfLines count)
    (record_line-again count) some_record records (codes "# end 3\n" ++ rest) each
    (no_record count rest))

end-written : (records found : Records) (text rest : List ℕ)
    → end_behind records text ≡ Some (found, rest)
    → (text ≡ codes "# end 3\n" ++ rest) × (records ≡ found)
end-written records found text rest is =
    let behind = option_map_some (λ (r : List ℕ). (records, r)) (stripped (codes "# end 3\n") text)
    (found, rest) is in
    let same : ◌≡◌ {A = Records × List ℕ} (records, behind.0) (found, rest) = behind.2 in (
      stripped-written (codes "# end 3\n") text behind.0 behind.1
          ∙ ap (λ (p : Records × List ℕ). codes "# end 3\n" ++ p.1) same,
      ap (λ (p : Records × List ℕ). p.0) same,
    )

pub records-written : (count : ℕ) (text : List ℕ) (found : Records) (rest : List ℕ)
    → records_at count text ≡ Some (found, rest)
    → (text ≡ (records_lines found ++ codes "# end 3\n") ++ rest)
    × IfSome found (AllByRecursion (IsOfLines count))
records-written count text found rest is = go (stripped marker text) refl is
  where
    marker : List ℕ
    marker = codes "-- filemon acquired metadata --\n"

    go : (behind : Option (List ℕ)) → stripped (codes "-- filemon acquired metadata --\n") text
        ≡ behind
        → records_behind count text behind ≡ Some (found, rest)
        → (text ≡ (records_lines found ++ codes "# end 3\n") ++ rest)
        × IfSome found (AllByRecursion (IsOfLines count))
    go None at so =
        let end = end-written None found text rest so in
        subst (λ (r : Records). (text ≡ (records_lines r ++ codes "# end 3\n") ++ rest)
        × IfSome r (AllByRecursion (IsOfLines count))) end.1 (end.0, tt)
    go (Some behind) at so =
        let many = all_of (line_read (record_of count)) behind in
        let lines = many-written (line_read (record_of count)) record_line (IsOfLines count)
        (record_line-written count) (length behind) behind in
        let end = end-written (Some many.0) found many.1 rest so in
        let start = stripped-written (codes "-- filemon acquired metadata --\n") text behind at in
        let all : text ≡ (records_lines (Some many.0) ++ codes "# end 3\n") ++ rest = start
        ∙ ap (λ b. codes "-- filemon acquired metadata --\n" ++ b) (lines.is
        ∙ ap (λ b. flat_map record_line many.0 ++ b) end.0)
        ∙ sym (three (codes "-- filemon acquired metadata --\n") (flat_map record_line many.0)
        (codes "# end 3\n") rest) in
        subst (λ (r : Records). (text ≡ (records_lines r ++ codes "# end 3\n") ++ rest)
        × IfSome r (AllByRecursion (IsOfLines count))) end.1 (all, lines.each)
