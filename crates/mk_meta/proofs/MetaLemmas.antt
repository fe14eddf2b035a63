-- The text of a meta file, read again and written again.
use Rattle.std.proofs.Common.{◌≡◌, ℕ, ◌<◌, ◌^◌, false, List, [], ◌∷◌, ◌++◌}
use Rattle.std.proofs.Common.{length}
use Rattle.std.proofs.Common.{codes, flat_map, Some, None}
use Rattle.std.proofs.Common.{option_and_then, refl, sym, ◌∙◌, ap, ap₂, subst}
use Rattle.std.proofs.Common.{append_assoc}
use Rattle.std.proofs.lemmas.List.{append-nil}
use Rattle.std.proofs.lemmas.Option.{option_and_then_some, cond_some, some_pair_parts}
use Rattle.std.specs.List.{AllByRecursion}
use Rattle.std.specs.Str.{bytes_eq}
use Rattle.mk_bytes.specs.Bytes.{newline}
use Rattle.mk_filemon.specs.Escapes.{escaped, cut_at}
use Rattle.mk_filemon.proofs.CutLemmas.{IsWithout, cut_at-again}
use Rattle.mk_filemon.proofs.CutLemmas.{cut_at-written}
use Rattle.mk_filemon.proofs.PathLemmas.{same_bytes, bytes_eq-same}
use Rattle.mk_meta.specs.Lawful.{IsKept, IsLawful}
use Rattle.mk_meta.specs.Laws.{NoneBegins, HeadIsNone}
use Rattle.mk_meta.specs.Reading.{Read, Front, Middle, Records}
use Rattle.mk_meta.specs.Reading.{front_at}
use Rattle.mk_meta.specs.Reading.{middle_at}
use Rattle.mk_meta.specs.Reading.{records_at, value_of, whole, meta_behind, meta_at}
use Rattle.mk_meta.specs.Reading.{no_rest, meta_in}
use Rattle.mk_meta.specs.Texts.{line_of, number_line, head_line, head, command_line}
use Rattle.mk_meta.specs.Texts.{records_lines, front, middle, meta_text}
use Rattle.mk_meta.specs.declared.meta.Meta.{Meta}
use Rattle.mk_meta.proofs.LineLemmas.{escaped-line}
use Rattle.mk_meta.proofs.LineLemmas.{IsWithout-append}
use Rattle.mk_meta.proofs.EndLemmas.{records-again, records-written}
use Rattle.mk_meta.proofs.FrontLemmas.{front-again, front-written, front_of, middle_of}
use Rattle.mk_meta.proofs.MiddleLemmas.{middle-again, middle-written}

-- all parts of the text
parts : (meta : Meta) (rest : List ℕ)
    → meta_text meta ++ rest
    ≡ head_line meta.target ++ newline ∷ (front meta
    ++ (middle meta ++ ((records_lines meta.records ++ codes "# end 3\n") ++ rest)))
parts meta rest = regroup (head_line meta.target) (front meta) (middle meta)
    (records_lines meta.records) (codes "# end 3\n") rest
  where
    regroup : (a b c d e rest' : List ℕ)
        → ((a ++ newline ∷ []) ++ b ++ c ++ d ++ e) ++ rest'
        ≡ a ++ newline ∷ (b ++ (c ++ ((d ++ e) ++ rest')))
    regroup a b c d e rest' = simp append_assoc

head-one : (target : List ℕ) → IsWithout newline (head_line target)
head-one target =
    IsWithout-append newline (codes "# Meta data file " ++ escaped false target) (codes ".meta")
    (IsWithout-append newline (codes "# Meta data file ") (escaped false target) (
      refl,
      (
        refl,
        (
          refl,
          (
            refl,
            (
              refl,
              (
                refl,
                (
                  refl,
                  (
                    refl,
                    (
                      refl,
                      (
                        refl,
                        (
                          refl,
                          (
                            refl,
                            (
                              refl,
                              (refl, (refl, (refl, (refl, tt)))),
                            ),
                          ),
                        ),
                      ),
                    ),
                  ),
                ),
              ),
            ),
          ),
        ),
      ),
    ) (escaped-line false target))
    (refl, (refl, (refl, (refl, (refl, tt)))))

-- What is written is read, whatever follows it.
pub meta-again : (meta : Meta) (rest : List ℕ) → IsLawful meta
    → meta_at (meta_text meta ++ rest) ≡ Some (meta, rest)
meta-again meta rest is =
    let first = head_line meta.target in
    let end = (records_lines meta.records ++ codes "# end 3\n") ++ rest in
    ap meta_at (parts meta rest)
    ∙ ap (option_and_then (λ (f : List ℕ × List ℕ). option_and_then (meta_behind f.0)
    (front_at f.1)))
    (cut_at-again newline first (front meta ++ (middle meta ++ end)) (head-one meta.target))
    ∙ ap (option_and_then (meta_behind first)) (front-again meta (middle meta ++ end) is)
    ∙ ap (option_and_then (λ (m : Middle × List ℕ). option_and_then
    (λ (r : Records × List ℕ). whole first (value_of (front_of meta) m.0 r.0) r.1)
    (records_at (length meta.lines) m.1))) (middle-again meta end is)
    ∙ ap (option_and_then (λ (r : Records × List ℕ).
    whole first (value_of (front_of meta) (middle_of meta) r.0) r.1))
    (records-again (length meta.lines) meta.records rest is.records)
    ∙ rw (bytes_eq-same first) refl

-- What is read is written so.
pub record MetaIs (text : List ℕ) (meta : Meta) (rest : List ℕ) : Type 0 where
  pub is : text ≡ meta_text meta ++ rest
  pub lawful : IsLawful meta

behind-written : (first text : List ℕ) (found : Front) (meta : Meta) (rest : List ℕ)
    → meta_behind first (found, text) ≡ Some (meta, rest)
    → (found.stamp < 2 ^ 64) → AllByRecursion IsKept found.lines
    → (found ≡ front_of meta) × (first ≡ head_line meta.target)
    × (text ≡ middle meta ++ ((records_lines meta.records ++ codes "# end 3\n") ++ rest))
    × IsLawful meta
behind-written first text found meta rest is small each =
    option_and_then_some (λ (m : Middle × List ℕ). option_and_then
    (λ (r : Records × List ℕ). whole first (value_of found m.0 r.0) r.1)
    (records_at (length found.lines) m.1)) (middle_at text) (meta, rest) is
    (λ m at so. option_and_then_some
    (λ (r : Records × List ℕ). whole first (value_of found m.0 r.0) r.1)
    (records_at (length found.lines) m.1) (meta, rest) so
    (λ r there right.
    let value = value_of found m.0 r.0 in
    let ends = cond_some (bytes_eq (head_line value.target) first) (value, r.1)
    (meta, rest) right in
    let center = middle-written text m.0 m.1 at in
    let last = records-written (length found.lines) m.1 r.0 r.1 there in
    let same : ◌≡◌ {A = Meta × List ℕ} (value, r.1) (meta, rest) = ends.1 in
    subst (λ (p : Meta × List ℕ). (found ≡ front_of p.0) × (first ≡ head_line p.0.target)
    × (text ≡ middle p.0 ++ ((records_lines p.0.records ++ codes "# end 3\n") ++ p.1))
    × IsLawful p.0) same (
      refl,
      sym (same_bytes (head_line value.target) first ends.0),
      center.is ∙ ap (λ b. middle value ++ b) last.0,
      record {
        stamp = small;
        output = center.output;
        lines = each;
        names = center.names;
        sorted = center.in_order;
        records = last.1;
      },
    )))

pub meta-written : (text : List ℕ) (meta : Meta) (rest : List ℕ)
    → meta_at text ≡ Some (meta, rest) → MetaIs text meta rest
meta-written text meta rest is =
    option_and_then_some (λ (f : List ℕ × List ℕ). option_and_then (meta_behind f.0) (front_at f.1))
    (cut_at newline text) (meta, rest) is
    (λ f at so. option_and_then_some (meta_behind f.0) (front_at f.1) (meta, rest) so
    (λ g there right.
    let begins = front-written f.1 g.0 g.1 there in
    let found = behind-written f.0 g.1 g.0 meta rest right begins.1 begins.2 in
    record {
      is = cut_at-written newline text f.0 f.1 at
          ∙ ap₂ (λ a b. a ++ newline ∷ b) found.1
          (begins.0 ∙ ap₂ (λ (h : Front) t. (number_line (codes "STAMP ") h.stamp
          ++ flat_map command_line h.lines ++ line_of (codes "CWD ") h.cwd) ++ t)
          found.0 found.2)
          ∙ sym (parts meta rest);
      lawful = found.3;
    }))

-- a whole text
no_rest-some : (found : Meta × List ℕ) (meta : Meta) → no_rest found ≡ Some meta
    → (found.0 ≡ meta) × (found.1 ≡ [])
no_rest-some (one, []) meta is = (cc, refl)
no_rest-some (one, byte ∷ rest) meta is = absurd cc

pub meta_in-again : (meta : Meta) → IsLawful meta → meta_in (meta_text meta) ≡ Some meta
meta_in-again meta is =
    ap (option_and_then no_rest) (ap meta_at (sym (append-nil (meta_text meta)))
    ∙ meta-again meta [] is)

pub meta_in-written : (text : List ℕ) (meta : Meta) → meta_in text ≡ Some meta
    → IsLawful meta × (text ≡ meta_text meta)
meta_in-written text meta is =
    option_and_then_some no_rest (meta_at text) meta is
    (λ found at so. let over = no_rest-some found meta so in
    let whole = meta-written text found.0 found.1 at in (
      subst IsLawful over.0 whole.lawful,
      whole.is ∙ ap₂ (λ (m : Meta) r. meta_text m ++ r) over.0 over.1
          ∙ append-nil (meta_text meta),
    ))

pub none_begins : NoneBegins
none_begins one other rest is also same =
    let again : Some (one, rest) ≡ Some (other, []) =
    sym (meta-again one rest is) ∙ ap meta_at (same ∙ sym (append-nil (meta_text other)))
    ∙ meta-again other [] also in
    (some_pair_parts one other rest [] again).1

no_front : (first : List ℕ) → option_and_then (meta_behind first) (front_at []) ≡ None
unfolding cut_at
no_front first = refl

pub head_is_none : HeadIsNone
head_is_none target meta is same =
    let again : meta_at (head target) ≡ Some (meta, []) =
    ap meta_at (same ∙ sym (append-nil (meta_text meta))) ∙ meta-again meta [] is in
    let none : meta_at (head target) ≡ None =
    ap (option_and_then (λ (f : List ℕ × List ℕ). option_and_then (meta_behind f.0) (front_at f.1)))
    (cut_at-again newline (head_line target) [] (head-one target)) ∙ no_front (head_line target) in
    let wrong : ◌≡◌ {A = Read Meta} None (Some (meta, [])) = sym none ∙ again in absurd cc
