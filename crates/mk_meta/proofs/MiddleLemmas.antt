-- The exported variables, the target and the output, read and written.
use Rattle.std.proofs.Common.{◌≡◌, ℕ, ◌<◌, ◌^◌, ◌==◌, true, false, List, [], ◌∷◌, ◌++◌}
use Rattle.std.proofs.Common.{length}
use Rattle.std.proofs.Common.{take, drop, codes, flat_map, Some, None, nat_lt}
use Rattle.std.proofs.Common.{option_and_then, refl, sym, ◌∙◌, ap, ap₂, subst, arith}
use Rattle.std.proofs.Common.{length-append}
use Rattle.std.proofs.lemmas.Bool.Decides.{nat_tests}
use Rattle.std.proofs.lemmas.Grind.{common_steps}
use Rattle.std.proofs.lemmas.Option.{option_and_then_some, some_pair_parts}
use Rattle.std.specs.List.{AllByRecursion}
use Rattle.mk_bytes.specs.Bytes.{newline}
use Rattle.mk_bytes.specs.declared.pair.Pair.{Pair}
use Rattle.mk_filemon.specs.Escapes.{escaped}
use Rattle.mk_filemon.proofs.EscapeLemmas.{cases, same_number}
use Rattle.mk_filemon.proofs.RecordLemmas.{option_map_some}
use Rattle.mk_meta.specs.Lawful.{is_export_name, are_sorted, IsLawful}
use Rattle.mk_meta.specs.Reading.{Middle, stripped, line_read, text_in}
use Rattle.mk_meta.specs.Reading.{number_behind, export_in, all_of, counted}
use Rattle.mk_meta.specs.Reading.{output_of, output_at, middle_behind}
use Rattle.mk_meta.specs.Reading.{target_behind, sorted, middle_at}
use Rattle.mk_meta.specs.Texts.{line_of, number_line, export_line}
use Rattle.mk_meta.specs.Texts.{output_lines, middle}
use Rattle.mk_meta.specs.declared.meta.Meta.{Meta}
use Rattle.mk_meta.proofs.ExportLemmas.{export_line-again, export_line-written}
use Rattle.mk_meta.proofs.LineLemmas.{regroup}
use Rattle.mk_meta.proofs.LineLemmas.{stripped-again, stripped-written, line_read-none}
use Rattle.mk_meta.proofs.LineLemmas.{escaped-line}
use Rattle.mk_meta.proofs.LineLemmas.{IsWithout-append, text_line-again, text_line-written}
use Rattle.mk_meta.proofs.LineLemmas.{number_line-again, number_line-written}
use Rattle.mk_meta.proofs.ManyLemmas.{all-again, many-written}
use Rattle.mk_meta.proofs.FrontLemmas.{four, middle_of, three}

-- the output
output-again : (output rest : List ℕ)
    → output_of (length output) (output ++ newline ∷ rest) ≡ Some (output, rest)
output-again output rest =
    let within : nat_lt (length output) (length (output ++ newline ∷ rest)) ≡ true =
    rw length-append (grind (arith, nat_tests)) in
    let before : take (length output) (output ++ newline ∷ rest) ≡ output =
    grind (arith, common_steps) in
    let behind : drop (length output) (output ++ newline ∷ rest) ≡ newline ∷ rest =
    grind (arith, common_steps) in
    rw (within, before, behind) refl

output_at-again : (output rest : List ℕ) → length output < 2 ^ 64
    → output_at (output_lines output ++ rest) ≡ Some (output, rest)
output_at-again output rest small =
    let marker = codes "-- command output --\n" in
    let count = number_line (codes "OUTPUT ") (length output) in
    ap output_at (four count marker output (newline ∷ []) rest)
    ∙ ap (option_and_then (λ (c : ℕ × List ℕ).
    option_and_then (output_of c.0) (stripped marker c.1)))
    (number_line-again (codes "OUTPUT ") (length output) (marker ++ (output ++ newline ∷ rest))
    (refl, (refl, (refl, (refl, (refl, (refl, (refl, tt))))))) small)
    ∙ ap (option_and_then (output_of (length output)))
    (stripped-again marker (output ++ newline ∷ rest))
    ∙ output-again output rest

counted-written : (output behind found rest : List ℕ) → counted (output, behind) ≡ Some
    (found, rest)
    → (output ≡ found) × (behind ≡ newline ∷ rest)
counted-written output [] found rest is = absurd cc
counted-written output (byte ∷ behind) found rest is =
    cases (byte == newline)
    (λ here. let parts = some_pair_parts output found behind rest (rw here at is) in
    (parts.0, ap₂ (λ b t. b ∷ t) (same_number byte newline here) parts.1))
    (λ apart. let none : None ≡ Some (found, rest) = rw apart at is in absurd cc)

output_of-written : (count : ℕ) (text found rest : List ℕ) → output_of count text ≡ Some
    (found, rest)
    → (text ≡ found ++ newline ∷ rest) × (count ≡ length found)
output_of-written count text found rest is =
    cases (nat_lt count (length text))
    (λ here. let parts = counted-written (take count text) (drop count text) found rest
    (rw here at is) in
    let within : count < length text = grind (arith, nat_tests) in
    let long : length (take count text) ≡ count = grind (arith, common_steps) in
    let whole : take count text ++ drop count text ≡ text = grind (arith, common_steps) in
    (sym whole ∙ ap₂ (λ a b. a ++ b) parts.0 parts.1, sym long ∙ ap length parts.0))
    (λ apart. let none : None ≡ Some (found, rest) = rw apart at is in absurd cc)

output_at-written : (text output rest : List ℕ) → output_at text ≡ Some (output, rest)
    → (text ≡ output_lines output ++ rest) × (length output < 2 ^ 64)
output_at-written text output rest is =
    let marker = codes "-- command output --\n" in
    option_and_then_some (λ (c : ℕ × List ℕ). option_and_then (output_of c.0) (stripped marker c.1))
    (line_read (number_behind (codes "OUTPUT ")) text) (output, rest) is
    (λ c at so. option_and_then_some (output_of c.0) (stripped marker c.1) (output, rest) so
    (λ behind there right.
    let count = number_line-written (codes "OUTPUT ") text c.0 c.1 at in
    let bytes = output_of-written c.0 behind output rest right in
    let mark = stripped-written marker c.1 behind there in (
      count.0 ∙ ap₂ (λ (n : ℕ) t. number_line (codes "OUTPUT ") n ++ t) bytes.1
          (mark ∙ ap (λ b. marker ++ b) bytes.0) ∙ sym (four
          (number_line (codes "OUTPUT ") (length output))
          marker output (newline ∷ []) rest),
      subst (λ n. n < 2 ^ 64) bytes.1 count.1,
    )))

-- exported variables, the target and the output
some_export : (pair : Pair) → 0 < length (export_line pair)
some_export pair = omega arith

no_export : (target rest : List ℕ)
    → line_read export_in (line_of (codes "TARGET ") target ++ rest) ≡ None
no_export target rest =
    ap (line_read export_in) (regroup (codes "TARGET ") (escaped false target) rest)
    ∙ line_read-none export_in (codes "TARGET " ++ escaped false target) rest
    (IsWithout-append newline (codes "TARGET ") (escaped false target)
    (refl, (refl, (refl, (refl, (refl, (refl, (refl, tt))))))) (escaped-line false target)) refl

target-again : (exports : List Pair) (target output rest : List ℕ) → length output < 2 ^ 64
    → target_behind (exports, line_of (codes "TARGET ") target ++ (output_lines output ++ rest))
    ≡ Some (record { exports = exports; target = target; output = output }, rest)
target-again exports target output rest small =
    ap (option_and_then (λ (t : List ℕ × List ℕ). middle_behind exports t.0 (output_at t.1)))
    (text_line-again (codes "TARGET ") target (output_lines output ++ rest)
    (refl, (refl, (refl, (refl, (refl, (refl, (refl, tt))))))))
    ∙ ap (middle_behind exports target) (output_at-again output rest small)

pub middle-again : (meta : Meta) (rest : List ℕ) → IsLawful meta
    → middle_at (middle meta ++ rest) ≡ Some (middle_of meta, rest)
middle-again meta rest is =
    let exports = flat_map export_line meta.exports in
    let target = line_of (codes "TARGET ") meta.target in
    let behind = output_lines meta.output ++ rest in
    ap middle_at (three exports target (output_lines meta.output) rest)
    ∙ ap sorted (all-again (line_read export_in) export_line
    (λ pair. is_export_name pair.name ≡ true) export_line-again some_export meta.exports
    (target ++ behind) is.names (no_export meta.target behind))
    ∙ rw is.sorted (target-again meta.exports meta.target meta.output rest is.output)

target-written : (exports : List Pair) (text : List ℕ) (found : Middle) (rest : List ℕ)
    → target_behind (exports, text) ≡ Some (found, rest)
    → (found.exports ≡ exports)
    × (text ≡ line_of (codes "TARGET ") found.target ++ (output_lines found.output ++ rest))
    × (length found.output < 2 ^ 64)
target-written exports text found rest is =
    option_and_then_some (λ (t : List ℕ × List ℕ). middle_behind exports t.0 (output_at t.1))
    (line_read (text_in (codes "TARGET ")) text) (found, rest) is
    (λ t at so.
    let output = option_map_some (λ (o : List ℕ × List ℕ).
    (record { exports = exports; target = t.0; output = o.0 }, o.1)) (output_at t.1)
    (found, rest) so in
    let first = text_line-written (codes "TARGET ") text t.0 t.1 at in
    let last = output_at-written t.1 output.0.0 output.0.1 output.1 in
    let same : ◌≡◌ {A = Middle × List ℕ}
    (record { exports = exports; target = t.0; output = output.0.0 }, output.0.1) (found, rest)
    = output.2 in
    subst (λ (p : Middle × List ℕ). (p.0.exports ≡ exports)
    × (text ≡ line_of (codes "TARGET ") p.0.target ++ (output_lines p.0.output ++ p.1))
    × (length p.0.output < 2 ^ 64)) same
    (refl, first ∙ ap (λ b. line_of (codes "TARGET ") t.0 ++ b) last.0, last.1))

pub record MiddleIs (text : List ℕ) (found : Middle) (rest : List ℕ) : Type 0 where
  pub is : text ≡ (flat_map export_line found.exports ++ line_of (codes "TARGET ") found.target
      ++ output_lines found.output) ++ rest
  pub output : length found.output < 2 ^ 64
  pub names : AllByRecursion (λ pair. is_export_name pair.name ≡ true) found.exports
  pub in_order : are_sorted found.exports ≡ true

pub middle-written : (text : List ℕ) (found : Middle) (rest : List ℕ)
    → middle_at text ≡ Some (found, rest) → MiddleIs text found rest
middle-written text found rest is =
    let many = all_of (line_read export_in) text in
    let lines = many-written (line_read export_in) export_line
    (λ pair. is_export_name pair.name ≡ true) export_line-written (length text) text in
    cases (are_sorted many.0)
    (λ right. let behind = target-written many.0 many.1 found rest (rw right at is) in
    let all : text ≡ (flat_map export_line many.0 ++ line_of (codes "TARGET ") found.target
    ++ output_lines found.output) ++ rest = lines.is
    ∙ ap (λ b. flat_map export_line many.0 ++ b) behind.1
    ∙ sym (three (flat_map export_line many.0) (line_of (codes "TARGET ") found.target)
    (output_lines found.output) rest) in
    let same = sym behind.0 in
    record {
      is = all ∙ ap (λ e. (flat_map export_line e ++ line_of (codes "TARGET ") found.target
          ++ output_lines found.output) ++ rest) same;
      output = behind.2;
      names = subst (AllByRecursion (λ (pair : Pair). is_export_name pair.name ≡ true)) same
          lines.each;
      in_order = ap are_sorted behind.0 ∙ right;
    })
    (λ wrong. let none : None ≡ Some (found, rest) = rw wrong at is in absurd cc)
