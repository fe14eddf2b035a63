-- Whole texts: their one tree, their faults, and the forms in them.
use Rattle.std.proofs.Common.{◌≡◌, ◌≢◌, inl, inr, ℕ, ◌+◌, ◌-◌, ◌<◌, List, ◌∷◌, ◌++◌}
use Rattle.std.proofs.Common.{length, take, drop, slice_index, slice_range, Ok, refl, sym, ap, subst, ◌∙◌, arith}
use Rattle.std.proofs.Common.{length-append}
use Rattle.std.proofs.lemmas.Grind.{common_steps}
use Rattle.std.proofs.lemmas.List.{take-append-drop}
use Rattle.std.proofs.Math.Seq.{drop-append_seam, drop-append-add, take-append_seam}
use Rattle.mk_bytes.specs.Agrees.{AgreesErr}
use Rattle.mk_bytes.specs.Bytes.{dollar}
use Rattle.mk_ast.specs.FaultPlaces.{StandsIn}
use Rattle.mk_ast.specs.Forms.{IsForm}
use Rattle.mk_ast.specs.Tree.{Tree, Part}
use Rattle.mk_ast.specs.Spell.{spell, spell_part}
use Rattle.mk_ast.specs.WellFormed.{FitsPart, IsWellFormed}
use Rattle.mk_ast.specs.References.{ref_at, max_open, tree_of_text, form_at, end_of_form}
use Rattle.mk_ast.specs.declared.fault.AstFault.{AstFault}
use Rattle.mk_ast.specs.declared.fault.AstFault.TheVariants.{NoMemory as no_memory}
use Rattle.mk_ast.specs.declared.place.Place.TheVariants.{Whole}
use Rattle.mk_ast.proofs.Ends.{IsEnd}
use Rattle.mk_ast.proofs.FaultPlaces.{tree_of_text-placed, end_of_form-placed}
use Rattle.mk_ast.proofs.ReadAgain.{tree_of_text-spell}
use Rattle.mk_ast.proofs.Spelled.{DollarOf}
use Rattle.mk_ast.proofs.SpelledReferences.{ref_at-spelled}
use Rattle.mk_ast.proofs.SpelledTexts.{dollar_at-spelled}

-- the text of a well-formed tree is read as this tree
read-other : (text : List ℕ) (other : Tree) → IsWellFormed other → spell other ≡ text
    → tree_of_text text ≡ Ok other
read-other text other fits spelled = subst (λ t. tree_of_text t ≡ Ok other) spelled
    (tree_of_text-spell other fits)

-- a text has one tree
pub tree-alone : (text : List ℕ) (tree other : Tree) → tree_of_text text ≡ Ok tree
    → IsWellFormed other → spell other ≡ text → other ≡ tree
tree-alone text tree other is fits spelled =
    let again = read-other text other fits spelled in cc

-- a text with a fault is that of no tree
pub tree-outside : (text : List ℕ) (fault : AstFault) → AgreesErr no_memory fault (tree_of_text text)
    → fault ≢ no_memory → (other : Tree) → IsWellFormed other → spell other ≡ text → ⊥
tree-outside text fault (inl want) some other fits spelled = some want
tree-outside text fault (inr is) some other fits spelled =
    let again = read-other text other fits spelled in cc

pub tree-placed : (text : List ℕ) (fault : AstFault) → AgreesErr no_memory fault (tree_of_text text)
    → fault ≢ no_memory → StandsIn text fault
tree-placed text fault (inl want) some = absurd (some want)
tree-placed text fault (inr is) some = tree_of_text-placed text fault is

-- the bytes from a place on
begins-at : (text : List ℕ) (at byte : ℕ) → at < length text → slice_index text at ≡ byte
    → drop at text ≡ byte ∷ drop (at + 1) text
begins-at text at byte within is = grind (arith, common_steps, is)

end-at : (text : List ℕ) (at byte : ℕ) → at < length text → slice_index text at ≡ byte
    → IsEnd text (byte ∷ drop (at + 1) text)
end-at text at byte within is = (take at text, grind (arith, common_steps, begins-at text at byte within is))

pub form-placed : (text : List ℕ) (at : ℕ) (fault : AstFault) → at < length text
    → slice_index text at ≡ dollar → AgreesErr no_memory fault (end_of_form text at)
    → fault ≢ no_memory → StandsIn text fault
form-placed text at fault within is (inl want) some = absurd (some want)
form-placed text at fault within is (inr told) some =
    end_of_form-placed text at fault (end-at text at dollar within is) told

split-of : (before middle rest : List ℕ)
    → (slice_range (before ++ (middle ++ rest)) (length before) (length before + length middle)
    ≡ middle)
    × (drop (length before + length middle) (before ++ (middle ++ rest)) ≡ rest)
split-of before middle rest =
    let count : length before + length middle - length before ≡ length middle = omega arith in (
      rw (count, drop-append_seam before (middle ++ rest)) (take-append_seam middle rest),
      drop-append-add before (middle ++ rest) (length middle) ∙ drop-append_seam middle rest,
    )

form-of : (before rest : List ℕ) (form : Part) → FitsPart max_open Whole form rest
    → IsForm (before ++ (spell_part form ++ rest)) (length before)
    (length (before ++ (spell_part form ++ rest)) - length rest)
form-of before rest form fits =
    let middle = spell_part form in
    let end : length (before ++ (middle ++ rest)) - length rest ≡ length before + length middle =
    omega (arith, length-append before (middle ++ rest), length-append middle rest) in
    let split = split-of before middle rest in
    rw end (form, split.0, rw split.1 fits)

-- what is read behind a `$` is a form
pub form-at : (text rest : List ℕ) (at : ℕ) (form : Part) → at < length text
    → slice_index text at ≡ dollar → form_at (length text) (drop (at + 1) text) ≡ Ok (form, rest)
    → IsForm text at (length text - length rest)
form-at text rest at form within is read =
    let bytes = drop (at + 1) text in
    let holds = dollar_at-spelled max_open (ref_at (length text) max_open)
    (ref_at-spelled (length text) max_open) Whole bytes refl in
    let here : DollarOf max_open Whole bytes form rest = rw read at holds in
    let before = take at text in
    let parted = before ++ (spell_part form ++ rest) in
    let all : parted ≡ text =
    ap (λ s. before ++ s) (sym (begins-at text at dollar within is ∙ here.0.0))
    ∙ take-append-drop at text in
    let place : length before ≡ at = grind (arith, common_steps, within) in
    subst (λ t. IsForm t at (length t - length rest)) all
    (subst (λ n. IsForm parted n (length parted - length rest)) place
    (form-of before rest form here.1))
