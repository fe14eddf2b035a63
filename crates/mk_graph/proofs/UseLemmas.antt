-- Targets with what they take of macros, one after the other.
use Rattle.std.proofs.Common.{◌≡◌, ℕ, suc, ◌+◌, ◌<◌, Bool, true, false, ◌||◌, List, []}
use Rattle.std.proofs.Common.{◌∷◌, ◌++◌, length, get_or, set, map, take, drop, take-append-drop}
use Rattle.std.proofs.Common.{Option, Some, None, is_some, refl, sym, ap, ◌∙◌, drop-cons}
use Rattle.std.proofs.Common.{add-one, append_assoc}
use Rattle.std.proofs.lemmas.Bool.{cond_both, or_parts, and_parts, not-true}
use Rattle.std.proofs.lemmas.List.{get_or_read, get_or_default, map-append, set-get_or}
use Rattle.std.proofs.lemmas.List.{append-nil}
use Rattle.std.proofs.lemmas.List.Edits.{map_over_more}
use Rattle.std.specs.List.{list_any}
use Rattle.mk_graph.specs.Macros.{macro_of, macros_of, macro_at, parted, sources_parted}
use Rattle.mk_graph.specs.Marks.{is_macro}
use Rattle.mk_graph.specs.Macros.{marks_by, all_marks, with_taken, with_macros}
use Rattle.mk_graph.specs.Marks.{takes_macros}
use Rattle.mk_graph.specs.Numbers.{AreBelow}
use Rattle.mk_graph.specs.Parts.{with_macros_at}
use Rattle.mk_graph.specs.View.{no_links}
use Rattle.mk_graph.specs.declared.attr.Marks.{Marks}
use Rattle.mk_graph.specs.declared.links.Links.{Links}
use Rattle.mk_graph.proofs.PartLemmas.{parted-plain, parted-over}
use Rattle.mk_graph.proofs.PartFitLemmas.{AreBelow-at}
use Rattle.mk_graph.proofs.MacroLemmas.{macro_at-is}

-- no macro was found
none_found : (macro : Option Links) → is_some macro ≡ false → macro ≡ None
none_found None is = refl
none_found (Some links) is = absurd cc

-- sources of which none is a macro are kept, all of them
plain-parted : (room : ℕ) (macros : List (Option Links)) (kept sources : List ℕ)
    → list_any (λ n. is_some (macro_at macros n)) sources ≡ false
    → parted (suc room) macros kept [] sources ≡ record { kept = kept ++ sources; taken = [] }
plain-parted room macros kept [] none =
    parted-over (suc room) macros kept [] ∙ rw (append-nil kept) refl
plain-parted room macros kept (n ∷ more) none =
    let both = or_parts (is_some (macro_at macros n)) _ none in
    parted-plain room macros kept [] n more (none_found (macro_at macros n) both.0)
    ∙ plain-parted room macros (kept ++ n ∷ []) more both.1
    ∙ rw (append_assoc kept (n ∷ []) more) refl

-- so such a target stays as it is
plain-sources : (macros : List (Option Links)) (own : Links)
    → list_any (λ n. is_some (macro_at macros n)) own.sources ≡ false
    → with_taken macros own (sources_parted macros own.sources) ≡ own
plain-sources macros own none = rw (plain-parted (length macros) macros [] own.sources none) refl

-- whether sources have a macro, by the first that is left
macro_some : (links : Links) → is_some (macro_of links) ≡ is_macro links.marks
macro_some links =
    cond_both (is_macro links.marks) (Some links) None (λ o. is_some o ≡ is_macro links.marks)
    (λ macro. sym macro) (λ none. sym none)

pub has_macro-next : (all : List Links) (sources : List ℕ) (k : ℕ) (links : Links) (macro : Bool)
    → k < length sources → AreBelow (length all) sources
    → links ≡ get_or all (get_or sources k 0) links → is_macro links.marks ≡ macro
    → list_any (λ n. is_some (macro_at (macros_of all) n)) (drop k sources)
    ≡ (macro || list_any (λ n. is_some (macro_at (macros_of all) n)) (drop (k + 1) sources))
has_macro-next all sources k links macro within below at is =
    let node = AreBelow-at (length all) sources k within below in
    let here = ap is_some (macro_at-is all (get_or sources k 0) links node at)
    ∙ macro_some links ∙ is in
    rw (drop-cons sources k 0 within, add-one, here) refl

-- a node that stays as it is
stays : (all : List Links) (n : ℕ) (own : Links) → n < length all → own ≡ get_or all n own
    → with_macros (macros_of all) own ≡ own → all ≡ with_macros_at all n
stays all n own within at same =
    let there = get_or_read all n own within at no_links in
    sym (ap (λ links. set all n (with_macros (macros_of all) links)) (sym there)
    ∙ ap (λ links. set all n links) (same ∙ at) ∙ set-get_or all n own)

-- as a target does whose sources have no macro
pub has-none : (all nodes : List Links) (sources : List ℕ) (n : ℕ) (own : Links) (found : Bool)
    → n < length all → own ≡ get_or all n own → takes_macros own.marks ≡ true → nodes ≡ all
    → sources ≡ own.sources
    → found ≡ list_any (λ m. is_some (macro_at (macros_of nodes) m)) sources → found ≡ false
    → all ≡ with_macros_at all n
has-none all nodes sources n own found within at takes is are found_is none =
    let any = rw (is, are) at (sym found_is ∙ none) in
    stays all n own within at (rw takes (plain-sources (macros_of all) own any))

-- what is taken keeps a target a target
kept-by : (macro : Option Links) (own : Marks) → is_macro (marks_by macro own) ≡ is_macro own
kept-by None own = refl
kept-by (Some links) own = refl

marks-kept : (macros : List (Option Links)) (own : Marks) (taken : List ℕ)
    → is_macro (all_marks macros own taken) ≡ is_macro own
marks-kept macros own [] = refl
marks-kept macros own (n ∷ more) =
    marks-kept macros (marks_by (macro_at macros n) own) more ∙ kept-by (macro_at macros n) own

-- a node stays the macro that it is, or none
macro_of-kept : (macros : List (Option Links)) (own : Links)
    → macro_of (with_macros macros own) ≡ macro_of own
macro_of-kept macros own =
    let new = with_taken macros own (sources_parted macros own.sources) in
    cond_both (takes_macros own.marks) new own (λ links. macro_of links ≡ macro_of own)
    (λ takes.
    let is = not-true (is_macro own.marks) (and_parts own.marks.target _ takes).1 in
    let kept = marks-kept macros own.marks (sources_parted macros own.sources).taken ∙ is in
    rw (kept, is) refl)
    (λ none. refl)

-- and so do all
macros-map : (macros : List (Option Links)) (all : List Links)
    → macros_of (map (with_macros macros) all) ≡ macros_of all
macros-map macros [] = refl
macros-map macros (own ∷ all) =
    rw (macro_of-kept macros own) (ap (λ more. macro_of own ∷ more) (macros-map macros all))

-- so the macros stay while targets take them
macros-so_far : (all now : List Links) (n : ℕ)
    → now ≡ map (with_macros (macros_of all)) (take n all) ++ drop n all
    → macros_of now ≡ macros_of all
macros-so_far all now n is =
    rw is (map-append macro_of (map (with_macros (macros_of all)) (take n all)) (drop n all)
    ∙ ap (λ first. first ++ macros_of (drop n all)) (macros-map (macros_of all) (take n all))
    ∙ sym (map-append macro_of (take n all) (drop n all))
    ∙ ap macros_of (take-append-drop n all))

-- one target more has what it takes
pub one-more : (all now new : List Links) (n : ℕ) → n < length all
    → now ≡ map (with_macros (macros_of all)) (take n all) ++ drop n all
    → n < length now → new ≡ with_macros_at now n
    → new ≡ map (with_macros (macros_of all)) (take (n + 1) all) ++ drop (n + 1) all
one-more all now new n within is inside set_is =
    let own = get_or now n no_links in
    let there = get_or_default now n no_links own inside in
    let macros = macros-so_far all now n is in
    set_is ∙ ap (λ m. set now n (with_macros m own)) macros
    ∙ map_over_more (with_macros (macros_of all)) all now n own within is there
