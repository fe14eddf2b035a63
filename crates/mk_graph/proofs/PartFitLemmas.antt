-- What stays as targets go through sources: numbers of nodes alone, and stamps in order.
use Rattle.std.proofs.Common.{◌≡◌, ℕ, zero, suc, ◌<◌, ◌≤◌, nat_eq, List, [], ◌∷◌}
use Rattle.std.proofs.Common.{◌++◌, length, get_or, set, Option, Some, None, is_some, refl, sym}
use Rattle.std.proofs.Common.{ap, ◌∙◌, subst, arith, length-set}
use Rattle.std.proofs.lemmas.Bool.{cond_both}
use Rattle.std.proofs.lemmas.List.{length-map}
use Rattle.mk_graph.specs.Macros.{macro_of, macros_of, macro_at}
use Rattle.mk_graph.specs.Marks.{is_macro}
use Rattle.mk_graph.specs.Numbers.{AreBelow}
use Rattle.mk_graph.specs.Parts.{State, gone_by, gone, HaveBelow, IsFit}
use Rattle.mk_graph.specs.declared.links.Links.{Links}
use Rattle.mk_graph.proofs.BelowLemmas.{AreBelow-append}
use Rattle.mk_graph.proofs.MacroLemmas.{AreMacros-append}

-- numbers in a list are below a bound
AreBelow-both : (bound : ℕ) (nodes others : List ℕ) → AreBelow bound nodes
    → AreBelow bound others → AreBelow bound (nodes ++ others)
AreBelow-both bound [] others first second = second
AreBelow-both bound (n ∷ more) others first second =
    (first.0, AreBelow-both bound more others first.1 second)

-- and so is each one
pub AreBelow-at : (bound : ℕ) (nodes : List ℕ) (k : ℕ) → k < length nodes → AreBelow bound nodes
    → get_or nodes k 0 < bound
AreBelow-at bound [] k within below = absurd (omega arith)
AreBelow-at bound (n ∷ more) zero within below = below.0
AreBelow-at bound (n ∷ more) (suc k) within below =
    AreBelow-at bound more k (omega arith) below.1

-- there is a macro, or none, for each node
pub length-macros : (all : List Links) → length (macros_of all) ≡ length all
length-macros all = length-map all macro_of

-- the sources of each macro are below a bound
abbrev pub MacrosBelow : ℕ → List (Option Links) → Type 0
MacrosBelow bound macros =
    (n : ℕ) (links : Links) → macro_at macros n ≡ Some links → AreBelow bound links.sources

macro_below : (bound : ℕ) (one links : Links) → macro_of one ≡ Some links
    → AreBelow bound one.sources → AreBelow bound links.sources
macro_below bound one links is below =
    cond_both (is_macro one.marks) (Some one) None
    (λ o. o ≡ Some links → AreBelow bound links.sources)
    (λ macro same. let equal : one ≡ links = cc in
    subst (λ (l : Links). AreBelow bound l.sources) equal below)
    (λ none same. absurd cc)
    is

-- where those of all nodes are
pub macros-below : (bound : ℕ) (all : List Links) → HaveBelow bound all
    → MacrosBelow bound (macros_of all)
macros-below bound [] below n links is = absurd cc
macros-below bound (one ∷ all) below zero links is =
    macro_below bound one links is below.0
macros-below bound (one ∷ all) below (suc n) links is =
    macros-below bound all below.2 n links is

-- stamps stay no later than the last
stamps-set : (stamps : List ℕ) (n stamp : ℕ) → ((m : ℕ) → get_or stamps m 0 ≤ stamp)
    → (m : ℕ) → get_or (set stamps n stamp) m 0 ≤ stamp
stamps-set [] n stamp old m = old m
stamps-set (one ∷ stamps) zero stamp old zero = omega arith
stamps-set (one ∷ stamps) zero stamp old (suc m) = old (suc m)
stamps-set (one ∷ stamps) (suc n) stamp old zero = old zero
stamps-set (one ∷ stamps) (suc n) stamp old (suc m) =
    stamps-set stamps n stamp (λ k. old (suc k)) m

-- what stays, by what a source is as a macro
by_macro : (macros : List (Option Links)) (stamp : ℕ) (state : State) (n : ℕ)
    (macro : Option Links) → macro_at macros n ≡ macro → MacrosBelow (length macros) macros
    → n < length macros → IsFit macros stamp state
    → IsFit macros stamp (gone_by stamp state n macro)
by_macro macros stamp state n None is below within fit = record {
  as_many = fit.as_many;
  stamps = fit.stamps;
  queue = fit.queue;
  kept = AreBelow-append (length macros) n state.kept fit.kept within;
  taken = fit.taken;
}
by_macro macros stamp state n (Some links) is below within fit =
    let taken : State = record {
      queue = state.queue ++ links.sources;
      kept = state.kept;
      taken = state.taken ++ n ∷ [];
      stamps = set state.stamps n stamp;
    } in
    cond_both (nat_eq (get_or state.stamps n 0) stamp) state taken
    (λ s. IsFit macros stamp s)
    (λ again. fit)
    (λ new. record {
      as_many = length-set state.stamps n stamp ∙ fit.as_many;
      stamps = stamps-set state.stamps n stamp fit.stamps;
      queue = AreBelow-both (length macros) state.queue links.sources fit.queue
          (below n links is);
      kept = fit.kept;
      taken = AreMacros-append macros state.taken n fit.taken (ap is_some is);
    })

-- what stays as a source is gone through
pub IsFit-gone : (macros : List (Option Links)) (stamp : ℕ) (state : State) (n : ℕ)
    → MacrosBelow (length macros) macros → n < length macros → IsFit macros stamp state
    → IsFit macros stamp (gone macros stamp state n)
IsFit-gone macros stamp state n below within fit =
    by_macro macros stamp state n (macro_at macros n) refl below within fit

-- what each node has is below a bound
pub HaveBelow-at : (bound : ℕ) (all : List Links) (n : ℕ) (links : Links) → n < length all
    → links ≡ get_or all n links → HaveBelow bound all
    → AreBelow bound links.sources × AreBelow bound links.ordered
HaveBelow-at bound [] n links within at below = absurd (omega arith)
HaveBelow-at bound (one ∷ all) zero links within at below =
    subst (λ (l : Links). AreBelow bound l.sources × AreBelow bound l.ordered) (sym at)
    (below.0, below.1)
HaveBelow-at bound (one ∷ all) (suc n) links within at below =
    HaveBelow-at bound all n links (omega arith) at below.2

-- and so where one of them is changed
pub HaveBelow-set : (bound : ℕ) (all : List Links) (n : ℕ) (links : Links) → HaveBelow bound all
    → AreBelow bound links.sources → AreBelow bound links.ordered
    → HaveBelow bound (set all n links)
HaveBelow-set bound [] n links below sources ordered = tt
HaveBelow-set bound (one ∷ all) zero links below sources ordered = (sources, ordered, below.2)
HaveBelow-set bound (one ∷ all) (suc n) links below sources ordered =
    (below.0, below.1, HaveBelow-set bound all n links below.2 sources ordered)

-- each stays within a bound
pub own_below : (all nodes : List Links) (sources : List ℕ) (n : ℕ) (own : Links)
    → n < length all → own ≡ get_or all n own → HaveBelow (length all) all → nodes ≡ all
    → sources ≡ own.sources → AreBelow (length nodes) sources
own_below all nodes sources n own within at below is are =
    rw (is, are) (HaveBelow-at (length all) all n own within at below).0
