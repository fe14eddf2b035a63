-- One source of a target, and how many are left.
use Rattle.std.proofs.Common.{◌≡◌, ℕ, zero, suc, ◌+◌, ◌-◌, ◌<◌, false, nat_eq, List}
use Rattle.std.proofs.Common.{[], ◌∷◌, ◌++◌, length, get_or, set, drop, Option, Some, None, refl}
use Rattle.std.proofs.Common.{sym, ◌∙◌, subst, arith, length-append, eq-eqb}
use Rattle.std.proofs.lemmas.Bool.{cond_both}
use Rattle.std.proofs.lemmas.List.{get_or_read}
use Rattle.mk_graph.specs.Macros.{macros_of, macro_at, Parted, sources_parted}
use Rattle.mk_graph.specs.Numbers.{AreBelow}
use Rattle.mk_graph.specs.Parts.{State, gone_by, gone, HaveBelow, waiting, IsFit}
use Rattle.mk_graph.specs.declared.links.Links.{Links}
use Rattle.mk_graph.proofs.PartLemmas.{IsPart, IsPart-gone, IsPart-first}
use Rattle.mk_graph.proofs.PartFitLemmas.{AreBelow-at, length-macros, MacrosBelow, macros-below}
use Rattle.mk_graph.proofs.PartFitLemmas.{IsFit-gone}

-- before the first source, by the lists that the code has
pub first_fit : (all : List Links) (stamp : ℕ) (queue kept taken stamps sources : List ℕ)
    → queue ≡ sources → kept ≡ [] → taken ≡ [] → length stamps ≡ length all
    → ((n : ℕ) → get_or stamps n 0 < stamp) → AreBelow (length all) sources
    → IsFit (macros_of all) stamp
    (record { queue = queue; kept = kept; taken = taken; stamps = stamps })
first_fit all stamp queue kept taken stamps sources is none empty as_many fresh below =
    let many = length-macros all in
    rw (is, none, empty) (record {
      as_many = as_many ∙ sym many;
      stamps = λ n. let less = fresh n in omega (arith, less);
      queue = rw many below;
      kept = tt;
      taken = tt;
    })

pub first_part : (all : List Links) (stamp : ℕ) (queue kept taken stamps sources : List ℕ)
    → queue ≡ sources → kept ≡ [] → taken ≡ [] → ((n : ℕ) → get_or stamps n 0 < stamp)
    → IsPart (macros_of all) stamp
    (record { queue = queue; kept = kept; taken = taken; stamps = stamps }) queue
    (sources_parted (macros_of all) sources)
first_part all stamp queue kept taken stamps sources is none empty fresh =
    rw (is, none, empty) (IsPart-first (macros_of all) stamp sources stamps fresh)

-- a macro that is taken waits no more
waiting-set : (stamp : ℕ) (stamps : List ℕ) (macros : List (Option Links)) (n : ℕ)
    (links : Links) → n < length stamps → macro_at macros n ≡ Some links
    → nat_eq (get_or stamps n 0) stamp ≡ false
    → waiting stamp (set stamps n stamp) macros + length links.sources
    ≡ waiting stamp stamps macros
waiting-set stamp [] macros n links within is new = absurd (omega arith)
waiting-set stamp (one ∷ stamps) [] n links within is new = absurd cc
waiting-set stamp (one ∷ stamps) (macro ∷ macros) zero links within is new =
    let itself = eq-eqb stamp stamp refl in rw (itself, new, is) (omega arith)
waiting-set stamp (one ∷ stamps) (macro ∷ macros) (suc n) links within is new =
    let others = waiting-set stamp stamps macros n links (omega arith) is new in
    omega (arith, others)

abbrev pub sources_left : List (Option Links) → ℕ → State → ℕ → ℕ
sources_left macros stamp state place =
    length state.queue - place + waiting stamp state.stamps macros

-- a source less is left
fewer_by : (macros : List (Option Links)) (stamp : ℕ) (state : State) (n place : ℕ)
    (macro : Option Links) → macro_at macros n ≡ macro → place < length state.queue
    → n < length state.stamps
    → sources_left macros stamp (gone_by stamp state n macro) (place + 1)
    < sources_left macros stamp state place
fewer_by macros stamp state n place None is less within = omega arith
fewer_by macros stamp state n place (Some links) is less within =
    let taken : State = record {
      queue = state.queue ++ links.sources;
      kept = state.kept;
      taken = state.taken ++ n ∷ [];
      stamps = set state.stamps n stamp;
    } in
    cond_both (nat_eq (get_or state.stamps n 0) stamp) state taken
    (λ s. sources_left macros stamp s (place + 1) < sources_left macros stamp state place)
    (λ again. omega arith)
    (λ new. omega (
      arith,
      length-append state.queue links.sources,
      waiting-set stamp state.stamps macros n links within is new,
    ))

fewer-sources : (macros : List (Option Links)) (stamp : ℕ) (state : State) (n place : ℕ)
    → place < length state.queue → n < length state.stamps
    → sources_left macros stamp (gone macros stamp state n) (place + 1)
    < sources_left macros stamp state place
fewer-sources macros stamp state n place less within =
    fewer_by macros stamp state n place (macro_at macros n) refl less within

-- a source of the queue is a node
pub node_within : (bound : ℕ) (queue : List ℕ) (place n : ℕ) → place < length queue
    → n ≡ get_or queue place n → AreBelow bound queue → n < bound
node_within bound queue place n less at below =
    rw (get_or_read queue place n less at 0) (AreBelow-at bound queue place less below)

-- a source of the queue that is gone through
pub record IsStep (macros : List (Option Links)) (stamp : ℕ) (state new : State) (place : ℕ)
    (whole : Parted) : Type 0 where
  pub fit : IsFit macros stamp new
  pub parted : IsPart macros stamp new (drop (place + 1) new.queue) whole
  pub fewer : sources_left macros stamp new (place + 1) < sources_left macros stamp state place

pub step_is : (all : List Links) (stamp : ℕ) (state new : State) (place n : ℕ) (whole : Parted)
    → HaveBelow (length all) all → place < length state.queue → n ≡ get_or state.queue place n
    → new ≡ gone (macros_of all) stamp state n → IsFit (macros_of all) stamp state
    → IsPart (macros_of all) stamp state (drop place state.queue) whole
    → IsStep (macros_of all) stamp state new place whole
step_is all stamp state new place n whole below less at is fit part =
    let macros = macros_of all in
    let within = node_within (length macros) state.queue place n less at fit.queue in
    let all_below = subst (λ bound. MacrosBelow bound macros) (sym (length-macros all))
    (macros-below (length all) all below) in
    rw is (record {
      fit = IsFit-gone macros stamp state n all_below within fit;
      parted = IsPart-gone macros stamp state n place whole
          (get_or_read state.queue place n less at 0) less within fit.as_many part;
      fewer = fewer-sources macros stamp state n place less (omega (arith, within, fit.as_many));
    })
